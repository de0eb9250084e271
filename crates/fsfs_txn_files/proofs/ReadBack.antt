-- A text that was put is read back.
use Rattle.std.proofs.Common.{◌≡◌, ℕ, List, length, Option, Some, None, sym, subst}
use Rattle.std.specs.Prelude.{Ok, IfSome, option_map}
use Rattle.fsfs_base.specs.Files.{Files}
use Rattle.fsfs_base.specs.declared.fields.digest.HexDigest.{HexDigest}
use Rattle.fsfs_base.specs.declared.fields.txn_name.TxnName.{TxnName}
use Rattle.fsfs_base.specs.declared.grammar.base36.B36.{B36}
use Rattle.fsfs_noderev.specs.declared.rep.Rep.{Rep}
use Rattle.fsfs_revision.specs.Rep.Frames.{RepIn, framed_text}
use Rattle.fsfs_disk.specs.Benches.{appended, bytes_in}
use Rattle.fsfs_disk.proofs.BenchLemmas.{bytes_in-appended}
use Rattle.fsfs_txn_files.specs.ProtoRev.Reps.{IsRepOf}
use Rattle.fsfs_txn_files.specs.ProtoRev.Texts.{IsPut, IsReadBack}
use Rattle.fsfs_txn_files.proofs.Longer.{read}

pub read_back : (old new : Option Files) (from to : Option (List ℕ)) (name : List ℕ) (expect : Option (HexDigest 16)) (txn : TxnName) (number : B36) (rep : Rep) → IsPut old new from to name expect txn number rep → IsReadBack new from to name rep
read_back old new from to name expect txn number rep put = subst (λ (o : Option Files). IsReadBack o from to name rep) (sym put.files) (by old put.offset)
  where
    by : (o : Option Files) → IfSome o (λ m. rep.offset ≡ length (bytes_in m name)) → IsReadBack (option_map (appended name (framed_text put.text)) o) from to name rep
    by None at = tt
    by (Some m) at = (
      put.text,
      put.given,
      subst (λ (bytes : List ℕ). RepIn rep bytes (Ok put.text)) (sym (bytes_in-appended m name (framed_text put.text))) (read rep (bytes_in m name) put.text txn number (subst (λ (n : ℕ). IsRepOf rep n put.text txn number) at put.rep_is)),
    )
