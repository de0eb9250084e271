-- A prototype revision file that got longer, as the folder has it.
use Rattle.std.proofs.Common.{◌≡◌, ◌++◌, ℕ, true, List, [], length, refl, sym, ap, subst}
use Rattle.std.specs.Prelude.{Option, Some, None, is_some, option_map, Result, Ok, Err, IfOk, IfErr, IfSome}
use Rattle.fsfs_base.specs.Files.{Files as BenchFiles}
use Rattle.fsfs_base.specs.declared.fields.txn_name.TxnName.{TxnName}
use Rattle.fsfs_base.specs.declared.fields.digest.HexDigest.{HexDigest}
use Rattle.fsfs_base.specs.declared.grammar.base36.B36.{B36}
use Rattle.fsfs_noderev.specs.declared.rep.Rep.{Rep}
use Rattle.fsfs_noderev.specs.declared.changes.item.ChangeItem.{ChangeItem}
use Rattle.fsfs_revision.specs.Rep.Frames.{RepIn, framed_text}
use Rattle.fsfs_disk.specs.Benches.{appended, bytes_in, bytes_on}
use Rattle.fsfs_disk.proofs.BenchLemmas.{bytes_in-appended}
use Rattle.fsfs_txn_files.specs.declared.proto_rev.text_error.TextError.{TextError}
use Rattle.fsfs_txn_files.specs.declared.proto_rev.text_error.TextError.TheVariants.{SourceFault, TextTooLong, Checksum, BenchFault}
use Rattle.fsfs_txn_files.specs.ProtoRev.Reps.{IsRepOf}
use Rattle.fsfs_txn_files.specs.ProtoRev.Texts.{IsPut, IsLeft}
use Rattle.fsfs_txn_files.proofs.Longer.{read}
use Rattle.fsfs_draft.specs.Steps.{Files}
use Rattle.fsfs_draft.specs.Drafts.{Folder}
use Rattle.fsfs_layout.specs.declared.small_files.next_ids_file.NextIds.{NextIds}
use Rattle.fsfs_txn_nodes.specs.Memory.Views.{folder_of}
use Rattle.fsfs_txn_nodes.specs.Memory.Texts.{AreLonger, IsTextPut, IsTextLeft}

-- the file's bytes; a bench that doesn't tell has none before and none after
proto_longer : (old new : Option BenchFiles) (name more : List ℕ) → new ≡ option_map (appended name more) old → (added : List ℕ) × (bytes_on new name ≡ bytes_on old name ++ added)
proto_longer old new name more is = subst (λ (o : Option BenchFiles). (added : List ℕ) × (bytes_on o name ≡ bytes_on old name ++ added)) (sym is) (by old)
  where
    by : (o : Option BenchFiles) → (added : List ℕ) × (bytes_on (option_map (appended name more) o) name ≡ bytes_on o name ++ added)
    by None = ([], refl)
    by (Some m) = (more, bytes_in-appended m name more)

-- the representation of the text that was put
told_read : (old new : Option BenchFiles) (from to : Option (List ℕ)) (name : List ℕ) (expect : Option (HexDigest 16)) (txn : TxnName) (number : B36) (rep : Rep) → (p : IsPut old new from to name expect txn number rep) → is_some old ≡ true → RepIn rep (bytes_on new name) (Ok p.text)
told_read old new from to name expect txn number rep p told = subst (λ (o : Option BenchFiles). RepIn rep (bytes_on o name) (Ok p.text)) (sym p.files) (by old told p.offset)
  where
    by : (o : Option BenchFiles) → is_some o ≡ true → IfSome o (λ m. rep.offset ≡ length (bytes_in m name)) → RepIn rep (bytes_on (option_map (appended name (framed_text p.text)) o) name) (Ok p.text)
    by None some at = absurd cc
    by (Some m) some at = subst (λ (bytes : List ℕ). RepIn rep bytes (Ok p.text)) (sym (bytes_in-appended m name (framed_text p.text))) (read rep (bytes_in m name) p.text txn number (subst (λ (n : ℕ). IsRepOf rep n p.text txn number) at p.rep_is))

module _ (nodes files : Files) (next drawn : NextIds) (items : List ChangeItem) (old new : Option BenchFiles) (name : List ℕ) where
  are_longer : (more : List ℕ) → bytes_on new name ≡ bytes_on old name ++ more → AreLonger (folder_of nodes next items old name) (folder_of nodes next items new name) (folder_of files drawn items old name) (folder_of files drawn items new name) more
  are_longer more is = (
    ap (λ (t : List ℕ). record (folder_of nodes next items old name) { proto = t }) is,
    ap (λ (t : List ℕ). record (folder_of files drawn items old name) { proto = t }) is,
  )

  pub text_put : (from to : Option (List ℕ)) (expect : Option (HexDigest 16)) (txn : TxnName) (number : B36) (result : Result Rep TextError) → IfOk result (IsPut old new from to name expect txn number)
      → IfOk result (IsTextPut (is_some old) from to expect (folder_of nodes next items old name) (folder_of nodes next items new name) (folder_of files drawn items old name) (folder_of files drawn items new name) txn number)
  text_put from to expect txn number (Err e) p = tt
  text_put from to expect txn number (Ok rep) p =
      let l = proto_longer old new name (framed_text p.text) p.files in
      record {
        text = p.text;
        given = p.given;
        short = p.short;
        expected = p.expected;
        rep_is = p.rep_is;
        more = l.0;
        longer_by = are_longer l.0 l.1;
        read = λ told. told_read old new from to name expect txn number rep p told;
      }

  left_longer : (more : List ℕ) → new ≡ option_map (appended name more) old
      → (added : List ℕ) × AreLonger (folder_of nodes next items old name) (folder_of nodes next items new name) (folder_of files drawn items old name) (folder_of files drawn items new name) added
  left_longer more is = let l = proto_longer old new name more is in (l.0, are_longer l.0 l.1)

  pub text_left : (result : Result Rep TextError) → IfErr result (IsLeft old new name)
      → IfErr result (IsTextLeft (folder_of nodes next items old name) (folder_of nodes next items new name) (folder_of files drawn items old name) (folder_of files drawn items new name))
  text_left (Ok rep) h = tt
  text_left (Err SourceFault) h = left_longer h.0 h.1
  text_left (Err TextTooLong) h = left_longer h.0 h.1
  text_left (Err (Checksum kept found)) h = left_longer h.0 h.1
  text_left (Err BenchFault) h = tt
