-- What the pieces of a text come to, and what stands in the files.
use Rattle.std.proofs.Common.{◌≡◌, ◌≤◌, ℕ, List, [], ◌++◌, length, Option, Some, None, refl, sym, ap, subst, ◌∙◌, append-nil, inl, inr, arith}
use Rattle.std.specs.Prelude.{option_map, Err, IfSome}
use Rattle.std.proofs.lemmas.List.{length-append}
use Rattle.md5.specs.Md5.{md5}
use Rattle.fsfs_base.specs.Counts.{Rose}
use Rattle.fsfs_base.specs.Files.{Files}
use Rattle.fsfs_base.proofs.FileLemmas.{remove-insert_same}
use Rattle.fsfs_disk.specs.Benches.{appended, bytes_in, with_file, Spoils}
use Rattle.fsfs_disk.proofs.BenchLemmas.{insert_again}
use Rattle.fsfs_base.specs.declared.fields.digest.HexDigest.{HexDigest}
use Rattle.fsfs_txn_files.specs.declared.proto_rev.text_error.TheConstants.{MAX_TEXT}
use Rattle.fsfs_txn_files.specs.declared.proto_rev.text_error.TextError.{TextError}
use Rattle.fsfs_txn_files.specs.declared.proto_rev.text_error.TextError.TheVariants.{SourceFault, TextTooLong, Checksum, BenchFault}
use Rattle.fsfs_txn_files.specs.ProtoRev.Causes.{IfSource, IfBench}
use Rattle.fsfs_txn_files.specs.ProtoRev.Sources.{GivesFront, GivesAll, IsRefusedPiece}
use Rattle.fsfs_txn_files.specs.ProtoRev.Texts.{IsRefusedText, IsLeft, IsChecked}
use Rattle.fsfs_txn_files.proofs.SourceLemmas.{front_more}

-- ---- the files

-- a file with bytes at its end, then spoiled, is spoiled
pub spoiled_after : (old mid new : Option Files) (name a : List ℕ) → mid ≡ option_map (appended name a) old → Spoils name mid new → Spoils name old new
spoiled_after old mid new name a first (inl same) = by old (same ∙ first)
  where
    by : (o : Option Files) → new ≡ option_map (appended name a) o → Spoils name o new
    by None e = inl e
    by (Some m) e = inr (Some (bytes_in m name ++ a), e)
spoiled_after old mid new name a first (inr w) = inr (w.0, w.1 ∙ ap (λ (o : Option Files). option_map (with_file name w.0) o) first ∙ by w.0 old)
  where
    again : (any : Option (List ℕ)) (m : Files) → with_file name any (appended name a m) ≡ with_file name any m
    again None m = remove-insert_same m name (bytes_in m name ++ a)
    again (Some bytes) m = insert_again m name (bytes_in m name ++ a) bytes

    by : (any : Option (List ℕ)) (o : Option Files) → option_map (with_file name any) (option_map (appended name a) o) ≡ option_map (with_file name any) o
    by any None = refl
    by any (Some m) = ap (λ (f : Files). Some f) (again any m)

pub left_bench : (old new : Option Files) (name : List ℕ) (e : TextError) → e ≡ BenchFault → Spoils name old new → IsLeft old new name e
left_bench old new name e is h = subst (λ (x : TextError). IsLeft old new name x) (sym is) h

-- the source or the text was refused: what was added stays
pub left_more : (from to : Option (List ℕ)) (taken : ℕ) (old new : Option Files) (name more : List ℕ) (e : TextError) → IsRefusedPiece from to taken e → new ≡ option_map (appended name more) old → IsLeft old new name e
left_more from to taken old new name more SourceFault h files = (more, files)
left_more from to taken old new name more TextTooLong h files = (more, files)
left_more from to taken old new name more (Checksum kept found) h files = absurd h
left_more from to taken old new name more BenchFault h files = absurd h

-- ---- the source

pub refused_bench : (from to : Option (List ℕ)) (expect : Option (HexDigest 16)) (text : List ℕ) (e : TextError) → e ≡ BenchFault → GivesFront from to text → length text ≤ MAX_TEXT → IsRefusedText from to expect e
refused_bench from to expect text e is given short = subst (λ (x : TextError). IsRefusedText from to expect x) (sym is) (text, given, short)

-- a piece behind what was given
pub refused_piece : (from mid to : Option (List ℕ)) (text : List ℕ) (taken : ℕ) (e : TextError) → GivesFront from mid text → taken ≡ length text → length text ≤ MAX_TEXT → IsRefusedPiece mid to taken e → IsRefusedText from to None e
refused_piece from mid to text taken SourceFault given is short h =
    (text ++ [], front_more from mid to text [] given h, subst (λ (t : List ℕ). length t ≤ MAX_TEXT) (sym (append-nil text)) short)
refused_piece from mid to text taken TextTooLong given is short h = (text ++ h.0, front_more from mid to text h.0 given h.1, omega (arith, length-append text h.0, is, h.2))
refused_piece from mid to text taken (Checksum kept found) given is short h = absurd h
refused_piece from mid to text taken BenchFault given is short h = absurd h

pub checked : (expect : Option (HexDigest 16)) (found : HexDigest 16) (text : List ℕ) → IfSome expect (λ kept. kept.bytes ≡ found.bytes) → found.bytes ≡ md5 text → IfSome expect (λ kept. kept.bytes ≡ md5 text)
checked None found text h is = tt
checked (Some kept) found text h is = h ∙ is

-- ---- counts

pub bench_later : (e : TextError) (before mid now : ℕ) → before ≤ mid → IfBench e (Rose mid now) → IfBench e (Rose before now)
bench_later BenchFault before mid now le rose = omega (arith, le, rose)
bench_later TextTooLong before mid now le rose = tt
bench_later (Checksum kept found) before mid now le rose = tt
bench_later SourceFault before mid now le rose = tt

-- the bench did not fail, the source did not
pub no_bench : (from to : Option (List ℕ)) (taken : ℕ) (e : TextError) (P : Type 0) → IsRefusedPiece from to taken e → IfBench e P
no_bench from to taken SourceFault P h = tt
no_bench from to taken TextTooLong P h = tt
no_bench from to taken (Checksum kept found) P h = tt
no_bench from to taken BenchFault P h = absurd h

pub no_source : (e : TextError) (P : Type 0) → e ≡ BenchFault → IfSource e P
no_source e P is = subst (λ (x : TextError). IfSource x P) (sym is) tt
