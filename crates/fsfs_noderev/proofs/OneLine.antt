-- No value of a field has an end of a line: each stands on one line.
use Rattle.std.proofs.Common.{ℕ, List, length, Some, None, refl, sym, subst, arith}
use Rattle.fsfs_base.specs.Grammar.Cuts.{Lacks, IsCutOf}
use Rattle.fsfs_base.proofs.CutLemmas.{two_lack}
use Rattle.fsfs_base.proofs.Spelling.{plain_lacks}
use Rattle.fsfs_base.specs.Fields.Digests.{IsDigestText}
use Rattle.fsfs_base.specs.Fields.TxnNames.{IsTxnName}
use Rattle.fsfs_base.proofs.RevNumTexts.{rev_text_lacks}
use Rattle.fsfs_base.proofs.PathTextLemmas.{path_text_line}
use Rattle.fsfs_base.specs.declared.kind.Kind.TheVariants as kinds
use Rattle.fsfs_base.specs.Fields.RevNums.{IsRev}
use Rattle.fsfs_noderev.specs.Ids.{IsB36, IsNumber64, id_value}
use Rattle.fsfs_noderev.specs.Reps.{IsRevOrNone, IsMarked, IsUnique, AreDigests, IsRep, AreContents, contents_value}
use Rattle.fsfs_noderev.specs.Reps as reps
use Rattle.fsfs_noderev.specs.Fields.{IsIdText, IsKindText, AreContentsText, IsPathText, IsSourceText, IsRootText, IsYes}
use Rattle.fsfs_noderev.proofs.IdTexts.{id_lacks}
use Rattle.fsfs_noderev.proofs.RepTexts.{digest_lacks}

-- no text of G has an end of a line
abbrev pub OneLine : {X : Type 0} → (List ℕ → X → Type 0) → Type 0
OneLine {X} G = (text : List ℕ) (x : X) → G text x → Lacks 10 text

rev_line : OneLine IsRev
rev_line = rev_text_lacks 10 (omega arith)

pub number_line : OneLine IsNumber64
number_line = plain_lacks 10 18446744073709551615 10 (omega arith)

b36_line : OneLine IsB36
b36_line = plain_lacks 36 170581728179578208255 10 (omega arith)

txn_line : OneLine IsTxnName
txn_line = two_lack 10 45 IsRev IsB36 refl rev_line b36_line

pub id_line : OneLine IsIdText
id_line text id w = id_lacks 10 (record { above = omega arith; underscore = refl; dash = refl; dot = refl; slash = refl; r = refl; t = refl }) text (id_value id) w

pub kind_line : OneLine IsKindText
kind_line text kinds.File w = subst (λ (t : List ℕ). Lacks 10 t) (sym w) (refl, (refl, (refl, (refl, tt))))
kind_line text kinds.Dir w = subst (λ (t : List ℕ). Lacks 10 t) (sym w) (refl, (refl, (refl, tt)))

rev_or_none_line : OneLine IsRevOrNone
rev_or_none_line text None w = subst (λ (t : List ℕ). Lacks 10 t) (sym w) (refl, (refl, tt))
rev_or_none_line text (Some rev) w = rev_line text rev w

digest_line : (n : ℕ) → OneLine (IsDigestText n)
digest_line n = digest_lacks n 10 refl

marked_line : OneLine IsMarked
marked_line text n w = subst (λ (t : List ℕ). Lacks 10 t) (sym w.2) (refl, b36_line w.0 n w.1)

unique_line : OneLine IsUnique
unique_line text u w = two_lack 10 32 (IsDigestText 20) (IsCutOf 47 IsTxnName IsMarked) refl (digest_line 20) (two_lack 10 47 IsTxnName IsMarked refl txn_line marked_line) text (u.sha1, ((u.base, u.txn), u.number)) w

digests_line : OneLine AreDigests
digests_line text (md5, None) w = digest_line 16 text md5 w
digests_line text (md5, Some u) w = two_lack 10 32 (IsDigestText 16) IsUnique refl (digest_line 16) unique_line text (md5, u) w

rep_line : OneLine IsRep
rep_line text r w =
    let one : OneLine (IsCutOf 32 IsNumber64 AreDigests) = two_lack 10 32 IsNumber64 AreDigests refl number_line digests_line in
    let two : OneLine (IsCutOf 32 IsNumber64 (IsCutOf 32 IsNumber64 AreDigests)) = two_lack 10 32 IsNumber64 (IsCutOf 32 IsNumber64 AreDigests) refl number_line one in
    let three : OneLine (IsCutOf 32 IsNumber64 (IsCutOf 32 IsNumber64 (IsCutOf 32 IsNumber64 AreDigests))) = two_lack 10 32 IsNumber64 (IsCutOf 32 IsNumber64 (IsCutOf 32 IsNumber64 AreDigests)) refl number_line two in
    two_lack 10 32 IsRevOrNone (IsCutOf 32 IsNumber64 (IsCutOf 32 IsNumber64 (IsCutOf 32 IsNumber64 AreDigests))) refl rev_or_none_line three text (r.rev, (r.offset, (r.length, (r.size, (r.md5, r.unique))))) w

values_line : OneLine AreContents
values_line text reps.Own w = subst (λ (t : List ℕ). Lacks 10 t) (sym w) (refl, (refl, tt))
values_line text (reps.At r) w = rep_line text r w

pub contents_line : OneLine AreContentsText
contents_line text k w = values_line text (contents_value k) w

pub path_line : OneLine IsPathText
path_line text p w = subst (λ (t : List ℕ). Lacks 10 t) w.text_is (path_text_line p w.path_is)

pub source_line : OneLine IsSourceText
source_line text s w = two_lack 10 32 IsRev IsPathText refl rev_line path_line text (s.rev, s.path) w

pub root_line : OneLine IsRootText
root_line text r w = two_lack 10 32 IsRevOrNone IsPathText refl rev_or_none_line path_line text (r.rev, r.path) w
