-- What may be read of property files as something else may.
use Rattle.std.proofs.Common.{ℕ, zero, suc, ◌+◌, ◌≤◌, ◌<◌, List, inl, inr, arith}
use Rattle.std.specs.Prelude.{Result, Ok, Err}
use Rattle.fsfs_revision.specs.declared.wrong.Refusal.{Refusal}
use Rattle.fsfs_revision.specs.declared.wrong.Wrong.{Wrong}
use Rattle.fsfs_revision.specs.Told.{RevisionBytes}
use Rattle.fsfs_revision.specs.RevProps.{MayRead}
use Rattle.fsfs_look.specs.Revprops.Files.{RevPropsOf}
use Rattle.fsfs_look.specs.Walks.{Then}
use Rattle.fsfs_stands.specs.Texts.{End, Whole}
use Rattle.fsfs_stands.specs.FileTexts.{IsWholeText}
use Rattle.fsfs_dump.specs.Records.{Pairs, dump_head}
use Rattle.fsfs_dump.specs.Texts.{RevisionText, RevisionsText, DumpText}

abbrev pub As : MayRead → MayRead → ℕ → Type 0
As may other rev = (read : Result (List ℕ) Refusal) → may rev read → other rev read

then_as : (R S T U : List ℕ → End → Type 0) → ((text : List ℕ) (end : End) → R text end → T text end) → ((text : List ℕ) (end : End) → S text end → U text end) → (text : List ℕ) (end : End) → Then R S text end → Then T U text end
then_as R S T U f g text end (inl (r, more)) = inl (f text end r, more)
then_as R S T U f g text end (inr (first, rest, r, s, is)) = inr (first, rest, f first Whole r, g rest end s, is)

module _ (may other : MayRead) where
  props_as : (rev : ℕ) → As may other rev → (answer : Result Pairs Wrong) → RevPropsOf may rev answer → RevPropsOf other rev answer
  props_as rev every (Ok pairs) (bytes, m, is) = (bytes, every (Ok bytes) m, is)
  props_as rev every (Err w) (inl (why, m, e)) = inl (why, every (Err why) m, e)
  props_as rev every (Err w) (inr (bytes, m, is)) = inr (bytes, every (Ok bytes) m, is)

  pub revision_as : (look : RevisionBytes) (rev : ℕ) → As may other rev → (text : List ℕ) (end : End) → RevisionText look may rev text end → RevisionText look other rev text end
  revision_as look rev every text end (inl none) = inl none
  revision_as look rev every text end (inr (inl (w, r, none))) = inr (inl (w, props_as rev every (Err w) r, none))
  revision_as look rev every text end (inr (inr (pairs, r, t))) = inr (inr (pairs, props_as rev every (Ok pairs) r, t))

  pub revisions_as : (look : RevisionBytes) (first count : ℕ) → ((r : ℕ) → first ≤ r → r < first + count → As may other r) → (text : List ℕ) (end : End) → RevisionsText look may first count text end → RevisionsText look other first count text end
  revisions_as look first zero every text end h = h
  revisions_as look first (suc count) every text end h =
      then_as (RevisionText look may first) (RevisionsText look may (suc first) count) (RevisionText look other first) (RevisionsText look other (suc first) count)
      (revision_as look first (every first (omega arith) (omega arith)))
      (revisions_as look (suc first) count (λ r low high. every r (omega (arith, low)) (omega (arith, high)))) text end h

  pub dump_as : (look : RevisionBytes) (uuid : List ℕ) (youngest : ℕ) → ((r : ℕ) → r ≤ youngest → As may other r) → (text : List ℕ) (end : End) → DumpText look may uuid youngest text end → DumpText look other uuid youngest text end
  dump_as look uuid youngest every text end h =
      then_as (IsWholeText (dump_head uuid)) (RevisionsText look may 0 (suc youngest)) (IsWholeText (dump_head uuid)) (RevisionsText look other 0 (suc youngest)) (λ t e k. k)
      (revisions_as look 0 (suc youngest) (λ r low high. every r (omega (arith, high)))) text end h
