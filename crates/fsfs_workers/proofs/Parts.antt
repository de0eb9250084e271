-- First parts of a history.
use Rattle.std.proofs.Common.{◌≡◌, ◌<◌, ◌≤◌, ◌+◌, ℕ, List, [], ◌∷◌, ◌++◌, length, take, refl, sym, ap, ◌∙◌, arith}
use Rattle.std.proofs.lemmas.List.{length-take-le}
use Rattle.fsfs_tree.specs.Revisions.{Revision}
use Rattle.fsfs_machine.specs.declared.machine.Recorded.{Recorded}
use Rattle.fsfs_machine.specs.Machine.{revisions}
use Rattle.fsfs_turn.specs.Views.{Begins}
use Rattle.fsfs_turn.proofs.Reading.{begins_on}
use Rattle.fsfs_turn.proofs.Moments.{begins_take}
use Rattle.fsfs_job_run.specs.Workers.Beside.{GoesOnFrom}

-- of two first parts of a history the longer begins with the shorter
both : (a b m n : List Recorded) → a ++ m ≡ b ++ n → length a ≤ length b → Begins b a
both [] b m n e le = (b, refl)
both (x ∷ a) [] m n e le = absurd (omega (arith, le))
both (x ∷ a) (y ∷ b) m n e le =
    let same : x ∷ (a ++ m) ≡ y ∷ (b ++ n) = e in
    let head : y ≡ x = cc in
    let tail : a ++ m ≡ b ++ n = cc in
    let r = both a b m n tail (omega (arith, le)) in
    (r.0, ap (λ (l : List Recorded). y ∷ l) r.1 ∙ ap (λ (z : Recorded). z ∷ (a ++ r.0)) head)

pub parts_of : (h a b : List Recorded) → Begins h a → Begins h b → length a ≤ length b → Begins b a
parts_of h a b p q le = both a b p.0 q.0 (sym p.1 ∙ q.1) le

pub part_length : (n : ℕ) (h : List Recorded) → n < length h → length (take (n + 1) h) ≡ n + 1
part_length n h less = length-take-le (n + 1) h (omega (arith, less))

-- a first part of what was seen is one of each history that goes on from that
pub part_of : (n : ℕ) (seen h : List Recorded) → Begins h seen → Begins h (take n seen)
part_of n seen h b = begins_on (take n seen) seen h (begins_take n seen) b

revisions_append : (a m : List Recorded) → revisions (a ++ m) ≡ revisions a ++ revisions m
revisions_append [] m = refl
revisions_append (x ∷ a) m = ap (λ (l : List Revision). x.revision ∷ l) (revisions_append a m)

pub goes_on_from : (h a : List Recorded) → Begins h a → GoesOnFrom (revisions a) (revisions h)
goes_on_from h a b = (revisions b.0, ap revisions b.1 ∙ revisions_append a b.0)

pub revisions_more : (a : List Recorded) (z : Recorded) → revisions (a ++ z ∷ []) ≡ revisions a ++ z.revision ∷ []
revisions_more a z = revisions_append a (z ∷ [])
