-- How what a crash may leave, files and labels at one moment, goes on over a run of disk calls.
use Rattle.std.proofs.Common.{◌≡◌, ◌⊎◌, ℕ, List, [], ◌∷◌, Bool, true, false, inl, inr, ⊎_elim, refl, sym, subst, ◌∙◌, arith}
use Rattle.std.specs.Prelude.{◌||◌, Option, Some, None}
use Rattle.fsfs_base.specs.Files.{Files}
use Rattle.fsfs_disk.specs.Labels.{Label, has_label, same_label, AreLeft}
use Rattle.fsfs_disk.specs.Trace.{Trace, NameChange, KeepLabel, Operation, Done, Attempted, IsImage, ImageSince, change_of, add_operation, labels_after, labels_now, relabelled, FailsAt}
use Rattle.fsfs_disk.specs.Crash.{IsLeftAmid, LeftSince, LeavesBothOnly, LeavesBoth, labels_amid, AreAll, AllLabels, KeepsLabels}
use Rattle.fsfs_disk.proofs.LabelLemmas.{amid_after, left_then, has-append, same_label-same}

-- this moment is one of those since an earlier one
pub left_now : (n : ℕ) (first : Files) (labels : List Label) (operations : List Operation) (m : Files) (ls : List Label)
    → IsImage first operations m → AreLeft (labels_after labels operations) ls → LeftSince n first labels operations m ls
left_now n first labels [] m ls image left = (image, left)
left_now n first labels (operation ∷ operations) m ls image left = inl (image, left)

pub both_none : (t : Trace) (P : Files → List Label → Type 0) → LeavesBothOnly t t P
both_none t P = record { later = omega arith; each = λ n m ls le left. inl left }

pub both_on : (a b c : Trace) (P : Files → List Label → Type 0) → LeavesBothOnly a b P → LeavesBothOnly b c P → LeavesBothOnly a c P
both_on a b c P f g = record {
  later = omega (arith, f.later, g.later);
  each = λ n m ls le left. ⊎_elim (f.each n m ls le) (λ p. inr p) (g.each n m ls (omega (arith, le, f.later)) left);
}

-- an operation more
pub both_operation : (t : Trace) (operation : Operation) (P : Files → List Label → Type 0)
    → ((m : Files) (ls : List Label) → IsLeftAmid (change_of operation) t.first t.labels t.operations m ls → P m ls)
    → LeavesBothOnly t (add_operation operation t) P
both_operation t operation P amid = record {
  later = omega arith;
  each = λ n m ls le at. ⊎_elim (at_once n m ls operation amid) (λ before. ⊎_elim (λ a. inr (amid m ls a)) (λ e. inl e) before.1) at;
}
  where
    at_once : (n : ℕ) (m : Files) (ls : List Label) (s : Operation)
        → ((x : Files) (ks : List Label) → IsLeftAmid (change_of s) t.first t.labels t.operations x ks → P x ks)
        → IsImage t.first (s ∷ t.operations) m × AreLeft (labels_after t.labels (s ∷ t.operations)) ls → LeftSince n t.first t.labels t.operations m ls ⊎ P m ls
    at_once n m ls (Done change) h at = inr (h m ls (inl at.0, left_then (labels_amid change (labels_now t)) (relabelled change (labels_now t)) ls (amid_after change (labels_now t)) at.1))
    at_once n m ls (Attempted change) h at = inl (left_now n t.first t.labels t.operations m ls at.0 at.1)

pub same_both : (old new : Option Trace) (P : Files → List Label → Type 0) → new ≡ old → LeavesBoth old new P
same_both None new P e = tt
same_both (Some t) new P e = subst (λ o. LeavesBoth (Some t) o P) (sym e) (both_none t P)

pub both_then : (a b c : Option Trace) (P : Files → List Label → Type 0) → LeavesBoth a b P → LeavesBoth b c P → LeavesBoth a c P
both_then None b c P f g = tt
both_then (Some t) None c P f g = absurd f
both_then (Some t) (Some u) None P f g = absurd g
both_then (Some t) (Some u) (Some v) P f g = both_on t u v P f g

-- a call that may have failed leaves what has P
pub both_at : (change : NameChange) (P : Files → List Label → Type 0) (old new : Option Trace) → FailsAt change old new
    → ((t : Trace) → old ≡ Some t → (m : Files) (ls : List Label) → IsLeftAmid change t.first t.labels t.operations m ls → P m ls) → LeavesBoth old new P
both_at change P None new at amid = tt
both_at change P (Some t) new at amid =
    ⊎_elim (λ e. same_both (Some t) new P e)
    (λ performed. ⊎_elim (λ e. subst (λ o. LeavesBoth (Some t) o P) (sym e) (both_operation t (Attempted change) P (amid t refl)))
    (λ e. subst (λ o. LeavesBoth (Some t) o P) (sym e) (both_operation t (Done change) P (amid t refl))) performed) at

-- a call keeps what the labels have, where the label that it may make has it too
pub keeps_labels_at : (change : NameChange) (Q : Label → Type 0) (old new : Option Trace) → FailsAt change old new → ((ls : List Label) → AreAll Q ls → AreAll Q (labels_amid change ls)) → KeepsLabels old new Q
keeps_labels_at change Q None new at amid all =
    (⊎_elim (λ e. subst (λ o. AllLabels o Q) (sym e) tt) (λ w. ⊎_elim (λ e. subst (λ o. AllLabels o Q) (sym e) tt) (λ e. subst (λ o. AllLabels o Q) (sym e) tt) w) at, tt)
keeps_labels_at change Q (Some t) new at amid all = (
  ⊎_elim (λ e. subst (λ o. AllLabels o Q) (sym e) all)
      (λ w. ⊎_elim (λ e. subst (λ o. AllLabels o Q) (sym e) all)
      (λ e. subst (λ o. AllLabels o Q) (sym e) (λ l has. amid (labels_now t) all l (amid_after change (labels_now t) l has))) w) at,
  both_at change (λ m ls. AreAll Q ls) (Some t) new at (λ u e m ls left l has. amid (labels_now u) (subst (λ o. AllLabels o Q) e all) l (left.1 l has)),
)

pub keeps_labels_then : (a b c : Option Trace) (Q : Label → Type 0) → KeepsLabels a b Q → KeepsLabels b c Q → KeepsLabels a c Q
keeps_labels_then a b c Q f g all = let x = f all in let y = g x.0 in (y.0, both_then a b c (λ m ls. AreAll Q ls) x.1 y.1)

-- a label that is made has it
pub amid_made : (k : Label) (Q : Label → Type 0) → Q k → (ls : List Label) → AreAll Q ls → AreAll Q (labels_amid (KeepLabel k) ls)
amid_made k Q q ls all l has = by_either (has_label l ls) (same_label k l) (all l) (λ same. subst Q (same_label-same k l same) q) (sym (has-append l ls (k ∷ [])) ∙ has)
  where
    by_either : (a b : Bool) → (a ≡ true → Q l) → (b ≡ true → Q l) → (a || (b || false)) ≡ true → Q l
    by_either true b f g p = f refl
    by_either false true f g p = g refl
    by_either false false f g p = cc

-- a call that makes no label makes none that lacks it
pub amid_same : (change : NameChange) (Q : Label → Type 0) → ((ls : List Label) → labels_amid change ls ≡ ls) → (ls : List Label) → AreAll Q ls → AreAll Q (labels_amid change ls)
amid_same change Q same ls all = subst (λ ks. AreAll Q ks) (sym (same ls)) all

pub both_with : (a b : Option Trace) (P Q : Files → List Label → Type 0) → ((m : Files) (ls : List Label) → P m ls → Q m ls) → LeavesBoth a b P → LeavesBoth a b Q
both_with None b P Q f w = tt
both_with (Some t) None P Q f w = absurd w
both_with (Some t) (Some u) P Q f w = record { later = w.later; each = λ n m ls le since. ⊎_elim (λ before. inl before) (λ p. inr (f m ls p)) (w.each n m ls le since) }
