-- What the calls of a pass leave of the labels.
use Rattle.std.proofs.Common.{◌≡◌, ◌<◌, ℕ, List, [], ◌∷◌, ◌++◌, true, false, ⊎_elim, inl, inr, refl, sym, ap, subst, ◌∙◌}
use Rattle.std.specs.Prelude.{◌&&◌, ◌||◌, not, Bool, Option, Some, None, is_some}
use Rattle.fsfs_disk.specs.Labels.{Label, Txn as TxnLabel, Pack, HotCopy, same_label, has_label}
use Rattle.fsfs_disk.specs.Trace.{Trace, labels_now, relabelled}
use Rattle.fsfs_disk.specs.Trace as real
use Rattle.fsfs_disk.proofs.LabelLemmas.{same_label-same, has-with_label, has-without_label}
use Rattle.fsfs_machine.specs.Kept.{AllBelow, IsIn}
use Rattle.fsfs_pass.specs.OtherLabels.{IsAboveAll, KeepsOthers, KeepsOthersOf, AreAbove}
use Rattle.fsfs_pass.specs.SeatCalls.Made.{Made, Dropped}

-- ---- names

below_one : (j k : ℕ) (given : List ℕ) → AllBelow k given → IsIn j given → j < k
below_one j k [] below i = absurd i
below_one j k (g ∷ given) below (inl same) = subst (λ n. n < k) same below.0
below_one j k (g ∷ given) below (inr more) = below_one j k given below.1 more

-- what is above all names is above some of them
pub below_some : (k : ℕ) (given names : List ℕ) → AllBelow k given → ((j : ℕ) → IsIn j names → IsIn j given) → AllBelow k names
below_some k given [] below all = tt
below_some k given (n ∷ names) below all = (below_one n k given below (all n (inl refl)), below_some k given names below (λ j i. all j (inr i)))

-- of two lists
pub above_both : (names given more : List ℕ) → AreAbove names given → AreAbove names more → AreAbove names (given ++ more)
above_both names [] more f g k i = g k i
above_both names (x ∷ given) more f g k (inl same) = f k (inl same)
above_both names (x ∷ given) more f g k (inr i) = above_both names given more (λ j h. f j (inr h)) g k i

-- ---- a call

-- the label is that of a transaction of one of these names; or of a pack, where passes may pack
abbrev pub IsOfOne : Bool → List ℕ → Label → Type 0
IsOfOne packs given (TxnLabel base name) = IsIn name given
IsOfOne packs given (Pack shard) = packs ≡ true
IsOfOne packs given HotCopy = ⊥

-- the labels stay, but for those
abbrev pub OthersStay : Bool → List ℕ → Trace → Trace → Type 0
OthersStay packs given old new = (l : Label) → (IsOfOne packs given l → ⊥) → has_label l (labels_now new) ≡ has_label l (labels_now old)

-- the change makes or drops no other
abbrev pub IsByNames : Bool → List ℕ → real.NameChange → Type 0
IsByNames packs given (real.KeepLabel l) = IsOfOne packs given l
IsByNames packs given (real.DropLabel l) = IsOfOne packs given l
IsByNames packs given change = Unit {0}

false_from : (b : Bool) → (b ≡ true → ⊥) → b ≡ false
false_from true never = absurd (never refl)
false_from false never = refl

some_is : (a b : Trace) → Some a ≡ Some b → a ≡ b
some_is a b e = cc

module _ (packs : Bool) (given : List ℕ) where
  apart : (k l : Label) → IsOfOne packs given k → (IsOfOne packs given l → ⊥) → same_label k l ≡ false
  apart k l its other = false_from (same_label k l) (λ e. other (subst (λ (x : Label). IsOfOne packs given x) (same_label-same k l e) its))

  relabels : (change : real.NameChange) (ls : List Label) → IsByNames packs given change → (l : Label) → (IsOfOne packs given l → ⊥) → has_label l (relabelled change ls) ≡ has_label l ls
  relabels (real.KeepLabel k) ls its l other = has-with_label k l ls ∙ ap (λ b. b || has_label l ls) (apart k l its other)
  relabels (real.DropLabel k) ls its l other = has-without_label k l ls ∙ ap (λ b. not b && has_label l ls) (apart k l its other)
  relabels (real.Put name bytes) ls its l other = refl
  relabels (real.Adopt name bytes) ls its l other = refl
  relabels (real.Rename from to) ls its l other = refl
  relabels (real.Remove name) ls its l other = refl
  relabels real.FirmNames ls its l other = refl

  module _ (t new : Trace) where
    stay_behind : (change : real.NameChange) → IsByNames packs given change → real.Performs change (Some t) (Some new) → OthersStay packs given t new
    stay_behind change its done = subst (λ z. OthersStay packs given t z) (sym (some_is new (real.add_operation (real.Done change) t) done)) (relabels change (labels_now t) its)

    stay_tried : (change : real.NameChange) → real.Attempts change (Some t) (Some new) → OthersStay packs given t new
    stay_tried change tried = subst (λ z. OthersStay packs given t z) (sym (some_is new (real.add_operation (real.Attempted change) t) tried)) (λ l other. refl)

    stay_unmoved : Some new ≡ Some t → OthersStay packs given t new
    stay_unmoved same = subst (λ z. OthersStay packs given t z) (sym (some_is new t same)) (λ l other. refl)

    stay_failed : (change : real.NameChange) → IsByNames packs given change → real.FailsAt change (Some t) (Some new) → OthersStay packs given t new
    stay_failed change its failed = ⊎_elim (λ same. stay_unmoved same) (λ more. ⊎_elim (λ tried. stay_tried change tried) (λ done. stay_behind change its done) more) failed

    stay_torn : (name bytes : List ℕ) → real.FailsToPut name bytes (Some t) (Some new) → OthersStay packs given t new
    stay_torn name bytes failed = ⊎_elim (λ same. stay_unmoved same)
        (λ more. ⊎_elim (λ tried. stay_tried (real.Put name bytes) tried) (λ (torn : (any : List ℕ) × real.Performs (real.Put name any) (Some t) (Some new)). stay_behind (real.Put name torn.0) tt torn.1) more) failed

    pub made_stay : (failed : Bool) (change : real.NameChange) → IsByNames packs given change → Made failed change (Some t) (Some new) → OthersStay packs given t new
    made_stay false change its made = stay_behind change its made
    made_stay true (real.Put name bytes) its made = stay_torn name bytes made
    made_stay true (real.Adopt name bytes) its made = stay_failed (real.Adopt name bytes) its made
    made_stay true (real.Rename from to) its made = stay_failed (real.Rename from to) its made
    made_stay true (real.Remove name) its made = stay_failed (real.Remove name) its made
    made_stay true real.FirmNames its made = stay_failed real.FirmNames its made
    made_stay true (real.KeepLabel l) its made = stay_failed (real.KeepLabel l) its made
    made_stay true (real.DropLabel l) its made = stay_failed (real.DropLabel l) its made

    pub dropped_stay : (failed : Bool) (l : Label) → IsOfOne packs given l → Dropped failed l (Some t) (Some new) → OthersStay packs given t new
    dropped_stay false l its d = by_there d.0 d.1
      where
        by_there : (there : Bool) → real.PerformsIfThere there (real.DropLabel l) (Some t) (Some new) → OthersStay packs given t new
        by_there true done = stay_behind (real.DropLabel l) its done
        by_there false same = stay_unmoved same
    dropped_stay true l its d = stay_failed (real.DropLabel l) its d

-- ---- one behind another

-- names that were given since are above those that were given before
above_all : (packs : Bool) (names given : List ℕ) → AreAbove names given → (l : Label) → IsOfOne packs given l → IsAboveAll packs names l
above_all packs names given above (TxnLabel base name) its = above name its
above_all packs names given above (Pack shard) its = its
above_all packs names given above HotCopy its = its

-- what a pass with such names leaves
pub stay_keeps : (packs : Bool) (names given : List ℕ) (old new : Trace) → AreAbove names given → OthersStay packs given old new → KeepsOthers packs names (labels_now old) (labels_now new)
stay_keeps packs names given old new above stay l other = stay l (λ its. other (above_all packs names given above l its))

pub keeps_itself : (packs : Bool) (names : List ℕ) (o : Option Trace) → KeepsOthersOf packs names o o
keeps_itself packs names None = tt
keeps_itself packs names (Some t) = λ l other. refl

pub keeps_then : (packs : Bool) (names : List ℕ) (a b c : Option Trace) → is_some c ≡ is_some b → KeepsOthersOf packs names a b → KeepsOthersOf packs names b c → KeepsOthersOf packs names a c
keeps_then packs names None b c same f g = tt
keeps_then packs names (Some a) b None same f g = tt
keeps_then packs names (Some a) None (Some c) same f g = absurd cc
keeps_then packs names (Some a) (Some b) (Some c) same f g = λ l other. g l other ∙ f l other
