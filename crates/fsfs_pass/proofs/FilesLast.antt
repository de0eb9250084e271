-- What a call leaves of the files that last, and of those that no turn touches.
use Rattle.std.proofs.Common.{◌≡◌, ℕ, List, ⊎_elim, refl, sym, ap, subst, ◌∙◌, true, false}
use Rattle.std.specs.Prelude.{Some, Bool}
use Rattle.fsfs_layout.specs.declared.layout.Layout.{Layout}
use Rattle.fsfs_disk.specs.Trace.{Trace, files_now}
use Rattle.fsfs_disk.specs.Trace as real
use Rattle.fsfs_disk.specs.Labels.{Label}
use Rattle.fsfs_turn.specs.Stands.{OwnFilesLast}
use Rattle.fsfs_turn.specs.declared.since.Since.{Since}
use Rattle.fsfs_turn.proofs.OwnFiles.{SparesOwn, IsNotOwn, own_last}
use Rattle.fsfs_pass.specs.Met.{Lasts}
use Rattle.fsfs_pass.proofs.Following.{lasts_same}
use Rattle.fsfs_pass.proofs.Lasting.{IsPassingChange, Remains, FloorRises, lasts_of, remains_behind, remains_failed, remains_torn}
use Rattle.fsfs_pass.specs.SeatCalls.Made.{Made, Dropped}

some_is : (a b : Trace) → Some a ≡ Some b → a ≡ b
some_is a b e = cc

module _ (layout : Layout) (n : ℕ) (t new : Trace) where
  made_remains : (failed : Bool) (change : real.NameChange) → IsPassingChange layout n (files_now t) change → Made failed change (Some t) (Some new) → Remains layout n (files_now t) (files_now new)
  made_remains false change p made = remains_behind layout n t new change p made
  made_remains true (real.Put name bytes) p made = remains_torn layout n t new name bytes p made
  made_remains true (real.Adopt name bytes) p made = remains_failed layout n t new (real.Adopt name bytes) p made
  made_remains true (real.Rename from to) p made = remains_failed layout n t new (real.Rename from to) p made
  made_remains true (real.Remove name) p made = remains_failed layout n t new (real.Remove name) p made
  made_remains true real.FirmNames p made = remains_failed layout n t new real.FirmNames p made
  made_remains true (real.KeepLabel l) p made = remains_failed layout n t new (real.KeepLabel l) p made
  made_remains true (real.DropLabel l) p made = remains_failed layout n t new (real.DropLabel l) p made

  pub made_lasts : (failed : Bool) (change : real.NameChange) → IsPassingChange layout n (files_now t) change → FloorRises layout (files_now t) (files_now new) → Made failed change (Some t) (Some new) → Lasts layout n (files_now t) (files_now new)
  made_lasts failed change p floor made = lasts_of layout n (files_now t) (files_now new) (made_remains failed change p made) floor

  -- no file changes as a label goes
  lasts_as : (z : Trace) → Some new ≡ Some z → files_now z ≡ files_now t → Lasts layout n (files_now t) (files_now new)
  lasts_as z is same = subst (λ m. Lasts layout n (files_now t) m) (sym (ap (λ x. files_now x) (some_is new z is) ∙ same)) (lasts_same layout n (files_now t))

  pub dropped_lasts : (failed : Bool) (l : Label) → Dropped failed l (Some t) (Some new) → Lasts layout n (files_now t) (files_now new)
  dropped_lasts false l d = by_there d.0 d.1
    where
      by_there : (there : Bool) → real.PerformsIfThere there (real.DropLabel l) (Some t) (Some new) → Lasts layout n (files_now t) (files_now new)
      by_there true done = lasts_as (real.add_operation (real.Done (real.DropLabel l)) t) done refl
      by_there false same = lasts_as t same refl
  dropped_lasts true l d = ⊎_elim (λ same. lasts_as t same refl)
      (λ more. ⊎_elim (λ tried. lasts_as (real.add_operation (real.Attempted (real.DropLabel l)) t) tried refl) (λ done. lasts_as (real.add_operation (real.Done (real.DropLabel l)) t) done refl) more) d

-- ---- the files that no turn touches

-- they are in their formats in each image of each moment then, where they were before
abbrev pub OwnStays : Layout → Since → Trace → Trace → Type 0
OwnStays layout since t new = OwnFilesLast layout since (Some t) → OwnFilesLast layout since (Some new)

module _ (layout : Layout) (since : Since) (t new : Trace) where
  own_behind : (change : real.NameChange) → SparesOwn since.packs change → real.Performs change (Some t) (Some new) → OwnStays layout since t new
  own_behind change spares done own = subst (λ z. OwnFilesLast layout since (Some z)) (sym (some_is new (real.add_operation (real.Done change) t) done)) (own_last layout since t (real.Done change) spares own)

  own_tried : (change : real.NameChange) → SparesOwn since.packs change → real.Attempts change (Some t) (Some new) → OwnStays layout since t new
  own_tried change spares tried own = subst (λ z. OwnFilesLast layout since (Some z)) (sym (some_is new (real.add_operation (real.Attempted change) t) tried)) (own_last layout since t (real.Attempted change) spares own)

  own_unmoved : Some new ≡ Some t → OwnStays layout since t new
  own_unmoved same own = subst (λ z. OwnFilesLast layout since (Some z)) (sym (some_is new t same)) own

  own_failed : (change : real.NameChange) → SparesOwn since.packs change → real.FailsAt change (Some t) (Some new) → OwnStays layout since t new
  own_failed change spares failed = ⊎_elim (λ same. own_unmoved same) (λ more. ⊎_elim (λ tried. own_tried change spares tried) (λ done. own_behind change spares done) more) failed

  own_torn : (name bytes : List ℕ) → IsNotOwn since.packs name → real.FailsToPut name bytes (Some t) (Some new) → OwnStays layout since t new
  own_torn name bytes spares failed = ⊎_elim (λ same. own_unmoved same)
      (λ more. ⊎_elim (λ tried. own_tried (real.Put name bytes) spares tried) (λ (torn : (any : List ℕ) × real.Performs (real.Put name any) (Some t) (Some new)). own_behind (real.Put name torn.0) spares torn.1) more) failed

  pub made_own : (failed : Bool) (change : real.NameChange) → SparesOwn since.packs change → Made failed change (Some t) (Some new) → OwnStays layout since t new
  made_own false change spares made = own_behind change spares made
  made_own true (real.Put name bytes) spares made = own_torn name bytes spares made
  made_own true (real.Adopt name bytes) spares made = own_failed (real.Adopt name bytes) spares made
  made_own true (real.Rename from to) spares made = own_failed (real.Rename from to) spares made
  made_own true (real.Remove name) spares made = own_failed (real.Remove name) spares made
  made_own true real.FirmNames spares made = own_failed real.FirmNames spares made
  made_own true (real.KeepLabel l) spares made = own_failed (real.KeepLabel l) spares made
  made_own true (real.DropLabel l) spares made = own_failed (real.DropLabel l) spares made

  pub dropped_own : (failed : Bool) (l : Label) → Dropped failed l (Some t) (Some new) → OwnStays layout since t new
  dropped_own false l d = by_there d.0 d.1
    where
      by_there : (there : Bool) → real.PerformsIfThere there (real.DropLabel l) (Some t) (Some new) → OwnStays layout since t new
      by_there true done = own_behind (real.DropLabel l) tt done
      by_there false same = own_unmoved same
  dropped_own true l d = own_failed (real.DropLabel l) tt d
