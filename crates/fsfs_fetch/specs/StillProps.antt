-- What may be read of the property files on an owned disk stays while it is read.
use Rattle.std.specs.Prelude.{◌≡◌, ℕ, List, Option, Some, None, Result, unwrap_or, refl}
use Rattle.std.proofs.Common.{ap, subst}
use Rattle.fsfs_disk.specs.Trace.{Trace}
use Rattle.fsfs_layout.specs.declared.layout.Layout.{Layout}
use Rattle.fsfs_revision.specs.declared.wrong.Refusal.{Refusal}
use Rattle.fsfs_revision.specs.Told.{Keeps}
use Rattle.fsfs_fetch.specs.declared.manifests.KeptManifest.{KeptManifest}
use Rattle.fsfs_fetch.specs.Kept.{telling}
use Rattle.fsfs_fetch.specs.Owned.{OwnedBelow, owned_view}
use Rattle.fsfs_fetch.specs.Props.{may_read, owned_props}
use Rattle.fsfs_fetch.specs.Views.{DiskState, Ends}

abbrev trace_in : Option DiskState → Option Trace
trace_in None = None
trace_in (Some disk) = disk.trace

pub still_props : (old new : DiskState) (y z : ℕ) (n m : Layout) (floor other : ℕ) (kept others : Option KeptManifest) → Keeps (telling (owned_view old y n) floor kept) (telling (owned_view new z m) other others)
    → (rev : ℕ) (read : Result (List ℕ) Refusal) → may_read (Ends z) (owned_props new.trace m) rev read → may_read (Ends y) (owned_props old.trace n) rev read
unfolding telling
still_props old new y z n m floor other kept others keeps rev read may =
    let youngest : z ≡ y = ap (λ (o : Option ℕ). unwrap_or o 0) (keeps.youngest y refl) in
    let layout : m ≡ n = ap (λ (b : OwnedBelow). b.layout) keeps.below in
    let trace : new.trace ≡ old.trace = ap (λ (b : OwnedBelow). trace_in b.disk) keeps.below in
    subst (λ (t : Option Trace). may_read (Ends y) (owned_props t n) rev read) trace
    (subst (λ (l : Layout). may_read (Ends y) (owned_props new.trace l) rev read) layout (subst (λ (k : ℕ). may_read (Ends k) (owned_props new.trace m) rev read) youngest may))
