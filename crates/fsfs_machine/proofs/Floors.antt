-- Each image stands for the history by its own floor.
use Rattle.std.proofs.Common.{◌≡◌, ◌⊎◌, ◌≤◌, ◌+◌, ℕ, List, length, Bool, true, false, inl, inr, ⊎_elim, refl}
use Rattle.std.specs.Prelude.{Some, None}
use Rattle.fsfs_machine.specs.declared.machine.Recorded.{Recorded}
use Rattle.fsfs_machine.specs.declared.machine.Section.TheVariants.{Begun, CountRead, CountPut, CountRenamed, RevPut, PropsPut, RevFirm, CurrentPut, CurrentRenamed, CurrentFirm, Doubtful, PackPut, ManifestPut, PackFirm, FloorPut, FloorRenamed, Packed, FloorDoubtful, Over}
use Rattle.fsfs_machine.specs.declared.machine.Lock.{Lock}
use Rattle.fsfs_machine.specs.declared.machine.Lock.TheVariants.{Free, Held, Stuck, Down, DownDoubtful, StuckFloor, DownFloor}
use Rattle.fsfs_machine.specs.Disk.{Disk, IsImage}
use Rattle.fsfs_machine.specs.Machine.{World}
use Rattle.fsfs_machine.specs.Kept.{StandsFor, Stands, FloorIs, FloorBy, may_rise, is_packing, coming, Kept, StandsByItsFloor}
use Rattle.fsfs_machine.proofs.Answering.{rising_pack}
use Rattle.fsfs_machine.proofs.Standing.{floor_rises}

-- where no revision is to come, it stands for the history by the firm floor
by_firm : (size f : ℕ) (h : List Recorded) (lock : Lock) (m : Disk) → coming lock ≡ None → Stands size f h lock m → StandsFor size f m h
by_firm size f h Free m none s = s
by_firm size f h Down m none s = s
by_firm size f h (StuckFloor place) m none s = s.0
by_firm size f h DownFloor m none s = s.0
by_firm size f h (Held p Begun) m none s = s
by_firm size f h (Held p (CountRead x)) m none s = s
by_firm size f h (Held p (CountPut x)) m none s = s
by_firm size f h (Held p (CountRenamed x)) m none s = s
by_firm size f h (Held p PackPut) m none s = s
by_firm size f h (Held p ManifestPut) m none s = s
by_firm size f h (Held p PackFirm) m none s = s.0
by_firm size f h (Held p FloorPut) m none s = s.0
by_firm size f h (Held p FloorRenamed) m none s = s.0
by_firm size f h (Held p (FloorDoubtful place)) m none s = s.0
by_firm size f h (Held p Packed) m none s = s
by_firm size f h (Held p Over) m none s = s
by_firm size f h (Held p (RevPut x)) m none s = let e : Some x ≡ None = none in absurd cc
by_firm size f h (Held p (PropsPut x)) m none s = let e : Some x ≡ None = none in absurd cc
by_firm size f h (Held p (RevFirm x)) m none s = let e : Some x ≡ None = none in absurd cc
by_firm size f h (Held p (CurrentPut x)) m none s = let e : Some x ≡ None = none in absurd cc
by_firm size f h (Held p (CurrentRenamed x)) m none s = let e : Some x ≡ None = none in absurd cc
by_firm size f h (Held p (CurrentFirm x)) m none s = let e : Some x ≡ None = none in absurd cc
by_firm size f h (Held p (Doubtful place x)) m none s = let e : Some x ≡ None = none in absurd cc
by_firm size f h (Stuck place x) m none s = let e : Some x ≡ None = none in absurd cc
by_firm size f h (DownDoubtful x) m none s = let e : Some x ≡ None = none in absurd cc

pub stands_by_its_floor : StandsByItsFloor
stands_by_its_floor w k none m i = by_rise (may_rise w.lock) refl (k.floors m i)
  where
    firm : StandsFor w.size w.floor m w.history
    firm = by_firm w.size w.floor w.history w.lock m none (k.stands m i)

    by_rise : (b : Bool) → may_rise w.lock ≡ b → FloorBy b w.size w.floor m → (f : ℕ) × FloorIs f m × StandsFor w.size f m w.history
    by_rise true u shows = ⊎_elim (λ e. (w.floor, e, firm)) (λ e. (w.floor + w.size, e, floor_rises w.size w.floor k.floor.shards m w.history k.floor.some k.floor.whole (rising_pack w.size w.floor w.history w.lock m u (k.stands m i)) firm)) shows
    by_rise false u shows = (w.floor, shows, firm)

-- where an image may show the next floor, a shard is being packed, and it stands for the history by the firm one
rising_packs : (lock : Lock) → may_rise lock ≡ true → is_packing lock ≡ true
rising_packs (Held p FloorRenamed) u = refl
rising_packs (Held p (FloorDoubtful place)) u = refl
rising_packs (StuckFloor place) u = refl
rising_packs DownFloor u = refl
rising_packs lock u = absurd cc

rising_stands : (size f : ℕ) (h : List Recorded) (lock : Lock) (m : Disk) → may_rise lock ≡ true → Stands size f h lock m → StandsFor size f m h
rising_stands size f h (Held p FloorRenamed) m u s = s.0
rising_stands size f h (Held p (FloorDoubtful place)) m u s = s.0
rising_stands size f h (StuckFloor place) m u s = s.0
rising_stands size f h DownFloor m u s = s.0
rising_stands size f h lock m u s = absurd cc

-- the floor that an image shows: the firm one, or the next, by which it stands for the history too
pub floor_of_image : (w : World) → Kept w → (m : Disk) → IsImage w.disk m
    → FloorIs w.floor m ⊎ (FloorIs (w.floor + w.size) m × StandsFor w.size (w.floor + w.size) m w.history × (w.floor + w.size ≤ length w.history))
floor_of_image w k m i = by_rise (may_rise w.lock) refl (k.floors m i)
  where
    raised : may_rise w.lock ≡ true → StandsFor w.size (w.floor + w.size) m w.history
    raised u = floor_rises w.size w.floor k.floor.shards m w.history k.floor.some k.floor.whole (rising_pack w.size w.floor w.history w.lock m u (k.stands m i)) (rising_stands w.size w.floor w.history w.lock m u (k.stands m i))

    by_rise : (b : Bool) → may_rise w.lock ≡ b → FloorBy b w.size w.floor m
        → FloorIs w.floor m ⊎ (FloorIs (w.floor + w.size) m × StandsFor w.size (w.floor + w.size) m w.history × (w.floor + w.size ≤ length w.history))
    by_rise true u shows = ⊎_elim (λ e. inl e) (λ e. inr (e, raised u, k.floor.next (rising_packs w.lock u))) shows
    by_rise false u shows = inl shows
