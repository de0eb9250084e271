-- What a step answers is true: bytes and properties are those of the history, names were given, and what was purged is gone.
use Rattle.std.proofs.Common.{◌≡◌, ◌⊎◌, ◌<◌, ◌≤◌, ◌+◌, ℕ, suc, zero, List, [], ◌∷◌, ◌++◌, length, Bool, true, false, cond, inl, inr, ⊎_elim, refl, sym, ap, subst, ◌∙◌, arith}
use Rattle.std.specs.Prelude.{Option, Some, None, IfSome, slice_get, nat_lt, nat_le, ◌&&◌, ◌||◌}
use Rattle.fsfs_machine.specs.declared.contents.FileName.TheVariants.{Floor, Rev, Props}
use Rattle.fsfs_machine.specs.declared.contents.Contents.{Contents}
use Rattle.fsfs_machine.specs.declared.contents.Contents.TheVariants.{PropsFile}
use Rattle.fsfs_machine.specs.declared.machine.Recorded.{Recorded}
use Rattle.fsfs_machine.specs.declared.machine.Txn.{Txn}
use Rattle.fsfs_machine.specs.declared.machine.Coming.{Coming}
use Rattle.fsfs_base.specs.declared.places.place.DiskPlace.TheVariants.{Read}
use Rattle.fsfs_base.specs.declared.places.place.DiskPlace.TheVariants as place
use Rattle.fsfs_machine.specs.declared.machine.Pass.{Pass}
use Rattle.fsfs_machine.specs.declared.machine.Section.TheVariants.{Begun, CountRead, CountPut, CountRenamed, RevPut, PropsPut, RevFirm, CurrentPut, CurrentRenamed, CurrentFirm, Doubtful, PackPut, ManifestPut, PackFirm, FloorPut, FloorRenamed, Packed, FloorDoubtful, Over}
use Rattle.fsfs_machine.specs.declared.machine.Lock.{Lock}
use Rattle.fsfs_machine.specs.declared.machine.Lock.TheVariants.{Free, Held, Stuck, Down, DownDoubtful, StuckFloor, DownFloor}
use Rattle.fsfs_machine.specs.declared.machine.Went.{Went}
use Rattle.fsfs_machine.specs.declared.machine.Went.TheVariants.{Fine, Before, After, Torn}
use Rattle.fsfs_machine.specs.declared.machine.Outcome.TheVariants as outcome
use Rattle.fsfs_machine.specs.declared.machine.Step.{Step}
use Rattle.fsfs_machine.specs.declared.machine.Step.TheVariants as step
use Rattle.fsfs_machine.specs.Disk.{Disk, found, is_gone, packed, shown}
use Rattle.fsfs_machine.specs.Machine.{World, Did, did, barred, either, answer, unlabelled, is_outside, purged, purged_spent, listed, label_dropped, recorded, is_up, file_of, is_known, range_of, turned, has_read, properties_in, has_read_props, number_of, floor_of, floor_read, is_there, Happens}
use Rattle.fsfs_machine.specs.Kept.{HasAll, StandsForEither, Stands, HasPack, IsLeft, FloorBy, most_floor, may_rise, IsSeen, AreSeen, Kept, IsIn, GivesBytes, GivesFloor, GivesProps, GivesNames, IsPurged, Gives}
use Rattle.fsfs_machine.proofs.Images.{read_is_image}
use Rattle.fsfs_machine.proofs.Given.{gone}
use Rattle.fsfs_machine.proofs.KeptParts.{not_so}
use Rattle.fsfs_machine.proofs.Standing.{shown_above, shown_below, pack_shows}

pub some_at : (h : List Recorded) (n : ℕ) → n < length h → (x : Recorded) × (slice_get h n ≡ Some x)
some_at [] n less = absurd (omega (arith, less))
some_at (y ∷ ys) zero less = (y, refl)
some_at (y ∷ ys) (suc n) less = some_at ys n (omega (arith, less))

pub seen_of : (n l f : ℕ) (xs : List Pass) (p : ℕ) (x : Pass) → AreSeen n l f xs → slice_get xs p ≡ Some x → IsSeen n l f x
seen_of n l f [] p x s e = let g : None ≡ Some x = e in absurd cc
seen_of n l f (y ∷ ys) zero x s e = let g : y ≡ x = (let h : Some y ≡ Some x = e in cc) in subst (λ z. IsSeen n l f z) g s.0
seen_of n l f (y ∷ ys) (suc p) x s e = seen_of n l f ys p x s.1 e

-- whatever is under way, an image has each revision's files
get_before : (h : List Recorded) (y : Recorded) (r : ℕ) (x : Recorded) → slice_get h r ≡ Some x → slice_get (h ++ y ∷ []) r ≡ Some x
get_before [] y r x e = let f : None ≡ Some x = e in absurd cc
get_before (z ∷ h) y zero x e = e
get_before (z ∷ h) y (suc r) x e = get_before h y r x e

either_all : (size f : ℕ) (m : Disk) (h : List Recorded) (x : Coming) → StandsForEither size f m h x → HasAll size f m h
either_all size f m h x s = ⊎_elim (λ a. a.0) (λ b r y e. b.0 r y (get_before h (recorded x) r y e)) s

pub has_all : (size f : ℕ) (h : List Recorded) (lock : Lock) (m : Disk) → Stands size f h lock m → HasAll size f m h
has_all size f h Free m s = s.0
has_all size f h (Stuck place x) m s = either_all size f m h x s.0
has_all size f h Down m s = s.0
has_all size f h (DownDoubtful x) m s = either_all size f m h x s
has_all size f h (Held p Begun) m s = s.0
has_all size f h (Held p (CountRead x)) m s = s.0
has_all size f h (Held p (CountPut x)) m s = s.0
has_all size f h (Held p (CountRenamed x)) m s = s.0
has_all size f h (Held p (RevPut x)) m s = s.0
has_all size f h (Held p (PropsPut x)) m s = s.0
has_all size f h (Held p (RevFirm x)) m s = s.0.0
has_all size f h (Held p (CurrentPut x)) m s = s.0.0
has_all size f h (Held p (CurrentRenamed x)) m s = either_all size f m h x s.0
has_all size f h (Held p (CurrentFirm x)) m s = either_all size f m h x (inr s)
has_all size f h (Held p (Doubtful place x)) m s = either_all size f m h x s.0
has_all size f h (Held p Over) m s = s.0
has_all size f h (Held p PackPut) m s = s.0
has_all size f h (Held p ManifestPut) m s = s.0
has_all size f h (Held p PackFirm) m s = s.0.0
has_all size f h (Held p FloorPut) m s = s.0.0
has_all size f h (Held p FloorRenamed) m s = s.0.0
has_all size f h (Held p (FloorDoubtful place)) m s = s.0.0
has_all size f h (Held p Packed) m s = s.0
has_all size f h (StuckFloor place) m s = s.0.0
has_all size f h DownFloor m s = s.0.0

-- what a pass knows of is in the history
known_less : (n l f r : ℕ) (x : Pass) → IsSeen n l f x → is_known x r ≡ true → r < n
known_less n l f r x s e = let a : x.seen ≤ n = s.seen in let b : x.least < n = s.least in by_case (nat_lt r x.seen) refl
  where
    by_case : (b : Bool) → nat_lt r x.seen ≡ b → r < n
    by_case true is = let less : r < x.seen = grind (arith, is) in omega (arith, less, s.seen)
    by_case false is =
        let f : nat_le r x.least ≡ true = subst (λ b. (b || nat_le r x.least) ≡ true) is e in
        let le : r ≤ x.least = grind (arith, f) in omega (arith, le, s.least)

-- where the floor may rise, an image has the pack of the shard at it
pub rising_pack : (size f : ℕ) (h : List Recorded) (lock : Lock) (m : Disk) → may_rise lock ≡ true → Stands size f h lock m → HasPack size f m h
rising_pack size f h (Held p FloorRenamed) m u s = s.1
rising_pack size f h (Held p (FloorDoubtful place)) m u s = s.1
rising_pack size f h (StuckFloor place) m u s = s.1
rising_pack size f h DownFloor m u s = s.1
rising_pack size f h (Held p s') m u s = not_so u
rising_pack size f h lock m u s = not_so u

-- A revision that was read by a floor that a pass may have.
module _ (w : World) (k : Kept w) (r : ℕ) (x : Pass) (seen : IsSeen (length w.history) w.low (most_floor (may_rise w.lock) w.size w.floor) x) (is : Recorded) (at : slice_get w.history r ≡ Some is) where
  stands_now : Stands w.size w.floor w.history w.lock w.disk
  stands_now = k.stands w.disk (read_is_image w.disk)

  file_now : shown w.size w.floor w.disk r ≡ Some (file_of is)
  file_now = (has_all w.size w.floor w.history w.lock w.disk stands_now r is at).0

  -- in its pack
  packed_now : r < x.floor → packed w.size w.disk r ≡ Some (file_of is)
  packed_now less = by_floor (nat_lt r w.floor) refl
    where
      by_rise : (b : Bool) → may_rise w.lock ≡ b → w.floor ≤ r → packed w.size w.disk r ≡ Some (file_of is)
      by_rise true u le =
          let top : most_floor (may_rise w.lock) w.size w.floor ≡ w.floor + w.size = ap (λ b. most_floor b w.size w.floor) u in
          pack_shows w.size w.floor k.floor.shards w.disk w.history r is k.floor.some k.floor.whole (rising_pack w.size w.floor w.history w.lock w.disk u stands_now) le (omega (arith, less, seen.floor, top)) at
      by_rise false u le = let top : most_floor (may_rise w.lock) w.size w.floor ≡ w.floor = ap (λ b. most_floor b w.size w.floor) u in absurd (omega (arith, less, seen.floor, top, le))

      by_floor : (b : Bool) → nat_lt r w.floor ≡ b → packed w.size w.disk r ≡ Some (file_of is)
      by_floor true low = let below : r < w.floor = grind (arith, low) in sym (shown_below w.size w.floor w.disk r below) ∙ file_now
      by_floor false low = let le : w.floor ≤ r = grind (arith, low) in by_rise (may_rise w.lock) refl le

  -- its own, or it is packed
  own_now : x.floor ≤ r → (found w.disk (Rev r) ≡ Some (file_of is)) ⊎ ((r < w.floor) × IsLeft (is_gone w.disk (Rev r)) (found w.disk (Rev r)) is)
  own_now from = by_floor (nat_lt r w.floor) refl
    where
      by_floor : (b : Bool) → nat_lt r w.floor ≡ b → (found w.disk (Rev r) ≡ Some (file_of is)) ⊎ ((r < w.floor) × IsLeft (is_gone w.disk (Rev r)) (found w.disk (Rev r)) is)
      by_floor true low = let below : r < w.floor = grind (arith, low) in inr (below, k.left w.disk (read_is_image w.disk) r is at (omega (arith, from, seen.least_floor)))
      by_floor false low = let le : w.floor ≤ r = grind (arith, low) in inl (sym (shown_above w.size w.floor w.disk r le) ∙ file_now)

  gives_file : (offset size : ℕ) (o : Option Contents) → o ≡ Some (file_of is) → GivesBytes w.history w.floor (Some x) r offset size (range_of offset size o)
  gives_file offset size o e = subst (λ z. GivesBytes w.history w.floor (Some x) r offset size (range_of offset size z)) (sym e) (is, at, refl)

  gives_left : (offset size : ℕ) (gone : Bool) (o : Option Contents) → IsLeft gone o is → x.floor ≤ r → r < w.floor → GivesBytes w.history w.floor (Some x) r offset size (range_of offset size o)
  gives_left offset size gone None l le less = (le, less)
  gives_left offset size gone (Some c) l le less = gives_file offset size (Some c) (ap (λ z. Some z) l)

  pub gives_range : (offset size : ℕ) → GivesBytes w.history w.floor (Some x) r offset size (range_of offset size (shown w.size x.floor w.disk r))
  gives_range offset size = by_floor (nat_lt r x.floor) refl
    where
      by_floor : (b : Bool) → nat_lt r x.floor ≡ b → GivesBytes w.history w.floor (Some x) r offset size (range_of offset size (shown w.size x.floor w.disk r))
      by_floor true low = let less : r < x.floor = grind (arith, low) in gives_file offset size (shown w.size x.floor w.disk r) (shown_below w.size x.floor w.disk r less ∙ packed_now less)
      by_floor false low =
          let le : x.floor ≤ r = grind (arith, low) in
          let own : shown w.size x.floor w.disk r ≡ found w.disk (Rev r) = shown_above w.size x.floor w.disk r le in
          ⊎_elim (λ e. gives_file offset size (shown w.size x.floor w.disk r) (own ∙ e))
          (λ l. subst (λ o. GivesBytes w.history w.floor (Some x) r offset size (range_of offset size o)) (sym own) (gives_left offset size (is_gone w.disk (Rev r)) (found w.disk (Rev r)) l.1 le l.0)) (own_now le)

read_gives : (w : World) (p r offset size : ℕ) (went : Went) (o : Option Pass) → slice_get w.passes p ≡ o → Kept w → GivesBytes w.history w.floor o r offset size (has_read w p r offset size went o).outcome
read_gives w p r offset size went None is k = tt
read_gives w p r offset size went (Some x) is k = elim (is_known x r) as (λ b. is_known x r ≡ b → GivesBytes w.history w.floor (Some x) r offset size (cond b (did (turned w p Read went) (either went (range_of offset size (shown w.size x.floor w.disk r)) outcome.Failed)) (barred w)).outcome) [
  | true ↦ λ e. by_end went (known_less (length w.history) w.low (most_floor (may_rise w.lock) w.size w.floor) r x seen e)
  | false ↦ λ e. tt
] refl
  where
    seen : IsSeen (length w.history) w.low (most_floor (may_rise w.lock) w.size w.floor) x
    seen = seen_of (length w.history) w.low (most_floor (may_rise w.lock) w.size w.floor) w.passes p x k.seen is

    by_end : (went : Went) → r < length w.history → GivesBytes w.history w.floor (Some x) r offset size (either went (range_of offset size (shown w.size x.floor w.disk r)) outcome.Failed)
    by_end Fine less = let at = some_at w.history r less in gives_range w k r x seen at.0 at.1 offset size
    by_end Before less = tt
    by_end After less = tt
    by_end (Torn any) less = tt

-- the floor that is read
floor_shown : (size f : ℕ) (b : Bool) (d : Disk) → FloorBy b size f d → GivesFloor f (floor_of (number_of (found d Floor)))
floor_shown size f true d k = ⊎_elim (λ e. subst (λ o. GivesFloor f (floor_of (number_of o))) (sym e) (let le : f ≤ f = omega arith in le)) (λ e. subst (λ o. GivesFloor f (floor_of (number_of o))) (sym e) (let le : f ≤ f + size = omega arith in le)) k
floor_shown size f false d e = subst (λ o. GivesFloor f (floor_of (number_of o))) (sym e) (let le : f ≤ f = omega arith in le)

floor_gives : (w : World) (p : ℕ) (went : Went) (o : Option Pass) → Kept w → GivesFloor w.floor (floor_read w p went o).outcome
floor_gives w p went None k = tt
floor_gives w p Fine (Some x) k = floor_shown w.size w.floor (may_rise w.lock) w.disk (k.floors w.disk (read_is_image w.disk))
floor_gives w p Before (Some x) k = tt
floor_gives w p After (Some x) k = tt
floor_gives w p (Torn any) (Some x) k = tt

props_give : (w : World) (p r : ℕ) (went : Went) (o : Option Pass) → slice_get w.passes p ≡ o → Kept w → GivesProps w.history r (has_read_props w p r went o).outcome
props_give w p r went None is k = tt
props_give w p r went (Some x) is k = elim (is_known x r) as (λ b. is_known x r ≡ b → GivesProps w.history r (cond b (did (turned w p Read went) (either went (properties_in (found w.disk (Props r))) outcome.Failed)) (barred w)).outcome) [
  | true ↦ λ e. by_end went (known_less (length w.history) w.low (most_floor (may_rise w.lock) w.size w.floor) r x (seen_of (length w.history) w.low (most_floor (may_rise w.lock) w.size w.floor) w.passes p x k.seen is) e)
  | false ↦ λ e. tt
] refl
  where
    by_end : (went : Went) → r < length w.history → GivesProps w.history r (either went (properties_in (found w.disk (Props r))) outcome.Failed)
    by_end Fine less =
        let at = some_at w.history r less in
        let file : found w.disk (Props r) ≡ Some (PropsFile at.0.revision.properties) = (has_all w.size w.floor w.history w.lock w.disk (k.stands w.disk (read_is_image w.disk)) r at.0 at.1).1 in
        subst (λ o. GivesProps w.history r (properties_in o)) (sym file) (at.0, at.1, refl)
    by_end Before less = tt
    by_end After less = tt
    by_end (Torn any) less = tt

names_given : (w : World) (went : Went) → Kept w → GivesNames w.given (listed w went)
names_given w Fine k = k.labels
names_given w Before k = tt
names_given w After k = tt
names_given w (Torn any) k = tt

-- what a purge leaves
purge_gives : (w v : World) (went : Went) (name : ℕ) → v.labels ≡ unlabelled went name w.labels → IsPurged name (did v (answer went))
purge_gives w v Fine name is = λ e i. gone name w.labels (subst (λ l. IsIn name l) is i)
purge_gives w v Before name is = λ e i. let f : outcome.Failed ≡ outcome.Done = e in absurd cc
purge_gives w v After name is = λ e i. let f : outcome.Failed ≡ outcome.Done = e in absurd cc
purge_gives w v (Torn any) name is = λ e i. let f : outcome.Failed ≡ outcome.Done = e in absurd cc

-- where it was barred, it says that nothing was done
barred_purges : (w : World) (name : ℕ) → IsPurged name (barred w)
barred_purges w name = λ e i. let f : outcome.Barred ≡ outcome.Done = e in absurd cc

if_purges : (w : World) (b : Bool) (name : ℕ) (d : Did) → IsPurged name d → IsPurged name (cond b d (barred w))
if_purges w true name d g = g
if_purges w false name d g = barred_purges w name

txn_purges : (w : World) (p t : ℕ) (went : Went) (b : Bool) (o : Option Txn) → IfSome o (λ x. IsPurged x.name (cond b (purged w p t went o) (barred w)))
txn_purges w p t went b None = tt
txn_purges w p t went b (Some x) = if_purges w b x.name (purged w p t went (Some x)) (purge_gives w (purged w p t went (Some x)).world went x.name refl)

spent_purges : (w : World) (p n : ℕ) (went : Went) (b : Bool) (o : Option ℕ) → IfSome o (λ name. IsPurged name (cond b (purged_spent w p n went o) (barred w)))
spent_purges w p n went b None = tt
spent_purges w p n went b (Some name) = if_purges w b name (purged_spent w p n went (Some name)) (purge_gives w (purged_spent w p n went (Some name)).world went name refl)

drop_purges : (w : World) (name : ℕ) (went : Went) (b : Bool) → IsPurged name (cond b (barred w) (label_dropped w name went))
drop_purges w name went true = barred_purges w name
drop_purges w name Fine false = λ e i. gone name w.labels i
drop_purges w name Before false = λ e i. let f : outcome.Failed ≡ outcome.Done = e in absurd cc
drop_purges w name After false = λ e i. let f : outcome.Failed ≡ outcome.Done = e in absurd cc
drop_purges w name (Torn any) false = λ e i. let f : outcome.Failed ≡ outcome.Done = e in absurd cc

txns_listed : (w : World) (p : ℕ) (went : Went) (b : Bool) → Kept w → GivesNames w.given (cond b (did (turned w p place.List went) (listed w went)) (barred w)).outcome
txns_listed w p went true k = names_given w went k
txns_listed w p went false k = tt

labels_listed : (w : World) (went : Went) (b : Bool) → Kept w → GivesNames w.given (cond b (barred w) (did w (listed w went))).outcome
labels_listed w went true k = tt
labels_listed w went false k = names_given w went k

pub gives : (w : World) (s : Step) (d : Did) → Happens w s d → Kept w → Gives w s d
gives w (step.Read p r offset size went) d is k = subst (λ z. GivesBytes w.history w.floor (slice_get w.passes p) r offset size z.outcome) (sym is) (read_gives w p r offset size went (slice_get w.passes p) refl k)
gives w (step.ReadFloor p went) d is k = subst (λ z. GivesFloor w.floor z.outcome) (sym is) (floor_gives w p went (slice_get w.passes p) k)
gives w (step.ReadProps p r went) d is k = subst (λ z. GivesProps w.history r z.outcome) (sym is) (props_give w p r went (slice_get w.passes p) refl k)
gives w (step.ListTxns p went) d is k = subst (λ z. GivesNames w.given z.outcome) (sym is) (txns_listed w p went (is_there w p) k)
gives w (step.ListLabels went) d is k = subst (λ z. GivesNames w.given z.outcome) (sym is) (labels_listed w went (is_up w.lock) k)
gives w (step.Purge p t went) d is k = subst (λ z. IfSome (slice_get w.txns t) (λ x. IsPurged x.name z)) (sym is) (txn_purges w p t went (is_there w p && is_outside p w.lock) (slice_get w.txns t))
gives w (step.PurgeSpent p n went) d is k = subst (λ z. IfSome (slice_get w.spent n) (λ name. IsPurged name z)) (sym is) (spent_purges w p n went (is_there w p && is_outside p w.lock) (slice_get w.spent n))
gives w (step.DropLabel name went) d is k = subst (λ z. IsPurged name z) (sym is) (drop_purges w name went (is_up w.lock))
gives w s d is k = tt
