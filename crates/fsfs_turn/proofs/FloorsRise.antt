-- The floor that the disk shows doesn't fall.
use Rattle.std.proofs.Common.{◌≡◌, ◌≤◌, ◌+◌, ◌/◌, ℕ, List, ◌∷◌, length, Bool, true, false, cond, refl, sym, ap, subst, ◌∙◌, arith}
use Rattle.std.specs.Prelude.{Option, Some, None, nat_le}
use Rattle.fsfs_machine.specs.declared.contents.Contents.{Contents}
use Rattle.fsfs_machine.specs.declared.contents.Contents.TheVariants.{Number, PropsFile}
use Rattle.fsfs_machine.specs.declared.contents.FileName.{FileName}
use Rattle.fsfs_machine.specs.declared.contents.FileName.TheVariants.{Counter, CounterNext, Current, CurrentNext, Floor, FloorNext, Props, Pack, Manifest}
use Rattle.fsfs_machine.specs.declared.contents.NameChange.{NameChange}
use Rattle.fsfs_machine.specs.declared.contents.NameChange.TheVariants.{Put, Rename, Remove, Firm}
use Rattle.fsfs_machine.specs.declared.machine.Section.{Section}
use Rattle.fsfs_machine.specs.declared.machine.Section.TheVariants.{Begun, CountRead, CountPut, CountRenamed, RevPut, PropsPut, RevFirm, CurrentPut, CurrentRenamed, CurrentFirm, Doubtful, PackPut, ManifestPut, PackFirm, FloorPut, FloorRenamed, Packed, FloorDoubtful, Over}
use Rattle.fsfs_machine.specs.declared.machine.Lock.TheVariants.{Held}
use Rattle.fsfs_machine.specs.declared.machine.Went.{Went}
use Rattle.fsfs_machine.specs.declared.machine.Went.TheVariants.{Fine, Before, After, Torn}
use Rattle.fsfs_machine.specs.Disk.{Disk, found, same_name}
use Rattle.fsfs_machine.specs.Machine.{World, disk_after, due, rename_of, next_parts, pack_of, manifest_of}
use Rattle.fsfs_machine.specs.Kept.{Kept, FloorIs, FloorBy, KnowsAt, may_rise}
use Rattle.fsfs_machine.proofs.Images.{read_is_image}

-- it is no less then
abbrev pub FloorGrows : Disk → Disk → Type 0
FloorGrows d e = (f : ℕ) → FloorIs f d → (g : ℕ) × FloorIs g e × (f ≤ g)

pub floor_kept : (d e : Disk) → found e Floor ≡ found d Floor → FloorGrows d e
floor_kept d e same f is = (f, same ∙ is, omega arith)

-- a change of other files
abbrev pub IsNotFloor : NameChange → Type 0
IsNotFloor (Put n c) = same_name n Floor ≡ false
IsNotFloor (Rename from to c) = (same_name to Floor ≡ false) × (same_name from Floor ≡ false)
IsNotFloor (Remove n) = same_name n Floor ≡ false
IsNotFloor Firm = Unit {0}

found_put : (n : FileName) (c : Contents) (d : Disk) → same_name n Floor ≡ false → found (Put n c ∷ d) Floor ≡ found d Floor
found_put n c d e = ap (λ b. cond b (Some c) (found d Floor)) e

found_rename : (from to : FileName) (c : Contents) (d : Disk) → same_name to Floor ≡ false → same_name from Floor ≡ false → found (Rename from to c ∷ d) Floor ≡ found d Floor
found_rename from to c d e f = ap (λ b. cond b (Some c) (cond (same_name from Floor) None (found d Floor))) e ∙ ap (λ b. cond b None (found d Floor)) f

pub floor_apart : (change : NameChange) (went : Went) (d : Disk) → IsNotFloor change → found (disk_after went change d) Floor ≡ found d Floor
floor_apart (Put n c) Fine d e = found_put n c d e
floor_apart (Put n c) Before d e = refl
floor_apart (Put n c) After d e = found_put n c d e
floor_apart (Put n c) (Torn any) d e = found_put n any d e
floor_apart (Rename from to c) Fine d e = found_rename from to c d e.0 e.1
floor_apart (Rename from to c) Before d e = refl
floor_apart (Rename from to c) After d e = found_rename from to c d e.0 e.1
floor_apart (Rename from to c) (Torn any) d e = refl
floor_apart (Remove n) Fine d e = ap (λ b. cond b None (found d Floor)) e
floor_apart (Remove n) Before d e = refl
floor_apart (Remove n) After d e = ap (λ b. cond b None (found d Floor)) e
floor_apart (Remove n) (Torn any) d e = refl
floor_apart Firm Fine d e = refl
floor_apart Firm Before d e = refl
floor_apart Firm After d e = refl
floor_apart Firm (Torn any) d e = refl

module _ (d : Disk) (went : Went) where
  beside : (change : NameChange) → IsNotFloor change → FloorGrows d (disk_after went change d)
  beside change apart = floor_kept d (disk_after went change d) (floor_apart change went d apart)

  by_same : (is change : NameChange) → is ≡ change → IsNotFloor is → FloorGrows d (disk_after went change d)
  by_same is change same apart = subst (λ z. FloorGrows d (disk_after went z d)) same (beside is apart)

  by_rename : (from to : FileName) (o : Option Contents) (change : NameChange) → same_name to Floor ≡ false → same_name from Floor ≡ false → rename_of from to o ≡ Some change → FloorGrows d (disk_after went change d)
  by_rename from to None change a b is = absurd cc
  by_rename from to (Some c) change a b is = let same : Rename from to c ≡ change = cc in by_same (Rename from to c) change same (a, b)

  -- a pack's first call, where its shard is full
  by_pack : (full : Bool) (shard : ℕ) (c : Contents) (change : NameChange) → cond full (Some (Put (Pack shard) c)) None ≡ Some change → FloorGrows d (disk_after went change d)
  by_pack false shard c change is = absurd cc
  by_pack true shard c change is = let same : Put (Pack shard) c ≡ change = cc in by_same (Put (Pack shard) c) change same refl

-- the next floor takes the place of the one that the disk shows
risen : (d : Disk) (floor next : ℕ) (went : Went) → FloorIs floor d → floor ≤ next → FloorGrows d (disk_after went (Rename FloorNext Floor (Number next)) d)
risen d floor next went is le f at = by_went went
  where
    same : f ≡ floor
    same = let both : Some (Number f) ≡ Some (Number floor) = sym at ∙ is in cc

    by_went : (went : Went) → (g : ℕ) × FloorIs g (disk_after went (Rename FloorNext Floor (Number next)) d) × (f ≤ g)
    by_went Fine = (next, refl, omega (arith, same, le))
    by_went Before = (f, at, omega arith)
    by_went After = (next, refl, omega (arith, same, le))
    by_went (Torn any) = (f, at, omega arith)

-- a call that is due in the section
pub floor_after : (w : World) (p : ℕ) (s : Section) (change : NameChange) (went : Went) → Kept w → w.lock ≡ Held p s → due w s ≡ Some change → FloorGrows w.disk (disk_after went change w.disk)
floor_after w p Begun change went kept held is = by_pack w.disk went (nat_le (w.floor + w.size) (length w.history)) (w.floor / w.size) (pack_of (next_parts w)) change is
floor_after w p Packed change went kept held is = by_pack w.disk went (nat_le (w.floor + w.size) (length w.history)) (w.floor / w.size) (pack_of (next_parts w)) change is
floor_after w p (CountRead x) change went kept held is = let same : Put CounterNext (Number x.next) ≡ change = cc in by_same w.disk went (Put CounterNext (Number x.next)) change same refl
floor_after w p (CountPut x) change went kept held is = by_rename w.disk went CounterNext Counter (found w.disk CounterNext) change refl refl is
floor_after w p (CountRenamed x) change went kept held is = let same : Firm ≡ change = cc in by_same w.disk went Firm change same tt
floor_after w p (RevPut x) change went kept held is = let same : Put (Props (length w.history)) (PropsFile x.revision.properties) ≡ change = cc in by_same w.disk went (Put (Props (length w.history)) (PropsFile x.revision.properties)) change same refl
floor_after w p (PropsPut x) change went kept held is = let same : Firm ≡ change = cc in by_same w.disk went Firm change same tt
floor_after w p (RevFirm x) change went kept held is = let same : Put CurrentNext (Number (length w.history)) ≡ change = cc in by_same w.disk went (Put CurrentNext (Number (length w.history))) change same refl
floor_after w p (CurrentPut x) change went kept held is = by_rename w.disk went CurrentNext Current (found w.disk CurrentNext) change refl refl is
floor_after w p (CurrentRenamed x) change went kept held is = let same : Firm ≡ change = cc in by_same w.disk went Firm change same tt
floor_after w p (CurrentFirm x) change went kept held is = absurd cc
floor_after w p (Doubtful place x) change went kept held is = absurd cc
floor_after w p PackPut change went kept held is = let same : Put (Manifest (w.floor / w.size)) (manifest_of (next_parts w)) ≡ change = cc in by_same w.disk went (Put (Manifest (w.floor / w.size)) (manifest_of (next_parts w))) change same refl
floor_after w p ManifestPut change went kept held is = let same : Firm ≡ change = cc in by_same w.disk went Firm change same tt
floor_after w p PackFirm change went kept held is = let same : Put FloorNext (Number (w.floor + w.size)) ≡ change = cc in by_same w.disk went (Put FloorNext (Number (w.floor + w.size))) change same refl
floor_after w p FloorPut change went kept held is =
    let next : KnowsAt w.size w.floor w.history w.given (Held p FloorPut) w.disk = subst (λ l. KnowsAt w.size w.floor w.history w.given l w.disk) held kept.knows in
    let due_is : Some (Rename FloorNext Floor (Number (w.floor + w.size))) ≡ Some change = sym (ap (λ o. rename_of FloorNext Floor o) next) ∙ is in
    let same : Rename FloorNext Floor (Number (w.floor + w.size)) ≡ change = cc in
    let now : FloorBy (may_rise (Held p FloorPut)) w.size w.floor w.disk = subst (λ l. FloorBy (may_rise l) w.size w.floor w.disk) held (kept.floors w.disk (read_is_image w.disk)) in
    subst (λ z. FloorGrows w.disk (disk_after went z w.disk)) same (risen w.disk w.floor (w.floor + w.size) went now (omega arith))
floor_after w p FloorRenamed change went kept held is = let same : Firm ≡ change = cc in by_same w.disk went Firm change same tt
floor_after w p (FloorDoubtful place) change went kept held is = absurd cc
floor_after w p Over change went kept held is = absurd cc
