-- The call that is due, as the machine's change.
use Rattle.std.proofs.Common.{◌≡◌, ◌⊎◌, ◌<◌, ◌≤◌, ◌+◌, ◌/◌, ◌^◌, ℕ, suc, zero, List, [], ◌∷◌, ◌++◌, length, map, take, drop, true, false, cond, ⊎_elim, refl, sym, ap, subst, ◌∙◌, arith}
use Rattle.std.proofs.lemmas.List.{take-append-le}
use Rattle.std.proofs.lemmas.Nat.{div_below}
use Rattle.std.specs.Prelude.{Option, Some, None, OnOk, OnErr, Result, Ok, Err, nat_le}
use Rattle.std.specs.FinMap.{get}
use Rattle.fsfs_base.specs.Files.{Files}
use Rattle.fsfs_layout.specs.Small.{IsRevLine}
use Rattle.fsfs_layout.specs.Layouts.{shard_size}
use Rattle.fsfs_layout.specs.Manifest.{IsManifest}
use Rattle.fsfs_layout.specs.declared.layout.Layout.{Layout}
use Rattle.fsfs_layout.proofs.Manifests.{size_some}
use Rattle.fsfs_disk.specs.Trace.{Trace, Operation, Done, Attempted, add_operation, change_of, files_after, ImageAfter, TornBy, files_now, Performs, StaysAt, FailsAt, FailsToPut}
use Rattle.fsfs_disk.specs.Trace as real
use Rattle.fsfs_machine.specs.declared.contents.FileName.{FileName}
use Rattle.fsfs_machine.specs.declared.contents.FileName.TheVariants.{Current, CurrentNext, Counter, CounterNext, Floor, FloorNext, Props, Pack, Manifest}
use Rattle.fsfs_machine.specs.declared.contents.Contents.{Contents}
use Rattle.fsfs_machine.specs.declared.contents.Contents.TheVariants.{PropsFile, Number, Junk}
use Rattle.fsfs_machine.specs.declared.contents.NameChange.{NameChange}
use Rattle.fsfs_machine.specs.declared.contents.NameChange.TheVariants.{Put, Rename, Firm}
use Rattle.fsfs_base.specs.declared.places.place.DiskPlace.{DiskPlace}
use Rattle.fsfs_base.specs.declared.places.place.DiskPlace.TheVariants.{Begin, Commit}
use Rattle.fsfs_base.specs.declared.places.place.DiskPlace.TheVariants as disk
use Rattle.fsfs_base.specs.declared.places.place.BeginPlace.TheVariants as begin
use Rattle.fsfs_base.specs.declared.places.place.CommitPlace.TheVariants.{PutProps, FirmRev, PutCurrent, RenameCurrent, FirmCurrent}
use Rattle.fsfs_base.specs.declared.places.place.PackPlace.TheVariants as pack
use Rattle.fsfs_machine.specs.declared.machine.Recorded.{Recorded}
use Rattle.fsfs_machine.specs.declared.machine.Section.{Section}
use Rattle.fsfs_machine.specs.declared.machine.Section.TheVariants.{Begun, CountRead, CountPut, CountRenamed, RevPut, PropsPut, RevFirm, CurrentPut, CurrentRenamed, PackPut, ManifestPut, PackFirm, FloorPut, FloorRenamed, Packed}
use Rattle.fsfs_machine.specs.declared.machine.Lock.TheVariants.{Held}
use Rattle.fsfs_machine.specs.declared.machine.Went.{Went}
use Rattle.fsfs_machine.specs.declared.machine.Went.TheVariants.{Fine, Before, After, Torn}
use Rattle.fsfs_machine.specs.Disk.{Disk, found, IsImage}
use Rattle.fsfs_machine.specs.Machine.{World, either, after, spoiled, due, is_due, rename_of, disk_after, part_of, parts_from, starts, pack_of, manifest_of, next_parts, first_of_pack}
use Rattle.fsfs_machine.specs.Kept.{KnowsAt}
use Rattle.fsfs_images.specs.RealNames.{machine_name}
use Rattle.fsfs_images.specs.Shown.{Fits, Reads, AreRead, IsTraceOf, Putting, Adopting, Renaming, Firming, Attempting}
use Rattle.fsfs_turn.specs.Views.{View, coming_at, Sees, with_txns, IsFullShard, shard_parts, IsDue, Called}
use Rattle.fsfs_turn.specs.Past.{doubt_in, doubt, StoodFor, Safe}
pub use Rattle.fsfs_turn.specs.Found.{at_found}
use Rattle.fsfs_turn.specs.Found.{seen_within}
use Rattle.fsfs_turn.specs.Standing.{no_others, IsStore}
use Rattle.fsfs_images.proofs.Showing.{now_read, image_read, torn_read}
use Rattle.fsfs_turn.proofs.Moments.{stood_for, doubt_after, part_due, safe_step, safe_not}
use Rattle.fsfs_turn.proofs.TurnEnds.{IsAfter, Comes}
use Rattle.fsfs_turn.proofs.Stepping.{called_store, call_turns, kept_called, lock_is, take_drop, whole_after}

-- a put that is due
record PutDue (layout : Layout) (w : World) (v : View) (place : DiskPlace) (name bytes : List ℕ) : Type 0 where
  pub section : Section
  pub inside : v.section ≡ Some section
  pub is : is_due section place ≡ true
  pub at : FileName
  pub contents : Contents
  pub change : due w section ≡ Some (Put at contents)
  pub named : name ≡ machine_name layout at
  pub reads : Reads layout at bytes contents
  pub fits : Fits at

put_due : (layout : Layout) (w : World) (v : View) (place : DiskPlace) (name bytes : List ℕ) → v.layout ≡ layout → w.size ≡ shard_size layout → Sees w v → IsDue v place (real.Put name bytes) → PutDue layout w v place name bytes
put_due layout w v (Begin begin.Put) name bytes same size sees d = record { section = CountRead d.0; inside = d.1; is = refl; at = CounterNext; contents = Number d.0.next; change = refl; named = d.2; reads = d.3; fits = tt }
put_due layout w v (Commit PutProps) name bytes same size sees d =
    let all : v.seen ≡ w.history = sees.whole d.0 (ap (λ o. coming_at o) d.1) in
    record {
      section = RevPut d.0;
      inside = d.1;
      is = refl;
      at = Props (length w.history);
      contents = PropsFile d.0.revision.properties;
      change = refl;
      named = d.2 ∙ ap (λ k. machine_name k (Props (length v.seen))) same ∙ ap (λ h. machine_name layout (Props (length h))) all;
      reads = d.3;
      fits = subst (λ h. length h < 2 ^ 32) all d.4;
    }
put_due layout w v (Commit PutCurrent) name bytes same size sees d =
    let all : v.seen ≡ w.history = sees.whole d.0 (ap (λ o. coming_at o) d.1) in
    record { section = RevFirm d.0; inside = d.1; is = refl; at = CurrentNext; contents = Number (length w.history); change = refl; named = d.2; reads = subst (λ h. IsRevLine bytes (length h)) all d.3; fits = tt }
put_due layout w v (disk.Pack pack.PutFloor) name bytes same size sees d =
    let next : w.floor + w.size ≡ d.0 + shard_size v.layout = λ i. sees.firm PackFirm d.0 d.2 d.1 i + (size ∙ sym (ap shard_size same)) i in
    record { section = PackFirm; inside = d.2; is = refl; at = FloorNext; contents = Number (w.floor + w.size); change = refl; named = d.3; reads = subst (λ n. IsRevLine bytes n) (sym next) d.4; fits = tt }
put_due layout w v place name bytes same size sees d = absurd d

-- the first n revisions from the fth on are those of the history, where the pass has seen so many
within : (n f : ℕ) (xs ys : List Recorded) → f + n ≤ length xs → take n (drop f (xs ++ ys)) ≡ take n (drop f xs)
within n zero xs ys le = take-append-le n xs ys (omega (arith, le))
within n (suc f) [] ys le = absurd (omega (arith, le))
within n (suc f) (x ∷ xs) ys le = within n f xs ys (omega (arith, le))

seen_parts : (w : World) (v : View) (n f : ℕ) → Sees w v → f + n ≤ length v.seen → parts_from n f w.history ≡ parts_from n f v.seen
seen_parts w v n f sees le =
    let all : w.history ≡ v.seen ++ drop v.pass.seen w.history = take_drop v.pass.seen w.history ∙ ap (λ l. l ++ drop v.pass.seen w.history) (sym sees.seen) in
    ap (λ h. parts_from n f h) all ∙ ap (λ xs. map part_of xs) (within n f v.seen (drop v.pass.seen w.history) le)

-- an adoption that is due: the machine has a put for it
module _ (layout : Layout) (w : World) (v : View) (same : v.layout ≡ layout) (size : w.size ≡ shard_size layout) (sees : Sees w v) where
  module _ (f : ℕ) (full : IsFullShard v f) (s : Section) (inside : v.section ≡ Some s) where
    size_is : w.size ≡ shard_size v.layout
    size_is = size ∙ sym (ap shard_size same)

    floor_is : w.floor ≡ f
    floor_is = sees.firm s f inside full.firm

    parts_are : next_parts w ≡ shard_parts v f
    parts_are = ap (λ n. parts_from n w.floor w.history) size_is ∙ ap (λ g. parts_from (shard_size v.layout) g w.history) floor_is ∙ seen_parts w v (shard_size v.layout) f sees full.full

    there : nat_le (w.floor + w.size) (length w.history) ≡ true
    there = let le : w.floor + w.size ≤ length w.history = omega (arith, full.full, floor_is, size_is, seen_within w v sees) in grind (arith, le)

    shard_fits : f / shard_size v.layout < 2 ^ 32
    shard_fits = div_below f (shard_size v.layout) (2 ^ 32) (size_some v.layout) (omega (arith, full.fits, size_some v.layout))

    first_is : first_of_pack w ≡ Some (Put (Pack (f / shard_size v.layout)) (pack_of (shard_parts v f)))
    first_is = ap (λ b. cond b (Some (Put (Pack (w.floor / w.size)) (pack_of (next_parts w)))) None) there ∙ (λ i. Some (Put (Pack (floor_is i / size_is i)) (pack_of (parts_are i))))

    second_is : Some (Put (Manifest (w.floor / w.size)) (manifest_of (next_parts w))) ≡ Some (Put (Manifest (f / shard_size v.layout)) (manifest_of (shard_parts v f)))
    second_is = λ i. Some (Put (Manifest (floor_is i / size_is i)) (manifest_of (parts_are i)))

  adopt_due : (place : DiskPlace) (name bytes : List ℕ) → IsDue v place (real.Adopt name bytes) → PutDue layout w v place name bytes
  adopt_due (disk.Pack pack.AdoptPack) name bytes d = ⊎_elim
      (λ (begun : v.section ≡ Some Begun). record { section = Begun; inside = begun; is = refl; at = Pack (d.0 / shard_size v.layout); contents = pack_of (shard_parts v d.0); change = first_is d.0 d.1 Begun begun; named = name_is; reads = d.4; fits = shard_fits d.0 d.1 Begun begun })
      (λ (packed : v.section ≡ Some Packed). record { section = Packed; inside = packed; is = refl; at = Pack (d.0 / shard_size v.layout); contents = pack_of (shard_parts v d.0); change = first_is d.0 d.1 Packed packed; named = name_is; reads = d.4; fits = shard_fits d.0 d.1 Packed packed }) d.2
    where
      name_is : name ≡ machine_name layout (Pack (d.0 / shard_size v.layout))
      name_is = d.3 ∙ ap (λ k. machine_name k (Pack (d.0 / shard_size v.layout))) same
  adopt_due (disk.Pack pack.AdoptManifest) name bytes d = record {
    section = PackPut;
    inside = d.2;
    is = refl;
    at = Manifest (d.0 / shard_size v.layout);
    contents = manifest_of (shard_parts v d.0);
    change = second_is d.0 d.1 PackPut d.2;
    named = d.3 ∙ ap (λ k. machine_name k (Manifest (d.0 / shard_size v.layout))) same;
    reads = subst (λ k. IsManifest (shard_size k) bytes (starts 0 (shard_parts v d.0))) same d.4;
    fits = shard_fits d.0 d.1 PackPut d.2;
  }
  adopt_due (Begin begin.Put) name bytes d = absurd d
  adopt_due (Commit PutProps) name bytes d = absurd d
  adopt_due place name bytes d = absurd d

-- a rename that is due
record RenameDue (layout : Layout) (w : World) (v : View) (place : DiskPlace) (from_name to_name : List ℕ) : Type 0 where
  pub section : Section
  pub inside : v.section ≡ Some section
  pub is : is_due section place ≡ true
  pub from : FileName
  pub to : FileName
  pub number : ℕ
  pub change : due w section ≡ Some (Rename from to (Number number))
  pub there : found w.disk from ≡ Some (Number number)
  pub from_named : from_name ≡ machine_name layout from
  pub to_named : to_name ≡ machine_name layout to
  pub from_fits : Fits from
  pub to_fits : Fits to
  pub same : (bytes : List ℕ) → Reads layout from bytes (Number number) → Reads layout to bytes (Number number)

rename_due : (layout : Layout) (w : World) (v : View) (place : DiskPlace) (from_name to_name : List ℕ) → Sees w v → KnowsAt w.size w.floor w.history w.given w.lock w.disk → IsDue v place (real.Rename from_name to_name) → RenameDue layout w v place from_name to_name
rename_due layout w v (Begin begin.Rename) from_name to_name sees knows d =
    let lock : w.lock ≡ Held v.number (CountPut d.0) = lock_is v.number w.lock (CountPut d.0) (sees.section ∙ d.1) in
    let k : KnowsAt w.size w.floor w.history w.given (Held v.number (CountPut d.0)) w.disk = subst (λ l. KnowsAt w.size w.floor w.history w.given l w.disk) lock knows in
    record { section = CountPut d.0; inside = d.1; is = refl; from = CounterNext; to = Counter; number = d.0.next; change = ap (λ o. rename_of CounterNext Counter o) k.3; there = k.3; from_named = d.2; to_named = d.3; from_fits = tt; to_fits = tt; same = λ bytes r. r }
rename_due layout w v (Commit RenameCurrent) from_name to_name sees knows d =
    let lock : w.lock ≡ Held v.number (CurrentPut d.0) = lock_is v.number w.lock (CurrentPut d.0) (sees.section ∙ d.1) in
    let k : KnowsAt w.size w.floor w.history w.given (Held v.number (CurrentPut d.0)) w.disk = subst (λ l. KnowsAt w.size w.floor w.history w.given l w.disk) lock knows in
    record { section = CurrentPut d.0; inside = d.1; is = refl; from = CurrentNext; to = Current; number = length w.history; change = ap (λ o. rename_of CurrentNext Current o) k; there = k; from_named = d.2; to_named = d.3; from_fits = tt; to_fits = tt; same = λ bytes r. r }
rename_due layout w v (disk.Pack pack.RenameFloor) from_name to_name sees knows d =
    let lock : w.lock ≡ Held v.number FloorPut = lock_is v.number w.lock FloorPut (sees.section ∙ d.0) in
    let k : KnowsAt w.size w.floor w.history w.given (Held v.number FloorPut) w.disk = subst (λ l. KnowsAt w.size w.floor w.history w.given l w.disk) lock knows in
    record { section = FloorPut; inside = d.0; is = refl; from = FloorNext; to = Floor; number = w.floor + w.size; change = ap (λ o. rename_of FloorNext Floor o) k; there = k; from_named = d.1; to_named = d.2; from_fits = tt; to_fits = tt; same = λ bytes r. r }
rename_due layout w v place from_name to_name sees knows d = absurd d

-- a firming that is due
record FirmDue (w : World) (v : View) (place : DiskPlace) : Type 0 where
  pub section : Section
  pub inside : v.section ≡ Some section
  pub is : is_due section place ≡ true
  pub change : due w section ≡ Some Firm

firm_due : (w : World) (v : View) (place : DiskPlace) → IsDue v place real.FirmNames → FirmDue w v place
firm_due w v (Begin begin.Firm) d = record { section = CountRenamed d.0; inside = d.1; is = refl; change = refl }
firm_due w v (Commit FirmRev) d = record { section = PropsPut d.0; inside = d.1; is = refl; change = refl }
firm_due w v (Commit FirmCurrent) d = record { section = CurrentRenamed d.0; inside = d.1; is = refl; change = refl }
firm_due w v (disk.Pack pack.FirmPack) d = record { section = ManifestPut; inside = d; is = refl; change = refl }
firm_due w v (disk.Pack pack.FirmFloor) d = record { section = FloorRenamed; inside = d; is = refl; change = refl }
firm_due w v place d = absurd d

pub junk : (layout : Layout) (n : FileName) (bytes : List ℕ) → Reads layout n bytes Junk
junk layout n bytes = tt

module _ (layout : Layout) (low young : ℕ) (stuck : Option DiskPlace) (old : Trace) (w : World) (v : View) (store : IsStore layout low young stuck old w) (sees : Sees w v) (layout_is : v.layout ≡ layout) (safe : Safe layout v.since old v.opened w.history (doubt w.lock)) where
  pub le : v.opened ≤ length w.history
  le = sees.opened

  safe_in : (s : Section) → v.section ≡ Some s → Safe layout v.since old v.opened w.history (doubt_in s)
  safe_in s inside = subst (λ l. Safe layout v.since old v.opened w.history (doubt l)) (lock_is v.number w.lock s (sees.section ∙ inside)) safe

  -- a call that never reached the disk
  safe_before : (place : DiskPlace) (s : Section) → v.section ≡ Some s → is_due s place ≡ true → Safe layout v.since old v.opened w.history (doubt_in (spoiled s))
  safe_before place s inside is = safe_not layout v.since v.opened old w s place Before is (safe_in s inside)

  stood_after : (place : DiskPlace) (went : Went) (s : Section) (change : NameChange) → v.section ≡ Some s → is_due s place ≡ true → due w s ≡ Some change
      → (e : Disk) → IsImage (disk_after went change w.disk) e → StoodFor layout v.opened w.history (doubt_in (either went (after s) (spoiled s))) e
  stood_after place went s change inside is due_is =
      stood_for layout v.opened (with_txns [] (called_store (with_txns [] w) v.number place went s change)) store.size (whole_after layout s went w store.size store.whole) (kept_called w v.number place went s change store.kept (sees.section ∙ inside) is due_is) le

  -- a call that reached it, with what it may leave in its middle
  safe_done : (op : Operation) (place : DiskPlace) (went mid : Went) (s : Section) (change : NameChange) → v.section ≡ Some s → is_due s place ≡ true → due w s ≡ Some change
      → IsTraceOf layout no_others old.first (op ∷ old.operations) (disk_after went change w.disk)
      → ((m : Files) → (ImageAfter (change_of op) (files_after old.first old.operations) (real.IsImage old.first old.operations) m) ⊎ (TornBy (change_of op) (real.IsImage old.first old.operations) m) → (e : Disk) × IsImage (disk_after mid change w.disk) e × AreRead layout m e)
      → Safe layout v.since (add_operation op old) v.opened w.history (doubt_in (either went (after s) (spoiled s)))
  safe_done op place went mid s change inside is due_is trace middle =
      safe_step layout v.since v.opened w.history old op (disk_after went change w.disk) (disk_after mid change w.disk) (doubt_in s) (doubt_in (either went (after s) (spoiled s)))
      (image_read layout no_others old.first (op ∷ old.operations) (disk_after went change w.disk) trace) (stood_after place went s change inside is due_is)
      middle (λ e i. subst (λ d. StoodFor layout v.opened w.history d e) (doubt_after s mid ∙ sym (doubt_after s went)) (stood_after place mid s change inside is due_is e i))
      (λ g q. part_due w.history s place went g is q) (safe_in s inside)

  -- in the middle of a put the name may have any bytes
  pub torn_put : (at : FileName) (name bytes : List ℕ) → name ≡ machine_name layout at → Fits at → (m : Files)
      → (ImageAfter (real.Put name bytes) (files_after old.first old.operations) (real.IsImage old.first old.operations) m) ⊎ (TornBy (real.Put name bytes) (real.IsImage old.first old.operations) m) → (e : Disk) × IsImage (Put at Junk ∷ w.disk) e × AreRead layout m e
  torn_put at name bytes named fits m c = by_name (subst (λ n. (ImageAfter (real.Put n bytes) (files_after old.first old.operations) (real.IsImage old.first old.operations) m) ⊎ (TornBy (real.Put n bytes) (real.IsImage old.first old.operations) m)) named c)
    where
      by_name : (ImageAfter (real.Put (machine_name layout at) bytes) (files_after old.first old.operations) (real.IsImage old.first old.operations) m) ⊎ (TornBy (real.Put (machine_name layout at) bytes) (real.IsImage old.first old.operations) m) → (e : Disk) × IsImage (Put at Junk ∷ w.disk) e × AreRead layout m e
      by_name c = ⊎_elim
          (λ i. image_read layout no_others old.first (Done (real.Put (machine_name layout at) bytes) ∷ old.operations) (Put at Junk ∷ w.disk) (Putting old.operations w.disk at bytes Junk store.trace fits (junk layout at bytes)) m i)
          (λ t. torn_read layout no_others old.first old.operations w.disk store.trace at bytes fits m t) c

  -- how a call of this section ends
  abbrev pub Ends : {X E : Type 0} → Option Trace → DiskPlace → Result X E → Type 0
  Ends told place result = Comes layout low young stuck told w v result (λ went u. Called place went v u)

  pub put_comes : {X E : Type 0} (told : Option Trace) (place : DiskPlace) (name bytes : List ℕ) (result : Result X E) → IsDue v place (real.Put name bytes)
      → OnOk result (Performs (real.Put name bytes) (Some old) told) → OnErr result (FailsToPut name bytes (Some old) told) → Ends told place result
  put_comes told place name bytes (Ok x) d ok err =
      let p = put_due layout w v place name bytes layout_is store.size sees d in
      let new = add_operation (Done (real.Put name bytes)) old in
      let trace : IsTraceOf layout no_others old.first (Done (real.Put name bytes) ∷ old.operations) (Put p.at p.contents ∷ w.disk) =
      subst (λ n. IsTraceOf layout no_others old.first (Done (real.Put n bytes) ∷ old.operations) (Put p.at p.contents ∷ w.disk)) (sym p.named)
      (Putting old.operations w.disk p.at bytes p.contents store.trace p.fits p.reads) in
      let c = call_turns layout low young stuck old new w v place Fine p.section (Put p.at p.contents) store sees layout_is p.inside p.is p.change trace (safe_done (Done (real.Put name bytes)) place Fine (Torn Junk) p.section (Put p.at p.contents) p.inside p.is p.change trace (torn_put p.at name bytes p.named p.fits)) in
      (new, Fine, ok, refl, c)
  put_comes told place name bytes (Err e) d ok err =
      let p = put_due layout w v place name bytes layout_is store.size sees d in
      let before = call_turns layout low young stuck old old w v place Before p.section (Put p.at p.contents) store sees layout_is p.inside p.is p.change store.trace (safe_before place p.section p.inside p.is) in
      let tried = add_operation (Attempted (real.Put name bytes)) old in
      let attempt = call_turns layout low young stuck old tried w v place Before p.section (Put p.at p.contents) store sees layout_is p.inside p.is p.change (Attempting old.operations w.disk (real.Put name bytes) store.trace) (safe_done (Attempted (real.Put name bytes)) place Before (Torn Junk) p.section (Put p.at p.contents) p.inside p.is p.change (Attempting old.operations w.disk (real.Put name bytes) store.trace) (torn_put p.at name bytes p.named p.fits)) in
      ⊎_elim (λ same. (old, Before, same, refl, before))
      (λ more. ⊎_elim (λ same. (tried, Before, same, refl, attempt))
      (λ torn.
      let new = add_operation (Done (real.Put name torn.0)) old in
      let trace : IsTraceOf layout no_others old.first (Done (real.Put name torn.0) ∷ old.operations) (Put p.at Junk ∷ w.disk) =
      subst (λ n. IsTraceOf layout no_others old.first (Done (real.Put n torn.0) ∷ old.operations) (Put p.at Junk ∷ w.disk)) (sym p.named)
      (Putting old.operations w.disk p.at torn.0 Junk store.trace p.fits (junk layout p.at torn.0)) in
      let c = call_turns layout low young stuck old new w v place (Torn Junk) p.section (Put p.at p.contents) store sees layout_is p.inside p.is p.change trace (safe_done (Done (real.Put name torn.0)) place (Torn Junk) (Torn Junk) p.section (Put p.at p.contents) p.inside p.is p.change trace (torn_put p.at name torn.0 p.named p.fits)) in
      (new, Torn Junk, torn.1, refl, c)) more) err

  pub rename_comes : {X E : Type 0} (told : Option Trace) (place : DiskPlace) (from to : List ℕ) (result : Result X E) → IsDue v place (real.Rename from to)
      → OnOk result (Performs (real.Rename from to) (Some old) told) → OnErr result (FailsAt (real.Rename from to) (Some old) told) → Ends told place result
  rename_comes told place from to result d ok err = by_result result ok err
    where
      p : RenameDue layout w v place from to
      p = rename_due layout w v place from to sees store.kept.knows d

      at : (bytes : List ℕ) × (get (files_now old) (machine_name layout p.from) ≡ Some bytes) × Reads layout p.from bytes (Number p.number)
      at = at_found layout p.from (get (files_now old) (machine_name layout p.from)) (found w.disk p.from) (Number p.number) p.there
          ((now_read layout no_others old.first old.operations w.disk store.trace).read p.from p.from_fits)

      done : IsTraceOf layout no_others old.first (Done (real.Rename from to) ∷ old.operations) (Rename p.from p.to (Number p.number) ∷ w.disk)
      done = subst (λ n. IsTraceOf layout no_others old.first (Done (real.Rename n to) ∷ old.operations) (Rename p.from p.to (Number p.number) ∷ w.disk)) (sym p.from_named)
          (subst (λ n. IsTraceOf layout no_others old.first (Done (real.Rename (machine_name layout p.from) n) ∷ old.operations) (Rename p.from p.to (Number p.number) ∷ w.disk)) (sym p.to_named)
          (Renaming old.operations w.disk p.from p.to at.0 (Number p.number) store.trace p.from_fits p.to_fits at.1 (p.same at.0 at.2)))

      middle : (m : Files) → (ImageAfter (real.Rename from to) (files_after old.first old.operations) (real.IsImage old.first old.operations) m) ⊎ (TornBy (real.Rename from to) (real.IsImage old.first old.operations) m) → (e : Disk) × IsImage (Rename p.from p.to (Number p.number) ∷ w.disk) e × AreRead layout m e
      middle m c = ⊎_elim (λ i. image_read layout no_others old.first (Done (real.Rename from to) ∷ old.operations) (Rename p.from p.to (Number p.number) ∷ w.disk) done m i) (λ t. absurd t) c

      new : Trace
      new = add_operation (Done (real.Rename from to)) old

      tried : Trace
      tried = add_operation (Attempted (real.Rename from to)) old

      by_result : {X E : Type 0} (result : Result X E) → OnOk result (Performs (real.Rename from to) (Some old) told) → OnErr result (FailsAt (real.Rename from to) (Some old) told) → Ends told place result
      by_result (Ok x) ok err =
          let c = call_turns layout low young stuck old new w v place Fine p.section (Rename p.from p.to (Number p.number)) store sees layout_is p.inside p.is p.change done (safe_done (Done (real.Rename from to)) place Fine After p.section (Rename p.from p.to (Number p.number)) p.inside p.is p.change done middle) in
          (new, Fine, ok, refl, c)
      by_result (Err e) ok err =
          let before = call_turns layout low young stuck old old w v place Before p.section (Rename p.from p.to (Number p.number)) store sees layout_is p.inside p.is p.change store.trace (safe_before place p.section p.inside p.is) in
          let attempt = call_turns layout low young stuck old tried w v place Before p.section (Rename p.from p.to (Number p.number)) store sees layout_is p.inside p.is p.change (Attempting old.operations w.disk (real.Rename from to) store.trace) (safe_done (Attempted (real.Rename from to)) place Before After p.section (Rename p.from p.to (Number p.number)) p.inside p.is p.change (Attempting old.operations w.disk (real.Rename from to) store.trace) middle) in
          let all = call_turns layout low young stuck old new w v place After p.section (Rename p.from p.to (Number p.number)) store sees layout_is p.inside p.is p.change done (safe_done (Done (real.Rename from to)) place After After p.section (Rename p.from p.to (Number p.number)) p.inside p.is p.change done middle) in
          ⊎_elim (λ same. (old, Before, same, refl, before))
          (λ more. ⊎_elim (λ same. (tried, Before, same, refl, attempt))
          (λ same. (new, After, same, refl, all)) more) err

  pub firm_comes : {X E : Type 0} (told : Option Trace) (place : DiskPlace) (result : Result X E) → IsDue v place real.FirmNames
      → OnOk result (Performs real.FirmNames (Some old) told) → OnErr result (FailsAt real.FirmNames (Some old) told) → Ends told place result
  firm_comes told place result d ok err = by_result result ok err
    where
      p : FirmDue w v place
      p = firm_due w v place d

      middle : (m : Files) → (ImageAfter real.FirmNames (files_after old.first old.operations) (real.IsImage old.first old.operations) m) ⊎ (TornBy real.FirmNames (real.IsImage old.first old.operations) m) → (e : Disk) × IsImage (Firm ∷ w.disk) e × AreRead layout m e
      middle m c = ⊎_elim (λ i. image_read layout no_others old.first (Done real.FirmNames ∷ old.operations) (Firm ∷ w.disk) (Firming old.operations w.disk store.trace) m i) (λ t. absurd t) c

      new : Trace
      new = add_operation (Done real.FirmNames) old

      tried : Trace
      tried = add_operation (Attempted real.FirmNames) old

      by_result : {X E : Type 0} (result : Result X E) → OnOk result (Performs real.FirmNames (Some old) told) → OnErr result (FailsAt real.FirmNames (Some old) told) → Ends told place result
      by_result (Ok x) ok err =
          let c = call_turns layout low young stuck old new w v place Fine p.section Firm store sees layout_is p.inside p.is p.change (Firming old.operations w.disk store.trace) (safe_done (Done real.FirmNames) place Fine After p.section Firm p.inside p.is p.change (Firming old.operations w.disk store.trace) middle) in
          (new, Fine, ok, refl, c)
      by_result (Err e) ok err =
          let before = call_turns layout low young stuck old old w v place Before p.section Firm store sees layout_is p.inside p.is p.change store.trace (safe_before place p.section p.inside p.is) in
          let attempt = call_turns layout low young stuck old tried w v place Before p.section Firm store sees layout_is p.inside p.is p.change (Attempting old.operations w.disk real.FirmNames store.trace) (safe_done (Attempted real.FirmNames) place Before After p.section Firm p.inside p.is p.change (Attempting old.operations w.disk real.FirmNames store.trace) middle) in
          let all = call_turns layout low young stuck old new w v place After p.section Firm store sees layout_is p.inside p.is p.change (Firming old.operations w.disk store.trace) (safe_done (Done real.FirmNames) place After After p.section Firm p.inside p.is p.change (Firming old.operations w.disk store.trace) middle) in
          ⊎_elim (λ same. (old, Before, same, refl, before))
          (λ more. ⊎_elim (λ same. (tried, Before, same, refl, attempt))
          (λ same. (new, After, same, refl, all)) more) err

  -- a call that is due fails before it reaches the disk
  pub folder_fails : (place : DiskPlace) (name bytes : List ℕ) → IsDue v place (real.Put name bytes) → IsAfter layout low young stuck old w v (λ u. Called place Before v u)
  folder_fails place name bytes d =
      let p = put_due layout w v place name bytes layout_is store.size sees d in
      call_turns layout low young stuck old old w v place Before p.section (Put p.at p.contents) store sees layout_is p.inside p.is p.change store.trace (safe_before place p.section p.inside p.is)

  -- ---- a bench's file gets the name by one change: the bytes are all there, or the name is as it was

  pub part_fails : (place : DiskPlace) (name bytes : List ℕ) → IsDue v place (real.Adopt name bytes) → IsAfter layout low young stuck old w v (λ u. Called place Before v u)
  part_fails place name bytes d =
      let p = adopt_due layout w v layout_is store.size sees place name bytes d in
      call_turns layout low young stuck old old w v place Before p.section (Put p.at p.contents) store sees layout_is p.inside p.is p.change store.trace (safe_before place p.section p.inside p.is)

  pub part_comes : {X E : Type 0} (A B : Type 0) (told : Option Trace) (place : DiskPlace) (name bytes : List ℕ) (result : Result X E) → IsDue v place (real.Adopt name bytes)
      → OnOk result (Performs (real.Adopt name bytes) (Some old) told) → OnErr result ((StaysAt (real.Adopt name bytes) (Some old) told × A) ⊎ (Performs (real.Adopt name bytes) (Some old) told × B)) → Ends told place result
  part_comes A B told place name bytes result d ok err = by_result result ok err
    where
      p : PutDue layout w v place name bytes
      p = adopt_due layout w v layout_is store.size sees place name bytes d

      done : IsTraceOf layout no_others old.first (Done (real.Adopt name bytes) ∷ old.operations) (Put p.at p.contents ∷ w.disk)
      done = subst (λ n. IsTraceOf layout no_others old.first (Done (real.Adopt n bytes) ∷ old.operations) (Put p.at p.contents ∷ w.disk)) (sym p.named)
          (Adopting old.operations w.disk p.at bytes p.contents store.trace p.fits p.reads)

      tried_trace : IsTraceOf layout no_others old.first (Attempted (real.Adopt name bytes) ∷ old.operations) w.disk
      tried_trace = Attempting old.operations w.disk (real.Adopt name bytes) store.trace

      middle : (m : Files) → (ImageAfter (real.Adopt name bytes) (files_after old.first old.operations) (real.IsImage old.first old.operations) m) ⊎ (TornBy (real.Adopt name bytes) (real.IsImage old.first old.operations) m) → (e : Disk) × IsImage (Put p.at p.contents ∷ w.disk) e × AreRead layout m e
      middle m c = ⊎_elim (λ i. image_read layout no_others old.first (Done (real.Adopt name bytes) ∷ old.operations) (Put p.at p.contents ∷ w.disk) done m i) (λ t. absurd t) c

      new : Trace
      new = add_operation (Done (real.Adopt name bytes)) old

      tried : Trace
      tried = add_operation (Attempted (real.Adopt name bytes)) old

      by_result : {X E : Type 0} (result : Result X E) → OnOk result (Performs (real.Adopt name bytes) (Some old) told) → OnErr result ((StaysAt (real.Adopt name bytes) (Some old) told × A) ⊎ (Performs (real.Adopt name bytes) (Some old) told × B)) → Ends told place result
      by_result (Ok x) ok err =
          let c = call_turns layout low young stuck old new w v place Fine p.section (Put p.at p.contents) store sees layout_is p.inside p.is p.change done (safe_done (Done (real.Adopt name bytes)) place Fine After p.section (Put p.at p.contents) p.inside p.is p.change done middle) in
          (new, Fine, ok, refl, c)
      by_result (Err e) ok err =
          let before = call_turns layout low young stuck old old w v place Before p.section (Put p.at p.contents) store sees layout_is p.inside p.is p.change store.trace (safe_before place p.section p.inside p.is) in
          let attempt = call_turns layout low young stuck old tried w v place Before p.section (Put p.at p.contents) store sees layout_is p.inside p.is p.change tried_trace (safe_done (Attempted (real.Adopt name bytes)) place Before After p.section (Put p.at p.contents) p.inside p.is p.change tried_trace middle) in
          let all = call_turns layout low young stuck old new w v place After p.section (Put p.at p.contents) store sees layout_is p.inside p.is p.change done (safe_done (Done (real.Adopt name bytes)) place After After p.section (Put p.at p.contents) p.inside p.is p.change done middle) in
          ⊎_elim
          (λ stays. ⊎_elim (λ same. (old, Before, same, refl, before)) (λ same. (tried, Before, same, refl, attempt)) stays.0)
          (λ gone. (new, After, gone.0, refl, all)) err
