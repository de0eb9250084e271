-- By how many shards the floor rose that the files show.
use Rattle.std.proofs.Common.{◌≡◌, ◌⊎◌, ◌+◌, ◌*◌, ◌<◌, ◌≤◌, ℕ, List, length, false, inl, inr, refl, sym, ap, subst, ◌∙◌, arith}
use Rattle.std.proofs.lemmas.Option.{same_Some}
use Rattle.std.specs.Prelude.{Option, Some, None, IfOk, IfSome, option_map, Result, Ok, Err}
use Rattle.fsfs_base.specs.Fields.RevNums.{last_rev}
use Rattle.fsfs_base.specs.Files.{Files}
use Rattle.fsfs_layout.specs.Layouts.{shard_size}
use Rattle.fsfs_layout.specs.Opening.{SaysFormat, small_texts}
use Rattle.fsfs_layout.specs.declared.layout.Layout.{Layout}
use Rattle.fsfs_layout.specs.declared.small_files.format_file.FormatFile.TheVariants.{Known}
use Rattle.fsfs_revision.specs.RevBytes.{floor_in}
use Rattle.fsfs_disk.specs.Trace.{Trace, files_now}
use Rattle.fsfs_machine.specs.declared.machine.Recorded.{Recorded}
use Rattle.fsfs_machine.specs.declared.machine.Section.{Section}
use Rattle.fsfs_machine.specs.declared.machine.Section.TheVariants.{Begun, Packed}
use Rattle.fsfs_machine.specs.Kept.{rises}
use Rattle.fsfs_turn.specs.Alone.{packing, KnowsAlone}
use Rattle.fsfs_turn.specs.Telling.{OwnedState}
use Rattle.fsfs_turn.specs.Views.{View}
use Rattle.fsfs_turn.proofs.OwnFiles.{own_now, were_own}
use Rattle.fsfs_repo.specs.Packs.{Drift, NoneFull, Packing, Says, ShowsFloors}
use Rattle.fsfs_repo.specs.PackEnd.{PackEnd}
use Rattle.fsfs_repo.specs.PackEnd.TheVariants.{Nothing, Packed as PackedSome}
use Rattle.fsfs_repo.specs.PackFault.{PackFault}
use Rattle.fsfs_repo.specs.Owned.Alone.{KnowsIn}
use Rattle.fsfs_pack_run.specs.Runs.{shards_of, FloorRises, HasJustSeen}
use Rattle.fsfs_pack_run.proofs.FloorNow.{floor_firm, floor_seen, ShowsFloor}

-- of the files that are told
over : (o : Option Trace) (P : Files → Type 0) → ((m : Files) → option_map files_now o ≡ Some m → P m) → IfSome o (λ t. P (files_now t))
over None P f = tt
over (Some t) P f = f (files_now t) refl

-- no shard at the floor is full (as fsfs_pack has it)
abbrev IsNoneFull : Layout → ℕ → ℕ → Type 0
IsNoneFull layout floor youngest = (youngest + 1 < floor + shard_size layout) ⊎ (last_rev < floor + shard_size layout)

-- fewer revisions fill no more
none_fewer : (layout : Layout) (floor least count : ℕ) → count ≤ least + 1 → IsNoneFull layout floor least → (count < floor + shard_size layout) ⊎ (last_rev < floor + shard_size layout)
none_fewer layout floor least count le (inl less) = inl (omega (arith, le, less))
none_fewer layout floor least count le (inr last) = inr last

-- nor does a greater floor
none_above : (layout : Layout) (floor next least : ℕ) → floor ≤ next → IsNoneFull layout floor least → IsNoneFull layout next least
none_above layout floor next least le (inl less) = inl (omega (arith, le, less))
none_above layout floor next least le (inr last) = inr (omega (arith, le, last))

-- the firm floor that a pass knows with the lock held is the one that the files show
shown : (s : OwnedState) (layout : Layout) (v : View) (at : Section) (f : ℕ) (m : Files) → s.layout ≡ layout → option_map files_now s.trace ≡ Some m → KnowsIn s v → v.section ≡ Some at → rises at ≡ false → v.firm ≡ Some f → ShowsFloor layout m (s.young + 1) f
shown s layout v at f m laid files known held quiet firm = by s.trace known files
  where
    by : (o : Option Trace) → KnowsAlone s.layout s.floor s.young s.stuck o v → option_map files_now o ≡ Some m → ShowsFloor layout m (s.young + 1) f
    by None k e = absurd k.0
    by (Some t) k e =
        subst (λ (l : Layout). ShowsFloor l m (s.young + 1) f) laid
        (subst (λ (n : Files). ShowsFloor s.layout n (s.young + 1) f) (same_Some (files_now t) m e) (floor_firm s.layout s.floor s.young s.stuck t v at f k.0 held quiet firm))

-- what is known says how the files are laid out
laid_as : (s : OwnedState) (v : View) → KnowsIn s v → s.layout ≡ v.layout
laid_as s v known = by s.trace known
  where
    by : (o : Option Trace) → KnowsAlone s.layout s.floor s.young s.stuck o v → s.layout ≡ v.layout
    by None k = absurd k.0
    by (Some t) k = sym k.0.3

-- and that they were so laid out at the opening
says_then : (s : OwnedState) (v : View) (layout : Layout) → s.layout ≡ layout → KnowsIn s v → SaysFormat (small_texts v.since.files) (Known layout)
says_then s v layout laid known = subst (λ (l : Layout). SaysFormat (small_texts v.since.files) (Known l)) laid (by s.trace known)
  where
    by : (o : Option Trace) → KnowsAlone s.layout s.floor s.young s.stuck o v → SaysFormat (small_texts v.since.files) (Known s.layout)
    by None k = absurd k.0
    by (Some t) k = (were_own s.layout v.since (files_now t) (own_now s.layout v.since t k.2)).format

-- what a pass in no section has read of the floor is no more
read : (s : OwnedState) (layout : Layout) (v : View) (m : Files) → s.layout ≡ layout → option_map files_now s.trace ≡ Some m → KnowsIn s v → v.section ≡ None → s.stuck ≡ None → (f : ℕ) × ShowsFloor layout m (s.young + 1) f × (v.pass.floor ≤ f)
read s layout v m laid files known outside unstuck = by s.trace known files
  where
    by : (o : Option Trace) → KnowsAlone s.layout s.floor s.young s.stuck o v → option_map files_now o ≡ Some m → (f : ℕ) × ShowsFloor layout m (s.young + 1) f × (v.pass.floor ≤ f)
    by None k e = absurd k.0
    by (Some t) k e =
        let w = floor_seen s.layout s.floor s.young s.stuck t v k.0 outside unstuck in
        (w.0, subst (λ (l : Layout). ShowsFloor l m (s.young + 1) w.0) laid (subst (λ (n : Files). ShowsFloor s.layout n (s.young + 1) w.0) (same_Some (files_now t) m e) w.1), w.2)

module _ (a b : OwnedState) (layout : Layout) (count : ℕ) (before : Files) (from : a.layout ≡ layout) (to : b.layout ≡ layout) (files : option_map files_now a.trace ≡ Some before) (laid : SaysFormat (small_texts before) (Known layout)) (all : b.young + 1 ≡ count) where
  -- some shards were packed
  pub some_rise : (shards floor least : ℕ) (taken last : View) → count ≤ least + 1 → KnowsIn a taken → taken.section ≡ Some Begun → taken.firm ≡ Some floor → KnowsIn b last → last.section ≡ Some Packed → last.firm ≡ Some (floor + shards * shard_size taken.layout)
      → IsNoneFull taken.layout (floor + shards * shard_size taken.layout) least → IfSome b.trace (λ t. FloorRises shards count before (files_now t))
  some_rise shards floor least taken last le known begins firm knows packed raised none =
      let same : taken.layout ≡ layout = taken_laid a.trace known in
      let next = floor + shards * shard_size layout in
      over b.trace (λ m. FloorRises shards count before m) (λ m e.
      let now = shown b layout last Packed next m to e knows packed refl (raised ∙ ap (λ (l : Layout). Some (floor + shards * shard_size l)) same) in
      record {
        layout = layout;
        laid = laid;
        floor = floor;
        was = (shown a layout taken Begun floor before from files known begins refl firm).is;
        now = now.is;
        most = omega (arith, now.most, all);
        fits = now.fits;
        none_full = none_fewer layout next least count le (subst (λ (l : Layout). IsNoneFull l (floor + shards * shard_size l) least) same none);
      })
    where
      taken_laid : (o : Option Trace) → KnowsAlone a.layout a.floor a.young a.stuck o taken → taken.layout ≡ layout
      taken_laid None k = absurd k.0
      taken_laid (Some t) k = k.0.3 ∙ from

  -- or none was to be packed
  pub none_rises : (u : View) → b ≡ a → count ≤ u.pass.least + 1 → u.layout ≡ layout → KnowsIn b u → u.section ≡ None → b.stuck ≡ None → NoneFull u → IfSome b.trace (λ t. FloorRises 0 count before (files_now t))
  none_rises u kept le same known outside unstuck none =
      over b.trace (λ m. FloorRises 0 count before m) (λ m e.
      let w = read b layout u m to e known outside unstuck in
      let stays : m ≡ before = same_Some m before (sym e ∙ ap (λ (s : OwnedState). option_map files_now s.trace) kept ∙ files) in
      let next : w.0 ≡ w.0 + 0 * shard_size layout = omega arith in
      let full : IsNoneFull layout w.0 u.pass.least = none_above layout none.floor w.0 u.pass.least (omega (arith, none.read, w.2)) (subst (λ (l : Layout). IsNoneFull l none.floor u.pass.least) same none.none_full) in
      record {
        layout = layout;
        laid = laid;
        floor = w.0;
        was = subst (λ (n : Files). floor_in layout n ≡ Ok w.0) stays w.1.is;
        now = w.1.is ∙ ap Ok next;
        most = omega (arith, w.1.most, all, next);
        fits = omega (arith, w.1.fits, next);
        none_full = subst (λ (n : ℕ). (count < n + shard_size layout) ⊎ (last_rev < n + shard_size layout)) next (none_fewer layout w.0 u.pass.least count le full);
      })

-- By what a pack says of floors: `below` is all that what is known of turns is a fact of.
pub rises_so : {T : Type 0} (below : T → OwnedState) (x y : T) (end : Result PackEnd PackFault) (renamed : ℕ) (v u : View) → KnowsIn (below x) v → KnowsIn (below y) u → HasJustSeen v → Packing (packing v) u → u.seen ≡ v.seen → Says renamed end (packing v) u
    → option_map files_now (below x).trace ≡ Some v.since.files → IfOk end (λ e. ShowsFloors (λ t w. KnowsIn (below t) w) below v.pass.least e x y)
    → IfOk end (λ e. IfSome (below y).trace (λ t. FloorRises (shards_of e) (length v.seen) v.since.files (files_now t)))
rises_so below x y (Err why) renamed v u known now just packs same says files shows = tt
rises_so below x y (Ok end) renamed v u known now just packs same says files shows = by end says shows
  where
    from : (below x).layout ≡ v.layout
    from = laid_as (below x) v known

    drift : Drift (packing v) u
    drift = packs.drift

    to : (below y).layout ≡ v.layout
    to = laid_as (below y) u now ∙ drift.layout

    -- the files at the opening say how they are laid out
    laid : SaysFormat (small_texts v.since.files) (Known v.layout)
    laid = says_then (below x) v v.layout from known

    le : length v.seen ≤ v.pass.least + 1
    le = omega (arith, just.least)

    all : (below y).young + 1 ≡ length v.seen
    all = sym now.1.all ∙ ap (λ (h : List Recorded). length h) same

    by : (e : PackEnd) → Says renamed (Ok e) (packing v) u → ShowsFloors (λ t w. KnowsIn (below t) w) below v.pass.least e x y → IfSome (below y).trace (λ t. FloorRises (shards_of e) (length v.seen) v.since.files (files_now t))
    by Nothing s kept =
        let unstuck : (below y).stuck ≡ None = now.1.free (s.1 just.harmless) in
        let more : length v.seen ≤ u.pass.least + 1 = (let d = drift.least in omega (arith, le, d)) in
        none_rises (below x) (below y) v.layout (length v.seen) v.since.files from to files laid all u kept more drift.layout now packs.outside unstuck s.0
    by (PackedSome shards left) s floors =
        let a : KnowsIn (below x) floors.taken = subst (λ (z : OwnedState). KnowsIn z floors.taken) floors.as_before floors.knows_taken in
        let b : KnowsIn (below y) floors.last = subst (λ (z : OwnedState). KnowsIn z floors.last) (sym floors.as_after) floors.knows_last in
        let more : length v.seen ≤ floors.last.pass.least + 1 = (let d = floors.told in omega (arith, le, d)) in
        some_rise (below x) (below y) v.layout (length v.seen) v.since.files from to files laid all shards floors.floor floors.last.pass.least floors.taken floors.last more a floors.begins floors.firm b floors.packed floors.raised floors.none_full
