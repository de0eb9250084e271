-- What a pass has seen is whole in each image.
use Rattle.std.proofs.Common.{◌≡◌, ◌<◌, ◌^◌, ℕ, List, [], ◌∷◌, length, ⊎_elim, sym, ap, subst, ◌∙◌, ◌++◌, arith, take, drop}
use Rattle.std.proofs.lemmas.List.{take_all, take-append-le}
use Rattle.std.proofs.lemmas.Option.{slice_get_within}
use Rattle.fsfs_turn.specs.Bytes.{BytesShow, AllShow}
use Rattle.fsfs_turn.specs.Past.{doubt_in, doubt, IsPart, IsWhole, WasLeft, Safe}
use Rattle.fsfs_turn.proofs.Moments.{stood_for}
use Rattle.fsfs_turn.proofs.Stepping.{take_drop, get_taken}
use Rattle.std.specs.Prelude.{Some, Ok, IfSome, slice_get}
use Rattle.std.specs.FinMap.{get}
use Rattle.fsfs_base.specs.Files.{Files}
use Rattle.fsfs_layout.specs.Layouts.{shard_size}
use Rattle.fsfs_layout.specs.declared.layout.Layout.{Layout}
use Rattle.fsfs_revision.specs.RevBytes.{floor_in}
use Rattle.fsfs_revision.proofs.FloorLemmas.{floor_is}
use Rattle.fsfs_disk.specs.Trace.{Operation, ImageSince, files_now}
use Rattle.fsfs_disk.specs.Trace as real
use Rattle.fsfs_machine.specs.declared.contents.FileName.TheVariants.{Current, Props}
use Rattle.fsfs_machine.specs.declared.contents.Contents.TheVariants.{PropsFile, Number}
use Rattle.fsfs_machine.specs.declared.machine.Recorded.{Recorded}
use Rattle.fsfs_machine.specs.declared.machine.Coming.{Coming}
use Rattle.fsfs_machine.specs.declared.machine.Section.{Section}
use Rattle.fsfs_machine.specs.declared.machine.Section.TheVariants.{CurrentRenamed, CurrentFirm, Doubtful}
use Rattle.fsfs_machine.specs.declared.machine.Lock.{Lock}
use Rattle.fsfs_machine.specs.declared.machine.Lock.TheVariants.{Free, Held, Stuck, Down, DownDoubtful, StuckFloor, DownFloor}
use Rattle.fsfs_machine.specs.Disk.{Disk, found, IsImage}
use Rattle.fsfs_machine.specs.Machine.{World, with_next}
use Rattle.fsfs_machine.specs.Kept.{coming, coming_in, Follows, StandsFor, FloorIs}
use Rattle.fsfs_layout.specs.Small.{IsRevLine}
use Rattle.fsfs_images.specs.RealNames.{machine_name}
use Rattle.fsfs_images.specs.Shown.{AreRead}
use Rattle.fsfs_turn.specs.Views.{Sees, with_txns}
use Rattle.fsfs_turn.specs.Found.{bytes_are, floor_read, ShowsFloor, shows_floor, LastFrom, last_at}
use Rattle.fsfs_turn.specs.Standing.{no_others, IsStore}
use Rattle.fsfs_turn.specs.Whole.{HasRevision, NamesFrom, SeenIsWhole, NamesLastOf, HasHistory, EachMomentStands, KnownFromNow}
use Rattle.fsfs_images.proofs.Showing.{image_read}
use Rattle.fsfs_turn.proofs.Due.{at_found}
use Rattle.fsfs_turn.proofs.Locking.{seen_within}

pub seen_is_whole : SeenIsWhole
seen_is_whole layout low young stuck t v known m image = (each, names)
  where
    w : World
    w = known.0

    store : IsStore layout low young stuck t w
    store = known.1

    sees : Sees w v
    sees = known.2

    e : (d : Disk) × IsImage w.disk d × AreRead layout m d
    e = image_read layout no_others t.first t.operations w.disk store.trace m image

    shows : ShowsFloor layout (with_txns [] w) e.0
    shows = shows_floor layout (with_txns [] w) store.size store.whole store.kept e.0 e.1

    last : LastFrom e.0 (length w.history)
    last = last_at w.size w.floor w.history w.lock e.0 (store.kept.stands e.0 e.1)

    floor : floor_in layout m ≡ Ok shows.floor
    floor = floor_is layout shows.floor m (floor_read layout shows.floor m e.0 e.2 shows.is shows.whole)

    current : (text : List ℕ) × (get m (machine_name layout Current) ≡ Some text) × IsRevLine text last.0
    current = at_found layout Current (get m (machine_name layout Current)) (found e.0 Current) (Number last.0) last.1 (e.2.read Current tt)

    each : (r : ℕ) (x : Recorded) → slice_get v.seen r ≡ Some x → HasRevision layout m r x
    each r x at =
        let here : slice_get w.history r ≡ Some x = get_taken v.pass.seen r w.history x (ap (λ l. slice_get l r) (sym sees.seen) ∙ at) in
        let fits : r < 2 ^ 32 = omega (arith, slice_get_within w.history r x here, last.2, current.2.fits) in
        let files = shows.each r x here in
        let props = at_found layout (Props r) (get m (machine_name layout (Props r))) (found e.0 (Props r)) (PropsFile x.revision.properties) files.1 (e.2.read (Props r) fits) in
        record { bytes = bytes_are layout shows.floor m e.0 r x floor e.2 fits files.0; text = props.0; there = props.1; dump = props.2 }

    names : NamesFrom m (length v.seen)
    names = record { text = current.0; there = current.1; number = last.0; line = current.2; from = omega (arith, last.2, seen_within w v sees) }

pub has_history : (layout : Layout) (f : ℕ) (m : Files) (e : Disk) (g : List Recorded) → IsWhole layout f → FloorIs f e → AreRead layout m e → StandsFor (shard_size layout) f e g → BytesShow g → HasHistory layout m g
has_history layout f m e g whole floors all stands show = record { each = each; names = names; shown = show }
  where
    floor : floor_in layout m ≡ Ok f
    floor = floor_is layout f m (floor_read layout f m e all floors whole)

    current : (text : List ℕ) × (get m (machine_name layout Current) ≡ Some text) × IsRevLine text stands.1.0
    current = at_found layout Current (get m (machine_name layout Current)) (found e Current) (Number stands.1.0) stands.1.1 (all.read Current tt)

    each : (r : ℕ) (x : Recorded) → slice_get g r ≡ Some x → HasRevision layout m r x
    each r x at =
        let fits : r < 2 ^ 32 = omega (arith, slice_get_within g r x at, stands.1.2, current.2.fits) in
        let files = stands.0 r x at in
        let props = at_found layout (Props r) (get m (machine_name layout (Props r))) (found e (Props r)) (PropsFile x.revision.properties) files.1 (all.read (Props r) fits) in
        record { bytes = bytes_are layout f m e r x floor all fits files.0; text = props.0; there = props.1; dump = props.2 }

    names : NamesLastOf m (length g)
    names = record { text = current.0; there = current.1; number = stands.1.0; line = current.2; last = stands.1.2 }

-- the revision in doubt is the one to come
pub if_doubtful : (P : Coming → Type 0) (lock : Lock) → IfSome (coming lock) P → IfSome (doubt lock) P
if_doubtful P (Held p s) c = in_section s c
  where
    in_section : (s : Section) → IfSome (coming_in s) P → IfSome (doubt_in s) P
    in_section (CurrentRenamed x) c = c
    in_section (CurrentFirm x) c = c
    in_section (Doubtful place x) c = c
    in_section s c = tt
if_doubtful P (Stuck place x) c = c
if_doubtful P (DownDoubtful x) c = c
if_doubtful P Free c = tt
if_doubtful P Down c = tt
if_doubtful P (StuckFloor place) c = tt
if_doubtful P DownFloor c = tt

-- the bytes of a part show it
pub part_shown : (h : List Recorded) (lock : Lock) (g : List Recorded) → AllShow h → IfSome (coming lock) (λ x. BytesShow (with_next h x)) → 0 < length g → IsPart h (doubt lock) g → BytesShow g
part_shown h lock g all next some p = ⊎_elim
    (λ b. subst (λ l. BytesShow l) (ap (λ l. take (length g) l) b.1 ∙ take-append-le (length g) g b.0 (omega arith) ∙ take_all (length g) g (omega arith)) (all (length g) some))
    (λ y. subst (λ l. BytesShow l) (sym y.2) (subst (λ o. IfSome o (λ x. BytesShow (with_next h x))) y.1 (if_doubtful (λ x. BytesShow (with_next h x)) lock next))) p

pub each_moment_stands : EachMomentStands
each_moment_stands layout low young stuck t v known m i =
    let w = known.0 in
    let store = known.1 in
    let sees = known.2 in
    let left = known.5 m i in
    let stood = left.2 in
    let p = stood.3 in
    let names = p.1.1 in
    let some : 0 < length p.0 = omega (arith, names.2) in (
      w.history,
      doubt w.lock,
      p.0,
      (drop v.pass.seen w.history, take_drop v.pass.seen w.history ∙ ap (λ l. l ++ drop v.pass.seen w.history) (sym sees.seen)),
      p.3,
      p.2,
      has_history layout stood.0 m left.0 p.0 stood.1 stood.2 left.1 p.1 (part_shown w.history w.lock p.0 store.shown store.coming some p.3),
      if_doubtful (Follows w.history) w.lock store.kept.next,
    )

pub known_from_now : KnownFromNow
known_from_now layout low young stuck t v known =
    let w = known.0 in
    let store = known.1 in
    let sees = known.2 in
    (w, store, record { pass = sees.pass; seen = sees.seen; section = sees.section; up = sees.up; sure = sees.sure; whole = sees.whole; given = sees.given; opened = seen_within w v sees; shown = sees.shown; names = sees.names; firm = sees.firm }, known.3, known.4, safe, known.6, known.7)
  where
    past : (m : Files) → real.IsImage t.first t.operations m → WasLeft layout (length v.seen) known.0.history (doubt known.0.lock) m
    past m i =
        let r = image_read layout no_others t.first t.operations known.0.disk known.1.trace m i in
        (r.0, r.2, stood_for layout (length v.seen) (with_txns [] known.0) known.1.size known.1.whole known.1.kept (seen_within known.0 v known.2) r.0 r.1)

    now : (first : Files) (ops : List Operation) (m : Files) → ImageSince (length ops) first ops m → real.IsImage first ops m
    now first [] m i = i
    now first (op ∷ ops) m i = ⊎_elim (λ a. a) (λ b. absurd (omega (arith, b.0))) i

    safe : Safe layout (record v.since { operations = length t.operations; files = files_now t }) t (length v.seen) known.0.history (doubt known.0.lock)
    safe m i = past m (now t.first t.operations m i)
