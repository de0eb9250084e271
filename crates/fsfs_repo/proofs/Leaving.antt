-- A state of the machine says what the images of its disk stand for.
use Rattle.std.proofs.Common.{◌≡◌, ◌<◌, ◌≤◌, ◌++◌, ℕ, List, [], length, true, ⊎_elim, refl, sym, ap, subst, ◌∙◌, arith, drop}
use Rattle.std.specs.Prelude.{Option, Some, None, IfSome, slice_get}
use Rattle.std.proofs.lemmas.Option.{slice_get_within}
use Rattle.fsfs_base.specs.Files.{Files}
use Rattle.fsfs_stands.specs.Files.{StandsFor}
use Rattle.fsfs_disk.specs.Trace.{Trace}
use Rattle.fsfs_disk.specs.Trace as real
use Rattle.fsfs_disk.proofs.CrashLemmas.{image_now}
use Rattle.std.specs.FinMap.{get}
use Rattle.fsfs_begin.specs.Steps.{LeavesNoName}
use Rattle.fsfs_layout.specs.FileNames.{only_name}
use Rattle.fsfs_layout.specs.Small.{IsBase36Line}
use Rattle.fsfs_layout.specs.declared.only_file.OnlyFile.TheVariants.{TxnCurrent}
use Rattle.fsfs_machine.specs.declared.contents.Contents.TheVariants.{Number}
use Rattle.fsfs_machine.specs.declared.contents.FileName.TheVariants.{Counter}
use Rattle.fsfs_machine.specs.Disk.{found}
use Rattle.fsfs_images.specs.RealNames.{machine_name}
use Rattle.fsfs_images.proofs.Showing.{image_read, now_read}
use Rattle.fsfs_machine.specs.declared.machine.Recorded.{Recorded}
use Rattle.fsfs_machine.specs.declared.machine.Coming.{Coming}
use Rattle.fsfs_machine.specs.Machine.{World, stuck_place, recorded, revisions}
use Rattle.fsfs_machine.specs.Kept.{Follows}
use Rattle.fsfs_machine.proofs.Growing.{got_before}
use Rattle.fsfs_turn.specs.Found.{at_found, get_taken, seen_within, text_there}
use Rattle.fsfs_turn.specs.Past.{doubt, IsPart, WasLeft}
use Rattle.fsfs_turn.specs.Standing.{no_others, IsStore}
use Rattle.fsfs_turn.specs.Stands.{HasOwnFiles}
use Rattle.fsfs_turn.specs.Views.{Sees, with_txns}
use Rattle.fsfs_turn.specs.Whole.{HasHistory}
use Rattle.fsfs_turn.proofs.Alone.{same_by_length}
use Rattle.fsfs_turn.proofs.Moments.{stood_for}
use Rattle.fsfs_turn.proofs.Standings.{files_stand}
use Rattle.fsfs_turn.proofs.Stepping.{take_drop}
use Rattle.fsfs_turn.proofs.Wholeness.{has_history, part_shown, if_doubtful}
use Rattle.fsfs_pass.specs.declared.seats.seat_view.SeatView.{SeatView}
use Rattle.fsfs_pass.specs.Seats.{view_of}
use Rattle.fsfs_pass.specs.Tells.{IsMet}
use Rattle.fsfs_repo.specs.Shared.Left.{Leaves}

-- a part that is no shorter has each revision
part_has : (h g : List Recorded) (d : Option Coming) → IsPart h d g → length h ≤ length g → (r : ℕ) (x : Recorded) → slice_get h r ≡ Some x → slice_get g r ≡ Some x
part_has h g d part le r x at = ⊎_elim
    (λ b. subst (λ l. slice_get l r ≡ Some x) (same_by_length g h b le) at)
    (λ y. subst (λ l. slice_get l r ≡ Some x) (sym y.2) (got_before h (recorded y.0) r (slice_get_within h r x at) ∙ at)) part

module _ (v : SeatView) (t : Trace) (met : IsMet v t) where
  abbrev w : World
  w = met.world

  store : IsStore v.layout v.low w.young (stuck_place w.lock) t w
  store = met.store

  sees : Sees w (view_of v)
  sees = met.sees

  -- these files stand for a part of the history with so many revisions
  abbrev HasPart : ℕ → Files → Type 0
  HasPart n m = (g : List Recorded) × IsPart w.history (doubt w.lock) g × (n ≤ length g) × HasHistory v.layout m g × StandsFor m (revisions g)

  has_past : (n : ℕ) (m : Files) → WasLeft v.layout n w.history (doubt w.lock) m → HasOwnFiles m v.layout → HasPart n m
  has_past n m left own =
      let stood = left.2 in
      let p = stood.3 in
      let names = p.1.1 in
      let some : 0 < length p.0 = omega (arith, names.2) in
      let has = has_history v.layout stood.0 m left.0 p.0 stood.1 stood.2 left.1 p.1 (part_shown w.history w.lock p.0 store.shown store.coming some p.3) in
      (p.0, p.3, p.2, has, files_stand v.layout stood.0 m left.0 p.0 stood.1 left.1 stood.2 stood.4 p.4 has own)

  left_now : (m : Files) → real.IsImage t.first t.operations m → WasLeft v.layout (length w.history) w.history (doubt w.lock) m
  left_now m i =
      let r = image_read v.layout no_others t.first t.operations w.disk store.trace m i in
      (r.0, r.2, stood_for v.layout (length w.history) (with_txns [] w) store.size store.whole store.kept (omega arith) r.0 r.1)

  all_now : (m : Files) → real.IsImage t.first t.operations m → HasPart (length w.history) m
  all_now m i = has_past (length w.history) m (left_now m i) (met.own m (image_now v.since.operations t.first t.operations m i)).0

  no_name : v.full ≡ true → LeavesNoName (real.files_now t)
  no_name full =
      let last = sees.names.full full in
      let at = at_found v.layout Counter (get (real.files_now t) (machine_name v.layout Counter)) (found w.disk Counter) (Number last.0) last.1 ((now_read v.layout no_others t.first t.operations w.disk store.trace).read Counter tt) in
      record { number = last.0; line = text_there (real.files_now t) (only_name TxnCurrent) at.0 IsBase36Line last.0 at.1 at.2; last = last.2 }

  pub leaves : Leaves v t
  leaves = record {
    history = w.history;
    is_history = store.kept.history;
    begins = (drop v.pass.seen w.history, take_drop v.pass.seen w.history ∙ ap (λ l. l ++ drop v.pass.seen w.history) (sym sees.seen));
    least = met.least;
    doubt = doubt w.lock;
    follows = if_doubtful (Follows w.history) w.lock store.kept.next;
    moments = λ m i. has_past v.opened m (met.safe m i) (met.own m i).0;
    now = all_now;
    own = met.own;
    whole = λ m i r x at.
        let g = all_now m i in
        let here : slice_get w.history r ≡ Some x = get_taken v.pass.seen r w.history x (ap (λ l. slice_get l r) (sym sees.seen) ∙ at) in
        g.3.each r x (part_has w.history g.0 (doubt w.lock) g.1 g.2 r x here);
    named = λ m i.
        let g = all_now m i in
        let n = g.3.names in
        record { text = n.text; there = n.there; number = n.number; line = n.line; from = omega (arith, n.last, g.2, seen_within w (view_of v) sees) };
    full = no_name;
    once = met.apart;
    all = met.all;
    added = met.added;
    left = met.left;
    calm = met.calm;
  }

-- where the disk tells
pub leaves_so : (told : Option Trace) (v : SeatView) → ((t : Trace) → told ≡ Some t → IsMet v t) → IfSome told (λ t. Leaves v t)
leaves_so None v met = tt
leaves_so (Some t) v met = leaves v t (met t refl)
