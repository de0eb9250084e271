-- The floor that the files of a store show, where its pass is alone.
use Rattle.std.proofs.Common.{◌≡◌, ◌+◌, ◌≤◌, ℕ, length, false, ap, subst, ◌∙◌, arith}
use Rattle.std.specs.Prelude.{Option, Some, None, Ok}
use Rattle.fsfs_base.specs.Fields.RevNums.{last_rev}
use Rattle.fsfs_base.specs.Files.{Files}
use Rattle.fsfs_base.specs.declared.places.place.DiskPlace.{DiskPlace}
use Rattle.fsfs_layout.specs.FileNames.{only_name}
use Rattle.fsfs_layout.specs.Opening.{text_at}
use Rattle.fsfs_layout.specs.Small.{IsMinUnpackedRevIn}
use Rattle.fsfs_layout.specs.declared.format.Format.{Format}
use Rattle.fsfs_layout.specs.declared.format.Format.TheVariants.{Four}
use Rattle.fsfs_layout.specs.declared.layout.Layout.{Layout}
use Rattle.fsfs_layout.specs.declared.only_file.OnlyFile.TheVariants.{MinUnpackedRev}
use Rattle.fsfs_revision.specs.RevBytes.{floor_in}
use Rattle.fsfs_disk.specs.Trace.{Trace, files_now}
use Rattle.fsfs_images.proofs.Showing.{now_read}
use Rattle.fsfs_machine.specs.declared.machine.Section.{Section}
use Rattle.fsfs_machine.specs.Disk.{found}
use Rattle.fsfs_machine.specs.declared.contents.FileName.TheVariants.{Floor}
use Rattle.fsfs_machine.specs.Machine.{World}
use Rattle.fsfs_machine.specs.Kept.{FloorBy, FloorIs, IsSeen, may_rise, most_floor, rises}
use Rattle.fsfs_machine.proofs.Answering.{seen_of}
use Rattle.fsfs_machine.proofs.Images.{read_is_image}
use Rattle.fsfs_machine.proofs.Standing.{same_number}
use Rattle.fsfs_turn.specs.Found.{floor_now, floor_read, shows_now}
use Rattle.fsfs_turn.specs.Standing.{no_others, IsStore, Knows}
use Rattle.fsfs_turn.specs.Views.{View}
use Rattle.fsfs_turn.proofs.Locking.{free}
use Rattle.fsfs_turn.proofs.Stepping.{lock_is}

-- these files show this floor, which is a revision's number and no greater than that of the revision to come
pub record ShowsFloor (layout : Layout) (m : Files) (count f : ℕ) : Type 0 where
  pub is : floor_in layout m ≡ Ok f
  pub most : f ≤ count
  pub fits : f ≤ last_rev

-- the floor of the disk is shown, whichever it is
shown_floor : (layout : Layout) (low young : ℕ) (stuck : Option DiskPlace) (t : Trace) (w : World) (store : IsStore layout low young stuck t w) → (f : ℕ) → (shows_now layout low young stuck t w store).floor ≡ f → ShowsFloor layout (files_now t) (length w.history) f
shown_floor layout low young stuck t w store f same =
    let shown = shows_now layout low young stuck t w store in
    let text = floor_read layout shown.floor (files_now t) w.disk (now_read layout no_others t.first t.operations w.disk store.trace) shown.is shown.whole in
    let line = subst (λ (k : Format). IsMinUnpackedRevIn k layout (text_at (files_now t) (only_name MinUnpackedRev)) shown.floor) shown.whole.packs.format text in
    subst (λ (n : ℕ). ShowsFloor layout (files_now t) (length w.history) n) same (record { is = floor_now layout low young stuck t w store; most = shown.most; fits = line.0.fits })

-- it is the firm one where none is to come
firm_one : (layout : Layout) (low young : ℕ) (stuck : Option DiskPlace) (t : Trace) (w : World) (store : IsStore layout low young stuck t w) → may_rise w.lock ≡ false → (shows_now layout low young stuck t w store).floor ≡ w.floor
firm_one layout low young stuck t w store rests =
    let is : FloorIs w.floor w.disk = subst (λ b. FloorBy b w.size w.floor w.disk) rests (store.kept.floors w.disk (read_is_image w.disk)) in
    same_number (found w.disk Floor) (shows_now layout low young stuck t w store).floor w.floor (shows_now layout low young stuck t w store).is is

-- all revisions that there are
long : (layout : Layout) (low young : ℕ) (stuck : Option DiskPlace) (t : Trace) (v : View) (known : Knows layout low young stuck (Some t) v) → length known.0.history ≡ young + 1
long layout low young stuck t v known = let up : known.0.young + 1 ≡ length known.0.history = known.1.kept.young known.2.up in omega (arith, up, known.1.young_is)

-- While the lock is held in a section that doesn't raise it, the floor that the pass knows to be firm is shown.
pub floor_firm : (layout : Layout) (low young : ℕ) (stuck : Option DiskPlace) (t : Trace) (v : View) (s : Section) (f : ℕ) → Knows layout low young stuck (Some t) v → v.section ≡ Some s → rises s ≡ false → v.firm ≡ Some f → ShowsFloor layout (files_now t) (young + 1) f
floor_firm layout low young stuck t v s f known held quiet firm =
    let w = known.0 in
    let rests : may_rise w.lock ≡ false = ap may_rise (lock_is v.number w.lock s (known.2.section ∙ held)) ∙ quiet in
    subst (λ (n : ℕ). ShowsFloor layout (files_now t) n f) (long layout low young stuck t v known)
    (shown_floor layout low young stuck t w known.1 f (firm_one layout low young stuck t w known.1 rests ∙ known.2.firm s f held firm))

-- The floor that a pass in no section has read is no greater than the one that the files show.
pub floor_seen : (layout : Layout) (low young : ℕ) (stuck : Option DiskPlace) (t : Trace) (v : View) → Knows layout low young stuck (Some t) v → v.section ≡ None → stuck ≡ None → (f : ℕ) × ShowsFloor layout (files_now t) (young + 1) f × (v.pass.floor ≤ f)
floor_seen layout low young stuck t v known outside unstuck =
    let w = known.0 in
    let store = known.1 in
    let rests : may_rise w.lock ≡ false = ap may_rise (free layout low young stuck t w v store known.2 known.3 known.4 known.5 known.6 known.7 outside unstuck) in
    let seen : IsSeen (length w.history) w.low (most_floor (may_rise w.lock) w.size w.floor) v.pass = seen_of (length w.history) w.low (most_floor (may_rise w.lock) w.size w.floor) w.passes v.number v.pass store.kept.seen known.2.pass in
    let most : v.pass.floor ≤ w.floor = subst (λ b. v.pass.floor ≤ most_floor b w.size w.floor) rests seen.floor in
    (w.floor, subst (λ (n : ℕ). ShowsFloor layout (files_now t) n w.floor) (long layout low young stuck t v known) (shown_floor layout low young stuck t w store w.floor (firm_one layout low young stuck t w store rests)), most)
