-- What is known of a store as it is opened.
use Rattle.std.specs.Prelude.{◌≡◌, ℕ, List, length, None, Some, Result, Ok, Err, slice_get}
use Rattle.fsfs_base.specs.Files.{Files}
use Rattle.fsfs_tree.specs.Revisions.{Revision}
use Rattle.fsfs_layout.specs.Opening.{SmallTexts, SaysFormat, small_texts}
use Rattle.fsfs_layout.specs.declared.layout.Layout.{Layout}
use Rattle.fsfs_layout.specs.declared.opened.Opened.{Opened}
use Rattle.fsfs_layout.specs.declared.small_files.format_file.FormatFile.TheVariants.{Known}
use Rattle.fsfs_revision.specs.RevBytes.{rev_bytes}
use Rattle.fsfs_disk.specs.Trace.{Trace, files_now}
use Rattle.fsfs_base.specs.declared.places.open_fault.OpenFault.{OpenFault}
use Rattle.fsfs_create.specs.Deciding.{Decides}
use Rattle.fsfs_machine.specs.declared.machine.Recorded.{Recorded}
use Rattle.fsfs_machine.specs.Machine.{first_pass, revisions}
use Rattle.fsfs_turn.specs.Opening.{given_before, opened_at}
use Rattle.fsfs_turn.specs.Views.{View}

-- the files have the bytes beside each revision, packed or not, however they say that they are laid out
abbrev pub HoldBytes : Files → List Recorded → Type 0
HoldBytes m h = (layout : Layout) → SaysFormat (small_texts m) (Known layout) → (r : ℕ) (x : Recorded) → slice_get h r ≡ Some x → rev_bytes layout m r ≡ Ok x.bytes

-- A pass has seen all of this history, and knows this floor, and is in no section; of images it is spoken from this opening on, which made
-- the names firm by the operation after those of the trace, and had so many revisions. The files then had the bytes of each. It left none in doubt.
abbrev pub HasSeenAll : (View → Type 0) → Trace → ℕ → ℕ → List Revision → Type 0
HasSeenAll knows t floor named h = (v : View) × knows v × (v.section ≡ None) × (v.pass ≡ first_pass (length h) floor) × (revisions v.seen ≡ h) × (v.since ≡ opened_at t.first t.operations) × (v.opened ≡ length h) × (v.given ≡ given_before named) × HoldBytes (files_now t) v.seen × (v.left ≡ None)

abbrev pub said_by : {X Y : Type 0} → (X → Opened) → (Y → OpenFault) → Result X Y → Result Opened OpenFault
said_by said why (Ok x) = Ok (said x)
said_by said why (Err y) = Err (why y)

-- the small files decide the answer
abbrev pub DecidesSo : {X Y : Type 0} → SmallTexts → Result X Y → (X → Opened) → (Y → OpenFault) → Type 0
DecidesSo s result said why = Decides s (said_by said why result)
