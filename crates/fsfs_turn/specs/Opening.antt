-- Which stores are known as they are opened.
use Rattle.std.specs.Prelude.{◌≡◌, ◌+◌, ℕ, zero, suc, List, [], ◌∷◌, length, false, Some, None}
use Rattle.fsfs_base.specs.Files.{Files}
use Rattle.fsfs_base.specs.FirstRevision.{first_bytes}
use Rattle.fsfs_tree.specs.Dated.{date_name}
use Rattle.fsfs_tree.specs.Revisions.{Revision}
use Rattle.fsfs_disk.specs.Labels.{Label}
use Rattle.fsfs_disk.specs.Trace.{Operation, Done, FirmNames, files_after}
use Rattle.fsfs_stands.specs.Files.{StandsFor}
use Rattle.fsfs_stands.specs.NewRepository.{HoldsNew}
use Rattle.fsfs_machine.specs.declared.machine.Recorded.{Recorded}
use Rattle.fsfs_machine.specs.Machine.{first_revision, first_pass, revisions}
use Rattle.fsfs_turn.specs.declared.since.Since.{Since}
use Rattle.fsfs_turn.specs.Views.{View}
use Rattle.fsfs_turn.specs.Alone.{KnowsAlone}

-- the moment behind an opening, which made the names firm after these operations; whose passes don't pack
abbrev pub opened_at : Files → List Operation → Since
opened_at first before = record { operations = length before + 1; files = files_after first before; packs = false }

-- revision 0, with the bytes beside it
abbrev pub new_revision : List ℕ → Recorded
new_revision date = first_revision ((date_name, date) ∷ []) first_bytes

-- Of a disk that has just made its names firm, and whose files are those of a new repository, it is known: a pass that is alone has seen
-- revision 0, and is in no section. Images are spoken of from now on.
abbrev pub NewStoreIsKnown : Type 0
NewStoreIsKnown = (first : Files) (labels : List Label) (before : List Operation) (date : List ℕ) (new : HoldsNew (files_after first before) date)
    → (v : View) × KnowsAlone new.layout 0 0 None (Some (record { first = first; labels = labels; operations = Done FirmNames ∷ before })) v
    × (v.section ≡ None) × (v.pass ≡ first_pass 1 0) × (v.seen ≡ new_revision date ∷ []) × (v.since ≡ opened_at first before)

-- the name before this number, which stands for all that were given before
abbrev pub given_before : ℕ → List ℕ
given_before zero = []
given_before (suc n) = n ∷ []

-- Of a disk that has just made its names firm, and whose files stand for a history, it is known: a pass that
-- is alone has seen all of it, and is in no section. It knows that all names below the number in `txn-current` are given. Images are spoken of from
-- now on.
abbrev pub StoreIsKnown : Type 0
StoreIsKnown = (first : Files) (labels : List Label) (before : List Operation) (h : List Revision) (s : StandsFor (files_after first before) h)
    → (v : View) × KnowsAlone s.opened.layout s.opened.min_unpacked_rev s.opened.youngest None (Some (record { first = first; labels = labels; operations = Done FirmNames ∷ before })) v
    × (v.section ≡ None) × (v.pass ≡ first_pass (length h) s.opened.min_unpacked_rev) × (revisions v.seen ≡ h) × (v.since ≡ opened_at first before) × (v.given ≡ given_before s.opened.next_txn.number)
