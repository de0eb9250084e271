-- How many bytes the text of a transaction has at most.
use Rattle.std.specs.Prelude.{◌+◌, ◌*◌, ◌≤◌, ℕ, List, length, Option, Some, None, sum_by}
use Rattle.fsfs_noderev.specs.declared.changes.item.ChangeItem.{ChangeItem}
use Rattle.fsfs_revision.specs.Shows.Reading.{Pairs, DirEntry}
use Rattle.fsfs_revision.specs.EntryRooms.{pairs_room, entries_room}
use Rattle.fsfs_draft.specs.Own.{Own}
use Rattle.fsfs_draft.specs.Drafts.{Kept}
use Rattle.fsfs_final.specs.Order.Orders.{IsOrder}

-- a list in its representation
abbrev pub list_room : Option (List DirEntry) → ℕ
list_room None = 17
list_room (Some entries) = entries_room entries + 17

abbrev pub set_room : Option Pairs → ℕ
set_room None = 17
set_room (Some pairs) = pairs_room pairs + 17

-- a node-revision with its lists
abbrev pub kept_room : Kept → ℕ
kept_room k = list_room k.entries + set_room k.props + 65536

-- the node-revisions, the items, and the trailer
abbrev pub text_room : List Kept → List ChangeItem → ℕ
text_room ks items = sum_by kept_room ks + 8353 * length items + 43

-- of the own node-revisions, each of them once, and the items
abbrev pub IsWithinRoom : Own → List ChangeItem → List ℕ → Type 0
IsWithinRoom own items text = (ks : List Kept) × IsOrder own ks × (length text ≤ text_room ks items)
