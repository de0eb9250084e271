-- The text of the changed paths of a revision, as it is read. (It is the text of Subversion's own `svnlook changed`; the order of the
-- lines by the bytes of paths, and the kind of what a replace took away, are this project's profile.)
use Rattle.std.specs.Prelude.{◌≡◌, ◌⊎◌, ℕ, Bool, true, false, ◌&&◌, nat_le, List, [], ◌∷◌, ◌++◌, map, Option, Some, None, option_map, Result, Ok, Err, codes}
use Rattle.std.specs.Map.{lookup}
use Rattle.std.specs.BTreeMap.{is_at}
use Rattle.std.specs.Cmp.Lexicographic.{slice_cmp}
use Rattle.std.specs.Ordering.{nat_cmp}
use Rattle.fsfs_base.specs.Paths.{Path, path_text}
use Rattle.fsfs_base.specs.declared.kind.Kind.{Kind}
use Rattle.fsfs_base.specs.declared.kind.Kind.TheVariants.{File}
use Rattle.fsfs_base.specs.declared.action.Action.{Action}
use Rattle.fsfs_base.specs.declared.action.Action.TheVariants.{Add, Delete, Replace, Modify}
use Rattle.fsfs_revision.specs.declared.wrong.Wrong.{Wrong}
use Rattle.fsfs_revision.specs.Damage.Readings.{AndThen}
use Rattle.fsfs_revision.specs.Told.{RevisionBytes}
use Rattle.fsfs_noderev.specs.declared.node_id.NodeId.{NodeId}
use Rattle.fsfs_revision.specs.Nodes.{is_revision_id}
use Rattle.fsfs_noderev.specs.declared.changes.item.ChangeItem.{ChangeItem}
use Rattle.fsfs_revision.specs.Shows.Reading.{offset_of, OfId, Met, Stands, Lacking, Blocked, MetAt}
use Rattle.fsfs_stands.specs.declared.look_fault.LookFault.TheVariants as faults
use Rattle.fsfs_stands.specs.Texts.{End, Whole, Refused, Stopped, Nothing}
use Rattle.fsfs_tree.specs.ChangedTexts.{put_by, taken_from, changed_line, modified_line, replaced_lines}
use Rattle.fsfs_stands.specs.Items.{ItemsOf}

-- ---- the items by the texts of their paths, in the order of the bytes of these

abbrev pub ByText : Type 0
ByText = List (List ℕ × ChangeItem)

abbrev pub by_text : List ChangeItem → ByText
by_text items = put_by (λ item. path_text item.path) [] items

abbrev pub in_order : ByText → List ChangeItem
in_order = map (λ e. e.1)

-- ---- kinds

abbrev pub kind_met : Kind → Met → Kind
kind_met kind (Stands v) = v.kind
kind_met kind (Lacking names) = kind
kind_met kind (Blocked names) = kind

-- the kind of what stands at a path, or this one where nothing stands there
abbrev pub KindAt : RevisionBytes → ℕ → Path → Kind → Result Kind Wrong → Type 0
KindAt look rev p kind = AndThen (MetAt look rev p) (λ met r. r ≡ Ok (kind_met kind met))

-- an id of a node-revision that this revision could name: no transaction's, and of no later revision
abbrev pub is_nameable : ℕ → NodeId → Bool
is_nameable rev id = is_revision_id id && nat_le (offset_of id.place).rev rev

abbrev pub KindUnsaid : RevisionBytes → ℕ → ChangeItem → Bool → Result Kind Wrong → Type 0
KindUnsaid look rev item true = AndThen (OfId look item.id) (λ u r. r ≡ Ok u.kind)
KindUnsaid look rev item false = KindAt look rev item.path File

-- the kind that an item says; else that of the node-revision of its id; of an id that it could not name, that of the node at its path
abbrev pub KindOf : RevisionBytes → ℕ → ChangeItem → Option Kind → Result Kind Wrong → Type 0
KindOf look rev item (Some kind) = λ r. r ≡ Ok kind
KindOf look rev item None = KindUnsaid look rev item (is_nameable rev item.id)

-- ---- what a replace took away

abbrev pub source_value : Option ChangeItem → Option (ℕ × Path)
source_value None = None
source_value (Some item) = option_map (λ s. (s.rev, s.path)) item.source

-- the copy source of the item of this path
abbrev pub source_at : ByText → Path → Option (ℕ × Path)
source_at found p = source_value (lookup (is_at (slice_cmp nat_cmp (path_text p))) found)

-- the kind of what stands at a place, or this one where there is no place or nothing stands there
abbrev pub KindFrom : RevisionBytes → Option (ℕ × Path) → Kind → Result Kind Wrong → Type 0
KindFrom look None kind = λ r. r ≡ Ok kind
KindFrom look (Some from) kind = KindAt look from.0 from.1 kind

abbrev pub TakenKind : RevisionBytes → ℕ → ByText → Path → Kind → Result Kind Wrong → Type 0
TakenKind look rev found p kind = KindFrom look (taken_from rev (source_at found) p) kind

-- ---- lines

-- the lines of an item whose kind is read
abbrev pub ActionLines : RevisionBytes → ℕ → ByText → ChangeItem → Action → Kind → Result (List ℕ) Wrong → Type 0
ActionLines look rev found item Add kind = λ r. r ≡ Ok (changed_line (codes "A ") item.path kind)
ActionLines look rev found item Delete kind = λ r. r ≡ Ok (changed_line (codes "D ") item.path kind)
ActionLines look rev found item Modify kind = λ r. r ≡ Ok (modified_line item.text_changed item.props_changed item.path kind)
ActionLines look rev found item Replace kind = AndThen (TakenKind look rev found item.path kind) (λ taken r. r ≡ Ok (replaced_lines item.path taken kind))

abbrev pub ItemLines : RevisionBytes → ℕ → ByText → ChangeItem → Result (List ℕ) Wrong → Type 0
ItemLines look rev found item = AndThen (KindOf look rev item item.kind) (ActionLines look rev found item item.action)

-- the lines of all, up to the first that isn't had; behind them the text ends so
pub data LinesText (look : RevisionBytes) (rev : ℕ) (found : ByText) (last : End) : List ChangeItem → List ℕ → End → Type 0 where
  OfNone : LinesText look rev found last [] [] last
  OfItem : (item : ChangeItem) (left : List ChangeItem) (lines text : List ℕ) (end : End) → ItemLines look rev found item (Ok lines) → LinesText look rev found last left text end
      → LinesText look rev found last (item ∷ left) (lines ++ text) end
  OfWrong : (item : ChangeItem) (left : List ChangeItem) (w : Wrong) → ItemLines look rev found item (Err w) → LinesText look rev found last (item ∷ left) [] (Refused (faults.Wrong w))
  Stops : (left : List ChangeItem) → LinesText look rev found last left [] Stopped

-- ---- the text

-- whole, but where an item was refused
abbrev pub end_of : Option Wrong → End
end_of None = Whole
end_of (Some w) = Refused (faults.Wrong w)

-- of the items, and what is wrong behind them
abbrev pub ByItems : RevisionBytes → ℕ → List ChangeItem × Option Wrong → List ℕ → End → Type 0
ByItems look rev read = LinesText look rev (by_text read.0) (end_of read.1) (in_order (by_text read.0))

abbrev pub ChangedText : RevisionBytes → ℕ → List ℕ → End → Type 0
ChangedText look rev text end =
    Nothing Stopped text end
    ⊎ (((w : Wrong) × ItemsOf look rev (Err w) × Nothing (Refused (faults.Wrong w)) text end)
    ⊎ ((read : List ChangeItem × Option Wrong) × ItemsOf look rev (Ok read) × ByItems look rev read text end))
