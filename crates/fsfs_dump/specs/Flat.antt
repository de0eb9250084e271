-- The dump of a history of the flat model: its text; or the text before the first record that has a text which is not read, and the place of that.
use Rattle.std.specs.Prelude.{ℕ, suc, Bool, true, false, List, [], ◌∷◌, ◌++◌, Option, Some, None}
use Rattle.std.specs.FinMap.{get, entries}
use Rattle.fsfs_base.specs.Paths.{Path}
use Rattle.fsfs_base.specs.declared.action.Action.{Action}
use Rattle.fsfs_base.specs.declared.action.Action.TheVariants.{Add, Delete, Replace, Modify}
use Rattle.fsfs_tree.specs.declared.change_map.Change.{Change}
use Rattle.fsfs_tree.specs.Nodes.{Node, Content, Bytes, Closed, TreeFunction}
use Rattle.fsfs_tree.specs.Revisions.{Revision}
use Rattle.fsfs_tree.specs.ChangedTexts.{in_text_order}
use Rattle.fsfs_dump.specs.Records.{dump_head, revision_record, delete_record, change_records}

-- a text, and the place at which it is cut off, where it is: the revision and the offset of a text that is not read
abbrev pub CutText : Type 0
CutText = List ℕ × Option (ℕ × ℕ)

abbrev pub uncut : List ℕ → CutText
uncut text = (text, None)

-- one behind another, if that is not cut off
abbrev pub behind : CutText → CutText → CutText
behind (text, None) rest = (text ++ rest.0, rest.1)
behind (text, Some at) rest = (text, Some at)

-- a value that stands in a record where it was set
abbrev pub if_set : {A : Type 0} → Bool → A → Option A
if_set false a = None
if_set true a = Some a

-- the records of a path by its text, if that was set
abbrev pub with_content : (Option (List ℕ) → List ℕ) → Bool → Content → CutText
with_content records false text = uncut (records None)
with_content records true (Bytes bytes) = uncut (records (Some bytes))
with_content records true (Closed rev offset) = ([], Some (rev, offset))

-- the records of a path that has this change, at which this node stands then
abbrev pub node_records : Path → Change → Option Node → CutText
node_records path change None = uncut []
node_records path change (Some node) = with_content (change_records path change.action change.kind change.source (if_set change.props_changed node.properties)) change.text_changed node.text

abbrev pub records_by : TreeFunction → Path → Change → Action → CutText
records_by tree path change Delete = uncut (delete_record path)
records_by tree path change Add = node_records path change (tree path)
records_by tree path change Replace = node_records path change (tree path)
records_by tree path change Modify = node_records path change (tree path)

abbrev pub path_records : TreeFunction → Path × Change → CutText
path_records tree e = records_by tree e.0 e.1 e.1.action

abbrev pub changes_dump : TreeFunction → List (Path × Change) → CutText
changes_dump tree [] = uncut []
changes_dump tree (e ∷ es) = behind (path_records tree e) (changes_dump tree es)

-- of a revision: its properties, and its changed paths in the order of the bytes of their texts
abbrev pub revision_dump : ℕ → Revision → CutText
revision_dump rev revision = behind (uncut (revision_record rev revision.properties)) (changes_dump (get revision.tree) (in_text_order (entries revision.changes)))

-- of revisions from this number on
abbrev pub revisions_dump : ℕ → List Revision → CutText
revisions_dump first [] = uncut []
revisions_dump first (revision ∷ revisions) = behind (revision_dump first revision) (revisions_dump (suc first) revisions)

-- of a history, of a repository of this identifier
abbrev pub history_dump : List ℕ → List Revision → CutText
history_dump uuid history = behind (uncut (dump_head uuid)) (revisions_dump 0 history)
