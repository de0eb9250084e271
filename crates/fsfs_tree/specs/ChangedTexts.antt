-- The text of the changed paths of a revision: a line for each. (It is the text of Subversion's own `svnlook changed`; the order of the
-- lines by the bytes of paths, and the kind of what a replace took away, are this project's profile.)
use Rattle.std.specs.Prelude.{ℕ, zero, suc, Bool, true, false, nat_le, List, [], ◌∷◌, ◌++◌, length, take, drop, map, Option, Some, None, codes, if◌then◌else◌}
use Rattle.std.specs.List.{flat_map}
use Rattle.std.specs.BTreeMap.{insert_entry}
use Rattle.std.specs.Cmp.Lexicographic.{slice_cmp}
use Rattle.std.specs.Ordering.{nat_cmp}
use Rattle.std.specs.FinMap.{FinMap, get, entries}
use Rattle.fsfs_base.specs.Paths.{Path, path_cmp, path_text}
use Rattle.fsfs_base.specs.declared.kind.Kind.{Kind}
use Rattle.fsfs_base.specs.declared.action.Action.{Action}
use Rattle.fsfs_base.specs.declared.action.Action.TheVariants.{Add, Delete, Replace, Modify}
use Rattle.fsfs_tree.specs.declared.change_map.Change.{Change}
use Rattle.fsfs_tree.specs.Nodes.{Node, TreeFunction}
use Rattle.fsfs_tree.specs.TreeTexts.{kind_mark}

-- ---- things by a text of each, in the order of the bytes of these

abbrev pub put_by : {A : Type 0} → (A → List ℕ) → List (List ℕ × A) → List A → List (List ℕ × A)
put_by text found [] = found
put_by text found (x ∷ xs) = put_by text (insert_entry (slice_cmp nat_cmp) found (text x) x) xs

abbrev pub in_text_order : List (Path × Change) → List (Path × Change)
in_text_order changes = map (λ e. e.1) (put_by (λ e. path_text e.0) [] changes)

-- ---- where what a replace took away stood

abbrev pub below_source : Option (ℕ × Path) → Path → Option (ℕ × Path) → Option (ℕ × Path)
below_source None rest other = other
below_source (Some from) rest other = Some (from.0, from.1 ++ rest)

-- below the source of the nearest path above, of fewer than `depth` names, that has one
abbrev pub nearest_source : (Path → Option (ℕ × Path)) → Path → (depth : ℕ) → Option (ℕ × Path)
nearest_source sources p zero = None
nearest_source sources p (suc k) = below_source (sources (take k p)) (drop k p) (nearest_source sources p k)

-- the path in the revision before; before the first there is none
abbrev pub place_before : ℕ → Path → Option (ℕ × Path)
place_before zero p = None
place_before (suc r) p = Some (r, p)

-- a place in this revision or an earlier one
abbrev pub place_upto : ℕ → ℕ × Path → Option (ℕ × Path)
place_upto rev from = if nat_le from.0 rev then Some from else None

abbrev pub or_before : ℕ → Path → Option (ℕ × Path) → Option (ℕ × Path)
or_before rev p None = place_before rev p
or_before rev p (Some from) = place_upto rev from

-- below the source of the nearest changed path above that has one, or at the path itself in the revision before
abbrev pub taken_from : ℕ → (Path → Option (ℕ × Path)) → Path → Option (ℕ × Path)
taken_from rev sources p = or_before rev p (nearest_source sources p (length p))

abbrev pub source_of_change : Option Change → Option (ℕ × Path)
source_of_change None = None
source_of_change (Some change) = change.source

-- the kind of a node, or this one where there is none
abbrev pub kind_or : Kind → Option Node → Kind
kind_or kind None = kind
kind_or kind (Some node) = node.kind

abbrev pub node_of_place : (ℕ → TreeFunction) → Option (ℕ × Path) → Option Node
node_of_place tree None = None
node_of_place tree (Some from) = tree from.0 from.1

-- the kind of what stood there; or that of the replace
abbrev pub taken_kind : ℕ → (ℕ → TreeFunction) → (Path → Option Change) → Path → Kind → Kind
taken_kind rev tree changes p kind = kind_or kind (node_of_place tree (taken_from rev (λ q. source_of_change (changes q)) p))

-- ---- lines

-- the status, two blanks, the path without its first `/`, and `/` for a directory
abbrev pub changed_line : List ℕ → Path → Kind → List ℕ
changed_line status p kind = status ++ codes "  " ++ drop 1 (path_text p) ++ kind_mark kind ++ codes "\n"

-- by whether the text was changed, and whether properties were
abbrev pub modified_line : Bool → Bool → Path → Kind → List ℕ
modified_line false false p kind = []
modified_line true false p kind = changed_line (codes "U ") p kind
modified_line false true p kind = changed_line (codes "_U") p kind
modified_line true true p kind = changed_line (codes "UU") p kind

-- of a replace, what was taken away and what came
abbrev pub replaced_lines : Path → (taken kind : Kind) → List ℕ
replaced_lines p taken kind = changed_line (codes "D ") p taken ++ changed_line (codes "A ") p kind

-- of a path, the kind of what a replace took away and its change
abbrev pub action_lines : Path → Kind → Change → Action → List ℕ
action_lines p taken change Add = changed_line (codes "A ") p change.kind
action_lines p taken change Delete = changed_line (codes "D ") p change.kind
action_lines p taken change Replace = replaced_lines p taken change.kind
action_lines p taken change Modify = modified_line change.text_changed change.props_changed p change.kind

abbrev pub change_lines : ℕ → (ℕ → TreeFunction) → (Path → Option Change) → Path × Change → List ℕ
change_lines rev tree changes e = action_lines e.0 (taken_kind rev tree changes e.0 e.1.kind) e.1 e.1.action

-- of a revision with these changed paths, over the trees of all revisions
abbrev pub changed_text : ℕ → (ℕ → TreeFunction) → FinMap path_cmp Change → List ℕ
changed_text rev tree changes = flat_map (change_lines rev tree (get changes)) (in_text_order (entries changes))
