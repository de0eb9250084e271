-- New nodes, deletes and copies over a tree: which row applies.
use Rattle.std.proofs.Common.{◌≡◌, ◌<◌, ◌≤◌, ◌-◌, ◌⊎◌, ℕ, suc, Bool, true, false, ltb, ◌&&◌, [], ◌∷◌, length, take, refl, sym, ap, subst, ◌∙◌, inl, inr, arith}
use Rattle.std.proofs.lemmas.Bool.{and_parts, ltb-true, ltb-false}
use Rattle.std.proofs.lemmas.List.{take-take, length-take-le}
use Rattle.std.specs.Prelude.{Option, Some, None, is_some, not, if◌then◌else◌}
use Rattle.fsfs_base.specs.Paths.{Path, is_root, is_above}
use Rattle.fsfs_base.specs.declared.kind.Kind.{Kind}
use Rattle.fsfs_base.specs.declared.kind.Kind.TheVariants.{File, Dir}
use Rattle.fsfs_tree.specs.Nodes.{Node, TreeFunction}
use Rattle.fsfs_tree.specs.Trees.{IsTree}
use Rattle.fsfs_model.specs.Flat.Edits.{parent, is_dir, is_dir_node, can_make}
use Rattle.fsfs_tree.specs.Answers.{Found, Lacking, Blocked, found_at}
use Rattle.fsfs_draft.specs.Walks.{HasKind}
use Rattle.fsfs_draft.proofs.OwnEntries.{has_kind}
use Rattle.fsfs_revision.specs.Shows.ByTree.{LacksAt, IsBlockedAt}
use Rattle.fsfs_edit.specs.Ways.{IsNoDirectory}
use Rattle.fsfs_edit.proofs.Bare.{dir_kind}
use Rattle.fsfs_txn.specs.Standing.{IsFree}
use Rattle.fsfs_cli.specs.declared.faults.fault.Fault.{Fault}
use Rattle.fsfs_cli.specs.declared.faults.fault.Fault.TheVariants.{Request}
use Rattle.fsfs_cli.specs.declared.faults.request_fault.RequestFault.TheVariants.{NotFound, NotDir}
use Rattle.fsfs_jobs.specs.Edits.{or_else, unfound, no_dir, taken, make_fault}
use Rattle.fsfs_jobs.specs.JobEdits.Answers.{found_nothing, found_file, is_there}
use Rattle.fsfs_jobs.proofs.FoundLemmas.{above_longer, cut_path, stands_found, lacks_found, blocked_found}

-- ---- nodes

pub node_of : (o : Option Node) (kind : Kind) → HasKind o kind → (n : Node) × (o ≡ Some n) × (n.kind ≡ kind)
node_of None kind h = absurd h
node_of (Some n) kind h = (n, refl, h)

pub some_node : (o : Option Node) → is_some o ≡ true → (n : Node) × (o ≡ Some n)
some_node None h = absurd cc
some_node (Some n) h = (n, refl)

pub no_node : (o : Option Node) → not (is_some o) ≡ true → o ≡ None
no_node None h = refl
no_node (Some n) h = absurd cc

-- ---- the path above

pub above_length : (path : Path) → length (parent path) ≡ length path - 1
above_length path = length-take-le (length path - 1) path (omega arith)

-- so many first names of the path above
pub take_above : (path : Path) (depth : ℕ) → depth ≤ length (parent path) → take depth (parent path) ≡ take depth path
take_above path depth le = take-take depth (length path - 1) path (omega (arith, le, above_length path))

-- all of them
pub take_parent : (path : Path) (depth : ℕ) → depth ≡ length (parent path) → take depth path ≡ parent path
take_parent path depth e = ap (λ (k : ℕ). take k path) (e ∙ above_length path)

-- a directory stands above what stands in a tree
pub dir_above : (t : TreeFunction) → IsTree t → (path : Path) → is_some (t path) ≡ true → HasKind (t (parent path)) Dir
dir_above t tree [] there = has_kind (t []) tree.root.0 Dir tree.root.1 tree.root.2
dir_above t tree (x ∷ p) there =
    let c = cut_path (x ∷ p) (length (x ∷ p) - 1) (omega arith) in
    let up : is_above (parent (x ∷ p)) (x ∷ p) ≡ true = subst (λ (q : Path). is_above (parent (x ∷ p)) q ≡ true) c.whole (above_longer (parent (x ∷ p)) c.name c.rest) in
    let d = tree.above (parent (x ∷ p)) (x ∷ p) up there in
    has_kind (t (parent (x ∷ p))) d.0 Dir d.1 d.2

-- ---- a directory is wanted

pub no_dir_in_dir : (t : TreeFunction) → IsTree t → (path : Path) → HasKind (t path) Dir → no_dir path (found_at t path) ≡ None
no_dir_in_dir t tree path h =
    let n = node_of (t path) Dir h in
    ap (no_dir path) (stands_found t tree path n.0 n.1) ∙ ap (λ (k : Kind). if is_dir k then None else Some (Request (NotDir path))) n.2

no_dir_at_file : (t : TreeFunction) → IsTree t → (path : Path) → HasKind (t path) File → no_dir path (found_at t path) ≡ Some (Request (NotDir path))
no_dir_at_file t tree path h =
    let n = node_of (t path) File h in
    ap (no_dir path) (stands_found t tree path n.0 n.1) ∙ ap (λ (k : Kind). if is_dir k then None else Some (Request (NotDir path))) n.2

-- ---- a new node

pub free_fits : (t : TreeFunction) → IsTree t → (path : Path) → IsFree t path → make_fault t path ≡ None
free_fits t tree path f = ap (λ (o : Option Fault). or_else o (taken path (t path))) (no_dir_in_dir t tree (parent path) f.0) ∙ ap (taken path) f.1

pub can_free : (t : TreeFunction) (path : Path) → can_make t path ≡ true → IsFree t path
can_free t path h =
    let a = and_parts (not (is_root path) && not (is_some (t path))) (is_dir_node (t (parent path))) h in
    let b = and_parts (not (is_root path)) (not (is_some (t path))) a.0 in
    (dir_kind (t (parent path)) a.1, no_node (t path) b.1)

pub lacks_make : (t : TreeFunction) → IsTree t → (path : Path) (depth : ℕ) → LacksAt t (parent path) depth → make_fault t path ≡ Some (found_nothing path depth)
lacks_make t tree path depth l =
    let found : found_at t (parent path) ≡ Lacking (take depth path) = lacks_found t tree (parent path) depth l ∙ ap (λ (q : Path). Lacking q) (take_above path depth l.within) in
    ap (λ (f : Found). or_else (no_dir (parent path) f) (taken path (t path))) found

pub file_make : (t : TreeFunction) → IsTree t → (path : Path) (depth : ℕ) → IsNoDirectory t (parent path) depth → make_fault t path ≡ Some (found_file path depth)
file_make t tree path depth (inl b) =
    let found : found_at t (parent path) ≡ Blocked (take depth path) = blocked_found t tree (parent path) depth b ∙ ap (λ (q : Path). Blocked q) (take_above path depth (omega (arith, b.within))) in
    ap (λ (f : Found). or_else (no_dir (parent path) f) (taken path (t path))) found
file_make t tree path depth (inr b) =
    let found : no_dir (parent path) (found_at t (parent path)) ≡ Some (Request (NotDir (parent path))) = no_dir_at_file t tree (parent path) b.1 in
    ap (λ (o : Option Fault). or_else o (taken path (t path))) found ∙ ap (λ (q : Path). Some (Request (NotDir q))) (sym (take_parent path depth b.0))

pub there_make : (t : TreeFunction) → IsTree t → (path : Path) → is_some (t path) ≡ true → make_fault t path ≡ Some (is_there path)
there_make t tree path there =
    let n = some_node (t path) there in
    ap (λ (o : Option Fault). or_else o (taken path (t path))) (no_dir_in_dir t tree (parent path) (dir_above t tree path there)) ∙ ap (taken path) n.1

-- the first names of a path lead to nothing, and not all of them
pub lacks_in_parent : (t : TreeFunction) (path : Path) (depth : ℕ) → depth ≤ length (parent path) → LacksAt t path depth → LacksAt t (parent path) depth
lacks_in_parent t path depth le l = record {
  above = l.above;
  depth_is = l.depth_is;
  within = le;
  nothing = ap t (take_above path depth le) ∙ l.nothing;
  dir = l.dir;
  dir_is = ap t (take_above path l.above (omega (arith, l.depth_is, le))) ∙ l.dir_is;
  kind = l.kind;
}

-- a file is on the way, or stands above
no_dir_of : (t : TreeFunction) (path : Path) (depth : ℕ) → IsBlockedAt t path depth → (depth < length (parent path)) ⊎ (depth ≡ length (parent path)) → IsNoDirectory t (parent path) depth
no_dir_of t path depth b (inl lt) = inl (record { within = lt; file = b.file; file_is = ap t (take_above path depth (omega (arith, lt))) ∙ b.file_is; kind = b.kind })
no_dir_of t path depth b (inr e) = inr (e, has_kind (t (parent path)) b.file File (ap t (sym (take_parent path depth e)) ∙ b.file_is) b.kind)

less_or_same : (a b : ℕ) → a ≤ b → (a < b) ⊎ (a ≡ b)
less_or_same a b le = by (ltb a b) refl
  where
    by : (t : Bool) → ltb a b ≡ t → (a < b) ⊎ (a ≡ b)
    by true e = inl (ltb-true a b e)
    by false e = let back = ltb-false a b e in inr (omega (arith, le, back))

pub blocked_make : (t : TreeFunction) → IsTree t → (path : Path) (depth : ℕ) → IsBlockedAt t path depth → make_fault t path ≡ Some (found_file path depth)
blocked_make t tree path depth b = file_make t tree path depth (no_dir_of t path depth b (less_or_same depth (length (parent path)) (omega (arith, b.within, above_length path))))

-- ---- what is found at a path itself

pub lacks_unfound : (t : TreeFunction) → IsTree t → (path : Path) (depth : ℕ) → LacksAt t path depth → unfound (found_at t path) ≡ Some (found_nothing path depth)
lacks_unfound t tree path depth l = ap unfound (lacks_found t tree path depth l)

pub file_unfound : (t : TreeFunction) → IsTree t → (path : Path) (depth : ℕ) → IsBlockedAt t path depth → unfound (found_at t path) ≡ Some (found_file path depth)
file_unfound t tree path depth b = ap unfound (blocked_found t tree path depth b)

pub there_found : (t : TreeFunction) → IsTree t → (path : Path) → is_some (t path) ≡ true → unfound (found_at t path) ≡ None
there_found t tree path there = let n = some_node (t path) there in ap unfound (stands_found t tree path n.0 n.1)

-- below the path above
lacks_above : (t : TreeFunction) → IsTree t → (path : Path) (depth : ℕ) → LacksAt t (parent path) depth → LacksAt t path depth
lacks_above t tree path depth l =
    let same : take depth (parent path) ≡ take depth path = take_above path depth l.within in
    let up : take l.above (parent path) ≡ take l.above path = take_above path l.above (omega (arith, l.depth_is, l.within)) in
    record {
      above = l.above;
      depth_is = l.depth_is;
      within = omega (arith, l.within, above_length path);
      nothing = ap t (sym same) ∙ l.nothing;
      dir = l.dir;
      dir_is = ap t (sym up) ∙ l.dir_is;
      kind = l.kind;
    }

pub lacks_above_unfound : (t : TreeFunction) → IsTree t → (path : Path) (depth : ℕ) → LacksAt t (parent path) depth → unfound (found_at t path) ≡ Some (found_nothing path depth)
lacks_above_unfound t tree path depth l = lacks_unfound t tree path depth (lacks_above t tree path depth l)

pub file_above_unfound : (t : TreeFunction) → IsTree t → (path : Path) (depth : ℕ) → depth < length path → IsNoDirectory t (parent path) depth → unfound (found_at t path) ≡ Some (found_file path depth)
file_above_unfound t tree path depth lt (inl b) = file_unfound t tree path depth (record { within = lt; file = b.file; file_is = ap t (sym (take_above path depth (omega (arith, b.within)))) ∙ b.file_is; kind = b.kind })
file_above_unfound t tree path depth lt (inr b) =
    let n = node_of (t (parent path)) File b.1 in
    file_unfound t tree path depth (record { within = lt; file = n.0; file_is = ap t (take_parent path depth b.0) ∙ n.1; kind = n.2 })

-- nothing of the name stands in the directory above
pub free_unfound : (t : TreeFunction) → IsTree t → (path : Path) → 0 < length path → IsFree t path → unfound (found_at t path) ≡ Some (Request (NotFound path))
free_unfound t tree path some f =
    let n = node_of (t (parent path)) Dir f.0 in
    let up : suc (length path - 1) ≡ length path = omega (arith, some) in
    let whole : take (length path) path ≡ path = take_whole path in
    lacks_unfound t tree path (length path) (record {
      above = length path - 1;
      depth_is = sym up;
      within = omega arith;
      nothing = ap t whole ∙ f.1;
      dir = n.0;
      dir_is = n.1;
      kind = n.2;
    }) ∙ ap (λ (q : Path). Some (Request (NotFound q))) whole
  where
    take_whole : (p : Path) → take (length p) p ≡ p
    take_whole [] = refl
    take_whole (x ∷ p) = ap (λ (q : Path). x ∷ q) (take_whole p)
