-- The directories that were read, with one more; and what they say of a path.
use Rattle.std.proofs.Common.{◌≡◌, ◌++◌, ℕ, Bool, true, false, List, [], ◌∷◌, cond, refl, sym, ap, subst, ◌∙◌, inl, inr, append_assoc}
use Rattle.std.specs.Prelude.{Option, Some, None, IsSome, is_some, Ok, Err, Result, if◌then◌else◌}
use Rattle.std.specs.Map.{lookup}
use Rattle.std.specs.BTreeMap.{is_at}
use Rattle.std.specs.Ordering.{is_eq}
use Rattle.fsfs_base.specs.Paths.{PathName, Path, path_cmp, same_path, paths_tie}
use Rattle.fsfs_base.proofs.PathLemmas.{same_path-is, same_path-refl}
use Rattle.fsfs_base.specs.declared.kind.Kind.TheVariants.{File, Dir}
use Rattle.fsfs_noderev.specs.declared.node_id.NodeId.{NodeId}
use Rattle.fsfs_noderev.specs.declared.node_rev.NodeRev.{NodeRev}
use Rattle.fsfs_revision.specs.Told.{RevisionBytes}
use Rattle.fsfs_revision.specs.declared.wrong.Wrong.{Wrong}
use Rattle.fsfs_revision.specs.Shows.Reading.{DirEntry, EntriesOf, OfEntry, ChildOf, RootOf, MetAt, StandsAt, named}
use Rattle.fsfs_revision.proofs.OneWalk.{stands_same}
use Rattle.fsfs_revision.proofs.Walks.{child_stands}
use Rattle.fsfs_history.specs.declared.entries_by_name.EntriesByName.{EntriesByName}
use Rattle.fsfs_history.specs.KeptDirs.{by_name}
use Rattle.fsfs_sound.specs.Revisions.{NamesAt, Root, Below}
use Rattle.fsfs_verify.specs.declared.dirs.ReadDirs.{ReadDirs}
use Rattle.fsfs_verify.specs.ReadDirs.{IsListAt, list_of, entry_in, AreDirs, IsDirPut, IsDirNamed, IsReached, IsNamedAt}
use Rattle.fsfs_verify.proofs.BelowDirs.{child_at, dir_above, dir_before, no_child, of_child, child_of, child_fails, met_below}

abbrev Found : Type 0
Found = List (Path × EntriesByName)

-- a map with one more has the paths as they are
pub put_at : (old new : Found) (path : Path) (found : EntriesByName) → ((q : Path) → lookup (is_at (path_cmp q)) new ≡ cond (is_at (path_cmp path) q) (Some found) (lookup (is_at (path_cmp q)) old))
    → (q : Path) → lookup (is_at (path_cmp q)) new ≡ (if same_path path q then Some found else lookup (is_at (path_cmp q)) old)
put_at old new path found h q = h q ∙ ap (λ (b : Bool). cond b (Some found) (lookup (is_at (path_cmp q)) old)) (sym (paths_tie path q))

module _ (look : RevisionBytes) (r : ℕ) where
  abbrev Each : ReadDirs → Type 0
  Each dirs = (path : Path) (found : EntriesByName) → list_of dirs path ≡ Some found → IsListAt look r path found

  module _ (path : Path) (v : NodeRev) (at : StandsAt look r path v) (kind : v.kind ≡ Dir) (old new : ReadDirs) (put : IsDirPut look v path old new) where
    mine : IsListAt look r path put.found
    mine = (v, at, kind, put.entries, put.entries_are, put.by_name_is)

    each_put : Each old → Each new
    each_put each other found is = by (same_path path other) refl (sym (put.put other) ∙ is)
      where
        by : (b : Bool) → same_path path other ≡ b → (if b then Some put.found else list_of old other) ≡ Some found → IsListAt look r other found
        by true same e =
            let one : put.found ≡ found = cc in
            subst (λ (p : Path). IsListAt look r p found) (same_path-is path other same) (subst (λ (f : EntriesByName). IsListAt look r path f) one mine)
        by false same e = each other found e

    some_put : IsSome (list_of new path)
    some_put = ap is_some (put.put path ∙ ap (λ (b : Bool). if b then Some put.found else list_of old path) (same_path-refl path))

    some_kept : (other : Path) → IsSome (list_of old other) → IsSome (list_of new other)
    some_kept other some = ap is_some (put.put other) ∙ by (same_path path other)
      where
        by : (b : Bool) → is_some (if b then Some put.found else list_of old other) ≡ true
        by true = refl
        by false = some

    pub reached_put : AreDirs look r old → IsReached look r path new true
    reached_put dirs =
        let root = dirs.root in
        (record { root = (root.0, root.1, put.root ∙ root.2); top = some_kept [] dirs.top; each = each_put dirs.each }, some_put)

  pub dirs_of_root : (root : NodeRev) (old new : ReadDirs) → RootOf look r (Ok root) → root.kind ≡ Dir → old.root ≡ root.id → ((q : Path) → list_of old q ≡ None) → IsDirPut look root [] old new → AreDirs look r new
  dirs_of_root root old new read kind id nothing put =
      let at : StandsAt look r [] root = (root, read, refl) in
      record {
        root = (root, read, put.root ∙ id);
        top = some_put [] root at kind old new put;
        each = each_put [] root at kind old new put (λ path found is. absurd (let e : (let o : Option EntriesByName = None in o) ≡ Some found = sym (nothing path) ∙ is in cc));
      }

  -- ---- a name in a directory that was read

  pub list_is : (dirs : ReadDirs) (dir : Path) → AreDirs look r dirs → IsSome (list_of dirs dir) → (found : EntriesByName) × (list_of dirs dir ≡ Some found) × IsListAt look r dir found
  list_is dirs dir are some = by (list_of dirs dir) refl some
    where
      by : (o : Option EntriesByName) → list_of dirs dir ≡ o → is_some o ≡ true → (found : EntriesByName) × (list_of dirs dir ≡ Some found) × IsListAt look r dir found
      by None is e = absurd cc
      by (Some found) is e = (found, is, are.each dir found is)

  module _ (dirs : ReadDirs) (dir : Path) (name : PathName) (are : AreDirs look r dirs) (some : IsSome (list_of dirs dir)) where
    list : IsListAt look r dir (list_is dirs dir are some).0
    list = (list_is dirs dir are some).2

    listed : (o : Option DirEntry) → o ≡ entry_in (list_of dirs dir) name → named name list.3 ≡ o
    listed o is = sym (list.5 name) ∙ sym (is ∙ ap (λ (l : Option EntriesByName). entry_in l name) (list_is dirs dir are some).1)

    pub none_there : None ≡ entry_in (list_of dirs dir) name → (v : NodeRev) → StandsAt look r (dir ++ name ∷ []) v → ⊥
    none_there is v at = no_child look list.0 list.3 list.4 name v (listed None is) (child_at look r dir name list.0 v list.1 at)

    module _ (entry : DirEntry) (is : Some entry ≡ entry_in (list_of dirs dir) name) where
      pub file_there : entry.kind ≡ File → (v : NodeRev) → StandsAt look r (dir ++ name ∷ []) v → v.kind ≡ Dir → ⊥
      file_there file v at kind =
          let of = of_child look list.0 list.3 list.4 name v entry (listed (Some entry) is) (child_at look r dir name list.0 v list.1 at) in
          let e : v.kind ≡ entry.kind = ap (λ (x : NodeRev). x.kind) of.2.0 ∙ of.2.1 in
          let clash : Dir ≡ File = sym kind ∙ e ∙ file in
          cc

      pub stands_named : (v : NodeRev) → OfEntry look entry (Ok v) → StandsAt look r (dir ++ name ∷ []) v
      stands_named v of = child_stands look r list.0 v dir name list.1 list.2 (child_of look list.0 list.3 list.4 name v entry (listed (Some entry) is) of)

      pub met_named : (w : Wrong) → OfEntry look entry (Err w) → (other : PathName) → MetAt look r ((dir ++ name ∷ []) ++ other ∷ []) (Err w)
      met_named w of other =
          subst (λ (p : Path). MetAt look r p (Err w)) (sym (append_assoc dir (name ∷ []) (other ∷ [])))
          (met_below look r dir name (other ∷ []) list.0 w list.1 list.2 (child_fails look list.0 list.3 list.4 name w entry (listed (Some entry) is) of))

      pub names_there : NamesAt look r (dir ++ name ∷ []) entry.id
      names_there = Below dir name list.0 entry list.1 list.2 (list.3, list.4, listed (Some entry) is)

      -- the directory stands in the revision
      pub list_stands : (v : NodeRev) × StandsAt look r dir v × (v.kind ≡ Dir) × (entries : List DirEntry) × EntriesOf look v (Ok entries) × (named name entries ≡ Some entry)
      list_stands = (list.0, list.1, list.2, list.3, list.4, listed (Some entry) is)

  -- what is wrong with the entries of a directory
  pub met_in : (path : Path) (v : NodeRev) → StandsAt look r path v → v.kind ≡ Dir → (w : Wrong) → EntriesOf look v (Err w) → (name : PathName) → MetAt look r (path ++ name ∷ []) (Err w)
  met_in path v at kind w wrong name = met_below look r path name [] v w at kind (inl wrong)

  -- a file is no directory
  pub no_dir : (path : Path) (v : NodeRev) → StandsAt look r path v → v.kind ≡ File → (u : NodeRev) → StandsAt look r path u → u.kind ≡ Dir → ⊥
  no_dir path v at file u also dir =
      let same : u ≡ v = stands_same look r path u v also at in
      let clash : Dir ≡ File = sym dir ∙ ap (λ (x : NodeRev). x.kind) same ∙ file in
      cc

  -- ---- a path

  pub root_named : (dirs : ReadDirs) (path : Path) → AreDirs look r dirs → path ≡ [] → NamesAt look r path dirs.root
  root_named dirs path are none =
      let root = are.root in
      subst (λ (p : Path). NamesAt look r p dirs.root) (sym none) (subst (λ (id : NodeId). NamesAt look r [] id) (sym root.2) (Root root.0 root.1))

  -- where no directory stands above it, nothing stands at a path
  pub nothing_below : (above : Path) (name : PathName) → ((v : NodeRev) → StandsAt look r above v → v.kind ≡ Dir → ⊥) → (v : NodeRev) → StandsAt look r (above ++ name ∷ []) v → ⊥
  nothing_below above name none v at = let d = dir_above look r above name v at in none d.0 d.1 d.2

  pub no_dir_below : (front rest path : Path) → path ≡ front ++ rest → ((v : NodeRev) → StandsAt look r front v → v.kind ≡ Dir → ⊥) → (v : NodeRev) → StandsAt look r path v → v.kind ≡ Dir → ⊥
  no_dir_below front rest path parts none v at kind =
      let d = dir_before look r front rest v (subst (λ (p : Path). StandsAt look r p v) parts at) kind in
      none d.0 d.1 d.2
