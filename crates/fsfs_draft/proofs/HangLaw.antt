-- What is met in a draft hangs together, path by path.
use Rattle.std.proofs.Common.{◌≡◌, ◌≤◌, ◌<◌, ◌⊎◌, ℕ, Bool, true, false, cond, List, [], ◌∷◌, ◌++◌, refl, sym, ap, subst, ◌∙◌, arith, inl, inr, append_assoc}
use Rattle.std.specs.Prelude.{◌≢◌, Ok, Option, Some, None, unwrap_or, nat_lt, if◌then◌else◌}
use Rattle.std.proofs.lemmas.Bool.Decides.{nat_tests}
use Rattle.fsfs_base.specs.Paths.{PathName, Path}
use Rattle.fsfs_tree.specs.Nodes.{TreeFunction}
use Rattle.fsfs_base.specs.declared.kind.Kind.{Kind}
use Rattle.fsfs_base.specs.declared.kind.Kind.TheVariants.{File, Dir}
use Rattle.fsfs_base.specs.declared.fields.txn_name.TxnName.{TxnName}
use Rattle.fsfs_revision.specs.Told.{RevisionBytes}
use Rattle.fsfs_noderev.specs.Ids.{Old, part_value, id_value}
use Rattle.fsfs_noderev.proofs.Same.{id_same}
use Rattle.fsfs_noderev.specs.declared.node_id.Part.{Part}
use Rattle.fsfs_noderev.specs.declared.node_id.Part.TheVariants as parts
use Rattle.fsfs_noderev.specs.declared.node_id.NodeId.{NodeId}
use Rattle.fsfs_noderev.specs.declared.rep.Contents.TheVariants as contents
use Rattle.fsfs_noderev.specs.declared.node_rev.CopyRoot.{CopyRoot}
use Rattle.fsfs_noderev.specs.declared.node_rev.CopySource.{CopySource}
use Rattle.fsfs_noderev.specs.declared.node_rev.NodeRev.{NodeRev}
use Rattle.fsfs_revision.specs.Shows.Reading.{DirEntry, ChildOf, OfId, StandsAt}
use Rattle.fsfs_revision.specs.Shows.Chains.{own_rev, IsPred, copy_root_of}
use Rattle.fsfs_revision.proofs.OneAnswer.{ok_same}
use Rattle.fsfs_revision.proofs.OneWalk.{of_id_one}
use Rattle.fsfs_revision.proofs.Earlier.{stands_of_id}
use Rattle.fsfs_draft.specs.Own.{OwnNode, Own, has_entry}
use Rattle.fsfs_draft.specs.Rules.{GoesOn, Root, root_or_path, draft_root, lasting_root, root_after, at_top, IsNew, CopyPartOf, Directory, Same, Before, Drawn, Keeps, ComesBy, Change, Copied, Made, head_at, AreEntriesOf, stands_from, stands_at, above_of, above_at}
use Rattle.fsfs_draft.specs.Drafts.{Folder, IsDraft, IsDraftText, ShowTrees}
use Rattle.fsfs_draft.specs.Steps.{same_value}
use Rattle.fsfs_draft.specs.OwnSides.{NodesAt, in_txn}
use Rattle.fsfs_draft.specs.NodeDrafts.{root_in, IsOwn, is_new_part, DraftPart}
use Rattle.fsfs_draft.specs.NodeDrafts as nodewise
use Rattle.fsfs_draft.specs.Met.{AreNodes}
use Rattle.fsfs_draft.specs.Sides.{HasFiles, OwnFiles, DrawnOnce}
use Rattle.fsfs_draft.specs.Handed.{DraftsHang}
use Rattle.fsfs_draft.proofs.Files.{same_value-is, same_value-refl}
use Rattle.fsfs_draft.proofs.Here.{goes_from, from_nothing}
use Rattle.fsfs_draft.proofs.Lasting.{lasting_id}
use Rattle.fsfs_draft.proofs.Placing.{Place, Mine, Shared, place, got}
use Rattle.fsfs_draft.proofs.Placing as placing
use Rattle.fsfs_draft.proofs.Hanging.{Hangs}
use Rattle.std.proofs.lemmas.Bool.{cases_Bool}

-- ---- parts

pub part_same : (v : NodeId) (a b : Part) → part_value a ≡ part_value b → a ≡ b
part_same v a b e =
    let same : (record v { copy = a }) ≡ (record v { copy = b }) = id_same (record v { copy = a }) (record v { copy = b }) (λ i. record (id_value v) { copy = e i }) in
    ap (λ (x : NodeId). x.copy) same

pub new_part : (a : Part) → IsNew (part_value a) → is_new_part a ≡ true
new_part (parts.New n) new = refl
new_part (parts.Old n) new = let e = new.1 in absurd cc
new_part (parts.Made n r) new = let e = new.1 in absurd cc

-- ---- copy roots

-- the copy root where n stands for the transaction
abbrev pub resolved : ℕ → Root → ℕ × Path
resolved n root = (unwrap_or root.0 n, root.1)

pub root_resolved : (v : NodeRev) (n : ℕ) → IsOwn v → nodewise.draft_root n v ≡ resolved n (draft_root v)
root_resolved v n mine = by v.copy_root
  where
    by : (o : Option CopyRoot) → root_in n v o ≡ resolved n (root_or_path v.created_path o)
    by None = λ i. (if mine i then n else own_rev v, v.created_path)
    by (Some root) = refl

pub after_resolved : (n : ℕ) (dir : Root) (u : NodeRev) → own_rev u < n → resolved n (root_after dir u) ≡ (if nat_lt (own_rev u) (resolved n dir).0 then resolved n dir else copy_root_of u)
after_resolved n (None, path) u lt =
    let e : nat_lt (own_rev u) n ≡ true = grind (arith, nat_tests, lt) in
    rw e refl
after_resolved n (Some k, path) u lt = by (nat_lt (own_rev u) k)
  where
    by : (b : Bool) → resolved n (if b then (Some k, path) else lasting_root u) ≡ (if b then (k, path) else copy_root_of u)
    by true = refl
    by false = refl

pub some_same : {X : Type 0} (o : Option X) (a c : X) → o ≡ Some a → o ≡ Some c → a ≡ c
some_same o a c e f = let g = sym e ∙ f in cc

pub both_ends : (t f : Bool) → t ≡ true → t ≡ false → ⊥
both_ends t f e g = let h = sym e ∙ g in absurd cc

module _ (look : RevisionBytes) (top base : ℕ) (trees : ℕ → TreeFunction) (nodes : ℕ → NodesAt) (shown : ShowTrees look top trees) (are : AreNodes look top nodes) (le : base ≤ top)
    (txn : TxnName) (f : Folder) (own : Own) (draft : IsDraft look top base txn f own) where
  abbrev pub met : NodesAt
  met = placing.met look top base trees nodes shown are le txn f own draft

  abbrev pub Below : Path → OwnNode → Path → NodeRev → Type 0
  Below p d q u = placing.Stands look top base trees nodes shown are le txn f own draft p d q u

  pub hangs : (p : Path) (d : OwnNode) → own p ≡ Some d → Hangs look top (Below p d) (placing.nodes_below look top base trees nodes shown are le txn f own draft p d) (placing.tree_below look top base trees nodes shown are le txn f own draft p d)
  hangs p d here = placing.hangs_below look top base trees nodes shown are le txn f own draft p d here

  pub comes : (p : Path) (d : OwnNode) → own p ≡ Some d → ComesBy look top (λ r w. stands_at look p own (StandsAt look base) r w) (above_at p own at_top) d
  comes p d here = placing.comes look top base trees nodes shown are le txn f own draft p d here

  pub met_own : (p : Path) (d : OwnNode) → own p ≡ Some d → met p ≡ Some d.node
  met_own p d here = placing.met_own look top base trees nodes shown are le txn f own draft p d here

  pub is_mine : (p : Path) (d : OwnNode) → own p ≡ Some d → IsOwn d.node
  is_mine p d here = ap in_txn (draft.places p d here)

  pub placed : (p : Path) → Place own p
  placed p = place p own draft.root draft.root_is

  -- ---- what an own node-revision goes on from

  pub back : (p : Path) (d : OwnNode) (here : own p ≡ Some d) (u : NodeRev) → IsPred look d.node u → Below p d [] u
  back p d here u pred =
      let w = goes_from look top d (above_at p own at_top) (λ r w. stands_at look p own (StandsAt look base) r w) pred.0 (comes p d here) pred.1 in
      let same : w.0 ≡ u = ok_same w.0 u (of_id_one look pred.0 (Ok w.0) (Ok u) (subst (λ (i : NodeId). OfId look i (Ok w.0)) w.2 ((hangs p d here).agrees.read [] w.0 w.1)) pred.2) in
      subst (λ (x : NodeRev). Below p d [] x) same w.1

  pub pred_here : (p : Path) (d : OwnNode) (here : own p ≡ Some d) (u : NodeRev) → Below p d [] u → IsPred look d.node u
  pred_here p d here u at = by d.node.predecessor refl
    where
      nothing : (c : Option CopySource) (o : Option NodeId) → c ≡ None → o ≡ None → stands_from look c o (λ r w. stands_at look p own (StandsAt look base) r w) [] u → ⊥
      nothing None None e g h = h
      nothing None (Some id) e g h = absurd cc
      nothing (Some from) o e g h = absurd cc

      by : (o : Option NodeId) → d.node.predecessor ≡ o → IsPred look d.node u
      by None none = absurd (nothing d.node.copy_from d.node.predecessor (from_nothing look top d (above_at p own at_top) (λ r w. stands_at look p own (StandsAt look base) r w) (comes p d here) none) none at)
      by (Some id) is =
          let w = goes_from look top d (above_at p own at_top) (λ r w. stands_at look p own (StandsAt look base) r w) id (comes p d here) is in
          let same : w.0 ≡ u = (hangs p d here).one [] w.0 u w.1 at in
          let named : u.id ≡ id = ap (λ (x : NodeRev). x.id) (sym same) ∙ w.2 in
          (id, is, subst (λ (i : NodeId). OfId look i (Ok u)) named ((hangs p d here).agrees.read [] u at))

  pub goes : (p : Path) (d : OwnNode) (here : own p ≡ Some d) (u : NodeRev) → IsPred look d.node u → GoesOn d.node u × Keeps d u
  goes p d here u pred = by (comes p d here)
    where
      same_as : (w : NodeRev) → d.node.predecessor ≡ Some w.id → OfId look w.id (Ok w) → GoesOn d.node w × Keeps d w → GoesOn d.node u × Keeps d u
      same_as w is read all =
          let id : w.id ≡ pred.0 = (let e = sym is ∙ pred.1 in cc) in
          let same : w ≡ u = ok_same w u (of_id_one look pred.0 (Ok w) (Ok u) (subst (λ (i : NodeId). OfId look i (Ok w)) id read) pred.2) in
          subst (λ (x : NodeRev). GoesOn d.node x × Keeps d x) same all

      by : ComesBy look top (λ r w. stands_at look p own (StandsAt look base) r w) (above_at p own at_top) d → GoesOn d.node u × Keeps d u
      by (Change w at no_copy on keeps root part) = same_as w on.predecessor ((placing.hangs_here look top base trees nodes shown are le txn f own draft p d here).agrees.read [] w at) (on, keeps)
      by (Copied w from copy low at on keeps root part) = same_as w on.predecessor (stands_of_id look from.rev from.path w at) (on, keeps)
      by (Made no_copy no_pred count root part new) = let e = sym no_pred ∙ pred.1 in absurd cc

  -- ---- directories

  pub is_dir : (p : Path) (name : PathName) (d v : OwnNode) → own p ≡ Some d → own (p ++ name ∷ []) ≡ Some v → d.node.kind ≡ Dir
  is_dir p name d v here is = by d.node.kind refl (draft.contents p d here).text
    where
      entries : (o : Option (List DirEntry)) → o ≡ None → AreEntriesOf (λ name u. Below p d (name ∷ []) u) o (λ name. head_at (own (p ++ name ∷ []))) → ⊥
      entries None e all = let h = sym (ap (λ (o : Option OwnNode). head_at o) is) ∙ all name in absurd cc
      entries (Some es) e all = absurd cc

      by : (k : Kind) → d.node.kind ≡ k → IsDraftText look f.proto k d d.shown.text → d.node.kind ≡ Dir
      by Dir e text = e
      by File e text = absurd (entries d.entries text.0 (placing.entries look top base trees nodes shown are le txn f own draft p d here))

  pub own_above : (p : Path) (name : PathName) (v : OwnNode) → own (p ++ name ∷ []) ≡ Some v → (d : OwnNode) × (own p ≡ Some d)
  own_above p name v is = by (placed p)
    where
      by : Place own p → (d : OwnNode) × (own p ≡ Some d)
      by (Mine d here) = (d, here)
      by (Shared a x rest d at here none) =
          let there : p ++ name ∷ [] ≡ a ++ x ∷ (rest ++ name ∷ []) = ap (λ (q : Path). q ++ name ∷ []) at ∙ append_assoc a (x ∷ rest) (name ∷ []) in
          let e = sym is ∙ ap own there ∙ placing.own_shared look top base trees nodes shown are le txn f own draft a d here x (rest ++ name ∷ []) none in
          absurd cc

  -- what is met and is the transaction's stands there
  pub mine_at : (p : Path) (v : NodeRev) → met p ≡ Some v → IsOwn v → (d : OwnNode) × (own p ≡ Some d) × (d.node ≡ v)
  mine_at p v e mine = by (placed p)
    where
      by : Place own p → (d : OwnNode) × (own p ≡ Some d) × (d.node ≡ v)
      by (Mine d here) = (d, here, some_same (met p) d.node v (met_own p d here) e)
      by (Shared a x rest d at here none) =
          let g = got (has_entry d.entries x) (placing.nodes_below look top base trees nodes shown are le txn f own draft a d (x ∷ rest)) v (sym (placing.met_shared look top base trees nodes shown are le txn f own draft a d here x rest none) ∙ ap met (sym at) ∙ e) in
          let s = ((hangs a d here).are (x ∷ rest) v).0 g.1 in
          absurd (both_ends (in_txn v.id.place) true mine (lasting_id look v.id v ((hangs a d here).agrees.read (x ∷ rest) v s)).place)

  -- what is met and is not
  pub record Lasts (p : Path) (v : NodeRev) : Type 0 where
    pub a : Path
    pub x : PathName
    pub rest : Path
    pub d : OwnNode
    pub path : p ≡ a ++ x ∷ rest
    pub here : own a ≡ Some d
    pub none : own (a ++ x ∷ []) ≡ None
    pub has : has_entry d.entries x ≡ true
    pub stands : Below a d (x ∷ rest) v

  pub lasts : (p : Path) (v : NodeRev) → met p ≡ Some v → in_txn v.id.place ≡ false → Lasts p v
  lasts p v e plain = by (placed p)
    where
      by : Place own p → Lasts p v
      by (Mine d here) = absurd (both_ends (in_txn v.id.place) true (subst IsOwn (some_same (met p) d.node v (met_own p d here) e) (is_mine p d here)) plain)
      by (Shared a x rest d at here none) =
          let g = got (has_entry d.entries x) (placing.nodes_below look top base trees nodes shown are le txn f own draft a d (x ∷ rest)) v (sym (placing.met_shared look top base trees nodes shown are le txn f own draft a d here x rest none) ∙ ap met (sym at) ∙ e) in
          record { a = a; x = x; rest = rest; d = d; path = at; here = here; none = none; has = g.0; stands = ((hangs a d here).are (x ∷ rest) v).0 g.1 }

  -- behind a name of an own directory
  pub shared_child : (p : Path) (name : PathName) (d : OwnNode) (v : NodeRev) → own p ≡ Some d → met (p ++ name ∷ []) ≡ Some v → own (p ++ name ∷ []) ≡ None → Below p d (name ∷ []) v
  shared_child p name d v here e none =
      let g = got (has_entry d.entries name) (placing.nodes_below look top base trees nodes shown are le txn f own draft p d (name ∷ [])) v (sym (placing.met_shared look top base trees nodes shown are le txn f own draft p d here name [] none) ∙ e) in
      ((hangs p d here).are (name ∷ []) v).0 g.1

  pub not_own : (p : Path) (v : NodeRev) → met p ≡ Some v → in_txn v.id.place ≡ false → own p ≡ None
  not_own p v e plain = by (own p) refl
    where
      by : (o : Option OwnNode) → own p ≡ o → own p ≡ None
      by None is = is
      by (Some d) is = absurd (both_ends (in_txn v.id.place) true (subst IsOwn (some_same (met p) d.node v (met_own p d is) e) (is_mine p d is)) plain)

  -- below what lasts
  pub lasts_below : (p : Path) (name : PathName) (dir v : NodeRev) (l : Lasts p dir) → met (p ++ name ∷ []) ≡ Some v → (in_txn v.id.place ≡ false) × (dir.kind ≡ Dir) × ChildOf look dir name (Ok (Some v))
  lasts_below p name dir v l e =
      let h = hangs l.a l.d l.here in
      let there : p ++ name ∷ [] ≡ l.a ++ l.x ∷ (l.rest ++ name ∷ []) = ap (λ (q : Path). q ++ name ∷ []) l.path ∙ append_assoc l.a (l.x ∷ l.rest) (name ∷ []) in
      let g = got (has_entry l.d.entries l.x) (placing.nodes_below look top base trees nodes shown are le txn f own draft l.a l.d (l.x ∷ (l.rest ++ name ∷ []))) v (sym (placing.met_shared look top base trees nodes shown are le txn f own draft l.a l.d l.here l.x (l.rest ++ name ∷ []) l.none) ∙ ap met (sym there) ∙ e) in
      let s = (h.are (l.x ∷ (l.rest ++ name ∷ [])) v).0 g.1 in
      let u = h.up (l.x ∷ l.rest) name v s in
      let same : u.0 ≡ dir = h.one (l.x ∷ l.rest) u.0 dir u.1 l.stands in
      ((lasting_id look v.id v (h.agrees.read (l.x ∷ (l.rest ++ name ∷ [])) v s)).place, subst (λ (w : NodeRev). w.kind ≡ Dir) same u.2.0, subst (λ (w : NodeRev). ChildOf look w name (Ok (Some v))) same u.2.1)

  -- ---- the clauses

  pub dir_met : (p : Path) (name : PathName) (v : NodeRev) → met (p ++ name ∷ []) ≡ Some v → (dir : NodeRev) × (met p ≡ Some dir) × (dir.kind ≡ Dir)
  dir_met p name v e = by (placed p)
    where
      by : Place own p → (dir : NodeRev) × (met p ≡ Some dir) × (dir.kind ≡ Dir)
      by (Mine d here) = (d.node, met_own p d here, kind (own (p ++ name ∷ [])) refl)
        where
          kind : (o : Option OwnNode) → own (p ++ name ∷ []) ≡ o → d.node.kind ≡ Dir
          kind (Some w) is = is_dir p name d w here is
          kind None none =
              let u = (hangs p d here).up [] name v (shared_child p name d v here e none) in
              (goes p d here u.0 (pred_here p d here u.0 u.1)).0.kind ∙ u.2.0
      by (Shared a x rest d at here none) =
          let h = hangs a d here in
          let there : p ++ name ∷ [] ≡ a ++ x ∷ (rest ++ name ∷ []) = ap (λ (q : Path). q ++ name ∷ []) at ∙ append_assoc a (x ∷ rest) (name ∷ []) in
          let g = got (has_entry d.entries x) (placing.nodes_below look top base trees nodes shown are le txn f own draft a d (x ∷ (rest ++ name ∷ []))) v (sym (placing.met_shared look top base trees nodes shown are le txn f own draft a d here x (rest ++ name ∷ []) none) ∙ ap met (sym there) ∙ e) in
          let u = h.up (x ∷ rest) name v ((h.are (x ∷ (rest ++ name ∷ [])) v).0 g.1) in
          (u.0, ap met at ∙ placing.met_shared look top base trees nodes shown are le txn f own draft a d here x rest none ∙ ap (λ (b : Bool). cond b (placing.nodes_below look top base trees nodes shown are le txn f own draft a d (x ∷ rest)) None) g.0 ∙ (h.are (x ∷ rest) u.0).1 u.1, u.2.0)

  older : (p : Path) (name : PathName) (dir v : NodeRev) → met p ≡ Some dir → IsOwn dir → met (p ++ name ∷ []) ≡ Some v → in_txn v.id.place ≡ false → (u : NodeRev) × IsPred look dir u × ChildOf look u name (Ok (Some v))
  older p name dir v e mine g plain =
      let d = mine_at p dir e mine in
      let u = (hangs p d.0 d.1).up [] name v (shared_child p name d.0 v d.1 g (not_own (p ++ name ∷ []) v g plain)) in
      (u.0, subst (λ (w : NodeRev). IsPred look w u.0) d.2 (pred_here p d.0 d.1 u.0 u.1), u.2.1)

  module _ (files : OwnFiles own) (once : DrawnOnce own) where
    -- an own child, with its directory
    record Child (p : Path) (name : PathName) (dir v : NodeRev) : Type 0 where
      d : OwnNode
      w : OwnNode
      here : own p ≡ Some d
      there : own (p ++ name ∷ []) ≡ Some w
      dir_is : d.node ≡ dir
      child_is : w.node ≡ v
      by : ComesBy look top (λ r u. Below p d (name ∷ r) u) (above_of d.node) w

    child : (p : Path) (name : PathName) (dir v : NodeRev) → met p ≡ Some dir → met (p ++ name ∷ []) ≡ Some v → IsOwn v → Child p name dir v
    child p name dir v e g mine =
        let w = mine_at (p ++ name ∷ []) v g mine in
        let d = own_above p name w.0 w.1 in
        record { d = d.0; w = w.0; here = d.1; there = w.1; dir_is = some_same (met p) d.0.node dir (met_own p d.0 d.1) e; child_is = w.2; by = placing.child_comes look top base trees nodes shown are le txn f own draft p d.0 d.1 name w.0 w.1 }

    part_from : (p : Path) (name : PathName) (d w : OwnNode) (u : NodeRev) → own p ≡ Some d → own (p ++ name ∷ []) ≡ Some w → w.node.copy_from ≡ None → CopyPartOf look (above_of d.node) u (part_value w.node.id.copy) → DraftPart look met d.node w.node u
    part_from p name d w u here there no_copy (Directory e) = nodewise.Directory (part_same w.node.id w.node.id.copy d.node.id.copy e)
    part_from p name d w u here there no_copy (Same e) = nodewise.Here (part_same w.node.id w.node.id.copy u.id.copy e)
    part_from p name d w u here there no_copy (Before z behind e) = nodewise.Before z behind (part_same w.node.id w.node.id.copy z.id.copy e)
    part_from p name d w u here there no_copy (Drawn new) = elim (cases_Bool (same_value (part_value w.node.id.copy) (part_value d.node.id.copy))) [
      | inl same ↦ nodewise.Directory (part_same w.node.id w.node.id.copy d.node.id.copy (same_value-is (part_value w.node.id.copy) (part_value d.node.id.copy) same))
      | inr differs ↦ nodewise.Drawn (new_part w.node.id.copy new) (λ q c from e mine copy twice.
          let m = mine_at q c e mine in
          let dirs = once.apart p q name d w m.0 from here there no_copy m.1 (ap (λ (z : NodeRev). z.copy_from) m.2 ∙ copy) (ap (λ (z : NodeRev). z.id.copy) m.2 ∙ twice) in
          both_ends (same_value (part_value w.node.id.copy) (part_value d.node.id.copy)) true (ap (λ (z : Part). same_value (part_value w.node.id.copy) (part_value z)) (sym dirs) ∙ same_value-refl (part_value w.node.id.copy)) differs)
    ]

    abbrev GoesFrom : Path → PathName → NodeRev → NodeRev → Type 0
    GoesFrom p name dir v = (u w : NodeRev) × IsPred look dir u × ChildOf look u name (Ok (Some w)) × IsPred look v w
        × ((n : ℕ) → top < n → nodewise.draft_root n v ≡ (if nat_lt (own_rev w) (nodewise.draft_root n dir).0 then nodewise.draft_root n dir else copy_root_of w))
        × DraftPart look met dir v w

    goes_on : (p : Path) (name : PathName) (dir v : NodeRev) → met p ≡ Some dir → met (p ++ name ∷ []) ≡ Some v → IsOwn v → v.copy_from ≡ None → v.predecessor ≢ None → GoesFrom p name dir v
    goes_on p name dir v e g mine no_copy has =
        let c = child p name dir v e g mine in
        subst (λ (z : NodeRev). GoesFrom p name z v) c.dir_is (subst (λ (z : NodeRev). GoesFrom p name c.d.node z) c.child_is
        (from c.d c.w c.here c.there (ap (λ (z : NodeRev). z.copy_from) c.child_is ∙ no_copy) (λ none. has (ap (λ (z : NodeRev). z.predecessor) (sym c.child_is) ∙ none)) c.by))
      where
        from : (d w : OwnNode) → own p ≡ Some d → own (p ++ name ∷ []) ≡ Some w → w.node.copy_from ≡ None → (w.node.predecessor ≡ None → ⊥) → ComesBy look top (λ r u. Below p d (name ∷ r) u) (above_of d.node) w → GoesFrom p name d.node w.node
        from d w here there plain has_pred (Change u at no_copy on keeps root part) =
            let h = hangs p d here in
            let x = h.up [] name u at in
            let low = h.agrees.within (name ∷ []) u at in (
              x.0,
              u,
              pred_here p d here x.0 x.1,
              x.2.1,
              (u.id, on.predecessor, h.agrees.read (name ∷ []) u at),
              (λ n lt. root_resolved w.node n (is_mine (p ++ name ∷ []) w there) ∙ ap (resolved n) root ∙ after_resolved n (draft_root d.node) u (omega (arith, low, lt))
                  ∙ ap (λ (z : ℕ × Path). if nat_lt (own_rev u) z.0 then z else copy_root_of u) (sym (root_resolved d.node n (is_mine p d here)))),
              part_from p name d w u here there plain part,
            )
        from d w here there plain has_pred (Copied u copy is low at on keeps root part) = let z = sym is ∙ plain in absurd cc
        from d w here there plain has_pred (Made no_copy no_pred count root part new) = absurd (has_pred no_pred)

    abbrev IsMade : NodeRev → NodeRev → Type 0
    IsMade dir v = (v.copy_from ≡ None) × (is_new_part v.id.node ≡ true) × (v.id.copy ≡ dir.id.copy) × ((n : ℕ) → top < n → nodewise.draft_root n v ≡ nodewise.draft_root n dir)

    made : (p : Path) (name : PathName) (dir v : NodeRev) → met p ≡ Some dir → met (p ++ name ∷ []) ≡ Some v → IsOwn v → v.predecessor ≡ None → IsMade dir v
    made p name dir v e g mine none =
        let c = child p name dir v e g mine in
        subst (λ (z : NodeRev). IsMade z v) c.dir_is (subst (λ (z : NodeRev). IsMade c.d.node z) c.child_is (from c.d c.w c.here c.there (ap (λ (z : NodeRev). z.predecessor) c.child_is ∙ none) c.by))
      where
        from : (d w : OwnNode) → own p ≡ Some d → own (p ++ name ∷ []) ≡ Some w → w.node.predecessor ≡ None → ComesBy look top (λ r u. Below p d (name ∷ r) u) (above_of d.node) w → IsMade d.node w.node
        from d w here there none (Change u at no_copy on keeps root part) = let z = sym on.predecessor ∙ none in absurd cc
        from d w here there none (Copied u copy is low at on keeps root part) = let z = sym on.predecessor ∙ none in absurd cc
        from d w here there none (Made no_copy no_pred count root part new) = (
          no_copy,
          new_part w.node.id.node new,
          part_same w.node.id w.node.id.copy d.node.id.copy part,
          (λ n lt. root_resolved w.node n (is_mine (p ++ name ∷ []) w there) ∙ ap (resolved n) root ∙ sym (root_resolved d.node n (is_mine p d here))),
        )

    abbrev IsCopied : Path → CopySource → NodeRev → Type 0
    IsCopied p from v = (u : NodeRev) × (from.rev ≤ top) × StandsAt look from.rev from.path u × (v.predecessor ≡ Some u.id) × (v.created_path ≡ p) × ((n : ℕ) → top < n → nodewise.draft_root n v ≡ (n, p)) × (is_new_part v.id.copy ≡ true)

    copied : (p : Path) (v : NodeRev) (from : CopySource) → met p ≡ Some v → IsOwn v → v.copy_from ≡ Some from → IsCopied p from v
    copied p v from e mine copy =
        let d = mine_at p v e mine in
        subst (λ (z : NodeRev). IsCopied p from z) d.2 (by d.0 d.1 (ap (λ (z : NodeRev). z.copy_from) d.2 ∙ copy) (comes p d.0 d.1))
      where
        by : (d : OwnNode) → own p ≡ Some d → d.node.copy_from ≡ Some from → ComesBy look top (λ r w. stands_at look p own (StandsAt look base) r w) (above_at p own at_top) d → IsCopied p from d.node
        by d here is (Change u at no_copy on keeps root part) = let z = sym no_copy ∙ is in absurd cc
        by d here is (Made no_copy no_pred count root part new) = let z = sym no_copy ∙ is in absurd cc
        by d here is (Copied u other is2 low at on keeps root part) =
            let same : other ≡ from = (let z = sym is2 ∙ is in cc) in
            let path = draft.paths p d here in (
              u,
              subst (λ (c : CopySource). c.rev ≤ top) same low,
              subst (λ (c : CopySource). StandsAt look c.rev c.path u) same at,
              on.predecessor,
              path,
              (λ n lt. root_resolved d.node n (is_mine p d here) ∙ ap (resolved n) root ∙ (λ i. (n, path i))),
              new_part d.node.id.copy part,
            )

    pub hang : nodewise.IsDraft look top base met
    hang = record {
      root = root;
      above = dir_met;
      lasting = λ p v e plain. (let l = lasts p v e plain in (hangs l.a l.d l.here).revision (l.x ∷ l.rest) v l.stands);
      below_lasting = λ p name dir v e plain g. (let w = lasts_below p name dir v (lasts p dir e plain) g in (w.2, w.0));
      older = older;
      goes_on = goes_on;
      pred = λ p v w e mine pr. (let d = mine_at p v e mine in let g = (goes p d.0 d.1 w (subst (λ (z : NodeRev). IsPred look z w) (sym d.2) pr)).0 in
          (ap (λ (z : NodeRev). z.id.node) (sym d.2) ∙ g.node, ap (λ (z : NodeRev). z.kind) (sym d.2) ∙ g.kind, ap (λ (z : NodeRev). z.count) (sym d.2) ∙ g.count));
      made = made;
      made_once = λ p q v w e g mine other none nor same. (let a = mine_at p v e mine in let c = mine_at q w g other in
          once.made p q a.0 c.0 a.1 c.1 (ap (λ (z : NodeRev). z.predecessor) a.2 ∙ none) (ap (λ (z : NodeRev). z.predecessor) c.2 ∙ nor) (ap (λ (z : NodeRev). z.id.node) a.2 ∙ same ∙ ap (λ (z : NodeRev). z.id.node) (sym c.2)));
      copied = copied;
      copied_once = λ p q v w from to e g mine other is are same. (let a = mine_at p v e mine in let c = mine_at q w g other in
          once.copied p q a.0 c.0 from to a.1 c.1 (ap (λ (z : NodeRev). z.copy_from) a.2 ∙ is) (ap (λ (z : NodeRev). z.copy_from) c.2 ∙ are) (ap (λ (z : NodeRev). z.id.copy) a.2 ∙ same ∙ ap (λ (z : NodeRev). z.id.copy) (sym c.2)));
      props = λ p v w e mine pr. (let d = mine_at p v e mine in
          subst (λ (z : NodeRev). (z.props ≡ Some contents.Own) ⊎ (z.props ≡ w.props)) d.2 (props d.0 w (files p d.0 d.1) (goes p d.0 d.1 w (subst (λ (z : NodeRev). IsPred look z w) (sym d.2) pr)).1 d.0.props refl));
      no_props = λ p v e mine none. (let d = mine_at p v e mine in
          subst (λ (z : NodeRev). (z.props ≡ Some contents.Own) ⊎ (z.props ≡ None)) d.2 (no_props d.0 (files p d.0 d.1) (ap (λ (z : NodeRev). z.predecessor) d.2 ∙ none) d.0.props refl));
    }
      where
        props : (d : OwnNode) (w : NodeRev) → HasFiles d → Keeps d w → (o : Option (List (List ℕ × List ℕ))) → d.props ≡ o → (d.node.props ≡ Some contents.Own) ⊎ (d.node.props ≡ w.props)
        props d w has keeps None e = inr (keeps.props e)
        props d w has keeps (Some pairs) e = inl (has.set pairs e)

        no_props : (d : OwnNode) → HasFiles d → d.node.predecessor ≡ None → (o : Option (List (List ℕ × List ℕ))) → d.props ≡ o → (d.node.props ≡ Some contents.Own) ⊎ (d.node.props ≡ None)
        no_props d has none None e = inr (has.no_set none e)
        no_props d has none (Some pairs) e = inl (has.set pairs e)

        RootIs : Type 0
        RootIs = (v : NodeRev) × (u : NodeRev) × (met [] ≡ Some v) × StandsAt look base [] u × IsOwn v
            × (v.predecessor ≡ Some u.id) × (part_value v.id.node ≡ Old 0) × (part_value v.id.copy ≡ Old 0) × (v.copy_from ≡ None) × ((n : ℕ) → top < n → nodewise.draft_root n v ≡ copy_root_of u)

        by_root : ComesBy look top (StandsAt look base) at_top draft.root → RootIs
        by_root (Change u at no_copy on keeps root part) =
            let none : nat_lt (own_rev u) 0 ≡ false = grind (arith, nat_tests) in (
              draft.root.node,
              u,
              met_own [] draft.root draft.root_is,
              at,
              is_mine [] draft.root draft.root_is,
              on.predecessor,
              draft.root_id.0,
              draft.root_id.1,
              no_copy,
              (λ n lt. root_resolved draft.root.node n (is_mine [] draft.root draft.root_is) ∙ ap (resolved n) root ∙ ap (λ (b : Bool). resolved n (if b then (Some 0, []) else lasting_root u)) none),
            )
        by_root (Copied u copy is low at on keeps root part) = let z = sym is ∙ draft.root_id.2 in absurd cc
        by_root (Made no_copy no_pred count root part new) = let z = sym draft.root_id.0 ∙ new.1 in absurd cc

        root : RootIs
        root = by_root (comes [] draft.root draft.root_is)

pub drafts_hang : DraftsHang
drafts_hang look top base trees nodes shown are le txn f own draft files once = hang look top base trees nodes shown are le txn f own draft files once
