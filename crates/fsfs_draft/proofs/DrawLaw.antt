-- What is met in a draft is the draft of the tree that is shown.
use Rattle.std.proofs.Common.{◌≡◌, ◌≤◌, ◌<◌, ◌⊎◌, ℕ, not, Bool, true, false, cond, List, [], ◌∷◌, ◌++◌, length, drop, refl, sym, ap, subst, ◌∙◌, arith, inl, inr, append-nil, append_assoc}
use Rattle.std.specs.Prelude.{◌≢◌, Option, Some, None, is_some, unwrap_or, if◌then◌else◌}
use mathlib.Core.Bool.{false≢true}
use Rattle.fsfs_base.specs.Paths.{PathName, Path, covers}
use Rattle.fsfs_tree.specs.Nodes.{Node, TreeFunction}
use Rattle.fsfs_model.specs.Flat.Edits.{copied_node}
use Rattle.fsfs_model.specs.declared.flat.mark.Mark.{Mark}
use Rattle.fsfs_model.specs.Flat.Marks.{effects}
use Rattle.fsfs_base.proofs.PathLemmas.{covers-refl, covers-trans, covers-antisym, same_name-refl, covers_front}
use Rattle.fsfs_base.specs.declared.fields.txn_name.TxnName.{TxnName}
use Rattle.fsfs_revision.specs.Told.{RevisionBytes}
use Rattle.fsfs_noderev.specs.declared.node_id.NodeId.{NodeId}
use Rattle.fsfs_noderev.specs.declared.node_rev.CopyRoot.{CopyRoot}
use Rattle.fsfs_noderev.specs.declared.node_rev.CopySource.{CopySource}
use Rattle.fsfs_noderev.specs.declared.node_rev.NodeRev.{NodeRev}
use Rattle.fsfs_revision.specs.Shows.Reading.{StandsAt}
use Rattle.fsfs_revision.specs.Shows.Chains.{own_rev, root_or_own, copy_root_of}
use Rattle.fsfs_revision.proofs.TreeLaw.{stands_home, root_le}
use Rattle.fsfs_draft.specs.Own.{OwnNode, Own, below, has_entry, draft_tree, shared_from, shared_under, shared_at, under}
use Rattle.fsfs_draft.specs.Rules.{Root, draft_root, root_after, ComesBy, Change, Copied, Made, stands_from, above_of, at_top}
use Rattle.fsfs_draft.specs.Drafts.{Folder, IsDraft, bare, ShowTrees}
use Rattle.fsfs_draft.specs.OwnSides.{NodesAt, in_txn}
use Rattle.fsfs_draft.specs.NodeDrafts.{root_in, IsOwn}
use Rattle.fsfs_draft.specs.NodeDrafts as nodewise
use Rattle.fsfs_draft.specs.Met.{draft_nodes, AreNodes}
use Rattle.fsfs_draft.specs.Sides.{goes_on_here, has_here, held, AreMarksOf, source_here, OwnSources}
use Rattle.fsfs_draft.specs.Draws.{FreshAt, MadeHere, CameWith, DrawsTree}
use Rattle.fsfs_draft.specs.Handed.{DraftsDraw}
use Rattle.fsfs_draft.proofs.Bases.{revision_agrees}
use Rattle.fsfs_draft.proofs.Here.{under_is}
use Rattle.fsfs_draft.proofs.Placing.{Place, Mine, Shared, got}
use Rattle.fsfs_draft.proofs.Placing as placing
use Rattle.fsfs_draft.proofs.HangLaw.{resolved, root_resolved, some_same, both_ends}
use Rattle.fsfs_draft.proofs.HangLaw as hanging
use Rattle.fsfs_draft.proofs.Lasting.{lasting}
use Rattle.fsfs_draft.proofs.SideLaw.{HeldAt, held_at, held_under, none_held}
use Rattle.std.proofs.lemmas.Bool.{and_from, cases_Bool}

-- ---- plain facts

abbrev pair : ℕ → Path → ℕ × Path
pair rev path = (rev, path)

drop_front : (r q : Path) → drop (length r) (r ++ q) ≡ q
drop_front [] q = refl
drop_front (x ∷ r) q = drop_front r q

longer : (p q : Path) → covers p (p ++ q) ≡ true
longer [] q = refl
longer (y ∷ p) q = and_from _ _ (same_name-refl y) (longer p q)

pub shared_last : (trees : ℕ → TreeFunction) (p : Path) (name : PathName) (own : Own) (S : TreeFunction) (q : Path) → shared_at trees (p ++ name ∷ []) own S q ≡ shared_under trees (own p) (shared_at trees p own S) (name ∷ q)
shared_last trees [] name own S q = refl
shared_last trees (x ∷ p) name own S q = shared_last trees p name (below x own) (below x (shared_under trees (own []) S)) q

copied_source : (r : ℕ) (f : Path) (o : Option Node) (m : Node) → copied_node r f o ≡ Some m → m.source ≡ Some (r, f)
copied_source r f None m e = absurd cc
copied_source r f (Some n) m e = let same : (record n { source = Some (r, f) }) ≡ m = cc in ap (λ (z : Node). z.source) (sym same)

bare_some : (a c : Option Node) → bare a ≡ bare c → is_some a ≡ is_some c
bare_some None None e = refl
bare_some None (Some m) e = absurd cc
bare_some (Some n) None e = absurd cc
bare_some (Some n) (Some m) e = refl

-- the node that is shown where the tree has m
record Alike (o : Option Node) (m : Node) : Type 0 where
  n : Node
  is : o ≡ Some n
  kind : m.kind ≡ n.kind
  source : m.source ≡ n.source

alike : (o a : Option Node) (m : Node) → a ≡ Some m → bare a ≡ bare o → Alike o m
alike None None m e g = absurd cc
alike None (Some k) m e g = absurd cc
alike (Some n) None m e g = absurd cc
alike (Some n) (Some k) m e g =
    let one : k ≡ m = cc in
    let two : (record k { added = 0; props_changed = 0; last_changed = 0 }) ≡ (record n { added = 0; props_changed = 0; last_changed = 0 }) = cc in
    record { n = n; is = refl; kind = ap (λ (z : Node). z.kind) (sym one) ∙ ap (λ (z : Node). z.kind) two; source = ap (λ (z : Node). z.source) (sym one) ∙ ap (λ (z : Node). z.source) two }

after_own : (r : Path) (dir : Root) (u : NodeRev) → dir ≡ (None, r) → root_after dir u ≡ (None, r)
after_own r dir u e = ap (λ (d : Root). root_after d u) e

module _ (look : RevisionBytes) (top base : ℕ) (trees : ℕ → TreeFunction) (nodes : ℕ → NodesAt) (shown : ShowTrees look top trees) (are : AreNodes look top nodes) (le : base ≤ top)
    (txn : TxnName) (f : Folder) (own : Own) (draft : IsDraft look top base txn f own) (sources : OwnSources trees (trees base) own) (n : ℕ) (lt : top < n) where
  abbrev pub met : NodesAt
  met = draft_nodes nodes own (nodes base)

  abbrev pub shows : TreeFunction
  shows = draft_tree trees own (trees base)

  abbrev tree_below : Path → OwnNode → TreeFunction
  tree_below p d = placing.tree_below look top base trees nodes shown are le txn f own draft p d

  abbrev Below : Path → OwnNode → Path → NodeRev → Type 0
  Below p d q u = placing.Stands look top base trees nodes shown are le txn f own draft p d q u

  met_own : (p : Path) (d : OwnNode) → own p ≡ Some d → met p ≡ Some d.node
  met_own p d here = hanging.met_own look top base trees nodes shown are le txn f own draft p d here

  -- the copy root of what lasts is of a revision
  low_root : (p : Path) (u : NodeRev) → met p ≡ Some u → in_txn u.id.place ≡ false → (nodewise.draft_root n u).0 ≡ n → ⊥
  low_root p u e plain root =
      let l = hanging.lasts look top base trees nodes shown are le txn f own draft p u e plain in
      let v = (hanging.hangs look top base trees nodes shown are le txn f own draft l.a l.d l.here).revision (l.x ∷ l.rest) u l.stands in
      let home = stands_home look v.0 v.1 u v.3 in
      let k = root_le u u.copy_root home.0.root in
      let o = home.1 in
      let w = v.2 in
      let same = by u.copy_root (lasting look v.0 v.1 u v.3).root in
      let z : (copy_root_of u).0 ≡ n = ap (λ (r : ℕ × Path). r.0) (sym same) ∙ root in
      omega (arith, k, o, w, z, lt)
    where
      by : (o : Option CopyRoot) → Rattle.fsfs_draft.specs.OwnSides.has_own_root (in_txn u.id.place) o ≡ false → root_in n u o ≡ root_or_own u o
      by None h = λ i. (if plain i then n else own_rev u, u.created_path)
      by (Some root) h = at root.rev h
        where
          at : (r : Option ℕ) → (if is_some r then false else true) ≡ false → pair (unwrap_or r n) root.path ≡ pair (unwrap_or r 0) root.path
          at None h = absurd (false≢true (sym h))
          at (Some r) h = refl

  -- ---- on the way down

  record Copy (p : Path) : Type 0 where
    r : Path
    c : OwnNode
    from : CopySource
    below_it : covers r p ≡ true
    here : own r ≡ Some c
    copy : c.node.copy_from ≡ Some from
    near : (q : Path) (u : NodeRev) → covers r q ≡ true → covers q p ≡ true → met q ≡ Some u → (nodewise.draft_root n u).0 ≡ n → (nodewise.draft_root n u).1 ≡ r
    not_new : (u : NodeRev) → met p ≡ Some u → IsOwn u → u.predecessor ≢ None
    root : (v : OwnNode) → own p ≡ Some v → draft_root v.node ≡ (None, r)
    inside : (v : OwnNode) (q : Path) (m : Node) → own p ≡ Some v → tree_below p v q ≡ Some m → m.source ≡ Some (from.rev, from.path ++ drop (length r) (p ++ q))
    rest : (q : Path) (m : Node) → own p ≡ None → shows (p ++ q) ≡ Some m → m.source ≡ Some (from.rev, from.path ++ drop (length r) (p ++ q))
    source : (m : Node) → shows p ≡ Some m → m.source ≡ Some (from.rev, from.path ++ drop (length r) p)

  data Came (p : Path) : Type 0 where
    Held : held own p ≡ true → Came p
    ByCopy : Copy p → Came p
    New : (v : OwnNode) → own p ≡ Some v → v.node.predecessor ≡ None → v.node.copy_from ≡ None → Came p

  -- a copy
  by_copy : (p : Path) (w : OwnNode) (from : CopySource) → own p ≡ Some w → w.node.copy_from ≡ Some from → (w.node.predecessor ≡ None → ⊥) → draft_root w.node ≡ (None, w.node.created_path) → Copy p
  by_copy p w from is copy has root = record {
    r = p;
    c = w;
    from = from;
    below_it = covers-refl p;
    here = is;
    copy = copy;
    near = λ q u a c e z. (let same : q ≡ p = covers-antisym q p c a in
        let one = some_same (met p) w.node u (met_own p w is) (ap met (sym same) ∙ e) in
        ap (λ (v : NodeRev). (nodewise.draft_root n v).1) (sym one) ∙ ap (λ (v : ℕ × Path). v.1) (root_resolved w.node n (hanging.is_mine look top base trees nodes shown are le txn f own draft p w is) ∙ ap (resolved n) at));
    not_new = λ u e mine none. has (ap (λ (v : NodeRev). v.predecessor) (some_same (met p) w.node u (met_own p w is) e) ∙ none);
    root = λ v e. ap (λ (z : OwnNode). draft_root z.node) (some_same (own p) v w e is) ∙ at;
    inside = λ v q m e g. (let one = some_same (own p) v w e is in
        inner w.node.copy_from q m copy (ap (λ (z : OwnNode). tree_below p z q) (sym one) ∙ g) ∙ ap (λ (z : Path). Some (from.rev, from.path ++ z)) (sym (drop_front p q)));
    rest = λ q m none e. (let g = sym none ∙ is in absurd cc);
    source = λ m e. (let one = some_same (shows p) w.shown m (placing.shown_own look top base trees nodes shown are le txn f own draft p w is) e in
        ap (λ (z : Node). z.source) (sym one) ∙ sources p w is ∙ ap (λ (z : Option CopySource). source_here z w.node.predecessor (shared_at trees p own (trees base) [])) copy
        ∙ ap (λ (z : Path). Some (from.rev, z)) (sym (append-nil from.path) ∙ ap (λ (z : Path). from.path ++ z) (sym (drop_front p []) ∙ ap (λ (z : Path). drop (length p) z) (append-nil p))));
  }
    where
      at : draft_root w.node ≡ (None, p)
      at = root ∙ (λ i. (None, draft.paths p w is i))

      inner : (c : Option CopySource) (q : Path) (m : Node) → c ≡ Some from → shared_from trees c w.node.predecessor (shared_at trees p own (trees base)) q ≡ Some m → m.source ≡ Some (from.rev, from.path ++ q)
      inner None q m e g = absurd cc
      inner (Some other) q m e g =
          let same : other ≡ from = cc in
          copied_source other.rev (other.path ++ q) (trees other.rev (other.path ++ q)) m g ∙ ap (λ (z : CopySource). Some (z.rev, z.path ++ q)) same

  came_root : Came []
  came_root = by (hanging.comes look top base trees nodes shown are le txn f own draft [] draft.root draft.root_is)
    where
      by : ComesBy look top (StandsAt look base) at_top draft.root → Came []
      by (Change u at no_copy on keeps root part) = Held (ap goes_on_here draft.root_is ∙ and_from _ _ (ap (λ (c : Option CopySource). not (is_some c)) no_copy) (ap (λ (o : Option NodeId). is_some o) on.predecessor))
      by (Copied u from is low at on keeps root part) = let z = sym is ∙ draft.root_id.2 in absurd cc
      by (Made no_copy no_pred count root part new) = New draft.root draft.root_is no_pred no_copy

  -- a name more of what is held
  held_more : (p : Path) (name : PathName) → held own p ≡ true → has_here (own p) name ≡ true → goes_on_here (own (p ++ name ∷ [])) ≡ true → held own (p ++ name ∷ []) ≡ true
  held_more p name h has goes =
      let old : under p own [] ≡ own p = under_is p own [] ∙ ap own (append-nil p) in
      let going : goes_on_here (under p own []) ≡ true = sym (held_under look top p own [] h) ∙ ap (held own) (append-nil p) ∙ h in
      held_under look top p own (name ∷ []) h
      ∙ and_from _ _ going (and_from _ _ (ap (λ (o : Option OwnNode). has_here o name) old ∙ has) (ap goes_on_here (under_is p own (name ∷ [])) ∙ goes))

  nothing_below : (c : Option CopySource) (o : Option NodeId) (S : Path → NodeRev → Type 0) (q : Path) (u : NodeRev) → c ≡ None → o ≡ None → stands_from look c o S q u → ⊥
  nothing_below None None S q u e g h = h
  nothing_below None (Some id) S q u e g h = absurd cc
  nothing_below (Some from) o S q u e g h = absurd cc

  pub through : (c : Option CopySource) (o : Option NodeId) (S : TreeFunction) (q : Path) → c ≡ None → is_some o ≡ true → shared_from trees c o S q ≡ S q
  through None (Some id) S q e h = refl
  through None None S q e h = absurd cc
  through (Some from) o S q e h = absurd cc

  -- below what is met in a copy: something that lasts
  copy_lasts : (p : Path) (name : PathName) (u : NodeRev) → Copy p → own (p ++ name ∷ []) ≡ None → met (p ++ name ∷ []) ≡ Some u → in_txn u.id.place ≡ false
      → ((c : Copy p) (q : Path) (m : Node) → shows ((p ++ name ∷ []) ++ q) ≡ Some m → m.source ≡ Some (c.from.rev, c.from.path ++ drop (length c.r) ((p ++ name ∷ []) ++ q))) → Copy (p ++ name ∷ [])
  copy_lasts p name u k none e plain all = record {
    r = k.r;
    c = k.c;
    from = k.from;
    below_it = covers-trans k.r p (p ++ name ∷ []) k.below_it (longer p (name ∷ []));
    here = k.here;
    copy = k.copy;
    near = λ q w a c g z. elim (covers_front q p name c) [
      | inl up ↦ k.near q w a up g z
      | inr same ↦ (let one = some_same (met (p ++ name ∷ [])) u w e (ap met (sym same) ∙ g) in
          absurd (low_root (p ++ name ∷ []) w (ap met (sym same) ∙ g) (ap (λ (v : NodeRev). in_txn v.id.place) (sym one) ∙ plain) z))
    ];
    not_new = λ w g mine lacks. (let one = some_same (met (p ++ name ∷ [])) u w e g in both_ends (in_txn w.id.place) true mine (ap (λ (v : NodeRev). in_txn v.id.place) (sym one) ∙ plain));
    root = λ v is. (let g = sym none ∙ is in absurd cc);
    inside = λ v q m is g. (let z = sym none ∙ is in absurd cc);
    rest = λ q m lacks g. all k q m g;
    source = λ m g. all k [] m (ap shows (append-nil (p ++ name ∷ [])) ∙ g) ∙ ap (λ (z : Path). Some (k.from.rev, k.from.path ++ drop (length k.r) z)) (append-nil (p ++ name ∷ []));
  }

  step_own : (p : Path) (name : PathName) (w : OwnNode) → own (p ++ name ∷ []) ≡ Some w → Came p → Came (p ++ name ∷ [])
  step_own p name w is came =
      let d = hanging.own_above look top base trees nodes shown are le txn f own draft p name w is in
      by d.0 d.1 (placing.child_comes look top base trees nodes shown are le txn f own draft p d.0 d.1 name w is) came
    where
      by : (d : OwnNode) → own p ≡ Some d → ComesBy look top (λ r u. Below p d (name ∷ r) u) (above_of d.node) w → Came p → Came (p ++ name ∷ [])
      by d here (Copied u from copy low at on keeps root part) came = ByCopy (by_copy (p ++ name ∷ []) w from is copy (λ none. (let z = sym on.predecessor ∙ none in absurd cc)) root)
      by d here (Made no_copy no_pred count root part new) came = New w is no_pred no_copy
      by d here (Change u at no_copy on keeps root part) (New v v_is none plain) =
          let one = some_same (own p) v d v_is here in
          absurd (nothing_below d.node.copy_from d.node.predecessor _ (name ∷ []) u (ap (λ (z : OwnNode). z.node.copy_from) (sym one) ∙ plain) (ap (λ (z : OwnNode). z.node.predecessor) (sym one) ∙ none) at)
      by d here (Change u at no_copy on keeps root part) (Held h) =
          Held (held_more p name h (ap (λ (o : Option OwnNode). has_here o name) here ∙ Rattle.fsfs_draft.proofs.Here.entry_has (λ name u. Below p d (name ∷ []) u) d.entries (λ name. Rattle.fsfs_draft.specs.Rules.head_at (own (p ++ name ∷ []))) name
          (placing.entries look top base trees nodes shown are le txn f own draft p d here) (Rattle.fsfs_draft.proofs.Here.head_some (own (p ++ name ∷ [])) (ap (λ (o : Option OwnNode). is_some o) is)))
          (ap goes_on_here is ∙ and_from _ _ (ap (λ (c : Option CopySource). not (is_some c)) no_copy) (ap (λ (o : Option NodeId). is_some o) on.predecessor)))
      by d here (Change u at no_copy on keeps root part) (ByCopy k) = ByCopy (record {
        r = k.r;
        c = k.c;
        from = k.from;
        below_it = covers-trans k.r p (p ++ name ∷ []) k.below_it (longer p (name ∷ []));
        here = k.here;
        copy = k.copy;
        near = λ q v a c g z. elim (covers_front q p name c) [
          | inl up ↦ k.near q v a up g z
          | inr same ↦ (let one = some_same (met (p ++ name ∷ [])) w.node v (met_own (p ++ name ∷ []) w is) (ap met (sym same) ∙ g) in
              ap (λ (v : NodeRev). (nodewise.draft_root n v).1) (sym one) ∙ ap (λ (v : ℕ × Path). v.1) (root_resolved w.node n (hanging.is_mine look top base trees nodes shown are le txn f own draft (p ++ name ∷ []) w is) ∙ ap (resolved n) rooted))
        ];
        not_new = λ v g mine none. (let one = some_same (met (p ++ name ∷ [])) w.node v (met_own (p ++ name ∷ []) w is) g in
            let z = sym on.predecessor ∙ ap (λ (v : NodeRev). v.predecessor) one ∙ none in absurd cc);
        root = λ v e. ap (λ (z : OwnNode). draft_root z.node) (some_same (own (p ++ name ∷ [])) v w e is) ∙ rooted;
        inside = λ v q m e g. (let one = some_same (own (p ++ name ∷ [])) v w e is in
            k.inside d (name ∷ q) m here (sym (shared q) ∙ ap (λ (z : OwnNode). tree_below (p ++ name ∷ []) z q) (sym one) ∙ g)
            ∙ ap (λ (z : Path). Some (k.from.rev, k.from.path ++ drop (length k.r) z)) (sym (append_assoc p (name ∷ []) q)));
        rest = λ q m none e. (let g = sym none ∙ is in absurd cc);
        source = λ m e. (let one = some_same (shows (p ++ name ∷ [])) w.shown m (placing.shown_own look top base trees nodes shown are le txn f own draft (p ++ name ∷ []) w is) e in
            let a = (placing.hangs_below look top base trees nodes shown are le txn f own draft p d here).agrees.shown (name ∷ []) u at in
            ap (λ (z : Node). z.source) (sym one) ∙ sources (p ++ name ∷ []) w is
            ∙ going w.node.copy_from w.node.predecessor (shared_at trees (p ++ name ∷ []) own (trees base) []) a.0 no_copy (ap (λ (o : Option NodeId). is_some o) on.predecessor) (shared_there [] ∙ a.1)
            ∙ k.inside d (name ∷ []) a.0 here a.1);
      })
        where
          rooted : draft_root w.node ≡ (None, k.r)
          rooted = root ∙ after_own k.r (draft_root d.node) u (k.root d here)

          shared_there : (q : Path) → shared_at trees (p ++ name ∷ []) own (trees base) q ≡ tree_below p d (name ∷ q)
          shared_there q = shared_last trees p name own (trees base) q ∙ ap (λ (o : Option OwnNode). shared_under trees o (shared_at trees p own (trees base)) (name ∷ q)) here

          shared : (q : Path) → tree_below (p ++ name ∷ []) w q ≡ tree_below p d (name ∷ q)
          shared q = through w.node.copy_from w.node.predecessor (shared_at trees (p ++ name ∷ []) own (trees base)) q no_copy (ap (λ (o : Option NodeId). is_some o) on.predecessor) ∙ shared_there q

          going : (c : Option CopySource) (o : Option NodeId) (s : Option Node) (m : Node) → c ≡ None → is_some o ≡ true → s ≡ Some m → source_here c o s ≡ m.source
          going None (Some id) (Some x) m e h g = let same : x ≡ m = cc in ap (λ (z : Node). z.source) same
          going None (Some id) None m e h g = absurd cc
          going None None s m e h g = absurd cc
          going (Some from) o s m e h g = absurd cc

  -- behind a name of an own directory at which nothing is the transaction's
  step_shared : (p : Path) (name : PathName) (d : OwnNode) (u : NodeRev) → own p ≡ Some d → own (p ++ name ∷ []) ≡ None → met (p ++ name ∷ []) ≡ Some u → Came p → Came (p ++ name ∷ [])
  step_shared p name d u here none e came = by came
    where
      g : (has_entry d.entries name ≡ true) × (placing.nodes_below look top base trees nodes shown are le txn f own draft p d (name ∷ []) ≡ Some u)
      g = got (has_entry d.entries name) (placing.nodes_below look top base trees nodes shown are le txn f own draft p d (name ∷ [])) u (sym (placing.met_shared look top base trees nodes shown are le txn f own draft p d here name [] none) ∙ e)

      at : Below p d (name ∷ []) u
      at = ((hanging.hangs look top base trees nodes shown are le txn f own draft p d here).are (name ∷ []) u).0 g.1

      plain : in_txn u.id.place ≡ false
      plain = (Rattle.fsfs_draft.proofs.Lasting.lasting_id look u.id u ((hanging.hangs look top base trees nodes shown are le txn f own draft p d here).agrees.read (name ∷ []) u at)).place

      by : Came p → Came (p ++ name ∷ [])
      by (Held h) = Held (held_more p name h (ap (λ (o : Option OwnNode). has_here o name) here ∙ g.0) (ap goes_on_here none))
      by (New v v_is lacks no_copy) =
          let one = some_same (own p) v d v_is here in
          absurd (nothing_below d.node.copy_from d.node.predecessor _ (name ∷ []) u (ap (λ (z : OwnNode). z.node.copy_from) (sym one) ∙ no_copy) (ap (λ (z : OwnNode). z.node.predecessor) (sym one) ∙ lacks) at)
      by (ByCopy k) = ByCopy (copy_lasts p name u k none e plain (λ k q m s.
          (let there : (p ++ name ∷ []) ++ q ≡ p ++ name ∷ q = append_assoc p (name ∷ []) q in
          let w = got (has_entry d.entries name) (tree_below p d (name ∷ q)) m (sym (placing.shown_shared look top base trees nodes shown are le txn f own draft p d here name q none) ∙ ap shows (sym there) ∙ s) in
          k.inside d (name ∷ q) m here w.1 ∙ ap (λ (z : Path). Some (k.from.rev, k.from.path ++ drop (length k.r) z)) (sym there))))

  -- below what lasts
  step_lasts : (p : Path) (name : PathName) (dir u : NodeRev) → met p ≡ Some dir → in_txn dir.id.place ≡ false → met (p ++ name ∷ []) ≡ Some u → Came p → Came (p ++ name ∷ [])
  step_lasts p name dir u e plain m came =
      let l = hanging.lasts look top base trees nodes shown are le txn f own draft p dir e plain in
      let w = hanging.lasts_below look top base trees nodes shown are le txn f own draft p name dir u l m in
      by l.a l.x l.rest l.d l.path l.here l.none w.0 came
    where
      free : own p ≡ None
      free = hanging.not_own look top base trees nodes shown are le txn f own draft p dir e plain

      by : (a : Path) (x : PathName) (rest : Path) (d : OwnNode) → p ≡ a ++ x ∷ rest → own a ≡ Some d → own (a ++ x ∷ []) ≡ None → in_txn u.id.place ≡ false → Came p → Came (p ++ name ∷ [])
      by a x rest d path here none last came = which came
        where
          empty : (q : Path) → own (p ++ q) ≡ None
          empty q = ap own (ap (λ (z : Path). z ++ q) path ∙ append_assoc a (x ∷ rest) q) ∙ placing.own_shared look top base trees nodes shown are le txn f own draft a d here x (rest ++ q) none

          which : Came p → Came (p ++ name ∷ [])
          which (Held h) = Held (held_under look top p own (name ∷ []) h ∙ none_held look top (under p own) (λ q. under_is p own q ∙ empty q) (name ∷ []))
          which (New v v_is lacks no_copy) = let z = sym free ∙ v_is in absurd cc
          which (ByCopy k) = ByCopy (copy_lasts p name u k (empty (name ∷ [])) m last (λ k q n s.
              (let there : (p ++ name ∷ []) ++ q ≡ p ++ name ∷ q = append_assoc p (name ∷ []) q in
              k.rest (name ∷ q) n free (ap shows (sym there) ∙ s) ∙ ap (λ (z : Path). Some (k.from.rev, k.from.path ++ drop (length k.r) z)) (sym there))))

  abbrev CameAt : Path → Type 0
  CameAt p = (u : NodeRev) → met p ≡ Some u → Came p

  step : (p : Path) (name : PathName) → CameAt p → CameAt (p ++ name ∷ [])
  step p name came u e =
      let dir = hanging.dir_met look top base trees nodes shown are le txn f own draft p name u e in
      by dir.0 dir.1 (came dir.0 dir.1)
    where
      child : (o : Option OwnNode) → own (p ++ name ∷ []) ≡ o → (d : OwnNode) → own p ≡ Some d → Came p → Came (p ++ name ∷ [])
      child (Some w) is d here c = step_own p name w is c
      child None none d here c = step_shared p name d u here none e c

      by : (dir : NodeRev) → met p ≡ Some dir → Came p → Came (p ++ name ∷ [])
      by dir g c = elim (cases_Bool (in_txn dir.id.place)) [
        | inl mine ↦ (let d = hanging.mine_at look top base trees nodes shown are le txn f own draft p dir g mine in child (own (p ++ name ∷ [])) refl d.0 d.1 c)
        | inr plain ↦ step_lasts p name dir u g plain e c
      ]

  came_from : (rest front : Path) → CameAt front → CameAt (front ++ rest)
  came_from [] front c = subst CameAt (sym (append-nil front)) c
  came_from (name ∷ rest) front c = subst CameAt (append_assoc front (name ∷ []) rest) (came_from rest (front ++ name ∷ []) (step front name c))

  came : (p : Path) → CameAt p
  came p = came_from p [] (λ u e. came_root)

  -- ---- paths and kinds

  pub paths : (p : Path) → is_some (met p) ≡ is_some (shows p)
  paths p = by (hanging.placed look top base trees nodes shown are le txn f own draft p)
    where
      by : Place own p → is_some (met p) ≡ is_some (shows p)
      by (Mine d here) = ap (λ (o : Option NodeRev). is_some o) (met_own p d here) ∙ sym (ap (λ (o : Option Node). is_some o) (placing.shown_own look top base trees nodes shown are le txn f own draft p d here))
      by (Shared a x rest d path here none) =
          ap (λ (q : Path). is_some (met q)) path ∙ ap (λ (o : Option NodeRev). is_some o) (placing.met_shared look top base trees nodes shown are le txn f own draft a d here x rest none)
          ∙ both (has_entry d.entries x)
          ∙ sym (ap (λ (q : Path). is_some (shows q)) path ∙ ap (λ (o : Option Node). is_some o) (placing.shown_shared look top base trees nodes shown are le txn f own draft a d here x rest none))
        where
          one : (o : Option NodeRev) → placing.nodes_below look top base trees nodes shown are le txn f own draft a d (x ∷ rest) ≡ o → (m : Option Node) → tree_below a d (x ∷ rest) ≡ m → is_some o ≡ is_some m
          one None e None g = refl
          one (Some u) e (Some m) g = refl
          one (Some u) e None g =
              let h = hanging.hangs look top base trees nodes shown are le txn f own draft a d here in
              let w = h.agrees.shown (x ∷ rest) u ((h.are (x ∷ rest) u).0 e) in let z = sym g ∙ w.1 in absurd cc
          one None e (Some m) g =
              let h = hanging.hangs look top base trees nodes shown are le txn f own draft a d here in
              let w = h.there (x ∷ rest) (ap (λ (o : Option Node). is_some o) g) in let z = sym e ∙ (h.are (x ∷ rest) w.0).1 w.1 in absurd cc

          both : (b : Bool) → is_some (cond b (placing.nodes_below look top base trees nodes shown are le txn f own draft a d (x ∷ rest)) None) ≡ is_some (cond b (tree_below a d (x ∷ rest)) None)
          both true = one (placing.nodes_below look top base trees nodes shown are le txn f own draft a d (x ∷ rest)) refl (tree_below a d (x ∷ rest)) refl
          both false = refl

  kinds : (p : Path) (u : NodeRev) (m : Node) → met p ≡ Some u → shows p ≡ Some m → m.kind ≡ u.kind
  kinds p u m e s = by (hanging.placed look top base trees nodes shown are le txn f own draft p)
    where
      by : Place own p → m.kind ≡ u.kind
      by (Mine d here) =
          ap (λ (z : Node). z.kind) (some_same (shows p) m d.shown s (placing.shown_own look top base trees nodes shown are le txn f own draft p d here))
          ∙ (draft.contents p d here).kind ∙ ap (λ (z : NodeRev). z.kind) (some_same (met p) d.node u (met_own p d here) e)
      by (Shared a x rest d path here none) =
          let h = hanging.hangs look top base trees nodes shown are le txn f own draft a d here in
          let g = got (has_entry d.entries x) (placing.nodes_below look top base trees nodes shown are le txn f own draft a d (x ∷ rest)) u (sym (placing.met_shared look top base trees nodes shown are le txn f own draft a d here x rest none) ∙ ap met (sym path) ∙ e) in
          let k = got (has_entry d.entries x) (tree_below a d (x ∷ rest)) m (sym (placing.shown_shared look top base trees nodes shown are le txn f own draft a d here x rest none) ∙ ap shows (sym path) ∙ s) in
          let w = h.agrees.shown (x ∷ rest) u ((h.are (x ∷ rest) u).0 g.1) in
          ap (λ (z : Node). z.kind) (some_same (tree_below a d (x ∷ rest)) m w.0 k.1 w.1) ∙ w.2.kind

  module _ (marks : List Mark) (say : AreMarksOf (trees base) marks own) (t : TreeFunction) (each : (p : Path) → bare (t p) ≡ bare (shows p)) where
    not_held : (p : Path) (u : NodeRev) → met p ≡ Some u → (trees base p ≡ None) ⊎ ((effects marks p).deleted ≡ true) → held own p ≡ true → ⊥
    not_held p u e lacks h = by (trees base p) refl lacks
      where
        a : HeldAt look top nodes own (StandsAt look base) (nodes base) p
        a = held_at look top nodes p own at_top (StandsAt look base) (nodes base) draft.rules h refl

        stands : (o : Option OwnNode) → own p ≡ o → (x : NodeRev) × StandsAt look base p x
        stands None none = (u, ((are base le).each p u).0 (sym (a.shared none) ∙ e))
        stands (Some v) is = let g = (a.mine v is).0 in (g.u, g.stands)

        some : (m : Node) × (trees base p ≡ Some m)
        some = let x = stands (own p) refl in let w = (revision_agrees look base (trees base) (shown base le) top le).shown p x.0 x.1 in (w.0, w.1)

        by : (o : Option Node) → trees base p ≡ o → (trees base p ≡ None) ⊎ ((effects marks p).deleted ≡ true) → ⊥
        by o is (inl none) = let z = sym none ∙ some.1 in absurd cc
        by o is (inr del) = both_ends (effects marks p).deleted true del (say.deleted p (ap (λ (o : Option Node). is_some o) some.1) ∙ ap not h)

    fresh : (p : Path) (m : Node) → t p ≡ Some m → (trees base p ≡ None) ⊎ ((effects marks p).deleted ≡ true) → FreshAt n met p m
    fresh p m e lacks =
        let a = alike (shows p) (t p) m e (each p) in
        let u = is_met (met p) refl (paths p ∙ ap (λ (o : Option Node). is_some o) a.is) in
        by a u.0 u.1 (came p u.0 u.1)
      where
        is_met : (o : Option NodeRev) → met p ≡ o → is_some (met p) ≡ true → (u : NodeRev) × (met p ≡ Some u)
        is_met None g s = absurd (false≢true (sym (ap (λ (o : Option NodeRev). is_some o) g) ∙ s))
        is_met (Some u) g s = (u, g)

        none_source : (c : Option CopySource) (o : Option NodeId) (s : Option Node) → c ≡ None → o ≡ None → source_here c o s ≡ None
        none_source None None s e g = refl
        none_source None (Some id) s e g = absurd cc
        none_source (Some from) o s e g = absurd cc

        by : Alike (shows p) m → (u : NodeRev) → met p ≡ Some u → Came p → FreshAt n met p m
        by a u g (Held h) = absurd (not_held p u g lacks h)
        by a u g (ByCopy k) = CameWith k.r k.c.node k.from k.below_it (met_own k.r k.c k.here) (hanging.is_mine look top base trees nodes shown are le txn f own draft k.r k.c k.here) k.copy k.near k.not_new (a.source ∙ k.source a.n a.is)
        by a u g (New v is none no_copy) =
            MadeHere v.node (met_own p v is) (hanging.is_mine look top base trees nodes shown are le txn f own draft p v is) none
            (a.source ∙ ap (λ (z : Node). z.source) (some_same (shows p) a.n v.shown a.is (placing.shown_own look top base trees nodes shown are le txn f own draft p v is)) ∙ sources p v is
            ∙ none_source v.node.copy_from v.node.predecessor (shared_at trees p own (trees base) []) no_copy none)

    pub draws : DrawsTree n (trees base) t marks met
    draws = record {
      paths = record { there = λ p. paths p ∙ sym (bare_some (t p) (shows p) (each p)) };
      kinds = λ p u m e g. (let a = alike (shows p) (t p) m g (each p) in a.kind ∙ kinds p u a.n e a.is);
      fresh = fresh;
    }

pub drafts_draw : DraftsDraw
drafts_draw look top base trees nodes shown are le txn f own marks t draft files say sources each n lt = draws look top base trees nodes shown are le txn f own draft sources n lt marks say t each
