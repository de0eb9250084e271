-- The trees of revisions, and the node-revisions that stand in them.
use Rattle.std.proofs.Common.{◌≡◌, ◌≤◌, ℕ, suc, true, false, List, [], ◌∷◌, ◌++◌, refl, sym, ap, subst, ◌∙◌, inl, inr, append_assoc, arith}
use Rattle.std.specs.Prelude.{Ok, Err, Option, Some, None, is_some, IsSomeAnd, ◌⊎◌}
use Rattle.std.proofs.lemmas.Bool.{and_from, cases_Bool}
use Rattle.fsfs_base.specs.Paths.{PathName, Path, covers}
use Rattle.fsfs_tree.specs.Nodes.{Node, TreeFunction}
use Rattle.fsfs_model.specs.Flat.Edits.{copied_node}
use Rattle.fsfs_base.specs.declared.kind.Kind.{Kind}
use Rattle.fsfs_base.specs.declared.kind.Kind.TheVariants.{File, Dir}
use Rattle.fsfs_base.proofs.PathLemmas.{same_name-refl, covers-antisym}
use Rattle.fsfs_revision.specs.Told.{RevisionBytes}
use Rattle.fsfs_noderev.specs.declared.node_id.NodeId.{NodeId}
use Rattle.fsfs_noderev.specs.declared.node_rev.CopySource.{CopySource}
use Rattle.fsfs_noderev.specs.declared.node_rev.NodeRev.{NodeRev}
use Rattle.fsfs_revision.specs.Nodes.{is_of_revision}
use Rattle.fsfs_revision.specs.declared.wrong.Wrong.{Wrong}
use Rattle.fsfs_revision.specs.Shows.Reading.{DirEntry, named, EntriesOf, OfId, OfNamed, OfEntry, ChildOf, Met, Stands, Lacking, Blocked, OrLacking, InDirectory, MetFrom, MetAt, StandsAt}
use Rattle.fsfs_revision.specs.Shows.Chains.{own_rev}
use Rattle.fsfs_revision.specs.Shows.Shown.{IsShown, IsShownAs, Shows}
use Rattle.fsfs_revision.specs.Shows.ByTree.{IsEntryByTree}
use Rattle.fsfs_revision.proofs.OneAnswer.{ok_same}
use Rattle.fsfs_revision.proofs.OneEntry.{entries_one}
use Rattle.fsfs_revision.proofs.OneWalk.{stands_same}
use Rattle.fsfs_revision.proofs.ByTree.{by_tree}
use Rattle.fsfs_revision.proofs.TreeLaw.{sound}
use Rattle.fsfs_revision.proofs.Earlier.{stands_of_id}
use Rattle.fsfs_draft.specs.Own.{OwnNode, Own, below, shared_from, shared_under, shared_at, lives_in, lives}
use Rattle.fsfs_draft.specs.Rules.{Above, ComesBy, Change, Copied, Made, NodeRule, Rules, above_under, stands_from, stands_under, stands_at, head_at}
use Rattle.fsfs_draft.specs.Drafts.{ShowTrees}
use Rattle.fsfs_draft.proofs.Grafts.{inner_lives}
use Rattle.fsfs_draft.specs.Agreeing.{IsContentOf, IsChildOf, Agrees}

-- ---- the last step of a walk

record LastStep (look : RevisionBytes) (a : NodeRev) (depth : ℕ) (front : Path) (name : PathName) (v : NodeRev) : Type 0 where
  dir : NodeRev
  stands : MetFrom look a depth front (Ok (Stands dir))
  kind : dir.kind ≡ Dir
  child : ChildOf look dir name (Ok (Some v))

last_here : (look : RevisionBytes) (a v : NodeRev) (depth : ℕ) (name : PathName) (kind : Kind) → a.kind ≡ kind → InDirectory kind depth (ChildOf look a name) (λ w. MetFrom look w (suc depth) []) (Ok (Stands v)) → LastStep look a depth [] name v
last_here look a v depth name File is on = absurd cc
last_here look a v depth name Dir is on = by on.0 on.1 on.2
  where
    by : (o : Option NodeRev) → ChildOf look a name (Ok o) → OrLacking (suc depth) (λ w. MetFrom look w (suc depth) []) o (Ok (Stands v)) → LastStep look a depth [] name v
    by None child end = absurd cc
    by (Some w) child end =
        let same : w ≡ v = cc in
        record { dir = a; stands = refl; kind = is; child = subst (λ (x : NodeRev). ChildOf look a name (Ok (Some x))) same child }

last_below : (look : RevisionBytes) (a v : NodeRev) (depth : ℕ) (x : PathName) (front : Path) (name : PathName) (kind : Kind) → a.kind ≡ kind → InDirectory kind depth (ChildOf look a x) (λ w. MetFrom look w (suc depth) (front ++ name ∷ [])) (Ok (Stands v))
    → ((w : NodeRev) → MetFrom look w (suc depth) (front ++ name ∷ []) (Ok (Stands v)) → LastStep look w (suc depth) front name v) → LastStep look a depth (x ∷ front) name v
last_below look a v depth x front name File is on f = absurd cc
last_below look a v depth x front name Dir is on f = by on.0 on.1 on.2
  where
    by : (o : Option NodeRev) → ChildOf look a x (Ok o) → OrLacking (suc depth) (λ w. MetFrom look w (suc depth) (front ++ name ∷ [])) o (Ok (Stands v)) → LastStep look a depth (x ∷ front) name v
    by None child end = absurd cc
    by (Some w) child end =
        let s = f w end in
        record {
          dir = s.dir;
          stands = subst (λ (k : Kind). InDirectory k depth (ChildOf look a x) (λ u. MetFrom look u (suc depth) front) (Ok (Stands s.dir))) (sym is) (Some w, child, s.stands);
          kind = s.kind;
          child = s.child;
        }

last_step : (look : RevisionBytes) (a v : NodeRev) (depth : ℕ) (front : Path) (name : PathName) → MetFrom look a depth (front ++ name ∷ []) (Ok (Stands v)) → LastStep look a depth front name v
last_step look a v depth [] name on = last_here look a v depth name a.kind refl on
last_step look a v depth (x ∷ front) name on = last_below look a v depth x front name a.kind refl on (λ w further. last_step look w v (suc depth) front name further)

-- ---- the tree that the bytes show

module _ (look : RevisionBytes) (rev : ℕ) (tree : TreeFunction) (shows : Shows look rev tree) where
  node_of : (o : Option Node) (p : Path) (v : NodeRev) → IsSomeAnd o (IsShown look rev p v) → (n : Node) × (o ≡ Some n) × IsContentOf look v n
  node_of None p v h = absurd h
  node_of (Some n) p v h = (n, refl, record { kind = h.kind; text = h.text; properties = h.properties })

  shown_there : (p : Path) (v : NodeRev) → StandsAt look rev p v → (n : Node) × (tree p ≡ Some n) × IsContentOf look v n
  shown_there p v at = node_of (tree p) p v ((by_tree look rev tree shows).paths p (Ok (Stands v)) at)

  rev_in : (o : Option Node) (p : Path) (v : NodeRev) → tree p ≡ o → IsSomeAnd o (IsShown look rev p v) → own_rev v ≤ rev
  rev_in None p v is h = absurd h
  rev_in (Some n) p v is h = let most = (sound look rev tree shows).at_most p n is in let same = h.last_changed in omega (arith, most, same)

  stands_within : (p : Path) (v : NodeRev) → StandsAt look rev p v → own_rev v ≤ rev
  stands_within p v at = rev_in (tree p) p v refl ((by_tree look rev tree shows).paths p (Ok (Stands v)) at)

  never_wrong : (q : Path) (u : NodeRev) (w : Wrong) → StandsAt look rev q u → u.kind ≡ Dir → EntriesOf look u (Err w) → ⊥
  never_wrong q u w at dir of = (by_tree look rev tree shows).entries q u (Err w) at dir of

  -- something stands where the tree has a node
  pub met_there : (p : Path) (o : Option Node) → tree p ≡ o → is_some o ≡ true → (v : NodeRev) × StandsAt look rev p v
  met_there p None is some = absurd cc
  met_there p (Some n) is some = by (shows.each p).0 (shows.each p).1 (subst (λ (o : Option Node). IsShownAs look rev p (shows.each p).0 o) is (shows.each p).2)
    where
      by : (m : Met) → MetAt look rev p (Ok m) → IsShownAs look rev p m (Some n) → (v : NodeRev) × StandsAt look rev p v
      by (Stands v) at shows_it = (v, at)
      by (Lacking k) at shows_it = absurd cc
      by (Blocked k) at shows_it = absurd cc

  entry_node : (o : Option Node) (e : DirEntry) → IsSomeAnd o (λ n. n.kind ≡ e.kind) → is_some o ≡ true
  entry_node None e h = absurd h
  entry_node (Some n) e h = refl

  child_of : (e : DirEntry) (u v : NodeRev) (entries found : List DirEntry) (name : PathName) → named name entries ≡ Some e → found ≡ entries → OfNamed look (named name found) (Ok (Some v)) → IsChildOf look e v
  child_of e u v entries found name is same of = by (subst (λ (o : Option DirEntry). OfNamed look o (Ok (Some v))) (ap (named name) same ∙ is) of)
    where
      by : OfEntry look e (Ok v) → IsChildOf look e v
      by of =
          let w = of.0 in
          let id = of.1 in
          let same : v ≡ w = of.2.0 in
          let lasting : is_of_revision w ≡ true = subst (λ (x : NodeRev). is_of_revision x ≡ true) (sym id.2.0) id.1.2.0.1 in
          record {
            read = subst (λ (x : NodeRev). OfId look e.id (Ok x)) (sym same) id;
            id = (λ i. (same i).id) ∙ (λ i. (id.2.0 i).id) ∙ id.2.1;
            kind = (λ i. (same i).kind) ∙ of.2.1;
            lasting = subst (λ (x : NodeRev). is_of_revision x ≡ true) (sym same) lasting;
          }

  -- the child of a directory's entry
  entry_child : (q : Path) (u : NodeRev) (entries : List DirEntry) (name : PathName) (e : DirEntry) → StandsAt look rev q u → u.kind ≡ Dir → EntriesOf look u (Ok entries) → named name entries ≡ Some e
      → (v : NodeRev) × StandsAt look rev (q ++ name ∷ []) v × IsChildOf look e v
  entry_child q u entries name e at dir of is =
      let by_name : IsEntryByTree (named name entries) (tree (q ++ name ∷ [])) = (by_tree look rev tree shows).entries q u (Ok entries) at dir of name in
      let there = met_there (q ++ name ∷ []) (tree (q ++ name ∷ [])) refl (entry_node (tree (q ++ name ∷ [])) e (subst (λ (o : Option DirEntry). IsEntryByTree o (tree (q ++ name ∷ []))) is by_name)) in
      let root = there.1.0 in
      let step = last_step look root there.0 0 q name there.1.2 in
      let same : step.dir ≡ u = stands_same look rev q step.dir u (root, there.1.1, step.stands) at in
      let child = subst (λ (x : NodeRev). ChildOf look x name (Ok (Some there.0))) same step.child in
      (there.0, there.1, child_of e u there.0 entries child.0 name is (ok_same child.0 entries (entries_one look u (Ok child.0) (Ok entries) child.1 of)) child.2)

  -- below nothing is nothing
  none_below : (a b : Path) → tree a ≡ None → covers a b ≡ true → tree b ≡ None
  none_below a b none above = by (tree b) refl
    where
      by : (o : Option Node) → tree b ≡ o → tree b ≡ None
      by None is = is
      by (Some n) is = absurd (at (cases_Bool (covers b a)))
        where
          there : is_some (tree b) ≡ true
          there = ap (λ (o : Option Node). is_some o) is

          at : (covers b a ≡ true) ⊎ (covers b a ≡ false) → ⊥
          at (inl back) = let same = ap tree (covers-antisym a b above back) in let e = sym is ∙ sym same ∙ none in absurd cc
          at (inr differs) = let d = (sound look rev tree shows).is_tree.above a b (and_from _ _ above (rw differs refl)) there in let e = sym none ∙ d.1 in absurd cc

  longer : (q : Path) (name : PathName) (rest : Path) → covers (q ++ name ∷ []) (q ++ name ∷ rest) ≡ true
  longer [] name rest = and_from _ _ (same_name-refl name) refl
  longer (x ∷ q) name rest = and_from _ _ (same_name-refl x) (longer q name rest)

  entry_lacks : (q : Path) (u : NodeRev) (entries : List DirEntry) (name : PathName) (rest : Path) → StandsAt look rev q u → u.kind ≡ Dir → EntriesOf look u (Ok entries) → named name entries ≡ None → tree (q ++ name ∷ rest) ≡ None
  entry_lacks q u entries name rest at dir of is =
      let by_name : IsEntryByTree (named name entries) (tree (q ++ name ∷ [])) = (by_tree look rev tree shows).entries q u (Ok entries) at dir of name in
      none_below (q ++ name ∷ []) (q ++ name ∷ rest) (subst (λ (o : Option DirEntry). IsEntryByTree o (tree (q ++ name ∷ []))) is by_name) (longer q name rest)

  module _ (top : ℕ) (le : rev ≤ top) where
    -- what stands in the revision agrees with its tree
    pub revision_agrees : Agrees look top (StandsAt look rev) tree
    revision_agrees = record { shown = shown_there; read = stands_of_id look rev; within = λ q u at. (let h = stands_within q u at in omega (arith, h, le)); never = never_wrong; child = entry_child; lacks = entry_lacks }

    -- and so does a copy of what stands at and below a path
    pub copy_agrees : (from : Path) → Agrees look top (λ q u. StandsAt look rev (from ++ q) u) (λ q. copied_node rev (from ++ q) (tree (from ++ q)))
    copy_agrees from = record {
      shown = λ q u at. (let n = shown_there (from ++ q) u at in (record n.0 { source = Some (rev, from ++ q) }, ap (λ (o : Option Node). copied_node rev (from ++ q) o) n.1, record { kind = n.2.kind; text = n.2.text; properties = n.2.properties }));
      read = λ q u at. stands_of_id look rev (from ++ q) u at;
      within = λ q u at. (let h = stands_within (from ++ q) u at in omega (arith, h, le));
      never = λ q u w at dir of. never_wrong (from ++ q) u w at dir of;
      child = λ q u entries name e at dir of is. (let c = entry_child (from ++ q) u entries name e at dir of is in (c.0, subst (λ (p : Path). StandsAt look rev p c.0) (append_assoc from q (name ∷ [])) c.1, c.2));
      lacks = λ q u entries name rest at dir of is. ap (λ (o : Option Node). copied_node rev (from ++ (q ++ name ∷ rest)) o) (ap tree (sym (append_assoc from q (name ∷ rest))) ∙ entry_lacks (from ++ q) u entries name rest at dir of is);
    }

-- ---- where nothing of the transaction's stands

-- below a name
pub below_agrees : (look : RevisionBytes) (top : ℕ) (S : Path → NodeRev → Type 0) (tree : TreeFunction) (x : PathName) → Agrees look top S tree → Agrees look top (λ q u. S (x ∷ q) u) (below x tree)
below_agrees look top S tree x a = record {
  shown = λ q u at. a.shown (x ∷ q) u at;
  read = λ q u at. a.read (x ∷ q) u at;
  within = λ q u at. a.within (x ∷ q) u at;
  never = λ q u w at dir of. a.never (x ∷ q) u w at dir of;
  child = λ q u entries name e at dir of is. a.child (x ∷ q) u entries name e at dir of is;
  lacks = λ q u entries name rest at dir of is. a.lacks (x ∷ q) u entries name rest at dir of is;
}

-- below an own node-revision
pub under_agrees : (look : RevisionBytes) (top : ℕ) (trees : ℕ → TreeFunction) → ShowTrees look top trees → (v : OwnNode) (above : Above) (S : Path → NodeRev → Type 0) (tree : TreeFunction) → ComesBy look top S above v → Agrees look top S tree
    → Agrees look top (stands_under look (Some v) S) (shared_under trees (Some v) tree)
under_agrees look top trees shown v above S tree (Change u at no_copy goes keeps root part) a = by v.node.copy_from v.node.predecessor no_copy goes.predecessor
  where
    by : (c : Option CopySource) (o : Option NodeId) → c ≡ None → o ≡ Some u.id → Agrees look top (stands_from look c o S) (shared_from trees c o tree)
    by None (Some id) e f = record { shown = a.shown; read = a.read; within = a.within; never = a.never; child = a.child; lacks = a.lacks }
    by None None e f = absurd cc
    by (Some from) o e f = absurd cc
under_agrees look top trees shown v above S tree (Copied u from copy le at goes keeps root part) a = by v.node.copy_from copy
  where
    by : (c : Option CopySource) → c ≡ Some from → Agrees look top (stands_from look c v.node.predecessor S) (shared_from trees c v.node.predecessor tree)
    by (Some other) e =
        let same : other ≡ from = cc in
        let le_other : other.rev ≤ top = subst (λ (c : CopySource). c.rev ≤ top) (sym same) le in
        let w = copy_agrees look other.rev (trees other.rev) (shown other.rev le_other) top le_other other.path in
        record { shown = w.shown; read = w.read; within = w.within; never = w.never; child = w.child; lacks = w.lacks }
    by None e = absurd cc
under_agrees look top trees shown v above S tree (Made no_copy no_pred count root copy part) a = by v.node.copy_from v.node.predecessor no_copy no_pred
  where
    by : (c : Option CopySource) (o : Option NodeId) → c ≡ None → o ≡ None → Agrees look top (stands_from look c o S) (shared_from trees c o tree)
    by None None e f = record { shown = λ q u at. absurd at; read = λ q u at. absurd at; within = λ q u at. absurd at; never = λ q u w at. absurd at; child = λ q u entries name e at. absurd at; lacks = λ q u entries name rest at. absurd at }
    by None (Some id) e f = absurd cc
    by (Some from) o e f = absurd cc

-- at a path down to which all is the transaction's own
pub agrees_at : (look : RevisionBytes) (top : ℕ) (trees : ℕ → TreeFunction) → ShowTrees look top trees → (p : Path) (own : Own) (above : Above) (S : Path → NodeRev → Type 0) (tree : TreeFunction) → lives p own ≡ true → Rules look top own above S → Agrees look top S tree
    → Agrees look top (stands_at look p own S) (shared_at trees p own tree)
agrees_at look top trees shown [] own above S tree live rules a = record { shown = a.shown; read = a.read; within = a.within; never = a.never; child = a.child; lacks = a.lacks }
agrees_at look top trees shown (x ∷ p) own above S tree live rules a =
    agrees_at look top trees shown p (below x own) (above_under (own []) above) (λ q u. stands_under look (own []) S (x ∷ q) u) (below x (shared_under trees (own []) tree)) (inner_lives (own []) x (lives p (below x own)) live) (λ q. rules (x ∷ q))
    (by (own []) (rules []) live)
  where
    by : (o : Option OwnNode) → NodeRule look top o (λ name. head_at (own (name ∷ []))) above S → lives_in o x (lives p (below x own)) ≡ true → Agrees look top (λ q u. stands_under look o S (x ∷ q) u) (below x (shared_under trees o tree))
    by None rule live = absurd cc
    by (Some v) rule live = below_agrees look top (stands_under look (Some v) S) (shared_under trees (Some v) tree) x (under_agrees look top trees shown v above S tree rule.0 a)
