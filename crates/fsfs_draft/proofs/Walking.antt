-- What stands below a node-revision of a revision, in the transaction's tree.
use Rattle.std.proofs.Common.{◌≡◌, ◌≤◌, ◌<◌, ◌+◌, ℕ, true, List, [], ◌∷◌, ◌++◌, length, take, refl, sym, ap, subst, ◌∙◌, inl, inr, append_assoc, append-nil, arith}
use Rattle.fsfs_model.specs.Flat.Edits.{is_dir, is_dir_node}
use Rattle.fsfs_revision.specs.Shows.ByTree.{LacksAt, IsBlockedAt}
use Rattle.fsfs_revision.proofs.Walks.{take_front}
use Rattle.fsfs_draft.proofs.OwnShown.{own_shown}
use Rattle.fsfs_draft.proofs.OwnEntries.{own_dir}
use Rattle.std.specs.Prelude.{Option, Some, None, Ok, Err, option_map}
use Rattle.fsfs_base.specs.Paths.{PathName, Path}
use Rattle.fsfs_tree.specs.Nodes.{Node, TreeFunction}
use Rattle.fsfs_base.specs.declared.kind.Kind.{Kind}
use Rattle.fsfs_base.specs.declared.kind.Kind.TheVariants.{File, Dir}
use Rattle.fsfs_base.specs.declared.fields.txn_name.TxnName.{TxnName}
use Rattle.fsfs_revision.specs.Told.{RevisionBytes}
use Rattle.fsfs_noderev.specs.declared.node_rev.NodeRev.{NodeRev}
use Rattle.fsfs_revision.specs.declared.wrong.Wrong.{Wrong}
use Rattle.fsfs_revision.specs.declared.wrong.ReadError.{ReadError}
use Rattle.fsfs_revision.specs.declared.wrong.ReadError.TheVariants as reads
use Rattle.fsfs_revision.specs.Damage.Readings.{Answers}
use Rattle.fsfs_revision.specs.Shows.Reading.{DirEntry, named, EntriesOf, OfId, OfEntry, kind_checks, OfNamed, ChildOf, StandsAt}
use Rattle.fsfs_revision.specs.Shows.Chains.{own_rev}
use Rattle.fsfs_revision.proofs.OneAnswer.{ok_same, pass_or_fail}
use Rattle.fsfs_revision.proofs.OneWalk.{of_id_one}
use Rattle.fsfs_draft.specs.Own.{OwnNode, Own, draft_tree, shared_under, shared_at}
use Rattle.fsfs_draft.specs.Rules.{stands_under, stands_at}
use Rattle.fsfs_draft.specs.Drafts.{Folder, IsDraft, ShowTrees}
use Rattle.fsfs_draft.specs.Agreeing.{Agrees, IsChildOf}
use Rattle.fsfs_draft.proofs.Here.{agrees_below}
use Rattle.fsfs_draft.specs.Errors.{of_read, IsFailure}
use Rattle.fsfs_draft.specs.Walks.{IsLastingAt, HasKind}

-- ---- a node of a kind

pub record HasNode (o : Option Node) (kind : Kind) : Type 0 where
  pub n : Node
  pub is : o ≡ Some n
  pub kind_is : n.kind ≡ kind

pub kind_node : (o : Option Node) (kind : Kind) → HasKind o kind → HasNode o kind
kind_node None kind h = absurd h
kind_node (Some n) kind h = record { n = n; is = refl; kind_is = h }

pub dir_node : (o : Option Node) → HasKind o Dir → is_dir_node o ≡ true
dir_node None h = absurd h
dir_node (Some n) h = ap is_dir h

pub own_kind : (look : RevisionBytes) (top base : ℕ) (trees : ℕ → TreeFunction) → ShowTrees look top trees → base ≤ top → (txn : TxnName) (f : Folder) (own : Own) → IsDraft look top base txn f own
    → (p : Path) (d : OwnNode) → own p ≡ Some d → HasKind (draft_tree trees own (trees base) p) Dir → d.node.kind ≡ Dir
own_kind look top base trees shown le txn f own draft p d here has = own_dir look top base trees shown le txn f own draft p d here (dir_node (draft_tree trees own (trees base) p) has)

pub own_has : (look : RevisionBytes) (top base : ℕ) (trees : ℕ → TreeFunction) → ShowTrees look top trees → base ≤ top → (txn : TxnName) (f : Folder) (own : Own) → IsDraft look top base txn f own
    → (p : Path) (d : OwnNode) (kind : Kind) → own p ≡ Some d → d.node.kind ≡ kind → HasKind (draft_tree trees own (trees base) p) kind
own_has look top base trees shown le txn f own draft p d kind here is =
    subst (λ (o : Option Node). HasKind o kind) (sym (own_shown look top base trees shown le txn f own draft p d here)) ((draft.contents p d here).kind ∙ is)

-- ---- where a walk stops

pub length_push : (front : Path) (name : PathName) → length (front ++ name ∷ []) ≡ length front + 1
length_push [] name = refl
length_push (x ∷ front) name = let h = length_push front name in omega arith

length_more : (front : Path) (name : PathName) (rest : Path) → length front < length (front ++ name ∷ rest)
length_more [] name rest = omega arith
length_more (x ∷ front) name rest = let h = length_more front name rest in omega arith

pub lacks_at : (tree : TreeFunction) (front : Path) (name : PathName) (rest p : Path) (depth : ℕ) → front ++ name ∷ rest ≡ p → depth ≡ length front → HasKind (tree front) Dir → tree (front ++ name ∷ []) ≡ None → LacksAt tree p (depth + 1)
lacks_at tree front name rest p depth parts deep has none = subst (λ (t : Path). LacksAt tree t (depth + 1)) parts (record {
  above = depth;
  depth_is = omega arith;
  within = (let h = length_more front name rest in omega (arith, h, deep));
  nothing = ap tree upper ∙ none;
  dir = node.n;
  dir_is = ap tree (ap (λ (k : ℕ). take k (front ++ name ∷ rest)) deep ∙ take_front front (name ∷ rest)) ∙ node.is;
  kind = node.kind_is;
})
  where
    node : HasNode (tree front) Dir
    node = kind_node (tree front) Dir has

    upper : take (depth + 1) (front ++ name ∷ rest) ≡ front ++ name ∷ []
    upper =
        ap (λ (k : ℕ). take k (front ++ name ∷ rest)) (let h = length_push front name in let e : depth + 1 ≡ length (front ++ name ∷ []) = omega (arith, h, deep) in e)
        ∙ ap (λ (t : Path). take (length (front ++ name ∷ [])) t) (sym (append_assoc front (name ∷ []) rest)) ∙ take_front (front ++ name ∷ []) rest

pub blocked_at : (tree : TreeFunction) (front : Path) (name : PathName) (rest p : Path) (depth : ℕ) → front ++ name ∷ rest ≡ p → depth ≡ length front → HasKind (tree front) File → IsBlockedAt tree p depth
blocked_at tree front name rest p depth parts deep has = subst (λ (t : Path). IsBlockedAt tree t depth) parts (record {
  within = (let h = length_more front name rest in omega (arith, h, deep));
  file = node.n;
  file_is = ap tree (ap (λ (k : ℕ). take k (front ++ name ∷ rest)) deep ∙ take_front front (name ∷ rest)) ∙ node.is;
  kind = node.kind_is;
})
  where
    node : HasNode (tree front) File
    node = kind_node (tree front) File has

pub pushed : (front : Path) (name : PathName) (depth : ℕ) → depth ≡ length front → depth + 1 ≡ length (front ++ name ∷ [])
pushed front name depth deep = let h = length_push front name in omega (arith, h, deep)

module _ (look : RevisionBytes) (top base : ℕ) (trees : ℕ → TreeFunction) (shown : ShowTrees look top trees) (le : base ≤ top) (txn : TxnName) (f : Folder) (own : Own) (draft : IsDraft look top base txn f own)
    (path : Path) (u : NodeRev) (at : IsLastingAt look trees base own path u) where
  abbrev Stands : Path → NodeRev → Type 0
  Stands q v = stands_under look (Some at.d) (λ r w. stands_at look at.p own (StandsAt look base) r w) q v

  agrees : Agrees look top Stands (shared_under trees (Some at.d) (shared_at trees at.p own (trees base)))
  agrees = agrees_below look top base trees shown le txn f own draft at.p at.d at.here

  pub lasting_within : own_rev u ≤ top
  lasting_within = agrees.within at.q u at.stands

  pub lasting_kind : (kind : Kind) → HasKind (draft_tree trees own (trees base) path) kind → u.kind ≡ kind
  lasting_kind kind has =
      let n = agrees.shown at.q u at.stands in
      let here : draft_tree trees own (trees base) path ≡ Some n.0 =
      ap (λ (t : Path). draft_tree trees own (trees base) t) (sym (append-nil path)) ∙ at.tree [] ∙ ap (λ (t : Path). shared_under trees (Some at.d) (shared_at trees at.p own (trees base)) t) (append-nil at.q) ∙ n.1 in
      let k : n.0.kind ≡ kind = subst (λ (o : Option Node). HasKind o kind) here has in
      sym n.2.kind ∙ k

  module _ (dir : u.kind ≡ Dir) (name : PathName) where
    at_name : draft_tree trees own (trees base) (path ++ name ∷ []) ≡ shared_under trees (Some at.d) (shared_at trees at.p own (trees base)) (at.q ++ name ∷ [])
    at_name = at.tree (name ∷ [])

    none_named : (o : Option DirEntry) → OfNamed look o (Ok None) → o ≡ None
    none_named None of = refl
    none_named (Some e) of = absurd of

    pub below_none : ChildOf look u name (Ok None) → draft_tree trees own (trees base) (path ++ name ∷ []) ≡ None
    below_none of = at_name ∙ agrees.lacks at.q u of.0 name [] at.stands dir of.1 (none_named (named name of.0) of.2)

    is_child : (e : DirEntry) (entries : List DirEntry) → EntriesOf look u (Ok entries) → named name entries ≡ Some e → (v : NodeRev) × Stands (at.q ++ name ∷ []) v × IsChildOf look e v
    is_child e entries of is = agrees.child at.q u entries name e at.stands dir of is

    some_named : (o : Option DirEntry) (v : NodeRev) → OfNamed look o (Ok (Some v)) → (e : DirEntry) × (o ≡ Some e) × OfEntry look e (Ok v)
    some_named None v of = absurd cc
    some_named (Some e) v of = (e, refl, of)

    pub below_some : (v : NodeRev) → ChildOf look u name (Ok (Some v)) → IsLastingAt look trees base own (path ++ name ∷ []) v × HasKind (draft_tree trees own (trees base) (path ++ name ∷ [])) v.kind
    below_some v of =
        let s = some_named (named name of.0) v of.2 in
        let c = is_child s.0 of.0 of.1 s.1 in
        let read : OfId look s.0.id (Ok v) = subst (λ (w : NodeRev). OfId look s.0.id (Ok w)) (sym s.2.2.0) s.2.1 in
        let same : c.0 ≡ v = ok_same c.0 v (of_id_one look s.0.id (Ok c.0) (Ok v) c.2.read read) in
        let stands : Stands (at.q ++ name ∷ []) v = subst (λ (w : NodeRev). Stands (at.q ++ name ∷ []) w) same c.1 in
        let n = agrees.shown (at.q ++ name ∷ []) v stands in (
          record {
            p = at.p;
            d = at.d;
            here = at.here;
            q = at.q ++ name ∷ [];
            path_is = ap (λ (t : Path). t ++ name ∷ []) at.path_is ∙ append_assoc at.p at.q (name ∷ []);
            stands = stands;
            tree = λ r. ap (λ (t : Path). draft_tree trees own (trees base) t) (append_assoc path (name ∷ []) r) ∙ at.tree (name ∷ r) ∙ ap (λ (t : Path). shared_under trees (Some at.d) (shared_at trees at.p own (trees base)) t) (sym (append_assoc at.q (name ∷ []) r));
          },
          subst (λ (o : Option Node). HasKind o v.kind) (sym (at_name ∙ n.1)) n.2.kind,
        )

    named_never : (entries : List DirEntry) → EntriesOf look u (Ok entries) → (o : Option DirEntry) → named name entries ≡ o → (w : Wrong) → OfNamed look o (Err w) → ⊥
    named_never entries of None is w h = cc
    named_never entries of (Some e) is w (inl h) = let c = is_child e entries of is in let g = of_id_one look e.id (Ok c.0) (Err w) c.2.read h in cc
    named_never entries of (Some e) is w (inr h) =
        let c = is_child e entries of is in
        let same : c.0 ≡ h.0 = ok_same c.0 h.0 (of_id_one look e.id (Ok c.0) (Ok h.0) c.2.read h.1) in
        pass_or_fail (kind_checks e h.0) w ((λ i. (sym same i).kind) ∙ c.2.kind, tt) h.2

    below_never : (w : Wrong) → ChildOf look u name (Err w) → ⊥
    below_never w (inl h) = agrees.never at.q u w at.stands dir h
    below_never w (inr h) = named_never h.0 h.1 (named name h.0) refl w h.2

    pub below_fails : {A : Type 0} (view : A → Option NodeRev) (x : ReadError) → Answers view (ChildOf look u name) (Err x) → IsFailure (of_read x)
    below_fails view reads.OutOfMemory h = tt
    below_fails view reads.DiskFault h = tt
    below_fails view (reads.Wrong w) h = below_never w h
