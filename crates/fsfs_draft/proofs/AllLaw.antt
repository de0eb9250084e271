-- What is tied to own node-revisions, and has all, is what is met in them.
use Rattle.std.proofs.Common.{◌≡◌, ◌≤◌, ℕ, Bool, true, false, cond, List, [], ◌∷◌, ◌++◌, refl, sym, ap, subst, ◌∙◌, inl, inr, append-nil, append_assoc}
use Rattle.std.specs.Prelude.{Ok, Option, Some, None, is_some}
use Rattle.fsfs_base.specs.Paths.{PathName, Path}
use Rattle.fsfs_tree.specs.Nodes.{TreeFunction}
use Rattle.fsfs_base.specs.declared.kind.Kind.TheVariants.{Dir}
use Rattle.fsfs_base.specs.declared.fields.txn_name.TxnName.{TxnName}
use Rattle.fsfs_revision.specs.Told.{RevisionBytes}
use Rattle.fsfs_noderev.specs.declared.node_rev.NodeRev.{NodeRev}
use Rattle.fsfs_revision.specs.Shows.Reading.{DirEntry, named, ChildOf}
use Rattle.fsfs_revision.specs.Shows.Chains.{IsPred}
use Rattle.fsfs_draft.specs.Own.{OwnNode, Own, has_entry}
use Rattle.fsfs_draft.specs.Drafts.{Folder, IsDraft, ShowTrees}
use Rattle.fsfs_draft.specs.OwnSides.{NodesAt, in_txn}
use Rattle.fsfs_draft.specs.NodeDrafts.{IsOwn}
use Rattle.fsfs_draft.specs.NodeDrafts as nodewise
use Rattle.fsfs_draft.specs.Met.{draft_nodes, AreNodes}
use Rattle.fsfs_draft.specs.Tied.{IsListed, IsTied, HasAll, TiedAreMet}
use Rattle.fsfs_draft.proofs.HangLaw as hanging
use Rattle.fsfs_draft.proofs.HangLaw.{some_same}
use Rattle.fsfs_draft.proofs.Placing as placing
use Rattle.std.proofs.lemmas.Bool.{cases_Bool}

is_listed : (e : DirEntry) (o : Option NodeRev) → IsListed (Some e) o → (u : NodeRev) × (o ≡ Some u)
is_listed e None l = absurd l
is_listed e (Some u) l = (u, refl)

is_lacking : (o : Option NodeRev) → IsListed None o → o ≡ None
is_lacking None l = refl
is_lacking (Some u) l = absurd l

module _ (look : RevisionBytes) (top base : ℕ) (trees : ℕ → TreeFunction) (nodes : ℕ → NodesAt) (shown : ShowTrees look top trees) (are : AreNodes look top nodes) (le : base ≤ top)
    (txn : TxnName) (f : Folder) (own : Own) (draft : IsDraft look top base txn f own) where
  abbrev pub here : NodesAt
  here = draft_nodes nodes own (nodes base)

  abbrev pub nodes_below : Path → OwnNode → NodesAt
  nodes_below p d = placing.nodes_below look top base trees nodes shown are le txn f own draft p d

  -- what is met has all that is below what lasts
  pub met_below : (p : Path) (name : PathName) (d v : NodeRev) → here p ≡ Some d → in_txn d.id.place ≡ false → ChildOf look d name (Ok (Some v)) → d.kind ≡ Dir → here (p ++ name ∷ []) ≡ Some v
  met_below p name d v e plain child dir =
      let l = hanging.lasts look top base trees nodes shown are le txn f own draft p d e plain in
      let h = hanging.hangs look top base trees nodes shown are le txn f own draft l.a l.d l.here in
      let there : p ++ name ∷ [] ≡ l.a ++ l.x ∷ (l.rest ++ name ∷ []) = ap (λ (q : Path). q ++ name ∷ []) l.path ∙ append_assoc l.a (l.x ∷ l.rest) (name ∷ []) in
      ap here there
      ∙ placing.met_shared look top base trees nodes shown are le txn f own draft l.a l.d l.here l.x (l.rest ++ name ∷ []) l.none
      ∙ ap (λ (b : Bool). cond b (nodes_below l.a l.d (l.x ∷ (l.rest ++ name ∷ []))) None) l.has
      ∙ (h.are (l.x ∷ (l.rest ++ name ∷ [])) v).1 (h.down (l.x ∷ l.rest) name d v l.stands dir child)

  -- and all that an own directory without a `children` file goes on from
  pub met_inherited : (p : Path) (name : PathName) (d : OwnNode) (u v : NodeRev) → own p ≡ Some d → own (p ++ name ∷ []) ≡ None → has_entry d.entries name ≡ true → IsPred look d.node u → u.kind ≡ Dir → ChildOf look u name (Ok (Some v)) → here (p ++ name ∷ []) ≡ Some v
  met_inherited p name d u v is none has pred dir child =
      let h = hanging.hangs look top base trees nodes shown are le txn f own draft p d is in
      placing.met_shared look top base trees nodes shown are le txn f own draft p d is name [] none
      ∙ ap (λ (b : Bool). cond b (nodes_below p d (name ∷ [])) None) has
      ∙ (h.are (name ∷ []) v).1 (h.down [] name u v (hanging.back look top base trees nodes shown are le txn f own draft p d is u pred) dir child)

  module _ (met : NodesAt) (nodal : nodewise.IsDraft look top base met) (tied : IsTied look met own) (all : HasAll look met own) where
    abbrev Same : Path → Type 0
    Same p = here p ≡ met p

    own_same : (p : Path) (d : OwnNode) → own p ≡ Some d → Same p
    own_same p d is = hanging.met_own look top base trees nodes shown are le txn f own draft p d is ∙ sym (tied.mine p d is)

    root_same : Same []
    root_same = own_same [] draft.root draft.root_is

    -- behind a name of an own directory at which nothing is the transaction's
    child_same : (p : Path) (name : PathName) (d : OwnNode) → own p ≡ Some d → own (p ++ name ∷ []) ≡ None → Same (p ++ name ∷ [])
    child_same p name d is none = by (here (p ++ name ∷ [])) refl (met (p ++ name ∷ [])) refl
      where
        plain : (v : NodeRev) → met (p ++ name ∷ []) ≡ Some v → in_txn v.id.place ≡ false
        plain v e = elim (cases_Bool (in_txn v.id.place)) [
          | inl mine ↦ (let w = tied.all (p ++ name ∷ []) v e mine in let g = sym none ∙ w.1 in absurd cc)
          | inr last ↦ last
        ]

        has_named : (v : NodeRev) → met (p ++ name ∷ []) ≡ Some v → (o : Option (List DirEntry)) → d.entries ≡ o → has_entry o name ≡ true
        has_named v e None g = refl
        has_named v e (Some entries) g = at (named name entries) (tied.listed p d entries name is g)
          where
            at : (o : Option DirEntry) → IsListed o (met (p ++ name ∷ [])) → is_some o ≡ true
            at None l = let q = sym (is_lacking (met (p ++ name ∷ [])) l) ∙ e in absurd cc
            at (Some x) l = refl

        in_here : (v : NodeRev) → met (p ++ name ∷ []) ≡ Some v → here (p ++ name ∷ []) ≡ Some v
        in_here v e =
            let o = nodal.older p name d.node v (tied.mine p d is) (hanging.is_mine look top base trees nodes shown are le txn f own draft p d is) e (plain v e) in
            let a = nodal.above p name v e in
            let kind : d.node.kind ≡ Dir = ap (λ (z : NodeRev). z.kind) (some_same (met p) d.node a.0 (tied.mine p d is) a.1) ∙ a.2 in
            let dir : o.0.kind ≡ Dir = sym (hanging.goes look top base trees nodes shown are le txn f own draft p d is o.0 o.1).0.kind ∙ kind in
            met_inherited p name d o.0 v is none (has_named v e d.entries refl) o.1 dir o.2

        in_met : (v : NodeRev) → here (p ++ name ∷ []) ≡ Some v → (o : Option (List DirEntry)) → d.entries ≡ o → (u : NodeRev) × (met (p ++ name ∷ []) ≡ Some u)
        in_met v e None g =
            let h = hanging.hangs look top base trees nodes shown are le txn f own draft p d is in
            let s = hanging.shared_child look top base trees nodes shown are le txn f own draft p name d v is e none in
            let u = h.up [] name v s in
            (v, all.inherited p name d u.0 v is g (hanging.pred_here look top base trees nodes shown are le txn f own draft p d is u.0 u.1) u.2.0 u.2.1)
        in_met v e (Some entries) g = at (named name entries) refl
          where
            at : (o : Option DirEntry) → named name entries ≡ o → (u : NodeRev) × (met (p ++ name ∷ []) ≡ Some u)
            at None q =
                let w = sym (placing.met_shared look top base trees nodes shown are le txn f own draft p d is name [] none
                ∙ ap (λ (o : Option (List DirEntry)). cond (has_entry o name) (nodes_below p d (name ∷ [])) None) g
                ∙ ap (λ (o : Option DirEntry). cond (is_some o) (nodes_below p d (name ∷ [])) None) q) ∙ e in absurd cc
            at (Some x) q = is_listed x (met (p ++ name ∷ [])) (subst (λ (o : Option DirEntry). IsListed o (met (p ++ name ∷ []))) q (tied.listed p d entries name is g))

        by : (a : Option NodeRev) → here (p ++ name ∷ []) ≡ a → (c : Option NodeRev) → met (p ++ name ∷ []) ≡ c → Same (p ++ name ∷ [])
        by None e None g = e ∙ sym g
        by a e (Some v) g = in_here v g ∙ sym g
        by (Some v) e None g = let u = in_met v e d.entries refl in let q = sym g ∙ u.1 in absurd cc

    -- below what lasts
    lasting_same : (p : Path) (name : PathName) (d : NodeRev) → here p ≡ Some d → met p ≡ Some d → in_txn d.id.place ≡ false → Same (p ++ name ∷ [])
    lasting_same p name d e g plain = by (here (p ++ name ∷ [])) refl (met (p ++ name ∷ [])) refl
      where
        by : (a : Option NodeRev) → here (p ++ name ∷ []) ≡ a → (c : Option NodeRev) → met (p ++ name ∷ []) ≡ c → Same (p ++ name ∷ [])
        by None x None y = x ∙ sym y
        by (Some v) x c y =
            let w = hanging.lasts_below look top base trees nodes shown are le txn f own draft p name d v (hanging.lasts look top base trees nodes shown are le txn f own draft p d e plain) x in
            x ∙ sym (all.below p name d v g plain w.1 w.2)
        by None x (Some v) y =
            let w = nodal.below_lasting p name d v g plain y in
            let a = nodal.above p name v y in
            let dir : d.kind ≡ Dir = ap (λ (z : NodeRev). z.kind) (some_same (met p) d a.0 g a.1) ∙ a.2 in
            met_below p name d v e plain w.0 dir ∙ sym y

    none_same : (p : Path) (name : PathName) → here p ≡ None → met p ≡ None → Same (p ++ name ∷ [])
    none_same p name e g = by (here (p ++ name ∷ [])) refl (met (p ++ name ∷ [])) refl
      where
        by : (a : Option NodeRev) → here (p ++ name ∷ []) ≡ a → (c : Option NodeRev) → met (p ++ name ∷ []) ≡ c → Same (p ++ name ∷ [])
        by None x None y = x ∙ sym y
        by (Some v) x c y = let d = hanging.dir_met look top base trees nodes shown are le txn f own draft p name v x in let q = sym e ∙ d.1 in absurd cc
        by None x (Some v) y = let a = nodal.above p name v y in let q = sym g ∙ a.1 in absurd cc

    step : (p : Path) (name : PathName) → Same p → Same (p ++ name ∷ [])
    step p name same = by (here p) refl
      where
        mine : (v : NodeRev) → here p ≡ Some v → IsOwn v → Same (p ++ name ∷ [])
        mine v e m =
            let d = hanging.mine_at look top base trees nodes shown are le txn f own draft p v e m in
            child (own (p ++ name ∷ [])) refl d.0 d.1
          where
            child : (o : Option OwnNode) → own (p ++ name ∷ []) ≡ o → (d : OwnNode) → own p ≡ Some d → Same (p ++ name ∷ [])
            child (Some w) g d is = own_same (p ++ name ∷ []) w g
            child None g d is = child_same p name d is g

        by : (o : Option NodeRev) → here p ≡ o → Same (p ++ name ∷ [])
        by None e = none_same p name e (sym same ∙ e)
        by (Some v) e = elim (cases_Bool (in_txn v.id.place)) [
          | inl m ↦ mine v e m
          | inr plain ↦ lasting_same p name v e (sym same ∙ e) plain
        ]

    same_from : (rest front : Path) → Same front → Same (front ++ rest)
    same_from [] front s = subst Same (sym (append-nil front)) s
    same_from (name ∷ rest) front s = subst Same (append_assoc front (name ∷ []) rest) (same_from rest (front ++ name ∷ []) (step front name s))

    pub same_all : (p : Path) → Same p
    same_all p = same_from p [] root_same

pub tied_are_met : TiedAreMet
tied_are_met look top base trees nodes shown are le met own txn f nodal tied draft all = same_all look top base trees nodes shown are le txn f own draft met nodal tied all
