-- Where the bytes show trees, a step back leads where the flat history goes on.
use Rattle.std.proofs.Common.{◌≡◌, ◌≤◌, ◌<◌, ◌-◌, ℕ, max, Bool, true, false, nat_lt, ◌++◌, length, drop, refl, sym, ap, subst, ◌∙◌, inl, inr, arith}
use Rattle.std.specs.Prelude.{Result, Ok, Err, Option, Some, None, if◌then◌else◌}
use Rattle.fsfs_base.specs.Paths.{Path, covers}
use Rattle.fsfs_tree.specs.Nodes.{Node, TreeFunction}
use Rattle.fsfs_tree.specs.PathHistories.{leads_to}
use Rattle.fsfs_revision.specs.Told.{RevisionBytes}
use Rattle.fsfs_noderev.specs.declared.node_id.NodeId.{NodeId}
use Rattle.fsfs_noderev.specs.declared.node_rev.CopySource.{CopySource}
use Rattle.fsfs_noderev.specs.declared.node_rev.NodeRev.{NodeRev}
use Rattle.fsfs_revision.specs.declared.wrong.Wrong.{Wrong}
use Rattle.fsfs_revision.specs.Damage.Readings.{HasOneAnswer, AndThen}
use Rattle.fsfs_revision.specs.Shows.Reading.{OfId, Met, Stands, Lacking, Blocked, MetAt, StandsAt}
use Rattle.fsfs_revision.specs.Shows.Chains.{own_rev, IsPred, Chain, First, Breaks, Goes, copy_root_of}
use Rattle.fsfs_revision.specs.Shows.Shown.{copied_from, source_by, IsOfCopy, IsSource, IsShown, IsShownAs}
use Rattle.fsfs_revision.proofs.OneAnswer.{ok_same, ok_no_err}
use Rattle.fsfs_revision.proofs.OneTree.{copied_same, near_same}
use Rattle.fsfs_revision.proofs.OneWalk.{of_id_one, met_at_one}
use Rattle.fsfs_revision.proofs.TreeLaw.{stands_home, chain_le, root_le}
use Rattle.fsfs_revision.specs.Ancestry.CopyRoots.{IsRootedAt}
use Rattle.fsfs_stands.specs.Steps.{Point, IsPointIn, Nowhere, Back, Across, lead_by, IsBefore, OfSource, AcrossCopy, Leads, HistoryStep}
use Rattle.fsfs_revision.specs.Ancestry.Trees.{ShowTrees}
use Rattle.fsfs_stands.specs.Laws.{IsAt, IsStepByTrees, StepsAreByTrees}
use Rattle.fsfs_revision.proofs.Roots.{is_less, is_not_less, rooted_stands, IsLatest, rooted_latest}
use Rattle.fsfs_revision.proofs.Earlier.{earlier}
use Rattle.fsfs_revision.proofs.Behind.{chain_pred, shown_there, before_it}

-- ---- where a flat point leads

leads_by : (b : Bool) (a l : ℕ) (x y : Option (ℕ × Path)) → nat_lt a l ≡ b → a < l → (if b then x else y) ≡ x
leads_by true a l x y e less = refl
leads_by false a l x y e less = absurd (let over = is_not_less a l e in omega (arith, over, less))

stays_by : (b : Bool) (a l : ℕ) (x y : Option (ℕ × Path)) → nat_lt a l ≡ b → a ≡ l → (if b then x else y) ≡ y
stays_by true a l x y e same = absurd (let less = is_less a l e in omega (arith, less, same))
stays_by false a l x y e same = refl

leads_back : (p : Path) (n : Node) → n.added < n.last_changed → leads_to p n ≡ Some (n.last_changed - 1, p)
leads_back p n less = leads_by (nat_lt n.added n.last_changed) n.added n.last_changed (Some (n.last_changed - 1, p)) n.source refl less

leads_across : (p : Path) (n : Node) → n.added ≡ n.last_changed → leads_to p n ≡ n.source
leads_across p n same = stays_by (nat_lt n.added n.last_changed) n.added n.last_changed (Some (n.last_changed - 1, p)) n.source refl same

-- ---- readings

-- what a reading goes on with, where its first part has this value
value_goes_on : {X Y : Type 0} (R : Result X Wrong → Type 0) (S : X → Result Y Wrong → Type 0) (x : X) (next : Result Y Wrong) → HasOneAnswer R → R (Ok x) → AndThen R S next → S x next
value_goes_on R S x (Ok y) one r h = subst (λ z. S z (Ok y)) (ok_same h.0 x (one (Ok h.0) (Ok x) h.1 r)) h.2
value_goes_on R S x (Err w) one r (inl h) = ok_no_err x w (one (Ok x) (Err w) r h)
value_goes_on R S x (Err w) one r (inr h) = subst (λ z. S z (Err w)) (ok_same h.0 x (one (Ok h.0) (Ok x) h.1 r)) h.2

chain_end : (look : RevisionBytes) (v : NodeRev) (end : Result ℕ Wrong) (first : ℕ) → Chain look v end → end ≡ Ok first → v.predecessor ≡ None → first ≡ own_rev v
chain_end look _ _ first (First v none) is e = sym (ok_same (own_rev v) first is)
chain_end look _ _ first (Breaks v id w some o) is e = absurd cc
chain_end look _ _ first (Goes v u id end some o c) is e = (let g = sym some ∙ e in absurd cc)

-- a source is of a revision below that of its copy
copied_rev : (root p : Path) (src : CopySource) (from : ℕ × Path) (b : Bool) → (if b then Some (src.rev, src.path ++ drop (length root) p) else None) ≡ Some from → from.0 ≡ src.rev
copied_rev root p src from true e = let f : (src.rev, src.path ++ drop (length root) p) ≡ from = cc in sym (ap (λ (x : ℕ × Path). x.0) f)
copied_rev root p src from false e = absurd cc

module _ (look : RevisionBytes) (top : ℕ) (tree : ℕ → TreeFunction) (trees : ShowTrees look top tree) where
  source_lower : (r : ℕ) (root p : Path) (met : Met) (from : ℕ × Path) → r ≤ top → MetAt look r root (Ok met) → source_by root p met ≡ Some from → from.0 < r
  source_lower r root p (Lacking k) from le at is = absurd cc
  source_lower r root p (Blocked k) from le at is = absurd cc
  source_lower r root p (Stands copy) from le at is = by copy.copy_from refl is
    where
      by : (o : Option CopySource) → copy.copy_from ≡ o → copied_from root p o ≡ Some from → from.0 < r
      by None is e = absurd cc
      by (Some src) is e =
          let rev = copied_rev root p src from (covers root p) e in
          let less = (trees.ids.copy_source copy src (r, root, le, at) is).0 in
          let home = (stands_home look r root copy at).1 in
          omega (arith, rev, less, home)

  -- a source that is opened
  met_source : (r : ℕ) (from : ℕ × Path) (met : Met) (next : Result (Option Point) Wrong) → from.0 < r → IsShownAs look from.0 from.1 met (tree from.0 from.1) → IsPointIn look from.0 from.1 met next → IsStepByTrees look tree r (Some from) next
  met_source r from (Stands v) (Ok None) less shown h = absurd h
  met_source r from (Stands v) (Err w) less shown h = absurd h
  met_source r from (Stands v) (Ok (Some to)) less shown h = (less, record { path = h.0; rooted = subst (λ (x : NodeRev). IsRootedAt look from.0 from.1 x to.root) (sym h.1) h.2 })
  met_source r from (Lacking k) next less shown h = subst (λ (x : Result (Option Point) Wrong). IsStepByTrees look tree r (Some from) x) (sym h) (less, shown)
  met_source r from (Blocked k) next less shown h = subst (λ (x : Result (Option Point) Wrong). IsStepByTrees look tree r (Some from) x) (sym h) (less, shown)

  of_source : (r : ℕ) (source : Option (ℕ × Path)) (next : Result (Option Point) Wrong) → r ≤ top → ((from : ℕ × Path) → source ≡ Some from → from.0 < r) → OfSource look source next → IsStepByTrees look tree r source next
  of_source r None next le lower h = h
  of_source r (Some from) next le lower h =
      let less = lower from refl in
      let w = (trees.each from.0 (omega (arith, less, le))).each from.1 in
      met_source r from w.0 next less w.2 (value_goes_on (MetAt look from.0 from.1) (IsPointIn look from.0 from.1) w.0 next (met_at_one look from.0 from.1) w.1 h)

  module _ (r : ℕ) (p : Path) (at : Point) (le : r ≤ top) (isat : IsAt look r p at) (n : Node) (shown : IsShown look r p at.node n) where
    v : NodeRev
    v = at.node

    stands : StandsAt look r p at.node
    stands = rooted_stands look r p at.node at.root isat.rooted

    latest : IsLatest look r p at.root
    latest = rooted_latest look r p at.node at.root isat.rooted

    copied : shown.copied ≡ at.root.0
    copied = copied_same look r p shown.copied at.root.0 shown.copied_is latest.copied

    own_le : own_rev at.node ≤ r
    own_le = (stands_home look r p at.node stands).1

    root_not_above : at.root.0 ≤ r
    root_not_above =
        let s = latest.near in
        let home = stands_home look r _ s.node s.stands in
        let own = home.1 in
        let not_above = root_le s.node s.node.copy_root home.0.root in
        let same : (copy_root_of s.node).0 ≡ at.root.0 = ap (λ (x : ℕ × Path). x.0) latest.root in
        omega (arith, own, not_above, same)

    last : n.last_changed ≡ max at.root.0 (own_rev at.node)
    last = shown.last_changed ∙ ap (λ (x : ℕ). max x (own_rev at.node)) copied

    added : n.added ≡ max shown.first at.root.0
    added = shown.added ∙ ap (λ (x : ℕ). max shown.first x) copied

    -- across the copy, where the node came by it in its last revision
    across : (next : Result (Option Point) Wrong) → shown.first < at.root.0 → own_rev at.node ≤ at.root.0 → AcrossCopy look at next → IsStepByTrees look tree r (leads_to p n) next
    across next less own h =
        subst (λ (o : Option (ℕ × Path)). IsStepByTrees look tree r o next) (sym (leads_across p n (omega (arith, last, added, less, own)))) (by shown.source)
      where
        here : n.added ≡ at.root.0
        here = omega (arith, added, less)

        by_copy : IsOfCopy look r p at.root.0 n.source → IsStepByTrees look tree r n.source next
        by_copy of =
            let root : copy_root_of of.near.node ≡ at.root = ap (λ (x : NodeRev). copy_root_of x) (near_same look r p at.root.0 of.near latest.near) ∙ latest.root in
            let met : MetAt look at.root.0 at.root.1 (Ok of.met) = subst (λ (x : ℕ × Path). MetAt look at.root.0 x.1 (Ok of.met)) root of.root in
            let source : n.source ≡ source_by at.root.1 p of.met = of.source_is ∙ ap (λ (x : ℕ × Path). source_by x.1 p of.met) root in
            let read = value_goes_on (MetAt look at.root.0 at.root.1) (λ m. OfSource look (source_by at.root.1 at.path m)) of.met next (met_at_one look at.root.0 at.root.1) met h in
            let same : source_by at.root.1 at.path of.met ≡ n.source = ap (λ (x : Path). source_by at.root.1 x of.met) isat.path ∙ sym source in
            let lower : (from : ℕ × Path) → n.source ≡ Some from → from.0 < r = λ from e. (let l = source_lower at.root.0 at.root.1 p of.met from (omega (arith, root_not_above, le)) met (sym source ∙ e) in omega (arith, l, root_not_above)) in
            of_source r n.source next le lower (subst (λ (o : Option (ℕ × Path)). OfSource look o next) same read)

        by : IsSource look r p shown.first n.added n.source → IsStepByTrees look tree r n.source next
        by (inl none) = absurd (let e = none.0 in omega (arith, e, here, less))
        by (inr of) = by_copy (subst (λ (x : ℕ). IsOfCopy look r p x n.source) here of.1)

    -- no further, where it came to be there
    ends : (next : Result (Option Point) Wrong) → shown.first ≡ own_rev at.node → at.root.0 ≤ own_rev at.node → next ≡ Ok None → IsStepByTrees look tree r (leads_to p n) next
    ends next first own is = subst (λ (o : Option (ℕ × Path)). IsStepByTrees look tree r o next) (sym (leads_across p n (omega (arith, last, added, first, own)) ∙ none shown.source)) is
      where
        none : IsSource look r p shown.first n.added n.source → n.source ≡ None
        none (inl h) = h.1
        none (inr h) = absurd (let less = h.0 in omega (arith, added, first, own, less))

    -- back to the predecessor, where it was there before
    back : (next : Result (Option Point) Wrong) (id : NodeId) → at.node.predecessor ≡ Some id → (u : NodeRev) → IsPred look at.node u → shown.first ≤ own_rev u → own_rev u < own_rev at.node → at.root.0 < own_rev at.node
        → IsBefore look at id next → IsStepByTrees look tree r (leads_to p n) next
    back next id is u pred first less own h =
        subst (λ (o : Option (ℕ × Path)). IsStepByTrees look tree r o next) (sym (leads_back p n (omega (arith, last, added, first, less, own)) ∙ ap (λ (x : ℕ). Some (x, p)) (ap (λ (x : ℕ). x - 1) here))) (by next h)
      where
        here : n.last_changed ≡ own_rev at.node
        here = omega (arith, last, own)

        by : (next : Result (Option Point) Wrong) → IsBefore look at id next → IsStepByTrees look tree r (Some (own_rev at.node - 1, p)) next
        by (Ok None) h = absurd h
        by (Ok (Some to)) h =
            let rooted = before_it look top tree trees r p at.node to.node at.root le isat.rooted own (id, is, h.0) in
            (omega (arith, own, own_le), record { path = h.1 ∙ isat.path; rooted = subst (λ (x : ℕ × Path). IsRootedAt look (own_rev at.node - 1) p to.node x) (sym h.2) rooted })
        by (Err w) h =
            let same : pred.0 ≡ id = (let e = sym pred.1 ∙ is in cc) in
            ok_no_err u w (of_id_one look id (Ok u) (Err w) (subst (λ (i : NodeId). OfId look i (Ok u)) same pred.2) h)

    by_none : (next : Result (Option Point) Wrong) → shown.first ≡ own_rev at.node → (b : Bool) → nat_lt (own_rev at.node) at.root.0 ≡ b → Leads look at (if b then Across else Nowhere) next → IsStepByTrees look tree r (leads_to p n) next
    by_none next first true e h = let less = is_less (own_rev at.node) at.root.0 e in across next (omega (arith, first, less)) (omega (arith, less)) h
    by_none next first false e h = ends next first (is_not_less (own_rev at.node) at.root.0 e) h

    by_some : (next : Result (Option Point) Wrong) (id : NodeId) → at.node.predecessor ≡ Some id → (u : NodeRev) → IsPred look at.node u → shown.first ≤ own_rev u → own_rev u < own_rev at.node → (b : Bool) → nat_lt at.root.0 (own_rev at.node) ≡ b
        → Leads look at (if b then Back id else Across) next → IsStepByTrees look tree r (leads_to p n) next
    by_some next id is u pred first less true e h = back next id is u pred first less (is_less at.root.0 (own_rev at.node) e) h
    by_some next id is u pred first less false e h = let own = is_not_less at.root.0 (own_rev at.node) e in across next (omega (arith, first, less, own)) own h

    by_pred : (next : Result (Option Point) Wrong) (o : Option NodeId) → at.node.predecessor ≡ o → Leads look at (lead_by at.root.0 (own_rev at.node) o) next → IsStepByTrees look tree r (leads_to p n) next
    by_pred next None is h = by_none next (chain_end look at.node (Ok shown.first) shown.first shown.chain refl is) (nat_lt (own_rev at.node) at.root.0) refl h
    by_pred next (Some id) is h =
        let c = chain_pred look at.node (Ok shown.first) shown.first id shown.chain refl is in
        let e = earlier look top tree trees r p at.node le stands c.0 c.1 in
        let first = chain_le look c.0 (Ok shown.first) shown.first c.2 refl (stands_home look e.rev e.path c.0 e.stands).0 in
        by_some next id is c.0 c.1 first e.own (nat_lt at.root.0 (own_rev at.node)) refl h

    by_step : (next : Result (Option Point) Wrong) → HistoryStep look at next → IsStepByTrees look tree r (leads_to p n) next
    by_step next h = by_pred next at.node.predecessor refl h

pub steps_by_trees : StepsAreByTrees
steps_by_trees look top tree trees r p at le isat =
    let n = shown_there look r (tree r) (trees.each r le) p at.node (rooted_stands look r p at.node at.root isat.rooted) in
    record { node = n.0; node_is = n.1; rev = sym (last look top tree trees r p at le isat n.0 n.2); step = by_step look top tree trees r p at le isat n.0 n.2 }
