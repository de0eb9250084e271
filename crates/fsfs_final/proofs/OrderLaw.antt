-- A finished node-revision of a draft names only what stands before it.
use Rattle.std.proofs.Common.{◌≡◌, ◌∙◌, ◌≤◌, ◌<◌, ℕ, zero, suc, Bool, true, false, if◌then◌else◌, [], ◌∷◌, ◌++◌, length, Option, Some, None, refl, sym, ap, subst, arith, inl, inr, ◌⊎◌}
use Rattle.std.specs.Prelude.{nat_lt, nat_le}
use Rattle.std.proofs.lemmas.Bool.Decides.{nat_tests}
use mathlib.Core.Bool.{false≢true}
use Rattle.fsfs_base.specs.Paths.{PathName, Path}
use Rattle.fsfs_revision.specs.Told.{RevisionBytes}
use Rattle.fsfs_noderev.specs.declared.node_id.NodeId.{NodeId}
use Rattle.fsfs_noderev.specs.declared.node_id.Place.{Place}
use Rattle.fsfs_noderev.specs.declared.node_id.Place.TheVariants as places
use Rattle.fsfs_noderev.specs.declared.node_rev.CopyRoot.{CopyRoot}
use Rattle.fsfs_noderev.specs.declared.node_rev.CopySource.{CopySource}
use Rattle.fsfs_noderev.specs.declared.node_rev.NodeRev.{NodeRev}
use Rattle.fsfs_revision.specs.Nodes.{has_revision_root, is_some_rev, pred_before, place_before, source_before, root_not_after, rev_not_after}
use Rattle.fsfs_revision.specs.Damage.Damages.{place_of}
use Rattle.fsfs_revision.specs.Shows.Reading.{offset_of}
use Rattle.fsfs_revision.specs.Shows.Chains.{own_rev, copy_root_of, root_or_own}
use Rattle.fsfs_revision.specs.Shows.IdRules.{IsOf}
use Rattle.fsfs_revision.proofs.TreeLaw.{stands_home, root_le}
use Rattle.fsfs_revision.proofs.Roots.{length_push}
use Rattle.fsfs_revision.proofs.Earlier.{pred_same}
use Rattle.fsfs_draft.specs.OwnSides.{NodesAt, in_txn}
use Rattle.fsfs_draft.proofs.Lasting.{lasting_id}
use Rattle.fsfs_draft.specs.NodeDrafts.{draft_root, IsOwn, IsDraft}
use Rattle.fsfs_draft.proofs.Coming.{copy_or}
use Rattle.fsfs_final.specs.Final.{IsFinal}
use Rattle.fsfs_final.specs.Ordered.{FinalsAreInOrder}
use Rattle.fsfs_final.proofs.LastNames.{Root, Named, ends}
use Rattle.fsfs_final.proofs.Stays.{own_dir, ready}
use Rattle.std.proofs.lemmas.Bool.{and_from}
use Rattle.fsfs_draft.proofs.HangLaw.{some_same}

pub pred_or : (o : Option NodeId) → (o ≡ None) ⊎ ((id : NodeId) × (o ≡ Some id))
pred_or None = inl refl
pred_or (Some id) = inr (id, refl)

-- an earlier revision's place is before
earlier : (n o : ℕ) (p : Place) → in_txn p ≡ false → (offset_of p).rev < n → place_before (place_of n o) p ≡ true
earlier n o (places.At rev offset) h lt = grind (arith, nat_tests)
earlier n o (places.In txn) h lt = absurd (false≢true (sym h))

test_lt : (a b : ℕ) → a < b → nat_lt a b ≡ true
test_lt a b lt = grind (arith, nat_tests)

test_le : (a b : ℕ) → a ≤ b → nat_le a b ≡ true
test_le a b le = grind (arith, nat_tests)

module _ (look : RevisionBytes) (top : ℕ) (own : NodesAt) (draft : IsDraft look top top own) where
  N : ℕ
  N = suc top

  root_of : (w : NodeRev) → IsOf look top w → (copy_root_of w).0 ≤ suc top
  root_of w of =
      let h = stands_home look of.0 of.1 w of.3 in
      let le = root_le w w.copy_root h.0.root in
      omega (arith, le, h.1, of.2)

  -- a copy root is of no later revision
  low_in : (k : ℕ) (p : Path) (u : NodeRev) → length p < k → own p ≡ Some u → IsOwn u → (draft_root (suc top) u).0 ≤ suc top
  low_in zero p u short e mine = absurd (omega (arith, short))
  low_in (suc k) p u short e mine = elim (ends p) [
    | Root is ↦
        let same = some_same (own []) draft.root.0 u draft.root.2 (sym (ap own is) ∙ e) in
        let root : draft_root (suc top) draft.root.0 ≡ copy_root_of draft.root.1 = draft.root.9 (suc top) (omega arith) in
        subst (λ (z : NodeRev). (draft_root (suc top) z).0 ≤ suc top) same
        (subst (λ (z : ℕ × Path). z.0 ≤ suc top) (sym root) (root_of draft.root.1 (top, [], (omega arith), draft.root.3)))
    | Named q name is ↦ named q name is (subst (λ (x : Path). own x ≡ Some u) is e) (λ d f mine2. low_in k q d (let a = ap length is in let c = length_push q name in omega (arith, a, c, short)) f mine2)
  ]
    where
      named : (q : Path) (name : PathName) → p ≡ q ++ name ∷ [] → own (q ++ name ∷ []) ≡ Some u → ((d : NodeRev) → own q ≡ Some d → IsOwn d → (draft_root (suc top) d).0 ≤ suc top) → (draft_root (suc top) u).0 ≤ suc top
      named q name is e above = elim (copy_or u.copy_from) [
        | inr from ↦
            let c = draft.copied (q ++ name ∷ []) u from.0 e mine from.1 in
            let root : draft_root (suc top) u ≡ (suc top, q ++ name ∷ []) = c.5 (suc top) (omega arith) in
            subst (λ (z : ℕ × Path). z.0 ≤ suc top) (sym root) (omega arith)
        | inl plain ↦
            let a = draft.above q name u e in
            let up = above a.0 a.1 (own_dir look top top own (omega arith) draft q name a.0 u a.1 e mine) in
            elim (pred_or u.predecessor) [
              | inl none ↦
                  let m = draft.made q name a.0 u a.1 e mine none in
                  let root : draft_root (suc top) u ≡ draft_root (suc top) a.0 = m.3 (suc top) (omega arith) in
                  subst (λ (z : ℕ × Path). z.0 ≤ suc top) (sym root) up
              | inr id ↦
                  let some : u.predecessor ≡ None → ⊥ = λ none. (let f = sym none ∙ id.1 in cc) in
                  let g = draft.goes_on q name a.0 u a.1 e mine plain some in
                  let r = ready look top top own (omega arith) draft (q ++ name ∷ []) u e mine some in
                  let w = pred_same look u r.0 g.1 r.1 g.4 in
                  let root = g.5 (suc top) (omega arith) in
                  let from : (copy_root_of g.1).0 ≤ suc top = root_of g.1 (subst (IsOf look top) w r.2) in
                  subst (λ (z : ℕ × Path). z.0 ≤ suc top) (sym root) (pick (nat_lt (own_rev g.1) (draft_root (suc top) a.0).0) (draft_root (suc top) a.0) (copy_root_of g.1) up from)
            ]
      ]
        where
          pick : (c : Bool) (x y : ℕ × Path) → x.0 ≤ suc top → y.0 ≤ suc top → (if c then x else y).0 ≤ suc top
          pick true x y f g = f
          pick false x y f g = g

  module _ (o : ℕ) (p : Path) (u v : NodeRev) (e : own p ≡ Some u) (mine : IsOwn u) (final : IsFinal (suc top) u v) where
    pred : pred_before (place_of (suc top) o) v.predecessor ≡ true
    pred = subst (λ (x : Option NodeId). pred_before (place_of (suc top) o) x ≡ true) (sym final.predecessor) (elim (pred_or u.predecessor) [
      | inl none ↦ subst (λ (x : Option NodeId). pred_before (place_of (suc top) o) x ≡ true) (sym none) refl
      | inr id ↦
          let r = ready look top top own (omega arith) draft p u e mine (λ none. (let f = sym none ∙ id.1 in cc)) in
          let l = lasting_id look r.1.0 r.0 r.1.2 in
          let h = Rattle.fsfs_revision.proofs.TreeLaw.of_id_home look r.1.0 r.0 r.1.2 in
          let at = stands_home look r.2.0 r.2.1 r.0 r.2.3 in
          let same : r.0.id ≡ r.1.0 = ap (λ (z : NodeRev). z.id) r.1.2.2.0 ∙ r.1.2.2.1 in
          let plain : in_txn r.1.0.place ≡ false = subst (λ (z : NodeId). in_txn z.place ≡ false) same l.place in
          let before : (offset_of r.1.0.place).rev < suc top = omega (arith, h.1, at.1, r.2.2) in
          subst (λ (x : Option NodeId). pred_before (place_of (suc top) o) x ≡ true) (sym r.1.1) (earlier (suc top) o r.1.0.place plain before)
    ])

    source : source_before (place_of (suc top) o) v.copy_from ≡ true
    source = subst (λ (x : Option CopySource). source_before (place_of (suc top) o) x ≡ true) (sym final.copy_from) (elim (copy_or u.copy_from) [
      | inl none ↦ subst (λ (x : Option CopySource). source_before (place_of (suc top) o) x ≡ true) (sym none) refl
      | inr from ↦
          let c = draft.copied p u from.0 e mine from.1 in
          subst (λ (x : Option CopySource). source_before (place_of (suc top) o) x ≡ true) (sym from.1) (test_lt from.0.rev (suc top) (let x = c.1 in omega (arith, x)))
    ])

    root : has_revision_root v.copy_root ≡ true → root_not_after (place_of (suc top) o) v.copy_root ≡ true
    root has = by v.copy_root has (subst (λ (z : ℕ × Path). z.0 ≤ suc top) (sym final.root) (low_in (suc (length p)) p u (omega arith) e mine))
      where
        rev : (r : Option ℕ) (path : Path) → is_some_rev r ≡ true → (root_or_own v (Some (record { rev = r; path = path }))).0 ≤ suc top → rev_not_after (place_of (suc top) o) r ≡ true
        rev None path h le = absurd (false≢true h)
        rev (Some r) path h le = test_le r (suc top) le

        by : (x : Option CopyRoot) → has_revision_root x ≡ true → (root_or_own v x).0 ≤ suc top → root_not_after (place_of (suc top) o) x ≡ true
        by None h le = refl
        by (Some x) h le = rev x.rev x.path h le

pub finals_are_in_order : FinalsAreInOrder
finals_are_in_order look top o own p u v draft e mine final has text props =
    and_from _ _ (and_from _ _ (and_from _ _ (and_from _ _ (pred look top own draft o p u v e mine final) text) props) (source look top own draft o p u v e mine final)) (root look top own draft o p u v e mine final has)
