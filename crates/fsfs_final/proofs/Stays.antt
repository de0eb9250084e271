-- A draft stays one while later revisions come.
use Rattle.std.proofs.Common.{◌≡◌, ◌≤◌, ◌<◌, ◌⊎◌, ℕ, zero, suc, [], ◌∷◌, ◌++◌, length, sym, ap, subst, ◌∙◌, arith, inl, inr}
use Rattle.std.specs.Prelude.{◌≢◌, Ok, Option, Some, None}
use Rattle.fsfs_base.specs.Paths.{PathName, Path}
use Rattle.fsfs_revision.specs.Told.{RevisionBytes}
use Rattle.fsfs_noderev.specs.declared.node_id.NodeId.{NodeId}
use Rattle.fsfs_noderev.specs.declared.node_rev.NodeRev.{NodeRev}
use Rattle.fsfs_revision.specs.Shows.Reading.{offset_of, ChildOf}
use Rattle.fsfs_revision.specs.Shows.Chains.{own_rev, IsPred}
use Rattle.fsfs_revision.specs.Shows.IdRules.{IsOf}
use Rattle.fsfs_revision.proofs.TreeLaw.{of_id_home}
use Rattle.fsfs_revision.proofs.Walks.{child_stands}
use Rattle.fsfs_revision.specs.Ancestry.Bounded.{AreSameUpTo}
use Rattle.fsfs_revision.proofs.Earlier.{stands_of_id, pred_same}
use Rattle.fsfs_revision.proofs.Roots.{length_push}
use Rattle.fsfs_revision.proofs.Bounded.{back_same, of_id_same, child_same}
use Rattle.fsfs_revision.proofs.BoundedIds.{InTime, in_time, behind_to, stands_to}
use Rattle.fsfs_draft.specs.OwnSides.{NodesAt, in_txn}
use Rattle.fsfs_draft.specs.NodeDrafts.{IsOwn, DraftPart, IsDraft}
use Rattle.fsfs_draft.specs.NodeDrafts as drafts
use Rattle.fsfs_draft.proofs.Coming.{copy_or}
use Rattle.fsfs_final.proofs.LastNames.{Root, Named, ends}
use Rattle.fsfs_final.specs.Staying.{DraftsStay}
use Rattle.std.proofs.lemmas.Bool.{both_ways, cases_Bool}
use Rattle.fsfs_draft.proofs.HangLaw.{some_same}

module _ (look : RevisionBytes) (top b : ℕ) (own : NodesAt) (low : b ≤ top) (draft : IsDraft look top b own) where
  pub own_dir : (p : Path) (name : PathName) (d u : NodeRev) → own p ≡ Some d → own (p ++ name ∷ []) ≡ Some u → IsOwn u → IsOwn d
  own_dir p name d u e f mine = elim (cases_Bool (in_txn d.id.place)) [
    | inl w ↦ w
    | inr plain ↦ absurd (both_ways _ (draft.below_lasting p name d u e plain f).1 mine)
  ]

  -- what the predecessor of an own node-revision is
  abbrev pub HasPred : NodeRev → Type 0
  HasPred u = (w : NodeRev) × IsPred look u w × IsOf look top w

  root_ready : (u : NodeRev) → own [] ≡ Some u → HasPred u
  root_ready u e =
      let same = some_same (own []) u draft.root.0 e draft.root.2 in
      (draft.root.1, (draft.root.1.id, ap (λ (x : NodeRev). x.predecessor) same ∙ draft.root.5, stands_of_id look b [] draft.root.1 draft.root.3), (b, [], low, draft.root.3))

  below_ready : (q : Path) (name : PathName) (u : NodeRev) → own (q ++ name ∷ []) ≡ Some u → IsOwn u → u.predecessor ≢ None → ((d : NodeRev) → own q ≡ Some d → IsOwn d → d.predecessor ≢ None → HasPred d) → HasPred u
  below_ready q name u e mine some above = elim (copy_or u.copy_from) [
    | inr from ↦ (let c = draft.copied (q ++ name ∷ []) u from.0 e mine from.1 in
        (c.0, (c.0.id, c.3, stands_of_id look from.0.rev from.0.path c.0 c.2), (from.0.rev, from.0.path, c.1, c.2)))
    | inl plain ↦
        let a = draft.above q name u e in
        let g = draft.goes_on q name a.0 u a.1 e mine plain some in
        let mine_dir = own_dir q name a.0 u a.1 e mine in
        let up = above a.0 a.1 mine_dir (λ none. (let f = sym g.2.1 ∙ none in cc)) in
        let same = pred_same look a.0 up.0 g.0 up.1 g.2 in
        let of : IsOf look top g.0 = subst (λ (x : NodeRev). IsOf look top x) same up.2 in
        let is_dir = sym (draft.pred q a.0 g.0 a.1 mine_dir g.2).1 ∙ a.2 in
        (g.1, g.4, (of.0, of.1 ++ name ∷ [], of.2, child_stands look of.0 g.0 g.1 of.1 name of.3 is_dir g.3))
  ]

  ready_in : (k : ℕ) (p : Path) (u : NodeRev) → length p < k → own p ≡ Some u → IsOwn u → u.predecessor ≢ None → HasPred u
  ready_in zero p u short e mine some = absurd (omega arith)
  ready_in (suc k) p u short e mine some = elim (ends p) [
    | Root is ↦ root_ready u (subst (λ (x : Path). own x ≡ Some u) is e)
    | Named q name is ↦ below_ready q name u (subst (λ (x : Path). own x ≡ Some u) is e) mine some
        (λ d f mine2 some2. ready_in k q d (let a = ap length is in let c = length_push q name in omega (arith, a, c)) f mine2 some2)
  ]

  pub ready : (p : Path) (u : NodeRev) → own p ≡ Some u → IsOwn u → u.predecessor ≢ None → HasPred u
  ready p u e mine some = ready_in (suc (length p)) p u (omega arith) e mine some

module _ (look other : RevisionBytes) (top more b : ℕ) (own : NodesAt) (same : AreSameUpTo top look other) (up : top ≤ more) (low : b ≤ top) (draft : IsDraft look top b own) where
  back : AreSameUpTo top other look
  back = back_same top look other same

  time : (v : NodeRev) → IsOf look top v → InTime top v
  time v of = in_time top look other same v of

  -- the predecessor of an own node-revision, in the other look
  pred_rev : (p : Path) (u w : NodeRev) → own p ≡ Some u → IsOwn u → IsPred look u w → InTime top w × (own_rev w ≤ top)
  pred_rev p u w e mine q =
      let r = ready look top b own low draft p u e mine (λ none. (let f = sym q.1 ∙ none in cc)) in
      let one = pred_same look u r.0 w r.1 q in
      let t = time w (subst (λ (x : NodeRev). IsOf look top x) one r.2) in
      (t, t.low)

  id_rev : (u w : NodeRev) (q : IsPred look u w) → own_rev w ≤ top → (offset_of q.0.place).rev ≤ top
  id_rev u w q le = let h = of_id_home look q.0 w q.2 in let x = h.1 in omega arith

  pred_to : (p : Path) (u w : NodeRev) → own p ≡ Some u → IsOwn u → IsPred look u w → IsPred other u w
  pred_to p u w e mine q = (q.0, q.1, of_id_same top look other same q.0 (id_rev u w q (pred_rev p u w e mine q).0.low) (Ok w) q.2)

  pred_back : (p : Path) (u w : NodeRev) → own p ≡ Some u → IsOwn u → IsPred other u w → IsPred look u w
  pred_back p u w e mine q =
      let r = ready look top b own low draft p u e mine (λ none. (let f = sym q.1 ∙ none in cc)) in
      let same_id : r.1.0 ≡ q.0 = (let f = sym r.1.1 ∙ q.1 in cc) in
      let le = id_rev u r.0 r.1 (time r.0 r.2).low in
      (q.0, q.1, of_id_same top other look back q.0 (subst (λ (i : NodeId). (offset_of i.place).rev ≤ top) same_id le) (Ok w) q.2)

  child_to : (u : NodeRev) (name : PathName) (o : Option NodeRev) → InTime top u → ChildOf look u name (Ok o) → ChildOf other u name (Ok o)
  child_to u name o t c = child_same top look other same u name t.home t.low (Ok o) c

  part_to : (d v w : NodeRev) → InTime top w → DraftPart look own d v w → DraftPart other own d v w
  part_to d v w t (drafts.Directory e) = drafts.Directory e
  part_to d v w t (drafts.Here e) = drafts.Here e
  part_to d v w t (drafts.Before x back e) = drafts.Before x (behind_to top look other same w x t back) e
  part_to d v w t (drafts.Drawn fresh apart) = drafts.Drawn fresh apart

  entry_to : (p : Path) (dir u v : NodeRev) (name : PathName) → own p ≡ Some dir → IsOwn dir → IsPred look dir u → ChildOf look u name (Ok (Some v)) → IsPred other dir u × ChildOf other u name (Ok (Some v))
  entry_to p dir u v name e mine q c = (pred_to p dir u e mine q, child_to u name (Some v) (pred_rev p dir u e mine q).0 c)

  stays : IsDraft other more b own
  stays = record {
    root = (draft.root.0, draft.root.1, draft.root.2, stands_to top look other same b low [] draft.root.1 draft.root.3, draft.root.4, draft.root.5, draft.root.6, draft.root.7, draft.root.8, λ n lt. draft.root.9 n (omega arith));
    above = draft.above;
    lasting = λ p v e plain. let l = draft.lasting p v e plain in (l.0, l.1, (let x = l.2 in omega arith), stands_to top look other same l.0 l.2 l.1 v l.3);
    below_lasting = λ p name dir v e plain f.
        let c = draft.below_lasting p name dir v e plain f in
        let l = draft.lasting p dir e plain in
        (child_to dir name (Some v) (time dir (l.0, l.1, l.2, l.3)) c.0, c.1);
    older = λ p name dir v e mine f plain. let o = draft.older p name dir v e mine f plain in let q = entry_to p dir o.0 v name e mine o.1 o.2 in (o.0, q.0, q.1);
    goes_on = λ p name dir v e f mine copy some.
        let g = draft.goes_on p name dir v e f mine copy some in
        let mine_dir = own_dir look top b own low draft p name dir v e f mine in
        let q = entry_to p dir g.0 g.1 name e mine_dir g.2 g.3 in
        (g.0, g.1, q.0, q.1, pred_to (p ++ name ∷ []) v g.1 f mine g.4, (λ n lt. g.5 n (omega arith)), part_to dir v g.1 (pred_rev (p ++ name ∷ []) v g.1 f mine g.4).0 g.6);
    pred = λ p v w e mine q. draft.pred p v w e mine (pred_back p v w e mine q);
    made = λ p name dir v e f mine none. let m = draft.made p name dir v e f mine none in (m.0, m.1, m.2, λ n lt. m.3 n (omega arith));
    made_once = draft.made_once;
    copied = λ p v from e mine copy.
        let c = draft.copied p v from e mine copy in
        (c.0, (let x = c.1 in omega arith), stands_to top look other same from.rev c.1 from.path c.0 c.2, c.3, c.4, (λ n lt. c.5 n (omega arith)), c.6);
    copied_once = draft.copied_once;
    props = λ p v w e mine q. draft.props p v w e mine (pred_back p v w e mine q);
    no_props = draft.no_props;
  }

pub drafts_stay : DraftsStay
drafts_stay look other top more b own same up low draft = stays look other top more b own same up low draft
