-- The draft of a transaction that has just begun is a draft.
use Rattle.std.proofs.Common.{◌≡◌, ◌≤◌, ℕ, true, false, [], ◌∷◌, ◌++◌, refl, sym, ap, subst, ◌∙◌, inl, inr}
use Rattle.std.specs.Prelude.{Ok, Option, Some, None, is_some, min, ◌+◌, ◌-◌, ◌^◌}
use mathlib.Core.Bool.{false≢true}
use Rattle.fsfs_base.specs.Paths.{PathName, Path}
use Rattle.fsfs_tree.specs.Nodes.{Node, TreeFunction}
use Rattle.fsfs_base.specs.declared.kind.Kind.TheVariants.{Dir}
use Rattle.fsfs_model.specs.Flat.Marks.{effects}
use Rattle.fsfs_revision.specs.Told.{RevisionBytes}
use Rattle.fsfs_noderev.specs.Ids.{part_value}
use Rattle.fsfs_noderev.specs.declared.node_rev.NodeRev.{NodeRev}
use Rattle.fsfs_revision.specs.Shows.Reading.{ChildOf, StandsAt}
use Rattle.fsfs_revision.specs.Shows.Chains.{IsPred}
use Rattle.fsfs_revision.specs.Ancestry.Trees.{ShowTrees}
use Rattle.fsfs_revision.proofs.Earlier.{stands_of_id, pred_same}
use Rattle.fsfs_draft.specs.OwnSides.{NodesAt, in_txn, IsSuccessor, IsOwnSide, AreNodesOf}
use Rattle.fsfs_draft.proofs.Lasting.{lasting}
use Rattle.fsfs_merge.proofs.SightLaw.{some_node, same_some}
use Rattle.fsfs_draft.specs.NodeDrafts.{IsOwn, IsDraft}
use Rattle.fsfs_draft.specs.Draws.{DrawsTree}
use Rattle.fsfs_draft.proofs.Parents.{parent, child_at}
use Rattle.fsfs_final.specs.Begun.{IsFirstRoot, begun, BegunIsADraft}
use Rattle.std.proofs.lemmas.Bool.{both_ways}
use Rattle.fsfs_draft.proofs.HangLaw.{some_same}

module _ (look : RevisionBytes) (top : ℕ) (tree : ℕ → TreeFunction) (b : ℕ) (base : NodesAt) (x v : NodeRev)
    (shows : ShowTrees look top tree) (le : b ≤ top) (are : AreNodesOf look b base) (at : StandsAt look b [] x) (first : IsFirstRoot top x v) where
  abbrev own : NodesAt
  own = begun base v

  at_base : (p : Path) (w : NodeRev) → base p ≡ Some w → StandsAt look b p w
  at_base p w e = (are.each p w).0 e

  root_of : (w : NodeRev) → base [] ≡ Some w → w ≡ x
  root_of w e = some_same (base []) w x e ((are.each [] x).1 at)

  side : IsOwnSide base [] own
  side = record { untouched = untouched; touched = touched; another = λ p a c e del. absurd (false≢true del) }
    where
      untouched : (p : Path) (a : NodeRev) → base p ≡ Some a → (effects [] p).deleted ≡ false → (effects [] p).touched ≡ false → own p ≡ Some a
      untouched [] a e del un = absurd (false≢true (sym un))
      untouched (y ∷ p) a e del un = e

      touched : (p : Path) (a : NodeRev) → base p ≡ Some a → (effects [] p).deleted ≡ false → (effects [] p).touched ≡ true → (w : NodeRev) × (own p ≡ Some w) × IsSuccessor a w (effects [] p).props_changed
      touched [] a e del w = (v, refl, subst (λ (z : NodeRev). IsSuccessor z v false) (sym (root_of a e)) first.next)
      touched (y ∷ p) a e del w = absurd (false≢true w)

  -- what is below the root is the base's
  below : (p : Path) (name : PathName) (w : NodeRev) → own (p ++ name ∷ []) ≡ Some w → base (p ++ name ∷ []) ≡ Some w
  below [] name w e = e
  below (y ∷ p) name w e = e

  plain : (p : Path) (name : PathName) (w : NodeRev) → own (p ++ name ∷ []) ≡ Some w → in_txn w.id.place ≡ false
  plain p name w e = (lasting look b (p ++ name ∷ []) w (at_base (p ++ name ∷ []) w (below p name w e))).place

  -- only the root is of the transaction
  is_root : (p : Path) (w : NodeRev) → own p ≡ Some w → IsOwn w → (p ≡ []) × (w ≡ v)
  is_root [] w e mine = (refl, some_same (own []) w v e refl)
  is_root (y ∷ p) w e mine = absurd (both_ways _ (lasting look b (y ∷ p) w (at_base (y ∷ p) w e)).place mine)

  goes : v.predecessor ≡ None → ⊥
  goes none = let f = sym none ∙ first.next.predecessor in absurd cc

  back : IsPred look v x
  back = (x.id, first.next.predecessor, stands_of_id look b [] x at)

  is_pred : (w u : NodeRev) → w ≡ v → IsPred look w u → u ≡ x
  is_pred w u same p = pred_same look v u x (subst (λ (z : NodeRev). IsPred look z u) same p) back

  no_copy : {A : Type 0} (p : Path) (w : NodeRev) (from : _) → own p ≡ Some w → IsOwn w → w.copy_from ≡ Some from → A
  no_copy p w from e mine copy = let r = is_root p w e mine in absurd (let f = sym copy ∙ ap (λ (z : NodeRev). z.copy_from) r.1 ∙ first.next.no_copy in cc)

  no_made : {A : Type 0} (p : Path) (w : NodeRev) → own p ≡ Some w → IsOwn w → w.predecessor ≡ None → A
  no_made p w e mine none = let r = is_root p w e mine in absurd (goes (ap (λ (z : NodeRev). z.predecessor) (sym r.1) ∙ none))

  in_root : (p : Path) (name : PathName) → p ++ name ∷ [] ≡ [] → ⊥
  in_root [] name e = absurd cc
  in_root (y ∷ p) name e = absurd cc

  draft : IsDraft look top b own
  draft = record {
    root = (v, x, refl, at, first.next.own, first.next.predecessor, ap part_value first.next.node ∙ (shows.ids.root_id b x le at).0, ap part_value first.copy ∙ (shows.ids.root_id b x le at).1, first.next.no_copy, λ n lt. first.copy_root n);
    above = above;
    lasting = λ p w e pl. lasts p w e pl;
    below_lasting = below_lasting;
    older = older;
    goes_on = λ p name dir w e f mine. absurd (both_ways _ (plain p name w f) mine);
    pred = λ p w u e mine q.
        let r = is_root p w e mine in
        let one = is_pred w u r.1 q in (
          ap (λ (z : NodeRev). z.id.node) r.1 ∙ first.next.node ∙ ap (λ (z : NodeRev). z.id.node) (sym one),
          ap (λ (z : NodeRev). z.kind) r.1 ∙ first.next.kind ∙ ap (λ (z : NodeRev). z.kind) (sym one),
          ap (λ (z : NodeRev). z.count) r.1 ∙ first.count ∙ ap (λ (z : NodeRev). min (z.count + 1) (2 ^ 64 - 1)) (sym one),
        );
    made = λ p name dir w e f mine. absurd (both_ways _ (plain p name w f) mine);
    made_once = λ p q w u e f mine mine2 none. no_made p w e mine none;
    copied = λ p w from e mine copy. no_copy p w from e mine copy;
    copied_once = λ p q w u from other e f mine mine2 copy. no_copy p w from e mine copy;
    props = λ p w u e mine q. let r = is_root p w e mine in inr (ap (λ (z : NodeRev). z.props) r.1 ∙ first.next.props ∙ ap (λ (z : NodeRev). z.props) (sym (is_pred w u r.1 q)));
    no_props = λ p w e mine none. no_made p w e mine none;
  }
    where
      above : (p : Path) (name : PathName) (w : NodeRev) → own (p ++ name ∷ []) ≡ Some w → (dir : NodeRev) × (own p ≡ Some dir) × (dir.kind ≡ Dir)
      above [] name w e = let d = parent look b [] name w (at_base ([] ++ name ∷ []) w e) in (v, refl, first.next.kind ∙ subst (λ (z : NodeRev). z.kind ≡ Dir) (root_of d.0 ((are.each [] d.0).1 d.1)) d.2.0)
      above (y ∷ p) name w e = let d = parent look b (y ∷ p) name w (at_base ((y ∷ p) ++ name ∷ []) w e) in (d.0, (are.each (y ∷ p) d.0).1 d.1, d.2.0)

      lasts : (p : Path) (w : NodeRev) → own p ≡ Some w → in_txn w.id.place ≡ false → (r : ℕ) × (q : Path) × (r ≤ top) × StandsAt look r q w
      lasts [] w e pl = absurd (both_ways _ pl (subst IsOwn (some_same (own []) v w refl e) first.next.own))
      lasts (y ∷ p) w e pl = (b, y ∷ p, le, at_base (y ∷ p) w e)

      below_lasting : (p : Path) (name : PathName) (dir w : NodeRev) → own p ≡ Some dir → in_txn dir.id.place ≡ false → own (p ++ name ∷ []) ≡ Some w → ChildOf look dir name (Ok (Some w)) × (in_txn w.id.place ≡ false)
      below_lasting [] name dir w e pl f = absurd (both_ways _ pl (subst IsOwn (some_same (own []) v dir refl e) first.next.own))
      below_lasting (y ∷ p) name dir w e pl f = (child_at look b (y ∷ p) name dir w (at_base (y ∷ p) dir e) (at_base ((y ∷ p) ++ name ∷ []) w f), plain (y ∷ p) name w f)

      older : (p : Path) (name : PathName) (dir w : NodeRev) → own p ≡ Some dir → IsOwn dir → own (p ++ name ∷ []) ≡ Some w → in_txn w.id.place ≡ false → (u : NodeRev) × IsPred look dir u × ChildOf look u name (Ok (Some w))
      older [] name dir w e mine f pl = (x, subst (λ (z : NodeRev). IsPred look z x) (some_same (own []) v dir refl e) back, child_at look b [] name x w at (at_base ([] ++ name ∷ []) w f))
      older (y ∷ p) name dir w e mine f pl = absurd (both_ways _ (lasting look b (y ∷ p) dir (at_base (y ∷ p) dir e)).place mine)

  draws : (n : ℕ) → DrawsTree n (tree b) (tree b) [] own
  draws n = record {
    paths = record { there = there };
    kinds = kinds;
    fresh = λ p m e lost. absurd (elim lost [ inl none ↦ (let f = sym e ∙ none in cc) | inr del ↦ false≢true del ]);
  }
    where
      there : (p : Path) → is_some (own p) ≡ is_some (tree b p)
      there [] = ap is_some (sym ((are.each [] x).1 at)) ∙ same_some look b (tree b) (shows.each b le) base are []
      there (y ∷ p) = same_some look b (tree b) (shows.each b le) base are (y ∷ p)

      at_node : (p : Path) (w : NodeRev) (m : Node) → base p ≡ Some w → tree b p ≡ Some m → m.kind ≡ w.kind
      at_node p w m e f = let n = some_node look b (tree b) (shows.each b le) base are p w e in ap (λ (z : Node). z.kind) (let g = sym f ∙ n.1 in let same : m ≡ n.0 = cc in same) ∙ n.2

      kinds : (p : Path) (w : NodeRev) (m : Node) → own p ≡ Some w → tree b p ≡ Some m → m.kind ≡ w.kind
      kinds [] w m e f = at_node [] x m ((are.each [] x).1 at) f ∙ sym first.next.kind ∙ ap (λ (z : NodeRev). z.kind) (some_same (own []) v w refl e)
      kinds (y ∷ p) w m e f = at_node (y ∷ p) w m e f

pub begun_is_a_draft : BegunIsADraft
begun_is_a_draft = record {
  side = λ look top tree b base x v shows le are at first. side look top tree b base x v shows le are at first;
  draft = λ look top tree b base x v shows le are at first. draft look top tree b base x v shows le are at first;
  draws = λ look top tree b n base x v shows le are at first. draws look top tree b base x v shows le are at first n;
}
