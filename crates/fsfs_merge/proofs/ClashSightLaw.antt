-- The sight of three node-revisions is what the tests of a merge say.
use Rattle.std.proofs.Common.{◌≡◌, ◌∙◌, ℕ, true, ◌&&◌, not, Option, Some, None, refl, sym, ap, subst}
use Rattle.std.specs.Prelude.{nat_le}
use mathlib.Core.Bool.{false≢true}
use Rattle.std.proofs.lemmas.Bool.{and_from, and_parts, leb-true, le-leb, not-true}
use Rattle.std.proofs.lemmas.Option.{same_Some}
use Rattle.fsfs_model.specs.Flat.Edits.{is_dir}
use Rattle.fsfs_noderev.specs.declared.node_id.NodeId.{NodeId}
use Rattle.fsfs_noderev.specs.declared.node_id.Part.{Part}
use Rattle.fsfs_noderev.specs.declared.rep.Contents.{Contents}
use Rattle.fsfs_noderev.specs.declared.node_rev.NodeRev.{NodeRev}
use Rattle.fsfs_revision.specs.Shows.Chains.{copy_root_of}
use Rattle.fsfs_dag.specs.Same.{same_part, same_id}
use Rattle.fsfs_dag.proofs.IdLemmas.{id_self, id_true, part_self, part_true}
use Rattle.fsfs_draft.specs.OwnSides.{is_own_copy}
use Rattle.fsfs_draft.proofs.OwnEntries.{is_dir_kind}
use Rattle.fsfs_merge.specs.MergeLaws.{BothGoOn, IsSight}
use Rattle.fsfs_merge.specs.Clash.Same.{same_contents}
use Rattle.fsfs_merge.specs.Clash.Sights.{same_ids, go_on, go_on_in, have_same_props, same_props_in, sight}
use Rattle.fsfs_merge.proofs.SameLaw.{contents_true, contents_self}

-- ---- the base's id

same_to : (x : NodeRev) (o : Option NodeRev) → same_ids (Some x) o ≡ true → (c : NodeRev) × (o ≡ Some c) × (x.id ≡ c.id)
same_to x None h = absurd (false≢true h)
same_to x (Some c) h = (c, refl, id_true x.id c.id h)

same_from : (x : NodeRev) (o : Option NodeRev) → (c : NodeRev) × (o ≡ Some c) × (x.id ≡ c.id) → same_ids (Some x) o ≡ true
same_from x None (c, e, is) = absurd (let f : None ≡ Some c = e in cc)
same_from x (Some d) (c, e, is) =
    let same : d ≡ c = same_Some d c e in
    subst (λ (i : NodeId). same_id x.id i ≡ true) (is ∙ ap (λ (n : NodeRev). n.id) (sym same)) (id_self x.id)

-- ---- three directories

go_to : (b : ℕ) (x y v : NodeRev) → go_on b x y v ≡ true → BothGoOn b x y v
go_to b x y v h =
    let p4 = and_parts ((is_dir x.kind && is_dir y.kind && is_dir v.kind) && same_part x.id.node y.id.node && same_part x.id.node v.id.node && nat_le (copy_root_of y).0 b) (not (is_own_copy v)) h in
    let p3 = and_parts ((is_dir x.kind && is_dir y.kind && is_dir v.kind) && same_part x.id.node y.id.node && same_part x.id.node v.id.node) (nat_le (copy_root_of y).0 b) p4.0 in
    let p2 = and_parts ((is_dir x.kind && is_dir y.kind && is_dir v.kind) && same_part x.id.node y.id.node) (same_part x.id.node v.id.node) p3.0 in
    let p1 = and_parts (is_dir x.kind && is_dir y.kind && is_dir v.kind) (same_part x.id.node y.id.node) p2.0 in
    let d2 = and_parts (is_dir x.kind && is_dir y.kind) (is_dir v.kind) p1.0 in
    let d1 = and_parts (is_dir x.kind) (is_dir y.kind) d2.0 in
    record {
      base_dir = is_dir_kind x.kind d1.0;
      head_dir = is_dir_kind y.kind d1.1;
      own_dir = is_dir_kind v.kind d2.1;
      head_node = part_true x.id.node y.id.node p1.1;
      own_node = part_true x.id.node v.id.node p2.1;
      head_root = leb-true (copy_root_of y).0 b p3.1;
      own_root = not-true (is_own_copy v) p4.1;
    }

go_from : (b : ℕ) (x y v : NodeRev) → BothGoOn b x y v → go_on b x y v ≡ true
go_from b x y v w =
    and_from _ _ (and_from _ _ (and_from _ _ (and_from _ _ (and_from _ _ (and_from _ _ (ap is_dir w.base_dir) (ap is_dir w.head_dir)) (ap is_dir w.own_dir))
    (subst (λ (p : Part). same_part x.id.node p ≡ true) w.head_node (part_self x.id.node)))
    (subst (λ (p : Part). same_part x.id.node p ≡ true) w.own_node (part_self x.id.node)))
    (le-leb (copy_root_of y).0 b w.head_root))
    (ap not w.own_root)

three_to : (b : ℕ) (x : NodeRev) (y v : Option NodeRev) → go_on_in b (Some x) y v ≡ true → (c e : NodeRev) × (y ≡ Some c) × (v ≡ Some e) × BothGoOn b x c e
three_to b x None v h = absurd (false≢true h)
three_to b x (Some c) None h = absurd (false≢true h)
three_to b x (Some c) (Some e) h = (c, e, refl, refl, go_to b x c e h)

three_from : (b : ℕ) (x : NodeRev) (y v : Option NodeRev) → (c e : NodeRev) × (y ≡ Some c) × (v ≡ Some e) × BothGoOn b x c e → go_on_in b (Some x) y v ≡ true
three_from b x y v (c, e, f, g, w) = (λ i. go_on_in b (Some x) (f i) (g i)) ∙ go_from b x c e w

-- ---- properties

props_to : (x y v : NodeRev) → have_same_props x y v ≡ true → (x.props ≡ y.props) × (x.props ≡ v.props)
props_to x y v h = let w = and_parts (same_contents x.props y.props) (same_contents x.props v.props) h in (contents_true x.props y.props w.0, contents_true x.props v.props w.1)

props_from : (x y v : NodeRev) → (x.props ≡ y.props) × (x.props ≡ v.props) → have_same_props x y v ≡ true
props_from x y v (f, g) =
    and_from _ _ (subst (λ (o : Option Contents). same_contents x.props o ≡ true) f (contents_self x.props)) (subst (λ (o : Option Contents). same_contents x.props o ≡ true) g (contents_self x.props))

pub sight_is : (b : ℕ) (x y v : Option NodeRev) → IsSight b x y v (sight b x y v)
sight_is b x y v = record {
  in_base = refl;
  in_head = refl;
  in_own = refl;
  head_same = λ a e. (λ h. same_to a y ((λ i. same_ids (sym e i) y) ∙ h), λ w. (λ i. same_ids (e i) y) ∙ same_from a y w);
  own_same = λ a e. (λ h. same_to a v ((λ i. same_ids (sym e i) v) ∙ h), λ w. (λ i. same_ids (e i) v) ∙ same_from a v w);
  goes_on = λ a e. (λ h. three_to b a y v ((λ i. go_on_in b (sym e i) y v) ∙ h), λ w. (λ i. go_on_in b (e i) y v) ∙ three_from b a y v w);
  same_props = λ a c d e f g. (λ h. props_to a c d ((λ i. same_props_in (sym e i) (sym f i) (sym g i)) ∙ h), λ w. (λ i. same_props_in (e i) (f i) (g i)) ∙ props_from a c d w);
}
