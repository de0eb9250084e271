-- The places of what a revision wrote: each is of one node-revision, and they fall on the way down, so that nothing names the root.
use Rattle.std.proofs.Common.{◌≡◌, ◌≤◌, ◌<◌, ℕ, true, [], refl, sym, subst, ◌∙◌, arith}
use Rattle.std.proofs.lemmas.Bool.Decides.{nat_tests}
use Rattle.std.specs.Prelude.{◌≢◌, Ok, Some}
use Rattle.fsfs_base.specs.Paths.{PathName, Path}
use Rattle.fsfs_base.specs.declared.kind.Kind.TheVariants.{Dir}
use Rattle.fsfs_noderev.specs.declared.node_id.NodeId.{NodeId}
use Rattle.fsfs_noderev.specs.declared.node_id.Place.{Place}
use Rattle.fsfs_noderev.specs.declared.node_id.Place.TheVariants.{At, In}
use Rattle.fsfs_noderev.specs.declared.node_rev.NodeRev.{NodeRev}
use Rattle.fsfs_revision.specs.Told.{RevisionBytes}
use Rattle.fsfs_revision.specs.declared.damage.RevOffset.{RevOffset}
use Rattle.fsfs_revision.specs.Nodes.{place_before}
use Rattle.fsfs_revision.specs.Shows.Reading.{NodeAt, ChildOf, RootOf, StandsAt, offset_of}
use Rattle.fsfs_revision.specs.Shows.Chains.{own_rev}
use Rattle.fsfs_revision.proofs.Earlier.{stands_of_id}
use Rattle.fsfs_revision.proofs.OneAnswer.{ok_same}
use Rattle.fsfs_revision.proofs.OneNode.{node_at_one, root_of_one}
use Rattle.fsfs_revision.proofs.Standing.{for_each}
use Rattle.fsfs_revision.proofs.TreeLaw.{entry_before, child_home, stands_home}
use Rattle.fsfs_dag.specs.Views.{home_of}
use Rattle.fsfs_sound.specs.Written.{IsNewAt}
use Rattle.fsfs_sound.proofs.Ids.{root_at}
use Rattle.fsfs_sound.proofs.Standing.{child_entry, of_entry_id}

-- ---- places

falls : (home : RevOffset) (place : Place) → place_before home place ≡ true → (offset_of place).rev ≡ home.rev → (offset_of place).offset < home.offset
falls home (At rev offset) h e = grind (arith, nat_tests)
falls home (In txn) h e = absurd cc

module _ (look : RevisionBytes) (r : ℕ) where
  pub own_at : (p : Path) (v : NodeRev) → StandsAt look r p v → own_rev v ≤ r
  own_at p v at = (stands_home look r p v at).1

  -- of one revision, each place is of one node-revision
  pub spot_one : (p q : Path) (v u : NodeRev) → IsNewAt look r p v → IsNewAt look r q u → (home_of v).offset ≡ (home_of u).offset → v ≡ u
  spot_one p q v u a b same =
      let x = stands_of_id look r p v a.stands in
      let y = stands_of_id look r q u b.stands in
      let rev : own_rev v ≡ own_rev u = a.own ∙ sym b.own in
      let at : home_of v ≡ home_of u = (λ i. record { rev = rev i; offset = same i }) in
      let mine : NodeAt look (home_of u) (Ok x.0) = subst (λ (o : RevOffset). NodeAt look o (Ok x.0)) at x.1 in
      x.2.0 ∙ ok_same x.0 y.0 (node_at_one look (home_of u) (Ok x.0) (Ok y.0) mine y.1) ∙ sym y.2.0

  -- a child of the same revision stands before its directory
  pub child_falls : (dir v : NodeRev) (name : PathName) → ChildOf look dir name (Ok (Some v)) → own_rev v ≡ own_rev dir → (home_of v).offset < (home_of dir).offset
  child_falls dir v name child own =
      let e = child_entry look dir v name child in
      let id = of_entry_id look e.0 v e.2 in
      let before : place_before (home_of dir) v.id.place ≡ true = subst (λ (i : NodeId). place_before (home_of dir) i.place ≡ true) (sym id) (entry_before look dir name dir.text e.1.0 e.0 e.1.1 e.1.2) in
      falls (home_of dir) v.id.place before own

  -- what names something new is new
  pub dir_new : (p : Path) (dir v : NodeRev) (name : PathName) → StandsAt look r p dir → ChildOf look dir name (Ok (Some v)) → own_rev v ≡ r → own_rev dir ≡ r
  dir_new p dir v name at child own =
      let under = (child_home look dir v name child).1 in
      let most = own_at p dir at in
      omega (arith, own, under, most)

  module _ (root : NodeRev) (is_root : RootOf look r (Ok root)) where
    pub root_is : (v : NodeRev) → StandsAt look r [] v → v ≡ root
    root_is v at = ok_same v root (root_of_one look r (Ok v) (Ok root) (root_at look r v at) is_root)

    -- nothing new stands behind the root
    pub up_to_root : (p : Path) (v : NodeRev) → IsNewAt look r p v → (home_of v).offset ≤ (home_of root).offset
    up_to_root p v new = for_each look r (λ q x. own_rev x ≡ r → (home_of x).offset ≤ (home_of root).offset)
        (λ q name dir x at kind child there above own. (
        let mine = dir_new q dir x name at child own in
        let less = child_falls dir x name child (own ∙ sym mine) in
        let le = above mine in
        omega (arith, less, le)))
        (λ x at own. subst (λ (y : NodeRev). (home_of y).offset ≤ (home_of root).offset) (sym (root_is x at)) (omega arith))
        p v new.stands new.own

    -- so it is named nowhere
    pub below_root : (p : Path) (dir v : NodeRev) (name : PathName) → StandsAt look r p dir → ChildOf look dir name (Ok (Some v)) → own_rev v ≡ r → (home_of v).offset ≢ (home_of root).offset
    below_root p dir v name at child own = λ same. (
        let mine = dir_new p dir v name at child own in
        let less = child_falls dir v name child (own ∙ sym mine) in
        let le = up_to_root p dir (record { stands = at; own = mine }) in
        omega (arith, less, le, same))
