-- What stands at a path is the node-revision of its own id.
use Rattle.std.proofs.Common.{◌≡◌, ℕ, suc, true, [], ◌∷◌, Option, Some, None, Ok, refl, sym, ap, subst, ◌∙◌, arith}
use Rattle.std.proofs.lemmas.Bool.{and_parts}
use Rattle.std.proofs.lemmas.Bool.Decides.{nat_tests}
use Rattle.std.specs.Prelude.{◌==◌}
use Rattle.fsfs_base.specs.Paths.{PathName, Path}
use Rattle.fsfs_base.specs.declared.kind.Kind.{Kind}
use Rattle.fsfs_base.specs.declared.kind.Kind.TheVariants.{File, Dir}
use Rattle.fsfs_revision.specs.Told.{RevisionBytes}
use Rattle.fsfs_revision.specs.declared.damage.RevOffset.{RevOffset}
use Rattle.fsfs_revision.specs.Damage.Damages.{place_of}
use Rattle.fsfs_revision.specs.Nodes.{is_own_place, is_directory}
use Rattle.fsfs_noderev.specs.declared.node_id.Place.{Place}
use Rattle.fsfs_noderev.specs.declared.node_id.Place.TheVariants as places
use Rattle.fsfs_noderev.specs.declared.node_id.NodeId.{NodeId}
use Rattle.fsfs_noderev.specs.declared.node_rev.NodeRev.{NodeRev}
use Rattle.fsfs_revision.specs.Shows.Reading.{offset_of, NodeAt, OfId, DirEntry, OfEntry, named, OfNamed, ChildOf, OrLacking, InDirectory, MetFrom, Stands, StandsAt}

own_place : (rev offset : ℕ) (place : Place) → is_own_place (place_of rev offset) place ≡ true → place_of rev offset ≡ offset_of place
own_place rev offset (places.At r o) h =
    let both = and_parts (r == rev) (o == offset) h in
    let same : rev ≡ r = grind (arith, nat_tests, both.0) in
    let here : offset ≡ o = grind (arith, nat_tests, both.1) in
    λ i. place_of (same i) (here i)
own_place rev offset (places.In txn) h = absurd cc

module _ (look : RevisionBytes) where
  abbrev IsOwn : NodeRev → Type 0
  IsOwn v = OfId look v.id (Ok v)

  of_entry : (entry : DirEntry) (u : NodeRev) → OfEntry look entry (Ok u) → IsOwn u
  of_entry entry u (w, (n, node, (e, is)), (f, kind)) =
      let same : u ≡ n = f ∙ e in
      let own : OfId look entry.id (Ok u) = (n, node, (same, is)) in
      subst (λ (id : NodeId). OfId look id (Ok u)) (sym (ap (λ (x : NodeRev). x.id) same ∙ is)) own

  of_named : (found : Option DirEntry) (u : NodeRev) → OfNamed look found (Ok (Some u)) → IsOwn u
  of_named None u h = absurd cc
  of_named (Some entry) u h = of_entry entry u h

  of_child : (v : NodeRev) (name : PathName) (depth : ℕ) (names : Path) (w : NodeRev) (child : Option NodeRev) → ChildOf look v name (Ok child) → ((u : NodeRev) → IsOwn u → MetFrom look u (suc depth) names (Ok (Stands w)) → IsOwn w)
      → OrLacking (suc depth) (λ u. MetFrom look u (suc depth) names) child (Ok (Stands w)) → IsOwn w
  of_child v name depth names w None read further h = absurd cc
  of_child v name depth names w (Some u) (entries, read, is) further h = further u (of_named (named name entries) u is) h

  in_kind : (v : NodeRev) (depth : ℕ) (name : PathName) (names : Path) (w : NodeRev) (kind : Kind) → ((u : NodeRev) → IsOwn u → MetFrom look u (suc depth) names (Ok (Stands w)) → IsOwn w)
      → InDirectory kind depth (ChildOf look v name) (λ u. MetFrom look u (suc depth) names) (Ok (Stands w)) → IsOwn w
  in_kind v depth name names w File further h = absurd cc
  in_kind v depth name names w Dir further (child, read, h) = of_child v name depth names w child read further h

  from_own : (path : Path) (v : NodeRev) (depth : ℕ) (w : NodeRev) → IsOwn v → MetFrom look v depth path (Ok (Stands w)) → IsOwn w
  from_own [] v depth w own h = let same : v ≡ w = cc in subst IsOwn same own
  from_own (name ∷ names) v depth w own h = in_kind v depth name names w v.kind (λ u k m. from_own names u (suc depth) w k m) h

  pub of_standing : (rev : ℕ) (path : Path) (v : NodeRev) → StandsAt look rev path v → IsOwn v
  of_standing rev path v (root, (bytes, has, (t, ends, (n, node, (same, is)))), h) =
      let own = (and_parts (is_own_place (place_of rev t.root) n.id.place) (is_directory n.kind) is).0 in
      let there : NodeAt look (offset_of n.id.place) (Ok n) = subst (λ (at : RevOffset). NodeAt look at (Ok n)) (own_place rev t.root n.id.place own) (bytes, has, node) in
      from_own path root 0 v (subst IsOwn (sym same) (n, there, (refl, refl))) h
