-- At which paths a node-revision stands that its revision wrote, by the links of the walk.
use Rattle.std.proofs.Common.{◌≡◌, ◌≤◌, ◌<◌, ◌⊎◌, ◌++◌, ◌+◌, ℕ, Bool, true, false, List, [], ◌∷◌, refl, sym, ap, subst, ◌∙◌, inl, inr, arith}
use Rattle.std.specs.Prelude.{◌≢◌, Contains, Option, Some, None, Ok}
use Rattle.std.proofs.lemmas.Bool.Decides.{nat_tests}
use Rattle.std.proofs.lemmas.List.{same_from_push}
use Rattle.fsfs_base.specs.Paths.{PathName, Path}
use Rattle.fsfs_base.specs.declared.kind.Kind.TheVariants.{Dir}
use Rattle.fsfs_noderev.specs.declared.node_id.Place.{Place}
use Rattle.fsfs_noderev.specs.declared.node_id.Place.TheVariants as places
use Rattle.fsfs_noderev.specs.declared.node_id.NodeId.{NodeId}
use Rattle.fsfs_noderev.specs.declared.node_rev.CopySource.{CopySource}
use Rattle.fsfs_noderev.specs.declared.node_rev.NodeRev.{NodeRev}
use Rattle.fsfs_revision.specs.Told.{RevisionBytes}
use Rattle.fsfs_revision.specs.declared.damage.RevOffset.{RevOffset}
use Rattle.fsfs_revision.specs.Damage.Damages.{place_of}
use Rattle.fsfs_revision.specs.Nodes.{place_before}
use Rattle.fsfs_revision.specs.Shows.Reading.{DirEntry, OfId, OfEntry, NodeAt, ChildOf, RootOf, StandsAt, offset_of}
use Rattle.fsfs_revision.specs.Shows.Chains.{own_rev}
use Rattle.fsfs_revision.proofs.Earlier.{stands_of_id}
use Rattle.fsfs_revision.proofs.OneAnswer.{ok_same}
use Rattle.fsfs_revision.proofs.OneNode.{node_at_one, root_of_one}
use Rattle.fsfs_revision.proofs.OneWalk.{stands_same}
use Rattle.fsfs_revision.proofs.Standing.{for_each}
use Rattle.fsfs_revision.proofs.TreeLaw.{child_home, entry_before, stands_home}
use Rattle.fsfs_revision.proofs.Walks.{child_stands}
use Rattle.fsfs_sound.proofs.Standing.{child_entry, entry_child, of_entry_id}
use Rattle.fsfs_sound.specs.Damaged.{BreaksRule, CopyPlace}
use Rattle.fsfs_sound.specs.Written.{IsNewAt}
use Rattle.fsfs_dag.specs.Views.{home_of}
use Rattle.fsfs_verify.specs.declared.links.Links.{Links}
use Rattle.fsfs_verify.specs.LinksUp.{LinkValue, link_at, LeadsUp, Here, Up}
use Rattle.fsfs_verify.specs.Walks.{IsLinked, IsNamedIn, IsLink, AreLinked}
use Rattle.fsfs_verify.proofs.Decisions.{path_or}
use Rattle.fsfs_verify.proofs.LinkLemmas.{LedUp, AtRoot, Below, led_up}

offset_less : (at : RevOffset) (p : Place) → place_before at p ≡ true → (offset_of p).rev ≡ at.rev → (offset_of p).offset < at.offset
offset_less at (places.At rev offset) h same = grind (arith, nat_tests)
offset_less at (places.In txn) h same = absurd cc

module _ (look : RevisionBytes) (r : ℕ) (root : NodeRev) (top : RootOf look r (Ok root)) where
  -- what stands at the path of no names is the root
  at_top : (v : NodeRev) → StandsAt look r [] v → v ≡ root
  at_top v at =
      let is : v ≡ at.0 = (let e = at.2 in cc) in
      is ∙ ok_same at.0 root (root_of_one look r (Ok at.0) (Ok root) at.1 top)

  -- what a directory names stands before it
  child_before : (dir v : NodeRev) (name : PathName) → ChildOf look dir name (Ok (Some v)) → own_rev v ≡ own_rev dir → (home_of v).offset < (home_of dir).offset
  child_before dir v name child same =
      let e = child_entry look dir v name child in
      let before = entry_before look dir name dir.text e.1.0 e.0 e.1.1 e.1.2 in
      offset_less (home_of dir) v.id.place (subst (λ (id : NodeId). place_before (home_of dir) id.place ≡ true) (sym (of_entry_id look e.0 v e.2)) before) same

  -- what r wrote, and the directory that names it at a path
  own_dir : (p : Path) (name : PathName) (dir v : NodeRev) → StandsAt look r p dir → ChildOf look dir name (Ok (Some v)) → own_rev v ≡ r → own_rev dir ≡ r
  own_dir p name dir v at child own = let under = (child_home look dir v name child).1 in let most = (stands_home look r p dir at).1 in omega (arith, own, under, most)

  -- all that r wrote stands at the root's place or before it
  up_to_root : (p : Path) (v : NodeRev) → StandsAt look r p v → own_rev v ≡ r → (home_of v).offset ≤ (home_of root).offset
  up_to_root p v at = for_each look r (λ q x. own_rev x ≡ r → (home_of x).offset ≤ (home_of root).offset)
      (λ q name dir x here kind child there most own. (
      let mine = own_dir q name dir x here child own in
      let less = child_before dir x name child (own ∙ sym mine) in
      let le = most mine in
      omega (arith, less, le)))
      (λ x here own. (let same : (home_of x).offset ≡ (home_of root).offset = ap (λ (y : NodeRev). (home_of y).offset) (at_top x here) in omega (arith, same)))
      p v at

  below_root : (p : Path) (name : PathName) (dir v : NodeRev) → StandsAt look r p dir → ChildOf look dir name (Ok (Some v)) → own_rev v ≡ r → (home_of v).offset < (home_of root).offset
  below_root p name dir v at child own =
      let mine = own_dir p name dir v at child own in
      let less = child_before dir v name child (own ∙ sym mine) in
      let le = up_to_root p dir at mine in
      omega (arith, less, le)

  -- node-revisions of r at one place are one
  placed_same : (p q : Path) (u v : NodeRev) → IsNewAt look r p u → IsNewAt look r q v → (home_of u).offset ≡ (home_of v).offset → u ≡ v
  placed_same p q u v a b same = ok_same u v (node_at_one look (home_of v) (Ok u) (Ok v) (subst (λ (at : RevOffset). NodeAt look at (Ok u)) homes (of_place p u a)) (of_place q v b))
    where
      homes : home_of u ≡ home_of v
      homes = λ i. place_of ((a.own ∙ sym b.own) i) (same i)

      of_place : (x : Path) (w : NodeRev) → IsNewAt look r x w → NodeAt look (home_of w) (Ok w)
      of_place x w new = let of = stands_of_id look r x w new.stands in subst (λ (y : NodeRev). NodeAt look (home_of w) (Ok y)) (sym of.2.0) of.1

  module _ (links : Links) (done : List NodeRev) (linked : AreLinked look root links done) where
    -- ---- each path that leads up is one at which it stands, and the only one

    module _ (all : (p : Path) (v : NodeRev) → IsNewAt look r p v → Contains done v) (named : (p : Path) (name : PathName) (dir v : NodeRev) → IsNewAt look r p dir → IsNewAt look r (p ++ name ∷ []) v → IsLinked links dir v name) where
      abbrev Only : Path → NodeRev → Type 0
      Only p v = own_rev v ≡ r → (path : Path) → LeadsUp links (home_of root).offset (home_of v).offset path → p ≡ path

      only_root : (v : NodeRev) → StandsAt look r [] v → Only [] v
      only_root v at own path up = by (led_up up)
        where
          here : link_at links (home_of v).offset ≡ None
          here = ap (λ (x : NodeRev). link_at links (home_of x).offset) (at_top v at) ∙ linked.top

          by : LedUp links (home_of root).offset (home_of v).offset path → [] ≡ path
          by (AtRoot same none) = sym none
          by (Below link rest is once further parts) = let e : (let o : Option LinkValue = Some link in o) ≡ None = sym is ∙ here in absurd cc

      only_below : (p : Path) (name : PathName) (dir v : NodeRev) → StandsAt look r p dir → dir.kind ≡ Dir → ChildOf look dir name (Ok (Some v)) → StandsAt look r (p ++ name ∷ []) v → Only p dir → Only (p ++ name ∷ []) v
      only_below p name dir v at kind child there above own path up = by (led_up up)
        where
          mine : own_rev dir ≡ r
          mine = own_dir p name dir v at child own

          l : IsLinked links dir v name
          l = named p name dir v (record { stands = at; own = mine }) (record { stands = there; own = own })

          of_link : (link : LinkValue) (rest : Path) → link ≡ l.0 → link.again ≡ false → LeadsUp links (home_of root).offset link.dir rest → path ≡ rest ++ link.name ∷ [] → (l.0.again ≡ true) ⊎ ((l.0.again ≡ false) × (l.0.dir ≡ (home_of dir).offset) × (l.0.name ≡ name)) → p ++ name ∷ [] ≡ path
          of_link link rest same once further parts (inl twice) = let e : true ≡ false = sym twice ∙ ap (λ (x : LinkValue). x.again) (sym same) ∙ once in absurd cc
          of_link link rest same once further parts (inr one) =
              let place : link.dir ≡ (home_of dir).offset = ap (λ (x : LinkValue). x.dir) same ∙ one.1 in
              let called : link.name ≡ name = ap (λ (x : LinkValue). x.name) same ∙ one.2 in
              let front : p ≡ rest = above mine rest (subst (λ (n : ℕ). LeadsUp links (home_of root).offset n rest) place further) in
              (λ i. front i ++ (sym called) i ∷ []) ∙ sym parts

          by : LedUp links (home_of root).offset (home_of v).offset path → p ++ name ∷ [] ≡ path
          by (AtRoot same none) = let less = below_root p name dir v at child own in absurd (omega (arith, less, same))
          by (Below link rest is once further parts) =
              let e : (let o : Option LinkValue = Some link in o) ≡ Some l.0 = sym is ∙ l.1 in
              of_link link rest (let same : link ≡ l.0 = cc in same) once further parts l.2

      -- where the path leads up, it stands there and nowhere else
      pub stands_there : (p path : Path) (v : NodeRev) → IsNewAt look r p v → LeadsUp links (home_of root).offset (home_of v).offset path → p ≡ path
      stands_there p path v new up = for_each look r Only (λ q name dir x here kind child there above. only_below q name dir x here kind child there above) only_root p v new.stands new.own path up

    -- ---- where a path doesn't lead up, it stands elsewhere, too

    module _ (stands : (u : NodeRev) → Contains done u → (q : Path) × IsNewAt look r q u) where
      -- it stands at another path
      abbrev Elsewhere : Path → NodeRev → Type 0
      Elsewhere p v = (q : Path) × StandsAt look r q v × (q ≢ p)

      abbrev LeadsOr : Path → NodeRev → Type 0
      LeadsOr p v = Contains done v → LeadsUp links (home_of root).offset (home_of v).offset p ⊎ Elsewhere p v

      -- where a directory names it
      pub record NamedAt (v dir : NodeRev) (name : PathName) : Type 0 where
        pub above : Path
        pub at : StandsAt look r above dir
        pub there : StandsAt look r (above ++ name ∷ []) v

      named_at : (v dir : NodeRev) (name : PathName) → IsNamedIn look done v dir name → NamedAt v dir name
      named_at v dir name n =
          let s = stands dir n.among in
          let new = s.1 in
          record { above = s.0; at = new.stands; there = child_stands look r dir v s.0 name new.stands n.is_dir (entry_child look dir v name n.entry n.listed n.read) }

      -- of two paths one is another
      one_other : (v : NodeRev) (p a b : Path) → StandsAt look r a v → StandsAt look r b v → a ≢ b → Elsewhere p v
      one_other v p a b at also apart = by (path_or a p)
        where
          by : (a ≡ p) ⊎ (a ≢ p) → Elsewhere p v
          by (inr other) = (a, at, other)
          by (inl same) = (b, also, λ e. apart (same ∙ sym e))

      or_root : (v : NodeRev) → StandsAt look r [] v → LeadsOr [] v
      or_root v at among = inl (subst (λ (x : NodeRev). LeadsUp links (home_of root).offset (home_of x).offset []) (sym (at_top v at)) Here)

      or_below : (p : Path) (name : PathName) (dir v : NodeRev) → StandsAt look r p dir → dir.kind ≡ Dir → ChildOf look dir name (Ok (Some v)) → StandsAt look r (p ++ name ∷ []) v → LeadsOr p dir → LeadsOr (p ++ name ∷ []) v
      or_below p name dir v at kind child there above among = by (linked.linked v among)
        where
          own : own_rev v ≡ r
          own = let s = stands v among in let new = s.1 in new.own

          twice : (link : LinkValue) (l : IsLink look done v link) → link.again ≡ true → Elsewhere (p ++ name ∷ []) v
          twice link l again =
              let a = named_at v l.dir link.name l.first in
              let o = l.again again in
              let b = named_at v o.0 o.1 o.2 in
              one_other v (p ++ name ∷ []) (a.above ++ link.name ∷ []) (b.above ++ o.1 ∷ []) a.there b.there (apart a b o.3)
            where
              apart : {d e : NodeRev} {x y : PathName} → (a : NamedAt v d x) (b : NamedAt v e y) → (e ≢ d) ⊎ (y ≢ x) → a.above ++ x ∷ [] ≢ b.above ++ y ∷ []
              apart {d = d} {e = e} a b (inl other) same =
                  let s = same_from_push a.above b.above _ _ same in
                  other (stands_same look r b.above e d b.at (subst (λ (q : Path). StandsAt look r q d) s.0 a.at))
              apart a b (inr other) same = let s = same_from_push a.above b.above _ _ same in other (sym s.1)

          once : (link : LinkValue) → link_at links (home_of v).offset ≡ Some link → (l : IsLink look done v link) → link.again ≡ false → LeadsUp links (home_of root).offset (home_of v).offset (p ++ name ∷ []) ⊎ Elsewhere (p ++ name ∷ []) v
          once link is l single = from (path_or (a.above ++ link.name ∷ []) (p ++ name ∷ []))
            where
              a : NamedAt v l.dir link.name
              a = named_at v l.dir link.name l.first

              further : (p ≡ a.above) → link.name ≡ name → l.dir ≡ dir → LeadsUp links (home_of root).offset (home_of dir).offset p ⊎ Elsewhere p dir → LeadsUp links (home_of root).offset (home_of v).offset (p ++ name ∷ []) ⊎ Elsewhere (p ++ name ∷ []) v
              further front called one (inl up) =
                  let place : (home_of dir).offset ≡ link.dir = ap (λ (x : NodeRev). (home_of x).offset) (sym one) ∙ l.place in
                  inl (subst (λ (x : PathName). LeadsUp links (home_of root).offset (home_of v).offset (p ++ x ∷ [])) called
                  (Up (home_of v).offset link p is single (subst (λ (n : ℕ). LeadsUp links (home_of root).offset n p) place up)))
              further front called one (inr e) =
                  inr (e.0 ++ name ∷ [], child_stands look r dir v e.0 name e.1 kind child, λ same. e.2 (same_from_push e.0 p name name same).0)

              from : (a.above ++ link.name ∷ [] ≡ p ++ name ∷ []) ⊎ (a.above ++ link.name ∷ [] ≢ p ++ name ∷ []) → LeadsUp links (home_of root).offset (home_of v).offset (p ++ name ∷ []) ⊎ Elsewhere (p ++ name ∷ []) v
              from (inr other) = inr (a.above ++ link.name ∷ [], a.there, other)
              from (inl same) =
                  let s = same_from_push a.above p link.name name same in
                  let one : l.dir ≡ dir = stands_same look r p l.dir dir (subst (λ (q : Path). StandsAt look r q l.dir) s.0 a.at) at in
                  let first = l.first in
                  further (sym s.0) s.1 one (above (subst (λ (x : NodeRev). Contains done x) one first.among))

          of_link : (link : LinkValue) → link_at links (home_of v).offset ≡ Some link → IsLink look done v link → (b : Bool) → link.again ≡ b → LeadsUp links (home_of root).offset (home_of v).offset (p ++ name ∷ []) ⊎ Elsewhere (p ++ name ∷ []) v
          of_link link is l true again = inr (twice link l again)
          of_link link is l false single = once link is l single

          by : (v ≡ root) ⊎ ((link : LinkValue) × (link_at links (home_of v).offset ≡ Some link)) → LeadsUp links (home_of root).offset (home_of v).offset (p ++ name ∷ []) ⊎ Elsewhere (p ++ name ∷ []) v
          by (inl same) =
              let less = below_root p name dir v at child own in
              let one : (home_of v).offset ≡ (home_of root).offset = ap (λ (x : NodeRev). (home_of x).offset) same in
              absurd (omega (arith, less, one))
          by (inr h) =
              let link = h.0 in
              let o = linked.only (home_of v).offset link h.1 in
              let s = stands v among in
              let t = stands o.0 o.1 in
              let one : o.0 ≡ v = placed_same t.0 s.0 o.0 v t.1 s.1 o.2 in
              of_link link h.1 (subst (λ (x : NodeRev). IsLink look done x link) one o.3) link.again refl

      leads_or_elsewhere : (p : Path) (v : NodeRev) → StandsAt look r p v → LeadsOr p v
      leads_or_elsewhere p v at = for_each look r LeadsOr (λ q name dir x here kind child there above. or_below q name dir x here kind child there above) or_root p v at

      -- a copy of which the path at which it was made doesn't lead up
      pub place_breaks : (v : NodeRev) (from : CopySource) → Contains done v → v.copy_from ≡ Some from → (LeadsUp links (home_of root).offset (home_of v).offset v.created_path → ⊥) → BreaksRule look r v
      place_breaks v from among is never = by (path_or s.0 v.created_path)
        where
          s : (q : Path) × IsNewAt look r q v
          s = stands v among

          broken : (q : Path) → StandsAt look r q v → q ≢ v.created_path → BreaksRule look r v
          broken q at other = let new = s.1 in CopyPlace from q (r, q, omega arith, at) is (subst (λ (n : ℕ). StandsAt look n q v) (sym new.own) at) other

          either : LeadsUp links (home_of root).offset (home_of v).offset v.created_path ⊎ Elsewhere v.created_path v → BreaksRule look r v
          either (inl up) = absurd (never up)
          either (inr e) = broken e.0 e.1 e.2

          by : (s.0 ≡ v.created_path) ⊎ (s.0 ≢ v.created_path) → BreaksRule look r v
          by (inr other) = let new = s.1 in broken s.0 new.stands other
          by (inl same) = let new = s.1 in either (leads_or_elsewhere v.created_path v (subst (λ (q : Path). StandsAt look r q v) same new.stands) among)
