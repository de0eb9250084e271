-- The laws of the head's side, from the rules of ids and the history.
use Rattle.std.proofs.Common.{◌≡◌, ◌≤◌, ◌<◌, ◌⊎◌, ◌+◌, ◌-◌, ℕ, zero, suc, max, cond, not, Bool, true, false, ◌&&◌, [], ◌∷◌, ◌++◌, length, take, drop, refl, sym, ap, subst, ◌∙◌, arith, inl, inr}
use Rattle.std.specs.Prelude.{◌↔◌, Result, Ok, Option, Some, None, nat_lt, nat_le}
use Rattle.std.proofs.Math.Seq.{take-length}
use Rattle.std.proofs.lemmas.Bool.{and_from, cases_Bool, ltb-false, le-ltb, leb-true, le-leb}
use Rattle.std.proofs.lemmas.Bool.Decides.{nat_tests}
use Rattle.std.proofs.lemmas.List.{take-append-drop}
use Rattle.fsfs_base.specs.Paths.{PathName, Path, same_name, covers, is_above}
use Rattle.fsfs_tree.specs.Nodes.{Node, TreeFunction}
use Rattle.fsfs_model.specs.Flat.Landing.{touched_by_head, held_by_head, props_changed_by_head}
use Rattle.fsfs_tree.specs.Histories.{IsRevision, AreRevisions}
use Rattle.fsfs_revision.specs.Told.{RevisionBytes}
use Rattle.fsfs_noderev.specs.declared.node_id.NodeId.{NodeId}
use Rattle.fsfs_noderev.specs.declared.rep.Contents.{Contents}
use Rattle.fsfs_noderev.specs.declared.node_rev.CopySource.{CopySource}
use Rattle.fsfs_noderev.specs.declared.node_rev.NodeRev.{NodeRev}
use Rattle.fsfs_revision.specs.declared.wrong.Wrong.{Wrong}
use Rattle.fsfs_revision.specs.Shows.Reading.{offset_of, StandsAt}
use Rattle.fsfs_revision.specs.Shows.Chains.{own_rev, IsPred, Chain, First, Breaks, Goes, copy_root_of, IsCopiedIn, contents_rev}
use Rattle.fsfs_revision.specs.Shows.Shown.{IsShown, Shows}
use Rattle.fsfs_revision.specs.Shows.IdRules.{IdRule, IsOf}
use Rattle.fsfs_revision.specs.Shows.TreeLaw.{IsSound}
use Rattle.fsfs_revision.proofs.OneAnswer.{ok_same}
use Rattle.fsfs_revision.proofs.OneWalk.{stands_same}
use Rattle.fsfs_revision.proofs.OneTree.{chain_one}
use Rattle.fsfs_revision.proofs.TreeLaw.{IsHome, stands_home, chain_le, root_le, props_le, sound}
use Rattle.fsfs_base.proofs.PathLemmas.{same_name-refl, covers-antisym, covers-longer}
use Rattle.fsfs_revision.specs.Ancestry.Trees.{ShowTrees}
use Rattle.fsfs_revision.proofs.Revisions.{shown_revisions}
use Rattle.fsfs_draft.specs.HeadLaws.{Continues, IsHeldAbove, AgreeAt, HeadLaws, UntouchedIsShared}
use Rattle.fsfs_revision.proofs.Earlier.{stands_of_id, named_same}
use Rattle.fsfs_revision.proofs.Behind.{shown_there}
use Rattle.fsfs_draft.proofs.Coming.{below_or_at, IsFresh, Comes, Same, Next, Fresh, comes, same_first}

some_node : (m n : Node) (o : Option Node) → o ≡ Some m → o ≡ Some n → m ≡ n
some_node m n o e f = let g = sym e ∙ f in cc

-- ---- the tests of the head's side

module _ (b : ℕ) (o : Option Node) (n : Node) (is : o ≡ Some n) where
  pub held_le : held_by_head b o ≡ true → n.added ≤ b
  held_le h = leb-true n.added b (subst (λ (x : Option Node). held_by_head b x ≡ true) is h)

  pub le_held : n.added ≤ b → held_by_head b o ≡ true
  le_held h = subst (λ (x : Option Node). held_by_head b x ≡ true) (sym is) (le-leb n.added b h)

  pub untouched_le : touched_by_head b o ≡ false → n.last_changed ≤ b
  untouched_le h = ltb-false b n.last_changed (subst (λ (x : Option Node). touched_by_head b x ≡ false) is h)

  pub le_untouched : n.last_changed ≤ b → touched_by_head b o ≡ false
  le_untouched h = subst (λ (x : Option Node). touched_by_head b x ≡ false) (sym is) (le-ltb b n.last_changed h)

  pub same_props_le : props_changed_by_head b o ≡ false → n.props_changed ≤ b
  same_props_le h = ltb-false b n.props_changed (subst (λ (x : Option Node). props_changed_by_head b x ≡ false) is h)

  pub le_same_props : n.props_changed ≤ b → props_changed_by_head b o ≡ false
  le_same_props h = subst (λ (x : Option Node). props_changed_by_head b x ≡ false) (sym is) (le-ltb b n.props_changed h)

module _ (look : RevisionBytes) (top : ℕ) (tree : ℕ → TreeFunction) (shows : ShowTrees look top tree) where
  revisions : AreRevisions tree top
  revisions = shown_revisions look top tree shows

  pub node_at : (r : ℕ) (p : Path) (v : NodeRev) → r ≤ top → StandsAt look r p v → (n : Node) × (tree r p ≡ Some n) × IsShown look r p v n
  node_at r p v le at = shown_there look r (tree r) (shows.each r le) p v at

  -- what is below was added no sooner
  added_below : (r : ℕ) (q p : Path) (m n : Node) → suc r ≤ top → covers q p ≡ true → tree (suc r) q ≡ Some m → tree (suc r) p ≡ Some n → m.added ≤ n.added
  added_below r q p m n le c e f = elim (cases_Bool (covers p q)) [
    | inl back ↦ (let same = covers-antisym q p c back in
        let one : m ≡ n = some_node m n (tree (suc r) q) e (subst (λ (x : Path). tree (suc r) x ≡ Some n) (sym same) f) in
        let added : m.added ≡ n.added = ap (λ (x : Node). x.added) one in
        omega arith)
    | inr apart ↦ ((revisions.next r (omega arith)).below q p m n (and_from _ _ c (ap not apart)) e f).0
  ]

  -- what was made or copied in a revision was added there
  fresh_added : (r : ℕ) (q : Path) (w : NodeRev) (m : Node) → r ≤ top → StandsAt look r q w → own_rev w ≡ r → IsFresh w → tree r q ≡ Some m → r ≤ m.added
  fresh_added r q w m le at own fresh is = by (node_at r q w le at) fresh
    where
      by : (n : (n : Node) × (tree r q ≡ Some n) × IsShown look r q w n) → IsFresh w → r ≤ m.added
      by n fresh = cases_of (ap (λ (x : Node). x.added) (sym (some_node n.0 m (tree r q) n.1 is)) ∙ n.2.added) fresh
        where
          cases_of : m.added ≡ max n.2.first n.2.copied → IsFresh w → r ≤ m.added
          cases_of added (inl none) =
              let first : own_rev w ≡ n.2.first = ok_same (own_rev w) n.2.first (chain_one (First w none) n.2.chain) in
              omega (arith, added, first, own)
          cases_of added (inr from) =
              let root = shows.ids.copy_root w from.0 (r, q, le, at) from.1 in
              let here = n.2.copied_is.at_most (length q) w (omega arith) (subst (λ (x : Path). StandsAt look r x w) (sym (take-length q)) at) in
              let rev : (copy_root_of w).0 ≡ own_rev w = ap (λ (x : ℕ × Path). x.0) root in
              omega (arith, added, here, rev, own)

  -- ---- back from the head to the base

  module _ (b : ℕ) (p : Path) where
    -- what was added no later than b was not made or copied since
    pub not_fresh : (r : ℕ) (v : NodeRev) (n : Node) → suc r ≤ top → b ≤ r → tree (suc r) p ≡ Some n → n.added ≤ b → (q : Path) (w : NodeRev) → covers q p ≡ true → StandsAt look (suc r) q w → own_rev w ≡ suc r → IsFresh w → ⊥
    not_fresh r v n le more is added q w c at own fresh =
        let m = node_at (suc r) q w le at in
        let x = fresh_added (suc r) q w m.0 le at own fresh m.1 in
        let y = added_below r q p m.0 n le c m.1 is in
        omega arith

    -- what the head did not touch stood there
    back_untouched : (d : ℕ) (v : NodeRev) (n : Node) → d + b ≤ top → StandsAt look (d + b) p v → tree (d + b) p ≡ Some n → n.last_changed ≤ b → StandsAt look b p v
    back_untouched d v n le at is last = by d (d + b) refl le at is
      where
        by : (d r : ℕ) → r ≡ d + b → r ≤ top → StandsAt look r p v → tree r p ≡ Some n → StandsAt look b p v
        by zero r e le at is = subst (λ (x : ℕ). StandsAt look x p v) (let f : r ≡ b = omega arith in f) at
        by (suc d) zero e le at is = absurd (omega arith)
        by (suc d) (suc r) e le at is =
            let before = (revisions.next r (omega arith)).last_changed p n is (omega arith) in
            let order = (sound look (suc r) (tree (suc r)) (shows.each (suc r) le)).ordered p n is in
            let more : b ≤ r = omega arith in
            elim (comes look top tree shows r le p v at) [
              | Same there ↦ by d r (omega arith) (omega arith) there before
              | Next u own copy pred there ↦ (let m = node_at (suc r) p v le at in
                  let one : m.0 ≡ n = some_node m.0 n (tree (suc r) p) m.1 is in
                  let last_is : n.last_changed ≡ max m.2.copied (own_rev v) = ap (λ (x : Node). x.last_changed) (sym one) ∙ m.2.last_changed in
                  absurd (omega (arith, last_is, own, last)))
              | Fresh q w c s own fresh ↦ absurd (not_fresh r v n le more is (omega (arith, order.added, order.props_changed)) q w c s own fresh)
            ]

    -- what the head held goes on from what stood there, with its properties where they were not changed
    pub record Held (v : NodeRev) (props : ℕ) : Type 0 where
      pub was : NodeRev
      pub stands : StandsAt look b p was
      pub node : was.id.node ≡ v.id.node
      pub same_props : props ≤ b → was.props ≡ v.props

    back_held : (d r : ℕ) (v : NodeRev) (n : Node) → r ≡ d + b → r ≤ top → StandsAt look r p v → tree r p ≡ Some n → n.added ≤ b → Held v n.props_changed
    back_held zero r v n e le at is added = record {
      was = v;
      stands = subst (λ (x : ℕ). StandsAt look x p v) (let f : r ≡ b = omega arith in f) at;
      node = refl;
      same_props = λ h. refl;
    }
    back_held (suc d) zero v n e le at is added = absurd (omega arith)
    back_held (suc d) (suc r) v n e le at is added =
        let next = revisions.next r (omega arith) in
        let m = next.added p n is (omega arith) in
        let more : b ≤ r = omega arith in
        let k = node_at (suc r) p v le at in
        let one : k.0 ≡ n = some_node k.0 n (tree (suc r) p) k.1 is in
        elim (comes look top tree shows r le p v at) [
          | Same there ↦ (let h = back_held d r v m.0 (omega arith) (omega arith) there m.1 (omega (arith, m.3)) in
              record { was = h.was; stands = h.stands; node = h.node; same_props = λ q. h.same_props (earlier next m.0 n m.1 is q more) })
          | Next u own copy pred there ↦ (let h = back_held d r u m.0 (omega arith) (omega arith) there m.1 (omega (arith, m.3)) in
              record {
                was = h.was;
                stands = h.stands;
                node = h.node ∙ sym (shows.ids.node v u (suc r, p, le, at) pred);
                same_props = λ q. h.same_props (earlier next m.0 n m.1 is q more) ∙ sym (kept v u k.0 k.2 n one own q more (suc r, p, le, at) pred);
              })
          | Fresh q w c s own fresh ↦ absurd (not_fresh r v n le more is added q w c s own fresh)
        ]
      where
        earlier : IsRevision (suc r) tree (tree r) (tree (suc r)) → (m n : Node) → tree r p ≡ Some m → tree (suc r) p ≡ Some n → n.props_changed ≤ b → b ≤ r → m.props_changed ≤ b
        earlier next m n was is q more =
            let x = next.props_changed p n is (omega arith) in
            let same : x.0 ≡ m = some_node x.0 m (tree r p) x.1 was in
            let num : m.props_changed ≡ n.props_changed = ap (λ (y : Node). y.props_changed) (sym same) ∙ x.3 in
            omega arith

        kept : (v u : NodeRev) (k : Node) → IsShown look (suc r) p v k → (n : Node) → k ≡ n → own_rev v ≡ suc r → n.props_changed ≤ b → b ≤ r → IsOf look top v → IsPred look v u → v.props ≡ u.props
        kept v u k sh n one own q more of pred =
            let num : n.props_changed ≡ max k.added (contents_rev v.props) = ap (λ (x : Node). x.props_changed) (sym one) ∙ sh.props_changed in
            shows.ids.props v u of pred (inl (omega (arith, num, own, q)))

  -- ---- the laws at a path

  module _ (b h : ℕ) (le : b ≤ h) (ge : h ≤ top) (p : Path) where
    gap : (d : ℕ) × (h ≡ d + b)
    gap = by h le
      where
        by : (k : ℕ) → b ≤ k → (d : ℕ) × (k ≡ d + b)
        by k q = (k - b, omega arith)

    pub back : (v : NodeRev) → StandsAt look h p v → touched_by_head b (tree h p) ≡ false → StandsAt look b p v
    back v at un =
        let n = node_at h p v ge at in
        let last = untouched_le b (tree h p) n.0 n.1 un in
        let g = gap in
        back_untouched b p g.0 v n.0 (subst (λ (x : ℕ). x ≤ top) g.1 ge) (subst (λ (x : ℕ). StandsAt look x p v) g.1 at) (subst (λ (x : ℕ). tree x p ≡ Some n.0) g.1 n.1) last

    module _ (held : IsHeldAbove b (tree h) p) (x y : NodeRev) (atx : StandsAt look b p x) (aty : StandsAt look h p y) where
      xb : b ≤ top
      xb = omega arith

      -- the copies on the way are no later than b
      copied_le : (n : Node) (sh : IsShown look h p y n) → (copy_root_of y).0 ≤ b → sh.copied ≤ b
      copied_le n sh own = let c = sh.copied_is.some in by c.0 c.1 c.2 c.3 c.4
        where
          above : (k : ℕ) → k < length p → is_above (take k p) p ≡ true
          above k less = strict p k less
            where
              strict : (p : Path) (k : ℕ) → k < length p → is_above (take k p) p ≡ true
              strict [] k less = absurd (omega arith)
              strict (z ∷ p) zero less = refl
              strict (z ∷ p) (suc k) less = rest z (covers (take k p) p) (covers p (take k p)) (strict p k (omega arith))
                where
                  rest : (z : PathName) (f g : Bool) → (f && not g) ≡ true → ((same_name z z && f) && not (same_name z z && g)) ≡ true
                  rest z f g h = subst (λ (s : Bool). ((s && f) && not (s && g)) ≡ true) (sym (same_name-refl z)) h

          by : (k : ℕ) (q : NodeRev) → k ≤ length p → StandsAt look h (take k p) q → (copy_root_of q).0 ≡ sh.copied → sh.copied ≤ b
          by k q in_p at is = elim (below_or_at k (length p) in_p) [
            | inr all ↦ (let here : StandsAt look h p q = subst (λ (z : Path). StandsAt look h z q) (ap (λ (m : ℕ). take m p) all ∙ take-length p) at in
                let same = stands_same look h p q y here aty in
                subst (λ (m : ℕ). m ≤ b) is (subst (λ (z : NodeRev). (copy_root_of z).0 ≤ b) (sym same) own))
            | inl less ↦ (let m = node_at h (take k p) q ge at in
                let added = held_le b (tree h (take k p)) m.0 m.1 (held (take k p) (above k less)) in
                let root = m.2.copied_is.at_most (length (take k p)) q (omega arith) (subst (λ (z : Path). StandsAt look h z q) (sym (take-length (take k p))) at) in
                omega (arith, m.2.added, added, root, is))
          ]

      pub agree : AgreeAt b (tree h) p x y
      agree =
          let n = node_at h p y ge aty in
          let bx = stands_home look b p x atx in
          let hy = stands_home look h p y aty in
          let o = node_at b p x xb atx in
          record {
            id = (
              λ same.
                  (let own : own_rev x ≡ own_rev y = λ i. (offset_of (same i).place).rev in
                  let root = root_le y y.copy_root hy.0.root in
                  let copied = copied_le n.0 n.2 (omega (arith, root, own, bx.1)) in
                  le_untouched b (tree h p) n.0 n.1 (omega (arith, n.2.last_changed, copied, own, bx.1))),
              λ un. ap (λ (v : NodeRev). v.id) (stands_same look b p x y atx (back y aty un)),
            );
            goes_on = (
              λ same.
                  (let first = same_first look top tree shows x y o.2.first n.2.first o.2.chain n.2.chain (b, p, xb, atx) (h, p, ge, aty) same.0 in
                  let le = chain_le look x (Ok o.2.first) o.2.first o.2.chain refl bx.0 in
                  let copied = copied_le n.0 n.2 same.1 in
                  le_held b (tree h p) n.0 n.1 (omega (arith, n.2.added, copied, first, le, bx.1))),
              λ hold.
                  (let added = held_le b (tree h p) n.0 n.1 hold in
                  let g = gap in
                  let w = back_held b p g.0 h y n.0 g.1 ge aty n.1 added in
                  let same = stands_same look b p w.was x w.stands atx in
                  let root = n.2.copied_is.at_most (length p) y (omega arith) (subst (λ (z : Path). StandsAt look h z y) (sym (take-length p)) aty) in
                  (subst (λ (v : NodeRev). v.id.node ≡ y.id.node) same w.node, omega (arith, n.2.added, added, root))),
            );
            props = λ hold.
                (let added = held_le b (tree h p) n.0 n.1 hold in (
                  λ same.
                      (let rep : contents_rev x.props ≡ contents_rev y.props = ap contents_rev same in
                      let le = props_le (offset_of x.id.place) x.props bx.0.props in
                      le_same_props b (tree h p) n.0 n.1 (omega (arith, n.2.props_changed, added, rep, le, bx.1))),
                  λ un.
                      (let g = gap in
                      let w = back_held b p g.0 h y n.0 g.1 ge aty n.1 added in
                      let same = stands_same look b p w.was x w.stands atx in
                      subst (λ (v : NodeRev). v.props ≡ y.props) same (w.same_props (same_props_le b (tree h p) n.0 n.1 un))),
                ));
          }

pub head_laws : HeadLaws
head_laws look top tree shows b h le ge p held x y atx aty = agree look top tree shows b h le ge p held x y atx aty

pub shared : UntouchedIsShared
shared look top tree shows b h le ge p y at un = back look top tree shows b h le ge p y at un
