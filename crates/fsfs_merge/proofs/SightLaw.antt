-- What a merge sees by ids is what numbers and marks say, at each path above which both sides hold all.
use Rattle.fsfs_revision.proofs.Revisions.{shown_revisions}
use Rattle.std.proofs.Common.{◌≡◌, ◌≤◌, ◌⊎◌, ℕ, not, Bool, true, false, ◌&&◌, ◌||◌, List, refl, sym, ap, subst, ◌∙◌, inl, inr, Option, Some, None, arith}
use Rattle.std.specs.Prelude.{◌↔◌, ◌≢◌, Ok, is_some, if◌then◌else◌, IsSomeAnd}
use Rattle.std.specs.Cmp.{both_ways as same_tests}
use Rattle.std.proofs.lemmas.Bool.{and_parts, and_from, both_ways, cases_Bool, false_from_ne_true}
use mathlib.Core.Bool.{false≢true}
use Rattle.fsfs_model.specs.Flat.Edits.{is_dir, is_dir_node}
use Rattle.fsfs_base.specs.Paths.{Path, is_above}
use Rattle.fsfs_tree.specs.Nodes.{Node, TreeFunction}
use Rattle.fsfs_base.specs.declared.kind.Kind.TheVariants.{Dir}
use Rattle.fsfs_model.specs.declared.flat.mark.Mark.{Mark}
use Rattle.fsfs_model.specs.Flat.Marks.{effects, outer, changes_props}
use Rattle.fsfs_model.specs.Flat.Landing.{held_by_head, touched_by_head, props_changed_by_head, goes_on, reached}
use Rattle.fsfs_revision.specs.Told.{RevisionBytes}
use Rattle.fsfs_noderev.specs.declared.node_id.Place.{Place}
use Rattle.fsfs_noderev.specs.declared.node_id.Place.TheVariants as places
use Rattle.fsfs_noderev.specs.declared.node_id.NodeId.{NodeId}
use Rattle.fsfs_noderev.specs.declared.rep.Contents.{Contents}
use Rattle.fsfs_noderev.specs.declared.rep.Contents.TheVariants as contents
use Rattle.fsfs_noderev.specs.declared.node_rev.NodeRev.{NodeRev}
use Rattle.fsfs_revision.specs.Shows.Reading.{Met, Stands, Lacking, Blocked, MetAt, StandsAt}
use Rattle.fsfs_revision.specs.Shows.Shown.{IsShown, IsShownAs, Shows}
use Rattle.fsfs_model.proofs.Tests.{found}
use Rattle.fsfs_model.proofs.MergeWalk.{goes_gone, reached_above, quiet, touched_below}
use Rattle.fsfs_draft.specs.HeadLaws.{IsHeldAbove, AgreeAt}
use Rattle.fsfs_revision.proofs.Behind.{shown_there}
use Rattle.fsfs_draft.proofs.HeadLaw.{head_laws}
use Rattle.fsfs_model.proofs.Directories.{dir_kind}
use Rattle.fsfs_model.proofs.Next.{changes_props_is}
use Rattle.fsfs_merge.specs.Walks.{Sight}
use Rattle.fsfs_merge.specs.Laws.{Agrees}
use Rattle.fsfs_draft.specs.OwnSides.{NodesAt, in_txn, is_own_copy, IsAnother, AreNodesOf}
use Rattle.fsfs_merge.specs.MergeLaws.{BothGoOn, IsMerge}
use Rattle.fsfs_merge.proofs.Sides.{self, going_self, same_kind}
use Rattle.fsfs_draft.proofs.HangLaw.{some_same}
use Rattle.fsfs_draft.proofs.Lasting.{IsLasting, lasting}

-- ---- what stands at a path, as node-revision and as node

node_of : (m : Met) → Option NodeRev
node_of (Stands v) = Some v
node_of (Lacking k) = None
node_of (Blocked k) = None

module _ (look : RevisionBytes) (r : ℕ) (tree : TreeFunction) (shows : Shows look r tree) (nodes : NodesAt) (are : AreNodesOf look r nodes) where
  pub some_node : (p : Path) (v : NodeRev) → nodes p ≡ Some v → (n : Node) × (tree p ≡ Some n) × (n.kind ≡ v.kind)
  some_node p v e = let n = shown_there look r tree shows p v ((are.each p v).0 e) in (n.0, n.1, n.2.kind)

  pub node_some : (p : Path) (n : Node) → tree p ≡ Some n → (v : NodeRev) × (nodes p ≡ Some v) × (n.kind ≡ v.kind)
  node_some p n e = let w = shows.each p in by w.0 w.1 w.2
    where
      by : (m : Met) → MetAt look r p (Ok m) → IsShownAs look r p m (tree p) → (v : NodeRev) × (nodes p ≡ Some v) × (n.kind ≡ v.kind)
      by (Stands v) at s = (v, (are.each p v).1 at, kind_of (tree p) e s)
        where
          kind_of : (o : Option Node) → o ≡ Some n → IsSomeAnd o (IsShown look r p v) → n.kind ≡ v.kind
          kind_of None e s = absurd s
          kind_of (Some x) e s = let same : x ≡ n = cc in ap (λ (y : Node). y.kind) (sym same) ∙ s.kind
      by (Lacking k) at s = absurd (let f = sym e ∙ s in cc)
      by (Blocked k) at s = absurd (let f = sym e ∙ s in cc)

  pub same_some : (p : Path) → is_some (nodes p) ≡ is_some (tree p)
  same_some p = by (nodes p) refl (tree p) refl
    where
      by : (o : Option NodeRev) → nodes p ≡ o → (u : Option Node) → tree p ≡ u → is_some o ≡ is_some u
      by None e None f = refl
      by None e (Some n) f = let v = node_some p n f in absurd (let g = sym e ∙ v.1 in cc)
      by (Some v) e None f = let n = some_node p v e in absurd (let g = sym f ∙ n.1 in cc)
      by (Some v) e (Some n) f = refl

-- ---- tests

by_test : (x y : Bool) → ((x ≡ true) ↔ (y ≡ false)) → x ≡ not y
by_test true true e = absurd (false≢true (sym (e.0 refl)))
by_test true false e = refl
by_test false true e = refl
by_test false false e = absurd (false≢true (e.1 refl))

pub props_touched : (marks : List Mark) (p : Path) → (effects marks p).touched ≡ false → (effects marks p).props_changed ≡ false
props_touched marks p un = false_from_ne_true _ (λ h.
    let f = found (λ m. changes_props m.what m.path p) (outer marks) h in
    let w = changes_props_is f.0.what f.0.path p f.2 in
    both_ways _ un (touched_below marks f.0 p f.1 w.0 w.1))

in_txn_not : (x v : NodeRev) → in_txn x.id.place ≡ false → in_txn v.id.place ≡ true → x.id ≡ v.id → ⊥
in_txn_not x v a b e = both_ways _ (ap (λ (i : NodeId). in_txn i.place) (sym e) ∙ a) b

module _ (look : RevisionBytes) (top : ℕ) (tree : ℕ → TreeFunction) (b h : ℕ) (t : TreeFunction) (marks : List Mark) (base head own : NodesAt) (see : Path → Sight)
    (is : IsMerge look top tree b h t marks base head own see) where
  abbrev Going : Path → Bool
  Going q = goes_on b (effects marks q) (tree b q) (tree h q)

  b_top : b ≤ top
  b_top = let x = is.order in let y = is.within in omega arith

  module _ (p : Path) (r : reached Going p ≡ true) where
    held : IsHeldAbove b (tree h) p
    held q ab = (and_parts _ _ (reached_above Going q p r ((and_parts _ _ ab).0) (un_not _ ((and_parts _ _ ab).1)))).1
      where
        un_not : (x : Bool) → not x ≡ true → x ≡ false
        un_not true e = absurd (false≢true e)
        un_not false e = refl

    kept : (q : Path) → is_above q p ≡ true → (effects marks q).deleted ≡ false
    kept q ab = goes_gone b (effects marks q) (tree b q) (tree h q) (reached_above Going q p r ((and_parts _ _ ab).0) (un_not _ ((and_parts _ _ ab).1)))
      where
        un_not : (x : Bool) → not x ≡ true → x ≡ false
        un_not true e = absurd (false≢true e)
        un_not false e = refl

    -- what was taken away at the path is touched
    gone_touched : (effects marks p).deleted ≡ true → (effects marks p).touched ≡ true
    gone_touched del = elim (cases_Bool (effects marks p).touched) [
      | inl w ↦ w
      | inr un ↦ absurd (both_ways _ (quiet b (tree b) (tree b) t marks (self tree top b h t marks (shown_revisions look top tree is.shows) is.transaction is.order is.within) p (going_self tree top b h t marks (shown_revisions look top tree is.shows) is.transaction is.order is.within p r) un).0 del)
    ]

    laws : (x y : NodeRev) → base p ≡ Some x → head p ≡ Some y → AgreeAt b (tree h) p x y
    laws x y e f = head_laws look top tree is.shows b h is.order is.within p held x y ((is.base_nodes.each p x).0 e) ((is.head_nodes.each p y).0 f)

    lasts : (x : NodeRev) → base p ≡ Some x → IsLasting x
    lasts x e = lasting look b p x ((is.base_nodes.each p x).0 e)

    base_some : is_some (base p) ≡ is_some (tree b p)
    base_some = same_some look b (tree b) (is.shows.each b b_top) base is.base_nodes p

    head_some : is_some (head p) ≡ is_some (tree h p)
    head_some = same_some look h (tree h) (is.shows.each h is.within) head is.head_nodes p

    none_touched : head p ≡ None → touched_by_head b (tree h p) ≡ true
    none_touched e = by (tree h p) refl
      where
        by : (o : Option Node) → tree h p ≡ o → touched_by_head b o ≡ true
        by None f = refl
        by (Some n) f = absurd (false≢true (sym (ap is_some e) ∙ head_some ∙ ap is_some f))

    -- the head's id
    head_test : (x : NodeRev) → base p ≡ Some x → (see p).head_same ≡ not (touched_by_head b (tree h p))
    head_test x e = by_test _ _ (
      λ k. (let w = ((is.sights p).head_same x e).0 k in (laws x w.0 e w.1).id.0 w.2),
      λ un. by (head p) refl un,
    )
      where
        by : (o : Option NodeRev) → head p ≡ o → touched_by_head b (tree h p) ≡ false → (see p).head_same ≡ true
        by None f un = absurd (both_ways _ un (none_touched f))
        by (Some y) f un = ((is.sights p).head_same x e).1 (y, f, (laws x y e f).id.1 un)

    -- the transaction's id
    own_test : (x : NodeRev) → base p ≡ Some x → (see p).own_same ≡ not (effects marks p).touched
    own_test x e = by_test _ _ (
      λ k. (let w = ((is.sights p).own_same x e).0 k in same w.0 w.1 w.2),
      λ un. back un,
    )
      where
        same : (c : NodeRev) → own p ≡ Some c → x.id ≡ c.id → (effects marks p).touched ≡ false
        same c f i = false_from_ne_true _ (λ w. elim (cases_Bool (effects marks p).deleted) [
          | inl del ↦ in_txn_not x c (lasts x e).place (is.side.another p x c e del kept f).own i
          | inr stays ↦
              let s = is.side.touched p x e stays w in
              let one : s.0 ≡ c = some_same (own p) s.0 c s.1 f in
              in_txn_not x c (lasts x e).place (subst (λ (y : NodeRev). in_txn y.id.place ≡ true) one s.2.own) i
        ])

        back : (effects marks p).touched ≡ false → (see p).own_same ≡ true
        back un =
            let no : (effects marks p).deleted ≡ false = false_from_ne_true _ (λ del. both_ways _ un (gone_touched del)) in
            ((is.sights p).own_same x e).1 (x, is.side.untouched p x e no un, refl)

    -- the transaction's node where it holds the path
    pub own_node : (x : NodeRev) → base p ≡ Some x → (effects marks p).deleted ≡ false
        → (v : NodeRev) × (own p ≡ Some v) × (v.id.node ≡ x.id.node) × (v.kind ≡ x.kind) × (is_own_copy v ≡ false) × ((x.props ≡ v.props) ↔ ((effects marks p).props_changed ≡ false))
    own_node x e stays = elim (cases_Bool (effects marks p).touched) [
      | inr un ↦ (x, is.side.untouched p x e stays un, refl, refl, (lasts x e).root, (λ s. props_touched marks p un, λ s. refl))
      | inl w ↦
          let s = is.side.touched p x e stays w in
          (s.0, s.1, s.2.node, s.2.kind, s.2.root, props s.0 (effects marks p).props_changed s.2.props)
    ]
      where
        props : (v : NodeRev) (c : Bool) → v.props ≡ (if c then Some contents.Own else x.props) → (x.props ≡ v.props) ↔ (c ≡ false)
        props v true q = (λ s. absurd ((lasts x e).props (s ∙ q)), λ s. absurd (false≢true (sym s)))
        props v false q = (λ s. refl, λ s. sym q)

    goes_test : (x : NodeRev) → base p ≡ Some x → (see p).goes_on ≡ (is_dir_node (tree b p) && goes_on b (effects marks p) (tree b p) (tree h p))
    goes_test x e = same_tests _ _ forth back
      where
        n : (n : Node) × (tree b p ≡ Some n) × (n.kind ≡ x.kind)
        n = some_node look b (tree b) (is.shows.each b b_top) base is.base_nodes p x e

        forth : (see p).goes_on ≡ true → (is_dir_node (tree b p) && goes_on b (effects marks p) (tree b p) (tree h p)) ≡ true
        forth k =
            let w = ((is.sights p).goes_on x e).0 k in
            let both = w.4 in
            let hold = (laws x w.0 e w.2).goes_on.0 (both.head_node, both.head_root) in
            let no : (effects marks p).deleted ≡ false = false_from_ne_true _ (λ del. other (is.side.another p x w.1 e del kept w.3) both) in
            and_from _ _ (ap is_dir_node n.1 ∙ ap is_dir (n.2 ∙ both.base_dir)) (and_from _ _ (and_from _ _ (ap is_some n.1) (ap not no)) hold)
          where
            other : {c v : NodeRev} → IsAnother x v → BothGoOn b x c v → ⊥
            other {c} {v} a both = by a.other
              where
                by : (v.id.node ≢ x.id.node) ⊎ (is_own_copy v ≡ true) → ⊥
                by (inl f) = f (sym both.own_node)
                by (inr f) = both_ways _ both.own_root f

        back : (is_dir_node (tree b p) && goes_on b (effects marks p) (tree b p) (tree h p)) ≡ true → (see p).goes_on ≡ true
        back k =
            let g : goes_on b (effects marks p) (tree b p) (tree h p) ≡ true = (and_parts (is_dir_node (tree b p)) (goes_on b (effects marks p) (tree b p) (tree h p)) k).1 in
            let hold : held_by_head b (tree h p) ≡ true = (and_parts (is_some (tree b p) && not (effects marks p).deleted) (held_by_head b (tree h p)) g).1 in
            let no = goes_gone b (effects marks p) (tree b p) (tree h p) g in
            let v = own_node x e no in
            let dir : x.kind ≡ Dir = sym n.2 ∙ dir_kind n.0.kind (sym (ap is_dir_node n.1) ∙ (and_parts (is_dir_node (tree b p)) (goes_on b (effects marks p) (tree b p) (tree h p)) k).0) in
            by (head p) refl hold v dir
          where
            by : (o : Option NodeRev) → head p ≡ o → held_by_head b (tree h p) ≡ true
                → (v : NodeRev) × (own p ≡ Some v) × (v.id.node ≡ x.id.node) × (v.kind ≡ x.kind) × (is_own_copy v ≡ false) × ((x.props ≡ v.props) ↔ ((effects marks p).props_changed ≡ false))
                → x.kind ≡ Dir → (see p).goes_on ≡ true
            by None f hold v dir = absurd (false≢true (sym (held_none (tree h p) (sym head_some ∙ ap is_some f)) ∙ hold))
              where
                held_none : (o : Option Node) → is_some o ≡ false → held_by_head b o ≡ false
                held_none None s = refl
                held_none (Some n) s = absurd (false≢true (sym s))
            by (Some y) f hold v dir =
                let go = (laws x y e f).goes_on.1 hold in
                let m = some_node look h (tree h) (is.shows.each h is.within) head is.head_nodes p y f in
                let same = same_kind tree top b h t marks (shown_revisions look top tree is.shows) is.transaction is.order is.within p n.0 m.0 n.1 m.1 hold in
                ((is.sights p).goes_on x e).1 (
                  y,
                  v.0,
                  f,
                  v.1,
                  record {
                    base_dir = dir;
                    head_dir = sym m.2 ∙ sym same ∙ n.2 ∙ dir;
                    own_dir = v.3 ∙ dir;
                    head_node = go.0;
                    own_node = sym v.2;
                    head_root = go.1;
                    own_root = v.4;
                  },
                )

    props_test : (x : NodeRev) → base p ≡ Some x → (is_dir_node (tree b p) && goes_on b (effects marks p) (tree b p) (tree h p)) ≡ true → (see p).same_props ≡ not ((effects marks p).props_changed || props_changed_by_head b (tree h p))
    props_test x e k = by (head p) refl
      where
        hold : held_by_head b (tree h p) ≡ true
        hold = (and_parts (is_some (tree b p) && not (effects marks p).deleted) (held_by_head b (tree h p)) ((and_parts (is_dir_node (tree b p)) (goes_on b (effects marks p) (tree b p) (tree h p)) k).1)).1

        no : (effects marks p).deleted ≡ false
        no = goes_gone b (effects marks p) (tree b p) (tree h p) ((and_parts (is_dir_node (tree b p)) (goes_on b (effects marks p) (tree b p) (tree h p)) k).1)

        neither : (u w : Bool) → (u || w) ≡ false → (u ≡ false) × (w ≡ false)
        neither true w h = absurd (false≢true (sym h))
        neither false w h = (refl, h)

        either : (u w : Bool) → u ≡ false → w ≡ false → (u || w) ≡ false
        either u w f g = (λ i. f i || w) ∙ g

        by : (o : Option NodeRev) → head p ≡ o → (see p).same_props ≡ not ((effects marks p).props_changed || props_changed_by_head b (tree h p))
        by None f = absurd (false≢true (sym (held_none (tree h p) (sym head_some ∙ ap is_some f)) ∙ hold))
          where
            held_none : (o : Option Node) → is_some o ≡ false → held_by_head b o ≡ false
            held_none None s = refl
            held_none (Some n) s = absurd (false≢true (sym s))
        by (Some y) f =
            let v = own_node x e no in
            let q = (is.sights p).same_props x y v.0 e f v.1 in
            let l = (laws x y e f).props hold in
            by_test _ _ (
              λ s. (let w = q.0 s in either _ _ (v.5.0 w.1) (l.0 w.0)),
              λ s. (let w = neither (effects marks p).props_changed (props_changed_by_head b (tree h p)) s in q.1 (l.1 w.1, v.5.1 w.0)),
            )

    base_node : is_some (tree b p) ≡ true → (x : NodeRev) × (base p ≡ Some x)
    base_node some = by (base p) refl (base_some ∙ some)
      where
        by : (o : Option NodeRev) → base p ≡ o → is_some o ≡ true → (x : NodeRev) × (base p ≡ Some x)
        by None e s = absurd (false≢true s)
        by (Some x) e s = (x, e)

    pub agrees : Agrees b (effects marks p) (tree b p) (tree h p) (t p) (see p)
    agrees = record {
      in_base = (is.sights p).in_base ∙ base_some;
      in_head = (is.sights p).in_head ∙ head_some;
      in_own = (is.sights p).in_own ∙ is.paths.there p;
      head_same = λ some. let x = base_node some in head_test x.0 x.1;
      own_same = λ some. let x = base_node some in own_test x.0 x.1;
      both_go = λ some. let x = base_node some in goes_test x.0 x.1;
      same_props = λ k. let x = base_node ((and_parts _ _ ((and_parts _ _ ((and_parts _ _ k).1)).0)).0) in props_test x.0 x.1 k;
    }
