-- The merge by ids stops at the first clash, and what it leaves is a draft for the landing.
use Rattle.fsfs_revision.proofs.Revisions.{shown_revisions}
use Rattle.std.proofs.Common.{◌≡◌, ◌≤◌, ◌⊎◌, ℕ, not, Bool, true, false, ◌&&◌, List, refl, sym, ap, subst, ◌∙◌, inl, inr, Option, Some, None, arith}
use Rattle.std.specs.Prelude.{is_some, if◌then◌else◌, min, ◌+◌, ◌-◌, ◌^◌}
use mathlib.Core.Bool.{false≢true}
use Rattle.fsfs_model.specs.Flat.Edits.{is_dir_node}
use Rattle.fsfs_base.specs.Paths.{Path, covers, is_above}
use Rattle.fsfs_tree.specs.Nodes.{Node, TreeFunction}
use Rattle.fsfs_model.specs.declared.flat.mark.What.TheVariants.{Gone}
use Rattle.fsfs_model.specs.declared.flat.mark.Mark.{Mark}
use Rattle.fsfs_model.specs.declared.flat.mark.Effects.{Effects}
use Rattle.fsfs_model.specs.Flat.Marks.{effects, is_make}
use Rattle.fsfs_model.specs.Flat.Landing.{touched_by_head, props_changed_by_head, goes_on, clashes_at, reached, NoClash, land}
use Rattle.fsfs_revision.specs.Told.{RevisionBytes}
use Rattle.fsfs_noderev.specs.declared.rep.Contents.TheVariants as contents
use Rattle.fsfs_noderev.specs.declared.node_rev.NodeRev.{NodeRev}
use Rattle.fsfs_base.proofs.PathLemmas.{covers-refl}
use Rattle.fsfs_model.proofs.MergeWalk.{Premises, reached_or, goes_gone, touched_in_base, touched_up, gone_by, touched_below}
use Rattle.fsfs_model.proofs.TwoMergesLaw.{premises}
use Rattle.fsfs_draft.proofs.HeadLaw.{shared}
use Rattle.fsfs_merge.specs.Walks.{Sight, merges, is_stopped, stays, down, is_own, merged}
use Rattle.fsfs_merge.specs.Laws.{Agrees, AreSame}
use Rattle.fsfs_draft.specs.OwnSides.{NodesAt, IsSuccessor, IsAnother, IsOwnSide, HasPathsOf}
use Rattle.fsfs_merge.specs.MergeLaws.{IsMerge, is_merged, relinked, landed_nodes, MergeByIds}
use Rattle.fsfs_merge.proofs.Sides.{head_quiet, quiet_touched}
use Rattle.fsfs_merge.proofs.WalkLaw.{merges_all, merges_not, not_is, stops_as, merged_goes, by_marks, same_clash}
use Rattle.fsfs_merge.proofs.MergedLaw.{same_landing, own_here, own_stop, stays_own, stays_head, stays_merged, stays_new, one_of, neither}
use Rattle.fsfs_merge.proofs.SightLaw.{agrees, same_some}
use Rattle.std.proofs.lemmas.Bool.{and_from, and_parts, both_ways, cases_Bool, false_from_ne_true}
use Rattle.fsfs_model.proofs.Tests.{other_false}
use Rattle.fsfs_draft.proofs.HangLaw.{some_same}

-- ---- how the walk comes to a path: through it, or to a path at or above it where it takes one side's

pub data Way (see : Path → Sight) (p : Path) : Type 0 where
  Through : reached (down see) p ≡ true → merges (see p) ≡ true → Way see p
  Stopped : (q : Path) → covers q p ≡ true → reached (down see) q ≡ true → merges (see q) ≡ false → is_merged see p ≡ false → Way see p

pub way : (see : Path → Sight) (p : Path) → Way see p
way see p = elim (reached_or (down see) p) [
  | inl r ↦ elim (cases_Bool (merges (see p))) [
    | inl m ↦ Through r m
    | inr m ↦ Stopped p (covers-refl p) r m ((λ i. r i && m i))
  ]
  | inr e ↦ Stopped e.place e.covered e.comes e.stops (false_from_ne_true _ (λ w. both_ways _ e.stops (Rattle.fsfs_model.proofs.MergeWalk.reached_above (down see) e.place p ((and_parts _ _ w).0) e.covered e.below)))
]

-- the entry that the walk takes where it stops
pub data Taken (b : ℕ) (d : Effects) (a s t : Option Node) (stay : Bool) : Type 0 where
  -- the base lacks it, and one side has it
  FromOwn : is_some a ≡ false → is_some s ≡ false → stay ≡ true → Taken b d a s t stay
  FromHead : is_some a ≡ false → is_some t ≡ false → stay ≡ false → Taken b d a s t stay
  -- the head did not touch it; no mark touches it
  HeadSame : is_some a ≡ true → touched_by_head b s ≡ false → stay ≡ true → Taken b d a s t stay
  OwnSame : is_some a ≡ true → d.touched ≡ false → stay ≡ false → Taken b d a s t stay

taken : (b : ℕ) (d : Effects) (a s t : Option Node) (see : Sight) → Agrees b d a s t see → merges see ≡ false → clashes_at b d a s t ≡ false → Taken b d a s t (stays see)
taken b d a s t see agree m clear = elim (cases_Bool (is_some a)) [
  | inl some ↦ old some
  | inr none ↦ elim (cases_Bool (is_some t)) [
    | inl has ↦ FromOwn none (false_from_ne_true _ (λ k. both_ways _ (none_clear a none clear) (and_from _ _ k has))) (stays_new see true (agree.in_base ∙ none) (agree.in_own ∙ has))
    | inr lacks ↦ FromHead none lacks (stays_new see false (agree.in_base ∙ none) (agree.in_own ∙ lacks))
  ]
]
  where
    none_clear : (o : Option Node) → is_some o ≡ false → clashes_at b d o s t ≡ false → (is_some s && is_some t) ≡ false
    none_clear None e c = c
    none_clear (Some x) e c = absurd (false≢true (sym e))

    old : is_some a ≡ true → Taken b d a s t (stays see)
    old some =
        let inside : see.in_base ≡ true = agree.in_base ∙ some in
        let stop : is_stopped see ≡ false = stops_as b d s t see a agree ∙ clear in
        let tests : (not see.head_same && not see.own_same && not (see.goes_on && see.same_props)) ≡ false
        = subst (λ (x : Bool). (if x then not see.head_same && not see.own_same && not (see.goes_on && see.same_props) else see.in_head && see.in_own) ≡ false) inside stop in
        let which : (see.head_same ≡ true) ⊎ (see.own_same ≡ true)
        = elim (merges_not see.head_same see.own_same see.goes_on (subst (λ (x : Bool). (x && not see.head_same && not see.own_same && see.goes_on) ≡ false) inside m)) [
          | inl hs ↦ inl hs
          | inr (inl os) ↦ inr os
          | inr (inr g) ↦ one_of see.head_same see.own_same see.goes_on see.same_props tests g
        ] in
        elim which [
          | inl hs ↦ HeadSame some (not_is _ _ (agree.head_same some) hs) (stays_own see inside hs)
          | inr os ↦ elim (cases_Bool see.head_same) [
            | inl hs ↦ HeadSame some (not_is _ _ (agree.head_same some) hs) (stays_own see inside hs)
            | inr other ↦ OwnSame some (not_is _ _ (agree.own_same some) os) (stays_head see inside other os)
          ]
        ]

module _ (look : RevisionBytes) (top : ℕ) (tree : ℕ → TreeFunction) (b h : ℕ) (t : TreeFunction) (marks : List Mark) (base head own : NodesAt) (see : Path → Sight)
    (is : IsMerge look top tree b h t marks base head own see) where
  pub clash_by_ids : (p : Path) → Rattle.fsfs_merge.specs.Walks.clashes_by_ids see p ≡ Rattle.fsfs_model.specs.Flat.Landing.is_clash b (tree b) (tree h) t marks p
  clash_by_ids = same_clash tree top b h t marks see (shown_revisions look top tree is.shows) is.transaction is.order is.within (λ p r. agrees look top tree b h t marks base head own see is p r)

  module _ (n : ℕ) (clear : NoClash b (tree b) (tree h) t marks) where
    pub pre : Premises b (tree b) (tree h) t marks
    pre = premises tree top b h t marks (shown_revisions look top tree is.shows) (Rattle.fsfs_merge.proofs.Sides.own tree top b h t marks (shown_revisions look top tree is.shows) is.transaction is.order is.within).sound is.order is.within clear

    pub by_walk : (q : Path) → reached (down see) q ≡ true → reached (λ q. goes_on b (effects marks q) (tree b q) (tree h q)) q ≡ true
    by_walk q r = by_marks tree top b h t marks see (shown_revisions look top tree is.shows) is.transaction is.order is.within (λ p r. agrees look top tree b h t marks base head own see is p r) q r

    pub agree_at : (q : Path) → reached (down see) q ≡ true → Agrees b (effects marks q) (tree b q) (tree h q) (t q) (see q)
    agree_at q r = agrees look top tree b h t marks base head own see is q (by_walk q r)

    pub taken_at : (q : Path) → reached (down see) q ≡ true → merges (see q) ≡ false → Taken b (effects marks q) (tree b q) (tree h q) (t q) (stays (see q))
    taken_at q r m = taken b (effects marks q) (tree b q) (tree h q) (t q) (see q) (agree_at q r) m (other_false _ _ (clear q) (by_walk q r))

    b_top : b ≤ top
    b_top = let x = is.order in let y = is.within in omega arith

    pub base_some : (p : Path) → is_some (base p) ≡ is_some (tree b p)
    base_some = same_some look b (tree b) (is.shows.each b b_top) base is.base_nodes

    pub head_some : (p : Path) → is_some (head p) ≡ is_some (tree h p)
    head_some = same_some look h (tree h) (is.shows.each h is.within) head is.head_nodes

    -- what the head did not touch is the base's node-revision
    pub base_of : (q p : Path) (y : NodeRev) → covers q p ≡ true → touched_by_head b (tree h q) ≡ false → head p ≡ Some y → base p ≡ Some y
    base_of q p y c un e =
        let same = head_quiet tree top b h t marks (shown_revisions look top tree is.shows) is.transaction is.order is.within q p c un in
        let some : is_some (tree b p) ≡ true = sym (ap is_some same) ∙ sym (head_some p) ∙ ap is_some e in
        let here = quiet_touched tree top b h t marks (shown_revisions look top tree is.shows) is.transaction is.order is.within q p c un some in
        (is.base_nodes.each p y).1 (shared look top tree is.shows b h is.order is.within p y ((is.head_nodes.each p y).0 e) here)

    -- what the draft has after the merge
    pub keep : (p : Path) → is_own see p ≡ true → is_merged see p ≡ false → landed_nodes see head own p ≡ own p
    keep p o m = λ i. if o i then relinked (m i) (head p) (own p) else head p

    pub take_head : (p : Path) → is_own see p ≡ false → landed_nodes see head own p ≡ head p
    take_head p o = λ i. if o i then relinked (is_merged see p) (head p) (own p) else head p

    pub link : (p : Path) (y v : NodeRev) → is_own see p ≡ true → is_merged see p ≡ true → head p ≡ Some y → own p ≡ Some v
        → landed_nodes see head own p ≡ Some (record v { predecessor = Some y.id; count = min (y.count + 1) (2 ^ 64 - 1); text = Some contents.Own; is_fresh_txn_root = false })
    link p y v o m e f = λ i. if o i then relinked (m i) (e i) (f i) else head p

    pub own_of : (p q : Path) (c : covers q p ≡ true) (r : reached (down see) q ≡ true) (m : merges (see q) ≡ false) (x : Bool) → stays (see q) ≡ x → is_own see p ≡ x
    own_of p q c r m x s = own_stop see q p c r m ∙ s

    none_has : {A : Type 0} (o : Option A) (x : A) → o ≡ Some x → is_some o ≡ false → ⊥
    none_has o x e f = both_ways _ f (ap is_some e)

    -- a path with an outer Gone at or above, and none above: it is touched
    pub gone_here : (p : Path) → (effects marks p).deleted ≡ true → ((q : Path) → is_above q p ≡ true → (effects marks q).deleted ≡ false) → (effects marks p).touched ≡ true
    gone_here p del above =
        let g = gone_by marks p del in
        elim (cases_Bool (covers p g.0.path)) [
          | inl back ↦ touched_below marks g.0 p g.1 (not_make g.0.what g.2) back
          | inr apart ↦ absurd (both_ways _ (above g.0.path (and_from _ _ g.3 (ap not apart))) (Rattle.fsfs_model.proofs.MergeWalk.gone_from marks g.0 g.0.path g.1 g.2 (covers-refl g.0.path)))
        ]
      where
        not_make : (k : Rattle.fsfs_model.specs.declared.flat.mark.What.What) → k ≡ Gone → is_make k ≡ true → ⊥
        not_make k e f = false≢true (sym (ap is_make e) ∙ f)

    -- ---- the draft over the head

    pub side : IsOwnSide head marks (landed_nodes see head own)
    side = record { untouched = untouched; touched = touched; another = another }
      where
        dirs_merged : (p : Path) → reached (down see) p ≡ true → merges (see p) ≡ true → (goes_on b (effects marks p) (tree b p) (tree h p) ≡ true) × (is_dir_node (tree b p) ≡ true)
        dirs_merged p r m = merged_goes b (effects marks p) (tree h p) (t p) (see p) (tree b p) (agree_at p r) m

        own_touch : (p : Path) → reached (down see) p ≡ true → merges (see p) ≡ true → (effects marks p).touched ≡ true
        own_touch p r m =
            let k = merges_all (see p).in_base (see p).head_same (see p).own_same (see p).goes_on m in
            let a = agree_at p r in
            not_not (see p).own_same (effects marks p).touched (a.own_same (sym a.in_base ∙ k.0)) k.2
          where
            not_not : (x y : Bool) → x ≡ not y → x ≡ false → y ≡ true
            not_not x true e f = refl
            not_not x false e f = absurd (false≢true (sym f ∙ e))

        untouched : (p : Path) (y : NodeRev) → head p ≡ Some y → (effects marks p).deleted ≡ false → (effects marks p).touched ≡ false → landed_nodes see head own p ≡ Some y
        untouched p y e stay un = elim (way see p) [
          | Through r m ↦ absurd (both_ways _ un (own_touch p r m))
          | Stopped q c r m nm ↦ elim (taken_at q r m) [
            | FromOwn none lacks s ↦ absurd (both_ways _ lacks (pre.closed_head q p c (sym (head_some p) ∙ ap is_some e)))
            | FromHead none lacks s ↦ take_head p (own_of p q c r m false s) ∙ e
            | HeadSame some quiet s ↦ keep p (own_of p q c r m true s) nm ∙ is.side.untouched p y (base_of q p y c quiet e) stay un
            | OwnSame some quiet s ↦ take_head p (own_of p q c r m false s) ∙ e
          ]
        ]

        touched : (p : Path) (y : NodeRev) → head p ≡ Some y → (effects marks p).deleted ≡ false → (effects marks p).touched ≡ true
            → (v : NodeRev) × (landed_nodes see head own p ≡ Some v) × IsSuccessor y v (effects marks p).props_changed
        touched p y e stay w = elim (way see p) [
          | Through r m ↦ merged_one r m
          | Stopped q c r m nm ↦ elim (taken_at q r m) [
            | FromOwn none lacks s ↦ absurd (both_ways _ lacks (pre.closed_head q p c (sym (head_some p) ∙ ap is_some e)))
            | FromHead none lacks s ↦ absurd (both_ways _ none (pre.closed_base q p c (touched_in_base b (tree b) (tree h) t marks pre p w)))
            | HeadSame some quiet s ↦ (let v = is.side.touched p y (base_of q p y c quiet e) stay w in (v.0, keep p (own_of p q c r m true s) nm ∙ v.1, v.2))
            | OwnSame some quiet s ↦ absurd (both_ways _ quiet (touched_up marks q p c w))
          ]
        ]
          where
            merged_one : reached (down see) p ≡ true → merges (see p) ≡ true → (v : NodeRev) × (landed_nodes see head own p ≡ Some v) × IsSuccessor y v (effects marks p).props_changed
            merged_one r m =
                let g = dirs_merged p r m in
                let k = merges_all (see p).in_base (see p).head_same (see p).own_same (see p).goes_on m in
                let x = at_base (Rattle.fsfs_model.proofs.MergeWalk.goes_base b (effects marks p) (tree b p) (tree h p) g.0) in
                let go = ((is.sights p).goes_on x.0 x.1).0 k.3 in
                let both = go.4 in
                let same_y : go.0 ≡ y = some_same (head p) go.0 y go.2 e in
                let v = is.side.touched p x.0 x.1 stay w in
                let stop : is_stopped (see p) ≡ false = stops_as b (effects marks p) (tree h p) (t p) (see p) (tree b p) (agree_at p r) ∙ other_false _ _ (clear p) (by_walk p r) in
                let tests : not (see p).same_props ≡ false = (λ i. if (sym k.0) i then not ((sym k.1) i) && not ((sym k.2) i) && not ((sym k.3) i && (see p).same_props) else (see p).in_head && (see p).in_own) ∙ stop in
                let props = ((is.sights p).same_props x.0 y v.0 x.1 e v.1).0 (un_not (see p).same_props tests) in
                let none = neither (effects marks p).props_changed (props_changed_by_head b (tree h p)) (sym ((agree_at p r).same_props (and_from _ _ g.1 g.0)) ∙ un_not (see p).same_props tests) in (
                  record v.0 { predecessor = Some y.id; count = min (y.count + 1) (2 ^ 64 - 1); text = Some contents.Own; is_fresh_txn_root = false },
                  link p y v.0 (own_here see p r ∙ stays_merged (see p) k.0 k.1 k.2 k.3) ((λ i. r i && m i)) e v.1,
                  record {
                    own = v.2.own;
                    node = v.2.node ∙ both.head_node ∙ ap (λ (z : NodeRev). z.id.node) same_y;
                    kind = v.2.kind ∙ both.base_dir ∙ sym both.head_dir ∙ ap (λ (z : NodeRev). z.kind) same_y;
                    predecessor = refl;
                    no_copy = v.2.no_copy;
                    root = v.2.root;
                    props = sym props.1 ∙ props.0 ∙ ap (λ (c : Bool). if c then Some contents.Own else y.props) (sym none.0);
                  },
                )
              where
                un_not : (x : Bool) → not x ≡ false → x ≡ true
                un_not true e = refl
                un_not false e = absurd (false≢true (sym e))

                at_base : is_some (tree b p) ≡ true → (x : NodeRev) × (base p ≡ Some x)
                at_base some = by (base p) refl (base_some p ∙ some)
                  where
                    by : (o : Option NodeRev) → base p ≡ o → is_some o ≡ true → (x : NodeRev) × (base p ≡ Some x)
                    by None f s = absurd (false≢true s)
                    by (Some x) f s = (x, f)

        another : (p : Path) (y v : NodeRev) → head p ≡ Some y → (effects marks p).deleted ≡ true → ((q : Path) → is_above q p ≡ true → (effects marks q).deleted ≡ false)
            → landed_nodes see head own p ≡ Some v → IsAnother y v
        another p y v e del above f = elim (way see p) [
          | Through r m ↦ absurd (both_ways _ (goes_gone b (effects marks p) (tree b p) (tree h p) (dirs_merged p r m).0) del)
          | Stopped q c r m nm ↦ elim (taken_at q r m) [
            | FromOwn none lacks s ↦ absurd (both_ways _ lacks (pre.closed_head q p c (sym (head_some p) ∙ ap is_some e)))
            | FromHead none lacks s ↦ absurd (both_ways _ none (pre.closed_base q p c (touched_in_base b (tree b) (tree h) t marks pre p (gone_here p del above))))
            | HeadSame some quiet s ↦ is.side.another p y v (base_of q p y c quiet e) del above (sym (keep p (own_of p q c r m true s) nm) ∙ f)
            | OwnSame some quiet s ↦ absurd (both_ways _ quiet (touched_up marks q p c (gone_here p del above)))
          ]
        ]

module _ (look : RevisionBytes) (top : ℕ) (tree : ℕ → TreeFunction) (b h n : ℕ) (t : TreeFunction) (marks : List Mark) (base head own : NodesAt) (see : Path → Sight)
    (is : IsMerge look top tree b h t marks base head own see) (clear : NoClash b (tree b) (tree h) t marks) where
  pub landing : (p : Path) → AreSame (merged see (tree h) t p) (land (tree b) (tree h) t marks n p)
  landing = same_landing tree top b h n t marks see (shown_revisions look top tree is.shows) is.transaction (Rattle.fsfs_merge.proofs.Texts.keeps_texts tree top b t marks (shown_revisions look top tree is.shows) is.transaction) is.order is.within (λ p r. agrees look top tree b h t marks base head own see is p r) clear

  same_is : (x y : Option Node) → AreSame x y → is_some x ≡ is_some y
  same_is None None e = refl
  same_is None (Some y) e = absurd e
  same_is (Some x) None e = absurd e
  same_is (Some x) (Some y) e = refl

  linked_some : (m : Bool) (y v : Option NodeRev) → is_some (relinked m y v) ≡ is_some v
  linked_some false y v = refl
  linked_some true None None = refl
  linked_some true (Some y) None = refl
  linked_some true None (Some v) = refl
  linked_some true (Some y) (Some v) = refl

  picked : (o m : Bool) (y v : Option NodeRev) (s u : Option Node) → is_some y ≡ is_some s → is_some v ≡ is_some u → is_some (if o then relinked m y v else y) ≡ is_some (if o then u else s)
  picked true m y v s u e f = linked_some m y v ∙ f
  picked false m y v s u e f = e

  pub paths : (p : Path) → is_some (landed_nodes see head own p) ≡ is_some (land (tree b) (tree h) t marks n p)
  paths p = picked (is_own see p) (is_merged see p) (head p) (own p) (tree h p) (t p) (same_some look h (tree h) (is.shows.each h is.within) head is.head_nodes p) (is.paths.there p) ∙ same_is (merged see (tree h) t p) (land (tree b) (tree h) t marks n p) (landing p)

  pub leaves : IsOwnSide head marks (landed_nodes see head own) × HasPathsOf (land (tree b) (tree h) t marks n) (landed_nodes see head own) × ((p : Path) → AreSame (merged see (tree h) t p) (land (tree b) (tree h) t marks n p))
  leaves = (side look top tree b h t marks base head own see is n clear, record { there = paths }, landing)

pub merging_is_by_ids : MergeByIds
merging_is_by_ids = record {
  clash = λ look top tree b h t marks base head own see is p. clash_by_ids look top tree b h t marks base head own see is p;
  landing = λ look top tree b h n t marks base head own see is clear. leaves look top tree b h n t marks base head own see is clear;
}
