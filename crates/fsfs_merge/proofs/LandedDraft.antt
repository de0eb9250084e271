-- A merge without a clash leaves a draft over the head.
use Rattle.fsfs_revision.proofs.Revisions.{shown_revisions}
use Rattle.std.proofs.Common.{◌≡◌, ◌≤◌, ◌<◌, ◌⊎◌, ℕ, zero, suc, not, Bool, true, false, ◌&&◌, List, [], ◌∷◌, ◌++◌, refl, sym, ap, subst, ◌∙◌, arith, inl, inr}
use Rattle.std.specs.Prelude.{◌≢◌, Ok, Option, Some, None, is_some, min, ◌+◌, ◌-◌, ◌^◌, nat_lt, if◌then◌else◌}
use mathlib.Core.Bool.{false≢true}
use Rattle.fsfs_base.specs.Paths.{PathName, Path, covers}
use Rattle.fsfs_tree.specs.Nodes.{Node, TreeFunction}
use Rattle.fsfs_base.specs.declared.kind.Kind.TheVariants.{Dir}
use Rattle.fsfs_model.specs.declared.flat.mark.Mark.{Mark}
use Rattle.fsfs_model.specs.Flat.Marks.{effects}
use Rattle.fsfs_model.specs.Flat.Landing.{held_by_head, goes_on, reached, touched_by_head, NoClash}
use Rattle.fsfs_revision.specs.Told.{RevisionBytes}
use Rattle.fsfs_noderev.specs.Ids.{part_value}
use Rattle.fsfs_noderev.specs.declared.rep.Contents.TheVariants as contents
use Rattle.fsfs_noderev.specs.declared.node_rev.CopySource.{CopySource}
use Rattle.fsfs_noderev.specs.declared.node_rev.NodeRev.{NodeRev}
use Rattle.fsfs_revision.specs.Shows.Reading.{ChildOf, StandsAt}
use Rattle.fsfs_revision.specs.Shows.Chains.{own_rev, IsPred, copy_root_of}
use Rattle.fsfs_revision.specs.Shows.IdRules.{IsBehind}
use Rattle.fsfs_revision.proofs.OneWalk.{stands_same}
use Rattle.fsfs_base.proofs.PathLemmas.{covers-refl, covers-trans, covers-antisym, covers-longer, covers_front}
use Rattle.fsfs_model.proofs.MergeWalk.{goes_base, goes_gone, reached_above}
use Rattle.fsfs_revision.proofs.Earlier.{stands_of_id, pred_same}
use Rattle.fsfs_merge.specs.declared.sight.Sight.{Sight}
use Rattle.fsfs_merge.specs.Walks.{merges, down, is_own}
use Rattle.fsfs_draft.specs.OwnSides.{NodesAt, in_txn, IsSuccessor, IsOwnSide}
use Rattle.fsfs_merge.specs.MergeLaws.{IsMerge, is_merged, landed_nodes}
use Rattle.fsfs_merge.proofs.WalkLaw.{merges_all, merged_goes}
use Rattle.fsfs_merge.proofs.MergedLaw.{own_here, stays_merged}
use Rattle.fsfs_draft.proofs.Lasting.{lasting}
use Rattle.fsfs_merge.proofs.MergeLaw.{Through, Stopped, way, Taken, FromOwn, FromHead, HeadSame, OwnSame, by_walk, agree_at, taken_at, base_some, head_some, base_of, keep, take_head, link, own_of, side}
use Rattle.fsfs_draft.specs.NodeDrafts.{draft_root, IsOwn, is_new_part, DraftPart, IsDraft}
use Rattle.fsfs_draft.specs.NodeDrafts as drafts
use Rattle.fsfs_draft.proofs.Parents.{parent, child_at, behind_trans}
use Rattle.fsfs_merge.specs.Landed.{MergeKeepsDrafts}
use Rattle.fsfs_merge.proofs.Roots.{BothHold, OneRoot, one_root, back_low, chain_back}
use Rattle.std.proofs.lemmas.Bool.{and_from, and_parts, both_ways, cases_Bool, false_from_ne_true}
use Rattle.fsfs_draft.proofs.HangLaw.{some_same}

-- ---- a path and one name

pub reached_front : (f : Path → Bool) (p : Path) (name : PathName) → reached f (p ++ name ∷ []) ≡ true → (reached f p ≡ true) × (f p ≡ true)
reached_front f [] name r = (refl, (and_parts _ _ r).0)
reached_front f (x ∷ p) name r = let w = reached_front (λ q. f (x ∷ q)) p name ((and_parts _ _ r).1) in (and_from _ _ ((and_parts _ _ r).0) w.0, w.1)

-- a directory of the transaction that goes on from y in place of what it went on from
abbrev pub Linked : NodeRev → NodeRev → NodeRev
Linked v y = record v { predecessor = Some y.id; count = min (y.count + 1) (2 ^ 64 - 1); text = Some contents.Own; is_fresh_txn_root = false }

module _ (look : RevisionBytes) (top : ℕ) (tree : ℕ → TreeFunction) (b h : ℕ) (t : TreeFunction) (marks : List Mark) (base head own : NodesAt) (see : Path → Sight)
    (is : IsMerge look top tree b h t marks base head own see) (clear : NoClash b (tree b) (tree h) t marks) (draft : IsDraft look top b own) where
  abbrev pub now : NodesAt
  now = landed_nodes see head own

  -- ---- how the walk comes to a path and to what is in it

  pub data Step (p : Path) (name : PathName) : Type 0 where
    -- both are merged
    Both : reached (down see) (p ++ name ∷ []) ≡ true → merges (see (p ++ name ∷ [])) ≡ true → Step p name
    -- the directory is, and its entry is taken from one side
    Entry : reached (down see) (p ++ name ∷ []) ≡ true → merges (see (p ++ name ∷ [])) ≡ false → Step p name
    -- both are below or at a path where one side is taken
    Under : (q : Path) → covers q p ≡ true → reached (down see) q ≡ true → merges (see q) ≡ false → Step p name

  pub step : (p : Path) (name : PathName) → Step p name
  step p name = elim (way see (p ++ name ∷ [])) [
    | Through r m ↦ Both r m
    | Stopped q c r m n ↦ elim (covers_front q p name c) [
      | inl up ↦ Under q up r m
      | inr e ↦ Entry (subst (λ (x : Path). reached (down see) x ≡ true) e r) (subst (λ (x : Path). merges (see x) ≡ false) e m)
    ]
  ]

  pub not_merged : (q p : Path) → covers q p ≡ true → merges (see q) ≡ false → is_merged see p ≡ false
  not_merged q p c m = false_from_ne_true _ (λ w. elim (cases_Bool (covers p q)) [
    | inl back ↦ both_ways _ (subst (λ (x : Path). merges (see x) ≡ false) (covers-antisym q p c back) m) ((and_parts _ _ w).1)
    | inr apart ↦ both_ways _ m (reached_above (down see) q p ((and_parts _ _ w).0) c apart)
  ])

  -- ---- a directory that is merged

  pub record Merged (p : Path) : Type 0 where
    pub x : NodeRev
    pub y : NodeRev
    pub v : NodeRev
    pub base_is : base p ≡ Some x
    pub head_is : head p ≡ Some y
    pub own_is : own p ≡ Some v
    pub now_is : now p ≡ Some (Linked v y)
    pub next : IsSuccessor x v (effects marks p).props_changed
    -- and it is one of the head's node-revision
    pub linked : IsSuccessor y (Linked v y) (effects marks p).props_changed
    pub dir : y.kind ≡ Dir
    pub differs : x.id ≢ y.id
    pub same_node : x.id.node ≡ y.id.node
    pub goes : goes_on b (effects marks p) (tree b p) (tree h p) ≡ true

  del_false : (p : Path) → goes_on b (effects marks p) (tree b p) (tree h p) ≡ true → (effects marks p).deleted ≡ false
  del_false p g = goes_gone b (effects marks p) (tree b p) (tree h p) g

  not_not : (x y : Bool) → x ≡ not y → x ≡ false → y ≡ true
  not_not x true e f = refl
  not_not x false e f = absurd (false≢true (sym f ∙ e))

  now_side : IsOwnSide head marks now
  now_side = side look top tree b h t marks base head own see is 0 clear

  pub merged : (p : Path) → reached (down see) p ≡ true → merges (see p) ≡ true → Merged p
  merged p r m =
      let a = agree_at look top tree b h t marks base head own see is 0 clear p r in
      let g = merged_goes b (effects marks p) (tree h p) (t p) (see p) (tree b p) a m in
      let k = merges_all (see p).in_base (see p).head_same (see p).own_same (see p).goes_on m in
      let some : is_some (base p) ≡ true = base_some look top tree b h t marks base head own see is 0 clear p ∙ goes_base b (effects marks p) (tree b p) (tree h p) g.0 in
      at_base (base p) refl some g.0 k.1 k.3 (not_not (see p).own_same (effects marks p).touched (a.own_same (sym a.in_base ∙ k.0)) k.2) (own_here see p r ∙ stays_merged (see p) k.0 k.1 k.2 k.3)
    where
      at_base : (o : Option NodeRev) → base p ≡ o → is_some o ≡ true → goes_on b (effects marks p) (tree b p) (tree h p) ≡ true → (see p).head_same ≡ false → (see p).goes_on ≡ true → (effects marks p).touched ≡ true → is_own see p ≡ true → Merged p
      at_base None e s g hs go w o = absurd (false≢true s)
      at_base (Some x) e s g hs go w o =
          let q = ((is.sights p).goes_on x e).0 go in
          let del = del_false p g in
          let n = is.side.touched p x e del w in
          let same = some_same (own p) n.0 q.1 n.1 q.3 in
          let l = now_side.touched p q.0 q.2 del w in
          let here = link look top tree b h t marks base head own see is 0 clear p q.0 q.1 o (λ i. r i && m i) q.2 q.3 in
          let one = some_same (now p) l.0 (Linked q.1 q.0) l.1 here in
          record {
            x = x;
            y = q.0;
            v = q.1;
            base_is = e;
            head_is = q.2;
            own_is = q.3;
            now_is = here;
            next = subst (λ (z : NodeRev). IsSuccessor x z (effects marks p).props_changed) same n.2;
            linked = subst (λ (z : NodeRev). IsSuccessor q.0 z (effects marks p).props_changed) one l.2;
            dir = q.4.head_dir;
            differs = λ i. both_ways _ hs (((is.sights p).head_same x e).1 (q.0, q.2, i));
            same_node = q.4.head_node;
            goes = g;
          }

  -- ---- where what stands at a path now comes from

  pub data Now (p : Path) (v : NodeRev) : Type 0 where
    Link : (e : Merged p) → reached (down see) p ≡ true → v ≡ Linked e.v e.y → Now p v
    Own : own p ≡ Some v → Now p v
    Head : head p ≡ Some v → Now p v

  pub now_at : (p : Path) (v : NodeRev) → now p ≡ Some v → Now p v
  now_at p v e = elim (way see p) [
    | Through r m ↦ (let d = merged p r m in Link d r (some_same (now p) v (Linked d.v d.y) e d.now_is))
    | Stopped q c r m n ↦ elim (cases_Bool (is_own see p)) [
      | inl o ↦ Own (sym (keep look top tree b h t marks base head own see is 0 clear p o n) ∙ e)
      | inr o ↦ Head (sym (take_head look top tree b h t marks base head own see is 0 clear p o) ∙ e)
    ]
  ]

  data From (p : Path) (name : PathName) (v : NodeRev) : Type 0 where
    BothMerged : Merged p → reached (down see) p ≡ true → (e : Merged (p ++ name ∷ [])) → reached (down see) (p ++ name ∷ []) ≡ true → v ≡ Linked e.v e.y → From p name v
    OwnNew : Merged p → own (p ++ name ∷ []) ≡ Some v → base (p ++ name ∷ []) ≡ None → From p name v
    OwnKept : Merged p → own (p ++ name ∷ []) ≡ Some v → (x : NodeRev) → base (p ++ name ∷ []) ≡ Some x → head (p ++ name ∷ []) ≡ Some x → From p name v
    HeadIn : Merged p → head (p ++ name ∷ []) ≡ Some v → From p name v
    OwnBelow : now p ≡ own p → own (p ++ name ∷ []) ≡ Some v → From p name v
    HeadBelow : now p ≡ head p → head (p ++ name ∷ []) ≡ Some v → From p name v

  from : (p : Path) (name : PathName) (v : NodeRev) → now (p ++ name ∷ []) ≡ Some v → From p name v
  from p name v e = elim (step p name) [
    | Both r m ↦ (let f = reached_front (down see) p name r in
        let d = merged (p ++ name ∷ []) r m in
        BothMerged (merged p f.0 f.1) f.0 d r (some_same (now (p ++ name ∷ [])) v (Linked d.v d.y) e d.now_is))
    | Entry r m ↦ (let f = reached_front (down see) p name r in entry (merged p f.0 f.1) r m (taken_at look top tree b h t marks base head own see is 0 clear (p ++ name ∷ []) r m))
    | Under q c r m ↦ elim (cases_Bool (is_own see q)) [
      | inl o ↦ (let s : Rattle.fsfs_merge.specs.Walks.stays (see q) ≡ true = sym (own_here see q r) ∙ o in
          OwnBelow (keep look top tree b h t marks base head own see is 0 clear p (own_of look top tree b h t marks base head own see is 0 clear p q c r m true s) (not_merged q p c m))
          (sym (keep look top tree b h t marks base head own see is 0 clear (p ++ name ∷ []) (own_of look top tree b h t marks base head own see is 0 clear (p ++ name ∷ []) q (covers-trans q p (p ++ name ∷ []) c (covers-longer p (name ∷ []))) r m true s)
          (not_merged q (p ++ name ∷ []) (covers-trans q p (p ++ name ∷ []) c (covers-longer p (name ∷ []))) m)) ∙ e))
      | inr o ↦ (let s : Rattle.fsfs_merge.specs.Walks.stays (see q) ≡ false = sym (own_here see q r) ∙ o in
          HeadBelow (take_head look top tree b h t marks base head own see is 0 clear p (own_of look top tree b h t marks base head own see is 0 clear p q c r m false s))
          (sym (take_head look top tree b h t marks base head own see is 0 clear (p ++ name ∷ []) (own_of look top tree b h t marks base head own see is 0 clear (p ++ name ∷ []) q (covers-trans q p (p ++ name ∷ []) c (covers-longer p (name ∷ []))) r m false s)) ∙ e))
    ]
  ]
    where
      owns : reached (down see) (p ++ name ∷ []) ≡ true → merges (see (p ++ name ∷ [])) ≡ false → Rattle.fsfs_merge.specs.Walks.stays (see (p ++ name ∷ [])) ≡ true → own (p ++ name ∷ []) ≡ Some v
      owns r m s =
          sym (keep look top tree b h t marks base head own see is 0 clear (p ++ name ∷ []) (own_here see (p ++ name ∷ []) r ∙ s) (not_merged (p ++ name ∷ []) (p ++ name ∷ []) (covers-refl (p ++ name ∷ [])) m)) ∙ e

      heads : reached (down see) (p ++ name ∷ []) ≡ true → Rattle.fsfs_merge.specs.Walks.stays (see (p ++ name ∷ [])) ≡ false → head (p ++ name ∷ []) ≡ Some v
      heads r s = sym (take_head look top tree b h t marks base head own see is 0 clear (p ++ name ∷ []) (own_here see (p ++ name ∷ []) r ∙ s)) ∙ e

      none_of : (o : Option NodeRev) → is_some o ≡ false → o ≡ None
      none_of None s = refl
      none_of (Some x) s = absurd (false≢true (sym s))

      some_of : (o : Option NodeRev) → is_some o ≡ true → (x : NodeRev) × (o ≡ Some x)
      some_of None s = absurd (false≢true s)
      some_of (Some x) s = (x, refl)

      entry : Merged p → reached (down see) (p ++ name ∷ []) ≡ true → merges (see (p ++ name ∷ [])) ≡ false
          → Taken b (effects marks (p ++ name ∷ [])) (tree b (p ++ name ∷ [])) (tree h (p ++ name ∷ [])) (t (p ++ name ∷ [])) (Rattle.fsfs_merge.specs.Walks.stays (see (p ++ name ∷ []))) → From p name v
      entry d r m (FromOwn none lacks s) = OwnNew d (owns r m s) (none_of (base (p ++ name ∷ [])) (base_some look top tree b h t marks base head own see is 0 clear (p ++ name ∷ []) ∙ none))
      entry d r m (FromHead none lacks s) = HeadIn d (heads r s)
      entry d r m (OwnSame some quiet s) = HeadIn d (heads r s)
      entry d r m (HeadSame some quiet s) =
          let q = p ++ name ∷ [] in
          let same = Rattle.fsfs_merge.proofs.Sides.head_quiet tree top b h t marks (shown_revisions look top tree is.shows) is.transaction is.order is.within (p ++ name ∷ []) (p ++ name ∷ []) (covers-refl (p ++ name ∷ [])) quiet in
          let y = some_of (head (p ++ name ∷ [])) (head_some look top tree b h t marks base head own see is 0 clear (p ++ name ∷ []) ∙ ap is_some same ∙ some) in
          OwnKept d (owns r m s) y.0 (base_of look top tree b h t marks base head own see is 0 clear (p ++ name ∷ []) (p ++ name ∷ []) y.0 (covers-refl (p ++ name ∷ [])) quiet y.1) y.1

  -- ---- what that says

  at_head : (p : Path) (v : NodeRev) → head p ≡ Some v → StandsAt look h p v
  at_head p v e = (is.head_nodes.each p v).0 e

  at_base' : (p : Path) (v : NodeRev) → base p ≡ Some v → StandsAt look b p v
  at_base' p v e = (is.base_nodes.each p v).0 e

  not_own : (p : Path) (v : NodeRev) → head p ≡ Some v → in_txn v.id.place ≡ false
  not_own p v e = (lasting look h p v (at_head p v e)).place

  pred_y : (p : Path) (d : Merged p) (dir : NodeRev) → now p ≡ Some dir → IsPred look dir d.y
  pred_y p d dir e = let same = some_same (now p) dir (Linked d.v d.y) e d.now_is in (d.y.id, ap (λ (z : NodeRev). z.predecessor) same, stands_of_id look h p d.y (at_head p d.y d.head_is))

  pred_x : (p : Path) (d : Merged p) → IsPred look d.v d.x
  pred_x p d = (d.x.id, d.next.predecessor, stands_of_id look b p d.x (at_base' p d.x d.base_is))

  -- a child of the base's directory stands in the base
  in_base : (p : Path) (name : PathName) (d : Merged p) (w : NodeRev) → ChildOf look d.x name (Ok (Some w)) → base (p ++ name ∷ []) ≡ Some w
  in_base p name d w child =
      (is.base_nodes.each (p ++ name ∷ []) w).1 (Rattle.fsfs_revision.proofs.Walks.child_stands look b d.x w p name (at_base' p d.x d.base_is) kind child)
    where
      kind : d.x.kind ≡ Dir
      kind = sym d.next.kind ∙ d.linked.kind ∙ d.dir

  linked_root : (n : ℕ) (v y : NodeRev) → draft_root n (Linked v y) ≡ draft_root n v
  linked_root n v y = by v.copy_root
    where
      by : (o : Option Rattle.fsfs_noderev.specs.declared.node_rev.CopyRoot.CopyRoot) → drafts.root_in n (Linked v y) o ≡ drafts.root_in n v o
      by None = refl
      by (Some root) = refl

  dir_root : (p : Path) (d : Merged p) (dir : NodeRev) → now p ≡ Some dir → (n : ℕ) → draft_root n dir ≡ draft_root n d.v
  dir_root p d dir e n = ap (draft_root n) (some_same (now p) dir (Linked d.v d.y) e d.now_is) ∙ linked_root n d.v d.y

  dir_copy : (p : Path) (d : Merged p) (dir : NodeRev) → now p ≡ Some dir → dir.id.copy ≡ d.v.id.copy
  dir_copy p d dir e = ap (λ (z : NodeRev). z.id.copy) (some_same (now p) dir (Linked d.v d.y) e d.now_is)

  -- a copy of the draft now was one before
  was_copy : (p : Path) (c : NodeRev) (from : CopySource) → now p ≡ Some c → IsOwn c → c.copy_from ≡ Some from → own p ≡ Some c
  was_copy p c from e mine copy = by (now_at p c e)
    where
      by : Now p c → own p ≡ Some c
      by (Own f) = f
      by (Head f) = absurd (both_ways _ (not_own p c f) mine)
      by (Link d r same) = absurd (let g = sym copy ∙ ap (λ (z : NodeRev). z.copy_from) same ∙ d.next.no_copy in cc)

  was_made : (p : Path) (v : NodeRev) → now p ≡ Some v → IsOwn v → v.predecessor ≡ None → own p ≡ Some v
  was_made p v e mine none = by (now_at p v e)
    where
      by : Now p v → own p ≡ Some v
      by (Own f) = f
      by (Head f) = absurd (both_ways _ (not_own p v f) mine)
      by (Link d r same) = absurd (let g = sym none ∙ ap (λ (z : NodeRev). z.predecessor) same in cc)

  -- ---- both hold what the walk goes through

  going : (p : Path) → reached (down see) p ≡ true → reached (λ q. goes_on b (effects marks q) (tree b q) (tree h q)) p ≡ true
  going p r = by_walk look top tree b h t marks base head own see is 0 clear p r

  hold_all : (p : Path) → reached (down see) p ≡ true → Merged p → (q : Path) → covers q p ≡ true → BothHold look top tree b h marks base own is.shows is.order is.within is.base_nodes is.side draft q
  hold_all p r d q c = elim (cases_Bool (covers p q)) [
    | inl back ↦ by (subst (λ (x : Path). goes_on b (effects marks x) (tree b x) (tree h x) ≡ true) (sym (covers-antisym q p c back)) d.goes)
    | inr apart ↦ by (reached_above (λ q. goes_on b (effects marks q) (tree b q) (tree h q)) q p (going p r) c apart)
  ]
    where
      by : goes_on b (effects marks q) (tree b q) (tree h q) ≡ true → BothHold look top tree b h marks base own is.shows is.order is.within is.base_nodes is.side draft q
      by g = record { head = (and_parts (is_some (tree b q) && not (effects marks q).deleted) (held_by_head b (tree h q)) g).1; kept = goes_gone b (effects marks q) (tree b q) (tree h q) g }

  root_at : (p : Path) → reached (down see) p ≡ true → (d : Merged p) → OneRoot look top tree b h marks base own is.shows is.order is.within is.base_nodes is.side draft p
  root_at p r d = one_root look top tree b h marks base own is.shows is.order is.within is.base_nodes is.side draft p d.y (at_head p d.y d.head_is) (hold_all p r d)

  held : (p : Path) (d : Merged p) → held_by_head b (tree h p) ≡ true
  held p d = (and_parts (is_some (tree b p) && not (effects marks p).deleted) (held_by_head b (tree h p)) d.goes).1

  gap : (k : ℕ) × (h ≡ k + b)
  gap = by is.order
    where
      by : b ≤ h → (k : ℕ) × (h ≡ k + b)
      by le = (h - b, omega arith)

  -- the head changed a merged directory
  newer : (p : Path) (d : Merged p) → b < own_rev d.y
  newer p d = by (low_or b (own_rev d.y))
    where
      low_or : (k m : ℕ) → (m ≤ k) ⊎ (k < m)
      low_or k m = grind arith

      by : (own_rev d.y ≤ b) ⊎ (b < own_rev d.y) → b < own_rev d.y
      by (inr w) = w
      by (inl low) =
          let g = gap in
          let was = back_low look top tree b h marks base own is.shows is.order is.within is.base_nodes is.side draft p (held p d) d.y (at_head p d.y d.head_is) g.0 h d.y g.1 (omega arith) (at_head p d.y d.head_is) low in
          absurd (d.differs (ap (λ (z : NodeRev). z.id) (stands_same look b p d.x d.y (at_base' p d.x d.base_is) was)))

  behind : (p : Path) (d : Merged p) → IsBehind look d.y d.x
  behind p d =
      let g = gap in
      by (chain_back look top tree b h marks base own is.shows is.order is.within is.base_nodes is.side draft p (held p d) d.y (at_head p d.y d.head_is) d.x (at_base' p d.x d.base_is) g.0 h d.y g.1 (omega arith) (at_head p d.y d.head_is))
    where
      by : (d.y ≡ d.x) ⊎ IsBehind look d.y d.x → IsBehind look d.y d.x
      by (inr w) = w
      by (inl same) = absurd (d.differs (ap (λ (z : NodeRev). z.id) (sym same)))

  -- the copy part, in the draft as it is now
  apart_now : (c : NodeRev) → ((p : Path) (k : NodeRev) (from : CopySource) → own p ≡ Some k → IsOwn k → k.copy_from ≡ Some from → k.id.copy ≢ c.id.copy)
      → (p : Path) (k : NodeRev) (from : CopySource) → now p ≡ Some k → IsOwn k → k.copy_from ≡ Some from → k.id.copy ≢ c.id.copy
  apart_now c f p k from e mine copy = f p k from (was_copy p k from e mine copy) mine copy

  part_same : (d dir v w : NodeRev) → dir.id.copy ≡ d.id.copy → DraftPart look own d v w → DraftPart look now dir v w
  part_same d dir v w e (drafts.Directory f) = drafts.Directory (f ∙ sym e)
  part_same d dir v w e (drafts.Here f) = drafts.Here f
  part_same d dir v w e (drafts.Before x back f) = drafts.Before x back f
  part_same d dir v w e (drafts.Drawn fresh apart) = drafts.Drawn fresh (apart_now v apart)

  part_linked : (d dir v x y z : NodeRev) → dir.id.copy ≡ d.id.copy → z.id.copy ≡ v.id.copy → IsBehind look y x → DraftPart look own d v x → DraftPart look now dir z y
  part_linked d dir v x y z e k back (drafts.Directory f) = drafts.Directory (k ∙ f ∙ sym e)
  part_linked d dir v x y z e k back (drafts.Here f) = drafts.Before x back (k ∙ f)
  part_linked d dir v x y z e k back (drafts.Before w more f) = drafts.Before w (behind_trans look y x w back more) (k ∙ f)
  part_linked d dir v x y z e k back (drafts.Drawn fresh apart) = drafts.Drawn (ap is_new_part k ∙ fresh) (λ p c from q mine copy f. apart_now v apart p c from q mine copy (f ∙ k))

  -- ---- the clauses

  module _ (less : b < h) where
    root_merged : Merged []
    root_merged = elim (cases_Bool (merges (see []))) [
      | inl m ↦ merged [] refl m
      | inr m ↦ absurd (by (taken_at look top tree b h t marks base head own see is 0 clear [] refl m))
    ]
      where
        last : (r : ℕ) → h ≡ r → (n : Node) → tree h [] ≡ Some n → b < n.last_changed
        last zero e n f = absurd (omega arith)
        last (suc r) e n f =
            let q = ((shown_revisions look top tree is.shows).next r (let k = is.within in omega arith)).root n (subst (λ (x : ℕ). tree x [] ≡ Some n) e f) in
            omega (arith, q.1, e)

        some : is_some (tree b []) ≡ true
        some = sym (base_some look top tree b h t marks base head own see is 0 clear []) ∙ ap is_some ((is.base_nodes.each [] draft.root.1).1 draft.root.3)

        by : Taken b (effects marks []) (tree b []) (tree h []) (t []) (Rattle.fsfs_merge.specs.Walks.stays (see [])) → ⊥
        by (FromOwn none lacks s) = both_ways _ none some
        by (FromHead none lacks s) = both_ways _ none some
        by (OwnSame has quiet s) = false≢true (sym quiet)
        by (HeadSame has quiet s) = at (tree h []) refl quiet
          where
            at : (o : Option Node) → tree h [] ≡ o → touched_by_head b o ≡ false → ⊥
            at None e q = false≢true (sym q)
            at (Some n) e q = let k = last h refl n e in both_ways _ q (is_less b n.last_changed k)
              where
                is_less : (x y : ℕ) → x < y → nat_lt x y ≡ true
                is_less x y k = grind (arith, Rattle.std.proofs.lemmas.Bool.Decides.nat_tests)

    draft_now : IsDraft look top h now
    draft_now = record {
      root = (
        Linked root_merged.v root_merged.y,
        root_merged.y,
        root_merged.now_is,
        at_head [] root_merged.y root_merged.head_is,
        root_merged.linked.own,
        refl,
        ap (λ (z : NodeRev). part_value z.id.node) root_is ∙ draft.root.6,
        ap (λ (z : NodeRev). part_value z.id.copy) root_is ∙ draft.root.7,
        root_merged.next.no_copy,
        λ n lt.
            linked_root n root_merged.v root_merged.y ∙ (root_at [] refl root_merged).by_draft root_merged.v root_merged.own_is root_merged.next.own n lt
            ∙ sym ((root_at [] refl root_merged).by_head h root_merged.y less (omega arith) (at_head [] root_merged.y root_merged.head_is) (newer [] root_merged)),
      );
      above = above;
      lasting = lasts;
      below_lasting = below_lasting;
      older = older;
      goes_on = goes;
      pred = pred;
      made = made;
      made_once = λ p q v w e f mine mine2 none none2 same. draft.made_once p q v w (was_made p v e mine none) (was_made q w f mine2 none2) mine mine2 none none2 same;
      copied = λ p v from e mine copy. draft.copied p v from (was_copy p v from e mine copy) mine copy;
      copied_once = λ p q v w from other e f mine mine2 copy copy2 same. draft.copied_once p q v w from other (was_copy p v from e mine copy) (was_copy q w other f mine2 copy2) mine mine2 copy copy2 same;
      props = props;
      no_props = λ p v e mine none. draft.no_props p v (was_made p v e mine none) mine none;
    }
      where
        root_is : root_merged.v ≡ draft.root.0
        root_is = some_same (own []) root_merged.v draft.root.0 root_merged.own_is draft.root.2

        above : (p : Path) (name : PathName) (v : NodeRev) → now (p ++ name ∷ []) ≡ Some v → (dir : NodeRev) × (now p ≡ Some dir) × (dir.kind ≡ Dir)
        above p name v e = by (from p name v e)
          where
            here : Merged p → (dir : NodeRev) × (now p ≡ Some dir) × (dir.kind ≡ Dir)
            here d = (Linked d.v d.y, d.now_is, d.linked.kind ∙ d.dir)

            by : From p name v → (dir : NodeRev) × (now p ≡ Some dir) × (dir.kind ≡ Dir)
            by (BothMerged d r k s same) = here d
            by (OwnNew d f none) = here d
            by (OwnKept d f x g k) = here d
            by (HeadIn d f) = here d
            by (OwnBelow same f) = let a = draft.above p name v f in (a.0, same ∙ a.1, a.2)
            by (HeadBelow same f) = let a = parent look h p name v (at_head (p ++ name ∷ []) v f) in (a.0, same ∙ (is.head_nodes.each p a.0).1 a.1, a.2.0)

        lasts : (p : Path) (v : NodeRev) → now p ≡ Some v → in_txn v.id.place ≡ false → (r : ℕ) × (q : Path) × (r ≤ top) × StandsAt look r q v
        lasts p v e plain = by (now_at p v e)
          where
            by : Now p v → (r : ℕ) × (q : Path) × (r ≤ top) × StandsAt look r q v
            by (Own f) = draft.lasting p v f plain
            by (Head f) = (h, p, is.within, at_head p v f)
            by (Link d r same) = absurd (both_ways _ plain (subst IsOwn (sym same) d.linked.own))

        not_merged_dir : (p : Path) (dir : NodeRev) → Merged p → now p ≡ Some dir → in_txn dir.id.place ≡ false → ⊥
        not_merged_dir p dir d e plain = both_ways _ plain (subst IsOwn (sym (some_same (now p) dir (Linked d.v d.y) e d.now_is)) d.linked.own)

        below_lasting : (p : Path) (name : PathName) (dir v : NodeRev) → now p ≡ Some dir → in_txn dir.id.place ≡ false → now (p ++ name ∷ []) ≡ Some v → ChildOf look dir name (Ok (Some v)) × (in_txn v.id.place ≡ false)
        below_lasting p name dir v e plain f = by (from p name v f)
          where
            by : From p name v → ChildOf look dir name (Ok (Some v)) × (in_txn v.id.place ≡ false)
            by (BothMerged d r k s same) = absurd (not_merged_dir p dir d e plain)
            by (OwnNew d g none) = absurd (not_merged_dir p dir d e plain)
            by (OwnKept d g x k l) = absurd (not_merged_dir p dir d e plain)
            by (HeadIn d g) = absurd (not_merged_dir p dir d e plain)
            by (OwnBelow same g) = draft.below_lasting p name dir v (sym same ∙ e) plain g
            by (HeadBelow same g) = (child_at look h p name dir v (at_head p dir (sym same ∙ e)) (at_head (p ++ name ∷ []) v g), not_own (p ++ name ∷ []) v g)

        older : (p : Path) (name : PathName) (dir v : NodeRev) → now p ≡ Some dir → IsOwn dir → now (p ++ name ∷ []) ≡ Some v → in_txn v.id.place ≡ false → (u : NodeRev) × IsPred look dir u × ChildOf look u name (Ok (Some v))
        older p name dir v e mine f plain = by (from p name v f)
          where
            -- of the directory in the base
            base_child : (d : Merged p) → own (p ++ name ∷ []) ≡ Some v → base (p ++ name ∷ []) ≡ Some v
            base_child d g =
                let o = draft.older p name d.v v d.own_is d.next.own g plain in
                in_base p name d v (subst (λ (z : NodeRev). ChildOf look z name (Ok (Some v))) (pred_same look d.v o.0 d.x o.1 (pred_x p d)) o.2)

            by : From p name v → (u : NodeRev) × IsPred look dir u × ChildOf look u name (Ok (Some v))
            by (BothMerged d r k s same) = absurd (both_ways _ plain (subst IsOwn (sym same) k.linked.own))
            by (OwnNew d g none) = absurd (let k = sym none ∙ base_child d g in cc)
            by (OwnKept d g x k l) =
                let same = some_same (base (p ++ name ∷ [])) x v k (base_child d g) in
                (d.y, pred_y p d dir e, child_at look h p name d.y v (at_head p d.y d.head_is) (at_head (p ++ name ∷ []) v (subst (λ (z : NodeRev). head (p ++ name ∷ []) ≡ Some z) same l)))
            by (HeadIn d g) = (d.y, pred_y p d dir e, child_at look h p name d.y v (at_head p d.y d.head_is) (at_head (p ++ name ∷ []) v g))
            by (OwnBelow same g) = draft.older p name dir v (sym same ∙ e) mine g plain
            by (HeadBelow same g) = absurd (both_ways _ (not_own p dir (sym same ∙ e)) mine)

        Rule : NodeRev → NodeRev → NodeRev → Type 0
        Rule dir v w = (n : ℕ) → top < n → draft_root n v ≡ (if nat_lt (own_rev w) (draft_root n dir).0 then draft_root n dir else copy_root_of w)

        goes : (p : Path) (name : PathName) (dir v : NodeRev) → now p ≡ Some dir → now (p ++ name ∷ []) ≡ Some v → IsOwn v → v.copy_from ≡ None → v.predecessor ≢ None
            → (u w : NodeRev) × IsPred look dir u × ChildOf look u name (Ok (Some w)) × IsPred look v w × Rule dir v w × DraftPart look now dir v w
        goes p name dir v e f mine copy some = by (from p name v f)
          where
            by : From p name v → (u w : NodeRev) × IsPred look dir u × ChildOf look u name (Ok (Some w)) × IsPred look v w × Rule dir v w × DraftPart look now dir v w
            by (BothMerged d rd k rk same) =
                let g = draft.goes_on p name d.v k.v d.own_is k.own_is k.next.own k.next.no_copy (λ none. (let q = sym k.next.predecessor ∙ none in cc)) in
                let w_is = pred_same look k.v g.1 k.x g.4 (pred_x (p ++ name ∷ []) k) in
                let part : DraftPart look own d.v k.v k.x = subst (λ (z : NodeRev). DraftPart look own d.v k.v z) w_is g.6 in (
                  d.y,
                  k.y,
                  pred_y p d dir e,
                  child_at look h p name d.y k.y (at_head p d.y d.head_is) (at_head (p ++ name ∷ []) k.y k.head_is),
                  pred_y (p ++ name ∷ []) k v f,
                  rule,
                  part_linked d.v dir k.v k.x k.y v (dir_copy p d dir e) (ap (λ (z : NodeRev). z.id.copy) same) (behind (p ++ name ∷ []) k) part,
                )
              where
                up : OneRoot look top tree b h marks base own is.shows is.order is.within is.base_nodes is.side draft p
                up = root_at p rd d

                here : OneRoot look top tree b h marks base own is.shows is.order is.within is.base_nodes is.side draft (p ++ name ∷ [])
                here = root_at (p ++ name ∷ []) rk k

                rule : Rule dir v k.y
                rule n lt =
                    let mine_root : draft_root n v ≡ here.root = ap (draft_root n) same ∙ linked_root n k.v k.y ∙ here.by_draft k.v k.own_is k.next.own n lt in
                    let head_root : copy_root_of k.y ≡ here.root = here.by_head h k.y less (omega arith) (at_head (p ++ name ∷ []) k.y k.head_is) (newer (p ++ name ∷ []) k) in
                    let dir_is : draft_root n dir ≡ up.root = dir_root p d dir e n ∙ up.by_draft d.v d.own_is d.next.own n lt in
                    let test : nat_lt (own_rev k.y) (draft_root n dir).0 ≡ false = (λ i. nat_lt (own_rev k.y) (dir_is i).0) ∙ not_less (own_rev k.y) up.root.0 (let x = up.low in let z = newer (p ++ name ∷ []) k in omega arith) in
                    mine_root ∙ sym head_root ∙ (λ i. if (sym test) i then draft_root n dir else copy_root_of k.y)
                  where
                    not_less : (x y : ℕ) → y ≤ x → nat_lt x y ≡ false
                    not_less x y k = grind (arith, Rattle.std.proofs.lemmas.Bool.Decides.nat_tests)
            by (OwnNew d g none) =
                let q = draft.goes_on p name d.v v d.own_is g mine copy some in
                let child = in_base p name d q.1 (subst (λ (z : NodeRev). ChildOf look z name (Ok (Some q.1))) (pred_same look d.v q.0 d.x q.2 (pred_x p d)) q.3) in
                absurd (let k = sym none ∙ child in cc)
            by (OwnKept d g x k l) =
                let q = draft.goes_on p name d.v v d.own_is g mine copy some in
                let child = in_base p name d q.1 (subst (λ (z : NodeRev). ChildOf look z name (Ok (Some q.1))) (pred_same look d.v q.0 d.x q.2 (pred_x p d)) q.3) in
                let same = some_same (base (p ++ name ∷ [])) x q.1 k child in (
                  d.y,
                  q.1,
                  pred_y p d dir e,
                  child_at look h p name d.y q.1 (at_head p d.y d.head_is) (at_head (p ++ name ∷ []) q.1 (subst (λ (z : NodeRev). head (p ++ name ∷ []) ≡ Some z) same l)),
                  q.4,
                  (λ n lt. q.5 n lt ∙ (λ i. if nat_lt (own_rev q.1) (sym (dir_root p d dir e n) i).0 then sym (dir_root p d dir e n) i else copy_root_of q.1)),
                  part_same d.v dir v q.1 (dir_copy p d dir e) q.6,
                )
            by (HeadIn d g) = absurd (both_ways _ (not_own (p ++ name ∷ []) v g) mine)
            by (OwnBelow same g) =
                let q = draft.goes_on p name dir v (sym same ∙ e) g mine copy some in
                (q.0, q.1, q.2, q.3, q.4, q.5, part_same dir dir v q.1 refl q.6)
            by (HeadBelow same g) = absurd (both_ways _ (not_own (p ++ name ∷ []) v g) mine)

        pred : (p : Path) (v w : NodeRev) → now p ≡ Some v → IsOwn v → IsPred look v w → (v.id.node ≡ w.id.node) × (v.kind ≡ w.kind) × (v.count ≡ min (w.count + 1) (2 ^ 64 - 1))
        pred p v w e mine back = by (now_at p v e)
          where
            by : Now p v → (v.id.node ≡ w.id.node) × (v.kind ≡ w.kind) × (v.count ≡ min (w.count + 1) (2 ^ 64 - 1))
            by (Own f) = draft.pred p v w f mine back
            by (Head f) = absurd (both_ways _ (not_own p v f) mine)
            by (Link d r same) =
                let one = pred_same look v d.y w (pred_y p d v e) back in (
                  ap (λ (z : NodeRev). z.id.node) same ∙ d.linked.node ∙ ap (λ (z : NodeRev). z.id.node) one,
                  ap (λ (z : NodeRev). z.kind) same ∙ d.linked.kind ∙ ap (λ (z : NodeRev). z.kind) one,
                  ap (λ (z : NodeRev). z.count) same ∙ ap (λ (z : NodeRev). min (z.count + 1) (2 ^ 64 - 1)) one,
                )

        made : (p : Path) (name : PathName) (dir v : NodeRev) → now p ≡ Some dir → now (p ++ name ∷ []) ≡ Some v → IsOwn v → v.predecessor ≡ None
            → (v.copy_from ≡ None) × (is_new_part v.id.node ≡ true) × (v.id.copy ≡ dir.id.copy) × ((n : ℕ) → top < n → draft_root n v ≡ draft_root n dir)
        made p name dir v e f mine none = by (from p name v f)
          where
            in_merged : Merged p → own (p ++ name ∷ []) ≡ Some v → (v.copy_from ≡ None) × (is_new_part v.id.node ≡ true) × (v.id.copy ≡ dir.id.copy) × ((n : ℕ) → top < n → draft_root n v ≡ draft_root n dir)
            in_merged d g = let q = draft.made p name d.v v d.own_is g mine none in (q.0, q.1, q.2 ∙ sym (dir_copy p d dir e), (λ n lt. q.3 n lt ∙ sym (dir_root p d dir e n)))

            by : From p name v → (v.copy_from ≡ None) × (is_new_part v.id.node ≡ true) × (v.id.copy ≡ dir.id.copy) × ((n : ℕ) → top < n → draft_root n v ≡ draft_root n dir)
            by (BothMerged d r k s same) = absurd (let g = sym none ∙ ap (λ (z : NodeRev). z.predecessor) same in cc)
            by (OwnNew d g lacks) = in_merged d g
            by (OwnKept d g x k l) = in_merged d g
            by (HeadIn d g) = absurd (both_ways _ (not_own (p ++ name ∷ []) v g) mine)
            by (OwnBelow same g) = draft.made p name dir v (sym same ∙ e) g mine none
            by (HeadBelow same g) = absurd (both_ways _ (not_own (p ++ name ∷ []) v g) mine)

        props : (p : Path) (v w : NodeRev) → now p ≡ Some v → IsOwn v → IsPred look v w → (v.props ≡ Some contents.Own) ⊎ (v.props ≡ w.props)
        props p v w e mine back = by (now_at p v e)
          where
            pick : (c : Bool) (y : NodeRev) → y ≡ w → v.props ≡ (if c then Some contents.Own else y.props) → (v.props ≡ Some contents.Own) ⊎ (v.props ≡ w.props)
            pick true y one q = inl q
            pick false y one q = inr (q ∙ ap (λ (z : NodeRev). z.props) one)

            by : Now p v → (v.props ≡ Some contents.Own) ⊎ (v.props ≡ w.props)
            by (Own f) = draft.props p v w f mine back
            by (Head f) = absurd (both_ways _ (not_own p v f) mine)
            by (Link d r same) = pick (effects marks p).props_changed d.y (pred_same look v d.y w (pred_y p d v e) back) (ap (λ (z : NodeRev). z.props) same ∙ d.linked.props)

pub merge_keeps_drafts : MergeKeepsDrafts
merge_keeps_drafts look top tree b h t marks base head own see is less clear draft = draft_now look top tree b h t marks base head own see is clear draft less
