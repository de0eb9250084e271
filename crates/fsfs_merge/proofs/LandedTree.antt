-- The draft that a merge leaves is one of the landed tree.
use Rattle.fsfs_revision.proofs.Revisions.{shown_revisions}
use Rattle.std.proofs.Common.{◌≡◌, ◌⊎◌, ℕ, Bool, true, false, List, [], ◌∷◌, refl, sym, ap, subst, ◌∙◌, inl, inr}
use Rattle.std.specs.Prelude.{Option, Some, None, is_some, if◌then◌else◌}
use mathlib.Core.Bool.{false≢true}
use Rattle.fsfs_base.specs.Paths.{Path, covers}
use Rattle.fsfs_tree.specs.Nodes.{Node, TreeFunction}
use Rattle.fsfs_model.specs.declared.flat.mark.Mark.{Mark}
use Rattle.fsfs_model.specs.Flat.Marks.{effects}
use Rattle.fsfs_model.specs.Flat.Landing.{reached, land, NoClash}
use Rattle.fsfs_revision.specs.Told.{RevisionBytes}
use Rattle.fsfs_noderev.specs.declared.node_rev.NodeRev.{NodeRev}
use Rattle.fsfs_base.proofs.PathLemmas.{same_name-is, covers-trans, covers-antisym, covers-either}
use Rattle.fsfs_model.proofs.MergeWalk.{goes_gone, goes_head, reached_above, fresh}
use Rattle.fsfs_merge.specs.declared.sight.Sight.{Sight}
use Rattle.fsfs_merge.specs.Walks.{merges, down, is_own, stays, merged as merged_tree}
use Rattle.fsfs_merge.specs.Laws.{IsSameNode, AreSame}
use Rattle.fsfs_draft.specs.OwnSides.{NodesAt, IsOwnSide, HasPathsOf}
use Rattle.fsfs_merge.specs.MergeLaws.{IsMerge, is_merged, relinked, landed_nodes}
use Rattle.fsfs_merge.proofs.Sides.{head_quiet, own_quiet}
use Rattle.fsfs_merge.proofs.SightLaw.{some_node}
use Rattle.fsfs_merge.proofs.MergeLaw.{Way, Through, Stopped, way, Taken, FromOwn, FromHead, HeadSame, OwnSame, pre, by_walk, taken_at, keep, own_of, leaves}
use Rattle.fsfs_draft.specs.NodeDrafts.{IsDraft}
use Rattle.fsfs_draft.specs.Draws.{FreshAt, MadeHere, CameWith, DrawsTree}
use Rattle.fsfs_merge.specs.Landed.{MergeKeepsTrees}
use Rattle.fsfs_merge.proofs.LandedDraft.{merged}
use Rattle.fsfs_merge.proofs.LandedDraft as drafted
use Rattle.std.proofs.lemmas.Bool.{and_from, and_parts, both_ways, cases_Bool, false_from_ne_true}
use Rattle.fsfs_draft.proofs.HangLaw.{some_same}

module _ (look : RevisionBytes) (top : ℕ) (tree : ℕ → TreeFunction) (b h n k : ℕ) (t : TreeFunction) (marks : List Mark) (base head own : NodesAt) (see : Path → Sight)
    (is : IsMerge look top tree b h t marks base head own see) (clear : NoClash b (tree b) (tree h) t marks) (draft : IsDraft look top b own) (draws : DrawsTree n (tree b) t marks own) where
  abbrev now : NodesAt
  now = landed_nodes see head own

  abbrev landed : TreeFunction
  landed = land (tree b) (tree h) t marks k

  all : IsOwnSide head marks now × HasPathsOf landed now × ((p : Path) → AreSame (merged_tree see (tree h) t p) (landed p))
  all = leaves look top tree b h k t marks base head own see is clear

  -- the transaction's node, or the head's
  data Came (p : Path) (y : Node) : Type 0 where
    ItsOwn : is_own see p ≡ true → (m : Node) → t p ≡ Some m → IsSameNode m y → Came p y
    TheHeads : is_own see p ≡ false → (m : Node) → tree h p ≡ Some m → IsSameNode m y → Came p y

  came : (p : Path) (y : Node) → landed p ≡ Some y → Came p y
  came p y e = elim (cases_Bool (is_own see p)) [
    | inl o ↦ own_case o (t p) refl (subst (λ (z : Option Node). AreSame (t p) z) e (subst (λ (x : Bool). AreSame (if x then t p else tree h p) (landed p)) o (all.2 p)))
    | inr o ↦ head_case o (tree h p) refl (subst (λ (z : Option Node). AreSame (tree h p) z) e (subst (λ (x : Bool). AreSame (if x then t p else tree h p) (landed p)) o (all.2 p)))
  ]
    where
      own_case : is_own see p ≡ true → (o : Option Node) → t p ≡ o → AreSame (t p) (Some y) → Came p y
      own_case o None f s = absurd (subst (λ (z : Option Node). AreSame z (Some y)) f s)
      own_case o (Some m) f s = ItsOwn o m f (subst (λ (z : Option Node). AreSame z (Some y)) f s)

      head_case : is_own see p ≡ false → (o : Option Node) → tree h p ≡ o → AreSame (tree h p) (Some y) → Came p y
      head_case o None f s = absurd (subst (λ (z : Option Node). AreSame z (Some y)) f s)
      head_case o (Some m) f s = TheHeads o m f (subst (λ (z : Option Node). AreSame z (Some y)) f s)

  -- the draft's node-revision keeps its kind
  kept_kind : (m : Bool) (y v : Option NodeRev) (u : NodeRev) → relinked m y v ≡ Some u → (w : NodeRev) × (v ≡ Some w) × (u.kind ≡ w.kind)
  kept_kind false y v u e = (u, e, refl)
  kept_kind true None None u e = absurd (let f = e in cc)
  kept_kind true (Some y) None u e = absurd (let f = e in cc)
  kept_kind true None (Some v) u e = (v, refl, (let same : v ≡ u = cc in ap (λ (z : NodeRev). z.kind) (sym same)))
  kept_kind true (Some y) (Some v) u e = (v, refl, (let same : drafted.Linked v y ≡ u = cc in ap (λ (z : NodeRev). z.kind) (sym same)))

  kinds : (p : Path) (u : NodeRev) (y : Node) → now p ≡ Some u → landed p ≡ Some y → y.kind ≡ u.kind
  kinds p u y e f = by (came p y f)
    where
      by : Came p y → y.kind ≡ u.kind
      by (ItsOwn o m g s) =
          let w = kept_kind (is_merged see p) (head p) (own p) u ((λ i. if (sym o) i then relinked (is_merged see p) (head p) (own p) else head p) ∙ e) in
          sym s.kind ∙ draws.kinds p w.0 m w.1 g ∙ sym w.2
      by (TheHeads o m g s) =
          let q : head p ≡ Some u = (λ i. if (sym o) i then relinked (is_merged see p) (head p) (own p) else head p) ∙ e in
          let w = some_node look h (tree h) (is.shows.each h is.within) head is.head_nodes p u q in
          sym s.kind ∙ ap (λ (z : Node). z.kind) (some_same (tree h p) m w.0 g w.1) ∙ w.2

  abbrev reached_at : Path → Type 0
  reached_at q = reached (down see) q ≡ true

  -- what is above a reached path is reached
  front : (r q : Path) → reached_at q → covers r q ≡ true → reached_at r
  front r q = go_front (down see) r q
    where
      go_front : (f : Path → Bool) (r q : Path) → reached f q ≡ true → covers r q ≡ true → reached f r ≡ true
      go_front f [] q w c = refl
      go_front f (x ∷ r) [] w c = absurd (false≢true c)
      go_front f (x ∷ r) (y ∷ q) w c =
          let e : x ≡ y = same_name-is x y ((and_parts _ _ c).0) in
          and_from _ _ ((and_parts _ _ w).0) (go_front (λ z. f (x ∷ z)) r q (subst (λ (v : List ℕ). reached (λ z. f (v ∷ z)) q ≡ true) (sym e) ((and_parts _ _ w).1)) ((and_parts _ _ c).1))

  -- below where the walk stops and the transaction's is taken, the draft is as it was
  below_kept : (q p : Path) → covers q p ≡ true → reached_at q → merges (see q) ≡ false → stays (see q) ≡ true → now p ≡ own p
  below_kept q p c r m s = keep look top tree b h t marks base head own see is 0 clear p (own_of look top tree b h t marks base head own see is 0 clear p q c r m true s) (not_merged)
    where
      not_merged : is_merged see p ≡ false
      not_merged = false_from_ne_true _ (λ w. elim (cases_Bool (covers p q)) [
        | inl back ↦ both_ways _ (subst (λ (x : Path). merges (see x) ≡ false) (covers-antisym q p c back) m) ((and_parts _ _ w).1)
        | inr apart ↦ both_ways _ m (reached_above (down see) q p ((and_parts _ _ w).0) c apart)
      ])

  moved : (q p : Path) (c : covers q p ≡ true) (r : reached_at q) (m : merges (see q) ≡ false) (s : stays (see q) ≡ true) (x y : Node) → IsSameNode x y → FreshAt n own p x → FreshAt n now p y
  moved q p c r m s x y same (MadeHere u e mine none src) = MadeHere u (below_kept q p c r m s ∙ e) mine none (sym same.source ∙ src)
  moved q p c r m s x y same (CameWith at cp from cov e mine copy near goes src) =
      CameWith at cp from cov (below_kept q at under r m s ∙ e) mine copy
      (λ z u g l f root. near z u g l (sym (below_kept q z (covers-trans q at z under g) r m s) ∙ f) root)
      (λ u f mine. goes u (sym (below_kept q p c r m s) ∙ f) mine)
      (sym same.source ∙ src)
    where
      under : covers q at ≡ true
      under = elim (covers-either q at p c cov) [
        | inl w ↦ w
        | inr w ↦ elim (cases_Bool (covers q at)) [
          | inl v ↦ v
          | inr apart ↦ absurd (not_here w apart)
        ]
      ]
        where
          not_here : covers at q ≡ true → covers q at ≡ false → ⊥
          not_here w apart =
              let through = reached_above (down see) at q r w apart in
              let d = merged look top tree b h t marks base head own see is clear draft at (front at q r w) through in
              let one = some_same (own at) cp d.v e d.own_is in
              (let f = sym copy ∙ ap (λ (z : NodeRev). z.copy_from) one ∙ d.next.no_copy in cc)

  abbrev Lost : Path → Type 0
  Lost p = (tree h p ≡ None) ⊎ ((effects marks p).deleted ≡ true)

  some_not : (o : Option Node) → is_some o ≡ true → o ≡ None → ⊥
  some_not o s f = both_ways _ (ap is_some f) s

  none_of : (o : Option Node) → is_some o ≡ false → o ≡ None
  none_of None s = refl
  none_of (Some x) s = absurd (false≢true (sym s))

  fresh_now : (p : Path) (y : Node) → landed p ≡ Some y → Lost p → FreshAt n now p y
  fresh_now p y e lost = by_way (way see p) (came p y e)
    where
      -- with what the walk takes where it stops
      taken : (q : Path) (c : covers q p ≡ true) (r : reached_at q) (m : merges (see q) ≡ false) → Came p y → Taken b (effects marks q) (tree b q) (tree h q) (t q) (stays (see q)) → FreshAt n now p y
      taken q c r m (ItsOwn o x f s) (FromOwn none lacks st) = moved q p c r m st x y s (draws.fresh p x f (inl (none_of (tree b p) (false_from_ne_true _ (λ w. both_ways _ none (closed w))))))
        where
          closed : is_some (tree b p) ≡ true → is_some (tree b q) ≡ true
          closed w = (pre look top tree b h t marks base head own see is 0 clear).closed_base q p c w
      taken q c r m (ItsOwn o x f s) (HeadSame some quiet st) =
          let same = head_quiet tree top b h t marks (shown_revisions look top tree is.shows) is.transaction is.order is.within q p c quiet in
          moved q p c r m st x y s (draws.fresh p x f (elim lost [ inl none ↦ inl (sym same ∙ none) | inr del ↦ inr del ]))
      taken q c r m (ItsOwn o x f s) (FromHead none lacks st) = absurd (false≢true (sym (own_of look top tree b h t marks base head own see is 0 clear p q c r m false st) ∙ o))
      taken q c r m (ItsOwn o x f s) (OwnSame some quiet st) = absurd (false≢true (sym (own_of look top tree b h t marks base head own see is 0 clear p q c r m false st) ∙ o))
      taken q c r m (TheHeads o x f s) (FromOwn none lacks st) = absurd (false≢true (sym o ∙ own_of look top tree b h t marks base head own see is 0 clear p q c r m true st))
      taken q c r m (TheHeads o x f s) (HeadSame some quiet st) = absurd (false≢true (sym o ∙ own_of look top tree b h t marks base head own see is 0 clear p q c r m true st))
      taken q c r m (TheHeads o x f s) (FromHead none lacks st) =
          let w = fresh b (tree b) (tree h) t marks (pre look top tree b h t marks base head own see is 0 clear) q p c (by_walk look top tree b h t marks base head own see is 0 clear q r) (none_of (tree b q) none) in
          absurd (elim lost [ inl gone ↦ some_not (tree h p) (ap is_some f) gone | inr del ↦ both_ways _ w.1 del ])
      taken q c r m (TheHeads o x f s) (OwnSame some quiet st) =
          let w = own_quiet tree top b h t marks (shown_revisions look top tree is.shows) is.transaction is.order is.within q p c (by_walk look top tree b h t marks base head own see is 0 clear q r) some quiet in
          absurd (elim lost [ inl gone ↦ some_not (tree h p) (ap is_some f) gone | inr del ↦ both_ways _ w.1 del ])

      by_way : Way see p → Came p y → FreshAt n now p y
      by_way (Through r m) c =
          let d = merged look top tree b h t marks base head own see is clear draft p r m in
          absurd (elim lost [
            | inl gone ↦ some_not (tree h p) (goes_head b (effects marks p) (tree b p) (tree h p) d.goes) gone
            | inr del ↦ both_ways _ (goes_gone b (effects marks p) (tree b p) (tree h p) d.goes) del
          ])
      by_way (Stopped q c r m nm) w = taken q c r m w (taken_at look top tree b h t marks base head own see is 0 clear q r m)

pub merge_keeps_trees : MergeKeepsTrees
merge_keeps_trees look top tree b h n k t marks base head own see is clear draft draws = record {
  paths = (leaves look top tree b h k t marks base head own see is clear).1;
  kinds = kinds look top tree b h n k t marks base head own see is clear draft draws;
  fresh = fresh_now look top tree b h n k t marks base head own see is clear draft draws;
}
