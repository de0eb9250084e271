-- The walk by ids stops exactly where the flat model has a clash.
use Rattle.std.proofs.Common.{◌≡◌, ◌≤◌, ◌⊎◌, ℕ, not, Bool, true, false, ◌&&◌, ◌||◌, List, [], ◌∷◌, refl, sym, ap, subst, ◌∙◌, inl, inr, Option, Some, None}
use Rattle.std.specs.Prelude.{is_some, if◌then◌else◌}
use mathlib.Core.Bool.{false≢true}
use Rattle.fsfs_model.specs.Flat.Edits.{is_dir, is_dir_node}
use Rattle.fsfs_base.specs.Paths.{Path, covers, is_above}
use Rattle.fsfs_tree.specs.Nodes.{Node, TreeFunction}
use Rattle.fsfs_model.specs.declared.flat.mark.Mark.{Mark}
use Rattle.fsfs_model.specs.declared.flat.mark.Effects.{Effects}
use Rattle.fsfs_model.specs.Flat.Marks.{effects}
use Rattle.fsfs_model.specs.Flat.Landing.{touched_by_head, props_changed_by_head, goes_on, clashes_at, is_clash, reached}
use Rattle.fsfs_tree.specs.Histories.{AreRevisions}
use Rattle.fsfs_model.specs.Flat.Transactions.{IsTransaction}
use Rattle.fsfs_model.proofs.MergeWalk.{reached_or, reached_above}
use Rattle.fsfs_merge.specs.Walks.{Sight, merges, is_stopped, down, clashes_by_ids}
use Rattle.fsfs_merge.specs.Laws.{Agrees}
use Rattle.fsfs_merge.proofs.Sides.{base, head, own_quiet, head_quiet, quiet_touched, same_kind}
use Rattle.std.proofs.lemmas.Bool.{and_from, and_parts, both_ways, false_from_ne_true}

-- ---- at one path

twice_not : (x : Bool) → not (not x) ≡ x
twice_not true = refl
twice_not false = refl

-- the tests of a path that stands in the base
stop_cases : (u th sp dir go pc hp : Bool) → ((dir && go) ≡ true → sp ≡ not (pc || hp)) → (not (not th) && not (not u) && not ((dir && go) && sp)) ≡ (u && th && (not dir || not go || pc || hp))
stop_cases false false sp dir go pc hp d = refl
stop_cases false true sp dir go pc hp d = refl
stop_cases true false sp dir go pc hp d = refl
stop_cases true true sp false go pc hp d = refl
stop_cases true true sp true false pc hp d = refl
stop_cases true true sp true true pc hp d = ap not (d refl) ∙ twice_not (pc || hp)

stop_same : (u th hs os g sp dir go pc hp : Bool) → hs ≡ not th → os ≡ not u → g ≡ (dir && go) → ((dir && go) ≡ true → sp ≡ not (pc || hp))
    → (not hs && not os && not (g && sp)) ≡ (u && th && (not dir || not go || pc || hp))
stop_same u th hs os g sp dir go pc hp a b c d = (λ i. not (a i) && not (b i) && not (c i && sp)) ∙ stop_cases u th sp dir go pc hp d

pub merges_all : (i h o g : Bool) → (i && not h && not o && g) ≡ true → (i ≡ true) × (h ≡ false) × (o ≡ false) × (g ≡ true)
merges_all true false false true e = (refl, refl, refl, refl)
merges_all true false false false e = absurd (false≢true e)
merges_all true false true g e = absurd (false≢true e)
merges_all true true o g e = absurd (false≢true e)
merges_all false h o g e = absurd (false≢true e)

-- what is not merged
pub merges_not : (h o g : Bool) → (true && not h && not o && g) ≡ false → (h ≡ true) ⊎ ((o ≡ true) ⊎ (g ≡ false))
merges_not true o g e = inl refl
merges_not false true g e = inr (inl refl)
merges_not false false g e = inr (inr e)

pub not_is : (x y : Bool) → x ≡ not y → x ≡ true → y ≡ false
not_is x true e h = absurd (false≢true (sym e ∙ h))
not_is x false e h = refl

dir_base : (d : Effects) (b : ℕ) (a s : Option Node) → goes_on b d a s ≡ true → is_some a ≡ true
dir_base d b a s h = (and_parts _ _ ((and_parts _ _ h).0)).0

module _ (b : ℕ) (d : Effects) (s t : Option Node) (see : Sight) where
  pub stops_as : (a : Option Node) → Agrees b d a s t see → is_stopped see ≡ clashes_at b d a s t
  stops_as None agree =
      ap (λ x. if x then not see.head_same && not see.own_same && not (see.goes_on && see.same_props) else see.in_head && see.in_own) agree.in_base
      ∙ (λ i. agree.in_head i && agree.in_own i)
  stops_as (Some n) agree =
      ap (λ x. if x then not see.head_same && not see.own_same && not (see.goes_on && see.same_props) else see.in_head && see.in_own) agree.in_base
      ∙ stop_same d.touched (touched_by_head b s) see.head_same see.own_same see.goes_on see.same_props (is_dir n.kind) (goes_on b d (Some n) s) d.props_changed (props_changed_by_head b s)
      (agree.head_same refl) (agree.own_same refl) (agree.both_go refl) agree.same_props

  -- what is merged goes on
  pub merged_goes : (a : Option Node) → Agrees b d a s t see → merges see ≡ true → (goes_on b d a s ≡ true) × (is_dir_node a ≡ true)
  merged_goes a agree k =
      let m = merges_all see.in_base see.head_same see.own_same see.goes_on k in
      let some : is_some a ≡ true = sym agree.in_base ∙ m.0 in
      let both : (is_dir_node a && goes_on b d a s) ≡ true = sym (agree.both_go some) ∙ m.3 in
      ((and_parts _ _ both).1, (and_parts _ _ both).0)

  -- what goes on, and is not merged, one side did not touch, or it is a file
  pub left : (a : Option Node) → Agrees b d a s t see → goes_on b d a s ≡ true → merges see ≡ false → (d.touched ≡ false) ⊎ ((touched_by_head b s ≡ false) ⊎ (is_dir_node a ≡ false))
  left a agree k m =
      let some : is_some a ≡ true = dir_base d b a s k in
      let here : (true && not see.head_same && not see.own_same && see.goes_on) ≡ false = subst (λ x. (x && not see.head_same && not see.own_same && see.goes_on) ≡ false) (agree.in_base ∙ some) m in
      elim (merges_not see.head_same see.own_same see.goes_on here) [
        | inl h ↦ inr (inl (not_is see.head_same (touched_by_head b s) (agree.head_same some) h))
        | inr (inl o) ↦ inl (not_is see.own_same d.touched (agree.own_same some) o)
        | inr (inr g) ↦ inr (inr (false_from_ne_true _ (λ dir. both_ways _ (sym (agree.both_go some) ∙ g) (and_from _ _ dir k))))
      ]

-- what is reached by one test is reached by another, where each step of it is
pub reached_by : (f g : Path → Bool) → ((q : Path) → reached g q ≡ true → f q ≡ true → g q ≡ true) → (p : Path) → reached f p ≡ true → reached g p ≡ true
reached_by f g e [] r = refl
reached_by f g e (x ∷ p) r =
    let here : g [] ≡ true = e [] refl ((and_parts _ _ r).0) in
    and_from _ _ here (reached_by (λ q. f (x ∷ q)) (λ q. g (x ∷ q)) (λ q s h. e (x ∷ q) (and_from _ _ here s) h) p ((and_parts _ _ r).1))

module _ (tree : ℕ → TreeFunction) (last b h : ℕ) (t : TreeFunction) (marks : List Mark) (see : Path → Sight)
    (is : AreRevisions tree last) (was : IsTransaction tree last b t marks) (le : b ≤ h) (ge : h ≤ last) where
  abbrev pub going : Path → Bool
  going q = goes_on b (effects marks q) (tree b q) (tree h q)

  module _ (agree : (p : Path) → reached going p ≡ true → Agrees b (effects marks p) (tree b p) (tree h p) (t p) (see p)) where
    pub by_marks : (p : Path) → reached (down see) p ≡ true → reached going p ≡ true
    by_marks = reached_by (down see) going (λ q r k. (merged_goes b (effects marks q) (tree h q) (t q) (see q) (tree b q) (agree q r) k).0)

    -- below what goes on and is not merged nothing clashes
    none_below : (q p : Path) → covers q p ≡ true → covers p q ≡ false → reached going q ≡ true → going q ≡ true → merges (see q) ≡ false → clashes_at b (effects marks p) (tree b p) (tree h p) (t p) ≡ false
    none_below q p c n r k m = elim (left b (effects marks q) (tree h q) (t q) (see q) (tree b q) (agree q r) k m) [
      | inl un ↦ quiet (own_quiet tree last b h t marks is was le ge q p c r (dir_base (effects marks q) b (tree b q) (tree h q) k) un)
      | inr (inl un) ↦ head_left un
      | inr (inr file) ↦ under_file file
    ]
      where
        at_none : (o : Option Node) → tree b p ≡ o → is_some o ≡ false → (is_some (tree h p) && is_some (t p)) ≡ false → clashes_at b (effects marks p) o (tree h p) (t p) ≡ false
        at_none None e none f = f
        at_none (Some x) e none f = absurd (false≢true (sym none))

        quiet : ((effects marks p).touched ≡ false) × ((effects marks p).deleted ≡ false) × ((effects marks p).rewritten ≡ false) × (is_some (tree b p) ≡ false → is_some (t p) ≡ false)
            → clashes_at b (effects marks p) (tree b p) (tree h p) (t p) ≡ false
        quiet u = by (tree b p) refl
          where
            by : (o : Option Node) → tree b p ≡ o → clashes_at b (effects marks p) o (tree h p) (t p) ≡ false
            by None e = false_from_ne_true _ (λ w. both_ways _ (u.3 (ap is_some e)) ((and_parts _ _ w).1))
            by (Some x) e = false_from_ne_true _ (λ w. both_ways _ u.0 ((and_parts _ _ ((and_parts _ _ w).0)).0))

        head_left : touched_by_head b (tree h q) ≡ false → clashes_at b (effects marks p) (tree b p) (tree h p) (t p) ≡ false
        head_left un = by (tree b p) refl
          where
            by : (o : Option Node) → tree b p ≡ o → clashes_at b (effects marks p) o (tree h p) (t p) ≡ false
            by None e = false_from_ne_true _ (λ w. both_ways _ (ap is_some (head_quiet tree last b h t marks is was le ge q p c un ∙ e)) ((and_parts _ _ w).0))
            by (Some x) e = false_from_ne_true _ (λ w. both_ways _ (quiet_touched tree last b h t marks is was le ge q p c un (ap is_some e)) ((and_parts _ _ ((and_parts _ _ w).0)).1))

        above : is_above q p ≡ true
        above = and_from _ _ c (ap not n)

        under_file : is_dir_node (tree b q) ≡ false → clashes_at b (effects marks p) (tree b p) (tree h p) (t p) ≡ false
        under_file file =
            let none : is_some (tree b p) ≡ false = false_from_ne_true _ (λ w. both_ways _ file ((base tree last b h t marks is was le ge).dirs.above q p above w)) in
            let lacks : is_some (tree h p) ≡ false = false_from_ne_true _ (λ w. both_ways _ (head_file (tree b q) refl (tree h q) refl) ((head tree last b h t marks is was le ge).dirs.above q p above w)) in
            at_nothing (tree b p) refl none lacks
          where
            head_file : (o : Option Node) → tree b q ≡ o → (u : Option Node) → tree h q ≡ u → is_dir_node (tree h q) ≡ false
            head_file None e u f = absurd (false≢true (sym (ap is_some e) ∙ dir_base (effects marks q) b (tree b q) (tree h q) k))
            head_file (Some m) e None f = ap is_dir_node f
            head_file (Some m) e (Some v) f =
                let kind = same_kind tree last b h t marks is was le ge q m v e f ((and_parts _ _ k).1) in
                ap is_dir_node f ∙ sym (ap is_dir kind) ∙ sym (ap is_dir_node e) ∙ file

            at_nothing : (o : Option Node) → tree b p ≡ o → is_some o ≡ false → is_some (tree h p) ≡ false → clashes_at b (effects marks p) o (tree h p) (t p) ≡ false
            at_nothing None e none lacks = false_from_ne_true _ (λ w. both_ways _ lacks ((and_parts _ _ w).0))
            at_nothing (Some x) e none lacks = absurd (false≢true (sym none))

    pub same_clash : (p : Path) → clashes_by_ids see p ≡ is_clash b (tree b) (tree h) t marks p
    same_clash p = elim (reached_or (down see) p) [
      | inl r ↦ (let f = by_marks p r in λ i. (r ∙ sym f) i && stops_as b (effects marks p) (tree h p) (t p) (see p) (tree b p) (agree p f) i)
      | inr e ↦
          false_from_ne_true _ (λ w. both_ways _ e.stops (reached_above (down see) e.place p ((and_parts _ _ w).0) e.covered e.below))
          ∙ sym (false_from_ne_true _ (λ w.
          let r = (and_parts _ _ w).0 in
          let k = reached_above going e.place p r e.covered e.below in
          both_ways _ (none_below e.place p e.covered e.below (by_marks e.place e.comes) k e.stops) ((and_parts _ _ w).1)))
    ]
