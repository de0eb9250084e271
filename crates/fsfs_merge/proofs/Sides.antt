-- What a history and a transaction say of the three trees of a merge.
use Rattle.std.proofs.Common.{◌≡◌, ◌≤◌, ◌+◌, ℕ, zero, suc, Bool, true, false, List, [], ◌∷◌, refl, sym, ap, subst, ◌∙◌, arith, Option, Some, None}
use Rattle.std.specs.Prelude.{is_some, nat_lt}
use Rattle.std.proofs.lemmas.Bool.Decides.{nat_tests}
use mathlib.Core.Bool.{false≢true}
use Rattle.fsfs_base.specs.Paths.{Path, covers}
use Rattle.fsfs_tree.specs.Nodes.{Node, TreeFunction}
use Rattle.fsfs_model.specs.declared.flat.mark.Mark.{Mark}
use Rattle.fsfs_model.specs.Flat.Marks.{effects}
use Rattle.fsfs_model.specs.Flat.Landing.{held_by_own, held_by_head, touched_by_head, goes_on, clashes_at, reached, NoClash}
use Rattle.fsfs_tree.specs.Histories.{AreRevisions}
use Rattle.fsfs_model.specs.Flat.Transactions.{IsTransaction, Begun}
use Rattle.fsfs_model.proofs.Bases.{IsLater}
use Rattle.fsfs_model.proofs.Later.{later}
use Rattle.fsfs_model.proofs.MergeWalk.{Premises, go, touched_up, untouched}
use Rattle.fsfs_model.proofs.TwoMergesLaw.{premises}
use Rattle.fsfs_model.proofs.NextHistory.{IsWhole, whole, at_most}
use Rattle.std.proofs.lemmas.Option.{same_Some}
use Rattle.std.proofs.lemmas.Bool.{and_from, and_parts, both_ways, false_from_ne_true, le-leb, le-ltb, leb-true}

module _ (tree : ℕ → TreeFunction) (last b h : ℕ) (t : TreeFunction) (marks : List Mark) (is : AreRevisions tree last) (was : IsTransaction tree last b t marks) (le : b ≤ h) (ge : h ≤ last) where
  pub own : IsWhole tree last b t marks
  own = whole tree last b t marks is was

  pub base : IsWhole tree last b (tree b) []
  base = whole tree last b (tree b) [] is (Begun b (omega arith))

  pub head : IsWhole tree last h (tree h) []
  head = whole tree last h (tree h) [] is (Begun h ge)

  pub since : IsLater b (tree b) (tree h)
  since = later tree last b h is le ge

  pub base_most : (p : Path) (n : Node) → tree b p ≡ Some n → n.last_changed ≤ b
  base_most = at_most tree last b is (omega arith)

  -- the base against itself: nothing clashes
  touched_self : (p : Path) (n : Node) → tree b p ≡ Some n → touched_by_head b (Some n) ≡ false
  touched_self p n e = le-ltb b n.last_changed (base_most p n e)

  self_clear : NoClash b (tree b) (tree b) t marks
  self_clear p = false_from_ne_true _ (λ k. by (tree b p) refl ((and_parts _ _ k).1))
    where
      by : (o : Option Node) → tree b p ≡ o → clashes_at b (effects marks p) o o (t p) ≡ true → ⊥
      by None e k = absurd (false≢true k)
      by (Some n) e k = both_ways _ (touched_self p n e) ((and_parts _ _ ((and_parts _ _ k).0)).1)

  pub self : Premises b (tree b) (tree b) t marks
  self = premises tree last b b t marks is own.sound (omega arith) (omega arith) self_clear

  -- what goes on to the head goes on to the base itself
  goes_self : (q : Path) → goes_on b (effects marks q) (tree b q) (tree h q) ≡ true → go b (tree b) (tree b) marks q ≡ true
  goes_self q k = by (tree b q) refl ((and_parts _ _ k).0)
    where
      by : (o : Option Node) → tree b q ≡ o → held_by_own (effects marks q) o ≡ true → goes_on b (effects marks q) o o ≡ true
      by None e w = absurd (false≢true w)
      by (Some n) e w =
          let o = self.ordered q n e in
          let m = base_most q n e in
          and_from _ _ w (le-leb n.added b (omega (arith, o.added, o.props_changed, m)))

  mono : (f g : Path → Bool) → ((q : Path) → f q ≡ true → g q ≡ true) → (p : Path) → reached f p ≡ true → reached g p ≡ true
  mono f g e [] r = refl
  mono f g e (x ∷ p) r = and_from _ _ (e [] ((and_parts _ _ r).0)) (mono (λ q. f (x ∷ q)) (λ q. g (x ∷ q)) (λ q. e (x ∷ q)) p ((and_parts _ _ r).1))

  pub going_self : (p : Path) → reached (λ q. goes_on b (effects marks q) (tree b q) (tree h q)) p ≡ true → reached (go b (tree b) (tree b) marks) p ≡ true
  going_self = mono (λ q. goes_on b (effects marks q) (tree b q) (tree h q)) (go b (tree b) (tree b) marks) goes_self

  -- below what no mark touches the marks say nothing
  pub own_quiet : (q p : Path) → covers q p ≡ true → reached (λ q. goes_on b (effects marks q) (tree b q) (tree h q)) q ≡ true → is_some (tree b q) ≡ true → (effects marks q).touched ≡ false
      → ((effects marks p).touched ≡ false) × ((effects marks p).deleted ≡ false) × ((effects marks p).rewritten ≡ false) × (is_some (tree b p) ≡ false → is_some (t p) ≡ false)
  own_quiet q p c r some un =
      let u = untouched b (tree b) (tree b) t marks self q p c (mono (λ q. goes_on b (effects marks q) (tree b q) (tree h q)) (go b (tree b) (tree b) marks) goes_self q r) some un in
      (false_from_ne_true _ (λ k. both_ways _ un (touched_up marks q p c k)), u.0, u.1, u.2)

  -- below what the head did not touch it has what the base has
  pub head_quiet : (q p : Path) → covers q p ≡ true → touched_by_head b (tree h q) ≡ false → tree h p ≡ tree b p
  head_quiet q p c un = by (tree h q) refl un
    where
      by : (o : Option Node) → tree h q ≡ o → touched_by_head b o ≡ false → tree h p ≡ tree b p
      by None e k = absurd (false≢true (sym k))
      by (Some n) e k = since.kept q p n e (not_lt b n.last_changed k) c
        where
          not_lt : (a b : ℕ) → nat_lt a b ≡ false → b ≤ a
          not_lt a b h = grind (arith, nat_tests)

  pub quiet_touched : (q p : Path) → covers q p ≡ true → touched_by_head b (tree h q) ≡ false → is_some (tree b p) ≡ true → touched_by_head b (tree h p) ≡ false
  quiet_touched q p c un some = by (tree b p) refl some
    where
      by : (o : Option Node) → tree b p ≡ o → is_some o ≡ true → touched_by_head b (tree h p) ≡ false
      by None e k = absurd (false≢true k)
      by (Some n) e k = subst (λ o. touched_by_head b o ≡ false) (sym (head_quiet q p c un ∙ e)) (touched_self p n e)

  -- what the head holds is of the base's kind
  pub same_kind : (p : Path) (m n : Node) → tree b p ≡ Some m → tree h p ≡ Some n → held_by_head b (tree h p) ≡ true → m.kind ≡ n.kind
  same_kind p m n e f k =
      let o = since.older p n f (leb-true n.added b (subst (λ o. held_by_head b o ≡ true) f k)) in
      ap (λ v. v.kind) (same_Some m o.0 (sym e ∙ o.1)) ∙ o.2.kind

  -- properties that the head did not set are the base's
  pub later_props : (p : Path) (n : Node) → tree h p ≡ Some n → n.props_changed ≤ b → (m : Node) × (tree b p ≡ Some m) × (m.properties ≡ n.properties)
  later_props p n e lower = by (Rattle.std.specs.Prelude.◌-◌ h b) h n (omega arith) (omega arith) e lower
    where
      by : (d r : ℕ) (n : Node) → r ≡ d + b → r ≤ h → tree r p ≡ Some n → n.props_changed ≤ b → (m : Node) × (tree b p ≡ Some m) × (m.properties ≡ n.properties)
      by zero r n same up e lower = (n, subst (λ (x : ℕ). tree x p ≡ Some n) (let f : r ≡ b = omega arith in f) e, refl)
      by (suc d) zero n same up e lower = absurd (omega arith)
      by (suc d) (suc r) n same up e lower =
          let x = (is.next r (omega arith)).props_changed p n e (omega arith) in
          let w = by d r x.0 (omega arith) (omega arith) x.1 (omega (arith, x.3)) in
          (w.0, w.1, w.2 ∙ x.2)
