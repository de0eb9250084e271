-- The history of a path ends by itself.
use Rattle.std.proofs.Common.{◌≡◌, ℕ, zero, suc, ◌+◌, ◌-◌, ◌<◌, ◌≤◌, Bool, true, false, cond, List, [], ◌∷◌, refl, sym, ap, ◌∙◌, Option, Some, None, arith, inl, inr, ◌⊎◌}
use Rattle.std.specs.Option.{unwrap_or}
use borrow.Author.Tests.{ltb-true}
use Rattle.std.specs.Prelude.{nat_lt}
use Rattle.fsfs_base.specs.Paths.{Path}
use Rattle.fsfs_tree.specs.Nodes.{Node, TreeFunction, empty_node}
use Rattle.fsfs_base.specs.declared.kind.Kind.TheVariants.{Dir}
use Rattle.fsfs_tree.specs.Histories.{AreRevisions}
use Rattle.fsfs_tree.specs.PathHistories.{history_within, path_history, points_at, go_on, leads_to}

-- each point leads to a lower revision
abbrev pub Falls : (ℕ → TreeFunction) → Type 0
Falls tree = (r : ℕ) (p : Path) (n : Node) (to : ℕ × Path) → tree r p ≡ Some n → leads_to p n ≡ Some to → to.0 < r

same_points : (f g : (ℕ × Path) → List (ℕ × Path)) (o : Option (ℕ × Path)) → ((to : ℕ × Path) → o ≡ Some to → f to ≡ g to) → go_on f o ≡ go_on g o
same_points f g None h = refl
same_points f g (Some to) h = h to refl

-- more turns than the revision's number add nothing
pub enough : (tree : ℕ → TreeFunction) → Falls tree → (j k r : ℕ) (p : Path) → r < j → r < k → history_within j tree r p ≡ history_within k tree r p
enough tree falls zero k r p a b = absurd (omega arith)
enough tree falls (suc j) zero r p a b = absurd (omega arith)
enough tree falls (suc j) (suc k) r p a b = by (λ to lt. enough tree falls j k to.0 to.1 (omega arith) (omega arith)) (tree r p) refl
  where
    by : ((to : ℕ × Path) → to.0 < r → history_within j tree to.0 to.1 ≡ history_within k tree to.0 to.1) → (o : Option Node) → tree r p ≡ o
        → points_at (λ to. history_within j tree to.0 to.1) p o ≡ points_at (λ to. history_within k tree to.0 to.1) p o
    by rec None e = refl
    by rec (Some n) e = ap (λ xs. (n.last_changed, p) ∷ xs) (same_points _ _ (leads_to p n) (λ to h. rec to (falls r p n to e h)))

-- the history of a path is its point, and the history of where that leads
pub path_history-step : (tree : ℕ → TreeFunction) → Falls tree → (r : ℕ) (p : Path) (n : Node) → tree r p ≡ Some n
    → path_history tree r p ≡ (n.last_changed, p) ∷ go_on (λ to. path_history tree to.0 to.1) (leads_to p n)
path_history-step tree falls r p n e =
    let one : r + 1 ≡ suc r = omega arith in
    ap (λ k. history_within k tree r p) one
    ∙ ap (λ o. points_at (λ to. history_within r tree to.0 to.1) p o) e
    ∙ ap (λ xs. (n.last_changed, p) ∷ xs) (same_points _ _ (leads_to p n) (λ to h. enough tree falls r (to.0 + 1) to.0 to.1 (falls r p n to e h) (omega arith)))

leads : (b : Bool) (s : ℕ) (p : Path) (o : Option (ℕ × Path)) (to : ℕ × Path) → cond b (Some (s - 1, p)) o ≡ Some to → ((b ≡ true) × (to.0 ≡ s - 1)) ⊎ (o ≡ Some to)
leads true s p o to h = inl (refl, sym (ap (λ v. v.0) (some_is _ _ h)))
  where
    some_is : (x y : ℕ × Path) → Some x ≡ Some y → x ≡ y
    some_is x y e = ap (λ o. unwrap_or o x) e
leads false s p o to h = inr h

-- in a history each point leads to a lower revision
pub history_falls : (tree : ℕ → TreeFunction) (last : ℕ) → AreRevisions tree last → ((r : ℕ) (p : Path) → last < r → tree r p ≡ None) → Falls tree
history_falls tree last is beyond zero [] n to e h =
    let same : n ≡ empty_node Dir = some_is n (empty_node Dir) (sym e ∙ is.first) in
    elim (leads (nat_lt n.added n.last_changed) n.last_changed [] n.source to h) [
      | inl w ↦ absurd (let lt : n.added < n.last_changed = ltb-true n.added n.last_changed w.0 in omega (arith, ap (λ v. v.last_changed) same))
      | inr w ↦ absurd (none_some to (sym (ap (λ v. v.source) same) ∙ w))
    ]
  where
    some_is : (x y : Node) → Some x ≡ Some y → x ≡ y
    some_is x y e = cc

    none_some : (x : ℕ × Path) → None ≡ Some x → ⊥
    none_some x e = cc
history_falls tree last is beyond zero (x ∷ p) n to e h = absurd (none_some n (sym (is.alone x p) ∙ e))
  where
    none_some : (x : Node) → None ≡ Some x → ⊥
    none_some x e = cc
history_falls tree last is beyond (suc r) p n to e h = elim (lt_or r last) [
  | inr past ↦ absurd (none_some n (sym (beyond (suc r) p (omega arith)) ∙ e))
  | inl in_range ↦ (let rev = is.next r in_range in let at : n.last_changed ≤ suc r = rev.at_most p n e in let o = rev.ordered p n e in
      elim (leads (nat_lt n.added n.last_changed) n.last_changed p n.source to h) [
        | inl w ↦ (let lt : n.added < n.last_changed = ltb-true n.added n.last_changed w.0 in omega (arith, w.1))
        | inr w ↦ (let s = rev.source p to.1 n to.0 e w in omega (arith, s.0, o.added, o.props_changed))
      ])
]
  where
    none_some : (x : Node) → None ≡ Some x → ⊥
    none_some x e = cc

    lt_or : (x y : ℕ) → (x < y) ⊎ (y ≤ x)
    lt_or x y = grind arith
