-- What a history says of any two of its revisions.
use Rattle.std.proofs.Common.{◌≡◌, ℕ, zero, suc, ◌<◌, ◌≤◌, true, not, refl, sym, ◌∙◌, ap, subst, inl, inr, ◌⊎◌, Option, Some, None, arith}
use Rattle.std.proofs.lemmas.Bool.{and_from, cases_Bool}
use Rattle.std.specs.Prelude.{is_some}
use Rattle.fsfs_base.specs.Paths.{Path, covers, is_above}
use Rattle.fsfs_tree.specs.Nodes.{Node, TreeFunction}
use Rattle.fsfs_tree.specs.Histories.{IsRevision, AreRevisions}
use Rattle.fsfs_base.proofs.PathLemmas.{covers-antisym}
use Rattle.fsfs_model.proofs.Bases.{IsLater}

-- each revision is later than itself
itself : (b : ℕ) (t : TreeFunction) → IsLater b t t
itself b t = record {
  kept = λ q p n e h c. refl;
  older = λ q n e h. (n, e, record { kind = refl; added = refl; source = refl });
  same_props = λ q n e h. (n, e, refl);
}

-- what was not changed in revision r stands as before, with all below it
kept_once : (r : ℕ) (tree : ℕ → TreeFunction) (p s : TreeFunction) → IsRevision r tree p s → (q x : Path) (n : Node) → s q ≡ Some n → n.last_changed < r → covers q x ≡ true → s x ≡ p x
kept_once r tree p s is q x n e h c = elim (cases_Bool (covers x q)) [
  | inl back ↦ subst (λ v. s v ≡ p v) (covers-antisym q x c back) (e ∙ sym (is.last_changed q n e h))
  | inr apart ↦ by (and_from _ _ c (subst (λ b. not b ≡ true) (sym apart) refl)) (s x) refl (p x) refl
]
  where
    by : is_above q x ≡ true → (o : Option Node) → s x ≡ o → (u : Option Node) → p x ≡ u → s x ≡ p x
    by ab (Some m) f u g = f ∙ sym (is.last_changed x m f (let b = is.below q x n m ab e f in omega (arith, b.1)))
    by ab None f None g = f ∙ sym g
    by ab None f (Some w) g = absurd (let t : n.last_changed ≡ r = is.taken q x n ab e f (ap is_some g) in omega arith)

after : (b r : ℕ) (tree : ℕ → TreeFunction) (base p s : TreeFunction) → b < r → IsRevision r tree p s → IsLater b base p → IsLater b base s
after b r tree base p s lt is l = record {
  kept = λ q x n e h c. kept_once r tree p s is q x n e (omega arith) c ∙ l.kept q x n (is.last_changed q n e (omega arith)) h c;
  older = λ q n e h.
      let m = is.added q n e (omega arith) in
      let o = l.older q m.0 m.1 (omega (arith, m.3)) in
      (o.0, o.1, record { kind = o.2.kind ∙ m.2; added = o.2.added ∙ m.3; source = o.2.source ∙ m.4 });
  same_props = λ q n e h.
      let m = is.props_changed q n e (omega arith) in
      let o = l.same_props q m.0 m.1 (omega (arith, m.3)) in
      (o.0, o.1, o.2 ∙ m.3);
}

pub later : (tree : ℕ → TreeFunction) (last b r : ℕ) → AreRevisions tree last → b ≤ r → r ≤ last → IsLater b (tree b) (tree r)
later tree last b zero is le ge = subst (λ v. IsLater b (tree v) (tree 0)) (omega arith) (itself b (tree 0))
later tree last b (suc r) is le ge = elim (lt_or_eq b (suc r) le) [
  | inl lt ↦ after b (suc r) tree (tree b) (tree r) (tree (suc r)) lt (is.next r (omega arith)) (later tree last b r is (omega arith) (omega arith))
  | inr e ↦ subst (λ v. IsLater b (tree v) (tree (suc r))) (sym e) (subst (λ v. IsLater v (tree (suc r)) (tree (suc r))) (sym e) (itself (suc r) (tree (suc r))))
]
  where
    lt_or_eq : (x y : ℕ) → x ≤ y → (x < y) ⊎ (x ≡ y)
    lt_or_eq x y h = grind arith
