-- Copy roots on the way down a path.
use Rattle.std.proofs.Math.Seq.{take-length}
use Rattle.std.proofs.Common.{◌≡◌, ◌≤◌, ◌⊎◌, ℕ, suc, max, true, [], ◌∷◌, ◌++◌, length, take, refl, sym, ap, subst, ◌∙◌, arith, inl, inr}
use Rattle.std.specs.Prelude.{◌≢◌}
use Rattle.std.proofs.lemmas.List.{take-append-le}
use Rattle.fsfs_base.specs.Paths.{PathName, Path}
use Rattle.fsfs_revision.specs.Told.{RevisionBytes}
use Rattle.fsfs_noderev.specs.declared.node_rev.NodeRev.{NodeRev}
use Rattle.fsfs_revision.specs.Shows.Reading.{StandsAt}
use Rattle.fsfs_revision.specs.Shows.Chains.{copy_root_of, IsCopiedIn}
use Rattle.fsfs_revision.specs.Shows.Shown.{Nearest}
use Rattle.fsfs_revision.proofs.OneWalk.{stands_same}
use Rattle.fsfs_revision.proofs.Roots.{length_push}

-- the paths at or above p and one name
pub short : (p : Path) (name : PathName) (k : ℕ) → k ≤ length p → take k (p ++ name ∷ []) ≡ take k p
short p name k le = rw take-append-le

pub split : (k n : ℕ) → k ≤ suc n → (k ≤ n) ⊎ (k ≡ suc n)
split k n h = grind arith

pub same_or_not : (a b : ℕ) → (a ≡ b) ⊎ (a ≢ b)
same_or_not a b = by (Rattle.std.specs.Prelude.nat_eq a b) refl
  where
    by : (t : Rattle.std.specs.Prelude.Bool) → Rattle.std.specs.Prelude.nat_eq a b ≡ t → (a ≡ b) ⊎ (a ≢ b)
    by Rattle.std.specs.Prelude.true e = inl (grind (arith, Rattle.std.proofs.lemmas.Bool.Decides.nat_tests))
    by Rattle.std.specs.Prelude.false e = inr (λ h. grind (arith, Rattle.std.proofs.lemmas.Bool.Decides.nat_tests))

module _ (look : RevisionBytes) (r : ℕ) (p : Path) (name : PathName) (v : NodeRev) (at : StandsAt look r (p ++ name ∷ []) v) where
  all : take (suc (length p)) (p ++ name ∷ []) ≡ p ++ name ∷ []
  all = ap (λ (n : ℕ). take n (p ++ name ∷ [])) (sym (length_push p name)) ∙ take-length (p ++ name ∷ [])

  here : StandsAt look r (take (suc (length p)) (p ++ name ∷ [])) v
  here = subst (λ (x : Path). StandsAt look r x v) (sym all) at

  is_here : (k : ℕ) (q : NodeRev) → k ≡ suc (length p) → StandsAt look r (take k (p ++ name ∷ [])) q → q ≡ v
  is_here k q e s = stands_same look r (p ++ name ∷ []) q v (subst (λ (x : Path). StandsAt look r x q) (ap (λ (n : ℕ). take n (p ++ name ∷ [])) e ∙ all) s) at

  up : (k : ℕ) (q : NodeRev) → k ≤ length p → StandsAt look r (take k (p ++ name ∷ [])) q → StandsAt look r (take k p) q
  up k q le s = subst (λ (x : Path). StandsAt look r x q) (short p name k le) s

  down : (k : ℕ) (q : NodeRev) → k ≤ length p → StandsAt look r (take k p) q → StandsAt look r (take k (p ++ name ∷ [])) q
  down k q le s = subst (λ (x : Path). StandsAt look r x q) (sym (short p name k le)) s

  within : (k : ℕ) → k ≤ length (p ++ name ∷ []) → k ≤ suc (length p)
  within k le = let e = length_push p name in omega (arith, e)

  pub copied_down : (c : ℕ) → IsCopiedIn look r p c → IsCopiedIn look r (p ++ name ∷ []) (max c (copy_root_of v).0)
  copied_down c is = record {
    at_most = λ k q le s. elim (split k (length p) (within k le)) [
      | inl low ↦ (let h = is.at_most k q low (up k q low s) in omega arith)
      | inr e ↦ (let same = is_here k q e s in let h = ap (λ (x : NodeRev). (copy_root_of x).0) same in omega arith)
    ];
    some = elim (bigger c (copy_root_of v).0) [
      | inl is_c ↦ (let s = is.some in (s.0, s.1, (let e = length_push p name in let w = s.2 in omega (arith, e)), down s.0 s.1 s.2 s.3, s.4 ∙ sym is_c))
      | inr is_v ↦ (suc (length p), v, (let e = length_push p name in omega (arith, e)), here, sym is_v)
    ];
  }
    where
      bigger : (a b : ℕ) → (max a b ≡ a) ⊎ (max a b ≡ b)
      bigger a b = grind arith

  -- the nearest is what stands here, or the nearest above
  pub nearest_here : (a : ℕ) → (copy_root_of v).0 ≡ a → (z : Nearest look r (p ++ name ∷ []) a) × (z.node ≡ v)
  nearest_here a e = (
    record {
      depth = suc (length p);
      within = (let f = length_push p name in omega (arith, f));
      node = v;
      stands = here;
      root = e;
      nearest = λ k q less le s. absurd (let f = within k le in omega arith);
    },
    refl,
  )

  pub nearest_above : (a : ℕ) → (copy_root_of v).0 ≢ a → (w : Nearest look r p a) → (z : Nearest look r (p ++ name ∷ []) a) × (z.node ≡ w.node)
  nearest_above a other w = (
    record {
      depth = w.depth;
      within = (let f = length_push p name in let x = w.within in omega (arith, f));
      node = w.node;
      stands = down w.depth w.node w.within w.stands;
      root = w.root;
      nearest = λ k q less le s. elim (split k (length p) (within k le)) [
        | inl low ↦ w.nearest k q less low (up k q low s)
        | inr e ↦ subst (λ (x : NodeRev). (copy_root_of x).0 ≢ a) (sym (is_here k q e s)) other
      ];
    },
    refl,
  )

  pub data NearestIs (a : ℕ) (w : Nearest look r (p ++ name ∷ []) a) : Type 0 where
    AtPath : w.node ≡ v → (copy_root_of v).0 ≡ a → NearestIs a w
    Above : (copy_root_of v).0 ≢ a → (z : Nearest look r p a) → z.node ≡ w.node → NearestIs a w

  pub nearest_is : (a : ℕ) (w : Nearest look r (p ++ name ∷ []) a) → NearestIs a w
  nearest_is a w = elim (split w.depth (length p) (within w.depth w.within)) [
    | inr e ↦ (let same = is_here w.depth w.node e w.stands in AtPath same (ap (λ (x : NodeRev). (copy_root_of x).0) (sym same) ∙ w.root))
    | inl low ↦ Above (w.nearest (suc (length p)) v (omega arith) (let f = length_push p name in omega (arith, f)) here) (record {
      depth = w.depth;
      within = low;
      node = w.node;
      stands = up w.depth w.node low w.stands;
      root = w.root;
      nearest = λ k q less le s. w.nearest k q less (let f = length_push p name in omega (arith, f)) (down k q le s);
    }) refl
  ]

-- the nearest at the path itself, where that has the revision
pub nearest_at : (look : RevisionBytes) (r : ℕ) (p : Path) (a : ℕ) (v : NodeRev) → StandsAt look r p v → (copy_root_of v).0 ≡ a → (z : Nearest look r p a) → z.node ≡ v
nearest_at look r p a v at root z = elim (Rattle.fsfs_draft.proofs.Coming.below_or_at z.depth (length p) z.within) [
  | inl less ↦ absurd (z.nearest (length p) v less (omega arith) (subst (λ (x : Path). StandsAt look r x v) (sym (take-length p)) at) root)
  | inr e ↦ stands_same look r p z.node v (subst (λ (x : Path). StandsAt look r x z.node) (ap (λ (n : ℕ). take n p) e ∙ take-length p) z.stands) at
]
