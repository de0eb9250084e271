-- Cutting a text at a byte.
use Rattle.std.proofs.Common.{◌≡◌, ℕ, Bool, true, false, cond, eqb, List, [], ◌∷◌, ◌++◌, Option, Some, None, refl, sym, ap, subst, ◌∙◌}
use Rattle.std.proofs.lemmas.Option.{some_pair_parts}
use Rattle.std.proofs.lemmas.Bool.{eqb-true, eq-eqb}
use Rattle.fsfs_base.specs.Grammar.Cuts.{Lacks, IsCutOf, cut_on, cut}

-- what was cut
pub record IsCut (c : ℕ) (text front rest : List ℕ) : Type 0 where
  pub lacks : Lacks c front
  pub parts : text ≡ front ++ c ∷ rest

pub cut_found : (c : ℕ) (text front rest : List ℕ) → cut c text ≡ Some (front, rest) → IsCut c text front rest
cut_found c [] front rest e = absurd cc
cut_found c (b ∷ bs) front rest e = go (cut_found c bs) (cut c bs) refl (eqb b c) refl e
  where
    go : ((f r : List ℕ) → cut c bs ≡ Some (f, r) → IsCut c bs f r) → (o : Option (List ℕ × List ℕ)) → cut c bs ≡ o → (t : Bool) → eqb b c ≡ t → cond t (Some ([], bs)) (cut_on (b ∷ []) (cut c bs)) ≡ Some (front, rest) → IsCut c (b ∷ bs) front rest
    go more o is true same e = let p = some_pair_parts [] front bs rest e in record { lacks = subst (λ (f : List ℕ). Lacks c f) p.0 tt; parts = rw (← p.0, ← p.1, eqb-true b c same) refl }
    go more None is false same e = let e' : cut_on (b ∷ []) None ≡ Some (front, rest) = rw is at e in absurd cc
    go more (Some q) is false same e =
        let e' : cut_on (b ∷ []) (Some q) ≡ Some (front, rest) = rw is at e in
        let p = some_pair_parts (b ∷ q.0) front q.1 rest e' in
        let w = more q.0 q.1 is in
        record { lacks = subst (λ (f : List ℕ). Lacks c f) p.0 (same, w.lacks); parts = rw (← p.0, ← p.1) (ap (λ (t : List ℕ). b ∷ t) w.parts) }

pub cut_again : (c : ℕ) (front rest : List ℕ) → Lacks c front → cut c (front ++ c ∷ rest) ≡ Some (front, rest)
cut_again c [] rest lacks = rw (eq-eqb c c refl) refl
cut_again c (b ∷ front) rest lacks = rw (lacks.0, cut_again c front rest lacks.1) refl

pub cut_none : (c : ℕ) (text : List ℕ) → cut c text ≡ None → Lacks c text
cut_none c [] e = tt
cut_none c (b ∷ bs) e = go (cut_none c bs) (cut c bs) refl (eqb b c) refl e
  where
    go : (cut c bs ≡ None → Lacks c bs) → (o : Option (List ℕ × List ℕ)) → cut c bs ≡ o → (t : Bool) → eqb b c ≡ t → cond t (Some ([], bs)) (cut_on (b ∷ []) (cut c bs)) ≡ None → Lacks c (b ∷ bs)
    go more o is true same e = absurd cc
    go more None is false same e = (same, more is)
    go more (Some q) is false same e = let e' : cut_on (b ∷ []) (Some q) ≡ None = rw is at e in absurd cc

pub lacks_parts : (c : ℕ) (a b : List ℕ) → Lacks c (a ++ b) → Lacks c a × Lacks c b
lacks_parts c [] b h = (tt, h)
lacks_parts c (x ∷ a) b h = let w = lacks_parts c a b h.1 in ((h.0, w.0), w.1)

pub lacks_from : (c : ℕ) (a b : List ℕ) → Lacks c a → Lacks c b → Lacks c (a ++ b)
lacks_from c [] b h k = k
lacks_from c (x ∷ a) b h k = (h.0, lacks_from c a b h.1 k)

-- what lacks the byte is not cut
pub cut_lacking : (c : ℕ) (t : List ℕ) → Lacks c t → cut c t ≡ None
cut_lacking c [] lacks = refl
cut_lacking c (b ∷ bs) lacks = rw (lacks.0, cut_lacking c bs lacks.1) refl

-- ---- two parts and the byte between them

pub two_lack : {X Y : Type 0} (c sep : ℕ) (G : List ℕ → X → Type 0) (H : List ℕ → Y → Type 0) → eqb sep c ≡ false → ((t : List ℕ) (x : X) → G t x → Lacks c t) → ((t : List ℕ) (y : Y) → H t y → Lacks c t) → (text : List ℕ) (p : X × Y) → IsCutOf sep G H text p → Lacks c text
two_lack c sep G H other first second text p w = subst (λ (t : List ℕ). Lacks c t) (sym w.4) (lacks_from c w.0 (sep ∷ w.1) (first w.0 p.0 w.2) (other, second w.1 p.1 w.3))

pub two_none : {X Y : Type 0} (G : List ℕ → X → Type 0) (H : List ℕ → Y → Type 0) (c : ℕ) (text : List ℕ) (p : X × Y) → ((t : List ℕ) (x : X) → G t x → Lacks c t) → None ≡ cut c text → IsCutOf c G H text p → ⊥
two_none G H c text p lacks e w = let f = e ∙ ap (cut c) w.4 ∙ cut_again c w.0 w.1 (lacks w.0 p.0 w.2) in absurd cc

pub two_parts : {X Y : Type 0} (G : List ℕ → X → Type 0) (H : List ℕ → Y → Type 0) (c : ℕ) (text front rest : List ℕ) (p : X × Y) → ((t : List ℕ) (x : X) → G t x → Lacks c t) → (let o : Option (List ℕ × List ℕ) = Some (front, rest) in o) ≡ cut c text → IsCutOf c G H text p → G front p.0 × H rest p.1
two_parts G H c text front rest p lacks e w =
    let s = some_pair_parts front w.0 rest w.1 (e ∙ ap (cut c) w.4 ∙ cut_again c w.0 w.1 (lacks w.0 p.0 w.2)) in
    (subst (λ (t : List ℕ). G t p.0) (sym s.0) w.2, subst (λ (t : List ℕ). H t p.1) (sym s.1) w.3)
