-- The walk of a merge: where it stops, and what that says of a path.
use Rattle.std.proofs.Common.{◌≡◌, ℕ, Bool, true, false, ◌&&◌, not, List, [], ◌∷◌, refl, sym, ◌∙◌, ap, subst, inl, inr, ◌⊎◌, Option, Some, None}
use Rattle.std.proofs.lemmas.Bool.{and_from, cases_Bool, or_cases, or_left, or_right, false_from_ne_true, and_parts, both_ways, not-true}
use Rattle.std.specs.Prelude.{is_some}
use borrow.Author.Tests.{ltb-false}
use mathlib.Core.Bool.{false≢true}
use Rattle.fsfs_model.specs.declared.flat.mark.What.{What}
use Rattle.fsfs_model.specs.declared.flat.mark.What.TheVariants.{Make, Gone, Text, Prop}
use Rattle.fsfs_base.specs.Paths.{Path, covers, is_above, is_root, same_name}
use Rattle.fsfs_tree.specs.Nodes.{Node, TreeFunction}
use Rattle.fsfs_model.specs.declared.flat.mark.Mark.{Mark}
use Rattle.fsfs_model.specs.declared.flat.mark.Effects.{Effects}
use Rattle.fsfs_model.specs.Flat.Marks.{is_make, effects, outer, touches, is_gone, is_rewritten}
use Rattle.fsfs_model.specs.Flat.Landing.{goes_on, touched_by_head, clashes_at, reached, NoClash}
use Rattle.fsfs_tree.specs.Trees.{AreOrdered}
use Rattle.fsfs_base.proofs.PathLemmas.{same_name-refl, same_name-is, covers-refl, covers-trans, covers-either}
use Rattle.fsfs_model.specs.Laws.{In}
use Rattle.fsfs_model.proofs.Bases.{IsClosed, IsLater, DescribesBase}
use Rattle.fsfs_model.proofs.Tests.{found, found_in, other_false}
use Rattle.fsfs_model.proofs.TwiceAt.{Region, Same, Quiet, New, Common}

-- where a walk to p stops: at p, or at the first path at or above p that does not go on
pub data Stop (go : Path → Bool) (p : Path) : Type 0 where
  Through : go p ≡ true → Stop go p
  At : (q : Path) → covers q p ≡ true → reached go q ≡ true → go q ≡ false → Stop go p

lower : (go : Path → Bool) (x : List ℕ) (p : Path) → go [] ≡ true → Stop (λ q. go (x ∷ q)) p → Stop go (x ∷ p)
lower go x p h (Through t) = Through t
lower go x p h (At q c r f) = At (x ∷ q) (and_from _ _ (same_name-refl x) c) (and_from _ _ h r) f

pub stop : (go : Path → Bool) (p : Path) → Stop go p
stop go [] = elim (cases_Bool (go [])) [ inl t ↦ Through t | inr f ↦ At [] refl refl f ]
stop go (x ∷ p) = elim (cases_Bool (go [])) [ inl t ↦ lower go x p t (stop (λ q. go (x ∷ q)) p) | inr f ↦ At [] refl refl f ]

-- a path that the walk does not come to
pub record Early (go : Path → Bool) (p : Path) : Type 0 where
  pub place : Path
  pub covered : covers place p ≡ true
  pub below : covers p place ≡ false
  pub comes : reached go place ≡ true
  pub stops : go place ≡ false

later : (go : Path → Bool) (x : List ℕ) (p : Path) → go [] ≡ true → Early (λ q. go (x ∷ q)) p → Early go (x ∷ p)
later go x p h e = record {
  place = x ∷ e.place;
  covered = and_from _ _ (same_name-refl x) e.covered;
  below = false_from_ne_true _ (λ k. both_ways _ e.below (and_parts _ _ k).1);
  comes = and_from _ _ h e.comes;
  stops = e.stops;
}

pub reached_or : (go : Path → Bool) (p : Path) → (reached go p ≡ true) ⊎ Early go p
reached_or go [] = inl refl
reached_or go (x ∷ p) = elim (cases_Bool (go [])) [
  | inr f ↦ inr (record { place = []; covered = refl; below = refl; comes = refl; stops = f })
  | inl w ↦ elim (reached_or (λ q. go (x ∷ q)) p) [ inl r ↦ inl (and_from _ _ w r) | inr e ↦ inr (later go x p w e) ]
]

pub reached_mono : (f g h : Path → Bool) → ((q : Path) → f q ≡ true → g q ≡ true → h q ≡ true) → (p : Path) → reached f p ≡ true → reached g p ≡ true → reached h p ≡ true
reached_mono f g h e [] a b = refl
reached_mono f g h e (x ∷ p) a b = and_from _ _ (e [] (and_parts _ _ a).0 (and_parts _ _ b).0) (reached_mono (λ q. f (x ∷ q)) (λ q. g (x ∷ q)) (λ q. h (x ∷ q)) (λ q. e (x ∷ q)) p (and_parts _ _ a).1 (and_parts _ _ b).1)

-- what is above a path that is reached goes on
pub reached_above : (go : Path → Bool) (g q : Path) → reached go q ≡ true → covers g q ≡ true → covers q g ≡ false → go g ≡ true
reached_above go [] [] r c n = absurd (false≢true (sym n))
reached_above go [] (y ∷ q) r c n = (and_parts _ _ r).0
reached_above go (x ∷ g) [] r c n = absurd (false≢true c)
reached_above go (x ∷ g) (y ∷ q) r c n =
    let e : x ≡ y = same_name-is x y (and_parts _ _ c).0 in
    let yx : same_name y x ≡ true = subst (λ z. same_name y z ≡ true) (sym e) (same_name-refl y) in
    reached_above (λ v. go (x ∷ v)) g q (subst (λ z. reached (λ v. go (z ∷ v)) q ≡ true) (sym e) (and_parts _ _ r).1) (and_parts _ _ c).1
    (false_from_ne_true _ (λ h. both_ways _ n (and_from _ _ yx h)))

-- ---- what the marks say

gone_is : (k : What) (q p : Path) → is_gone k q p ≡ true → (k ≡ Gone) × (covers q p ≡ true)
gone_is Gone q p h = (refl, h)
gone_is (Make src) q p h = absurd (false≢true h)
gone_is Text q p h = absurd (false≢true h)
gone_is Prop q p h = absurd (false≢true h)

pub gone_make : (k : What) → k ≡ Gone → is_make k ≡ true → ⊥
gone_make k e f = false≢true (sym (ap is_make e) ∙ f)

rewritten_is : (k : What) (q p : Path) → is_rewritten k q p ≡ true → (is_make k ≡ true → ⊥) × (covers q p ≡ true) × (covers p q ≡ true)
rewritten_is Text q p h = (λ e. cc, (and_parts _ _ h).0, (and_parts _ _ h).1)
rewritten_is Prop q p h = (λ e. cc, (and_parts _ _ h).0, (and_parts _ _ h).1)
rewritten_is (Make src) q p h = absurd (false≢true h)
rewritten_is Gone q p h = absurd (false≢true h)

touches_below : (k : What) (q p : Path) → (is_make k ≡ true → ⊥) → covers p q ≡ true → touches k q p ≡ true
touches_below (Make src) q p n c = absurd (n refl)
touches_below Gone q p n c = c
touches_below Text q p n c = c
touches_below Prop q p n c = c

touches_made : (k : What) (q p : Path) → is_make k ≡ true → is_above p q ≡ true → touches k q p ≡ true
touches_made (Make src) q p n c = c
touches_made Gone q p n c = cc
touches_made Text q p n c = cc
touches_made Prop q p n c = cc

-- what is touched below a path touches it
touches_up : (k : What) (m q p : Path) → covers q p ≡ true → touches k m p ≡ true → touches k m q ≡ true
touches_up (Make src) m q p c h =
    and_from _ _ (covers-trans q p m c (and_parts _ _ h).0)
    (elim (cases_Bool (covers m q)) as (λ _. not (covers m q) ≡ true) [
      | inl w ↦ absurd (both_ways _ (not-true _ (and_parts _ _ h).1) (covers-trans m q p w c))
      | inr w ↦ subst (λ b. not b ≡ true) (sym w) refl
    ])
touches_up Gone m q p c h = covers-trans q p m c h
touches_up Text m q p c h = covers-trans q p m c h
touches_up Prop m q p c h = covers-trans q p m c h

module _ (marks : List Mark) where
  pub gone_by : (p : Path) → (effects marks p).deleted ≡ true → (m : Mark) × In (outer marks) m × (m.what ≡ Gone) × (covers m.path p ≡ true)
  gone_by p h =
      let f = found (λ m. is_gone m.what m.path p) (outer marks) h in
      let g = gone_is f.0.what f.0.path p f.2 in
      (f.0, f.1, g.0, g.1)

  gone_holds : (k : What) (q p : Path) → k ≡ Gone → covers q p ≡ true → is_gone k q p ≡ true
  gone_holds Gone q p e c = c
  gone_holds (Make src) q p e c = cc
  gone_holds Text q p e c = cc
  gone_holds Prop q p e c = cc

  pub gone_from : (m : Mark) (p : Path) → In (outer marks) m → m.what ≡ Gone → covers m.path p ≡ true → (effects marks p).deleted ≡ true
  gone_from m p i e c = found_in (λ v. is_gone v.what v.path p) (outer marks) m i (gone_holds m.what m.path p e c)

  pub gone_down : (q p : Path) → covers q p ≡ true → (effects marks q).deleted ≡ true → (effects marks p).deleted ≡ true
  gone_down q p c h = let g = gone_by q h in gone_from g.0 p g.1 g.2 (covers-trans _ q p g.3 c)

  pub rewritten_by : (p : Path) → (effects marks p).rewritten ≡ true → (m : Mark) × In (outer marks) m × (is_make m.what ≡ true → ⊥) × (covers m.path p ≡ true) × (covers p m.path ≡ true)
  rewritten_by p h =
      let f = found (λ m. is_rewritten m.what m.path p) (outer marks) h in
      let g = rewritten_is f.0.what f.0.path p f.2 in
      (f.0, f.1, g.0, g.1, g.2)

  pub touched_from : (m : Mark) (q : Path) → In (outer marks) m → touches m.what m.path q ≡ true → (effects marks q).touched ≡ true
  touched_from m q i h = or_right _ _ (found_in (λ v. touches v.what v.path q) (outer marks) m i h)

  pub touched_below : (m : Mark) (q : Path) → In (outer marks) m → (is_make m.what ≡ true → ⊥) → covers q m.path ≡ true → (effects marks q).touched ≡ true
  touched_below m q i n c = touched_from m q i (touches_below m.what m.path q n c)

  pub touched_made : (m : Mark) (q : Path) → In (outer marks) m → is_make m.what ≡ true → covers q m.path ≡ true → covers m.path q ≡ false → (effects marks q).touched ≡ true
  touched_made m q i n c f = touched_from m q i (touches_made m.what m.path q n (and_from _ _ c (subst (λ b. not b ≡ true) (sym f) refl)))

  root_up : (q p : Path) → covers q p ≡ true → is_root p ≡ true → is_root q ≡ true
  root_up [] p c h = refl
  root_up (x ∷ q) [] c h = absurd (false≢true c)
  root_up (x ∷ q) (y ∷ p) c h = absurd (false≢true h)

  -- what is touched touches what is above it
  pub touched_up : (q p : Path) → covers q p ≡ true → (effects marks p).touched ≡ true → (effects marks q).touched ≡ true
  touched_up q p c h = elim (or_cases _ _ h) [
    | inl w ↦ or_left _ _ (root_up q p c w)
    | inr w ↦ let f = found (λ m. touches m.what m.path p) (outer marks) w in touched_from f.0 q f.1 (touches_up f.0.what f.0.path q p c f.2)
  ]

touches_what : (k : What) (m p : Path) → touches k m p ≡ true → ((is_make k ≡ true) × (is_above p m ≡ true)) ⊎ ((is_make k ≡ true → ⊥) × (covers p m ≡ true))
touches_what (Make src) m p h = inl (refl, h)
touches_what Gone m p h = inr (λ e. cc, h)
touches_what Text m p h = inr (λ e. cc, h)
touches_what Prop m p h = inr (λ e. cc, h)

-- ---- the two sides

-- what a merge without a clash may count on
pub record Premises (base : ℕ) (a s t : TreeFunction) (marks : List Mark) : Type 0 where
  pub rooted : is_some (a []) ≡ true
  pub closed_base : IsClosed a
  pub closed_head : IsClosed s
  pub closed_own : IsClosed t
  pub ordered : AreOrdered s
  pub later : IsLater base a s
  pub own : DescribesBase a t marks
  pub clear : NoClash base a s t marks

abbrev pub go : ℕ → TreeFunction → TreeFunction → List Mark → Path → Bool
go base a s marks q = goes_on base (effects marks q) (a q) (s q)

-- what is not there is not held, and the rest of `goes_on`
pub goes_gone : (base : ℕ) (d : Effects) (a s : Option Node) → goes_on base d a s ≡ true → d.deleted ≡ false
goes_gone base d a s h = not-true _ (and_parts _ _ (and_parts _ _ h).0).1

pub goes_base : (base : ℕ) (d : Effects) (a s : Option Node) → goes_on base d a s ≡ true → is_some a ≡ true
goes_base base d a s h = (and_parts _ _ (and_parts _ _ h).0).0

pub goes_head : (base : ℕ) (d : Effects) (a s : Option Node) → goes_on base d a s ≡ true → is_some s ≡ true
goes_head base d a None h = absurd (false≢true (and_parts _ _ h).1)
goes_head base d a (Some s) h = refl

-- without a clash at a path that the walk comes to and that does not go on, one side left it alone
pub quiet_side : (base : ℕ) (d : Effects) (a : Node) (s t : Option Node) → clashes_at base d (Some a) s t ≡ false → goes_on base d (Some a) s ≡ false → (d.touched ≡ false) ⊎ (touched_by_head base s ≡ false)
quiet_side base d a s t n g = elim (cases_Bool d.touched) [
  | inr f ↦ inl f
  | inl w ↦ elim (cases_Bool (touched_by_head base s)) [
    | inr f ↦ inr f
    | inl v ↦ absurd (both_ways _ n (and_from _ _ (and_from _ _ w v) (or_left _ _ (or_left _ _ (or_right _ _ (subst (λ b. not b ≡ true) (sym g) refl))))))
  ]
]

pub some_not : (o : Option Node) → o ≡ None → is_some o ≡ true → ⊥
some_not o e h = both_ways _ (ap is_some e) h

module _ (base : ℕ) (a s t : TreeFunction) (marks : List Mark) (is : Premises base a s t marks) where
  -- nothing that the marks took away is above a path that is reached
  pub not_gone_above : (m : Mark) (q : Path) → In (outer marks) m → m.what ≡ Gone → reached (go base a s marks) q ≡ true → covers m.path q ≡ true → covers q m.path ≡ false → ⊥
  not_gone_above m q i e r c f =
      both_ways _ (goes_gone base (effects marks m.path) (a m.path) (s m.path) (reached_above (go base a s marks) m.path q r c f)) (gone_from marks m m.path i e (covers-refl m.path))

  -- what the base lacks was made, by an outer mark
  pub made_top : (p : Path) → is_some (a p) ≡ false → is_some (t p) ≡ true
      → (m : Mark) × In (outer marks) m × (is_make m.what ≡ true) × (covers m.path p ≡ true) × ((is_some (a m.path) ≡ false) ⊎ ((effects marks m.path).deleted ≡ true))
  made_top p none h =
      let q = is.own.own p none h in
      let m = is.own.top q.0 q.1 in
      (m.0, m.1, m.2, covers-trans m.0.path q.0 p m.3 q.2, m.4)

  -- a path below which a side did nothing
  pub untouched : (q p : Path) → covers q p ≡ true → reached (go base a s marks) q ≡ true → is_some (a q) ≡ true → (effects marks q).touched ≡ false
      → ((effects marks p).deleted ≡ false) × ((effects marks p).rewritten ≡ false) × (is_some (a p) ≡ false → is_some (t p) ≡ false)
  untouched q p c r some un = (gone, rewritten, own)
    where
      below : (m : Mark) → In (outer marks) m → (is_make m.what ≡ true → ⊥) → covers q m.path ≡ true → ⊥
      below m i n k = both_ways _ un (touched_below marks m q i n k)

      taken : (m : Mark) → In (outer marks) m → m.what ≡ Gone → covers m.path q ≡ true → ⊥
      taken m i e k = elim (cases_Bool (covers q m.path)) [
        | inl w ↦ below m i (gone_make _ e) w
        | inr w ↦ not_gone_above m q i e r k w
      ]

      gone : (effects marks p).deleted ≡ false
      gone = false_from_ne_true _ (λ h. let g = gone_by marks p h in elim (covers-either q g.0.path p c g.3) [
        | inl w ↦ below g.0 g.1 (gone_make _ g.2) w
        | inr w ↦ taken g.0 g.1 g.2 w
      ])

      rewritten : (effects marks p).rewritten ≡ false
      rewritten = false_from_ne_true _ (λ h. let g = rewritten_by marks p h in below g.0 g.1 g.2 (covers-trans q p g.0.path c g.4))

      lost : (m : Mark) → covers m.path q ≡ true → ((is_some (a m.path) ≡ false) ⊎ ((effects marks m.path).deleted ≡ true)) → ⊥
      lost m k (inl none) = both_ways _ none (is.closed_base m.path q k some)
      lost m k (inr g) = let b = gone_by marks m.path g in taken b.0 b.1 b.2 (covers-trans b.0.path m.path q b.3 k)

      own : is_some (a p) ≡ false → is_some (t p) ≡ false
      own none = false_from_ne_true _ (λ h. let m = made_top p none h in elim (covers-either q m.0.path p c m.3) [
        | inr w ↦ lost m.0 w m.4
        | inl w ↦ elim (cases_Bool (covers m.0.path q)) [
          | inl v ↦ lost m.0 v m.4
          | inr v ↦ both_ways _ un (touched_made marks m.0 q m.1 m.2 w v)
        ]
      ])

  -- a path that the head left alone
  left_alone : (q p : Path) → covers q p ≡ true → touched_by_head base (s q) ≡ false → Region (effects marks p) (a p) (s p) (t p)
  left_alone q p c un = by (s q) refl un
    where
      by : (o : Option Node) → s q ≡ o → touched_by_head base o ≡ false → Region (effects marks p) (a p) (s p) (t p)
      by None e h = absurd (false≢true (sym h))
      by (Some n) e h = Same (is.later.kept q p n e (ltb-false base n.last_changed h) c)

  -- a name that is not in the base
  pub fresh : (q p : Path) → covers q p ≡ true → reached (go base a s marks) q ≡ true → a q ≡ None
      → (is_some (a p) ≡ false) × ((effects marks p).deleted ≡ false) × ((effects marks p).rewritten ≡ false) × ((is_some (s q) && is_some (t q)) ≡ false)
  fresh q p c r none = (false_from_ne_true _ (λ h. in_base p c h), gone, rewritten, unclear)
    where
      in_base : (x : Path) → covers q x ≡ true → is_some (a x) ≡ true → ⊥
      in_base x k h = some_not _ none (is.closed_base q x k h)

      gone : (effects marks p).deleted ≡ false
      gone = false_from_ne_true _ (λ h. let g = gone_by marks p h in let based : is_some (a g.0.path) ≡ true = is.own.based g.0 g.1 (gone_make _ g.2) in
          elim (covers-either q g.0.path p c g.3) [
            | inl w ↦ in_base g.0.path w based
            | inr w ↦ elim (cases_Bool (covers q g.0.path)) [
              | inl v ↦ in_base g.0.path v based
              | inr v ↦ not_gone_above g.0 q g.1 g.2 r w v
            ]
          ])

      rewritten : (effects marks p).rewritten ≡ false
      rewritten = false_from_ne_true _ (λ h. let g = rewritten_by marks p h in in_base g.0.path (covers-trans q p g.0.path c g.4) (is.own.based g.0 g.1 g.2))

      unclear : clashes_at base (effects marks q) None (s q) (t q) ≡ false
      unclear = subst (λ o. clashes_at base (effects marks q) o (s q) (t q) ≡ false) none (other_false _ _ (is.clear q) r)

  -- what is touched is in the base
  pub touched_in_base : (p : Path) → (effects marks p).touched ≡ true → is_some (a p) ≡ true
  touched_in_base p h = elim (or_cases _ _ h) [
    | inl w ↦ root p w
    | inr w ↦ let f = found (λ m. touches m.what m.path p) (outer marks) w in elim (touches_what f.0.what f.0.path p f.2) [
      | inl k ↦ is.own.placed f.0 p f.1 k.0 k.1
      | inr k ↦ is.closed_base p f.0.path k.1 (is.own.based f.0 f.1 k.0)
    ]
  ]
    where
      root : (q : Path) → is_root q ≡ true → is_some (a q) ≡ true
      root [] w = is.rooted
      root (x ∷ q) w = absurd (false≢true w)

  -- a path that the walk comes to and that no mark touches
  pub quiet : (p : Path) → reached (go base a s marks) p ≡ true → (effects marks p).touched ≡ false → ((effects marks p).deleted ≡ false) × ((effects marks p).rewritten ≡ false)
  quiet p r un = (
    false_from_ne_true _ (λ h. let g = gone_by marks p h in elim (cases_Bool (covers p g.0.path)) [
      | inl w ↦ both_ways _ un (touched_below marks g.0 p g.1 (gone_make _ g.2) w)
      | inr w ↦ not_gone_above g.0 p g.1 g.2 r g.3 w
    ]),
    false_from_ne_true _ (λ h. let g = rewritten_by marks p h in both_ways _ un (touched_below marks g.0 p g.1 g.2 g.4)),
  )

  stopped : (q p : Path) → covers q p ≡ true → reached (go base a s marks) q ≡ true → go base a s marks q ≡ false → Region (effects marks p) (a p) (s p) (t p)
  stopped q p c r f = by (a q) refl
    where
      by : (o : Option Node) → a q ≡ o → Region (effects marks p) (a p) (s p) (t p)
      by None e = let f = fresh q p c r e in New f.0 f.1 f.2 (false_from_ne_true _ (λ h. both_ways _ f.3 (and_from _ _ (is.closed_head q p c (and_parts _ _ h).0) (is.closed_own q p c (and_parts _ _ h).1))))
      by (Some n) e =
          elim (quiet_side base (effects marks q) n (s q) (t q) (subst (λ o. clashes_at base (effects marks q) o (s q) (t q) ≡ false) e (other_false _ _ (is.clear q) r)) (subst (λ o. goes_on base (effects marks q) o (s q) ≡ false) e f)) [
            | inl un ↦ (let f = untouched q p c r (ap is_some e) un in Quiet (false_from_ne_true _ (λ h. both_ways _ un (touched_up marks q p c h))) f.0 f.1 f.2)
            | inr un ↦ left_alone q p c un
          ]

  -- where nothing clashes, each path is in one of the regions
  pub region : (p : Path) → Region (effects marks p) (a p) (s p) (t p)
  region p = elim (stop (go base a s marks) p) [
    | Through w ↦ Common (goes_base base (effects marks p) (a p) (s p) w) (goes_head base (effects marks p) (a p) (s p) w) (goes_gone base (effects marks p) (a p) (s p) w)
    | At q c r f ↦ stopped q p c r f
  ]
