-- What the marks say of the base stays true over edits.
use Rattle.std.proofs.Common.{◌≡◌, Bool, true, false, not, cond, if◌then◌else◌, List, [], ◌∷◌, ◌++◌, refl, sym, ◌∙◌, ap, subst, inl, inr, ◌⊎◌, None}
use Rattle.std.proofs.lemmas.Bool.{cases_Bool, false_from_ne_true, and_parts, both_ways}
use Rattle.std.specs.Prelude.{is_some}
use Rattle.std.specs.List.{filter}
use mathlib.Core.Bool.{false≢true}
use Rattle.fsfs_model.specs.declared.flat.mark.What.TheVariants.{Make, Gone, Text, Prop}
use Rattle.fsfs_model.specs.declared.flat.mark.What.{What}
use Rattle.fsfs_model.specs.declared.flat.mark.Mark.{Mark}
use Rattle.fsfs_base.specs.Paths.{Path, covers, is_above}
use Rattle.fsfs_tree.specs.Nodes.{TreeFunction}
use Rattle.fsfs_model.specs.Flat.Marks.{is_make, effects, outer, outer_from, made, made_by, made_after, any_covers}
use Rattle.fsfs_base.proofs.PathLemmas.{covers-refl, covers-trans}
use Rattle.fsfs_model.specs.Laws.{In}
use Rattle.fsfs_model.proofs.Bases.{IsClosed, DescribesBase, ChangesPaths}
use Rattle.fsfs_model.proofs.Tests.{found, found_in}
use Rattle.fsfs_model.proofs.MergeWalk.{gone_by, gone_from, gone_down}

-- ---- membership

pub In-append : {A : Type 0} (xs ys : List A) (x : A) → In (xs ++ ys) x → In xs x ⊎ In ys x
In-append [] ys x i = inr i
In-append (y ∷ xs) ys x (inl e) = inl (inl e)
In-append (y ∷ xs) ys x (inr i) = elim (In-append xs ys x i) [ inl w ↦ inl (inr w) | inr w ↦ inr w ]

pub In-left : {A : Type 0} (xs ys : List A) (x : A) → In xs x → In (xs ++ ys) x
In-left (y ∷ xs) ys x (inl e) = inl e
In-left (y ∷ xs) ys x (inr i) = inr (In-left xs ys x i)
In-left [] ys x i = absurd i

pub In-right : {A : Type 0} (xs ys : List A) (x : A) → In ys x → In (xs ++ ys) x
In-right [] ys x i = i
In-right (y ∷ xs) ys x i = inr (In-right xs ys x i)

pub In-filter : {A : Type 0} (p : A → Bool) (xs : List A) (x : A) → In (filter p xs) x → In xs x × (p x ≡ true)
In-filter p [] x i = absurd i
In-filter p (y ∷ xs) x i = by (In-filter p xs x) (p y) refl i
  where
    by : (In (filter p xs) x → In xs x × (p x ≡ true)) → (b : Bool) → p y ≡ b → In (cond b (y ∷ filter p xs) (filter p xs)) x → In (y ∷ xs) x × (p x ≡ true)
    by rec true e (inl q) = (inl q, ap p (sym q) ∙ e)
    by rec true e (inr w) = let r = rec w in (inr r.0, r.1)
    by rec false e w = let r = rec w in (inr r.0, r.1)

pub In-filtered : {A : Type 0} (p : A → Bool) (xs : List A) (x : A) → In xs x → p x ≡ true → In (filter p xs) x
In-filtered p [] x i h = absurd i
In-filtered p (y ∷ xs) x i h = by (λ w. In-filtered p xs x w h) (p y) refl i
  where
    by : (In xs x → In (filter p xs) x) → (b : Bool) → p y ≡ b → In (y ∷ xs) x → In (cond b (y ∷ filter p xs) (filter p xs)) x
    by rec true e (inl q) = inl q
    by rec true e (inr w) = inr (rec w)
    by rec false e (inl q) = absurd (both_ways (p y) e (ap p q ∙ h))
    by rec false e (inr w) = rec w

-- ---- one more mark

abbrev pub more : List Path → Mark → List Mark
more so_far m = if any_covers so_far m.path then [] else m ∷ []

pub outer_push : (so_far : List Path) (ms : List Mark) (m : Mark) → outer_from so_far (ms ++ m ∷ []) ≡ outer_from so_far ms ++ more (made_by so_far ms) m
outer_push so_far [] m = by (any_covers so_far m.path)
  where
    by : (b : Bool) → cond b [] (m ∷ []) ≡ [] ++ cond b [] (m ∷ [])
    by true = refl
    by false = refl
outer_push so_far (x ∷ ms) m = by (outer_push (made_after so_far x.what x.path) ms m) (any_covers so_far x.path)
  where
    by : outer_from (made_after so_far x.what x.path) (ms ++ m ∷ []) ≡ outer_from (made_after so_far x.what x.path) ms ++ more (made_by (made_after so_far x.what x.path) ms) m → (b : Bool) → cond b (outer_from (made_after so_far x.what x.path) (ms ++ m ∷ [])) (x ∷ outer_from (made_after so_far x.what x.path) (ms ++ m ∷ []))
        ≡ cond b (outer_from (made_after so_far x.what x.path) ms) (x ∷ outer_from (made_after so_far x.what x.path) ms) ++ more (made_by (made_after so_far x.what x.path) ms) m
    by rest true = rest
    by rest false = ap (λ v. x ∷ v) rest

pub made_push : (so_far : List Path) (ms : List Mark) (m : Mark) → made_by so_far (ms ++ m ∷ []) ≡ made_after (made_by so_far ms) m.what m.path
made_push so_far [] m = refl
made_push so_far (x ∷ ms) m = made_push (made_after so_far x.what x.path) ms m

pub make_adds : (so_far : List Path) (k : What) (p : Path) → is_make k ≡ true → made_after so_far k p ≡ so_far ++ p ∷ []
make_adds so_far (Make src) p h = refl
make_adds so_far Gone p h = absurd (false≢true h)
make_adds so_far Text p h = absurd (false≢true h)
make_adds so_far Prop p h = absurd (false≢true h)

module _ (base t u : TreeFunction) (marks : List Mark) (m : Mark) (cb : IsClosed base) (ct : IsClosed t) (is : DescribesBase base t marks) where
  abbrev pub longer : List Mark
  longer = marks ++ m ∷ []

  pub in_outer : (x : Mark) → In (outer marks) x → In (outer longer) x
  in_outer x i = subst (λ v. In v x) (sym (outer_push [] marks m)) (In-left (outer marks) (more (made marks) m) x i)

  pub from_outer : (x : Mark) → In (outer longer) x → In (outer marks) x ⊎ ((m ≡ x) × (any_covers (made marks) m.path ≡ false))
  from_outer x i = elim (In-append (outer marks) (more (made marks) m) x (subst (λ v. In v x) (outer_push [] marks m) i)) [
    | inl w ↦ inl w
    | inr w ↦ inr (by (any_covers (made marks) m.path) refl w)
  ]
    where
      by : (b : Bool) → any_covers (made marks) m.path ≡ b → In (cond b [] (m ∷ [])) x → (m ≡ x) × (any_covers (made marks) m.path ≡ false)
      by true e w = absurd w
      by false e (inl q) = (q, e)
      by false e (inr w) = absurd w

  pub new_outer : any_covers (made marks) m.path ≡ false → In (outer longer) m
  new_outer h = subst (λ v. In v m) (sym (outer_push [] marks m)) (In-right (outer marks) (more (made marks) m) m (subst (λ b. In (cond b [] (m ∷ [])) m) (sym h) (inl refl)))

  pub gone_stays : (p : Path) → (effects marks p).deleted ≡ true → (effects longer p).deleted ≡ true
  gone_stays p h = let g = gone_by marks p h in gone_from longer g.0 p (in_outer g.0 g.1) g.2 g.3

  stays : (x : Path) → ((is_some (base x) ≡ false) ⊎ ((effects marks x).deleted ≡ true)) → (is_some (base x) ≡ false) ⊎ ((effects longer x).deleted ≡ true)
  stays x (inl n) = inl n
  stays x (inr g) = inr (gone_stays x g)

  -- what stands in the tree and is below nothing made is in the base
  pub in_base : (p : Path) → is_some (t p) ≡ true → any_covers (made marks) p ≡ false → is_some (base p) ≡ true
  in_base p h n = elim (cases_Bool (is_some (base p))) [
    | inl w ↦ w
    | inr w ↦ let q = is.own p w h in absurd (both_ways _ n (found_in (λ v. covers v p) (made marks) q.0 q.1 q.2))
  ]

  raised : (q : Path) → In (made marks) q
      → (x : Mark) × In (outer longer) x × (is_make x.what ≡ true) × (covers x.path q ≡ true) × ((is_some (base x.path) ≡ false) ⊎ ((effects longer x.path).deleted ≡ true))
  raised q i = let x = is.top q i in (x.0, in_outer x.0 x.1, x.2, x.3, stays x.0.path x.4)

  still_based : (is_make m.what ≡ true → ⊥) → is_some (t m.path) ≡ true → (x : Mark) → In (outer longer) x → (is_make x.what ≡ true → ⊥) → is_some (base x.path) ≡ true
  still_based n h x i k = elim (from_outer x i) [
    | inl w ↦ is.based x w k
    | inr w ↦ subst (λ v. is_some (base v.path) ≡ true) w.0 (in_base m.path h w.1)
  ]

  still_placed : (is_make m.what ≡ true → ⊥) → (x : Mark) (q : Path) → In (outer longer) x → is_make x.what ≡ true → is_above q x.path ≡ true → is_some (base q) ≡ true
  still_placed n x q i k a = elim (from_outer x i) [
    | inl w ↦ is.placed x q w k a
    | inr w ↦ absurd (n (ap (λ v. is_make v.what) w.0 ∙ k))
  ]

  pub as_was : (made_after (made marks) m.what m.path ≡ made marks) → (is_make m.what ≡ true → ⊥) → is_some (t m.path) ≡ true → ((q : Path) → is_some (u q) ≡ is_some (t q)) → DescribesBase base u longer
  as_was same n h dom =
      let at : made longer ≡ made marks = made_push [] marks m ∙ same in
      record {
        based = still_based n h;
        placed = still_placed n;
        kept = λ q i. dom q ∙ is.kept q (subst (λ v. In v q) at i);
        new = λ q i. stays q (is.new q (subst (λ v. In v q) at i));
        top = λ q i. raised q (subst (λ v. In v q) at i);
        own = λ p none some. let q = is.own p none (sym (dom p) ∙ some) in (q.0, subst (λ v. In v q.0) (sym at) q.1, q.2);
        lost = λ p some none. gone_stays p (is.lost p some (sym (dom p) ∙ none));
      }

  -- delete
  pub taken : m.what ≡ Gone → ChangesPaths Gone m.path t u → DescribesBase base u longer
  taken e (some, none, outside) = record {
    based = still_based not_make some;
    placed = still_placed not_make;
    kept = λ q i. let k = left q i in outside q (negated _ k.1) ∙ is.kept q k.0;
    new = λ q i. stays q (is.new q (left q i).0);
    top = λ q i. raised q (left q i).0;
    own = λ p lacks has.
        let out : covers m.path p ≡ false = false_from_ne_true _ (λ h. both_ways _ (none p h) has) in
        let q = is.own p lacks (sym (outside p out) ∙ has) in
        (q.0, subst (λ v. In v q.0) (sym at) (In-filtered (λ v. not (covers m.path v)) (made marks) q.0 q.1 (unmade _ (λ h. both_ways _ out (covers-trans m.path q.0 p h q.2)))), q.2);
    lost = λ p has lacks. elim (cases_Bool (covers m.path p)) [
      | inr out ↦ gone_stays p (is.lost p has (sym (outside p out) ∙ lacks))
      | inl below ↦ elim (cases_Bool (any_covers (made marks) m.path)) [
        | inr outermost ↦ gone_from longer m p (new_outer outermost) e below
        | inl inner ↦ (let f = found (λ v. covers v m.path) (made marks) inner in
            elim (is.new f.0 f.1) [
              | inl n ↦ absurd (both_ways _ n (cb f.0 p (covers-trans f.0 m.path p f.2 below) has))
              | inr g ↦ gone_stays p (gone_down marks f.0 p (covers-trans f.0 m.path p f.2 below) g)
            ])
      ]
    ];
  }
    where
      not_make : is_make m.what ≡ true → ⊥
      not_make h = false≢true (sym (ap is_make e) ∙ h)

      at : made longer ≡ filter (λ q. not (covers m.path q)) (made marks)
      at = made_push [] marks m ∙ ap (λ k. made_after (made marks) k m.path) e

      left : (q : Path) → In (made longer) q → In (made marks) q × (not (covers m.path q) ≡ true)
      left q i = In-filter (λ q. not (covers m.path q)) (made marks) q (subst (λ v. In v q) at i)

      negated : (b : Bool) → not b ≡ true → b ≡ false
      negated true h = absurd (false≢true h)
      negated false h = refl

      unmade : (b : Bool) → (b ≡ true → ⊥) → not b ≡ true
      unmade true h = absurd (h refl)
      unmade false h = refl

  -- mkdir, mkfile and copy
  pub put : is_make m.what ≡ true → ChangesPaths (Make None) m.path t u → DescribesBase base u longer
  put e (none, some, above, outside) = record {
    based = λ x i k. elim (from_outer x i) [ inl w ↦ is.based x w k | inr w ↦ absurd (k (sym (ap (λ v. is_make v.what) w.0) ∙ e)) ];
    placed = λ x q i k a. elim (from_outer x i) [
      | inl w ↦ is.placed x q w k a
      | inr w ↦ in_base q (above q (subst (λ v. is_above q v.path ≡ true) (sym w.0) a))
          (false_from_ne_true _ (λ h. let f = found (λ v. covers v q) (made marks) h in
          both_ways _ w.1 (found_in (λ v. covers v m.path) (made marks) f.0 f.1 (covers-trans f.0 q m.path f.2 (and_parts _ _ (subst (λ v. is_above q v.path ≡ true) (sym w.0) a)).0))))
    ];
    kept = λ q i. elim (which q i) [
      | inl w ↦ outside q (false_from_ne_true _ (λ h. both_ways _ none (ct m.path q h (is.kept q w)))) ∙ is.kept q w
      | inr w ↦ subst (λ v. is_some (u v) ≡ true) w some
    ];
    new = λ q i. elim (which q i) [ inl w ↦ stays q (is.new q w) | inr w ↦ subst (λ v. (is_some (base v) ≡ false) ⊎ ((effects longer v).deleted ≡ true)) w here ];
    top = λ q i. elim (which q i) [
      | inl w ↦ raised q w
      | inr w ↦ subst (λ v. (x : Mark) × In (outer longer) x × (is_make x.what ≡ true) × (covers x.path v ≡ true) × ((is_some (base x.path) ≡ false) ⊎ ((effects longer x.path).deleted ≡ true))) w
          (elim (cases_Bool (any_covers (made marks) m.path)) [
            | inr outermost ↦ (m, new_outer outermost, e, covers-refl m.path, here)
            | inl inner ↦ (let f = found (λ v. covers v m.path) (made marks) inner in let x = raised f.0 f.1 in (x.0, x.1, x.2, covers-trans x.0.path f.0 m.path x.3 f.2, x.4))
          ])
    ];
    own = λ p lacks has. elim (cases_Bool (covers m.path p)) [
      | inl below ↦ (m.path, subst (λ v. In v m.path) (sym at) (In-right (made marks) (m.path ∷ []) m.path (inl refl)), below)
      | inr out ↦ (let q = is.own p lacks (sym (outside p out) ∙ has) in (q.0, subst (λ v. In v q.0) (sym at) (In-left (made marks) (m.path ∷ []) q.0 q.1), q.2))
    ];
    lost = λ p has lacks. gone_stays p (is.lost p has (elim (cases_Bool (covers m.path p)) [
      | inl below ↦ false_from_ne_true _ (λ h. both_ways _ none (ct m.path p below h))
      | inr out ↦ sym (outside p out) ∙ lacks
    ]));
  }
    where
      at : made longer ≡ made marks ++ m.path ∷ []
      at = made_push [] marks m ∙ make_adds (made marks) m.what m.path e

      which : (q : Path) → In (made longer) q → In (made marks) q ⊎ (m.path ≡ q)
      which q i = elim (In-append (made marks) (m.path ∷ []) q (subst (λ v. In v q) at i)) [ inl w ↦ inl w | inr w ↦ elim w [ inl x ↦ inr x | inr x ↦ absurd x ] ]

      here : (is_some (base m.path) ≡ false) ⊎ ((effects longer m.path).deleted ≡ true)
      here = elim (cases_Bool (is_some (base m.path))) [ inr n ↦ inl n | inl h ↦ inr (gone_stays m.path (is.lost m.path h none)) ]
