-- What the folded changes of a transaction tell of its tree.
use Rattle.std.proofs.Common.{◌≡◌, ◌∙◌, sym, ap, refl, subst, None, Option, List, [], ◌∷◌, ◌++◌, Bool, true, false, not, inl, inr, ◌⊎◌}
use Rattle.std.proofs.lemmas.Bool.{and_from, cases_Bool, or_cases, or_left, or_right, false_from_ne_true, and_parts, both_ways, not-true}
use Rattle.std.specs.Prelude.{is_some}
use mathlib.Core.Bool.{false≢true}
use Rattle.fsfs_model.specs.declared.flat.mark.Mark.{Mark}
use Rattle.fsfs_model.specs.declared.flat.mark.What.{What}
use Rattle.fsfs_model.specs.declared.flat.mark.What.TheVariants.{Make, Gone, Text, Prop}
use Rattle.fsfs_base.specs.declared.action.Action.{Action}
use Rattle.fsfs_base.specs.declared.action.Action.TheVariants.{Modify}
use Rattle.fsfs_model.specs.declared.flat.folded.Folded.{Folded}
use Rattle.fsfs_base.specs.Paths.{Path, covers, is_above, same_path}
use Rattle.fsfs_tree.specs.Nodes.{TreeFunction}
use Rattle.fsfs_model.specs.Flat.Marks.{outer, made, made_after, effects, any_covers, is_make, touches, is_rewritten}
use Rattle.fsfs_model.specs.Flat.Folding.{fold_from, fold_mark, joined, deletes}
use Rattle.fsfs_base.proofs.PathLemmas.{covers-refl, covers-trans, covers-antisym, covers-either, same_path-is, same_path-refl}
use Rattle.fsfs_model.specs.Laws.{In}
use Rattle.fsfs_model.proofs.Bases.{IsClosed, DescribesBase}
use Rattle.fsfs_model.proofs.Tests.{found, found_in}
use Rattle.fsfs_model.proofs.MergeWalk.{gone_by, gone_from, touched_below, rewritten_by}
use Rattle.fsfs_model.proofs.Owns.{In-append, In-left, In-right, In-filter, In-filtered, made_push, make_adds, longer, in_outer, from_outer, new_outer}
use Rattle.fsfs_model.proofs.Joined.{says, adds, makes, tells, modifies, says_some, adds_makes, tells_not_adds, deletes_tells, add_makes, add_adds, add_tells, add_not_deletes, delete_undoes, delete_deletes, delete_not_makes, modify_some, modify_keeps, fold_push, fold_here, fold_beside, fold_other, fold_below}

-- what is said of a path
abbrev pub said_of : List Mark → Path → Option Folded
said_of marks p = fold_from p None marks

pub record FoldTells (t : TreeFunction) (marks : List Mark) : Type 0 where
  -- the paths made are those of an add or a replace
  pub made_said : (p : Path) → In (made marks) p → says makes (said_of marks p) ≡ true
  pub said_made : (p : Path) → says makes (said_of marks p) ≡ true → In (made marks) p
  -- what is deleted isn't there, and nothing is said below what isn't there
  pub absent : (p : Path) → says deletes (said_of marks p) ≡ true → is_some (t p) ≡ false
  pub silent : (q p : Path) → is_some (t q) ≡ false → is_above q p ≡ true → said_of marks p ≡ None
  -- what something is said of was touched, or something above it was made, or it was added
  pub known : (p : Path) → is_some (said_of marks p) ≡ true → says adds (said_of marks p) ≡ false
      → ((x : Path) × In (made marks) x × (is_above x p ≡ true)) ⊎ ((effects marks p).touched ≡ true)
  -- what was taken away or changed is told of, there or above
  pub gone_told : (p : Path) → (effects marks p).deleted ≡ true → (q : Path) × (covers q p ≡ true) × (says tells (said_of marks q) ≡ true)
  pub rewritten_told : (p : Path) → (effects marks p).rewritten ≡ true → (q : Path) × (covers q p ≡ true) × (is_some (said_of marks q) ≡ true)

pub tells_nothing : (t : TreeFunction) → FoldTells t []
tells_nothing t = record {
  made_said = λ p i. absurd i;
  said_made = λ p h. absurd (false≢true h);
  absent = λ p h. absurd (false≢true h);
  silent = λ q p n ab. refl;
  known = λ p h. absurd (false≢true h);
  gone_told = λ p h. absurd (false≢true h);
  rewritten_told = λ p h. absurd (false≢true h);
}

module _ (base t u : TreeFunction) (marks : List Mark) (m : Mark) (cb : IsClosed base) (ct : IsClosed t) (is : DescribesBase base t marks) (tell : FoldTells t marks) where
  abbrev pub after : List Mark
  after = longer base t u marks m cb ct is

  now : (q : Path) → said_of after q ≡ fold_mark q (said_of marks q) m
  now q = fold_push q None marks m

  here : said_of after m.path ≡ joined (said_of marks m.path) m.kind m.what
  here = now m.path ∙ fold_here (said_of marks m.path) m

  at : (q : Path) → same_path m.path q ≡ true → m.path ≡ q
  at q h = same_path-is m.path q h

  -- a path made is not below one that isn't there
  made_there : (p : Path) → says makes (said_of marks p) ≡ true → is_some (t p) ≡ true
  made_there p h = is.kept p (tell.said_made p h)

  touched_stays : (p : Path) → (effects marks p).touched ≡ true → (effects after p).touched ≡ true
  touched_stays p h = elim (or_cases _ _ h) [
    | inl w ↦ or_left _ _ w
    | inr w ↦ let f = found (λ x. touches x.what x.path p) (outer marks) w in
        or_right _ _ (found_in (λ x. touches x.what x.path p) (outer after) f.0 (in_outer base t u marks m cb ct is f.0 f.1) f.2)
  ]

  gone_was : (p : Path) → (effects after p).deleted ≡ true → ((effects marks p).deleted ≡ true) ⊎ ((m.what ≡ Gone) × (covers m.path p ≡ true) × (any_covers (made marks) m.path ≡ false))
  gone_was p h = let g = gone_by after p h in elim (from_outer base t u marks m cb ct is g.0 g.1) [
    | inl w ↦ inl (gone_from marks g.0 p w g.2 g.3)
    | inr w ↦ inr (ap (λ v. v.what) w.0 ∙ g.2, subst (λ v. covers v.path p ≡ true) (sym w.0) g.3, w.1)
  ]

  rewritten_was : (p : Path) → (effects after p).rewritten ≡ true → ((effects marks p).rewritten ≡ true) ⊎ (is_rewritten m.what m.path p ≡ true)
  rewritten_was p h = let f = found (λ x. is_rewritten x.what x.path p) (outer after) h in elim (from_outer base t u marks m cb ct is f.0 f.1) [
    | inl w ↦ inl (found_in (λ x. is_rewritten x.what x.path p) (outer marks) f.0 w f.2)
    | inr w ↦ inr (subst (λ v. is_rewritten v.what v.path p ≡ true) (sym w.0) f.2)
  ]

  -- ---- an add
  module _ (mk : is_make m.what ≡ true) (none : is_some (t m.path) ≡ false) (some : is_some (u m.path) ≡ true) (up : (q : Path) → is_above q m.path ≡ true → is_some (t q) ≡ true)
      (out : (q : Path) → covers m.path q ≡ false → is_some (u q) ≡ is_some (t q)) where
    not_gone : m.what ≡ Gone → ⊥
    not_gone e = false≢true (sym (ap is_make e) ∙ mk)

    made_is : made after ≡ made marks ++ m.path ∷ []
    made_is = made_push [] marks m ∙ make_adds (made marks) m.what m.path mk

    other : (q : Path) → same_path m.path q ≡ false → said_of after q ≡ said_of marks q
    other q h = now q ∙ fold_other q (said_of marks q) m h not_gone

    not_made : says makes (said_of marks m.path) ≡ false
    not_made = false_from_ne_true _ (λ h. both_ways _ none (made_there m.path h))

    made_now : (k : What) → is_make k ≡ true → says makes (joined (said_of marks m.path) m.kind k) ≡ true
    made_now (Make src) e = add_makes (said_of marks m.path) m.kind src
    made_now Gone e = absurd (false≢true e)
    made_now Text e = absurd (false≢true e)
    made_now Prop e = absurd (false≢true e)

    added_now : (k : What) → is_make k ≡ true → says deletes (said_of marks m.path) ≡ false → says adds (joined (said_of marks m.path) m.kind k) ≡ true
    added_now (Make src) e d = add_adds (said_of marks m.path) m.kind src d
    added_now Gone e d = absurd (false≢true e)
    added_now Text e d = absurd (false≢true e)
    added_now Prop e d = absurd (false≢true e)

    told_now : (k : What) → is_make k ≡ true → says tells (said_of marks m.path) ≡ true → says tells (joined (said_of marks m.path) m.kind k) ≡ true
    told_now (Make src) e d = add_tells (said_of marks m.path) m.kind src d not_made
    told_now Gone e d = absurd (false≢true e)
    told_now Text e d = absurd (false≢true e)
    told_now Prop e d = absurd (false≢true e)

    kept_now : (k : What) → is_make k ≡ true → says deletes (joined (said_of marks m.path) m.kind k) ≡ false
    kept_now (Make src) e = add_not_deletes (said_of marks m.path) m.kind src
    kept_now Gone e = absurd (false≢true e)
    kept_now Text e = absurd (false≢true e)
    kept_now Prop e = absurd (false≢true e)

    some_stays : (q : Path) → is_some (said_of marks q) ≡ true → is_some (said_of after q) ≡ true
    some_stays q h = elim (cases_Bool (same_path m.path q)) [
      | inr w ↦ ap is_some (other q w) ∙ h
      | inl w ↦ subst (λ v. is_some (said_of after v) ≡ true) (at q w) (says_some makes _ (ap (says makes) here ∙ made_now m.what mk))
    ]

    pub put_tells : FoldTells u after
    put_tells = record {
      made_said = λ p i. elim (cases_Bool (same_path m.path p)) [
        | inl w ↦ subst (λ v. says makes (said_of after v) ≡ true) (at p w) (ap (says makes) here ∙ made_now m.what mk)
        | inr w ↦ elim (In-append (made marks) (m.path ∷ []) p (subst (λ v. In v p) made_is i)) [
          | inl old ↦ ap (says makes) (other p w) ∙ tell.made_said p old
          | inr new ↦ elim new [ inl e ↦ absurd (both_ways _ w (subst (λ v. same_path m.path v ≡ true) e (same_path-refl m.path))) | inr x ↦ absurd x ]
        ]
      ];
      said_made = λ p h. elim (cases_Bool (same_path m.path p)) [
        | inl w ↦ subst (λ v. In v p) (sym made_is) (In-right (made marks) (m.path ∷ []) p (inl (at p w)))
        | inr w ↦ subst (λ v. In v p) (sym made_is) (In-left (made marks) (m.path ∷ []) p (tell.said_made p (sym (ap (says makes) (other p w)) ∙ h)))
      ];
      absent = λ p h. elim (cases_Bool (same_path m.path p)) [
        | inl w ↦ absurd (both_ways _ (ap (says deletes) here ∙ kept_now m.what mk) (subst (λ v. says deletes (said_of after v) ≡ true) (sym (at p w)) h))
        | inr w ↦ (let old = sym (ap (says deletes) (other p w)) ∙ h in elim (cases_Bool (covers m.path p)) [
          | inr beside ↦ out p beside ∙ tell.absent p old
          | inl below ↦ absurd (both_ways _ (ap is_some (tell.silent m.path p none (and_from _ _ below (ap not (false_from_ne_true _ (λ k. both_ways _ w (subst (λ v. same_path m.path v ≡ true) (covers-antisym m.path p below k) (same_path-refl m.path)))))))) (says_some deletes _ old))
        ])
      ];
      silent = λ q p lacking ab. elim (cases_Bool (same_path m.path p)) [
        | inl w ↦ absurd (let above = subst (λ v. is_above q v ≡ true) (sym (at p w)) ab in both_ways _ lacking (out q (not-true _ (and_parts _ _ above).1) ∙ up q above))
        | inr w ↦ other p w ∙ (elim (cases_Bool (covers m.path q)) [
          | inr beside ↦ tell.silent q p (sym (out q beside) ∙ lacking) ab
          | inl below ↦ tell.silent m.path p none (and_from _ _ (covers-trans m.path q p below (and_parts _ _ ab).0)
              (ap not (false_from_ne_true _ (λ k. both_ways _ (not-true _ (and_parts _ _ ab).1) (covers-trans p m.path q k below)))))
        ])
      ];
      known = λ p h a. elim (cases_Bool (same_path m.path p)) [
        | inr w ↦ more p (tell.known p (sym (ap is_some (other p w)) ∙ h) (sym (ap (says adds) (other p w)) ∙ a))
        | inl w ↦ more p (subst (λ v. ((x : Path) × In (made marks) x × (is_above x v ≡ true)) ⊎ ((effects marks v).touched ≡ true)) (at p w)
            (was_deleted (subst (λ v. says adds (said_of after v) ≡ false) (sym (at p w)) a)))
      ];
      gone_told = λ p h. elim (gone_was p h) [
        | inr w ↦ absurd (not_gone w.0)
        | inl w ↦ let q = tell.gone_told p w in (q.0, q.1, tells_on q.0 q.2)
      ];
      rewritten_told = λ p h. elim (rewritten_was p h) [
        | inl w ↦ let q = tell.rewritten_told p w in (q.0, q.1, some_stays q.0 q.2)
        | inr w ↦ absurd (no_rewrite m.what m.path p mk w)
      ];
    }
      where
        tells_on : (q : Path) → says tells (said_of marks q) ≡ true → says tells (said_of after q) ≡ true
        tells_on q h = elim (cases_Bool (same_path m.path q)) [
          | inr w ↦ ap (says tells) (other q w) ∙ h
          | inl w ↦ subst (λ v. says tells (said_of after v) ≡ true) (at q w) (ap (says tells) here ∙ told_now m.what mk (subst (λ v. says tells (said_of marks v) ≡ true) (sym (at q w)) h))
        ]

        more : (p : Path) → ((x : Path) × In (made marks) x × (is_above x p ≡ true)) ⊎ ((effects marks p).touched ≡ true) → ((x : Path) × In (made after) x × (is_above x p ≡ true)) ⊎ ((effects after p).touched ≡ true)
        more p (inl w) = inl (w.0, subst (λ v. In v w.0) (sym made_is) (In-left (made marks) (m.path ∷ []) w.0 w.1), w.2)
        more p (inr w) = inr (touched_stays p w)

        was_deleted : says adds (said_of after m.path) ≡ false → ((x : Path) × In (made marks) x × (is_above x m.path ≡ true)) ⊎ ((effects marks m.path).touched ≡ true)
        was_deleted a = elim (cases_Bool (says deletes (said_of marks m.path))) [
          | inr w ↦ absurd (both_ways _ a (ap (says adds) here ∙ added_now m.what mk w))
          | inl w ↦ tell.known m.path (says_some deletes _ w) (tells_not_adds _ (deletes_tells _ w))
        ]

        no_rewrite : (k : What) (q p : Path) → is_make k ≡ true → is_rewritten k q p ≡ true → ⊥
        no_rewrite (Make src) q p e h = false≢true h
        no_rewrite Gone q p e h = false≢true e
        no_rewrite Text q p e h = false≢true e
        no_rewrite Prop q p e h = false≢true e

  -- ---- what a mark says of a path that is there and below nothing made
  seen : is_make m.what ≡ false → is_some (t m.path) ≡ true → says adds (said_of marks m.path) ≡ false
      → ((x : Path) × In (made marks) x × (is_above x m.path ≡ true)) ⊎ ((effects after m.path).touched ≡ true)
  seen mk some a = elim (cases_Bool (is_some (said_of marks m.path))) [
    | inl w ↦ elim (tell.known m.path w a) [ inl x ↦ inl x | inr x ↦ inr (touched_stays m.path x) ]
    | inr w ↦ elim (cases_Bool (any_covers (made marks) m.path)) [
      | inr outermost ↦ inr (touched_below after m m.path (new_outer base t u marks m cb ct is outermost) (λ e. both_ways _ mk e) (covers-refl m.path))
      | inl inner ↦ (let f = found (λ v. covers v m.path) (made marks) inner in elim (cases_Bool (covers m.path f.0)) [
        | inr apart ↦ inl (f.0, f.1, and_from _ _ f.2 (ap not apart))
        | inl back ↦ absurd (both_ways _ w (says_some makes _ (tell.made_said m.path (subst (λ v. In (made marks) v) (covers-antisym f.0 m.path f.2 back) f.1))))
      ])
    ]
  ]

  -- ---- a delete
  module _ (gone : m.what ≡ Gone) (some : is_some (t m.path) ≡ true) (away : (q : Path) → covers m.path q ≡ true → is_some (u q) ≡ false) (out : (q : Path) → covers m.path q ≡ false → is_some (u q) ≡ is_some (t q)) where
    here_gone : said_of after m.path ≡ joined (said_of marks m.path) m.kind Gone
    here_gone = here ∙ ap (joined (said_of marks m.path) m.kind) gone

    made_left : made after ≡ made_after (made marks) Gone m.path
    made_left = made_push [] marks m ∙ ap (λ k. made_after (made marks) k m.path) gone

    apart : (q : Path) → covers m.path q ≡ false → same_path m.path q ≡ false
    apart q h = false_from_ne_true _ (λ k. both_ways _ h (subst (λ v. covers m.path v ≡ true) (at q k) (covers-refl m.path)))

    beside : (q : Path) → covers m.path q ≡ false → said_of after q ≡ said_of marks q
    beside q h = now q ∙ fold_beside q (said_of marks q) m (apart q h) h

    under : (q : Path) → covers m.path q ≡ true → same_path m.path q ≡ false → said_of after q ≡ None
    under q c h = now q ∙ fold_below q (said_of marks q) m h c gone

    not_gone_make : is_make m.what ≡ false
    not_gone_make = ap is_make gone

    keeps_made : (x : Path) → In (made marks) x → covers m.path x ≡ false → In (made after) x
    keeps_made x i h = subst (λ v. In v x) (sym made_left) (In-filtered (λ v. not (covers m.path v)) (made marks) x i (ap not h))

    -- where an add is undone, what is told is told above it
    told_above : says adds (said_of marks m.path) ≡ true → (effects marks m.path).deleted ≡ true → (q : Path) × (covers q m.path ≡ true) × (says tells (said_of after q) ≡ true)
    told_above a g =
        let q = tell.gone_told m.path g in
        (q.0, q.1, ap (says tells) (beside q.0 (false_from_ne_true _ (λ k. both_ways _ (tells_not_adds _ q.2) (subst (λ v. says adds (said_of marks v) ≡ true) (covers-antisym m.path q.0 k q.1) a)))) ∙ q.2)

    -- an add of what the base has stands where the base's node is gone
    undone : (p : Path) → says adds (said_of marks m.path) ≡ true → covers m.path p ≡ true → is_some (base p) ≡ true → (effects marks m.path).deleted ≡ true
    undone p a c h = elim (is.new m.path (tell.said_made m.path (adds_makes _ a))) [
      | inl none ↦ absurd (both_ways _ none (cb m.path p c h))
      | inr g ↦ g
    ]

    told_here : says adds (said_of marks m.path) ≡ false → says tells (said_of after m.path) ≡ true
    told_here a = ap (says tells) here_gone ∙ deletes_tells _ (delete_deletes (said_of marks m.path) m.kind a)

    gone_still : (p : Path) → (effects marks p).deleted ≡ true → (q : Path) × (covers q p ≡ true) × (says tells (said_of after q) ≡ true)
    gone_still p g = let q = tell.gone_told p g in elim (cases_Bool (covers m.path q.0)) [
      | inr w ↦ (q.0, q.1, ap (says tells) (beside q.0 w) ∙ q.2)
      | inl w ↦ (let c = covers-trans m.path q.0 p w q.1 in elim (cases_Bool (says adds (said_of marks m.path))) [
        | inr a ↦ (m.path, c, told_here a)
        | inl a ↦ (let x = told_above a (above p a c g) in (x.0, covers-trans x.0 m.path p x.1 c, x.2))
      ])
    ]
      where
        above : (p : Path) → says adds (said_of marks m.path) ≡ true → covers m.path p ≡ true → (effects marks p).deleted ≡ true → (effects marks m.path).deleted ≡ true
        above p a c g = let k = gone_by marks p g in elim (covers-either m.path k.0.path p c k.3) [
          | inr w ↦ gone_from marks k.0 m.path k.1 k.2 w
          | inl w ↦ undone k.0.path a w (is.based k.0 k.1 (λ e. false≢true (sym (ap is_make k.2) ∙ e)))
        ]

    rewritten_still : (p : Path) → (effects marks p).rewritten ≡ true → (q : Path) × (covers q p ≡ true) × (is_some (said_of after q) ≡ true)
    rewritten_still p h = let q = tell.rewritten_told p h in elim (cases_Bool (covers m.path q.0)) [
      | inr w ↦ (q.0, q.1, ap is_some (beside q.0 w) ∙ q.2)
      | inl w ↦ (let c = covers-trans m.path q.0 p w q.1 in elim (cases_Bool (says adds (said_of marks m.path))) [
        | inr a ↦ (m.path, c, says_some tells _ (told_here a))
        | inl a ↦
            (let k = rewritten_by marks p h in
            let in_base_p : is_some (base p) ≡ true = subst (λ v. is_some (base v) ≡ true) (covers-antisym k.0.path p k.3 k.4) (is.based k.0 k.1 k.2) in
            let x = told_above a (undone p a c in_base_p) in
            (x.0, covers-trans x.0 m.path p x.1 c, says_some tells _ x.2))
      ])
    ]

    pub taken_tells : FoldTells u after
    taken_tells = record {
      made_said = λ p i. let old = In-filter (λ v. not (covers m.path v)) (made marks) p (subst (λ v. In v p) made_left i) in
          ap (says makes) (beside p (not-true _ old.1)) ∙ tell.made_said p old.0;
      said_made = λ p h. elim (cases_Bool (covers m.path p)) [
        | inr w ↦ keeps_made p (tell.said_made p (sym (ap (says makes) (beside p w)) ∙ h)) w
        | inl w ↦ elim (cases_Bool (same_path m.path p)) [
          | inr k ↦ absurd (both_ways _ (ap (says makes) (under p w k)) h)
          | inl k ↦ absurd (both_ways _ (ap (says makes) here_gone ∙ delete_not_makes (said_of marks m.path) m.kind) (subst (λ v. says makes (said_of after v) ≡ true) (sym (at p k)) h))
        ]
      ];
      absent = λ p h. elim (cases_Bool (covers m.path p)) [
        | inl w ↦ away p w
        | inr w ↦ out p w ∙ tell.absent p (sym (ap (says deletes) (beside p w)) ∙ h)
      ];
      silent = λ q p lacking ab. elim (cases_Bool (covers m.path p)) [
        | inr w ↦ beside p w ∙ tell.silent q p (sym (out q (false_from_ne_true (covers m.path q) (λ k. both_ways (covers m.path p) w (covers-trans m.path q p k (and_parts (covers q p) (not (covers p q)) ab).0)))) ∙ lacking) ab
        | inl w ↦ under p w (false_from_ne_true (same_path m.path p) (λ k. at_top q p lacking ab k))
      ];
      known = λ p h a. elim (cases_Bool (covers m.path p)) [
        | inr w ↦ elim (tell.known p (sym (ap is_some (beside p w)) ∙ h) (sym (ap (says adds) (beside p w)) ∙ a)) [
          | inr x ↦ inr (touched_stays p x)
          | inl x ↦ inl (x.0, keeps_made x.0 x.1 (false_from_ne_true _ (λ k. both_ways _ w (covers-trans m.path x.0 p k (and_parts _ _ x.2).0))), x.2)
        ]
        | inl w ↦ elim (cases_Bool (same_path m.path p)) [
          | inr k ↦ absurd (both_ways _ (ap is_some (under p w k)) h)
          | inl k ↦ subst (λ v. ((x : Path) × In (made after) x × (is_above x v ≡ true)) ⊎ ((effects after v).touched ≡ true)) (at p k)
              (known_here (subst (λ v. is_some (said_of after v) ≡ true) (sym (at p k)) h))
        ]
      ];
      gone_told = λ p h. elim (gone_was p h) [
        | inl w ↦ gone_still p w
        | inr w ↦ (m.path, w.1, told_here (false_from_ne_true _ (λ a. both_ways _ w.2 (found_in (λ v. covers v m.path) (made marks) m.path (tell.said_made m.path (adds_makes _ a)) (covers-refl m.path)))))
      ];
      rewritten_told = λ p h. elim (rewritten_was p h) [
        | inl w ↦ rewritten_still p w
        | inr w ↦ absurd (false≢true (subst (λ k. is_rewritten k m.path p ≡ true) gone w))
      ];
    }
      where
        at_top : (q p : Path) → is_some (u q) ≡ false → is_above q p ≡ true → same_path m.path p ≡ true → ⊥
        at_top q p lacking ab k =
            let above : is_above q m.path ≡ true = subst (λ v. is_above q v ≡ true) (sym (at p k)) ab in
            both_ways (is_some (u q)) lacking (out q (not-true (covers m.path q) (and_parts (covers q m.path) (not (covers m.path q)) above).1) ∙ ct q m.path (and_parts (covers q m.path) (not (covers m.path q)) above).0 some)

        known_here : is_some (said_of after m.path) ≡ true → ((x : Path) × In (made after) x × (is_above x m.path ≡ true)) ⊎ ((effects after m.path).touched ≡ true)
        known_here h = elim (cases_Bool (says adds (said_of marks m.path))) [
          | inl a ↦ absurd (both_ways _ (ap is_some (here_gone ∙ delete_undoes (said_of marks m.path) m.kind a)) h)
          | inr a ↦ elim (seen not_gone_make some a) [
            | inr x ↦ inr x
            | inl x ↦ inl (x.0, keeps_made x.0 x.1 (not-true _ (and_parts _ _ x.2).1), x.2)
          ]
        ]

  -- ---- a modify
  module _ (changes : modifies m.what ≡ true) (some : is_some (t m.path) ≡ true) (dom : (q : Path) → is_some (u q) ≡ is_some (t q)) where
    no_gone : m.what ≡ Gone → ⊥
    no_gone e = false≢true (sym (ap modifies e) ∙ changes)

    no_make : is_make m.what ≡ false
    no_make = by m.what changes
      where
        by : (k : What) → modifies k ≡ true → is_make k ≡ false
        by Text h = refl
        by Prop h = refl
        by Gone h = absurd (false≢true h)
        by (Make src) h = absurd (false≢true h)

    made_same : made after ≡ made marks
    made_same = made_push [] marks m ∙ by m.what changes
      where
        by : (k : What) → modifies k ≡ true → made_after (made marks) k m.path ≡ made marks
        by Text h = refl
        by Prop h = refl
        by Gone h = absurd (false≢true h)
        by (Make src) h = absurd (false≢true h)

    elsewhere : (q : Path) → same_path m.path q ≡ false → said_of after q ≡ said_of marks q
    elsewhere q h = now q ∙ fold_other q (said_of marks q) m h no_gone

    not_deleted : says deletes (said_of marks m.path) ≡ false
    not_deleted = false_from_ne_true _ (λ h. both_ways _ (tell.absent m.path h) some)

    -- what is said of any path has the action that it had, but where nothing was said
    same_action : (test : Action → Bool) → test Modify ≡ false → (q : Path) → says test (said_of after q) ≡ says test (said_of marks q)
    same_action test n q = elim (cases_Bool (same_path m.path q)) [
      | inr w ↦ ap (says test) (elsewhere q w)
      | inl w ↦ subst (λ v. says test (said_of after v) ≡ says test (said_of marks v)) (at q w) (ap (says test) here ∙ modify_keeps test (said_of marks m.path) m.kind m.what changes n not_deleted)
    ]

    still_some : (q : Path) → is_some (said_of marks q) ≡ true → is_some (said_of after q) ≡ true
    still_some q h = elim (cases_Bool (same_path m.path q)) [
      | inr w ↦ ap is_some (elsewhere q w) ∙ h
      | inl w ↦ subst (λ v. is_some (said_of after v) ≡ true) (at q w) some_here
    ]
      where
        some_here : is_some (said_of after m.path) ≡ true
        some_here = ap is_some here ∙ modify_some (said_of marks m.path) m.kind m.what changes

    pub changed_tells : FoldTells u after
    changed_tells = record {
      made_said = λ p i. same_action makes refl p ∙ tell.made_said p (subst (λ v. In v p) made_same i);
      said_made = λ p h. subst (λ v. In v p) (sym made_same) (tell.said_made p (sym (same_action makes refl p) ∙ h));
      absent = λ p h. dom p ∙ tell.absent p (sym (same_action deletes refl p) ∙ h);
      silent = λ q p lacking ab. elim (cases_Bool (same_path m.path p)) [
        | inr w ↦ elsewhere p w ∙ tell.silent q p (sym (dom q) ∙ lacking) ab
        | inl w ↦ absurd (both_ways _ lacking (dom q ∙ ct q m.path (and_parts _ _ (subst (λ v. is_above q v ≡ true) (sym (at p w)) ab)).0 some))
      ];
      known = λ p h a. let old = sym (same_action adds refl p) ∙ a in elim (cases_Bool (same_path m.path p)) [
        | inr w ↦ keep p (elim (tell.known p (sym (ap is_some (elsewhere p w)) ∙ h) old) [ inl x ↦ inl x | inr x ↦ inr (touched_stays p x) ])
        | inl w ↦ keep p (subst (λ v. ((x : Path) × In (made marks) x × (is_above x v ≡ true)) ⊎ ((effects after v).touched ≡ true)) (at p w)
            (seen no_make some (subst (λ v. says adds (said_of marks v) ≡ false) (sym (at p w)) old)))
      ];
      gone_told = λ p h. elim (gone_was p h) [
        | inr w ↦ absurd (no_gone w.0)
        | inl w ↦ let q = tell.gone_told p w in (q.0, q.1, same_action tells refl q.0 ∙ q.2)
      ];
      rewritten_told = λ p h. elim (rewritten_was p h) [
        | inl w ↦ let q = tell.rewritten_told p w in (q.0, q.1, still_some q.0 q.2)
        | inr w ↦ (m.path, at_or_above m.what m.path p w, ap is_some here ∙ modify_some (said_of marks m.path) m.kind m.what changes)
      ];
    }
      where
        keep : (p : Path) → ((x : Path) × In (made marks) x × (is_above x p ≡ true)) ⊎ ((effects after p).touched ≡ true) → ((x : Path) × In (made after) x × (is_above x p ≡ true)) ⊎ ((effects after p).touched ≡ true)
        keep p (inl x) = inl (x.0, subst (λ v. In v x.0) (sym made_same) x.1, x.2)
        keep p (inr x) = inr x

        at_or_above : (k : What) (q p : Path) → is_rewritten k q p ≡ true → covers q p ≡ true
        at_or_above Text q p h = (and_parts _ _ h).0
        at_or_above Prop q p h = (and_parts _ _ h).0
        at_or_above Gone q p h = absurd (false≢true h)
        at_or_above (Make src) q p h = absurd (false≢true h)
