-- Where the walk by ids has no clash, what it leaves is the landing.
use Rattle.std.proofs.Common.{◌≡◌, ◌≤◌, ◌⊎◌, ℕ, not, Bool, true, false, ◌&&◌, ◌||◌, List, [], ◌∷◌, refl, sym, ap, subst, ◌∙◌, inl, inr, Option, Some, None, arith}
use Rattle.std.specs.Prelude.{is_some, if◌then◌else◌, nat_lt}
use Rattle.std.proofs.lemmas.Bool.Decides.{nat_tests}
use mathlib.Core.Bool.{false≢true}
use Rattle.fsfs_model.specs.Flat.Edits.{is_dir, is_dir_node}
use Rattle.fsfs_base.specs.Paths.{Path, covers}
use Rattle.fsfs_tree.specs.Nodes.{Node, TreeFunction}
use Rattle.fsfs_base.specs.declared.kind.Kind.{Kind}
use Rattle.fsfs_base.specs.declared.kind.Kind.TheVariants.{File, Dir}
use Rattle.fsfs_model.specs.declared.flat.mark.What.{What}
use Rattle.fsfs_model.specs.declared.flat.mark.What.TheVariants.{Make, Gone, Text, Prop}
use Rattle.fsfs_model.specs.declared.flat.mark.Mark.{Mark}
use Rattle.fsfs_model.specs.declared.flat.mark.Effects.{Effects}
use Rattle.fsfs_model.specs.Flat.Marks.{effects, outer, changes_props, is_rewritten}
use Rattle.fsfs_model.specs.Flat.Landing.{held_by_own, held_by_head, touched_by_head, props_changed_by_head, goes_on, reached, NoClash, chosen, numbered_some, land}
use Rattle.fsfs_tree.specs.Histories.{AreRevisions}
use Rattle.fsfs_model.specs.Flat.Transactions.{IsTransaction}
use Rattle.fsfs_model.proofs.Tests.{found, found_in, other_false}
use Rattle.fsfs_base.proofs.PathLemmas.{covers-refl, same_name-is}
use Rattle.fsfs_base.proofs.ResultLemmas.{none_of}
use Rattle.fsfs_model.proofs.MergeWalk.{Premises, reached_or, fresh}
use Rattle.fsfs_model.proofs.TwoMergesLaw.{premises}
use Rattle.fsfs_merge.specs.Walks.{Sight, merges, is_stopped, stays, down, is_own, merged}
use Rattle.fsfs_merge.specs.Laws.{Agrees, KeepsTexts, AreSame, IdsAreMarks}
use Rattle.fsfs_merge.proofs.Sides.{own, since, own_quiet, head_quiet, later_props}
use Rattle.fsfs_merge.proofs.Texts.{keeps_texts}
use Rattle.fsfs_merge.proofs.WalkLaw.{merges_all, merges_not, not_is, stops_as, merged_goes, by_marks, same_clash}
use Rattle.std.proofs.lemmas.Bool.{and_from, and_parts, both_ways, cases_Bool, false_from_ne_true, not-true, leb-true}
use Rattle.std.proofs.lemmas.Option.{same_Some}

-- ---- whose entry stands at a path

pub own_here : (see : Path → Sight) (p : Path) → reached (down see) p ≡ true → is_own see p ≡ stays (see p)
own_here see [] r = refl
own_here see (x ∷ p) r = ap (λ (b : Bool). if b then is_own (λ q. see (x ∷ q)) p else stays (see [])) ((and_parts _ _ r).0) ∙ own_here (λ q. see (x ∷ q)) p ((and_parts _ _ r).1)

pub own_stop : (see : Path → Sight) (q p : Path) → covers q p ≡ true → reached (down see) q ≡ true → merges (see q) ≡ false → is_own see p ≡ stays (see q)
own_stop see [] [] c r m = refl
own_stop see [] (x ∷ p) c r m = ap (λ (b : Bool). if b then is_own (λ q. see (x ∷ q)) p else stays (see [])) m
own_stop see (y ∷ q) [] c r m = absurd (false≢true c)
own_stop see (y ∷ q) (x ∷ p) c r m =
    let e : y ≡ x = same_name-is y x ((and_parts _ _ c).0) in
    let rest = own_stop (λ z. see (y ∷ z)) q p ((and_parts _ _ c).1) ((and_parts _ _ r).1) m in
    ap (λ (b : Bool). if b then is_own (λ z. see (x ∷ z)) p else stays (see [])) ((and_parts _ _ r).0)
    ∙ subst (λ (w : List ℕ). is_own (λ z. see (w ∷ z)) p ≡ stays (see (y ∷ q))) e rest

-- ---- nodes that differ in their numbers at most

same_refl : (o : Option Node) → AreSame o o
same_refl None = tt
same_refl (Some x) = record { kind = refl; text = λ f. refl; properties = refl; source = refl }

number_same : (n : ℕ) (d : Effects) (f : Bool) (s : Option Node) (x c : Option Node) → AreSame x c → AreSame x (numbered_some n d f s c)
number_same n d f s None None e = e
number_same n d f s None (Some y) e = absurd e
number_same n d f s (Some x) None e = absurd e
number_same n d true s (Some x) (Some y) e = record { kind = e.kind; text = e.text; properties = e.properties; source = e.source }
number_same n d false None (Some x) (Some y) e = record { kind = e.kind; text = e.text; properties = e.properties; source = e.source }
number_same n d false (Some v) (Some x) (Some y) e = record { kind = e.kind; text = e.text; properties = e.properties; source = e.source }

-- ---- what is chosen

pick_own : (held some_a some_t : Bool) (s t : Option Node) → held ≡ false → (some_a || some_t) ≡ true → (if held then s else (if some_a || some_t then t else s)) ≡ t
pick_own held some_a some_t s t e f = (λ i. if e i then s else (if f i then t else s))

pick_held : (held some_a some_t : Bool) (s t : Option Node) → held ≡ true → (if held then s else (if some_a || some_t then t else s)) ≡ s
pick_held held some_a some_t s t e = (λ i. if e i then s else (if some_a || some_t then t else s))

pick_head : (held some_a some_t : Bool) (s t : Option Node) → held ≡ false → (some_a || some_t) ≡ false → (if held then s else (if some_a || some_t then t else s)) ≡ s
pick_head held some_a some_t s t e f = (λ i. if e i then s else (if f i then t else s))

-- properties that an outer mark changes are rewritten
prop_rewrites : (k : What) (q p : Path) → changes_props k q p ≡ true → is_rewritten k q p ≡ true
prop_rewrites Prop q p h = h
prop_rewrites Text q p h = absurd (false≢true h)
prop_rewrites Gone q p h = absurd (false≢true h)
prop_rewrites (Make src) q p h = absurd (false≢true h)

pub kept_props : (marks : List Mark) (p : Path) → (effects marks p).rewritten ≡ false → (effects marks p).props_changed ≡ false
kept_props marks p un = false_from_ne_true _ (λ h. let f = found (λ m. changes_props m.what m.path p) (outer marks) h in
    both_ways _ un (found_in (λ m. is_rewritten m.what m.path p) (outer marks) f.0 f.1 (prop_rewrites f.0.what f.0.path p f.2)))

pub neither : (x y : Bool) → not (x || y) ≡ true → (x ≡ false) × (y ≡ false)
neither true y h = absurd (false≢true h)
neither false true h = absurd (false≢true h)
neither false false h = (refl, refl)

pub one_of : (h o g sp : Bool) → (not h && not o && not (g && sp)) ≡ false → g ≡ false → (h ≡ true) ⊎ (o ≡ true)
one_of true o g sp e f = inl refl
one_of false true g sp e f = inr refl
one_of false false true sp e f = absurd (false≢true (sym f))
one_of false false false sp e f = absurd (false≢true (sym e))

pub stays_own : (s : Sight) → s.in_base ≡ true → s.head_same ≡ true → stays s ≡ true
stays_own s a b = λ i. if a i then b i || (not s.own_same && s.goes_on) else s.in_own

pub stays_head : (s : Sight) → s.in_base ≡ true → s.head_same ≡ false → s.own_same ≡ true → stays s ≡ false
stays_head s a b c = λ i. if a i then b i || (not (c i) && s.goes_on) else s.in_own

pub stays_merged : (s : Sight) → s.in_base ≡ true → s.head_same ≡ false → s.own_same ≡ false → s.goes_on ≡ true → stays s ≡ true
stays_merged s a b c e = λ i. if a i then b i || (not (c i) && e i) else s.in_own

pub stays_new : (s : Sight) (x : Bool) → s.in_base ≡ false → s.in_own ≡ x → stays s ≡ x
stays_new s x a b = λ i. if a i then s.head_same || (not s.own_same && s.goes_on) else b i

le_not : (a b : ℕ) → nat_lt a b ≡ false → b ≤ a
le_not a b h = grind (arith, nat_tests)

module _ (tree : ℕ → TreeFunction) (last b h n : ℕ) (t : TreeFunction) (marks : List Mark) (see : Path → Sight)
    (is : AreRevisions tree last) (was : IsTransaction tree last b t marks) (texts : KeepsTexts (tree b) t marks) (le : b ≤ h) (ge : h ≤ last)
    (agree : (p : Path) → reached (λ q. goes_on b (effects marks q) (tree b q) (tree h q)) p ≡ true → Agrees b (effects marks p) (tree b p) (tree h p) (t p) (see p))
    (clear : NoClash b (tree b) (tree h) t marks) where
  pre : Premises b (tree b) (tree h) t marks
  pre = premises tree last b h t marks is (own tree last b h t marks is was le ge).sound le ge clear

  abbrev Result : Path → Type 0
  Result p = AreSame (merged see (tree h) t p) (land (tree b) (tree h) t marks n p)

  -- with the transaction's node, and with the head's
  from_own : (p : Path) → is_own see p ≡ true → AreSame (t p) (chosen (effects marks p) (tree b p) (tree h p) (t p)) → Result p
  from_own p o e =
      subst (λ (x : Bool). AreSame (if x then t p else tree h p) (land (tree b) (tree h) t marks n p)) (sym o)
      (number_same n (effects marks p) (is_some (t p) && not (held_by_own (effects marks p) (tree b p))) (tree h p) (t p) (chosen (effects marks p) (tree b p) (tree h p) (t p)) e)

  from_head : (p : Path) → is_own see p ≡ false → AreSame (tree h p) (chosen (effects marks p) (tree b p) (tree h p) (t p)) → Result p
  from_head p o e =
      subst (λ (x : Bool). AreSame (if x then t p else tree h p) (land (tree b) (tree h) t marks n p)) (sym o)
      (number_same n (effects marks p) (is_some (t p) && not (held_by_own (effects marks p) (tree b p))) (tree h p) (tree h p) (chosen (effects marks p) (tree b p) (tree h p) (t p)) e)

  -- the choice, as it is picked
  abbrev choice : Path → Option Node
  choice p = chosen (effects marks p) (tree b p) (tree h p) (t p)

  is_t : (p : Path) → (held_by_own (effects marks p) (tree b p) && not (effects marks p).rewritten) ≡ false → (is_some (tree b p) || is_some (t p)) ≡ true → AreSame (t p) (choice p)
  is_t p e f = subst (λ (x : Option Node). AreSame (t p) x) (sym (pick_own _ (is_some (tree b p)) (is_some (t p)) (tree h p) (t p) e f)) (same_refl (t p))

  is_s : (p : Path) → (held_by_own (effects marks p) (tree b p) && not (effects marks p).rewritten) ≡ true → AreSame (tree h p) (choice p)
  is_s p e = subst (λ (x : Option Node). AreSame (tree h p) x) (sym (pick_held _ (is_some (tree b p)) (is_some (t p)) (tree h p) (t p) e)) (same_refl (tree h p))

  -- what both have alike, where the choice is the head's
  kept_same : (p : Path) (x y : Option Node) → (held_by_own (effects marks p) (tree b p) && not (effects marks p).rewritten) ≡ true → AreSame (t p) (tree h p) → AreSame (t p) (choice p)
  kept_same p x y e s = subst (λ (v : Option Node). AreSame (t p) v) (sym (pick_held _ (is_some (tree b p)) (is_some (t p)) (tree h p) (t p) e)) s

  no_base : (p : Path) → is_some (tree b p) ≡ false → (held_by_own (effects marks p) (tree b p) && not (effects marks p).rewritten) ≡ false
  no_base p none = false_from_ne_true _ (λ w. both_ways _ none ((and_parts _ _ ((and_parts _ _ w).0)).0))

  no_own : (o : Option Node) → is_some o ≡ false → AreSame o None
  no_own None e = tt
  no_own (Some x) e = absurd (false≢true (sym e))

  -- a path that neither the base nor the head has
  own_alone : (p : Path) → is_some (tree b p) ≡ false → is_some (tree h p) ≡ false → AreSame (t p) (choice p)
  own_alone p none lacks = elim (cases_Bool (is_some (t p))) [
    | inl w ↦ is_t p (no_base p none) (λ i. none i || w i)
    | inr w ↦ subst (λ (v : Option Node). AreSame (t p) v) (sym (pick_head _ (is_some (tree b p)) (is_some (t p)) (tree h p) (t p) (no_base p none) (λ i. none i || w i)) ∙ refl) (subst (λ (v : Option Node). AreSame (t p) v) (sym (none_of (tree h p) lacks)) (no_own (t p) w))
  ]

  head_alone : (p : Path) → is_some (tree b p) ≡ false → is_some (t p) ≡ false → AreSame (tree h p) (choice p)
  head_alone p none lacks = subst (λ (v : Option Node). AreSame (tree h p) v) (sym (pick_head _ (is_some (tree b p)) (is_some (t p)) (tree h p) (t p) (no_base p none) (λ i. none i || lacks i))) (same_refl (tree h p))

  -- ---- the walk stops at q

  module _ (q p : Path) (c : covers q p ≡ true) (r : reached (down see) q ≡ true) (m : merges (see q) ≡ false) where
    f : reached (λ q. goes_on b (effects marks q) (tree b q) (tree h q)) q ≡ true
    f = by_marks tree last b h t marks see is was le ge agree q r

    stop_clear : is_stopped (see q) ≡ false
    stop_clear = stops_as b (effects marks q) (tree h q) (t q) (see q) (tree b q) (agree q f) ∙ other_false _ _ (clear q) f

    own_is : is_own see p ≡ stays (see q)
    own_is = own_stop see q p c r m

    new : is_some (tree b q) ≡ false → Result p
    new none =
        let w = fresh b (tree b) (tree h) t marks pre q p c f (none_of (tree b q) none) in
        let outside : (see q).in_base ≡ false = (agree q f).in_base ∙ none in
        elim (cases_Bool (is_some (t q))) [
          | inl has ↦ (let lacks : is_some (tree h q) ≡ false = false_from_ne_true _ (λ k. both_ways _ w.3 (and_from _ _ k has)) in
              from_own p (own_is ∙ stays_new (see q) true outside ((agree q f).in_own ∙ has)) (own_alone p w.0 (false_from_ne_true _ (λ k. both_ways _ lacks (pre.closed_head q p c k)))))
          | inr none ↦ from_head p (own_is ∙ stays_new (see q) false outside ((agree q f).in_own ∙ none)) (head_alone p w.0 (false_from_ne_true _ (λ k. both_ways _ none (pre.closed_own q p c k))))
        ]

    -- the head did not touch it
    left_alone : is_some (tree b q) ≡ true → touched_by_head b (tree h q) ≡ false → AreSame (t p) (choice p)
    left_alone some un = by (tree b p) refl
      where
        same : tree h p ≡ tree b p
        same = head_quiet tree last b h t marks is was le ge q p c un

        by : (o : Option Node) → tree b p ≡ o → AreSame (t p) (choice p)
        by None e = own_alone p (ap is_some e) (ap is_some (same ∙ e))
        by (Some x) e = elim (cases_Bool (effects marks p).deleted) [
          | inl del ↦ is_t p (false_from_ne_true _ (λ k. both_ways _ (not-true _ ((and_parts _ _ ((and_parts _ _ k).0)).1)) del)) (either (is_some (tree b p)) (is_some (t p)) (ap is_some e))
          | inr del ↦ elim (cases_Bool (effects marks p).rewritten) [
            | inl re ↦ is_t p (false_from_ne_true _ (λ k. both_ways _ (not-true _ ((and_parts _ _ k).1)) re)) (either (is_some (tree b p)) (is_some (t p)) (ap is_some e))
            | inr re ↦ (let k = (own tree last b h t marks is was le ge).keeps.same p x e del in
                kept_same p None None (and_from _ _ (and_from _ _ (ap is_some e) (ap not del)) (ap not re))
                (subst (λ (v : Option Node). AreSame v (tree h p)) (sym k.1) (subst (λ (v : Option Node). AreSame (Some k.0) v) (sym (same ∙ e)) (record {
                  kind = k.2.kind;
                  text = λ file. texts p x k.0 e k.1 del re;
                  properties = k.2.properties (kept_props marks p re);
                  source = k.2.source;
                }))))
          ]
        ]
          where
            either : (x y : Bool) → x ≡ true → (x || y) ≡ true
            either x y e = ap (λ (v : Bool). v || y) e

    -- no mark touches it
    untouched : is_some (tree b q) ≡ true → (effects marks q).touched ≡ false → AreSame (tree h p) (choice p)
    untouched some un =
        let w = own_quiet tree last b h t marks is was le ge q p c f some un in
        elim (cases_Bool (is_some (tree b p))) [
          | inl has ↦ is_s p (and_from _ _ (and_from _ _ has (ap not w.1)) (ap not w.2))
          | inr none ↦ head_alone p none (w.3 none)
        ]

    old : is_some (tree b q) ≡ true → Result p
    old some = elim which [
      | inl hs ↦ from_own p (own_is ∙ stays_own (see q) inside hs) (left_alone some (not_is _ _ (head_test some) hs))
      | inr os ↦ elim (cases_Bool (see q).head_same) [
        | inl hs ↦ from_own p (own_is ∙ stays_own (see q) inside hs) (left_alone some (not_is _ _ (head_test some) hs))
        | inr not_hs ↦ from_head p (own_is ∙ stays_head (see q) inside not_hs os) (untouched some (not_is _ _ (own_test some) os))
      ]
    ]
      where
        head_test : is_some (tree b q) ≡ true → (see q).head_same ≡ not (touched_by_head b (tree h q))
        head_test some = (agree q f).head_same some

        own_test : is_some (tree b q) ≡ true → (see q).own_same ≡ not (effects marks q).touched
        own_test some = (agree q f).own_same some

        inside : (see q).in_base ≡ true
        inside = (agree q f).in_base ∙ some

        tests : (not (see q).head_same && not (see q).own_same && not ((see q).goes_on && (see q).same_props)) ≡ false
        tests = subst (λ (x : Bool). (if x then not (see q).head_same && not (see q).own_same && not ((see q).goes_on && (see q).same_props) else (see q).in_head && (see q).in_own) ≡ false) inside stop_clear

        which : ((see q).head_same ≡ true) ⊎ ((see q).own_same ≡ true)
        which = elim (merges_not (see q).head_same (see q).own_same (see q).goes_on (subst (λ (x : Bool). (x && not (see q).head_same && not (see q).own_same && (see q).goes_on) ≡ false) inside m)) [
          | inl hs ↦ inl hs
          | inr (inl os) ↦ inr os
          | inr (inr g) ↦ one_of (see q).head_same (see q).own_same (see q).goes_on (see q).same_props tests g
        ]

    pub stopped : Result p
    stopped = elim (cases_Bool (is_some (tree b q))) [ inl some ↦ old some | inr none ↦ new none ]

  -- ---- the walk goes through p: a directory that both hold, and whose properties neither changed

  through : (p : Path) → reached (down see) p ≡ true → merges (see p) ≡ true → Result p
  through p r m =
      let f = by_marks tree last b h t marks see is was le ge agree p r in
      let a = agree p f in
      let k = merges_all (see p).in_base (see p).head_same (see p).own_same (see p).goes_on m in
      let g = merged_goes b (effects marks p) (tree h p) (t p) (see p) (tree b p) a m in
      let stop : is_stopped (see p) ≡ false = stops_as b (effects marks p) (tree h p) (t p) (see p) (tree b p) a ∙ other_false _ _ (clear p) f in
      let tests : not (see p).same_props ≡ false = (λ i. if (sym k.0) i then not ((sym k.1) i) && not ((sym k.2) i) && not ((sym k.3) i && (see p).same_props) else (see p).in_head && (see p).in_own) ∙ stop in
      let props : (see p).same_props ≡ true = un_not (see p).same_props tests in
      let none = neither (effects marks p).props_changed (props_changed_by_head b (tree h p)) (sym (a.same_props (and_from _ _ g.1 g.0)) ∙ props) in
      from_own p (own_here see p r ∙ stays_merged (see p) k.0 k.1 k.2 k.3) (by (tree b p) refl (tree h p) refl g.0 g.1 none.0 none.1)
    where
      un_not : (x : Bool) → not x ≡ false → x ≡ true
      un_not true e = refl
      un_not false e = absurd (false≢true (sym e))

      dir_not_file : (k : Kind) → is_dir k ≡ true → k ≡ File → ⊥
      dir_not_file Dir d e = cc
      dir_not_file File d e = false≢true d

      by : (o : Option Node) → tree b p ≡ o → (u : Option Node) → tree h p ≡ u → goes_on b (effects marks p) (tree b p) (tree h p) ≡ true → is_dir_node (tree b p) ≡ true → (effects marks p).props_changed ≡ false → props_changed_by_head b (tree h p) ≡ false
          → AreSame (t p) (choice p)
      by None e u v g d pc hp = absurd (false≢true (sym (ap is_dir_node e) ∙ d))
      by (Some x) e None v g d pc hp = absurd (false≢true (sym (ap (held_by_head b) v) ∙ (and_parts _ _ g).1))
      by (Some x) e (Some y) v g d pc hp = elim (cases_Bool (effects marks p).rewritten) [
        | inl re ↦ is_t p (false_from_ne_true _ (λ k. both_ways _ (not-true _ ((and_parts _ _ k).1)) re)) (ap (λ (w : Bool). w || is_some (t p)) (ap is_some e))
        | inr re ↦
            let k = (own tree last b h t marks is was le ge).keeps.same p x e (not-true _ ((and_parts _ _ ((and_parts _ _ g).0)).1)) in
            let held : held_by_head b (Some y) ≡ true = sym (ap (held_by_head b) v) ∙ (and_parts _ _ g).1 in
            let o = (since tree last b h t marks is was le ge).older p y v (leb-true y.added b held) in
            let props = later_props tree last b h t marks is was le ge p y v (le_not b y.props_changed (sym (ap (props_changed_by_head b) v) ∙ hp)) in
            let same_o : o.0 ≡ x = same_Some o.0 x (sym o.1 ∙ e) in
            let same_p : props.0 ≡ x = same_Some props.0 x (sym props.1 ∙ e) in
            kept_same p None None (and_from _ _ ((and_parts _ _ g).0) (ap not re))
            (subst (λ (w : Option Node). AreSame w (tree h p)) (sym k.1) (subst (λ (w : Option Node). AreSame (Some k.0) w) (sym v) (record {
              kind = k.2.kind ∙ ap (λ (w : Node). w.kind) (sym same_o) ∙ o.2.kind;
              text = λ file. absurd (dir_not_file x.kind (sym (ap is_dir_node e) ∙ d) (sym k.2.kind ∙ file));
              properties = k.2.properties pc ∙ ap (λ (w : Node). w.properties) (sym same_p) ∙ props.2;
              source = k.2.source ∙ ap (λ (w : Node). w.source) (sym same_o) ∙ o.2.source;
            })))
      ]

  pub same_landing : (p : Path) → Result p
  same_landing p = elim (reached_or (down see) p) [
    | inl r ↦ elim (cases_Bool (merges (see p))) [
      | inl m ↦ through p r m
      | inr m ↦ stopped p p (covers-refl p) r m
    ]
    | inr e ↦ stopped e.place p e.covered e.comes e.stops
  ]

pub ids_are_marks : IdsAreMarks
ids_are_marks = record {
  clash = λ tree last b h t marks see is was le ge agree p. same_clash tree last b h t marks see is was le ge agree p;
  landing = λ tree last b h n t marks see is was le ge agree clear p. same_landing tree last b h n t marks see is was (keeps_texts tree last b t marks is was) le ge agree clear p;
}
