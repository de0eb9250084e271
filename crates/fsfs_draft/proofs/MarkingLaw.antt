-- One mark more.
use Rattle.std.proofs.Common.{◌≡◌, not, Bool, true, false, ◌&&◌, List, [], ◌∷◌, ◌++◌, refl, sym, ap, ◌∙◌}
use Rattle.std.specs.Prelude.{◌||◌, Option, Some, None, is_some, if◌then◌else◌}
use Rattle.std.specs.List.{list_any}
use mathlib.Core.Bool.{false≢true}
use Rattle.fsfs_base.specs.Paths.{Path, is_root}
use Rattle.fsfs_tree.specs.Nodes.{TreeFunction}
use Rattle.fsfs_model.specs.declared.flat.mark.What.{What}
use Rattle.fsfs_model.specs.declared.flat.mark.What.TheVariants.{Make, Gone, Text, Prop}
use Rattle.fsfs_model.specs.declared.flat.mark.Mark.{Mark}
use Rattle.fsfs_model.specs.Flat.Marks.{any_covers, made, outer, effects, touches, is_gone, changes_props}
use Rattle.fsfs_model.proofs.Owns.{outer_push}
use Rattle.fsfs_draft.specs.Own.{OwnNode, Own}
use Rattle.fsfs_draft.specs.Sides.{held, AreMarksOf}
use Rattle.fsfs_draft.specs.Marking.{has_props, IsMoved, IsUnmoved, MarksAreKept}
use Rattle.std.proofs.lemmas.Bool.{and_parts, or_right}

any_push : (f : Mark → Bool) (xs : List Mark) (m : Mark) → list_any f (xs ++ m ∷ []) ≡ (list_any f xs || f m)
any_push f [] m = by (f m)
  where
    by : (b : Bool) → (b || false) ≡ b
    by true = refl
    by false = refl
any_push f (x ∷ xs) m = by (f x) (any_push f xs m)
  where
    by : (b : Bool) → list_any f (xs ++ m ∷ []) ≡ (list_any f xs || f m) → (b || list_any f (xs ++ m ∷ [])) ≡ ((b || list_any f xs) || f m)
    by true e = refl
    by false e = e

any_less : (f g : Mark → Bool) (xs : List Mark) → ((m : Mark) → f m ≡ true → g m ≡ true) → list_any f xs ≡ true → list_any g xs ≡ true
any_less f g [] less h = absurd (false≢true h)
any_less f g (x ∷ xs) less h = by (f x) refl h (λ w. any_less f g xs less w)
  where
    by : (b : Bool) → f x ≡ b → (b || list_any f xs) ≡ true → (list_any f xs ≡ true → list_any g xs ≡ true) → (g x || list_any g xs) ≡ true
    by true e w rest = ap (λ (c : Bool). c || list_any g xs) (less x e)
    by false e w rest = or_right (g x) (list_any g xs) (rest w)

props_touch : (k : What) (p q : Path) → changes_props k p q ≡ true → touches k p q ≡ true
props_touch (Make source) p q h = absurd (false≢true h)
props_touch Gone p q h = absurd (false≢true h)
props_touch Text p q h = absurd (false≢true h)
props_touch Prop p q h = (and_parts _ _ h).1

or_assoc : (a b c : Bool) → (a || (b || c)) ≡ ((a || b) || c)
or_assoc true b c = refl
or_assoc false b c = refl

not_and : (h g : Bool) → (not h || g) ≡ not (h && not g)
not_and true true = refl
not_and true false = refl
not_and false g = refl

module _ (base : TreeFunction) (marks : List Mark) (m : Mark) (own now : Own) (say : AreMarksOf base marks own) where
  -- what the marks say where the draft holds nothing of its own
  quiet : (q : Path) → is_some (base q) ≡ true → held own q ≡ true → (effects marks q).props_changed ≡ has_props (own q)
  quiet q some h = by (own q) refl
    where
      by : (o : Option OwnNode) → own q ≡ o → (effects marks q).props_changed ≡ has_props (own q)
      by (Some v) e = say.props q v some h e ∙ ap has_props (sym e)
      by None e = changed (effects marks q).props_changed refl
        where
          changed : (b : Bool) → (effects marks q).props_changed ≡ b → (effects marks q).props_changed ≡ has_props (own q)
          changed false g = g ∙ ap has_props (sym e)
          changed true g =
              let t : list_any (λ m. touches m.what m.path q) (outer marks) ≡ true = any_less (λ m. changes_props m.what m.path q) (λ m. touches m.what m.path q) (outer marks) (λ m. props_touch m.what m.path q) g in
              absurd (false≢true (sym (say.touched q some h ∙ ap (λ (o : Option OwnNode). is_some o) e) ∙ or_right (is_root q) (list_any (λ m. touches m.what m.path q) (outer marks)) t))

  last_props : (q : Path) (v : OwnNode) (b : Bool) → now q ≡ Some v → b ≡ has_props (now q) → b ≡ is_some v.props
  last_props q v b e g = g ∙ ap has_props e

  outer_kept : any_covers (made marks) m.path ≡ false → IsMoved base m own now → AreMarksOf base (marks ++ m ∷ []) now
  outer_kept free moved = record {
    deleted = λ q some. pushed (λ x. is_gone x.what x.path q)
        ∙ ap (λ (b : Bool). b || is_gone m.what m.path q) (say.deleted q some) ∙ not_and (held own q) (is_gone m.what m.path q) ∙ ap not (sym (moved.kept q some));
    touched = λ q some h. (let was = (and_parts (held own q) (not (is_gone m.what m.path q)) (sym (moved.kept q some) ∙ h)).0 in
        ap (λ (b : Bool). is_root q || b) (pushed (λ x. touches x.what x.path q)) ∙ or_assoc (is_root q) (list_any (λ x. touches x.what x.path q) (outer marks)) (touches m.what m.path q)
        ∙ ap (λ (b : Bool). b || touches m.what m.path q) (say.touched q some was) ∙ sym (moved.mine q some h));
    props = λ q v some h e. (let was = (and_parts (held own q) (not (is_gone m.what m.path q)) (sym (moved.kept q some) ∙ h)).0 in
        last_props q v (effects (marks ++ m ∷ []) q).props_changed e (pushed (λ x. changes_props x.what x.path q)
        ∙ ap (λ (b : Bool). b || changes_props m.what m.path q) (quiet q some was) ∙ sym (moved.props q some h)));
  }
    where
      more : outer (marks ++ m ∷ []) ≡ outer marks ++ m ∷ []
      more = outer_push [] marks m ∙ ap (λ (b : Bool). outer marks ++ (if b then [] else m ∷ [])) free

      pushed : (f : Mark → Bool) → list_any f (outer (marks ++ m ∷ [])) ≡ (list_any f (outer marks) || f m)
      pushed f = ap (λ (xs : List Mark). list_any f xs) more ∙ any_push f (outer marks) m

  inner_kept : any_covers (made marks) m.path ≡ true → IsUnmoved base own now → AreMarksOf base (marks ++ m ∷ []) now
  inner_kept covered still = record {
    deleted = λ q some. ap (λ (xs : List Mark). list_any (λ x. is_gone x.what x.path q) xs) more ∙ say.deleted q some ∙ ap not (sym (still.kept q some));
    touched = λ q some h. ap (λ (xs : List Mark). is_root q || list_any (λ x. touches x.what x.path q) xs) more ∙ say.touched q some (sym (still.kept q some) ∙ h) ∙ sym (still.mine q some h);
    props = λ q v some h e. last_props q v (effects (marks ++ m ∷ []) q).props_changed e (ap (λ (xs : List Mark). list_any (λ x. changes_props x.what x.path q) xs) more ∙ quiet q some (sym (still.kept q some) ∙ h) ∙ sym (still.props q some h));
  }
    where
      flat : (xs : List Mark) → xs ++ [] ≡ xs
      flat [] = refl
      flat (y ∷ xs) = ap (λ (t : List Mark). y ∷ t) (flat xs)

      more : outer (marks ++ m ∷ []) ≡ outer marks
      more = outer_push [] marks m ∙ ap (λ (b : Bool). outer marks ++ (if b then [] else m ∷ [])) covered ∙ flat (outer marks)

pub marks_are_kept : MarksAreKept
marks_are_kept = record {
  outer = λ base marks m own now say free moved. outer_kept base marks m own now say free moved;
  inner = λ base marks m own now say covered still. inner_kept base marks m own now say covered still;
}
