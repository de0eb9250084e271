-- The directories through which a merge goes: each is left to look at, or written.
use Rattle.std.proofs.Common.{◌≡◌, ◌∙◌, Bool, true, false, ◌&&◌, List, [], ◌∷◌, ◌++◌, ◌⊎◌, inl, inr, refl, sym, ap, subst, Option, Some, None, drop, length, append_assoc, append-nil}
use Rattle.std.specs.Prelude.{not, is_some}
use Rattle.std.specs.List.{list_any}
use mathlib.Core.Bool.{false≢true}
use Rattle.std.proofs.lemmas.Bool.{and_parts, both_ways}
use Rattle.fsfs_base.specs.Paths.{PathName, Path, covers}
use Rattle.fsfs_base.proofs.PathLemmas.{covers-longer, split_at}
use Rattle.fsfs_model.specs.Flat.Landing.{reached}
use Rattle.fsfs_merge.specs.declared.sight.Sight.{Sight}
use Rattle.fsfs_merge.specs.Walks.{merges, down}
use Rattle.fsfs_merge.specs.declared.clash.three.Target.{Target}
use Rattle.fsfs_merge.specs.declared.clash.three.Which.TheVariants.{Changed, Made}
use Rattle.fsfs_merge.specs.declared.clash.entries.Sides.{Sides}
use Rattle.fsfs_merge.specs.declared.clash.merged.MergedDir.{MergedDir}
use Rattle.fsfs_merge.specs.declared.clash.turn.Halt.{Halt}
use Rattle.fsfs_merge.specs.declared.clash.walk.Pending.{Pending}
use Rattle.fsfs_merge.specs.Clash.Lists.{names_in, three_in}
use Rattle.fsfs_merge.specs.Clash.Plans.{OneIs, IsMergedDir}
use Rattle.fsfs_merge.specs.Clash.Points.{Point, has_same, sight_with, sights_of, goes_down, IsMet}
use Rattle.fsfs_merge.specs.Clash.Threes.{changed_in, is_changed}
use Rattle.fsfs_merge.specs.Clash.UnderWay.{IsPlanning}
use Rattle.fsfs_merge.specs.Clash.Walks.{changed, opened}
use Rattle.fsfs_merge.proofs.Turns.{unchanged}
use Rattle.fsfs_merge.proofs.Opening.{any_left, any_parts, any_one, any_opened, all_append}

-- the walk comes below a path only where it goes down there
pub goes_through : (f : Path → Bool) (p : Path) (name : PathName) (rest : Path) → reached f (p ++ name ∷ rest) ≡ true → f p ≡ true
goes_through f [] name rest r = (and_parts (f []) (reached (λ (q : Path). f (name ∷ q)) rest) r).0
goes_through f (x ∷ p) name rest r = goes_through (λ (q : Path). f (x ∷ q)) p name rest ((and_parts (f []) (reached (λ (q : Path). f (x ∷ q)) (p ++ name ∷ rest)) r).1)

-- and only where both sides changed what the base has
pub merges_changed : (x y v : Option Target) (goes : Bool) → merges (sight_with x y v goes) ≡ true → changed_in x y v ≡ true
merges_changed x y v goes m = by (changed_in x y v) refl
  where
    by : (b : Bool) → changed_in x y v ≡ b → changed_in x y v ≡ true
    by true e = e
    by false e = absurd (false≢true (sym ((unchanged x y v goes e).0) ∙ m))

-- and the merge goes on
pub merges_goes : (x y v : Option Target) (goes : Bool) → merges (sight_with x y v goes) ≡ true → goes ≡ true
merges_goes x y v goes m = (and_parts (is_some x && not (has_same x y) && not (has_same x v)) goes m).1

pub goes_none : (o : Option Halt) → goes_down o ≡ true → o ≡ None
goes_none None h = refl
goes_none (Some halt) h = absurd (false≢true h)

-- ---- one of a list

pub one_more : {X : Type 0} (P : X → Type 0) (xs : List X) (x : X) → OneIs P xs → OneIs P (xs ++ x ∷ [])
one_more P [] x h = absurd h
one_more P (y ∷ xs) x (inl h) = inl h
one_more P (y ∷ xs) x (inr h) = inr (one_more P xs x h)

pub one_last : {X : Type 0} (P : X → Type 0) (xs : List X) (x : X) → P x → OneIs P (xs ++ x ∷ [])
one_last P [] x h = inl h
one_last P (y ∷ xs) x h = inr (one_last P xs x h)

pub one_as : {X : Type 0} (P Q : X → Type 0) (xs : List X) → ((x : X) → P x → Q x) → OneIs P xs → OneIs Q xs
one_as P Q [] f h = absurd h
one_as P Q (x ∷ xs) f (inl h) = inl (f x h)
one_as P Q (x ∷ xs) f (inr h) = inr (one_as P Q xs f h)

-- ---- the walk

module _ (points : Path → Point) where
  abbrev see : Path → Sight
  see = sights_of points

  -- it goes through no path at which it stops
  pub planned_halt : (todo : List Pending) (p : Pending) (halt : Halt) (dirs : List MergedDir) → (points p.path).halt ≡ Some halt → IsPlanning points (todo ++ p ∷ []) dirs → IsPlanning points todo dirs
  planned_halt todo p halt dirs h plan = record {
    each = plan.each;
    all = λ q met goes. elim (plan.all q met goes) [
      | inr w ↦ inr w
      | inl w ↦ elim (any_parts (λ (z : Pending). covers z.path q) todo (p ∷ []) w) [
        | inl u ↦ inl u
        | inr u ↦ absurd (never q met goes (drop (length p.path) q) (split_at p.path q (any_one (λ (z : Pending). covers z.path q) p u)))
      ]
    ];
  }
    where
      never : (q : Path) → IsMet points q → (points q).halt ≡ None → (rest : Path) → p.path ++ rest ≡ q → ⊥
      never q met goes [] e =
          let here : p.path ≡ q = sym (append-nil p.path) ∙ e in
          let clash : Some halt ≡ None = sym h ∙ ap (λ (z : Path). (points z).halt) here ∙ goes in
          cc
      never q met goes (name ∷ rest) e =
          let at = points p.path in
          let through = goes_through (down see) p.path name rest (subst (λ (z : Path). reached (down see) z ≡ true) (sym e) met.comes) in
          both_ways _ (ap goes_down h) (merges_goes at.three.base at.three.head at.three.own (goes_down at.halt) through)

  -- a directory that was opened is written, and what is below it is left
  module _ (p : Pending) (sides : Sides) (lists : (name : PathName) → three_in sides name ≡ (points (p.path ++ name ∷ [])).three) where
    is_new : (name : PathName) (rest q : Path) → (p.path ++ name ∷ []) ++ rest ≡ q → IsMet points q → is_changed (three_in sides name) ≡ true
    is_new name [] q whole met =
        let there : p.path ++ name ∷ [] ≡ q = sym (append-nil (p.path ++ name ∷ [])) ∙ whole in
        ap is_changed (lists name ∙ ap (λ (z : Path). (points z).three) there) ∙ met.changed
    is_new name (x ∷ rest) q whole met =
        let at = points (p.path ++ name ∷ []) in
        ap is_changed (lists name)
        ∙ merges_changed at.three.base at.three.head at.three.own (goes_down at.halt) (goes_through (down see) (p.path ++ name ∷ []) x rest (subst (λ (z : Path). reached (down see) z ≡ true) (sym whole) met.comes))

    pub planned_open : (todo : List Pending) (dirs : List MergedDir) (dir : MergedDir) → IsMergedDir points p.path dir → IsPlanning points (todo ++ p ∷ []) dirs → IsPlanning points (opened p.path sides todo) (dirs ++ dir ∷ [])
    planned_open todo dirs dir here plan = record {
      each = all_append (λ (d : MergedDir). (q : Path) × IsMergedDir points q d) dirs (dir ∷ []) plan.each ((p.path, here), tt);
      all = λ q met goes. elim (plan.all q met goes) [
        | inr w ↦ inr (one_more (IsMergedDir points q) dirs dir w)
        | inl w ↦ elim (any_parts (λ (z : Pending). covers z.path q) todo (p ∷ []) w) [
          | inl u ↦ inl (any_left (λ (z : Pending). covers z.path q) (todo ++ changed Changed p.path sides (names_in sides.base)) (changed Made p.path sides (names_in sides.own)) (any_left (λ (z : Pending). covers z.path q) todo (changed Changed p.path sides (names_in sides.base)) u))
          | inr u ↦ below q met (drop (length p.path) q) (split_at p.path q (any_one (λ (z : Pending). covers z.path q) p u))
        ]
      ];
    }
      where
        below : (q : Path) → IsMet points q → (rest : Path) → p.path ++ rest ≡ q → (list_any (λ (z : Pending). covers z.path q) (opened p.path sides todo) ≡ true) ⊎ OneIs (IsMergedDir points q) (dirs ++ dir ∷ [])
        below q met [] e =
            let same : p.path ≡ q = sym (append-nil p.path) ∙ e in
            inr (one_last (IsMergedDir points q) dirs dir (subst (λ (z : Path). IsMergedDir points z dir) same here))
        below q met (name ∷ rest) e =
            let whole : (p.path ++ name ∷ []) ++ rest ≡ q = append_assoc p.path (name ∷ []) rest ∙ e in
            inl (any_opened p.path sides todo name q (is_new name rest q whole met) (subst (λ (z : Path). covers (p.path ++ name ∷ []) z ≡ true) whole (covers-longer (p.path ++ name ∷ []) rest)))

  -- where the roots were not changed on both sides, it goes through none
  pub none_planned : is_changed (points []).three ≡ false → IsPlanning points [] []
  none_planned c = record {
    each = tt;
    all = λ q met goes. absurd (never q met);
  }
    where
      never : (q : Path) → IsMet points q → ⊥
      never [] met = both_ways _ c met.changed
      never (x ∷ q) met =
          let at = points [] in
          both_ways _ c (merges_changed at.three.base at.three.head at.three.own (goes_down at.halt) (goes_through (down see) [] x q met.comes))
