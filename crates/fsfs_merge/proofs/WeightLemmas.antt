-- What stands in a directory weighs less than the directory.
use Rattle.std.proofs.Common.{◌≡◌, ℕ, suc, ◌≤◌, ◌<◌, ◌+◌, ◌*◌, ◌^◌, Bool, true, false, List, [], ◌∷◌, ◌++◌, length, arith, Option, Some, None, refl, sym, ap, ◌∙◌, subst, append_assoc}
use Rattle.std.specs.Prelude.{if◌then◌else◌}
use Rattle.std.proofs.Math.Nat.{one-le-pow, pow-le-pow_right, pow-suc, mul-le-mul_left}
use Rattle.std.proofs.lemmas.Bool.Decides.{nat_tests}
use Rattle.fsfs_base.specs.Paths.{PathName, Path}
use Rattle.fsfs_noderev.specs.declared.node_id.Place.{Place}
use Rattle.fsfs_noderev.specs.declared.node_id.Place.TheVariants as places
use Rattle.fsfs_revision.specs.declared.damage.RevOffset.{RevOffset}
use Rattle.fsfs_revision.specs.Damage.Damages.{place_of}
use Rattle.fsfs_revision.specs.Nodes.{is_before, place_before}
use Rattle.fsfs_revision.specs.Shows.Reading.{offset_of}
use Rattle.fsfs_merge.specs.declared.clash.three.Target.{Target}
use Rattle.fsfs_merge.specs.declared.clash.three.Three.{Three}
use Rattle.fsfs_merge.specs.declared.clash.three.Which.{Which}
use Rattle.fsfs_merge.specs.declared.clash.three.Which.TheVariants.{Changed, Made}
use Rattle.fsfs_merge.specs.declared.clash.entries.Sides.{Sides}
use Rattle.fsfs_merge.specs.declared.clash.walk.Pending.{Pending}
use Rattle.fsfs_merge.specs.Clash.Lists.{target_in, names_in, three_in, AreTargetsBefore}
use Rattle.fsfs_merge.specs.Clash.Threes.{is_of}
use Rattle.fsfs_merge.specs.Clash.Walks.{pending, if_changed, changed, opened}
use Rattle.fsfs_dag.specs.TreeWalks.{rank}
use Rattle.fsfs_dag.proofs.TreeWalkLemmas.{place_rank, few}
use Rattle.fsfs_merge.specs.Clash.Weights.{weight, weight_in, total}

-- ---- sums

pub total_append : (xs ys : List Pending) → total (xs ++ ys) ≡ total xs + total ys
total_append [] ys = omega arith
total_append (x ∷ xs) ys = let k = total_append xs ys in omega arith

pub total_push : (todo : List Pending) (p : Pending) → total (todo ++ p ∷ []) ≡ total todo + weight_in p.three.base
total_push [] p = omega arith
total_push (q ∷ todo) p = let k = total_push todo p in omega arith

pub weight_some : (o : Option Target) (p : ℕ) → p < p + weight_in o
weight_some None p = omega arith
weight_some (Some t) p = let pos : 0 < 2 ^ 65 = omega arith in omega (arith, one-le-pow (suc (rank (offset_of t.id.place))) (2 ^ 65) pos)

-- ---- the entries of a directory

sums : (a b w x y z : ℕ) → x ≤ a * w → y ≤ b * w → z ≡ x + y → z ≤ (a + b) * w
sums a b w x y z f g e = omega arith

count : (xs ys : List Pending) → length (xs ++ ys) ≡ length xs + length ys
count [] ys = omega arith
count (x ∷ xs) ys = let k = count xs ys in omega arith

module _ (home : RevOffset) (fits : home.offset < 2 ^ 64) where
  abbrev bound : ℕ
  bound = (2 ^ 65) ^ rank home

  target_le : (o : Option Target) → ((t : Target) → o ≡ Some t → place_before home t.id.place ≡ true) → weight_in o ≤ bound
  target_le None before = let pos : 0 < 2 ^ 65 = omega arith in one-le-pow (rank home) (2 ^ 65) pos
  target_le (Some t) before =
      let pos : 0 < 2 ^ 65 = omega arith in
      let lower = place_rank t.id.place home fits (before t refl) in
      let le : suc (rank (offset_of t.id.place)) ≤ rank home = omega arith in
      pow-le-pow_right pos le

  joined : (xs ys : List Pending) → total xs ≤ length xs * bound → total ys ≤ length ys * bound → total (xs ++ ys) ≤ length (xs ++ ys) * bound
  joined xs ys f g =
      subst (λ (n : ℕ). total (xs ++ ys) ≤ n * bound) (sym (count xs ys)) (sums (length xs) (length ys) bound (total xs) (total ys) (total (xs ++ ys)) f g (total_append xs ys))

  one_le : (path : Path) (three : Three) (b : Bool) → weight_in three.base ≤ bound → total (if b then pending path three ∷ [] else []) ≤ length (if b then pending path three ∷ [] else []) * bound
  one_le path three true le = omega (arith, le)
  one_le path three false le = omega arith

  changed_le : (which : Which) (path : Path) (sides : Sides) (names : List PathName) → AreTargetsBefore home sides.base → total (changed which path sides names) ≤ length (changed which path sides names) * bound
  changed_le which path sides [] before = omega arith
  changed_le which path sides (x ∷ names) before =
      joined (if_changed which (path ++ x ∷ []) (three_in sides x)) (changed which path sides names) (one_le (path ++ x ∷ []) (three_in sides x) (is_of which (three_in sides x)) (target_le (target_in sides.base x) (before x)))
      (changed_le which path sides names before)

  less : (t s n w b : ℕ) → t ≤ n * b → n * b ≤ 2 ^ 64 * b → 1 ≤ b → w ≡ b * 2 ^ 65 → s + t < s + w
  less t s n w b f g one e = omega arith

  pub total_opened : (path : Path) (sides : Sides) (todo : List Pending) → AreTargetsBefore home sides.base → length (opened path sides todo) < 2 ^ 64 → total (opened path sides todo) < total todo + weight home
  total_opened path sides todo before short =
      let xs = changed Changed path sides (names_in sides.base) in
      let ys = changed Made path sides (names_in sides.own) in
      let pos : 0 < 2 ^ 65 = omega arith in
      let lens : length (opened path sides todo) ≡ length todo + length (xs ++ ys) = ap length (append_assoc todo xs ys) ∙ count todo (xs ++ ys) in
      let sum : total (opened path sides todo) ≡ total todo + total (xs ++ ys) = ap total (append_assoc todo xs ys) ∙ total_append todo (xs ++ ys) in
      let whole : weight home ≡ bound * 2 ^ 65 = omega (arith, pow-suc (2 ^ 65) (rank home)) in
      let fewer : length (xs ++ ys) < 2 ^ 64 = omega (arith, lens, short) in
      let k = less (total (xs ++ ys)) (total todo) (length (xs ++ ys)) (weight home) bound (joined xs ys (changed_le Changed path sides (names_in sides.base) before) (changed_le Made path sides (names_in sides.own) before)) (few (length (xs ++ ys)) bound fewer) (one-le-pow (rank home) (2 ^ 65) pos) whole in
      omega (arith, k, sum)
