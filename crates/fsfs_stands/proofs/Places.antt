-- What a replace took away stood in this revision or an earlier one.
use Rattle.std.proofs.Common.{◌≡◌, ℕ, zero, suc, ◌≤◌, Bool, true, false, cond, Option, Some, None, length, refl, ap, subst, arith}
use Rattle.std.specs.Prelude.{nat_le}
use Rattle.std.proofs.lemmas.Option.{same_Some}
use Rattle.std.proofs.lemmas.Bool.Decides.{nat_tests}
use Rattle.fsfs_base.specs.Paths.{Path}
use Rattle.fsfs_tree.specs.ChangedTexts.{nearest_source, place_upto, or_before, taken_from}

upto_within : (rev : ℕ) (b : Bool) (s from : ℕ × Path) → nat_le s.0 rev ≡ b → cond b (Some s) None ≡ Some from → from.0 ≤ rev
upto_within rev true s from e f = let same = same_Some s from f in let le : s.0 ≤ rev = grind (arith, nat_tests) in subst (λ (t : ℕ × Path). t.0 ≤ rev) same le
upto_within rev false s from e f = absurd cc

before_within : (rev : ℕ) (p : Path) (from : ℕ × Path) → or_before rev p None ≡ Some from → from.0 ≤ rev
before_within zero p from e = absurd cc
before_within (suc r) p from e = let same = same_Some {A = ℕ × Path} (r, p) from e in omega (arith, ap (λ (t : ℕ × Path). t.0) same)

pub place_within : (rev : ℕ) (p : Path) (o : Option (ℕ × Path)) (from : ℕ × Path) → or_before rev p o ≡ Some from → from.0 ≤ rev
place_within rev p None from e = before_within rev p from e
place_within rev p (Some s) from e = upto_within rev (nat_le s.0 rev) s from refl e

pub taken_within : (rev : ℕ) (sources : Path → Option (ℕ × Path)) (p : Path) (from : ℕ × Path) → taken_from rev sources p ≡ Some from → from.0 ≤ rev
taken_within rev sources p from e = place_within rev p (nearest_source sources p (length p)) from e
