-- A reading that is made of readings and of checks has one answer.
use Rattle.std.proofs.Common.{◌≡◌, List, [], ◌∷◌, sym, ap, subst, ◌∙◌, inl, inr}
use Rattle.std.specs.Prelude.{Result, Ok, Err}
use Rattle.fsfs_revision.specs.declared.wrong.Wrong.{Wrong}
use Rattle.fsfs_revision.specs.Damage.Readings.{AndThen, HasOneAnswer}
use Rattle.fsfs_revision.specs.Damage.Checks.{Check, AllPass, FirstFails, Judged}

pub ok_same : {X : Type 0} (x y : X) → (let r : Result X Wrong = Ok x in r) ≡ Ok y → x ≡ y
ok_same x y e = cc

pub ok_no_err : {X : Type 0} {A : Type 0} (x : X) (w : Wrong) → (let r : Result X Wrong = Ok x in r) ≡ Err w → A
ok_no_err x w e = absurd cc

pub err_same : {X : Type 0} (v w : Wrong) → (let r : Result X Wrong = Err v in r) ≡ Err w → v ≡ w
err_same v w e = cc

pub ok_ap : {X : Type 0} (x y : X) → x ≡ y → (let r : Result X Wrong = Ok x in r) ≡ Ok y
ok_ap {X} x y e = ap (λ (z : X). let r : Result X Wrong = Ok z in r) e

pub err_ap : {X : Type 0} (v w : Wrong) → v ≡ w → (let r : Result X Wrong = Err v in r) ≡ Err w
err_ap {X} v w e = ap (λ (z : Wrong). let r : Result X Wrong = Err z in r) e

-- ---- one reading behind another

module _ {X Y : Type 0} (R : Result X Wrong → Type 0) (S : X → Result Y Wrong → Type 0) (one : HasOneAnswer R) where
  -- what comes behind comes behind the only value
  behind_one : (x y : X) (r : Result Y Wrong) → R (Ok x) → R (Ok y) → S y r → S x r
  behind_one x y r a b s = subst (λ (z : X). S z r) (sym (ok_same x y (one (Ok x) (Ok y) a b))) s

  pub and_then_one : ((x : X) → HasOneAnswer (S x)) → HasOneAnswer (AndThen R S)
  and_then_one each (Ok y) (Ok z) a b = each a.0 (Ok y) (Ok z) a.2 (behind_one a.0 b.0 (Ok z) a.1 b.1 b.2)
  and_then_one each (Ok y) (Err w) a (inl t) = ok_no_err a.0 w (one (Ok a.0) (Err w) a.1 t)
  and_then_one each (Ok y) (Err w) a (inr b) = each a.0 (Ok y) (Err w) a.2 (behind_one a.0 b.0 (Err w) a.1 b.1 b.2)
  and_then_one each (Err w) (Ok z) (inl r) b = ok_no_err b.0 w (one (Ok b.0) (Err w) b.1 r)
  and_then_one each (Err w) (Ok z) (inr a) b = each a.0 (Err w) (Ok z) a.2 (behind_one a.0 b.0 (Ok z) a.1 b.1 b.2)
  and_then_one each (Err w) (Err e) (inl r) (inl t) = err_ap w e (err_same w e (one (Err w) (Err e) r t))
  and_then_one each (Err w) (Err e) (inl r) (inr b) = ok_no_err b.0 w (one (Ok b.0) (Err w) b.1 r)
  and_then_one each (Err w) (Err e) (inr a) (inl t) = ok_no_err a.0 e (one (Ok a.0) (Err e) a.1 t)
  and_then_one each (Err w) (Err e) (inr a) (inr b) = each a.0 (Err w) (Err e) a.2 (behind_one a.0 b.0 (Err e) a.1 b.1 b.2)

-- ---- checks

-- where all pass, none fails
pub pass_or_fail : (checks : List Check) (w : Wrong) → AllPass checks → FirstFails checks w → ⊥
pass_or_fail [] w pass fail = fail
pass_or_fail (check ∷ checks) w pass (inl fail) = check.apart pass.0 fail.0
pass_or_fail (check ∷ checks) w pass (inr later) = pass_or_fail checks w pass.1 later.1

-- the first that fails is one
pub first_one : (checks : List Check) (v w : Wrong) → FirstFails checks v → FirstFails checks w → v ≡ w
first_one [] v w a b = absurd a
first_one (check ∷ checks) v w (inl a) (inl b) = a.1 ∙ sym b.1
first_one (check ∷ checks) v w (inl a) (inr b) = absurd (check.apart b.0 a.0)
first_one (check ∷ checks) v w (inr a) (inl b) = absurd (check.apart a.0 b.0)
first_one (check ∷ checks) v w (inr a) (inr b) = first_one checks v w a.1 b.1

module _ {X : Type 0} (P : X → Type 0) (checks : List Check) (one : (x y : X) → P x → P y → x ≡ y) (pass : (x : X) → P x → AllPass checks) where
  pub judged_one : HasOneAnswer (Judged P checks)
  judged_one (Ok x) (Ok y) a b = ok_ap x y (one x y a b)
  judged_one (Ok x) (Err w) a b = absurd (pass_or_fail checks w (pass x a) b)
  judged_one (Err w) (Ok x) b a = absurd (pass_or_fail checks w (pass x a) b)
  judged_one (Err v) (Err w) a b = err_ap v w (first_one checks v w a b)
