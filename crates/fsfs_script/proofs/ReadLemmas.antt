-- What is read in two steps.
use Rattle.std.proofs.Common.{◌≡◌, ℕ, List, Option, Some, None, refl, sym, ap, subst}
use Rattle.std.specs.Prelude.{Result, Ok, Err}
use Rattle.fsfs_script.specs.JobLines.Judging.{◌>>=◌, Fails}
use Rattle.fsfs_script.specs.declared.job_lines.refusal.Refusal.{Refusal}
use Rattle.fsfs_script.specs.declared.job_lines.refusal.LineError.{LineError}
use Rattle.fsfs_script.specs.declared.job_lines.refusal.LineError.TheVariants as lines
use Rattle.fsfs_script.specs.Places.{Place}
use Rattle.fsfs_script.specs.Errors.{stop_from}
use Rattle.fsfs_script.specs.Reading.{line_at, Reads}
use Rattle.fsfs_script.specs.Commands.{judged_at}
use Rattle.fsfs_script.specs.declared.stop.Stop.{Stop}
use Rattle.fsfs_script.specs.declared.stop.Stop.TheVariants as stops

-- the first step stops
pub reads_stop : {X Y U V : Type 0} (view : X → Y) (last : U → V) (read : Place → Result (Y × Place) Refusal) (next : Y × Place → Result (V × Place) Refusal) (a b c : Option Place) (stop : Stop)
    → Reads view read a b (Err stop) → Reads last (λ p. read p >>= next) a c (Err stop)
reads_stop view last read next None b c stop r = tt
reads_stop view last read next (Some p) b c (stops.Refused refusal) r = rw r refl
reads_stop view last read next (Some p) b c stops.ReadFault r = tt
reads_stop view last read next (Some p) b c stops.OutOfMemory r = tt

-- the second step reads on
pub reads_then : {X Y U V : Type 0} (view : X → Y) (last : U → V) (read : Place → Result (Y × Place) Refusal) (next : Y × Place → Result (V × Place) Refusal) (a b c : Option Place) (x : X) (result : Result U Stop)
    → Reads view read a b (Ok x) → Reads last (λ q. next (view x, q)) b c result → Reads last (λ p. read p >>= next) a c result
reads_then view last read next None b c x result r s = tt
reads_then {X} {Y} {U} {V} view last read next (Some p) b c x result r s = by result there
  where
    there : Reads last (λ q. next (view x, q)) (Some r.0) c result
    there = subst (λ (o : Option Place). Reads last (λ q. next (view x, q)) o c result) r.2 s

    by : (result : Result U Stop) → Reads last (λ q. next (view x, q)) (Some r.0) c result → Reads last (λ p. read p >>= next) (Some p) c result
    by (Ok u) t = (t.0, rw r.1 t.1, t.2)
    by (Err (stops.Refused refusal)) t = rw r.1 t
    by (Err stops.ReadFault) t = tt
    by (Err stops.OutOfMemory) t = tt

-- what stands is given at once
pub reads_at_once : {X Y U V : Type 0} (view : X → Y) (last : U → V) (read : Place → Result (Y × Place) Refusal) (make : Y → V) (a b : Option Place) (x : X) (u : U)
    → last u ≡ make (view x) → Reads view read a b (Ok x) → Reads last (λ p. read p >>= λ y. Ok (make y.0, y.1)) a b (Ok u)
reads_at_once view last read make None b x u e r = tt
reads_at_once view last read make (Some p) b x u e r = (r.0, rw r.1 (ap (λ v. Ok (v, r.0)) (sym e)), r.2)

-- ---- a line that is judged

pub judged : {X Y : Type 0} (view : X → List ℕ) (judge : List ℕ → Result Y Refusal) (a b : Option Place) (line : X) (said : Y)
    → Reads view line_at a b (Ok line) → judge (view line) ≡ Ok said → Reads (λ (y : Y). y) (judged_at judge) a b (Ok said)
judged view judge None b line said r e = tt
judged view judge (Some p) b line said r e = (r.0, rw (r.1, e) refl, r.2)

pub judged_bad : {X Y U : Type 0} (view : X → List ℕ) (last : U → Y) (judge : List ℕ → Result Y Refusal) (a b c : Option Place) (line : X) (error : LineError)
    → Reads view line_at a b (Ok line) → Fails error (judge (view line)) → Reads last (judged_at judge) a c (Err (stop_from error))
judged_bad view last judge None b c line error r e = tt
judged_bad view last judge (Some p) b c line lines.OutOfMemory r e = tt
judged_bad view last judge (Some p) b c line (lines.Refused refusal) r e = rw (r.1, e) refl

pub judged_stop : {X Y U : Type 0} (view : X → List ℕ) (last : U → Y) (judge : List ℕ → Result Y Refusal) (a b c : Option Place) (stop : Stop)
    → Reads view line_at a b (Err stop) → Reads last (judged_at judge) a c (Err stop)
judged_stop view last judge a b c stop r = reads_stop view last line_at (λ l. judge l.0 >>= λ x. Ok (x, l.1)) a b c stop r

-- ---- what a result holds

pub pair_is : {A B : Type 0} (a c : A) (b d : B) → (let r : Result (A × B) Refusal = Ok (a, b) in r) ≡ Ok (c, d) → (a ≡ c) × (b ≡ d)
pair_is {A} {B} a c b d e = (ap (λ r. (value r).0) e, ap (λ r. (value r).1) e)
  where
    value : Result (A × B) Refusal → A × B
    value (Ok z) = z
    value (Err refusal) = (a, b)
