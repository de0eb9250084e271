-- Reading from the left: a value, or the first refusal.
use Rattle.std.specs.Prelude.{◌≡◌, Option, Some, None, Result, Ok, Err}
use Rattle.fsfs_script.specs.declared.job_lines.refusal.Refusal.{Refusal}
use Rattle.fsfs_script.specs.declared.job_lines.refusal.LineError.{LineError}
use Rattle.fsfs_script.specs.declared.job_lines.refusal.LineError.TheVariants.{OutOfMemory, Refused}

infixl 10 ◌>>=◌
abbrev pub ◌>>=◌ : {A B : Type 0} → Result A Refusal → (A → Result B Refusal) → Result B Refusal
(Ok x) >>= f = f x
(Err e) >>= f = Err e

-- a value, or this refusal where there is none
abbrev pub or_refusal : {A : Type 0} → Refusal → Option A → Result A Refusal
or_refusal refusal None = Err refusal
or_refusal refusal (Some x) = Ok x

-- what a function returned, seen by view, is what reading gives
abbrev pub Gives : {X Y : Type 0} → (X → Y) → Result X Refusal → Result Y Refusal → Type 0
Gives view (Ok x) read = read ≡ Ok (view x)
Gives view (Err refusal) read = read ≡ Err refusal

abbrev pub Fails : {Y : Type 0} → LineError → Result Y Refusal → Type 0
Fails OutOfMemory read = Unit {0}
Fails (Refused refusal) read = read ≡ Err refusal

-- the same, unless memory ran out
abbrev pub GivesOrMemory : {X Y : Type 0} → (X → Y) → Result X LineError → Result Y Refusal → Type 0
GivesOrMemory view (Ok x) read = read ≡ Ok (view x)
GivesOrMemory view (Err e) read = Fails e read
