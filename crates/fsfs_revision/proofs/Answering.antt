-- What functions answer by readings, one after another.
use Rattle.std.proofs.Common.{inl, inr}
use Rattle.std.specs.Prelude.{Result, Ok, Err}
use Rattle.fsfs_revision.specs.declared.wrong.Wrong.{Wrong}
use Rattle.fsfs_revision.specs.declared.wrong.ReadError.{ReadError}
use Rattle.fsfs_revision.specs.declared.wrong.ReadError.TheVariants as errors
use Rattle.fsfs_revision.specs.Damage.Readings.{AndThen, Answers}

-- what is wrong in the first reading stops what follows
pub stops : {A X B Y : Type 0} (first : A → X) (second : B → Y) (e : ReadError) (R : Result X Wrong → Type 0) (S : X → Result Y Wrong → Type 0)
    → Answers first R (Err e) → Answers second (AndThen R S) (Err e)
stops first second (errors.Wrong w) R S h = inl h
stops first second errors.OutOfMemory R S h = tt
stops first second errors.DiskFault R S h = tt

-- a value that was read goes into what follows
pub goes_on : {X B Y : Type 0} (second : B → Y) (result : Result B ReadError) (R : Result X Wrong → Type 0) (S : X → Result Y Wrong → Type 0) (x : X)
    → R (Ok x) → Answers second (S x) result → Answers second (AndThen R S) result
goes_on second (Ok y) R S x r s = (x, r, s)
goes_on second (Err (errors.Wrong w)) R S x r s = inr (x, r, s)
goes_on second (Err errors.OutOfMemory) R S x r s = tt
goes_on second (Err errors.DiskFault) R S x r s = tt

-- an answer of one reading is one of another that has the same answers
pub answers_as : {B Y : Type 0} (view : B → Y) (result : Result B ReadError) (R S : Result Y Wrong → Type 0) → ((r : Result Y Wrong) → R r → S r) → Answers view R result → Answers view S result
answers_as view (Ok y) R S f h = f _ h
answers_as view (Err (errors.Wrong w)) R S f h = f _ h
answers_as view (Err errors.OutOfMemory) R S f h = tt
answers_as view (Err errors.DiskFault) R S f h = tt

-- a failure answers whatever its value would be seen by
pub err_as : {A B Y : Type 0} (first : A → Y) (second : B → Y) (e : ReadError) (R : Result Y Wrong → Type 0) → Answers first R (Err e) → Answers second R (Err e)
err_as first second (errors.Wrong w) R h = h
err_as first second errors.OutOfMemory R h = tt
err_as first second errors.DiskFault R h = tt
