-- A reading: which answers the bytes have. Its answer is a value, or what is wrong first.
--
-- Each reading is a relation `R : Result X Wrong → Type 0`: `R (Ok x)` says that the bytes give x, and `R (Err w)` is the row of
-- the table of damage: w is what is wrong, at its place, and all that is read before it is whole. A reading has one answer at
-- most, so `Answers view R result` pins what a function returned, but for want of memory and failures of the disk.
use Rattle.std.specs.Prelude.{◌≡◌, ◌⊎◌, Result, Ok, Err}
use Rattle.fsfs_revision.specs.declared.wrong.Wrong.{Wrong}
use Rattle.fsfs_revision.specs.declared.wrong.ReadError.{ReadError}
use Rattle.fsfs_revision.specs.declared.wrong.ReadError.TheVariants as errors

-- one reading, and then another of what it gave; what is wrong in either is the answer
abbrev pub AndThen : {X Y : Type 0} → (Result X Wrong → Type 0) → (X → Result Y Wrong → Type 0) → Result Y Wrong → Type 0
AndThen {X = X} R S (Ok y) = (x : X) × R (Ok x) × S x (Ok y)
AndThen {X = X} R S (Err w) = R (Err w) ⊎ ((x : X) × R (Ok x) × S x (Err w))

-- a fact of what is wrong, where something is; a failure says nothing of the bytes
abbrev pub IfWrong : (Wrong → Type 0) → ReadError → Type 0
IfWrong P (errors.Wrong w) = P w
IfWrong P errors.OutOfMemory = Unit {0}
IfWrong P errors.DiskFault = Unit {0}

-- what a function returned, seen by view, is what is read
abbrev pub Answers : {X Y : Type 0} → (X → Y) → (Result Y Wrong → Type 0) → Result X ReadError → Type 0
Answers view R (Ok x) = R (Ok (view x))
Answers view R (Err (errors.Wrong w)) = R (Err w)
Answers view R (Err errors.OutOfMemory) = Unit {0}
Answers view R (Err errors.DiskFault) = Unit {0}

-- a reading has one answer at most
abbrev pub HasOneAnswer : {X : Type 0} → (Result X Wrong → Type 0) → Type 0
HasOneAnswer {X = X} R = (a b : Result X Wrong) → R a → R b → a ≡ b
