-- What is wrong in one way, told in another.
use Rattle.std.proofs.Common.{◌≡◌}
use Rattle.std.specs.Prelude.{Result, Ok, Err, OnOk}
use Rattle.fsfs_revision.specs.declared.wrong.Wrong.{Wrong}
use Rattle.fsfs_revision.specs.declared.wrong.ReadError.{ReadError}
use Rattle.fsfs_revision.specs.declared.wrong.ReadError.TheVariants as errors
use Rattle.fsfs_revision.specs.Damage.Readings.{Answers, IfWrong}
use Rattle.fsfs_verify.specs.Finds.{Finds}

pub wrong_from : (P Q : Wrong → Type 0) (e : ReadError) → ((w : Wrong) → P w → Q w) → IfWrong P e → IfWrong Q e
wrong_from P Q errors.OutOfMemory f h = tt
wrong_from P Q errors.DiskFault f h = tt
wrong_from P Q (errors.Wrong w) f h = f w h

-- what a reading gives instead of a value
pub wrong_as : {A Y : Type 0} (view : A → Y) (R : Result Y Wrong → Type 0) (Q : Wrong → Type 0) (e : ReadError) → ((w : Wrong) → R (Err w) → Q w) → Answers view R (Err e) → IfWrong Q e
wrong_as view R Q errors.OutOfMemory f h = tt
wrong_as view R Q errors.DiskFault f h = tt
wrong_as view R Q (errors.Wrong w) f h = f w h

-- what holds where something was done, with what was kept
pub finds_with : {T : Type 0} (K : Type 0) (P Q : T → Type 0) (D E : Wrong → Type 0) → ((x : T) → K → P x → Q x) → ((w : Wrong) → D w → E w) → (result : Result T ReadError) → OnOk result K → Finds P D result → Finds Q E result
finds_with K P Q D E f g (Ok x) kept h = f x kept h
finds_with K P Q D E f g (Err e) kept h = wrong_from D E e g h

-- what holds in one way, told in another
pub finds_as : {T : Type 0} (P Q : T → Type 0) (D E : Wrong → Type 0) → ((x : T) → P x → Q x) → ((w : Wrong) → D w → E w) → (result : Result T ReadError) → Finds P D result → Finds Q E result
finds_as P Q D E f g (Ok x) h = f x h
finds_as P Q D E f g (Err e) h = wrong_from D E e g h
