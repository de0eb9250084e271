-- What writing a text leaves of a sink.
use Rattle.std.specs.Prelude.{◌≡◌, ◌≤◌, ℕ, List, Option, Result, Ok, Err, IfErr}
use Rattle.fsfs_base.specs.Failures.{Rose}
use Rattle.fsfs_base.specs.Streams.{Adds}
use Rattle.fsfs_base.specs.Output.{AddsFront}
use Rattle.fsfs_revision.specs.declared.wrong.Wrong.{Wrong}
use Rattle.fsfs_revision.specs.declared.wrong.ReadError.TheVariants as errors
use Rattle.fsfs_dag.specs.declared.writing.TextError.{TextError}
use Rattle.fsfs_dag.specs.declared.writing.TextError.TheVariants.{Unread, WriteFault}

-- a text that is read is written whole, or where the sink failed a first part of it; where it isn't had, nothing is written
abbrev pub Writes : Option (List ℕ) → Option (List ℕ) → (Result (List ℕ) Wrong → Type 0) → Result (Unit {0}) TextError → Type 0
Writes old new R (Ok u) = (text : List ℕ) × R (Ok text) × Adds old new text
Writes old new R (Err WriteFault) = (text : List ℕ) × R (Ok text) × AddsFront old new text
Writes old new R (Err (Unread (errors.Wrong w))) = R (Err w) × (new ≡ old)
Writes old new R (Err (Unread errors.OutOfMemory)) = new ≡ old
Writes old new R (Err (Unread errors.DiskFault)) = new ≡ old

-- which count rose: that of the book, or that of the sink
abbrev pub Rises : TextError → Type 0 → Type 0 → Type 0
Rises WriteFault of_book of_sink = of_sink
Rises (Unread errors.DiskFault) of_book of_sink = of_book
Rises (Unread errors.OutOfMemory) of_book of_sink = Unit {0}
Rises (Unread (errors.Wrong w)) of_book of_sink = Unit {0}

-- counts of faults never fall, and the one of the object that failed rose
pub record HasCauses (book_before book_now sink_before sink_now : ℕ) (result : Result (Unit {0}) TextError) : Type 0 where
  pub book : book_before ≤ book_now
  pub sink : sink_before ≤ sink_now
  pub failed : IfErr result (λ e. Rises e (Rose book_before book_now) (Rose sink_before sink_now))
