-- Why reading stops, as it is told.
use Rattle.std.specs.Prelude.{ℕ}
use Rattle.fsfs_script.specs.declared.job_lines.refusal.Refusal.{Refusal}
use Rattle.fsfs_script.specs.declared.job_lines.refusal.Refusal.TheVariants as refusals
use Rattle.fsfs_script.specs.declared.job_lines.refusal.LineError.{LineError}
use Rattle.fsfs_script.specs.declared.job_lines.refusal.LineError.TheVariants as lines
use Rattle.fsfs_script.specs.declared.stop.Stop.{Stop}
use Rattle.fsfs_script.specs.declared.stop.Stop.TheVariants as stops
use Rattle.fsfs_script.specs.declared.script_error.ScriptError.{ScriptError}
use Rattle.fsfs_script.specs.declared.script_error.ScriptError.TheVariants as errors

abbrev pub stop_from : LineError → Stop
stop_from lines.OutOfMemory = stops.OutOfMemory
stop_from (lines.Refused refusal) = stops.Refused refusal

-- a refusal of the command that began on this line
abbrev pub error_at : ℕ → Refusal → ScriptError
error_at line (refusals.Bad why) = errors.BadScript (record { line = line; why = why })
error_at line refusals.TextTooLong = errors.TextTooLong
error_at line refusals.PropTooLong = errors.PropTooLong
error_at line refusals.TooManyJobs = errors.TooManyJobs

abbrev pub error_from : ℕ → Stop → ScriptError
error_from line (stops.Refused refusal) = error_at line refusal
error_from line stops.ReadFault = errors.ReadFault
error_from line stops.OutOfMemory = errors.OutOfMemory

-- a fact, where the source failed
abbrev pub IfRead : Stop → Type 0 → Type 0
IfRead (stops.Refused refusal) P = Unit {0}
IfRead stops.ReadFault P = P
IfRead stops.OutOfMemory P = Unit {0}

abbrev pub IfReadFault : ScriptError → Type 0 → Type 0
IfReadFault (errors.BadScript bad) P = Unit {0}
IfReadFault errors.TextTooLong P = Unit {0}
IfReadFault errors.PropTooLong P = Unit {0}
IfReadFault errors.TooManyJobs P = Unit {0}
IfReadFault errors.ReadFault P = P
IfReadFault errors.OutOfMemory P = Unit {0}
