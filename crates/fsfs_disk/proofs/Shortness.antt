-- The files of a disk are short.
use Rattle.std.specs.Prelude.{Option, Some, None, IfSome}
use Rattle.fsfs_disk.specs.Benches.{HasShortFiles}
use Rattle.fsfs_disk.specs.Trace.{Trace, files_now}
use Rattle.fsfs_disk.specs.Crash.{AllImages}
use Rattle.fsfs_disk.proofs.CrashLemmas.{files_are_image}

pub short_now : (told : Option Trace) → AllImages told HasShortFiles → IfSome told (λ t. HasShortFiles (files_now t))
short_now None all = tt
short_now (Some t) all = all (files_now t) (files_are_image t.first t.operations)
