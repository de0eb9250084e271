-- Whether the small files of a repository open, and what they say.
use Rattle.std.specs.Prelude.{Option, IfSome}
use Rattle.fsfs_base.specs.declared.places.open_fault.OpenFault.{OpenFault}
use Rattle.fsfs_disk.specs.Trace.{Trace, files_now}
use Rattle.fsfs_layout.specs.Opening.{small_texts, IsOpened}
use Rattle.fsfs_layout.specs.declared.opened.Opened.{Opened}
use Rattle.fsfs_repo.specs.OpenFaults.{IfOutside}

-- the small files of the repository say this
abbrev pub OpensAs : Option Trace → Opened → Type 0
OpensAs told o = IfSome told (λ t. IsOpened (small_texts (files_now t)) o)

-- the files don't open, unless the outside failed
abbrev pub DoesNotOpen : Option Trace → OpenFault → Type 0
DoesNotOpen told why = IfSome told (λ t. (o : Opened) → IsOpened (small_texts (files_now t)) o → IfOutside (Unit {0}) why)
