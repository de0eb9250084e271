-- What an owned disk tells to one who reads its revisions.
use Rattle.std.specs.Prelude.{◌≡◌, ℕ, Bool, List, Option, Some, option_map}
use Rattle.fsfs_base.specs.Files.{Files}
use Rattle.fsfs_disk.specs.Trace.{Trace, files_now}
use Rattle.fsfs_revision.specs.Told.{Telling, Knows}
use Rattle.fsfs_layout.specs.declared.layout.Layout.{Layout}
use Rattle.fsfs_fetch.specs.Views.{View, DiskState, Ends}
use Rattle.fsfs_revision.specs.RevBytes.{rev_bytes}

-- an owned disk below a book, and how its files are laid out
pub record OwnedBelow : Type 0 where
  pub disk : Option DiskState
  pub layout : Layout

abbrev pub owned_view : DiskState → ℕ → Layout → View OwnedBelow
owned_view disk youngest layout = record { layout = layout; reach = Ends youngest; files = option_map files_now disk.trace; below = record { disk = Some disk; layout = layout } }

abbrev pub state_of : Option Trace → List ℕ → Bool → ℕ → DiskState
state_of trace path right benches = record { trace = trace; mount_path = path; may_write = right; bench_faults = benches }

-- a book that tells of each revision up to the youngest what the files say
pub record TellsAll (last : ℕ) (layout : Layout) (files : Files) {Below : Type 0} (told : Telling Below) : Type 0 where
  pub revs : Knows told.revs last (rev_bytes layout files)
  pub youngest : told.youngest ≡ Some last
