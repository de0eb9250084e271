-- What is told of an owned disk.
use Rattle.std.proofs.Common.{◌≡◌, ℕ, Bool, List, ap, ◌∙◌, arith}
use Rattle.std.specs.Prelude.{Option, Some, Ok, option_map}
use Rattle.fsfs_base.specs.Files.{Files}
use Rattle.fsfs_disk.specs.Trace.{Trace, files_now}
use Rattle.fsfs_revision.specs.Told.{Telling}
use Rattle.fsfs_layout.specs.declared.layout.Layout.{Layout}
use Rattle.fsfs_revision.specs.RevBytes.{rev_bytes, floor_in}
use Rattle.fsfs_fetch.specs.Kept.{TellsFiles}
use Rattle.fsfs_fetch.specs.Views.{DiskState}
use Rattle.fsfs_fetch.specs.Owned.{owned_view, state_of, TellsAll}

pub owned_files : (trace : Option Trace) (path : List ℕ) (right : Bool) (benches y : ℕ) (n : Layout) (t : Trace) → trace ≡ Some t → (owned_view (state_of trace path right benches) y n).files ≡ Some (files_now t)
owned_files trace path right benches y n t e = ap (option_map files_now) e

pub owned_floor : (n layout : Layout) (floor : ℕ) (m : Files) → n ≡ layout → floor_in layout m ≡ Ok floor → floor_in n m ≡ Ok floor
owned_floor n layout floor m e is = ap (λ k. floor_in k m) e ∙ is

pub owned_tells : {Below : Type 0} (disk : DiskState) (y : ℕ) (n : Layout) (last : ℕ) (layout : Layout) (m : Files) (told : Telling Below) → y ≡ last → n ≡ layout → TellsFiles (owned_view disk y n) m told → TellsAll last layout m told
owned_tells disk y n last layout m told same_last same_size h = record {
  revs = λ r le. h.revs r (omega (arith, le, same_last)) ∙ ap (λ k. Some (rev_bytes k m r)) same_size;
  youngest = h.youngest ∙ ap (λ (k : ℕ). Some k) same_last;
}
