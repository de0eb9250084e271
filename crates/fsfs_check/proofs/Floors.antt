-- The floor, as it is read.
use Rattle.std.proofs.Common.{◌≡◌, ℕ, List, length, take, refl, ap}
use Rattle.std.specs.Prelude.{Option, Some, None, IfSome, Result, Ok, Err, codes, unwrap_or}
use Rattle.fsfs_base.specs.declared.small_fault.SmallFault.{SmallFault}
use Rattle.fsfs_disk.specs.Trace.{Trace, IsRead, file_at, files_now}
use Rattle.fsfs_layout.specs.Small.{IsMinUnpackedRev, IsMinUnpackedFault}
use Rattle.fsfs_layout.specs.declared.layout.Layout.{Layout}
use Rattle.fsfs_fetch.specs.Answers.{refused}
use Rattle.fsfs_fetch.proofs.FloorLemmas.{floor_found}
use Rattle.fsfs_revision.specs.RevBytes.{floor_in}
use Rattle.fsfs_revision.specs.declared.wrong.Refusal.TheVariants.{Small}
use Rattle.fsfs_revision.specs.declared.wrong.Wrong.TheVariants.{Refused}
use Rattle.fsfs_revision.proofs.FloorLemmas.{floor_ok, floor_err}
use Rattle.fsfs_look.specs.declared.look_error.LookError.TheVariants.{Fault}
use Rattle.fsfs_stands.specs.declared.look_fault.LookFault.TheVariants.{Wrong}
use Rattle.fsfs_check.specs.Finds.{IsFloor}

said_ok : (said : Result ℕ SmallFault) (floor : ℕ) → refused said ≡ refused (Ok floor) → said ≡ Ok floor
said_ok (Ok n) floor is = let same : n ≡ floor = cc in ap (λ (k : ℕ). Ok k) same
said_ok (Err fault) floor is = cc

said_err : (said : Result ℕ SmallFault) (fault : SmallFault) → refused said ≡ refused (Err fault) → said ≡ Err fault
said_err (Ok n) fault is = cc
said_err (Err other) fault is = let same : other ≡ fault = cc in ap (λ (f : SmallFault). Err f) same

module _ (layout : Layout) (name old new text : List ℕ) (found : Option ℕ) (named : name ≡ codes "db/min-unpacked-rev") (size : length old ≡ 64) (is : text ≡ take (unwrap_or found 0) new) where
  pub is_floor : (told : Option Trace) (floor : ℕ) → IfSome told (λ t. IsRead (file_at t name) 0 old new found) → IsMinUnpackedRev layout text floor → IfSome told (λ t. IsFloor (floor_in layout (files_now t)) (Ok floor))
  is_floor None floor read said = tt
  is_floor (Some t) floor read said = said_ok (floor_in layout (files_now t)) floor (floor_found (Some (files_now t)) layout layout name old new text found (Ok floor) refl named size read is (floor_ok layout floor text said))

  pub is_no_floor : (told : Option Trace) (fault : SmallFault) → IfSome told (λ t. IsRead (file_at t name) 0 old new found) → IsMinUnpackedFault layout text fault → IfSome told (λ t. IsFloor (floor_in layout (files_now t)) (Err (Fault (Wrong (Refused (Small fault))))))
  is_no_floor None fault read said = tt
  is_no_floor (Some t) fault read said = (fault, said_err (floor_in layout (files_now t)) fault (floor_found (Some (files_now t)) layout layout name old new text found (Err fault) refl named size read is (floor_err layout text fault said)), refl)
