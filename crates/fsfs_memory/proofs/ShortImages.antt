-- No image of a disk in memory has a long file.
use Rattle.std.proofs.Common.{◌≡◌, List, ◌∷◌, Bool, true, false, sym, ap, subst, ◌∙◌}
use Rattle.std.specs.Prelude.{Result, Ok, Err, OnOk, OnErr, is_ok}
use Rattle.fsfs_disk.specs.Labels.{Label}
use Rattle.fsfs_base.specs.Files.{Files}
use Rattle.fsfs_disk.specs.Benches.{HasShortFiles}
use Rattle.fsfs_disk.specs.Short.{IsShortChange}
use Rattle.fsfs_disk.specs.Trace.{NameChange, Operation, IsImage, files_after, labels_after, relabelled}
use Rattle.fsfs_disk.proofs.CrashLemmas.{files_are_image}
use Rattle.fsfs_disk.proofs.ShortLemmas.{short_image}
use Rattle.fsfs_memory.specs.Memdisk.Stored.{operation_by}

-- each image is short
abbrev pub AreShort : Files → List Operation → Type 0
AreShort first operations = (m : Files) → IsImage first operations m → HasShortFiles m

-- also after an operation more
pub short_more : (first : Files) (operations : List Operation) (done : Bool) (change : NameChange) → IsShortChange change → AreShort first operations → AreShort first (operation_by done change ∷ operations)
short_more first operations true change few all m image = short_image change (files_after first operations) (IsImage first operations) few (all (files_after first operations) (files_are_image first operations)) all m image
short_more first operations false change few all m image = all m image

-- the labels after an operation more, which was done or only attempted
pub kept_more : {T E : Type 0} (result : Result T E) (done : Bool) (change : NameChange) (first : List Label) (operations : List Operation) (old new : List Label)
    → done ≡ is_ok result → old ≡ labels_after first operations → OnOk result (new ≡ relabelled change old) → OnErr result (new ≡ old)
    → new ≡ labels_after first (operation_by done change ∷ operations)
kept_more (Ok x) done change first operations old new is before ok err =
    subst (λ d. new ≡ labels_after first (operation_by d change ∷ operations)) (sym is) (ok ∙ ap (relabelled change) before)
kept_more (Err e) done change first operations old new is before ok err =
    subst (λ d. new ≡ labels_after first (operation_by d change ∷ operations)) (sym is) (err ∙ before)
