-- How what a crash may leave goes on over a run of disk calls.
use Rattle.std.proofs.Common.{◌≡◌, ◌⊎◌, ℕ, List, [], ◌∷◌, inl, inr, ⊎_elim, refl, sym, subst, arith}
use Rattle.std.specs.Prelude.{Option, Some, None}
use Rattle.std.specs.FinMap.{get, insert, remove}
use Rattle.fsfs_base.specs.Files.{Files, renamed}
use Rattle.fsfs_disk.specs.Labels.{Label}
use Rattle.fsfs_disk.specs.Trace.{Trace, NameChange, Operation, Put, Adopt, Rename, Remove, FirmNames, KeepLabel, DropLabel, Done, Attempted, IsImage, ImageSince, ImageAfter, TornBy, change_of, add_operation, files_now, files_after, Performs, FailsAt, FailsToPut}
use Rattle.fsfs_disk.specs.Crash.{AllImages, IsFirm, LeavesOnly, Leaves, KeepsImages}

-- this moment is one of those since an earlier one
pub image_now : (n : ℕ) (first : Files) (operations : List Operation) (m : Files) → IsImage first operations m → ImageSince n first operations m
image_now n first [] m now = now
image_now n first (operation ∷ operations) m now = inl now

-- the files that a disk reads are an image
pub files_are_image : (first : Files) (operations : List Operation) → IsImage first operations (files_after first operations)
files_are_image first [] = refl
files_are_image first (Attempted change ∷ operations) = files_are_image first operations
files_are_image first (Done (Put name bytes) ∷ operations) = inr (files_after first operations, files_are_image first operations, refl)
files_are_image first (Done (Adopt name bytes) ∷ operations) = inr (files_after first operations, files_are_image first operations, refl)
files_are_image first (Done (Rename from to) ∷ operations) = inr (files_after first operations, files_are_image first operations, refl)
files_are_image first (Done (Remove name) ∷ operations) = inr (files_after first operations, files_are_image first operations, refl)
files_are_image first (Done FirmNames ∷ operations) = refl
files_are_image first (Done (KeepLabel l) ∷ operations) = files_are_image first operations
files_are_image first (Done (DropLabel l) ∷ operations) = files_are_image first operations

pub leaves_none : (t : Trace) (P : Files → Type 0) → LeavesOnly t t P
leaves_none t P = record { later = omega arith; each = λ n m le left. inl left }

pub leaves_on : (a b c : Trace) (P : Files → Type 0) → LeavesOnly a b P → LeavesOnly b c P → LeavesOnly a c P
leaves_on a b c P f g = record {
  later = omega (arith, f.later, g.later);
  each = λ n m le left. ⊎_elim (f.each n m le) (λ p. inr p) (g.each n m (omega (arith, le, f.later)) left);
}

pub leaves_weaker : (a b : Trace) (P Q : Files → Type 0) → ((m : Files) → P m → Q m) → LeavesOnly a b P → LeavesOnly a b Q
leaves_weaker a b P Q h f = record { later = f.later; each = λ n m le left. ⊎_elim (λ l. inl l) (λ p. inr (h m p)) (f.each n m le left) }

-- a operation more
pub leaves_operation : (t : Trace) (operation : Operation) (P : Files → Type 0)
    → ((m : Files) → ImageAfter (change_of operation) (files_now t) (IsImage t.first t.operations) m → P m)
    → ((m : Files) → TornBy (change_of operation) (IsImage t.first t.operations) m → P m)
    → LeavesOnly t (add_operation operation t) P
leaves_operation t operation P left torn = record {
  later = omega arith;
  each = λ n m le at. ⊎_elim (at_once n m operation left) (λ before. ⊎_elim (λ l. inr (left m l)) (λ b. ⊎_elim (λ r. inr (torn m r)) (λ e. inl e) b) before.1) at;
}
  where
    at_once : (n : ℕ) (m : Files) (s : Operation) → ((x : Files) → ImageAfter (change_of s) (files_now t) (IsImage t.first t.operations) x → P x) → IsImage t.first (s ∷ t.operations) m → ImageSince n t.first t.operations m ⊎ P m
    at_once n m (Done change) h at = inr (h m at)
    at_once n m (Attempted change) h at = inl (image_now n t.first t.operations m at)

pub same_leaves : (old new : Option Trace) (P : Files → Type 0) → new ≡ old → Leaves old new P
same_leaves None new P e = tt
same_leaves (Some t) new P e = subst (λ o. Leaves (Some t) o P) (sym e) (leaves_none t P)

pub leaves_then : (a b c : Option Trace) (P : Files → Type 0) → Leaves a b P → Leaves b c P → Leaves a c P
leaves_then None b c P f g = tt
leaves_then (Some t) None c P f g = absurd f
leaves_then (Some t) (Some u) None P f g = absurd g
leaves_then (Some t) (Some u) (Some v) P f g = leaves_on t u v P f g

pub leaves_with : (a b : Option Trace) (P Q : Files → Type 0) → ((m : Files) → P m → Q m) → Leaves a b P → Leaves a b Q
leaves_with None b P Q h f = tt
leaves_with (Some t) None P Q h f = f
leaves_with (Some t) (Some u) P Q h f = leaves_weaker t u P Q h f

pub keeps_then : (a b c : Option Trace) (P : Files → Type 0) → KeepsImages a b P → KeepsImages b c P → KeepsImages a c P
keeps_then a b c P f g all = let x = f all in let y = g x.0 in (y.0, leaves_then a b c P x.1 y.1)

pub same_keeps : (old new : Option Trace) (P : Files → Type 0) → new ≡ old → KeepsImages old new P
same_keeps old new P e all = (subst (λ o. AllImages o P) (sym e) all, same_leaves old new P e)

-- what is left after a change, and in the middle of it, has P
abbrev pub Stable : NameChange → (Files → Type 0) → Trace → Type 0
Stable change P t = ((m : Files) → ImageAfter change (files_now t) (IsImage t.first t.operations) m → P m) × ((m : Files) → TornBy change (IsImage t.first t.operations) m → P m)

-- a call that may have failed leaves what has P
pub leaves_at : (change : NameChange) (P : Files → Type 0) (old new : Option Trace) → FailsAt change old new → ((t : Trace) → old ≡ Some t → Stable change P t) → Leaves old new P
leaves_at change P None new at stable = tt
leaves_at change P (Some t) new at stable =
    let s = stable t refl in
    ⊎_elim (λ e. same_leaves (Some t) new P e)
    (λ performed. ⊎_elim (λ e. subst (λ o. Leaves (Some t) o P) (sym e) (leaves_operation t (Attempted change) P s.0 s.1))
    (λ e. subst (λ o. Leaves (Some t) o P) (sym e) (leaves_operation t (Done change) P s.0 s.1)) performed) at

-- and the images after it have P
pub all_at : (change : NameChange) (P : Files → Type 0) (old new : Option Trace) → FailsAt change old new → AllImages old P → ((t : Trace) → old ≡ Some t → Stable change P t) → AllImages new P
all_at change P None new at all stable =
    ⊎_elim (λ e. subst (λ o. AllImages o P) (sym e) tt) (λ performed. ⊎_elim (λ e. subst (λ o. AllImages o P) (sym e) tt) (λ e. subst (λ o. AllImages o P) (sym e) tt) performed) at
all_at change P (Some t) new at all stable =
    ⊎_elim (λ e. subst (λ o. AllImages o P) (sym e) all)
    (λ performed. ⊎_elim (λ e. subst (λ o. AllImages o P) (sym e) all) (λ e. subst (λ o. AllImages o P) (sym e) (stable t refl).0) performed) at

stable_put : (name bytes : List ℕ) (P : Files → Type 0) → ((m : Files) (any : List ℕ) → P m → P (insert m name any)) → (t : Trace) → ((m : Files) → IsImage t.first t.operations m → P m) → Stable (Put name bytes) P t
stable_put name bytes P h t all = (
  λ m left. ⊎_elim (all m) (λ w. subst P (sym w.2) (h w.0 bytes (all w.0 w.1))) left,
  λ m torn. subst P (sym torn.3) (h torn.1 torn.0 (all torn.1 torn.2)),
)

stable_firm : (P : Files → Type 0) (t : Trace) → ((m : Files) → IsImage t.first t.operations m → P m) → Stable FirmNames P t
stable_firm P t all = (λ m is. subst P (sym is) (all (files_now t) (files_are_image t.first t.operations)), λ m torn. absurd torn)

all_of : (P : Files → Type 0) (old : Option Trace) (t : Trace) → old ≡ Some t → AllImages old P → (m : Files) → IsImage t.first t.operations m → P m
all_of P old t e all = subst (λ o. AllImages o P) e all

-- a put keeps what file_at also with that name, whatever bytes it has
pub keeps_put_at : (name bytes : List ℕ) (P : Files → Type 0) (old new : Option Trace) → ((m : Files) (any : List ℕ) → P m → P (insert m name any)) → FailsAt (Put name bytes) old new → KeepsImages old new P
keeps_put_at name bytes P old new h at all =
    let stable : (t : Trace) → old ≡ Some t → Stable (Put name bytes) P t = λ t e. stable_put name bytes P h t (all_of P old t e all) in
    (all_at (Put name bytes) P old new at all stable, leaves_at (Put name bytes) P old new at stable)

pub keeps_put : (name bytes : List ℕ) (P : Files → Type 0) (old new : Option Trace) → ((m : Files) (any : List ℕ) → P m → P (insert m name any)) → Performs (Put name bytes) old new → KeepsImages old new P
keeps_put name bytes P old new h performed = keeps_put_at name bytes P old new h (inr (inr performed))

pub keeps_failed_put : (name bytes : List ℕ) (P : Files → Type 0) (old new : Option Trace) → ((m : Files) (any : List ℕ) → P m → P (insert m name any)) → FailsToPut name bytes old new → KeepsImages old new P
keeps_failed_put name bytes P old new h failed =
    ⊎_elim (λ e. same_keeps old new P e)
    (λ performed. ⊎_elim (λ e. keeps_put_at name bytes P old new h (inr (inl e))) (λ d. keeps_put name d.0 P old new h d.1) performed) failed

pub keeps_firm : (P : Files → Type 0) (old new : Option Trace) → FailsAt FirmNames old new → KeepsImages old new P
keeps_firm P old new at all =
    let stable : (t : Trace) → old ≡ Some t → Stable FirmNames P t = λ t e. stable_firm P t (all_of P old t e all) in
    (all_at FirmNames P old new at all stable, leaves_at FirmNames P old new at stable)

-- firm names leave one image
pub firm_after : (old new : Option Trace) → Performs FirmNames old new → IsFirm new
firm_after None new performed = subst IsFirm (sym performed) tt
firm_after (Some t) new performed = subst IsFirm (sym performed) (λ m is. is)

-- a file that is adopted is firm, so it is there whole or as it was
stable_adopt : (name bytes : List ℕ) (P : Files → Type 0) → ((m : Files) → P m → P (insert m name bytes)) → (t : Trace) → ((m : Files) → IsImage t.first t.operations m → P m) → Stable (Adopt name bytes) P t
stable_adopt name bytes P h t all = (λ m left. ⊎_elim (all m) (λ w. subst P (sym w.2) (h w.0 (all w.0 w.1))) left, λ m torn. absurd torn)

pub keeps_adopt : (name bytes : List ℕ) (P : Files → Type 0) (old new : Option Trace) → ((m : Files) → P m → P (insert m name bytes)) → FailsAt (Adopt name bytes) old new → KeepsImages old new P
keeps_adopt name bytes P old new h at all =
    let stable : (t : Trace) → old ≡ Some t → Stable (Adopt name bytes) P t = λ t e. stable_adopt name bytes P h t (all_of P old t e all) in
    (all_at (Adopt name bytes) P old new at all stable, leaves_at (Adopt name bytes) P old new at stable)

stable_rename : (from to : List ℕ) (P : Files → Type 0) (t : Trace) → ((m : Files) → P m → P (renamed m from to (get (files_now t) from))) → ((m : Files) → IsImage t.first t.operations m → P m) → Stable (Rename from to) P t
stable_rename from to P t h all = (λ m left. ⊎_elim (all m) (λ w. subst P (sym w.2) (h w.0 (all w.0 w.1))) left, λ m torn. absurd torn)

pub keeps_rename : (from to : List ℕ) (P : Files → Type 0) (old new : Option Trace) → ((t : Trace) → old ≡ Some t → (m : Files) → P m → P (renamed m from to (get (files_now t) from))) → FailsAt (Rename from to) old new → KeepsImages old new P
keeps_rename from to P old new h at all =
    let stable : (t : Trace) → old ≡ Some t → Stable (Rename from to) P t = λ t e. stable_rename from to P t (h t e) (all_of P old t e all) in
    (all_at (Rename from to) P old new at all stable, leaves_at (Rename from to) P old new at stable)

-- labels are no files
pub keeps_label : (l : Label) (P : Files → Type 0) (old new : Option Trace) → FailsAt (KeepLabel l) old new → KeepsImages old new P
keeps_label l P old new at all =
    let stable : (t : Trace) → old ≡ Some t → Stable (KeepLabel l) P t = λ t e. (all_of P old t e all, λ m torn. absurd torn) in
    (all_at (KeepLabel l) P old new at all stable, leaves_at (KeepLabel l) P old new at stable)

pub keeps_no_label : (l : Label) (P : Files → Type 0) (old new : Option Trace) → FailsAt (DropLabel l) old new → KeepsImages old new P
keeps_no_label l P old new at all =
    let stable : (t : Trace) → old ≡ Some t → Stable (DropLabel l) P t = λ t e. (all_of P old t e all, λ m torn. absurd torn) in
    (all_at (DropLabel l) P old new at all stable, leaves_at (DropLabel l) P old new at stable)

-- what the files have is in each image once the names are firm
pub all_firm : (P : Files → Type 0) (old new : Option Trace) → Performs FirmNames old new → ((t : Trace) → old ≡ Some t → P (files_now t)) → AllImages new P
all_firm P None new performed now = subst (λ o. AllImages o P) (sym performed) tt
all_firm P (Some t) new performed now = subst (λ o. AllImages o P) (sym performed) (λ m is. subst P (sym is) (now t refl))

-- each image is itself one of those of a moment
pub own_images : (old : Option Trace) → AllImages old (λ m. (t : Trace) → old ≡ Some t → IsImage t.first t.operations m)
own_images None = tt
own_images (Some t) = λ m is u e. let same : t ≡ u = cc in subst (λ (v : Trace). IsImage v.first v.operations m) same is
