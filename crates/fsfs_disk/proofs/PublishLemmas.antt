-- What publishing leaves, from what each of its calls did.
use Rattle.std.proofs.Common.{◌≡◌, ◌⊎◌, ℕ, List, [], ◌++◌, Bool, true, false, inl, inr, ⊎_elim, refl, sym, ap, subst, ◌∙◌}
use Rattle.std.specs.Prelude.{Option, Some, None, option_map, unwrap_or, is_some, IfSome, IsSome, Result, Ok, Err, OnOk, OnErr, IfOk, IsOk}
use Rattle.std.specs.Ordering.{nat_cmp}
use Rattle.std.specs.Cmp.Lexicographic.{slice_cmp}
use Rattle.std.specs.FinMap.{get, insert, empty, get-empty}
use Rattle.fsfs_base.specs.Files.{Files}
use Rattle.fsfs_base.proofs.FileLemmas.{get_new}
use Rattle.fsfs_disk.specs.Labels.{Label, has_label}
use Rattle.fsfs_disk.specs.Benches.{appended, bytes_on, bytes_in}
use Rattle.fsfs_disk.specs.Trace.{Trace, NameChange, Adopt, FirmNames, KeepLabel, DropLabel, Done, add_operation, files_now, labels_now, Performs, PerformsIfThere, FailsAt}
use Rattle.fsfs_disk.specs.Crash.{AllImages, Leaves, KeepsImages, LeavesBoth, AreAll, AllLabels, KeepsLabels}
use Rattle.fsfs_disk.proofs.BenchLemmas.{insert_again, appended_twice, get-appended, bytes_in-appended}
use Rattle.fsfs_disk.proofs.LabelLemmas.{has-without}
use Rattle.fsfs_disk.proofs.CrashLemmas.{keeps_then, keeps_adopt, keeps_firm, keeps_label, keeps_no_label}
use Rattle.fsfs_disk.specs.Published.{IsOldOrNew, IsOldOrThis, after_naming, EndsNaming}
use Rattle.fsfs_disk.proofs.LeftLemmas.{keeps_labels_at, keeps_labels_then, amid_made, amid_same}

closed : (name text : List ℕ) (old : Option Trace) (m : Files) → IsOldOrNew name text old m → IsOldOrNew name text old (insert m name text)
closed name text None m h = tt
closed name text (Some t) m h = ⊎_elim (λ is. inr (m, is, refl)) (λ w. inr (w.0, w.1, ap (λ (z : Files). insert z name text) w.2 ∙ insert_again w.0 name text text)) h

starts : (name text : List ℕ) (old : Option Trace) → AllImages old (IsOldOrNew name text old)
starts name text None = tt
starts name text (Some t) = λ m is. inl is

ends_keeps : (name text : List ℕ) (P : Files → Type 0) (old new : Option Trace) → ((m : Files) → P m → P (insert m name text)) → EndsNaming name text old new → KeepsImages old new P
ends_keeps name text P old new h (mid, adopted, firm) = keeps_then old mid new P (keeps_adopt name text P old mid h adopted) (keeps_firm P mid new firm)

-- a crash at any moment leaves the old file or the new one
pub publish_leaves : (l : Label) (name text : List ℕ) (old mid named new : Option Trace) → FailsAt (KeepLabel l) old mid → EndsNaming name text mid named → FailsAt (DropLabel l) named new
    → Leaves old new (IsOldOrNew name text old)
publish_leaves l name text old mid named new kept ended dropped =
    let P = λ (m : Files). IsOldOrNew name text old m in
    (keeps_then old mid new P (keeps_label l P old mid kept)
    (keeps_then mid named new P (ends_keeps name text P mid named (closed name text old) ended) (keeps_no_label l P named new dropped)) (starts name text old)).1

-- nothing was named
pub ends_same : (name text : List ℕ) (old new : Option Trace) → new ≡ old → EndsNaming name text old new
ends_same name text old new same = (old, inl refl, inl same)

-- the names were made firm last
all_named : (name text : List ℕ) (old new : Option Trace) → new ≡ option_map (after_naming name text) old → AllImages new (λ m. get m name ≡ Some text)
all_named name text None new is = subst (λ o. AllImages o (λ m. get m name ≡ Some text)) (sym is) tt
all_named name text (Some t) new is = subst (λ o. AllImages o (λ m. get m name ≡ Some text)) (sym is) (λ m firm. ap (λ (z : Files). get z name) firm ∙ get_new (files_now t) name text)

pub publish_firm : (l : Label) (name text : List ℕ) (mid named new : Option Trace) → named ≡ option_map (after_naming name text) mid → FailsAt (DropLabel l) named new → AllImages new (λ m. get m name ≡ Some text)
publish_firm l name text mid named new is dropped = (keeps_no_label l (λ m. get m name ≡ Some text) named new dropped (all_named name text mid named is)).0

named_files : (name text : List ℕ) (l : Label) (old mid : Option Trace) → Performs (KeepLabel l) old mid → option_map files_now (option_map (after_naming name text) mid) ≡ option_map (λ t. insert (files_now t) name text) old
named_files name text l None mid kept = ap (λ o. option_map files_now (option_map (after_naming name text) o)) kept
named_files name text l (Some t) mid kept = ap (λ o. option_map files_now (option_map (after_naming name text) o)) kept

-- the label is gone
pub label_gone : (l : Label) (old new : Option Trace) (there : Bool) → IfSome old (λ t. there ≡ has_label l (labels_now t)) → PerformsIfThere there (DropLabel l) old new → IfSome new (λ t. has_label l (labels_now t) ≡ false)
label_gone l None new true is performed = subst (λ o. IfSome o (λ t. has_label l (labels_now t) ≡ false)) (sym performed) tt
label_gone l (Some t) new true is performed = subst (λ o. IfSome o (λ u. has_label l (labels_now u) ≡ false)) (sym performed) (has-without l (labels_now t))
label_gone l None new false is same = subst (λ o. IfSome o (λ t. has_label l (labels_now t) ≡ false)) (sym same) tt
label_gone l (Some t) new false is same = subst (λ o. IfSome o (λ u. has_label l (labels_now u) ≡ false)) (sym same) (sym is)

pub ok_of : {T E : Type 0} {P : Type 0} (result : Result T E) → IsOk result → OnOk result P → P
ok_of (Ok x) is p = p
ok_of (Err e) is p = cc

-- two pieces are one
pub two_pieces : (old mid new : Option Files) (name a b : List ℕ) → mid ≡ option_map (appended name a) old → new ≡ option_map (appended name b) mid → new ≡ option_map (appended name (a ++ b)) old
two_pieces old mid new name a b first second = second ∙ ap (λ o. option_map (appended name b) o) first ∙ by_old old where
  by_old : (o : Option Files) → option_map (appended name b) (option_map (appended name a) o) ≡ option_map (appended name (a ++ b)) o
  by_old None = refl
  by_old (Some m) = ap (λ (z : Files). Some z) (appended_twice m name a b)

pub there_filled : (old new : Option Files) (name text : List ℕ) → new ≡ option_map (appended name text) old → IfSome new (λ m. IsSome (get m name))
there_filled None new name text is = subst (λ o. IfSome o (λ m. IsSome (get m name))) (sym is) tt
there_filled (Some m) new name text is = subst (λ o. IfSome o (λ m. IsSome (get m name))) (sym is) (subst IsSome (sym (get-appended m name text)) refl)

-- a file that wasn't there has what was added
pub text_on : (old new : Option Files) (name text : List ℕ) → new ≡ option_map (appended name text) old → IfSome old (λ m. get m name ≡ None) → is_some new ≡ true → bytes_on new name ≡ text
text_on None new name text is none some = let h : false ≡ true = sym (ap (λ o. is_some o) is) ∙ some in cc
text_on (Some m) new name text is none some =
    ap (λ o. bytes_on o name) is ∙ bytes_in-appended m name text ∙ ap (λ (o : Option (List ℕ)). unwrap_or o [] ++ text) none

-- where the disk tells, its bench tells what it adopts
pub adopts_text : (name bytes text : List ℕ) (contents : Option Files) (old new : Option Trace) → is_some contents ≡ is_some old → (is_some contents ≡ true → bytes ≡ text) → FailsAt (Adopt name bytes) old new → FailsAt (Adopt name text) old new
adopts_text name bytes text contents None new tells is fails = ⊎_elim (λ e. inl e) (λ w. ⊎_elim (λ e. inl e) (λ e. inl e) w) fails
adopts_text name bytes text contents (Some t) new tells is fails = subst (λ (b : List ℕ). FailsAt (Adopt name b) (Some t) new) (is tells) fails

pub performs_text : (name bytes text : List ℕ) (contents : Option Files) (old new : Option Trace) → is_some contents ≡ is_some old → (is_some contents ≡ true → bytes ≡ text) → Performs (Adopt name bytes) old new → Performs (Adopt name text) old new
performs_text name bytes text contents None new tells is performed = performed
performs_text name bytes text contents (Some t) new tells is performed = subst (λ (b : List ℕ). Performs (Adopt name b) (Some t) new) (is tells) performed

pub named_by : (name text : List ℕ) (old mid new : Option Trace) → Performs (Adopt name text) old mid → Performs FirmNames mid new → new ≡ option_map (after_naming name text) old
named_by name text old mid new adopted firm = firm ∙ ap (λ o. option_map (add_operation (Done FirmNames)) o) adopted ∙ by_old old where
  by_old : (o : Option Trace) → option_map (add_operation (Done FirmNames)) (option_map (add_operation (Done (Adopt name text))) o) ≡ option_map (after_naming name text) o
  by_old None = refl
  by_old (Some t) = refl

-- an empty bench lacks every file
pub empty_lacks : (t : Option Trace) (contents : Option Files) (name : List ℕ) → contents ≡ option_map (λ _. empty) t → IfSome contents (λ m. get m name ≡ None)
empty_lacks None contents name is = subst (λ o. IfSome o (λ m. get m name ≡ None)) (sym is) tt
empty_lacks (Some t) contents name is = subst (λ o. IfSome o (λ m. get m name ≡ None)) (sym is) (get-empty (slice_cmp nat_cmp) name)

pub gone_if : {E : Type 0} (l : Label) (old new : Option Trace) (result : Result Bool E) → IsOk result → IfSome old (λ t. IfOk result (λ there. there ≡ has_label l (labels_now t)))
    → IfOk result (λ there. PerformsIfThere there (DropLabel l) old new) → IfSome new (λ t. has_label l (labels_now t) ≡ false)
gone_if l None new (Ok there) is at done = label_gone l None new there tt done
gone_if l (Some t) new (Ok there) is at done = label_gone l (Some t) new there at done
gone_if l old new (Err e) is at done = cc

pub adopted_text : (name file text : List ℕ) (before contents : Option Files) (old new : Option Trace) → contents ≡ option_map (appended file text) before → IfSome before (λ m. get m file ≡ None) → is_some contents ≡ is_some old
    → FailsAt (Adopt name (bytes_on contents file)) old new → FailsAt (Adopt name text) old new
adopted_text name file text before contents old new is none tells fails = adopts_text name (bytes_on contents file) text contents old new tells (text_on before contents file text is none) fails

pub performed_text : (name file text : List ℕ) (before contents : Option Files) (old new : Option Trace) → contents ≡ option_map (appended file text) before → IfSome before (λ m. get m file ≡ None) → is_some contents ≡ is_some old
    → Performs (Adopt name (bytes_on contents file)) old new → Performs (Adopt name text) old new
performed_text name file text before contents old new is none tells performed = performs_text name (bytes_on contents file) text contents old new tells (text_on before contents file text is none) performed

pub old_labels : (l : Label) (old : Option Trace) → AllLabels old (IsOldOrThis l old)
old_labels l None = tt
old_labels l (Some t) = λ k has. inr has

pub makes_label : (l : Label) (first old new : Option Trace) → FailsAt (KeepLabel l) old new → KeepsLabels old new (IsOldOrThis l first)
makes_label l first old new made = keeps_labels_at (KeepLabel l) (IsOldOrThis l first) old new made (amid_made l (IsOldOrThis l first) (inl refl))

pub drops_label : (l : Label) (first old new : Option Trace) → FailsAt (DropLabel l) old new → KeepsLabels old new (IsOldOrThis l first)
drops_label l first old new dropped = keeps_labels_at (DropLabel l) (IsOldOrThis l first) old new dropped (amid_same (DropLabel l) (IsOldOrThis l first) (λ ls. refl))

names_no_label : (l : Label) (name text : List ℕ) (first old new : Option Trace) → EndsNaming name text old new → KeepsLabels old new (IsOldOrThis l first)
names_no_label l name text first old new (mid, adopted, firm) =
    let Q = IsOldOrThis l first in
    keeps_labels_then old mid new Q (keeps_labels_at (Adopt name text) Q old mid adopted (amid_same (Adopt name text) Q (λ ls. refl)))
    (keeps_labels_at FirmNames Q mid new firm (amid_same FirmNames Q (λ ls. refl)))

-- whatever labels a crash leaves, at any moment, are old ones or this one
pub publish_labels : (l : Label) (name text : List ℕ) (old mid named new : Option Trace) → FailsAt (KeepLabel l) old mid → EndsNaming name text mid named → FailsAt (DropLabel l) named new
    → LeavesBoth old new (λ m ls. AreAll (IsOldOrThis l old) ls)
publish_labels l name text old mid named new made ended dropped =
    let Q = IsOldOrThis l old in
    (keeps_labels_then old mid new Q (makes_label l old old mid made)
    (keeps_labels_then mid named new Q (names_no_label l name text old mid named ended) (drops_label l old named new dropped)) (old_labels l old)).1

pub refused_labels : (l : Label) (old mid new : Option Trace) → FailsAt (KeepLabel l) old mid → FailsAt (DropLabel l) mid new → LeavesBoth old new (λ m ls. AreAll (IsOldOrThis l old) ls)
refused_labels l old mid new made dropped =
    let Q = IsOldOrThis l old in
    (keeps_labels_then old mid new Q (makes_label l old old mid made) (drops_label l old mid new dropped) (old_labels l old)).1
