-- A label is kept as long as the folder of its bench is there.
use Rattle.std.proofs.Common.{◌≡◌, ◌⊎◌, ℕ, List, [], ◌∷◌, ◌++◌, Bool, true, false, cond, inl, inr, ⊎_elim, refl, sym, ap, ◌∙◌}
use Rattle.std.proofs.lemmas.Bool.{or_cases, and_from, and_parts, not-true, not_from_false}
use Rattle.std.proofs.lemmas.Option.{same_Some, none-some}
use Rattle.std.specs.Prelude.{◌||◌, ◌&&◌, not, Option, Some, None}
use Rattle.fsfs_disk.specs.Labels.{Label, same_label, has_label, with_label, without_label}
use Rattle.fsfs_disk.specs.Trace.{NameChange, Operation, Done, Put, Rename, Remove, KeepLabel, DropLabel, relabelled, labels_after, labels_now}
use Rattle.fsfs_disk.proofs.LabelLemmas.{same_label-itself, same_label-same, has-append, has-without, has-without_label, has-with_label}
use Rattle.fsfs_folders.specs.System.Paths.{has_path}
use Rattle.fsfs_folders.specs.System.CallRecord as system
use Rattle.fsfs_folders.specs.System.CallRecord.{Call, Named, MakeFolder, DropFolder, Create, Take, Append, SyncFile, FailSync, SyncFolder, Firmed, Beginning, CallRecord, names_after, names_now}
use Rattle.fsfs_folders.specs.SameText.{text_cases}
use Rattle.fsfs_folders.specs.LabelPaths.{bench_folder, label_at}
use Rattle.fsfs_folders.specs.Told.{is_apart, with_folder, labels_of, on_label, bytes_at, operations_of, trace_of}
use Rattle.fsfs_folders.proofs.LabelPathLemmas.{label_is}
use Rattle.fsfs_base.specs.Files.{same_text}

abbrev without_folder : Option Label → List Label → List Label
without_folder None labels = labels
without_folder (Some label) labels = without_label label labels

kept_after : (labels : List Label) (operations : List Operation) (o : Option Label) → labels_after labels (on_label o KeepLabel operations) ≡ with_folder o (labels_after labels operations)
kept_after labels operations None = refl
kept_after labels operations (Some l) = refl

dropped_after : (labels : List Label) (operations : List Operation) (o : Option Label) → labels_after labels (on_label o DropLabel operations) ≡ without_folder o (labels_after labels operations)
dropped_after labels operations None = refl
dropped_after labels operations (Some l) = refl

same_after : (labels : List Label) (operations : List Operation) (b : Bool) (from to bytes : List ℕ) → labels_after labels (Done (cond b (Put to bytes) (Rename from to)) ∷ operations) ≡ labels_after labels operations
same_after labels operations true from to bytes = refl
same_after labels operations false from to bytes = refl

gone_after : (labels : List Label) (operations : List Operation) (b : Bool) (path : List ℕ) → labels_after labels (cond b operations (Done (Remove path) ∷ operations)) ≡ labels_after labels operations
gone_after labels operations true path = refl
gone_after labels operations false path = refl

module _ (l : Label) (own : label_at (bench_folder l) ≡ Some l) where
  -- the label of a path is this one where the path is its folder
  test : (path : List ℕ) (k : Label) → label_at path ≡ Some k → same_label k l ≡ same_text (bench_folder l) path
  test path k e =
      ⊎_elim (λ s. ap (λ x. same_label x l) (same_Some k l (sym e ∙ sym (ap label_at s.0) ∙ own)) ∙ same_label-itself l ∙ sym s.1)
      (λ o. by_test (same_label k l) (λ same. o.0 (ap bench_folder (sym (same_label-same k l same)) ∙ label_is path k e)) ∙ sym o.1) (text_cases (bench_folder l) path)
    where
      by_test : (b : Bool) → (b ≡ true → ⊥) → b ≡ false
      by_test true h = absurd (h refl)
      by_test false h = refl

  none : (path : List ℕ) → label_at path ≡ None → same_text (bench_folder l) path ≡ false
  none path e = ⊎_elim (λ s. absurd (none-some l (sym e ∙ sym (ap label_at s.0) ∙ own))) (λ o. o.1) (text_cases (bench_folder l) path)

  kept_one : (path : List ℕ) (labels : List Label) (o : Option Label) → label_at path ≡ o → has_label l (with_folder o labels) ≡ (same_text (bench_folder l) path || has_label l labels)
  kept_one path labels None e = sym (ap (λ b. b || has_label l labels) (none path e))
  kept_one path labels (Some k) e = has-with_label k l labels ∙ ap (λ b. b || has_label l labels) (test path k e)

  dropped_one : (path : List ℕ) (labels : List Label) (o : Option Label) → label_at path ≡ o → has_label l (without_folder o labels) ≡ (not (same_text (bench_folder l) path) && has_label l labels)
  dropped_one path labels None e = sym (ap (λ b. not b && has_label l labels) (none path e))
  dropped_one path labels (Some k) e = has-without_label k l labels ∙ ap (λ b. not b && has_label l labels) (test path k e)

  kept_first : (folders : List (List ℕ)) → has_label l (labels_of folders) ≡ has_path folders (bench_folder l)
  kept_first [] = refl
  kept_first (folder ∷ folders) = kept_one folder (labels_of folders) (label_at folder) refl ∙ ap (λ b. same_text (bench_folder l) folder || b) (kept_first folders)

  pub kept_by_folder : (first : Beginning) (calls : List Call) → has_label l (labels_after (labels_of first.folders) (operations_of first calls)) ≡ (names_after first calls).folders (bench_folder l)
  kept_by_folder first [] = kept_first first.folders
  kept_by_folder first (Named (MakeFolder path) ∷ calls) =
      ap (λ ls. has_label l ls) (kept_after (labels_of first.folders) (operations_of first calls) (label_at path))
      ∙ kept_one path (labels_after (labels_of first.folders) (operations_of first calls)) (label_at path) refl
      ∙ ap (λ b. same_text (bench_folder l) path || b) (kept_by_folder first calls)
  kept_by_folder first (Named (DropFolder path) ∷ calls) =
      ap (λ ls. has_label l ls) (dropped_after (labels_of first.folders) (operations_of first calls) (label_at path))
      ∙ dropped_one path (labels_after (labels_of first.folders) (operations_of first calls)) (label_at path) refl
      ∙ ap (λ b. not (same_text (bench_folder l) path) && b) (kept_by_folder first calls)
  kept_by_folder first (Named (Create path) ∷ calls) = kept_by_folder first calls
  kept_by_folder first (Named (Take path contents) ∷ calls) = kept_by_folder first calls
  kept_by_folder first (Named (system.Rename from to) ∷ calls) =
      ap (λ ls. has_label l ls) (same_after (labels_of first.folders) (operations_of first calls) (is_apart from) from to (bytes_at first calls from)) ∙ kept_by_folder first calls
  kept_by_folder first (Named (system.Remove path) ∷ calls) = ap (λ ls. has_label l ls) (gone_after (labels_of first.folders) (operations_of first calls) (is_apart path) path) ∙ kept_by_folder first calls
  kept_by_folder first (Append number bytes ∷ calls) = kept_by_folder first calls
  kept_by_folder first (SyncFile number ∷ calls) = kept_by_folder first calls
  kept_by_folder first (FailSync number ∷ calls) = kept_by_folder first calls
  kept_by_folder first (SyncFolder folder ∷ calls) = kept_by_folder first calls
  kept_by_folder first (Firmed ∷ calls) = kept_by_folder first calls

-- a label that is kept is that of its folder
own_one : (path : List ℕ) (labels : List Label) (l : Label) (o : Option Label) → label_at path ≡ o → (has_label l labels ≡ true → label_at (bench_folder l) ≡ Some l)
    → has_label l (with_folder o labels) ≡ true → label_at (bench_folder l) ≡ Some l
own_one path labels l None e before has = before has
own_one path labels l (Some k) e before has =
    ⊎_elim (λ same. let is : k ≡ l = same_label-same k l same in ap (λ x. label_at (bench_folder x)) (sym is) ∙ ap label_at (label_is path k e) ∙ e ∙ ap (λ x. Some x) is) before
    (or_cases (same_label k l) (has_label l labels) (sym (has-with_label k l labels) ∙ has))

still_own : (labels : List Label) (l : Label) (o : Option Label) → (has_label l labels ≡ true → label_at (bench_folder l) ≡ Some l)
    → has_label l (without_folder o labels) ≡ true → label_at (bench_folder l) ≡ Some l
still_own labels l None before has = before has
still_own labels l (Some k) before has = before (and_parts (not (same_label k l)) (has_label l labels) (sym (has-without_label k l labels) ∙ has)).1

own_first : (folders : List (List ℕ)) (l : Label) → has_label l (labels_of folders) ≡ true → label_at (bench_folder l) ≡ Some l
own_first [] l has = let h : false ≡ true = has in cc
own_first (folder ∷ folders) l has = own_one folder (labels_of folders) l (label_at folder) refl (own_first folders l) has

pub kept_is_own : (first : Beginning) (calls : List Call) (l : Label) → has_label l (labels_after (labels_of first.folders) (operations_of first calls)) ≡ true → label_at (bench_folder l) ≡ Some l
kept_is_own first [] l has = own_first first.folders l has
kept_is_own first (Named (MakeFolder path) ∷ calls) l has =
    own_one path (labels_after (labels_of first.folders) (operations_of first calls)) l (label_at path) refl (kept_is_own first calls l)
    (sym (ap (λ ls. has_label l ls) (kept_after (labels_of first.folders) (operations_of first calls) (label_at path))) ∙ has)
kept_is_own first (Named (DropFolder path) ∷ calls) l has =
    still_own (labels_after (labels_of first.folders) (operations_of first calls)) l (label_at path) (kept_is_own first calls l)
    (sym (ap (λ ls. has_label l ls) (dropped_after (labels_of first.folders) (operations_of first calls) (label_at path))) ∙ has)
kept_is_own first (Named (Create path) ∷ calls) l has = kept_is_own first calls l has
kept_is_own first (Named (Take path contents) ∷ calls) l has = kept_is_own first calls l has
kept_is_own first (Named (system.Rename from to) ∷ calls) l has =
    kept_is_own first calls l (sym (ap (λ ls. has_label l ls) (same_after (labels_of first.folders) (operations_of first calls) (is_apart from) from to (bytes_at first calls from))) ∙ has)
kept_is_own first (Named (system.Remove path) ∷ calls) l has =
    kept_is_own first calls l (sym (ap (λ ls. has_label l ls) (gone_after (labels_of first.folders) (operations_of first calls) (is_apart path) path)) ∙ has)
kept_is_own first (Append number bytes ∷ calls) l has = kept_is_own first calls l has
kept_is_own first (SyncFile number ∷ calls) l has = kept_is_own first calls l has
kept_is_own first (FailSync number ∷ calls) l has = kept_is_own first calls l has
kept_is_own first (SyncFolder folder ∷ calls) l has = kept_is_own first calls l has
kept_is_own first (Firmed ∷ calls) l has = kept_is_own first calls l has

-- each label is kept once
abbrev pub are_once : List Label → Bool
are_once [] = true
are_once (l ∷ ls) = not (has_label l ls) && are_once ls

and_false : (x y : Bool) → y ≡ false → (x && y) ≡ false
and_false true y e = e
and_false false y e = refl

once_without : (k : Label) (ls : List Label) → are_once ls ≡ true → are_once (without_label k ls) ≡ true
once_without k [] once = refl
once_without k (l ∷ ls) once =
    let parts : (not (has_label l ls) ≡ true) × (are_once ls ≡ true) = and_parts (not (has_label l ls)) (are_once ls) once in
    by_test (same_label l k) (once_without k ls parts.1) parts.0
  where
    by_test : (b : Bool) → are_once (without_label k ls) ≡ true → not (has_label l ls) ≡ true → are_once (cond b (without_label k ls) (l ∷ without_label k ls)) ≡ true
    by_test true rest new = rest
    by_test false rest new = and_from (not (has_label l (without_label k ls))) (are_once (without_label k ls))
        (not_from_false (has_label l (without_label k ls)) (has-without_label k l ls ∙ and_false (not (same_label k l)) (has_label l ls) (not-true (has_label l ls) new))) rest

once_more : (ls : List Label) (l : Label) → are_once ls ≡ true → has_label l ls ≡ false → are_once (ls ++ l ∷ []) ≡ true
once_more [] l once new = refl
once_more (k ∷ ls) l once new =
    let parts : (not (has_label k ls) ≡ true) × (are_once ls ≡ true) = and_parts (not (has_label k ls)) (are_once ls) once in
    let apart : (same_label k l ≡ false) × (has_label l ls ≡ false) = neither (same_label k l) (has_label l ls) new in
    and_from (not (has_label k (ls ++ l ∷ []))) (are_once (ls ++ l ∷ []))
    (not_from_false (has_label k (ls ++ l ∷ [])) (has-append k ls (l ∷ []) ∙ ap (λ b. b || (same_label l k || false)) (not-true (has_label k ls) parts.0)
    ∙ ap (λ b. b || false) (by_test (same_label l k) (λ same. let h : true ≡ false = sym (same_label-itself l) ∙ ap (λ x. same_label x l) (same_label-same l k same) ∙ apart.0 in cc))))
    (once_more ls l parts.1 apart.1)
  where
    neither : (x y : Bool) → (x || y) ≡ false → (x ≡ false) × (y ≡ false)
    neither true y e = let h : true ≡ false = e in cc
    neither false y e = (refl, e)

    by_test : (b : Bool) → (b ≡ true → ⊥) → b ≡ false
    by_test true h = absurd (h refl)
    by_test false h = refl

once_kept : (labels : List Label) (o : Option Label) → are_once labels ≡ true → are_once (with_folder o labels) ≡ true
once_kept labels None once = once
once_kept labels (Some l) once = once_more (without_label l labels) l (once_without l labels once) (has-without l labels)

once_dropped : (labels : List Label) (o : Option Label) → are_once labels ≡ true → are_once (without_folder o labels) ≡ true
once_dropped labels None once = once
once_dropped labels (Some l) once = once_without l labels once

once_first : (folders : List (List ℕ)) → are_once (labels_of folders) ≡ true
once_first [] = refl
once_first (folder ∷ folders) = once_kept (labels_of folders) (label_at folder) (once_first folders)

pub kept_once : (first : Beginning) (calls : List Call) → are_once (labels_after (labels_of first.folders) (operations_of first calls)) ≡ true
kept_once first [] = once_first first.folders
kept_once first (Named (MakeFolder path) ∷ calls) =
    ap are_once (kept_after (labels_of first.folders) (operations_of first calls) (label_at path)) ∙ once_kept (labels_after (labels_of first.folders) (operations_of first calls)) (label_at path) (kept_once first calls)
kept_once first (Named (DropFolder path) ∷ calls) =
    ap are_once (dropped_after (labels_of first.folders) (operations_of first calls) (label_at path)) ∙ once_dropped (labels_after (labels_of first.folders) (operations_of first calls)) (label_at path) (kept_once first calls)
kept_once first (Named (Create path) ∷ calls) = kept_once first calls
kept_once first (Named (Take path contents) ∷ calls) = kept_once first calls
kept_once first (Named (system.Rename from to) ∷ calls) = ap are_once (same_after (labels_of first.folders) (operations_of first calls) (is_apart from) from to (bytes_at first calls from)) ∙ kept_once first calls
kept_once first (Named (system.Remove path) ∷ calls) = ap are_once (gone_after (labels_of first.folders) (operations_of first calls) (is_apart path) path) ∙ kept_once first calls
kept_once first (Append number bytes ∷ calls) = kept_once first calls
kept_once first (SyncFile number ∷ calls) = kept_once first calls
kept_once first (FailSync number ∷ calls) = kept_once first calls
kept_once first (SyncFolder folder ∷ calls) = kept_once first calls
kept_once first (Firmed ∷ calls) = kept_once first calls
