-- A crash leaves the folders of benches that are there, where those that were dropped are so firmly.
use Rattle.std.proofs.Common.{◌≡◌, ◌⊎◌, ℕ, List, [], ◌∷◌, Bool, true, false, ⊎_elim, refl, sym, ap, subst, ◌∙◌}
use Rattle.std.proofs.lemmas.Bool.{and_from, and_parts, or_cases, not_from_false}
use Rattle.std.specs.Prelude.{◌||◌, ◌&&◌, not, option_map, Option, Some, None, IfSome}
use Rattle.fsfs_folders.specs.System.Paths.{has_path, folder_of}
use Rattle.fsfs_folders.specs.System.CallRecord.{NameCall, MakeFolder, DropFolder, Create, Take, Rename, Remove, Call, Named, Append, SyncFile, FailSync, SyncFolder, Firmed, Beginning, CallRecord, Standing, renamed_by, names_after, file_count, add_call, Makes, Does}
use Rattle.fsfs_folders.specs.System.Remains.{AreNamesLeft, are_firm, are_synced, folders_of}
use Rattle.fsfs_folders.proofs.PathLemmas.{or_right, has_head}
use Rattle.fsfs_folders.specs.SameText.{text_cases}
use Rattle.fsfs_folders.proofs.LeftLemmas.{firm_more}
use Rattle.fsfs_folders.specs.LabelPaths.{bench_folder, IsFitting}
use Rattle.fsfs_folders.specs.Told.{is_in_bench}
use Rattle.fsfs_folders.specs.LabelsLeft.{of_drops, are_drops_firm, LeavesLabels, KeepsDropsFirm}
use Rattle.fsfs_folders.proofs.LabelPathLemmas.{label_again, folder_in_bench}
use Rattle.fsfs_folders.proofs.KeptLabels.{kept_by_folder}
use Rattle.fsfs_base.specs.Files.{same_text}

module _ (p : List ℕ) (bench : is_in_bench p ≡ true) where
  -- a folder that is there stays, where a drop isn't firm
  stays : (change : NameCall) (number : ℕ) (now : Standing) → of_drops change ≡ false → now.folders p ≡ true → (renamed_by change number now now).folders p ≡ true
  stays (MakeFolder path) number now off there = or_right (same_text p path) (now.folders p) there
  stays (DropFolder path) number now off there =
      and_from (not (same_text p path)) (now.folders p) (⊎_elim (λ s. let h : true ≡ false = sym bench ∙ ap is_in_bench s.0 ∙ off in cc) (λ o. not_from_false (same_text p path) o.1) (text_cases p path)) there
  stays (Create path) number now off there = there
  stays (Take path contents) number now off there = there
  stays (Rename from to) number now off there = there
  stays (Remove path) number now off there = there

  -- one that is there after a change is so by it, or was
  comes : (change : NameCall) (number : ℕ) (now was : Standing) → (was.folders p ≡ true → now.folders p ≡ true) → (renamed_by change number now was).folders p ≡ true → (renamed_by change number now now).folders p ≡ true
  comes (MakeFolder path) number now was before there =
      ⊎_elim (λ s. ap (λ b. b || now.folders p) s) (λ w. or_right (same_text p path) (now.folders p) (before w)) (or_cases (same_text p path) (was.folders p) there)
  comes (DropFolder path) number now was before there =
      let parts : (not (same_text p path) ≡ true) × (was.folders p ≡ true) = and_parts (not (same_text p path)) (was.folders p) there in
      and_from (not (same_text p path)) (now.folders p) parts.0 (before parts.1)
  comes (Create path) number now was before there = before there
  comes (Take path contents) number now was before there = before there
  comes (Rename from to) number now was before there = before there
  comes (Remove path) number now was before there = before there

  counted_not : (counts synced : Bool) → (not counts || synced) ≡ true → synced ≡ false → counts ≡ false
  counted_not true synced firm off = let h : true ≡ false = sym firm ∙ off in cc
  counted_not false synced firm off = refl

  left_folder : (first : Beginning) (synced : List (List ℕ)) (calls : List Call) (left : Standing) → are_firm of_drops synced calls ≡ true → AreNamesLeft first synced calls left → left.folders p ≡ true → (names_after first calls).folders p ≡ true
  left_folder first synced [] left firm are there = sym (ap (λ (n : Standing). n.folders p) are) ∙ there
  left_folder first synced (Named change ∷ calls) left firm are there =
      let parts : ((not (of_drops change) || are_synced synced (folders_of change)) ≡ true) × (are_firm of_drops synced calls ≡ true) = and_parts (not (of_drops change) || are_synced synced (folders_of change)) (are_firm of_drops synced calls) firm in
      ⊎_elim
      (λ kept. stays change (file_count first calls) (names_after first calls) (counted_not (of_drops change) (are_synced synced (folders_of change)) parts.0 kept.0) (left_folder first synced calls left parts.1 kept.1 there))
      (λ done. comes change (file_count first calls) (names_after first calls) done.0 (left_folder first synced calls done.0 parts.1 done.1) (sym (ap (λ (n : Standing). n.folders p) done.2) ∙ there)) are
  left_folder first synced (Append number bytes ∷ calls) left firm are there = left_folder first synced calls left firm are there
  left_folder first synced (SyncFile number ∷ calls) left firm are there = left_folder first synced calls left firm are there
  left_folder first synced (FailSync number ∷ calls) left firm are there = left_folder first synced calls left firm are there
  left_folder first synced (SyncFolder folder ∷ calls) left firm are there = left_folder first (folder ∷ synced) calls left firm are there
  left_folder first synced (Firmed ∷ calls) left firm are there = left_folder first synced calls left firm are there

pub leaves_labels : (calls : Option CallRecord) → IfSome calls (λ r. are_drops_firm r.calls ≡ true) → IfSome calls LeavesLabels
leaves_labels None firm = tt
leaves_labels (Some r) firm = λ names l left fits there.
    kept_by_folder l (label_again l fits) r.first r.calls ∙ left_folder (bench_folder l) (folder_in_bench l) r.first [] r.calls names firm left there

-- a folder that was dropped, and the folder above synced
pub drops_firm : (path folder : List ℕ) (old mid new : Option CallRecord) → folder ≡ folder_of path → Makes (DropFolder path) old mid → Does (SyncFolder folder) mid new → KeepsDropsFirm old new
drops_firm path folder None mid new above makes does firm = subst (λ o. IfSome o (λ r. are_drops_firm r.calls ≡ true)) (sym (does ∙ ap (λ o. option_map (add_call (SyncFolder folder)) o) makes)) tt
drops_firm path folder (Some r) mid new above makes does firm =
    subst (λ o. IfSome o (λ r. are_drops_firm r.calls ≡ true)) (sym (does ∙ ap (λ o. option_map (add_call (SyncFolder folder)) o) makes.1))
    (and_from (not (is_in_bench path) || are_synced (folder ∷ []) (folder_of path ∷ [])) (are_firm of_drops (folder ∷ []) r.calls)
    (or_right (not (is_in_bench path)) (are_synced (folder ∷ []) (folder_of path ∷ [])) (and_from (has_path (folder ∷ []) (folder_of path)) true (ap (λ f. has_path (folder ∷ []) f) (sym above) ∙ has_head folder []) refl))
    (firm_more of_drops [] (folder ∷ []) r.calls (λ q e. let h : false ≡ true = e in cc) firm))

pub drops_same : (old new : Option CallRecord) → new ≡ old → KeepsDropsFirm old new
drops_same old new same firm = subst (λ o. IfSome o (λ r. are_drops_firm r.calls ≡ true)) (sym same) firm
