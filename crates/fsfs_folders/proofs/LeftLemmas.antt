-- The names that a crash may leave: those now are among them, a sync leaves no more, and where all is firm only those now are left.
use Rattle.std.proofs.Common.{◌≡◌, ℕ, List, [], ◌∷◌, Bool, true, false, inl, inr, ⊎_elim, refl, sym, ap, ◌∙◌, arith}
use Rattle.std.proofs.lemmas.Bool.{and_parts, and_from, or_cases, false_from_ne_true, not-false}
use Rattle.std.specs.Prelude.{◌<◌, ◌||◌, ◌&&◌, not, Option, Some, None}
use Rattle.fsfs_folders.specs.System.Paths.{has_path}
use Rattle.fsfs_folders.specs.System.CallRecord.{NameCall, MakeFolder, DropFolder, Create, Take, Rename, Remove, Call, Named, Append, SyncFile, FailSync, SyncFolder, Firmed, Beginning, Standing, given, renamed_by, names_after, file_count}
use Rattle.fsfs_folders.specs.System.Remains.{AreNamesLeft, of_names, of_folders, are_firm, AreWithin, are_synced, folders_of}
use Rattle.fsfs_folders.proofs.PathLemmas.{or_right}
use Rattle.fsfs_folders.specs.SameText.{text_cases}
use Rattle.fsfs_folders.proofs.NameLemmas.{comes_from, comes_within, count_more, first_within}
use Rattle.fsfs_base.specs.Files.{same_text}

pub now_is_left : (first : Beginning) (synced : List (List ℕ)) (calls : List Call) → AreNamesLeft first synced calls (names_after first calls)
now_is_left first synced [] = refl
now_is_left first synced (Named change ∷ calls) = inr (names_after first calls, now_is_left first synced calls, refl)
now_is_left first synced (Append number bytes ∷ calls) = now_is_left first synced calls
now_is_left first synced (SyncFile number ∷ calls) = now_is_left first synced calls
now_is_left first synced (FailSync number ∷ calls) = now_is_left first synced calls
now_is_left first synced (SyncFolder folder ∷ calls) = now_is_left first (folder ∷ synced) calls
now_is_left first synced (Firmed ∷ calls) = now_is_left first synced calls

-- each file that has a name was made before
pub number_within : (first : Beginning) (synced : List (List ℕ)) (calls : List Call) (left : Standing) (q : List ℕ) (k : ℕ)
    → AreNamesLeft first synced calls left → left.files q ≡ Some k → k < file_count first calls
number_within first synced [] left q k are e = first_within first.files q k (sym (ap (λ (n : Standing). n.files q) are) ∙ e)
number_within first synced (Named change ∷ calls) left q k are e =
    ⊎_elim (λ kept. omega (arith, number_within first synced calls left q k kept.1 e, count_more first calls change))
    (λ done. ⊎_elim (λ old. omega (arith, number_within first synced calls done.0 q k done.1 old, count_more first calls change))
    (λ comes. comes_within first calls change (names_after first calls) q k (λ p. number_within first synced calls (names_after first calls) p k (now_is_left first synced calls)) comes)
    (comes_from change (file_count first calls) (names_after first calls) done.0 q k (sym (ap (λ (n : Standing). n.files q) done.2) ∙ e))) are
number_within first synced (Append number bytes ∷ calls) left q k are e = number_within first synced calls left q k are e
number_within first synced (SyncFile number ∷ calls) left q k are e = number_within first synced calls left q k are e
number_within first synced (FailSync number ∷ calls) left q k are e = number_within first synced calls left q k are e
number_within first synced (SyncFolder folder ∷ calls) left q k are e = number_within first (folder ∷ synced) calls left q k are e
number_within first synced (Firmed ∷ calls) left q k are e = number_within first synced calls left q k are e

pub within_more : (folder : List ℕ) (folders synced : List (List ℕ)) → AreWithin folders synced → AreWithin (folder ∷ folders) (folder ∷ synced)
within_more folder folders synced within q e =
    ⊎_elim (λ s. ap (λ b. b || has_path synced q) s) (λ t. or_right (same_text q folder) (has_path synced q) (within q t)) (or_cases (same_text q folder) (has_path folders q) e)

pub synced_more : (folders synced of_change : List (List ℕ)) → AreWithin folders synced → are_synced folders of_change ≡ true → are_synced synced of_change ≡ true
synced_more folders synced [] within e = refl
synced_more folders synced (folder ∷ rest) within e =
    let parts : (has_path folders folder ≡ true) × (are_synced folders rest ≡ true) = and_parts (has_path folders folder) (are_synced folders rest) e in
    and_from (has_path synced folder) (are_synced synced rest) (within folder parts.0) (synced_more folders synced rest within parts.1)

-- the more folders are synced, the less is left
pub left_of_more : (first : Beginning) (folders synced : List (List ℕ)) (calls : List Call) (left : Standing)
    → AreWithin folders synced → AreNamesLeft first synced calls left → AreNamesLeft first folders calls left
left_of_more first folders synced [] left within are = are
left_of_more first folders synced (Named change ∷ calls) left within are =
    ⊎_elim (λ kept. inl (false_from_ne_true (are_synced folders (folders_of change)) (λ firm. let h : true ≡ false = sym (synced_more folders synced (folders_of change) within firm) ∙ kept.0 in cc), left_of_more first folders synced calls left within kept.1))
    (λ done. inr (done.0, left_of_more first folders synced calls done.0 within done.1, done.2)) are
left_of_more first folders synced (Append number bytes ∷ calls) left within are = left_of_more first folders synced calls left within are
left_of_more first folders synced (SyncFile number ∷ calls) left within are = left_of_more first folders synced calls left within are
left_of_more first folders synced (FailSync number ∷ calls) left within are = left_of_more first folders synced calls left within are
left_of_more first folders synced (SyncFolder folder ∷ calls) left within are = left_of_more first (folder ∷ folders) (folder ∷ synced) calls left (within_more folder folders synced within) are
left_of_more first folders synced (Firmed ∷ calls) left within are = left_of_more first folders synced calls left within are

-- a sync leaves no more than was left before
pub left_before_sync : (first : Beginning) (folder : List ℕ) (calls : List Call) (left : Standing) → AreNamesLeft first (folder ∷ []) calls left → AreNamesLeft first [] calls left
left_before_sync first folder calls left are = left_of_more first [] (folder ∷ []) calls left (λ q e. let h : false ≡ true = e in cc) are

-- where this doesn't count, it needs no sync
counted_not : (counts synced : Bool) → (not counts || synced) ≡ true → synced ≡ false → counts ≡ false
counted_not true synced firm off = let h : true ≡ false = sym firm ∙ off in cc
counted_not false synced firm off = refl

-- the files after a change, by what was there before it
files_alike : (change : NameCall) (number : ℕ) (now was : Standing) → was.files ≡ now.files → (renamed_by change number now was).files ≡ (renamed_by change number now now).files
files_alike (MakeFolder path) number now was e = e
files_alike (DropFolder path) number now was e = e
files_alike (Create path) number now was e = ap {B = List ℕ → Option ℕ} (λ files. given path (Some number) files) e
files_alike (Take path contents) number now was e = ap {B = List ℕ → Option ℕ} (λ files. given path (Some number) files) e
files_alike (Rename from to) number now was e = ap {B = List ℕ → Option ℕ} (λ files. given to (now.files from) (given from None files)) e
files_alike (Remove path) number now was e = ap {B = List ℕ → Option ℕ} (λ files. given path None files) e

files_spared : (is_spared : List ℕ → Bool) (change : NameCall) (number : ℕ) (now : Standing) → of_names is_spared change ≡ false → now.files ≡ (renamed_by change number now now).files
files_spared is_spared (MakeFolder path) number now off = refl
files_spared is_spared (DropFolder path) number now off = refl
files_spared is_spared (Create path) number now off = let h : true ≡ false = off in cc
files_spared is_spared (Take path contents) number now off = let h : true ≡ false = off in cc
files_spared is_spared (Rename from to) number now off = let h : true ≡ false = off in cc
files_spared is_spared (Remove path) number now off = let h : true ≡ false = off in cc

-- where all names are firm but some folders', each crash leaves the files that are there
pub files_are_now : (is_spared : List ℕ → Bool) (first : Beginning) (synced : List (List ℕ)) (calls : List Call) (left : Standing)
    → are_firm (of_names is_spared) synced calls ≡ true → AreNamesLeft first synced calls left → left.files ≡ (names_after first calls).files
files_are_now is_spared first synced [] left firm are = ap (λ (n : Standing). n.files) are
files_are_now is_spared first synced (Named change ∷ calls) left firm are =
    let parts : ((not (of_names is_spared change) || are_synced synced (folders_of change)) ≡ true) × (are_firm (of_names is_spared) synced calls ≡ true) =
    and_parts (not (of_names is_spared change) || are_synced synced (folders_of change)) (are_firm (of_names is_spared) synced calls) firm in
    ⊎_elim
    (λ kept. files_are_now is_spared first synced calls left parts.1 kept.1
    ∙ files_spared is_spared change (file_count first calls) (names_after first calls) (counted_not (of_names is_spared change) (are_synced synced (folders_of change)) parts.0 kept.0))
    (λ done. ap (λ (n : Standing). n.files) done.2 ∙ files_alike change (file_count first calls) (names_after first calls) done.0 (files_are_now is_spared first synced calls done.0 parts.1 done.1)) are
files_are_now is_spared first synced (Append number bytes ∷ calls) left firm are = files_are_now is_spared first synced calls left firm are
files_are_now is_spared first synced (SyncFile number ∷ calls) left firm are = files_are_now is_spared first synced calls left firm are
files_are_now is_spared first synced (FailSync number ∷ calls) left firm are = files_are_now is_spared first synced calls left firm are
files_are_now is_spared first synced (SyncFolder folder ∷ calls) left firm are = files_are_now is_spared first (folder ∷ synced) calls left firm are
files_are_now is_spared first synced (Firmed ∷ calls) left firm are = files_are_now is_spared first synced calls left firm are

-- whether a folder is there after a change, by whether it was before
folder_alike : (change : NameCall) (number : ℕ) (now was : Standing) (p : List ℕ) → was.folders p ≡ now.folders p → (renamed_by change number now was).folders p ≡ (renamed_by change number now now).folders p
folder_alike (MakeFolder path) number now was p e = ap (λ b. same_text p path || b) e
folder_alike (DropFolder path) number now was p e = ap (λ b. not (same_text p path) && b) e
folder_alike (Create path) number now was p e = e
folder_alike (Take path contents) number now was p e = e
folder_alike (Rename from to) number now was p e = e
folder_alike (Remove path) number now was p e = e

module _ (is_spared : List ℕ → Bool) (p : List ℕ) (counts : is_spared p ≡ false) where
  spared_apart : (path : List ℕ) → not (is_spared path) ≡ false → same_text p path ≡ false
  spared_apart path off = ⊎_elim (λ s. let h : true ≡ false = sym (not-false (is_spared path) off) ∙ sym (ap is_spared s.0) ∙ counts in cc) (λ o. o.1) (text_cases p path)

  folder_spared : (change : NameCall) (number : ℕ) (now : Standing) → of_folders is_spared change ≡ false → now.folders p ≡ (renamed_by change number now now).folders p
  folder_spared (MakeFolder path) number now off = sym (ap (λ b. b || now.folders p) (spared_apart path off))
  folder_spared (DropFolder path) number now off = sym (ap (λ b. not b && now.folders p) (spared_apart path off))
  folder_spared (Create path) number now off = refl
  folder_spared (Take path contents) number now off = refl
  folder_spared (Rename from to) number now off = refl
  folder_spared (Remove path) number now off = refl

  -- where the folders are firm but some, each crash leaves the others that are there
  pub folder_is_now : (first : Beginning) (synced : List (List ℕ)) (calls : List Call) (left : Standing)
      → are_firm (of_folders is_spared) synced calls ≡ true → AreNamesLeft first synced calls left → left.folders p ≡ (names_after first calls).folders p
  folder_is_now first synced [] left firm are = ap (λ (n : Standing). n.folders p) are
  folder_is_now first synced (Named change ∷ calls) left firm are =
      let parts : ((not (of_folders is_spared change) || are_synced synced (folders_of change)) ≡ true) × (are_firm (of_folders is_spared) synced calls ≡ true) =
      and_parts (not (of_folders is_spared change) || are_synced synced (folders_of change)) (are_firm (of_folders is_spared) synced calls) firm in
      ⊎_elim
      (λ kept. folder_is_now first synced calls left parts.1 kept.1
      ∙ folder_spared change (file_count first calls) (names_after first calls) (counted_not (of_folders is_spared change) (are_synced synced (folders_of change)) parts.0 kept.0))
      (λ done. ap (λ (n : Standing). n.folders p) done.2 ∙ folder_alike change (file_count first calls) (names_after first calls) done.0 p (folder_is_now first synced calls done.0 parts.1 done.1)) are
  folder_is_now first synced (Append number bytes ∷ calls) left firm are = folder_is_now first synced calls left firm are
  folder_is_now first synced (SyncFile number ∷ calls) left firm are = folder_is_now first synced calls left firm are
  folder_is_now first synced (FailSync number ∷ calls) left firm are = folder_is_now first synced calls left firm are
  folder_is_now first synced (SyncFolder folder ∷ calls) left firm are = folder_is_now first (folder ∷ synced) calls left firm are
  folder_is_now first synced (Firmed ∷ calls) left firm are = folder_is_now first synced calls left firm are

either_more : (x y z : Bool) → (y ≡ true → z ≡ true) → (x || y) ≡ true → (x || z) ≡ true
either_more true y z h e = refl
either_more false y z h e = h e

-- what is firm stays so
pub firm_more : (counts : NameCall → Bool) (folders synced : List (List ℕ)) (calls : List Call) → AreWithin folders synced → are_firm counts folders calls ≡ true → are_firm counts synced calls ≡ true
firm_more counts folders synced [] within firm = refl
firm_more counts folders synced (Named change ∷ calls) within firm =
    let parts : ((not (counts change) || are_synced folders (folders_of change)) ≡ true) × (are_firm counts folders calls ≡ true) = and_parts (not (counts change) || are_synced folders (folders_of change)) (are_firm counts folders calls) firm in
    and_from (not (counts change) || are_synced synced (folders_of change)) (are_firm counts synced calls)
    (either_more (not (counts change)) (are_synced folders (folders_of change)) (are_synced synced (folders_of change)) (λ h. synced_more folders synced (folders_of change) within h) parts.0) (firm_more counts folders synced calls within parts.1)
firm_more counts folders synced (Append number bytes ∷ calls) within firm = firm_more counts folders synced calls within firm
firm_more counts folders synced (SyncFile number ∷ calls) within firm = firm_more counts folders synced calls within firm
firm_more counts folders synced (FailSync number ∷ calls) within firm = firm_more counts folders synced calls within firm
firm_more counts folders synced (SyncFolder folder ∷ calls) within firm = firm_more counts (folder ∷ folders) (folder ∷ synced) calls (within_more folder folders synced within) firm
firm_more counts folders synced (Firmed ∷ calls) within firm = firm_more counts folders synced calls within firm

fewer_counted : (is_spared : List ℕ → Bool) (change : NameCall) (synced : Bool) → (not (of_names is_spared change) || synced) ≡ true → (not (of_folders is_spared change) || synced) ≡ true
fewer_counted is_spared (MakeFolder path) synced e = e
fewer_counted is_spared (DropFolder path) synced e = e
fewer_counted is_spared (Create path) synced e = refl
fewer_counted is_spared (Take path contents) synced e = refl
fewer_counted is_spared (Rename from to) synced e = refl
fewer_counted is_spared (Remove path) synced e = refl

-- where all names are firm, so are the folders
pub firm_folders : (is_spared : List ℕ → Bool) (synced : List (List ℕ)) (calls : List Call) → are_firm (of_names is_spared) synced calls ≡ true → are_firm (of_folders is_spared) synced calls ≡ true
firm_folders is_spared synced [] firm = refl
firm_folders is_spared synced (Named change ∷ calls) firm =
    let parts : ((not (of_names is_spared change) || are_synced synced (folders_of change)) ≡ true) × (are_firm (of_names is_spared) synced calls ≡ true) =
    and_parts (not (of_names is_spared change) || are_synced synced (folders_of change)) (are_firm (of_names is_spared) synced calls) firm in
    and_from (not (of_folders is_spared change) || are_synced synced (folders_of change)) (are_firm (of_folders is_spared) synced calls)
    (fewer_counted is_spared change (are_synced synced (folders_of change)) parts.0) (firm_folders is_spared synced calls parts.1)
firm_folders is_spared synced (Append number bytes ∷ calls) firm = firm_folders is_spared synced calls firm
firm_folders is_spared synced (SyncFile number ∷ calls) firm = firm_folders is_spared synced calls firm
firm_folders is_spared synced (FailSync number ∷ calls) firm = firm_folders is_spared synced calls firm
firm_folders is_spared synced (SyncFolder folder ∷ calls) firm = firm_folders is_spared (folder ∷ synced) calls firm
firm_folders is_spared synced (Firmed ∷ calls) firm = firm_folders is_spared synced calls firm
