-- What holds of names, bytes and operations after calls that keep to the rules, where a call changes no name.
use Rattle.std.proofs.Common.{◌≡◌, ℕ, List, [], ◌∷◌, Bool, true, false, cond, ⊎_elim, refl, sym, ap, subst, ◌∙◌}
use Rattle.std.proofs.lemmas.Bool.{ne_eqb, and_parts, or_cases}
use Rattle.std.proofs.lemmas.Option.{none-some}
use Rattle.std.specs.Prelude.{◌^◌, ◌||◌, ◌&&◌, length, nat_eq, nat_le, Some, None, Option}
use Rattle.fsfs_disk.specs.Labels.{Label}
use Rattle.fsfs_base.specs.Files.{Files, NamedFile}
use Rattle.fsfs_base.proofs.FileLemmas.{same_files}
use Rattle.fsfs_disk.specs.Trace.{NameChange, Operation, Done, FirmNames, KeepLabel, DropLabel, IsImage, files_after}
use Rattle.fsfs_folders.specs.System.CallRecord.{Call, Append, SyncFile, FailSync, SyncFolder, Firmed, Beginning, Standing, Contents, is_reachable, names_after, contents_after, more_bytes, made_firm, made_lost, first_names, first_number}
use Rattle.fsfs_folders.specs.System.Paths.{has_path}
use Rattle.fsfs_folders.specs.System.Remains.{AreNamesLeft}
use Rattle.fsfs_folders.specs.SameText.{text_cases}
use Rattle.fsfs_folders.proofs.LeftLemmas.{left_before_sync, files_are_now}
use Rattle.fsfs_folders.specs.Told.{is_apart, is_in_bench, shown, AreShown, bytes_after, files_of, on_label}
use Rattle.fsfs_folders.specs.Keeping.{are_rooted, are_names_firm}
use Rattle.fsfs_folders.proofs.ShownLemmas.{shown_alike, shown_by_files, first_shown}

-- Of all names that a crash may leave: each file of the repository has its folders, and is firm; what is shown is an image of the
-- operations. What the names now show are the files after the operations.
pub record Holds (first : Beginning) (calls : List Call) (operations : List Operation) : Type 0 where
  pub rooted : (left : Standing) (q : List ℕ) (k : ℕ) → AreNamesLeft first [] calls left → is_apart q ≡ false → left.files q ≡ Some k → is_reachable left.folders q ≡ true
  pub firm : (left : Standing) (q : List ℕ) (k : ℕ) → AreNamesLeft first [] calls left → is_apart q ≡ false → left.files q ≡ Some k
      → (contents_after first calls k).firm ≡ length (contents_after first calls k).bytes
  pub image : (left : Standing) (m : Files) → AreNamesLeft first [] calls left → AreShown (bytes_after first calls) left m → IsImage (files_of first.files) operations m
  pub now : AreShown (bytes_after first calls) (names_after first calls) (files_after (files_of first.files) operations)

-- a file of the repository that is there at the beginning has its folders, and at most 2^62 bytes
pub rooted_in : (folders : List (List ℕ)) (files : List NamedFile) → are_rooted folders files ≡ true → (q : List ℕ) (k : ℕ) → is_apart q ≡ false → first_number files q ≡ Some k → is_reachable (has_path folders) q ≡ true
rooted_in folders [] rooted q k plain e = absurd (none-some k e)
rooted_in folders (file ∷ files) rooted q k plain e =
    let parts : ((is_apart file.0 || (is_reachable (has_path folders) file.0 && nat_le (length file.1) (2 ^ 62))) ≡ true) × (are_rooted folders files ≡ true) =
    and_parts (is_apart file.0 || (is_reachable (has_path folders) file.0 && nat_le (length file.1) (2 ^ 62))) (are_rooted folders files) rooted in
    ⊎_elim (λ s. ap (λ p. is_reachable (has_path folders) p) s.0 ∙ ⊎_elim (λ beside. let h : true ≡ false = sym (ap is_apart s.0 ∙ beside) ∙ plain in cc)
    (λ r. (and_parts (is_reachable (has_path folders) file.0) (nat_le (length file.1) (2 ^ 62)) r).0) (or_cases (is_apart file.0) (is_reachable (has_path folders) file.0 && nat_le (length file.1) (2 ^ 62)) parts.0))
    (λ o. rooted_in folders files parts.1 q k plain (sym (ap (λ b. cond b (Some (length files)) (first_number files q)) o.1) ∙ e)) (text_cases q file.0)

pub held_first : (first : Beginning) → are_rooted first.folders first.files ≡ true → Holds first [] []
held_first first roots = record {
  rooted = λ left q k are plain e. subst (λ (n : Standing). is_reachable n.folders q ≡ true) (sym are) (rooted_in first.folders first.files roots q k plain (sym (ap (λ (n : Standing). n.files q) are) ∙ e));
  firm = λ left q k are plain e. refl;
  image = λ left m are shows. same_files m (files_of first.files) (λ q. shows q ∙ ap (λ n. shown (bytes_after first []) n q) are ∙ sym (first_shown first.files (first_names first).folders q));
  now = λ q. first_shown first.files (first_names first).folders q;
}

pub held_append : (first : Beginning) (calls : List Call) (operations : List Operation) (number : ℕ) (bytes : List ℕ)
    → ((left : Standing) (q : List ℕ) (k : ℕ) → AreNamesLeft first [] calls left → is_apart q ≡ false → left.files q ≡ Some k → (k ≡ number → ⊥))
    → AreNamesLeft first [] calls (names_after first calls)
    → Holds first calls operations → Holds first (Append number bytes ∷ calls) operations
held_append first calls operations number bytes unseen is_now held = record {
  rooted = held.rooted;
  firm = λ left q k are plain e.
      ap (λ (c : Contents). c.firm) (kept k (unseen left q k are plain e)) ∙ held.firm left q k are plain e ∙ ap (λ (c : Contents). length c.bytes) (sym (kept k (unseen left q k are plain e)));
  image = λ left m are shows. held.image left m are (λ q. shows q ∙ alike left are q);
  now = λ q. held.now q ∙ sym (alike (names_after first calls) is_now q);
}
  where
    kept : (k : ℕ) → (k ≡ number → ⊥) → contents_after first (Append number bytes ∷ calls) k ≡ contents_after first calls k
    kept k apart = ap (λ b. cond b (more_bytes bytes (contents_after first calls k)) (contents_after first calls k)) (ne_eqb k number apart)

    alike : (left : Standing) → AreNamesLeft first [] calls left → (q : List ℕ) → shown (bytes_after first (Append number bytes ∷ calls)) left q ≡ shown (bytes_after first calls) left q
    alike left are q = shown_alike (bytes_after first calls) (bytes_after first (Append number bytes ∷ calls)) left q (λ k plain e. ap (λ (c : Contents). c.bytes) (kept k (unseen left q k are plain e)))

firm_bytes : (b : Bool) (c : Contents) → (cond b (made_firm c) c).bytes ≡ c.bytes
firm_bytes true c = refl
firm_bytes false c = refl

firm_or_lost : (b : Bool) (n : ℕ) → cond b n n ≡ n
firm_or_lost true n = refl
firm_or_lost false n = refl

still_firm : (b : Bool) (c : Contents) → c.firm ≡ length c.bytes → (cond b (made_firm c) c).firm ≡ length (cond b (made_firm c) c).bytes
still_firm true c e = ap (λ n. cond c.is_lost n (length c.bytes)) e ∙ firm_or_lost c.is_lost (length c.bytes)
still_firm false c e = e

pub held_sync : (first : Beginning) (calls : List Call) (operations : List Operation) (number : ℕ) → Holds first calls operations → Holds first (SyncFile number ∷ calls) operations
held_sync first calls operations number held = record {
  rooted = held.rooted;
  firm = λ left q k are plain e. still_firm (nat_eq k number) (contents_after first calls k) (held.firm left q k are plain e);
  image = λ left m are shows. held.image left m are (λ q. shows q ∙ alike left q);
  now = λ q. held.now q ∙ sym (alike (names_after first calls) q);
}
  where
    alike : (left : Standing) (q : List ℕ) → shown (bytes_after first (SyncFile number ∷ calls)) left q ≡ shown (bytes_after first calls) left q
    alike left q = shown_alike (bytes_after first calls) (bytes_after first (SyncFile number ∷ calls)) left q (λ k plain e. firm_bytes (nat_eq k number) (contents_after first calls k))

lost_bytes : (b : Bool) (c : Contents) → (cond b (made_lost c) c).bytes ≡ c.bytes
lost_bytes true c = refl
lost_bytes false c = refl

lost_firm : (b : Bool) (c : Contents) → c.firm ≡ length c.bytes → (cond b (made_lost c) c).firm ≡ length (cond b (made_lost c) c).bytes
lost_firm true c e = e
lost_firm false c e = e

pub held_fail_sync : (first : Beginning) (calls : List Call) (operations : List Operation) (number : ℕ) → Holds first calls operations → Holds first (FailSync number ∷ calls) operations
held_fail_sync first calls operations number held = record {
  rooted = held.rooted;
  firm = λ left q k are plain e. lost_firm (nat_eq k number) (contents_after first calls k) (held.firm left q k are plain e);
  image = λ left m are shows. held.image left m are (λ q. shows q ∙ alike left q);
  now = λ q. held.now q ∙ sym (alike (names_after first calls) q);
}
  where
    alike : (left : Standing) (q : List ℕ) → shown (bytes_after first (FailSync number ∷ calls)) left q ≡ shown (bytes_after first calls) left q
    alike left q = shown_alike (bytes_after first calls) (bytes_after first (FailSync number ∷ calls)) left q (λ k plain e. lost_bytes (nat_eq k number) (contents_after first calls k))

pub held_sync_folder : (first : Beginning) (calls : List Call) (operations : List Operation) (folder : List ℕ) → Holds first calls operations → Holds first (SyncFolder folder ∷ calls) operations
held_sync_folder first calls operations folder held = record {
  rooted = λ left q k are. held.rooted left q k (left_before_sync first folder calls left are);
  firm = λ left q k are. held.firm left q k (left_before_sync first folder calls left are);
  image = λ left m are. held.image left m (left_before_sync first folder calls left are);
  now = held.now;
}

-- where all names are firm, a crash leaves what is there
pub held_firmed : (first : Beginning) (calls : List Call) (operations : List Operation) → are_names_firm [] calls ≡ true → Holds first calls operations → Holds first (Firmed ∷ calls) (Done FirmNames ∷ operations)
held_firmed first calls operations firm held = record {
  rooted = held.rooted;
  firm = held.firm;
  image = λ left m are shows. same_files m (files_after (files_of first.files) operations) (λ q.
      shows q ∙ shown_by_files (bytes_after first calls) left (names_after first calls) q (files_are_now is_in_bench first [] calls left firm are) ∙ sym (held.now q));
  now = held.now;
}

-- a label that is kept or dropped changes no file
pub held_kept : (first : Beginning) (calls : List Call) (operations : List Operation) (label : Option Label) → Holds first calls operations → Holds first calls (on_label label KeepLabel operations)
held_kept first calls operations None held = held
held_kept first calls operations (Some label) held = record { rooted = held.rooted; firm = held.firm; image = held.image; now = held.now }

pub held_dropped : (first : Beginning) (calls : List Call) (operations : List Operation) (label : Option Label) → Holds first calls operations → Holds first calls (on_label label DropLabel operations)
held_dropped first calls operations None held = held
held_dropped first calls operations (Some label) held = record { rooted = held.rooted; firm = held.firm; image = held.image; now = held.now }
