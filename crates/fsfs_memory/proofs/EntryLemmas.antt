-- What entries of names and contents are as files, after a change of the entries.
use Rattle.std.proofs.Common.{◌≡◌, ℕ, List, [], ◌∷◌, Bool, true, false, cond, T, ◌&&◌, refl, sym, ap, subst, ◌∙◌}
use Rattle.std.specs.Prelude.{Option, Some, None, option_map}
use Rattle.std.specs.declared.cmp.Ordering.TheVariants.{Less}
use Rattle.std.specs.Ordering.{nat_cmp, is_eq, is_lt, eq_by_cmp}
use Rattle.std.specs.Cmp.{eq_by_cmp_equiv}
use Rattle.std.specs.Cmp.Lexicographic.{slice_cmp, nat_list_cmp_total}
use Rattle.std.specs.BTreeMap.{is_at}
use Rattle.std.specs.Map.{keys_of}
use Rattle.std.specs.List.{AllZip, AllByRecursion}
use Rattle.std.specs.List.Sorted.{IsStrictlySortedBy}
use Rattle.std.proofs.lemmas.Map.Keys.{sorted_head, sorted_tail}
use Rattle.std.specs.FinMap.Entries.{below_all}
use Rattle.std.specs.FinMap.{find, is_sorted, entries, from_sorted, get, insert, remove, get-insert, get-remove, get-from_entries, get-from_sorted, entries-from_sorted}
use Rattle.fsfs_base.specs.Files.{Files}
use Rattle.fsfs_base.proofs.FileLemmas.{same_files}
use Rattle.fsfs_memory.specs.Memdisk.MemFiles.{named_files, files_by, content_at}
use Rattle.fsfs_base.proofs.TwoTests.{both_hold}

read_either : {X : Type 0} (read : X → List ℕ) (b : Bool) (x : X) (o : Option X) → cond b (Some (read x)) (option_map read o) ≡ option_map read (cond b (Some x) o)
read_either read true x o = refl
read_either read false x o = refl

find-named_files : {X : Type 0} (read : X → List ℕ) (q : List ℕ) (entries : List (List ℕ × X)) → find (slice_cmp nat_cmp) q (named_files read entries) ≡ option_map read (content_at entries q)
find-named_files read q [] = refl
find-named_files read q (e ∷ entries) =
    ap (λ o. cond (is_eq (slice_cmp nat_cmp q e.0)) (Some (read e.1)) o) (find-named_files read q entries)
    ∙ read_either read (is_eq (slice_cmp nat_cmp q e.0)) e.1 (content_at entries q)

pub get-files_by : {X : Type 0} (read : X → List ℕ) (q : List ℕ) (entries : List (List ℕ × X)) → get (files_by read entries) q ≡ option_map read (content_at entries q)
get-files_by read q entries = get-from_entries nat_list_cmp_total (named_files read entries) q ∙ find-named_files read q entries

read_update : {X : Type 0} (read : X → List ℕ) (b : Bool) (w o : Option X) → option_map read (cond b w o) ≡ cond b (option_map read w) (option_map read o)
read_update read true w o = refl
read_update read false w o = refl

-- at each name the new entries have what an update of one name gives
updated : {X : Type 0} (read : X → List ℕ) (old new : List (List ℕ × X)) (k : List ℕ) (w : Option X)
    → ((q : List ℕ) → content_at new q ≡ cond (is_at (slice_cmp nat_cmp k) q) w (content_at old q))
    → (q : List ℕ) → get (files_by read new) q ≡ cond (eq_by_cmp (slice_cmp nat_cmp) q k) (option_map read w) (get (files_by read old) q)
updated read old new k w is q =
    get-files_by read q new
    ∙ ap (λ o. option_map read o) (is q)
    ∙ read_update read (eq_by_cmp (slice_cmp nat_cmp) k q) w (content_at old q)
    ∙ ap (λ b. cond b (option_map read w) (option_map read (content_at old q))) ((eq_by_cmp_equiv nat_list_cmp_total).symm k q)
    ∙ ap (λ o. cond (eq_by_cmp (slice_cmp nat_cmp) q k) (option_map read w) o) (sym (get-files_by read q old))

pub files_by_inserted : {X : Type 0} (read : X → List ℕ) (old new : List (List ℕ × X)) (k : List ℕ) (v : X)
    → ((q : List ℕ) → content_at new q ≡ cond (is_at (slice_cmp nat_cmp k) q) (Some v) (content_at old q))
    → files_by read new ≡ insert (files_by read old) k (read v)
files_by_inserted read old new k v is = same_files _ _ (λ q. updated read old new k (Some v) is q ∙ sym (get-insert nat_list_cmp_total (files_by read old) k (read v) q))

pub files_by_removed : {X : Type 0} (read : X → List ℕ) (old new : List (List ℕ × X)) (k : List ℕ)
    → ((q : List ℕ) → content_at new q ≡ cond (is_at (slice_cmp nat_cmp k) q) None (content_at old q))
    → files_by read new ≡ remove (files_by read old) k
files_by_removed read old new k is = same_files _ _ (λ q. updated read old new k None is q ∙ sym (get-remove nat_list_cmp_total (files_by read old) k q))

-- a name that is given bytes was not missed before
pub insert-remove_same : (m : Files) (k v : List ℕ) → insert (remove m k) k v ≡ insert m k v
insert-remove_same m k v = same_files _ _ (λ q.
    get-insert nat_list_cmp_total (remove m k) k v q
    ∙ ap (λ o. cond (eq_by_cmp (slice_cmp nat_cmp) q k) (Some v) o) (get-remove nat_list_cmp_total m k q)
    ∙ given (eq_by_cmp (slice_cmp nat_cmp) q k) (get m q)
    ∙ sym (get-insert nat_list_cmp_total m k v q))
  where
    given : (b : Bool) (o : Option (List ℕ)) → cond b (Some v) (cond b None o) ≡ cond b (Some v) o
    given true o = refl
    given false o = refl

-- clones of entries are the same files
pub named_files-clone : {X : Type 0} (read : X → List ℕ) (C : List ℕ → List ℕ → Type 0) (D : X → X → Type 0)
    → ((a b : List ℕ) → C a b → b ≡ a) → ((x y : X) → D x y → read y ≡ read x)
    → (old new : List (List ℕ × X)) → AllZip (λ p q. C p.0 q.0 × D p.1 q.1) old new → named_files read new ≡ named_files read old
named_files-clone read C D c d [] [] all = refl
named_files-clone read C D c d [] (q ∷ new) all = absurd all
named_files-clone read C D c d (p ∷ old) [] all = absurd all
named_files-clone read C D c d (p ∷ old) (q ∷ new) all = λ i. (c p.0 q.0 all.0.0 i, d p.1 q.1 all.0.1 i) ∷ named_files-clone read C D c d old new all.1 i

below_all_names : {X : Type 0} (read : X → List ℕ) (k : List ℕ) (entries : List (List ℕ × X)) → AllByRecursion (λ y. slice_cmp nat_cmp k y ≡ Less) (keys_of entries) → T (below_all (slice_cmp nat_cmp) k (named_files read entries))
below_all_names read k [] all = tt
below_all_names read k (e ∷ entries) all =
    both_hold (is_lt (slice_cmp nat_cmp k e.0)) _ (subst (λ r. T (is_lt r)) (sym all.0) tt) (below_all_names read k entries all.1)

sorted_names : {X : Type 0} (read : X → List ℕ) (entries : List (List ℕ × X)) → IsStrictlySortedBy (slice_cmp nat_cmp) (keys_of entries) → T (is_sorted (slice_cmp nat_cmp) (named_files read entries))
sorted_names read [] sorted = tt
sorted_names read (e ∷ entries) sorted =
    both_hold _ _ (below_all_names read e.0 entries (sorted_head (slice_cmp nat_cmp) e.0 (keys_of entries) sorted))
    (sorted_names read entries (sorted_tail (slice_cmp nat_cmp) e.0 (keys_of entries) sorted))

-- entries in the order of their names are those of their files
pub entries-files_by : {X : Type 0} (read : X → List ℕ) (list : List (List ℕ × X)) → IsStrictlySortedBy (slice_cmp nat_cmp) (keys_of list) → entries (files_by read list) ≡ named_files read list
entries-files_by read list sorted =
    let is_so = sorted_names read list sorted in
    let files = named_files read list in
    ap (λ (m : Files). entries m) (same_files (files_by read list) (from_sorted files) (λ q. get-from_entries nat_list_cmp_total files q ∙ sym (get-from_sorted (slice_cmp nat_cmp) files q is_so)))
    ∙ entries-from_sorted (slice_cmp nat_cmp) files is_so
