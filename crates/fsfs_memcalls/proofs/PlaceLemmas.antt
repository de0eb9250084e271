-- Whatever stands has one of the paths of the beginning, or one at which a call made it.
use Rattle.std.proofs.Common.{◌≡◌, ◌⊎◌, ℕ, List, [], ◌∷◌, ◌++◌, Bool, true, false, inl, inr, ⊎_elim, refl, sym, ap, subst, ◌∙◌}
use Rattle.std.proofs.lemmas.Bool.{or_cases, and_parts, cases_Bool}
use Rattle.std.specs.Prelude.{◌||◌, not, Option, Some, None}
use Rattle.fsfs_base.specs.Files.{same_text}
use Rattle.fsfs_folders.specs.System.Paths.{has_path, is_below}
use Rattle.fsfs_folders.specs.System.CallRecord.{NameCall, MakeFolder, DropFolder, Create, Take, Rename, Remove, Call, Named, Append, SyncFile, FailSync, SyncFolder, Firmed, Beginning, Standing, file_count, renamed_by, names_after, IsEmptyAt}
use Rattle.fsfs_folders.proofs.PathLemmas.{or_right, has_head, has_tail}
use Rattle.fsfs_folders.specs.System.Named.{file_paths}
use Rattle.fsfs_folders.proofs.NameLemmas.{comes_from, Comes}
use Rattle.fsfs_folders.proofs.NamedLemmas.{first_named}
use Rattle.fsfs_memcalls.specs.Places.{place_of, with_place, places_in, paths_of}

has_front : (a b : List (List ℕ)) (q : List ℕ) → has_path a q ≡ true → has_path (a ++ b) q ≡ true
has_front [] b q e = absurd (let h : false ≡ true = e in cc)
has_front (p ∷ a) b q e =
    ⊎_elim (λ s. ap (λ t. t || has_path (a ++ b) q) s) (λ r. or_right (same_text q p) (has_path (a ++ b) q) (has_front a b q r)) (or_cases (same_text q p) (has_path a q) e)

has_behind : (a b : List (List ℕ)) (q : List ℕ) → has_path b q ≡ true → has_path (a ++ b) q ≡ true
has_behind [] b q e = e
has_behind (p ∷ a) b q e = or_right (same_text q p) (has_path (a ++ b) q) (has_behind a b q e)

-- one place more
has_more : (place : Option (List ℕ)) (paths : List (List ℕ)) (q : List ℕ) → has_path paths q ≡ true → has_path (with_place place paths) q ≡ true
has_more None paths q e = e
has_more (Some p) paths q e = has_tail p q paths e

-- a call keeps what was there of the beginning or of earlier calls
pub kept : (here : Bool) (call : Call) (calls : List Call) (q : List ℕ) → (here ≡ true) ⊎ (has_path (places_in calls) q ≡ true) → (here ≡ true) ⊎ (has_path (places_in (call ∷ calls)) q ≡ true)
kept here call calls q (inl e) = inl e
kept here call calls q (inr e) = inr (has_more (place_of call) (places_in calls) q e)

-- a folder that is there after a change was there before, or its path is one of the places
pub place_made : (change : NameCall) (number : ℕ) (now was : Standing) (calls : List Call) (q : List ℕ)
    → (renamed_by change number now was).folders q ≡ true → (was.folders q ≡ true) ⊎ (has_path (places_in (Named change ∷ calls)) q ≡ true)
place_made (MakeFolder p) number now was calls q e = ⊎_elim (λ s. inr (ap (λ t. t || has_path (places_in calls) q) s)) (λ r. inl r) (or_cases (same_text q p) (was.folders q) e)
place_made (DropFolder p) number now was calls q e = inl (and_parts (not (same_text q p)) (was.folders q) e).1
place_made (Create p) number now was calls q e = inl e
place_made (Take p contents) number now was calls q e = inl e
place_made (Rename from to) number now was calls q e = inl e
place_made (Remove p) number now was calls q e = inl e

folder_placed : (first : Beginning) (calls : List Call) (q : List ℕ) → (names_after first calls).folders q ≡ true → (has_path first.folders q ≡ true) ⊎ (has_path (places_in calls) q ≡ true)
folder_placed first [] q e = inl e
folder_placed first (Named change ∷ calls) q e =
    ⊎_elim (λ was. kept (has_path first.folders q) (Named change) calls q (folder_placed first calls q was)) (λ made. inr made)
    (place_made change (file_count first calls) (names_after first calls) (names_after first calls) calls q e)
folder_placed first (Append number bytes ∷ calls) q e = folder_placed first calls q e
folder_placed first (SyncFile number ∷ calls) q e = folder_placed first calls q e
folder_placed first (FailSync number ∷ calls) q e = folder_placed first calls q e
folder_placed first (SyncFolder path ∷ calls) q e = folder_placed first calls q e
folder_placed first (Firmed ∷ calls) q e = folder_placed first calls q e

-- the path at which a change makes a file stand
pub came : (change : NameCall) (first : Beginning) (calls : List Call) (q : List ℕ) (k : ℕ) → Comes change (file_count first calls) (names_after first calls) q k → has_path (places_in (Named change ∷ calls)) q ≡ true
came (MakeFolder p) first calls q k comes = absurd comes
came (DropFolder p) first calls q k comes = absurd comes
came (Create p) first calls q k comes = let P : List ℕ → Type 0 = λ t. has_path (p ∷ places_in calls) t ≡ true in subst P (sym comes.0) (has_head p (places_in calls))
came (Take p contents) first calls q k comes = let P : List ℕ → Type 0 = λ t. has_path (p ∷ places_in calls) t ≡ true in subst P (sym comes.0) (has_head p (places_in calls))
came (Rename from to) first calls q k comes = let P : List ℕ → Type 0 = λ t. has_path (to ∷ places_in calls) t ≡ true in subst P (sym comes.0) (has_head to (places_in calls))
came (Remove p) first calls q k comes = absurd comes

file_placed : (first : Beginning) (calls : List Call) (q : List ℕ) (k : ℕ) → (names_after first calls).files q ≡ Some k → (has_path (file_paths first.files) q ≡ true) ⊎ (has_path (places_in calls) q ≡ true)
file_placed first [] q k e = inl (first_named first.files q k e)
file_placed first (Named change ∷ calls) q k e =
    ⊎_elim (λ was. kept (has_path (file_paths first.files) q) (Named change) calls q (file_placed first calls q k was))
    (λ comes. inr (came change first calls q k comes))
    (comes_from change (file_count first calls) (names_after first calls) (names_after first calls) q k e)
file_placed first (Append number bytes ∷ calls) q k e = file_placed first calls q k e
file_placed first (SyncFile number ∷ calls) q k e = file_placed first calls q k e
file_placed first (FailSync number ∷ calls) q k e = file_placed first calls q k e
file_placed first (SyncFolder path ∷ calls) q k e = file_placed first calls q k e
file_placed first (Firmed ∷ calls) q k e = file_placed first calls q k e

-- a path of the beginning, or of a call
pub folder_at : (first : Beginning) (calls : List Call) (q : List ℕ) → (has_path first.folders q ≡ true) ⊎ (has_path (places_in calls) q ≡ true) → has_path (paths_of first calls) q ≡ true
folder_at first calls q e =
    ⊎_elim (λ a. has_front (first.folders ++ file_paths first.files) (places_in calls) q (has_front first.folders (file_paths first.files) q a))
    (λ b. has_behind (first.folders ++ file_paths first.files) (places_in calls) q b) e

pub file_at : (first : Beginning) (calls : List Call) (q : List ℕ) → (has_path (file_paths first.files) q ≡ true) ⊎ (has_path (places_in calls) q ≡ true) → has_path (paths_of first calls) q ≡ true
file_at first calls q e =
    ⊎_elim (λ a. has_front (first.folders ++ file_paths first.files) (places_in calls) q (has_behind first.folders (file_paths first.files) q a))
    (λ b. has_behind (first.folders ++ file_paths first.files) (places_in calls) q b) e

pub folder_is_placed : (first : Beginning) (calls : List Call) (q : List ℕ) → (names_after first calls).folders q ≡ true → has_path (paths_of first calls) q ≡ true
folder_is_placed first calls q e = folder_at first calls q (folder_placed first calls q e)

pub file_is_placed : (first : Beginning) (calls : List Call) (q : List ℕ) (k : ℕ) → (names_after first calls).files q ≡ Some k → has_path (paths_of first calls) q ≡ true
file_is_placed first calls q k e = file_at first calls q (file_placed first calls q k e)

-- where nothing stands at these paths, nothing stands
pub empty_by_paths : (first : Beginning) (calls : List Call) (above : List ℕ)
    → ((q : List ℕ) → has_path (paths_of first calls) q ≡ true → is_below above q ≡ true → ((names_after first calls).folders q ≡ false) × ((names_after first calls).files q ≡ None))
    → IsEmptyAt (names_after first calls) above
empty_by_paths first calls above clear = λ q below. (folder q below, file q below)
  where
    folder : (q : List ℕ) → is_below above q ≡ true → (names_after first calls).folders q ≡ false
    folder q below = ⊎_elim (λ t. absurd (let h : true ≡ false = sym t ∙ (clear q (folder_is_placed first calls q t) below).0 in cc)) (λ f. f) (cases_Bool ((names_after first calls).folders q))

    no_file : (q : List ℕ) → is_below above q ≡ true → (found : Option ℕ) → (names_after first calls).files q ≡ found → (names_after first calls).files q ≡ None
    no_file q below None e = e
    no_file q below (Some k) e = (clear q (file_is_placed first calls q k e) below).1

    file : (q : List ℕ) → is_below above q ≡ true → (names_after first calls).files q ≡ None
    file q below = no_file q below ((names_after first calls).files q) refl
