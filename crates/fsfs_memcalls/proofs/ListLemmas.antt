-- A listing grows by a path at a time.
use Rattle.std.proofs.Common.{◌≡◌, ◌⊎◌, ℕ, List, [], ◌∷◌, ◌++◌, Bool, true, false, inl, inr, ⊎_elim, refl, sym, ap, subst, ◌∙◌}
use Rattle.std.proofs.lemmas.Bool.{and_parts, and_from, or_cases, or_parts}
use Rattle.std.specs.Prelude.{◌||◌, not, is_some, Option, Some, None}
use Rattle.fsfs_folders.specs.System.Paths.{has_path, within}
use Rattle.fsfs_folders.specs.System.CallRecord.{Beginning, Call, names_after}
use Rattle.fsfs_folders.specs.System.Listing.{IsListOf, is_entry, are_apart}
use Rattle.fsfs_folders.proofs.PathLemmas.{or_right, same_itself}
use Rattle.fsfs_memcalls.specs.Entries.{IsNoEntry, IsEntryAt, IsListSoFar, Lists}
use Rattle.fsfs_memcalls.specs.Places.{paths_of}
use Rattle.fsfs_memcalls.specs.Standing.{stands_as}
use Rattle.fsfs_memcalls.specs.declared.listing.Kind.{Kind}
use Rattle.fsfs_memcalls.specs.declared.listing.Kind.TheVariants.{Folder, File}
use Rattle.fsfs_memcalls.proofs.PlaceLemmas.{folder_is_placed, file_is_placed}
use Rattle.fsfs_base.specs.Files.{same_text}
use Rattle.fsfs_base.proofs.FileLemmas.{same_is}

-- the last of some paths
pub in_more : (paths : List (List ℕ)) (p q : List ℕ) → has_path (paths ++ p ∷ []) q ≡ true → (has_path paths q ≡ true) ⊎ (q ≡ p)
in_more [] p q e = ⊎_elim (λ s. inr (same_is q p s)) (λ r. absurd (let h : false ≡ true = r in cc)) (or_cases (same_text q p) false e)
in_more (x ∷ paths) p q e =
    ⊎_elim (λ s. inl (ap (λ t. t || has_path paths q) s)) (λ r. ⊎_elim (λ a. inl (or_right (same_text q x) (has_path paths q) a)) (λ b. inr b) (in_more paths p q r))
    (or_cases (same_text q x) (has_path (paths ++ p ∷ []) q) e)

front_more : (paths : List (List ℕ)) (p q : List ℕ) → has_path paths q ≡ true → has_path (paths ++ p ∷ []) q ≡ true
front_more [] p q e = absurd (let h : false ≡ true = e in cc)
front_more (x ∷ paths) p q e =
    ⊎_elim (λ s. ap (λ t. t || has_path (paths ++ p ∷ []) q) s) (λ r. or_right (same_text q x) (has_path (paths ++ p ∷ []) q) (front_more paths p q r)) (or_cases (same_text q x) (has_path paths q) e)

last_more : (paths : List (List ℕ)) (p : List ℕ) → has_path (paths ++ p ∷ []) p ≡ true
last_more [] p = ap (λ t. t || false) (same_itself p)
last_more (x ∷ paths) p = or_right (same_text p x) (has_path (paths ++ p ∷ []) p) (last_more paths p)

-- a name that wasn't there is apart from those that were
apart_more : (found : List (List ℕ)) (name : List ℕ) → are_apart found ≡ true → has_path found name ≡ false → are_apart (found ++ name ∷ []) ≡ true
apart_more [] name apart new = refl
apart_more (x ∷ found) name apart new =
    let parts = and_parts (not (has_path found x)) (are_apart found) apart in
    let off = or_parts (same_text name x) (has_path found name) new in
    and_from (not (has_path (found ++ name ∷ []) x)) (are_apart (found ++ name ∷ [])) (not_there (has_path (found ++ name ∷ []) x) (λ e.
    ⊎_elim (λ a. let h : false ≡ true = sym (flip (has_path found x) parts.0) ∙ a in cc) (λ b. let h : false ≡ true = sym off.0 ∙ ap (λ (t : List ℕ). same_text t x) (sym b) ∙ same_itself x in cc) (in_more found name x e)))
    (apart_more found name parts.1 off.1)
  where
    flip : (b : Bool) → not b ≡ true → b ≡ false
    flip true e = let h : false ≡ true = e in cc
    flip false e = refl

    not_there : (b : Bool) → (b ≡ true → ⊥) → not b ≡ true
    not_there true f = absurd (f refl)
    not_there false f = refl

-- a path of nothing such, or whose name was found
list_passed : (such : List ℕ → Bool) (folder p : List ℕ) (found : List (List ℕ)) → ((name : List ℕ) → is_entry name ≡ true → within folder name ≡ p → such p ≡ true → has_path found name ≡ true) → Lists such folder p found found
list_passed such folder p found known = λ paths so_far. record {
  each = so_far.each;
  all = λ name is such_is here. ⊎_elim (λ a. so_far.all name is such_is a) (λ b. known name is b (sym (ap such b) ∙ such_is)) (in_more paths p (within folder name) here);
  once = so_far.once;
}

pub list_found : (such : List ℕ → Bool) (folder p entry : List ℕ) (found : List (List ℕ)) → IsEntryAt folder p entry → such p ≡ true → has_path found entry ≡ false → Lists such folder p found (found ++ entry ∷ [])
list_found such folder p entry found at such_is new = λ paths so_far. record {
  each = λ name e. ⊎_elim (λ a. so_far.each name a) (λ b. let P : List ℕ → Type 0 = λ n. (is_entry n ≡ true) × (such (within folder n) ≡ true) in subst P (sym b) (at.is, ap such at.here ∙ such_is)) (in_more found entry name e);
  all = λ name e f here. ⊎_elim (λ a. front_more found entry name (so_far.all name e f a)) (λ b. let P : List ℕ → Type 0 = λ n. has_path (found ++ entry ∷ []) n ≡ true in subst P (sym (at.only name e b)) (last_more found entry)) (in_more paths p (within folder name) here);
  once = apart_more found entry so_far.once new;
}

-- a path that is no entry there
pub list_elsewhere : (such : List ℕ → Bool) (folder p : List ℕ) (found : List (List ℕ)) → IsNoEntry folder p → Lists such folder p found found
list_elsewhere such folder p found none = list_passed such folder p found (λ name is here _. absurd (none name is here))

-- one at which nothing such stands
pub list_unlike : (such : List ℕ → Bool) (folder p : List ℕ) (found : List (List ℕ)) → such p ≡ false → Lists such folder p found found
list_unlike such folder p found unlike = list_passed such folder p found (λ name is here such_is. absurd (let h : false ≡ true = sym unlike ∙ such_is in cc))

-- one whose name was found
pub list_again : (such : List ℕ → Bool) (folder p entry : List ℕ) (found : List (List ℕ)) → IsEntryAt folder p entry → has_path found entry ≡ true → Lists such folder p found found
list_again such folder p entry found at has = list_passed such folder p found (λ name is here such_is. let P : List ℕ → Type 0 = λ n. has_path found n ≡ true in subst P (sym (at.only name is here)) has)

-- the paths up to the next one
pub list_more : (such : List ℕ → Bool) (folder p : List ℕ) (old new met more : List (List ℕ)) → Lists such folder p old new → IsListSoFar such folder met old → more ≡ met ++ p ∷ [] → IsListSoFar such folder more new
list_more such folder p old new met more lists so_far e = let P : List (List ℕ) → Type 0 = λ ps. IsListSoFar such folder ps new in subst P (sym e) (lists met so_far)

pub list_none : (such : List ℕ → Bool) (folder : List ℕ) → IsListSoFar such folder [] []
list_none such folder = record {
  each = λ name e. absurd (let h : false ≡ true = e in cc);
  all = λ name is such_is here. here;
  once = refl;
}

-- whatever stands has one of the paths
placed : (kind : Kind) (first : Beginning) (calls : List Call) (q : List ℕ) → stands_as kind (names_after first calls) q ≡ true → has_path (paths_of first calls) q ≡ true
placed Folder first calls q e = folder_is_placed first calls q e
placed File first calls q e = go ((names_after first calls).files q) refl e
  where
    go : (found : Option ℕ) → (names_after first calls).files q ≡ found → is_some found ≡ true → has_path (paths_of first calls) q ≡ true
    go None is h = absurd (let g : false ≡ true = h in cc)
    go (Some k) is h = file_is_placed first calls q k is

pub whole_list : (kind : Kind) (first : Beginning) (calls : List Call) (folder : List ℕ) (found : List (List ℕ)) → IsListSoFar (stands_as kind (names_after first calls)) folder (paths_of first calls) found
    → IsListOf (stands_as kind (names_after first calls)) folder found
whole_list kind first calls folder found so_far = record {
  each = so_far.each;
  all = λ name is such_is. so_far.all name is such_is (placed kind first calls (within folder name) such_is);
  once = so_far.once;
}
