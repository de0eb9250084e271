-- What is told of a file that is open.
use Rattle.std.proofs.Common.{◌≡◌, ℕ, List, ◌++◌, Bool, true, false, refl, sym, ap, subst, ◌∙◌}
use Rattle.std.proofs.lemmas.Bool.{and_from, and_parts, eqb-true, eq-eqb, not-true, not_from_false}
use Rattle.std.specs.Prelude.{length, take, drop, not, ◌&&◌, Option, Some, None, option_map, IfSome, IfOk, Result, Ok, Err}
use Rattle.fsfs_disk.specs.Trace.{IsRead, IsSize, file_at}
use Rattle.fsfs_folders.specs.System.CallRecord.{CallRecord, names_now, contents_now}
use Rattle.fsfs_folders.specs.Told.{is_apart}
use Rattle.fsfs_folders.specs.Keeping.{is_sound}
use Rattle.fsfs_folders.specs.Writing.{IsFilled, bytes_there}
use Rattle.fsfs_folders.specs.Standing.{told}
use Rattle.fsfs_folders.specs.OpenFiles.{is_number, is_file_of, is_named, is_in_place}
use Rattle.fsfs_folders.proofs.FolderCalls.{told_there}

number_is : (n : ℕ) (found : Option ℕ) → found ≡ Some n → is_number n found ≡ true
number_is n found e = ap (is_number n) e ∙ eq-eqb n n refl

number_found : (n : ℕ) (found : Option ℕ) → is_number n found ≡ true → found ≡ Some n
number_found n None e = let h : false ≡ true = e in cc
number_found n (Some m) e = ap (λ (k : ℕ). Some k) (sym (eqb-true n m e))

-- the file with a name has this number
abbrev pub IsNamed : Option CallRecord → List ℕ → ℕ → Type 0
IsNamed calls name n = IfSome calls (λ r. (names_now r).files name ≡ Some n)

named_is : (calls : Option CallRecord) (name : List ℕ) (n : ℕ) → IsNamed calls name n → is_named calls name n ≡ true
named_is None name n has = refl
named_is (Some r) name n has = number_is n ((names_now r).files name) has

named_from : (calls : Option CallRecord) (name : List ℕ) (n : ℕ) → is_named calls name n ≡ true → IsNamed calls name n
named_from None name n is = tt
named_from (Some r) name n is = number_found n ((names_now r).files name) is

pub named_as : (n : ℕ) (a b : List ℕ) (calls : Option CallRecord) → a ≡ b → IsNamed calls a n → IsNamed calls b n
named_as n a b calls same has = subst (λ q. IsNamed calls q n) same has

module _ {A : Type 0} (name_of : A → List ℕ) (number_of : A → ℕ) (calls : Option CallRecord) (opened : A) (name : List ℕ) where
  -- one of a bench that is open by this name
  pub in_place_named : (last : Option A) → last ≡ Some opened → name_of opened ≡ name → is_in_place last name_of number_of calls ≡ true → IsNamed calls name (number_of opened)
  in_place_named last is same place =
      named_as (number_of opened) (name_of opened) name calls same (named_from calls (name_of opened) (number_of opened) (sym (ap (λ o. is_in_place o name_of number_of calls) is) ∙ place))

  pub named_in_place : name_of opened ≡ name → IsNamed calls name (number_of opened) → is_in_place (Some opened) name_of number_of calls ≡ true
  named_in_place same has = named_is calls (name_of opened) (number_of opened) (named_as (number_of opened) name (name_of opened) calls (sym same) has)

-- what was opened by a name
pub opened_is : (calls : Option CallRecord) (path name : List ℕ) (n : ℕ) → is_apart name ≡ false → path ≡ name → IfSome calls (λ r. (names_now r).files path ≡ Some n) → is_file_of calls name n ≡ true
opened_is None path name n plain same there = refl
opened_is (Some r) path name n plain same there =
    and_from (not (is_apart name)) (is_number n ((names_now r).files name)) (not_from_false (is_apart name) plain)
    (number_is n ((names_now r).files name) (ap (names_now r).files (sym same) ∙ there))

file_parts : (r : CallRecord) (name : List ℕ) (n : ℕ) → is_file_of (Some r) name n ≡ true → (is_apart name ≡ false) × ((names_now r).files name ≡ Some n)
file_parts r name n e =
    let p : (not (is_apart name) ≡ true) × (is_number n ((names_now r).files name) ≡ true) = and_parts (not (is_apart name)) (is_number n ((names_now r).files name)) e in
    (not-true (is_apart name) p.0, number_found n ((names_now r).files name) p.1)

-- what is told of the file that is open
open_told : (P : Option (List ℕ) → Type 0) (r : CallRecord) (changed : List (List ℕ)) (settled : Bool) (name : List ℕ) (n : ℕ) → is_sound (Some r) changed settled ≡ true → is_file_of (Some r) name n ≡ true
    → P (Some (contents_now r n).bytes) → IfSome (told (Some r)) (λ t. P (file_at t name))
open_told P r changed settled name n sound file has =
    let parts : (is_apart name ≡ false) × ((names_now r).files name ≡ Some n) = file_parts r name n file in
    told_there P name name (Some r) changed settled sound parts.0 refl (subst P (sym (ap (λ (k : Option ℕ). option_map (λ m. (contents_now r m).bytes) k) parts.1)) has)

filled_is_read : (b : List ℕ) (offset : ℕ) (old new : List ℕ) (n : ℕ) → IsFilled b offset old new n → IsRead (Some b) offset old new (Some n)
filled_is_read b offset old new n h = (ap (λ (k : ℕ). Some k) h.0, subst (λ k. new ≡ take k (drop offset b) ++ drop k old) h.0 h.1)

pub read_told : {E : Type 0} (result : Result ℕ E) (calls : Option CallRecord) (changed : List (List ℕ)) (settled : Bool) (name : List ℕ) (n offset : ℕ) (old new : List ℕ) → is_sound calls changed settled ≡ true → is_file_of calls name n ≡ true
    → IfSome calls (λ r. IfOk result (IsFilled (contents_now r n).bytes offset old new)) → IfSome (told calls) (λ t. IfOk result (λ count. IsRead (file_at t name) offset old new (Some count)))
read_told result None changed settled name n offset old new sound file filled = tt
read_told (Err e) (Some r) changed settled name n offset old new sound file filled = tt
read_told (Ok count) (Some r) changed settled name n offset old new sound file filled =
    open_told (λ f. IsRead f offset old new (Some count)) r changed settled name n sound file (filled_is_read (contents_now r n).bytes offset old new count filled)

pub size_told : {E : Type 0} (result : Result ℕ E) (calls : Option CallRecord) (changed : List (List ℕ)) (settled : Bool) (name : List ℕ) (n : ℕ) → is_sound calls changed settled ≡ true → is_file_of calls name n ≡ true
    → IfSome calls (λ r. IfOk result (λ size. size ≡ length (contents_now r n).bytes)) → IfSome (told calls) (λ t. IfOk result (λ size. IsSize (file_at t name) (Some size)))
size_told result None changed settled name n sound file measured = tt
size_told (Err e) (Some r) changed settled name n sound file measured = tt
size_told (Ok size) (Some r) changed settled name n sound file measured =
    open_told (λ f. IsSize f (Some size)) r changed settled name n sound file (ap (λ (k : ℕ). Some k) measured)

-- where nothing was opened nothing is told
pub none_told : (calls : Option CallRecord) (changed : List (List ℕ)) (settled : Bool) (path name : List ℕ) → is_sound calls changed settled ≡ true → is_apart name ≡ false → path ≡ name
    → IfSome calls (λ r. (names_now r).files path ≡ None) → IfSome (told calls) (λ t. file_at t name ≡ None)
none_told calls changed settled path name sound plain same none =
    told_there (λ f. f ≡ None) path name calls changed settled sound plain same (no_bytes calls none)
  where
    no_bytes : (found : Option CallRecord) → IfSome found (λ r. (names_now r).files path ≡ None) → IfSome found (λ r. bytes_there r path ≡ None)
    no_bytes None h = tt
    no_bytes (Some r) h = ap (λ (k : Option ℕ). option_map (λ m. (contents_now r m).bytes) k) h
