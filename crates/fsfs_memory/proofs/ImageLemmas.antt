-- The image that is picked is one of the images, and grows with each operation.
use Rattle.std.proofs.Common.{◌≡◌, ℕ, suc, List, [], ◌∷◌, Bool, true, false, cond, length, drop, get_or, inl, inr, refl, sym, ap, ◌∙◌, add-zero, add-one}
use Rattle.std.proofs.lemmas.List.{get_or-drop, drop-drop}
use Rattle.std.proofs.lemmas.Option.{unwrap_or-slice_get}
use Rattle.std.specs.Prelude.{◌||◌}
use Rattle.fsfs_base.specs.Files.{Files}
use Rattle.fsfs_disk.specs.Labels.{Label, has_label, same_label, AreLeft}
use Rattle.fsfs_disk.specs.Trace.{NameChange, Operation, Put, Adopt, Rename, Remove, FirmNames, KeepLabel, DropLabel, Done, Attempted, IsImage, ImageAfter, files_after, changed}
use Rattle.fsfs_memory.specs.Memdisk.PickedImage.{is_picked, left_after, picked_image, picked_labels}
use Rattle.fsfs_memory.specs.Memdisk.Stored.{operation_by}

left_is_image : (picked : Bool) (change : NameChange) (now : Files) (Before : Files → Type 0) (left : Files) → Before left → ImageAfter change now Before (left_after picked change now left)
left_is_image true (Put name bytes) now Before left is = inr (left, is, refl)
left_is_image true (Adopt name bytes) now Before left is = inr (left, is, refl)
left_is_image true (Rename from to) now Before left is = inr (left, is, refl)
left_is_image true (Remove name) now Before left is = inr (left, is, refl)
left_is_image true FirmNames now Before left is = refl
left_is_image true (KeepLabel l) now Before left is = is
left_is_image true (DropLabel l) now Before left is = is
left_is_image false (Put name bytes) now Before left is = inl is
left_is_image false (Adopt name bytes) now Before left is = inl is
left_is_image false (Rename from to) now Before left is = inl is
left_is_image false (Remove name) now Before left is = inl is
left_is_image false FirmNames now Before left is = refl
left_is_image false (KeepLabel l) now Before left is = is
left_is_image false (DropLabel l) now Before left is = is

pub picked_is_image : (pick : List Bool) (first : Files) (operations : List Operation) → IsImage first operations (picked_image pick first operations)
picked_is_image pick first [] = refl
picked_is_image pick first (Attempted change ∷ operations) = picked_is_image pick first operations
picked_is_image pick first (Done change ∷ operations) =
    left_is_image (is_picked pick (length operations)) change (files_after first operations) (IsImage first operations) (picked_image pick first operations) (picked_is_image pick first operations)

-- the first of those that are left of the picks
is_picked-drop : (pick : List Bool) (n : ℕ) → is_picked (drop n pick) 0 ≡ is_picked pick n
is_picked-drop pick n =
    unwrap_or-slice_get (drop n pick) 0 false
    ∙ get_or-drop n pick 0 false
    ∙ ap (λ k. get_or pick k false) (add-zero n)
    ∙ sym (unwrap_or-slice_get pick n false)

pub rest_of_picks : (pick rest later : List Bool) (n : ℕ) → rest ≡ drop n pick → later ≡ drop 1 rest → later ≡ drop (suc n) pick
rest_of_picks pick rest later n is next = next ∙ ap (λ r. drop 1 r) is ∙ drop-drop 1 n pick ∙ ap (λ k. drop k pick) (add-one n)

-- one operation more
pub picked_image-more : (pick rest : List Bool) (first : Files) (operations : List Operation) (done picked : Bool) (change : NameChange) (now new_now left new_left : Files)
    → rest ≡ drop (length operations) pick
    → picked ≡ is_picked rest 0
    → now ≡ files_after first operations
    → left ≡ picked_image pick first operations
    → (done ≡ true → new_left ≡ left_after picked change now left)
    → (done ≡ true → new_now ≡ changed change now)
    → (done ≡ false → (new_left ≡ left) × (new_now ≡ now))
    → (new_now ≡ files_after first (operation_by done change ∷ operations)) × (new_left ≡ picked_image pick first (operation_by done change ∷ operations))
picked_image-more pick rest first operations true picked change now new_now left new_left is_rest is_picked_now is_now is_left lefts nows same =
    let same_pick = is_picked_now ∙ ap (λ r. is_picked r 0) is_rest ∙ is_picked-drop pick (length operations) in
    (nows refl ∙ ap (changed change) is_now, lefts refl ∙ (λ i. left_after (same_pick i) change (is_now i) (is_left i)))
picked_image-more pick rest first operations false picked change now new_now left new_left is_rest is_picked_now is_now is_left lefts nows same =
    ((same refl).1 ∙ is_now, (same refl).0 ∙ is_left)

or_right : (a b : Bool) → b ≡ true → (a || b) ≡ true
or_right true b h = refl
or_right false b h = h

or_more : (a b c : Bool) → (b ≡ true → c ≡ true) → (a || b) ≡ true → (a || c) ≡ true
or_more true b c h p = refl
or_more false b c h p = h p

-- the labels that are picked are among those that are kept
pub picked_are_left : (pick : List Bool) (ls : List Label) → AreLeft ls (picked_labels pick ls)
picked_are_left pick [] l h = h
picked_are_left pick (k ∷ ls) l h = by_pick (is_picked pick 0) (picked_are_left (drop 1 pick) ls l) h where
  by_pick : (b : Bool) → (has_label l (picked_labels (drop 1 pick) ls) ≡ true → has_label l ls ≡ true)
      → has_label l (cond b (k ∷ picked_labels (drop 1 pick) ls) (picked_labels (drop 1 pick) ls)) ≡ true → (same_label k l || has_label l ls) ≡ true
  by_pick true rest h = or_more (same_label k l) (has_label l (picked_labels (drop 1 pick) ls)) (has_label l ls) rest h
  by_pick false rest h = or_right (same_label k l) (has_label l ls) (rest h)

pub left_of : (kept now picked left : List Label) → now ≡ kept → left ≡ picked → AreLeft now picked → AreLeft kept left
left_of kept now picked left is same are l h = ap (λ ls. has_label l ls) (sym is) ∙ are l (ap (λ ls. has_label l ls) (sym same) ∙ h)
