-- What holds of each item holds of what the items come to; and what one more item makes of a map.
use Rattle.std.proofs.Common.{◌≡◌, ℕ, Bool, true, false, cond, List, [], ◌∷◌, ◌++◌, map, reverse, Option, Some, None, refl, sym, ap, ◌∙◌}
use Rattle.std.specs.Prelude.{◌≢◌, option_map}
use Rattle.std.specs.Borrow.{Bor}
use Rattle.std.proofs.lemmas.List.{map-append, reverse-append}
use Rattle.std.proofs.lemmas.Slice.Eq.{bytes_eq-Decides}
use Rattle.std.specs.List.{AllByRecursion}
use Rattle.std.specs.Str.{bytes_eq}
use Rattle.fsfs_base.specs.declared.action.Action.{Action}
use Rattle.fsfs_base.specs.declared.action.Action.TheVariants.{Add, Delete, Replace, Modify}
use Rattle.fsfs_base.specs.Paths.{names_text}
use Rattle.fsfs_base.specs.PathTexts.{IsPath}
use Rattle.fsfs_noderev.specs.Changes.Words.{flags_fit}
use Rattle.fsfs_noderev.specs.Changes.Items.{HasText}
use Rattle.fsfs_noderev.specs.declared.changes.item.ChangeItem.{ChangeItem}
use Rattle.fsfs_edit.specs.Folds.FoldedItems.{FoldedItem, HasPath, begun, after_delete, after_add, flagged, after_modify, joined_by, joined}
use Rattle.fsfs_edit.specs.Folds.Lasting.{say_by_key, say_all_by_key}
use Rattle.fsfs_edit.specs.Folds.Views.{told, said_value}
use Rattle.fsfs_edit.specs.declared.folds.said.Said.{Said}

-- ---- by keys

-- what is kept by one more item of the key is kept by all
pub holds_all : (Q : Option FoldedItem → Type 0) (key : List ℕ) (o : Option FoldedItem) (ms : List ChangeItem) → Q o
    → AllByRecursion (λ m. (p : Option FoldedItem) → Q p → bytes_eq (names_text m.path) key ≡ true → Q (joined p m)) ms → Q (say_all_by_key key o ms)
holds_all Q key o [] now all = now
holds_all Q key o (m ∷ ms) now all = holds_all Q key (say_by_key key o m) ms (by (bytes_eq (names_text m.path) key) refl) all.1
  where
    by : (b : Bool) → bytes_eq (names_text m.path) key ≡ b → Q (cond b (joined o m) o)
    by true e = all.0 o now e
    by false e = now

pub all_weaker : (P Q : ChangeItem → Type 0) → ((m : ChangeItem) → P m → Q m) → (ms : List ChangeItem) → AllByRecursion P ms → AllByRecursion Q ms
all_weaker P Q gives [] all = tt
all_weaker P Q gives (m ∷ ms) all = (gives m all.0, all_weaker P Q gives ms all.1)

-- ---- the path of what is said

-- what is said of a key has it
abbrev pub IsKeyed : List ℕ → Option FoldedItem → Type 0
IsKeyed key None = Unit {0}
IsKeyed key (Some f) = (names_text f.item.path ≡ key) × IsPath f.item.path

add_keyed : (key : List ℕ) (a : Action) (f : FoldedItem) (item : ChangeItem) → IsKeyed key (Some (begun item)) → IsKeyed key (Some (after_add a f item))
add_keyed key Add f item here = here
add_keyed key Delete f item here = here
add_keyed key Replace f item here = here
add_keyed key Modify f item here = here

delete_keyed : (key : List ℕ) (a : Action) (f : FoldedItem) (item : ChangeItem) → IsKeyed key (Some (begun item)) → IsKeyed key (after_delete a f item)
delete_keyed key Add f item here = tt
delete_keyed key Delete f item here = here
delete_keyed key Replace f item here = here
delete_keyed key Modify f item here = here

modify_keyed : (key : List ℕ) (a : Action) (f : FoldedItem) (item : ChangeItem) → IsKeyed key (Some (begun item)) → IsKeyed key (Some f) → IsKeyed key (Some (after_modify a f item))
modify_keyed key Add f item here was = was
modify_keyed key Delete f item here was = here
modify_keyed key Replace f item here was = was
modify_keyed key Modify f item here was = was

joined_keyed_by : (key : List ℕ) (a : Action) (f : FoldedItem) (item : ChangeItem) → IsKeyed key (Some (begun item)) → IsKeyed key (Some f) → IsKeyed key (joined_by a f item)
joined_keyed_by key Add f item here was = add_keyed key f.item.action f item here
joined_keyed_by key Delete f item here was = delete_keyed key f.item.action f item here
joined_keyed_by key Modify f item here was = modify_keyed key f.item.action f item here was
joined_keyed_by key Replace f item here was = here

joined_keyed : (key : List ℕ) (o : Option FoldedItem) (item : ChangeItem) → IsKeyed key (Some (begun item)) → IsKeyed key o → IsKeyed key (joined o item)
joined_keyed key None item here was = here
joined_keyed key (Some f) item here was = joined_keyed_by key item.action f item here was

pub said_keyed : (key : List ℕ) (ms : List ChangeItem) → AllByRecursion HasPath ms → IsKeyed key (say_all_by_key key None ms)
said_keyed key ms all = holds_all (IsKeyed key) key None ms tt
    (all_weaker HasPath (λ m. (p : Option FoldedItem) → IsKeyed key p → bytes_eq (names_text m.path) key ≡ true → IsKeyed key (joined p m))
    (λ m is p was e. joined_keyed key p m ((bytes_eq-Decides (names_text m.path) key).0 e, is) was) ms all)

-- ---- the text of what is said

abbrev pub TextFits : Option FoldedItem → Type 0
TextFits None = Unit {0}
TextFits (Some f) = HasText f.item × (f.was.kind ≢ None)

add_fits : (a : Action) (f : FoldedItem) (item : ChangeItem) → HasText item → TextFits (Some f) → TextFits (Some (after_add a f item))
add_fits Add f item h was = (h, h.kind)
add_fits Delete f item h was = (record { kind = h.kind; flags = refl; path = h.path; source = h.source }, was.1)
add_fits Replace f item h was = (h, h.kind)
add_fits Modify f item h was = (h, h.kind)

delete_fits : (a : Action) (f : FoldedItem) (item : ChangeItem) → HasText item → TextFits (Some f) → TextFits (after_delete a f item)
delete_fits Add f item h was = tt
delete_fits Delete f item h was = (h, h.kind)
delete_fits Replace f item h was = (record { kind = was.1; flags = h.flags; path = h.path; source = h.source }, was.1)
delete_fits Modify f item h was = (h, h.kind)

any_flags : (a : Action) → ((text props : Bool) → flags_fit a text props ≡ true) → (f : FoldedItem) (text props : Bool) → f.item.action ≡ a → flags_fit f.item.action text props ≡ true
any_flags a any f text props e = ap (λ (b : Action). flags_fit b text props) e ∙ any text props

flagged_fits : (a : Action) → ((text props : Bool) → flags_fit a text props ≡ true) → (f : FoldedItem) (item : ChangeItem) → f.item.action ≡ a → TextFits (Some f) → TextFits (Some (flagged f item))
flagged_fits a any f item e was = (record { kind = was.0.kind; flags = any_flags a any f _ _ e; path = was.0.path; source = was.0.source }, was.1)

modify_fits : (a : Action) (f : FoldedItem) (item : ChangeItem) → f.item.action ≡ a → HasText item → TextFits (Some f) → TextFits (Some (after_modify a f item))
modify_fits Add f item e h was = flagged_fits Add (λ t p. refl) f item e was
modify_fits Delete f item e h was = (h, h.kind)
modify_fits Replace f item e h was = flagged_fits Replace (λ t p. refl) f item e was
modify_fits Modify f item e h was = flagged_fits Modify (λ t p. refl) f item e was

joined_fits_by : (a : Action) (f : FoldedItem) (item : ChangeItem) → HasText item → TextFits (Some f) → TextFits (joined_by a f item)
joined_fits_by Add f item h was = add_fits f.item.action f item h was
joined_fits_by Delete f item h was = delete_fits f.item.action f item h was
joined_fits_by Modify f item h was = modify_fits f.item.action f item refl h was
joined_fits_by Replace f item h was = (h, h.kind)

joined_fits : (o : Option FoldedItem) (item : ChangeItem) → HasText item → TextFits o → TextFits (joined o item)
joined_fits None item h was = (h, h.kind)
joined_fits (Some f) item h was = joined_fits_by item.action f item h was

pub said_fits : (key : List ℕ) (ms : List ChangeItem) → AllByRecursion HasText ms → TextFits (say_all_by_key key None ms)
said_fits key ms all = holds_all TextFits key None ms tt
    (all_weaker HasText (λ m. (p : Option FoldedItem) → TextFits p → bytes_eq (names_text m.path) key ≡ true → TextFits (joined p m)) (λ m h p was e. joined_fits p m h was) ms all)

-- ---- a map with one more item

pub told_value : (o : Option Said) → told (Some o) ≡ option_map said_value o
told_value None = refl
told_value (Some s) = refl

-- what was said at a key, and is said there now
pub say_step : (old new : List ℕ → Option (Option Said)) (key : List ℕ) (now : Option Said) (item : ChangeItem) → names_text item.path ≡ key
    → ((q : List ℕ) → new q ≡ cond (bytes_eq key q) (Some now) (old q)) → told (Some now) ≡ joined (told (old key)) item
    → (q : List ℕ) → told (new q) ≡ say_by_key q (told (old q)) item
say_step old new key now item is put said q = ap told (put q) ∙ by (bytes_eq key q) refl ∙ ap (λ (k : List ℕ). say_key k) (sym is)
  where
    say_key : List ℕ → Option FoldedItem
    say_key k = cond (bytes_eq k q) (joined (told (old q)) item) (told (old q))

    by : (b : Bool) → bytes_eq key q ≡ b → told (cond b (Some now) (old q)) ≡ cond b (joined (told (old q)) item) (told (old q))
    by true e = said ∙ ap (λ (k : List ℕ). joined (told (old k)) item) ((bytes_eq-Decides key q).0 e)
    by false e = refl

-- ---- items that are taken from the end

pub last_first : (xs : List (Bor ChangeItem)) (x : Bor ChangeItem) → reverse (map (λ y. y.now) (xs ++ x ∷ [])) ≡ x.now ∷ reverse (map (λ y. y.now) xs)
last_first xs x = ap reverse (map-append (λ (y : Bor ChangeItem). y.now) xs (x ∷ [])) ∙ reverse-append (map (λ y. y.now) xs) (x.now ∷ [])
