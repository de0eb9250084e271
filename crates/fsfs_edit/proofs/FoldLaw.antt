-- What the lasting items say alone, each of its own path, is what the items come to.
use Rattle.std.proofs.Common.{◌≡◌, Bool, true, false, cond, ◌&&◌, ◌||◌, not, List, [], ◌∷◌, Option, None, refl, sym, ap, subst, ◌∙◌, inl, inr}
use Rattle.std.proofs.lemmas.Bool.{both_ways, cases_Bool, false_from_ne_true}
use Rattle.std.specs.List.{AllByRecursion}
use Rattle.fsfs_base.specs.Paths.{Path, same_path, covers, is_above, names_text}
use Rattle.fsfs_base.proofs.PathLemmas.{same_path-is, same_path-refl, covers-refl, covers-antisym}
use Rattle.fsfs_noderev.specs.declared.changes.item.ChangeItem.{ChangeItem}
use Rattle.fsfs_edit.specs.Folds.FoldedItems.{FoldedItem, joined, fold_item, fold_items_from}
use Rattle.fsfs_edit.specs.Folds.Lasting.{is_deleted_above, lasting, say_all_by_key}
use Rattle.fsfs_edit.proofs.KeyTexts.{IsWhole, same_key}
use Rattle.fsfs_model.specs.Flat.Folding.{deletes}

-- what is said of a path by items of it, whatever is deleted above
abbrev pub say_at : Path → Option FoldedItem → ChangeItem → Option FoldedItem
say_at q o item = cond (same_path item.path q) (joined o item) o

abbrev pub say_all_at : Path → Option FoldedItem → List ChangeItem → Option FoldedItem
say_all_at q o [] = o
say_all_at q o (item ∷ items) = say_all_at q (say_at q o item) items

-- ---- one item

and_false : (a : Bool) → (a && false) ≡ false
and_false true = refl
and_false false = refl

above_itself : (q : Path) → is_above q q ≡ false
above_itself q = λ i. covers-refl q i && not (covers-refl q i)

and_not : (c d : Bool) → (c ≡ true → d ≡ false) → (c && not d) ≡ c
and_not true d h = ap not (h refl)
and_not false d h = refl

cond_twice : (a d : Bool) (o : Option FoldedItem) → cond a None (cond d None o) ≡ cond (d || a) None o
cond_twice true true o = refl
cond_twice true false o = refl
cond_twice false true o = refl
cond_twice false false o = refl

none_either : (b : Bool) (o : Option FoldedItem) → o ≡ None → cond b None o ≡ None
none_either true o none = refl
none_either false o none = none

-- an item of the path
here_by : (q : Path) (o : Option FoldedItem) (m : ChangeItem) (items : List ChangeItem) → same_path m.path q ≡ true → (a : Bool)
    → say_all_at q (cond a None (joined o m)) items ≡ say_all_at q (cond a None o) (cond a items (m ∷ items))
here_by q o m items e true = refl
here_by q o m items e false = ap (λ (b : Bool). say_all_at q (cond b (joined o m) o) items) (sym e)

step_here : (q : Path) (o : Option FoldedItem) (m : ChangeItem) (ms : List ChangeItem) → same_path m.path q ≡ true
    → say_all_at q (cond (is_deleted_above q ms) None (fold_item q o m)) (lasting ms) ≡ say_all_at q (cond (is_deleted_above q (m ∷ ms)) None o) (lasting (m ∷ ms))
step_here q o m ms e =
    let same : m.path ≡ q = same_path-is m.path q e in
    let dead : (deletes m.action && is_above m.path q) ≡ false =
    ap (λ (r : Path). deletes m.action && is_above r q) same ∙ ap (λ (b : Bool). deletes m.action && b) (above_itself q) ∙ and_false (deletes m.action) in
    let later : is_deleted_above m.path ms ≡ is_deleted_above q ms = ap (λ (r : Path). is_deleted_above r ms) same in
    ap (λ (b : Bool). say_all_at q (cond (is_deleted_above q ms) None (cond b (joined o m) (cond (deletes m.action && covers m.path q) None o))) (lasting ms)) e
    ∙ here_by q o m (lasting ms) e (is_deleted_above q ms)
    ∙ sym (λ i. say_all_at q (cond (dead i || is_deleted_above q ms) None o) (cond (later i) (lasting ms) (m ∷ lasting ms)))

-- an item of another path
skipped : (q : Path) (o : Option FoldedItem) (m : ChangeItem) (items : List ChangeItem) → same_path m.path q ≡ false → (a : Bool) → say_all_at q o (cond a items (m ∷ items)) ≡ say_all_at q o items
skipped q o m items n true = refl
skipped q o m items n false = ap (λ (b : Bool). say_all_at q (cond b (joined o m) o) items) n

not_below : (q : Path) (m : ChangeItem) → same_path m.path q ≡ false → covers m.path q ≡ true → covers q m.path ≡ false
not_below q m n c = false_from_ne_true _ (λ h. both_ways _ n (subst (λ (r : Path). same_path m.path r ≡ true) (covers-antisym m.path q c h) (same_path-refl m.path)))

step_apart : (q : Path) (o : Option FoldedItem) (m : ChangeItem) (ms : List ChangeItem) → same_path m.path q ≡ false
    → say_all_at q (cond (is_deleted_above q ms) None (fold_item q o m)) (lasting ms) ≡ say_all_at q (cond (is_deleted_above q (m ∷ ms)) None o) (lasting (m ∷ ms))
step_apart q o m ms n =
    let above : is_above m.path q ≡ covers m.path q = and_not (covers m.path q) (covers q m.path) (not_below q m n) in
    ap (λ (b : Bool). say_all_at q (cond (is_deleted_above q ms) None (cond b (joined o m) (cond (deletes m.action && covers m.path q) None o))) (lasting ms)) n
    ∙ ap (λ (b : Bool). say_all_at q (cond (is_deleted_above q ms) None (cond (deletes m.action && b) None o)) (lasting ms)) (sym above)
    ∙ ap (λ (p : Option FoldedItem). say_all_at q p (lasting ms)) (cond_twice (is_deleted_above q ms) (deletes m.action && is_above m.path q) o)
    ∙ sym (skipped q (cond (is_deleted_above q (m ∷ ms)) None o) m (lasting ms) n (is_deleted_above m.path ms))

-- ---- all items

kept : (q : Path) (o : Option FoldedItem) (ms : List ChangeItem) → fold_items_from q o ms ≡ say_all_at q (cond (is_deleted_above q ms) None o) (lasting ms)
kept q o [] = refl
kept q o (m ∷ ms) = kept q (fold_item q o m) ms ∙ elim (cases_Bool (same_path m.path q)) [ inl e ↦ step_here q o m ms e | inr n ↦ step_apart q o m ms n ]

folded : (q : Path) (ms : List ChangeItem) → fold_items_from q None ms ≡ say_all_at q None (lasting ms)
folded q ms = kept q None ms ∙ ap (λ (o : Option FoldedItem). say_all_at q o (lasting ms)) (none_either (is_deleted_above q ms) None refl)

pub lasting_all : (P : ChangeItem → Type 0) (ms : List ChangeItem) → AllByRecursion P ms → AllByRecursion P (lasting ms)
lasting_all P [] all = tt
lasting_all P (m ∷ ms) all = by (is_deleted_above m.path ms) (lasting_all P ms all.1)
  where
    by : (b : Bool) → AllByRecursion P (lasting ms) → AllByRecursion P (cond b (lasting ms) (m ∷ lasting ms))
    by true rest = rest
    by false rest = (all.0, rest)

-- ---- by keys

abbrev pub AreWhole : List ChangeItem → Type 0
AreWhole = AllByRecursion (λ m. IsWhole m.path)

by_key : (q : Path) (o : Option FoldedItem) (ms : List ChangeItem) → IsWhole q → AreWhole ms → say_all_by_key (names_text q) o ms ≡ say_all_at q o ms
by_key q o [] w all = refl
by_key q o (m ∷ ms) w all =
    ap (λ (b : Bool). say_all_by_key (names_text q) (cond b (joined o m) o) ms) (same_key m.path q all.0 w)
    ∙ by_key q (say_at q o m) ms w all.1

pub folded_by_key : (q : Path) (ms : List ChangeItem) → IsWhole q → AreWhole ms → fold_items_from q None ms ≡ say_all_by_key (names_text q) None (lasting ms)
folded_by_key q ms w all = folded q ms ∙ sym (by_key q None (lasting ms) w (lasting_all (λ m. IsWhole m.path) ms all))

-- nothing is said of a path that no item can have
none_said : (q : Path) (ms : List ChangeItem) → (IsWhole q → ⊥) → AreWhole ms → say_all_at q None ms ≡ None
none_said q [] never all = refl
none_said q (m ∷ ms) never all =
    ap (λ (b : Bool). say_all_at q (cond b (joined None m) None) ms) (false_from_ne_true (same_path m.path q) (λ e. never (subst IsWhole (same_path-is m.path q e) all.0)))
    ∙ none_said q ms never all.1

pub folded_none : (q : Path) (ms : List ChangeItem) → (IsWhole q → ⊥) → AreWhole ms → fold_items_from q None ms ≡ None
folded_none q ms never all = folded q ms ∙ none_said q (lasting ms) never (lasting_all (λ m. IsWhole m.path) ms all)
