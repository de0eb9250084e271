-- Items whose paths rise by their texts have each path once.
use Rattle.std.proofs.Common.{◌≡◌, ℕ, Bool, true, false, List, [], ◌∷◌, ◌++◌, refl, sym, ap, subst, ◌∙◌}
use Rattle.std.specs.List.{AllByRecursion}
use Rattle.std.specs.declared.cmp.Ordering.{Ordering}
use Rattle.std.specs.declared.cmp.Ordering.TheVariants.{Less, Equal, Greater}
use Rattle.std.specs.Ordering.{nat_cmp, is_gt, ordering_reverse}
use Rattle.std.specs.Cmp.{tied_itself}
use Rattle.std.specs.Cmp.Lexicographic.{slice_cmp, nat_list_cmp_total}
use Rattle.std.proofs.lemmas.Bool.{true≢false}
use Rattle.fsfs_base.specs.Paths.{path_text}
use Rattle.fsfs_noderev.specs.Changes.Texts.{HasNewPath}
use Rattle.fsfs_noderev.specs.declared.changes.item.ChangeItem.{ChangeItem}

abbrev text_cmp : List ℕ → List ℕ → Ordering
text_cmp = slice_cmp nat_cmp

-- no path's text is above the last
abbrev pub AreUpTo : List ℕ → List ChangeItem → Type 0
AreUpTo last = AllByRecursion (λ e. is_gt (text_cmp (path_text e.path) last) ≡ false)

turned : (a b : List ℕ) → text_cmp a b ≡ Less → is_gt (text_cmp b a) ≡ true
turned a b less = ap is_gt (nat_list_cmp_total.antisymm b a ∙ ap ordering_reverse less)

-- what is above the last is new
pub rising_new : (items : List ChangeItem) (item : ChangeItem) (key last : List ℕ) → path_text item.path ≡ key → AreUpTo last items → text_cmp last key ≡ Less → HasNewPath items item
rising_new [] item key last e all less = tt
rising_new (x ∷ xs) item key last e all less =
    ((λ same. true≢false (sym (turned last key less) ∙ ap (λ (t : List ℕ). is_gt (text_cmp t last)) (sym e ∙ ap path_text (sym same)) ∙ all.0)), rising_new xs item key last e all.1 less)

below : (x last key : List ℕ) (o : Ordering) → text_cmp x last ≡ o → is_gt o ≡ false → text_cmp last key ≡ Less → is_gt (text_cmp x key) ≡ false
below x last key Less e h less = ap is_gt (nat_list_cmp_total.trans x last key e less)
below x last key Equal e h less = ap is_gt (nat_list_cmp_total.congr x last key e ∙ less)
below x last key Greater e h less = absurd (true≢false h)

-- and is the last then
pub rising_more : (items : List ChangeItem) (item : ChangeItem) (key last : List ℕ) → path_text item.path ≡ key → AreUpTo last items → text_cmp last key ≡ Less → AreUpTo key (items ++ item ∷ [])
rising_more [] item key last e all less = (ap (λ (t : List ℕ). is_gt (text_cmp t key)) e ∙ ap is_gt (tied_itself nat_list_cmp_total key), tt)
rising_more (x ∷ xs) item key last e all less = (below (path_text x.path) last key (text_cmp (path_text x.path) last) refl all.0 less, rising_more xs item key last e all.1 less)
