-- A list of entries in byte order of their names, in two halves.
use Rattle.std.proofs.Common.{◌≡◌, ◌≤◌, ℕ, true, List, [], ◌∷◌, ◌++◌, take, drop, length, get_or, sym, ap, subst, ◌∙◌, arith}
use Rattle.std.specs.String.{string_bytes}
use Rattle.fsfs_base.specs.Paths.{PathName}
use Rattle.fsfs_revision.specs.Shows.Reading.{DirEntry}
use Rattle.fsfs_dag.specs.declared.directory.DirEntry.{DirEntry as Listed}
use Rattle.fsfs_dag.specs.declared.listing.tree.Tree.{Tree}
use Rattle.fsfs_dag.specs.Views.{entry_value, entry_values}
use Rattle.fsfs_dag.specs.Listing.Lists.{all_names, is_below, is_from, NamesRise}
use Rattle.fsfs_dag.specs.Listing.Trees.{values, sorted_sides, IsTreeOf}
use Rattle.fsfs_dag.proofs.Branches.{over_sides}
use Rattle.fsfs_dag.proofs.NameOrder.{rise_low, rise_high, rise_below, rise_from}
use Rattle.fsfs_dag.proofs.Values.{values_parts}

-- both rise
pub low_rises : (i : ℕ) (es half : List Listed) → half ≡ take i es → NamesRise (entry_values es) → NamesRise (entry_values half)
low_rises i es half is rise =
    subst (λ (l : List Listed). NamesRise (entry_values l)) (sym is)
    (rise_low (entry_values (take i es)) (entry_values (drop i es)) (subst (λ (l : List DirEntry). NamesRise l) (sym (values_parts i es)) rise))

pub high_rises : (i : ℕ) (es half : List Listed) → half ≡ drop i es → NamesRise (entry_values es) → NamesRise (entry_values half)
high_rises i es half is rise =
    subst (λ (l : List Listed). NamesRise (entry_values l)) (sym is)
    (rise_high (entry_values (take i es)) (entry_values (drop i es)) (subst (λ (l : List DirEntry). NamesRise l) (sym (values_parts i es)) rise))

head_of : (es : List Listed) (e : Listed) → 1 ≤ length es → e ≡ get_or es 0 e → es ≡ e ∷ drop 1 es
head_of [] e some is = absurd (omega (arith, some))
head_of (x ∷ es) e some is = ap (λ (y : Listed). y ∷ es) (sym is)

sides_at : (lows rest : List DirEntry) (e : DirEntry) → NamesRise (lows ++ e ∷ rest) → (all_names (is_below e.name) lows ≡ true) × (all_names (is_from e.name) (e ∷ rest) ≡ true)
sides_at lows rest e rise = (rise_below lows e rest rise, rise_from e rest (rise_high lows (e ∷ rest) rise))

-- and trees of them are the sides of a branch, by the first name of the second
pub halves : (i : ℕ) (es lows highs : List Listed) (e : Listed) (middle : PathName) (low high : Tree) → lows ≡ take i es → highs ≡ drop i es → NamesRise (entry_values es) → 1 ≤ length highs → e ≡ get_or highs 0 e → middle ≡ string_bytes e.name
    → IsTreeOf (entry_values lows) low → IsTreeOf (entry_values highs) high → (sorted_sides middle low high ≡ true) × (values low ++ values high ≡ entry_values es)
halves i es lows highs e middle low high lows_are highs_are rise some head name l h =
    let parts : entry_values lows ++ entry_values highs ≡ entry_values es = (λ j. entry_values (lows_are j) ++ entry_values (highs_are j)) ∙ values_parts i es in
    let split : entry_values highs ≡ entry_value e ∷ entry_values (drop 1 highs) = ap (λ (l : List Listed). entry_values l) (head_of highs e some head) in
    let sides = sides_at (entry_values lows) (entry_values (drop 1 highs)) (entry_value e) (subst (λ (l : List DirEntry). NamesRise (entry_values lows ++ l)) split (subst (λ (l : List DirEntry). NamesRise l) (sym parts) rise)) in
    subst (λ (m : PathName). (sorted_sides m low high ≡ true) × (values low ++ values high ≡ entry_values es)) (sym name)
    (over_sides (string_bytes e.name) (entry_values es) (entry_values lows) (entry_values highs) low high parts sides.0 (ap (λ (l : List DirEntry). all_names (is_from (string_bytes e.name)) l) split ∙ sides.1) l h)
