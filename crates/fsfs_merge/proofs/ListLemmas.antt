-- Entries by their names, one more at the front; and the names of a directory, one more at the end.
use Rattle.std.proofs.Common.{◌≡◌, ◌∙◌, Bool, true, false, cond, List, [], ◌∷◌, ◌++◌, refl, sym, ap, Option, Some, None, append_assoc, append-nil}
use Rattle.std.specs.Prelude.{option_map, if◌then◌else◌}
use Rattle.std.specs.BTreeMap.{BTreeMap, IsEmpty, is_at, get_by_text}
use Rattle.std.specs.Map.{lookup}
use Rattle.std.specs.Ordering.{nat_cmp}
use Rattle.std.specs.Cmp.Lexicographic.{slice_cmp}
use Rattle.std.specs.String.{string_bytes}
use Rattle.std.specs.declared.string.String.{String}
use Rattle.std.specs.declared.alloc.Global.{Global}
use Rattle.fsfs_base.specs.Paths.{PathName, Path, same_name}
use Rattle.fsfs_revision.specs.Shows.Reading.{named}
use Rattle.fsfs_revision.specs.declared.damage.RevOffset.{RevOffset}
use Rattle.fsfs_dag.specs.declared.directory.DirEntry.{DirEntry as PlacedEntry}
use Rattle.fsfs_dag.specs.Views.{entry_value, entry_values, AreBefore}
use Rattle.fsfs_revision.specs.Nodes.{place_before}
use Rattle.fsfs_merge.specs.declared.clash.three.Target.{Target}
use Rattle.fsfs_merge.specs.declared.clash.three.Three.{Three}
use Rattle.fsfs_merge.specs.declared.clash.three.Which.{Which}
use Rattle.fsfs_merge.specs.declared.clash.entries.Sides.{Sides}
use Rattle.fsfs_merge.specs.declared.clash.walk.Pending.{Pending}
use Rattle.fsfs_merge.specs.Clash.Lists.{three_in}
use Rattle.fsfs_merge.specs.Clash.Threes.{entry_target, is_of}
use Rattle.fsfs_merge.specs.Clash.Walks.{pending, if_changed, changed}

abbrev pub Named : Type 0
Named = String Global × Target

abbrev pub name_of : Named → PathName
name_of p = string_bytes p.0

-- what is put last counts first
pub put_front : (name : PathName) (e : PlacedEntry) (done : List PlacedEntry) (o : Option Target) → o ≡ option_map entry_target (named name (entry_values done))
    → cond (same_name (entry_value e).name name) (Some (entry_target (entry_value e))) o ≡ option_map entry_target (named name (entry_values (e ∷ done)))
put_front name e done o h = by (same_name (entry_value e).name name)
  where
    by : (b : Bool) → cond b (Some (entry_target (entry_value e))) o ≡ option_map entry_target (if b then Some (entry_value e) else named name (entry_values done))
    by true = refl
    by false = h

-- a map without entries has nothing
pub empty_map : {Y X : Type 0} (m : BTreeMap (String Y) X) (name : PathName) → IsEmpty m → get_by_text m name ≡ None
empty_map m name e = ap (λ es. lookup (is_at (λ k. slice_cmp nat_cmp name (string_bytes k))) es) e

-- when none is left all were put
pub whole_list : (name : PathName) (all left done : List PlacedEntry) → all ≡ left ++ done → left ≡ [] → option_map entry_target (named name (entry_values done)) ≡ option_map entry_target (named name (entry_values all))
whole_list name all left done e none = ap (λ (es : List PlacedEntry). option_map entry_target (named name (entry_values es))) (sym (e ∙ ap (λ (l : List PlacedEntry). l ++ done) none))

-- what an entry names stands before the directory
pub named_before : (home : RevOffset) (name : PathName) (entries : List PlacedEntry) (t : Target) → AreBefore home entries → option_map entry_target (named name (entry_values entries)) ≡ Some t → place_before home t.id.place ≡ true
named_before home name [] t all h = absurd (let g : None ≡ Some t = h in cc)
named_before home name (e ∷ entries) t all h = by (same_name (entry_value e).name name) h (λ k. named_before home name entries t all.1 k)
  where
    by : (b : Bool) → option_map entry_target (if b then Some (entry_value e) else named name (entry_values entries)) ≡ Some t → (option_map entry_target (named name (entry_values entries)) ≡ Some t → place_before home t.id.place ≡ true) → place_before home t.id.place ≡ true
    by true k further = let same : entry_target (entry_value e) ≡ t = (let g = k in cc) in ap (λ (z : Target). place_before home z.id.place) (sym same) ∙ all.0
    by false k further = further k

-- what is put behind a name
pub none_more : (which : Which) (todo : List Pending) (path : Path) (three : Three) → is_of which three ≡ false → todo ≡ todo ++ if_changed which path three
none_more which todo path three h = sym (append-nil todo) ∙ ap (λ (b : Bool). todo ++ (if b then pending path three ∷ [] else [])) (sym h)

pub one_more : (which : Which) (todo : List Pending) (path : Path) (three : Three) → is_of which three ≡ true → todo ++ pending path three ∷ [] ≡ todo ++ if_changed which path three
one_more which todo path three h = ap (λ (b : Bool). todo ++ (if b then pending path three ∷ [] else [])) (sym h)

-- one name more
pub changed_append : (which : Which) (path : Path) (sides : Sides) (xs ys : List PathName) → changed which path sides (xs ++ ys) ≡ changed which path sides xs ++ changed which path sides ys
changed_append which path sides [] ys = refl
changed_append which path sides (x ∷ xs) ys =
    ap (λ (t : List Pending). if_changed which (path ++ x ∷ []) (three_in sides x) ++ t) (changed_append which path sides xs ys)
    ∙ sym (append_assoc (if_changed which (path ++ x ∷ []) (three_in sides x)) (changed which path sides xs) (changed which path sides ys))

pub changed_push : (which : Which) (path : Path) (sides : Sides) (done : List PathName) (name : PathName) → changed which path sides (done ++ name ∷ []) ≡ changed which path sides done ++ if_changed which (path ++ name ∷ []) (three_in sides name)
changed_push which path sides done name =
    changed_append which path sides done (name ∷ []) ∙ ap (λ (t : List Pending). changed which path sides done ++ t) (append-nil (if_changed which (path ++ name ∷ []) (three_in sides name)))
