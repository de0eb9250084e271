-- The entries of a merged directory, by their names.
use Rattle.std.proofs.Common.{◌≡◌, ◌∙◌, Bool, true, false, cond, List, [], ◌∷◌, ◌++◌, refl, sym, ap, Option, Some, None, inl, inr, append_assoc, append-nil}
use Rattle.std.specs.Prelude.{option_map, if◌then◌else◌, not}
use Rattle.std.specs.Map.{lookup}
use Rattle.std.specs.BTreeMap.{is_at}
use Rattle.std.specs.Ordering.{nat_cmp}
use Rattle.std.specs.Cmp.Lexicographic.{slice_cmp, texts_ties}
use Rattle.std.specs.String.{string_bytes}
use Rattle.std.specs.declared.string.String.{String}
use Rattle.std.specs.declared.alloc.Global.{Global}
use Rattle.std.proofs.lemmas.Bool.{cases_Bool}
use Rattle.fsfs_base.specs.Paths.{PathName, same_name}
use Rattle.fsfs_base.proofs.PathLemmas.{same_name-is, same_name-refl, same_name-symm}
use Rattle.fsfs_revision.specs.Shows.Reading.{DirEntry, named}
use Rattle.fsfs_dag.specs.declared.directory.DirEntry.{DirEntry as PlacedEntry}
use Rattle.fsfs_dag.specs.Views.{entry_value, entry_values}
use Rattle.fsfs_merge.specs.declared.clash.three.Side.{Side}
use Rattle.fsfs_merge.specs.declared.clash.three.Side.TheVariants.{Head, Own}
use Rattle.fsfs_merge.specs.declared.clash.three.Target.{Target}
use Rattle.fsfs_merge.specs.declared.clash.three.Three.{Three}
use Rattle.fsfs_merge.specs.declared.clash.entries.Sides.{Sides}
use Rattle.fsfs_merge.specs.Clash.Lists.{target_in, target_named, three_in}
use Rattle.fsfs_merge.specs.Clash.Merging.{target_entry, if_merged, merged_of}
use Rattle.fsfs_merge.specs.Clash.Threes.{entry_target, is_taken, takes_head, merged_target}
use Rattle.fsfs_merge.proofs.ListLemmas.{Named}

-- ---- of two lists the first that has the name

abbrev first_of : Option Target → Option Target → Option Target
first_of None o = o
first_of (Some t) o = Some t

named_both : (xs ys : List DirEntry) (name : PathName) → target_named (xs ++ ys) name ≡ first_of (target_named xs name) (target_named ys name)
named_both [] ys name = refl
named_both (e ∷ xs) ys name = by (same_name e.name name) (named_both xs ys name)
  where
    by : (b : Bool) → target_named (xs ++ ys) name ≡ first_of (target_named xs name) (target_named ys name)
        → option_map entry_target (if b then Some e else named name (xs ++ ys)) ≡ first_of (option_map entry_target (if b then Some e else named name xs)) (target_named ys name)
    by true h = refl
    by false h = h

-- ---- one side

-- what a side has of a name, as it stands in its map
abbrev at_name : PathName → List Named → Option Target
at_name name es = lookup (is_at (λ (k : String Global). slice_cmp nat_cmp name (string_bytes k))) es

-- it is put, or not
abbrev if_taken : Side → Three → Option Target → Option Target
if_taken side three o = if is_taken side three then o else None

if_none : (b : Bool) → (if b then (let o : Option Target = None in o) else None) ≡ None
if_none true = refl
if_none false = refl

put_here : (side : Side) (sides : Sides) (name : PathName) (t : Target) → target_named (if_merged side name t (three_in sides name)) name ≡ if_taken side (three_in sides name) (Some t)
put_here side sides name t = by (is_taken side (three_in sides name))
  where
    by : (b : Bool) → target_named (if b then target_entry name t ∷ [] else []) name ≡ (if b then Some t else None)
    by true = ap (λ (b : Bool). option_map entry_target (if b then Some (target_entry name t) else None)) (same_name-refl name)
    by false = refl

put_other : (b : Bool) (x name : PathName) (t : Target) → same_name x name ≡ false → target_named (if b then target_entry x t ∷ [] else []) name ≡ None
put_other true x name t other = ap (λ (c : Bool). option_map entry_target (if c then Some (target_entry x t) else None)) other
put_other false x name t other = refl

taken_first : (b : Bool) (t : Target) (o : Option Target) → (b ≡ false → o ≡ None) → first_of (if b then Some t else None) o ≡ (if b then Some t else None)
taken_first true t o h = refl
taken_first false t o h = h refl

not_taken : (side : Side) (sides : Sides) (es : List Named) (name : PathName) → is_taken side (three_in sides name) ≡ false → target_named (merged_of side sides es) name ≡ None
not_taken side sides [] name out = refl
not_taken side sides (e ∷ es) name out =
    named_both (if_merged side (string_bytes e.0) e.1 (three_in sides (string_bytes e.0))) (merged_of side sides es) name ∙ elim (cases_Bool (same_name (string_bytes e.0) name)) [
      | inl here ↦
          let same = same_name-is (string_bytes e.0) name here in
          let none : is_taken side (three_in sides (string_bytes e.0)) ≡ false = ap (λ (n : PathName). is_taken side (three_in sides n)) same ∙ out in
          (λ i. first_of (target_named (if none i then target_entry (string_bytes e.0) e.1 ∷ [] else []) name) (target_named (merged_of side sides es) name)) ∙ not_taken side sides es name out
      | inr other ↦
          ap (λ (o : Option Target). first_of o (target_named (merged_of side sides es) name)) (put_other (is_taken side (three_in sides (string_bytes e.0))) (string_bytes e.0) name e.1 other) ∙ not_taken side sides es name out
    ]

of_side : (side : Side) (sides : Sides) (es : List Named) (name : PathName) → target_named (merged_of side sides es) name ≡ if_taken side (three_in sides name) (at_name name es)
of_side side sides [] name = sym (if_none (is_taken side (three_in sides name)))
of_side side sides (e ∷ es) name =
    let bytes = string_bytes e.0 in
    let at = is_at (λ (k : String Global). slice_cmp nat_cmp name (string_bytes k)) e.0 in
    let is : at ≡ same_name name bytes = sym (texts_ties name bytes) in
    named_both (if_merged side bytes e.1 (three_in sides bytes)) (merged_of side sides es) name ∙ elim (cases_Bool (same_name bytes name)) [
      | inl here ↦
          let same : bytes ≡ name = same_name-is bytes name here in
          let found : at ≡ true = is ∙ same_name-symm name bytes ∙ here in
          (λ i. first_of (target_named (if_merged side (same i) e.1 (three_in sides (same i))) name) (target_named (merged_of side sides es) name))
          ∙ ap (λ (o : Option Target). first_of o (target_named (merged_of side sides es) name)) (put_here side sides name e.1)
          ∙ taken_first (is_taken side (three_in sides name)) e.1 (target_named (merged_of side sides es) name) (λ out. not_taken side sides es name out)
          ∙ ap (λ (b : Bool). if_taken side (three_in sides name) (cond b (Some e.1) (at_name name es))) (sym found)
      | inr other ↦
          let apart : at ≡ false = is ∙ same_name-symm name bytes ∙ other in
          ap (λ (o : Option Target). first_of o (target_named (merged_of side sides es) name)) (put_other (is_taken side (three_in sides bytes)) bytes name e.1 other) ∙ of_side side sides es name
          ∙ ap (λ (b : Bool). if_taken side (three_in sides name) (cond b (Some e.1) (at_name name es))) (sym apart)
    ]

-- ---- both

both_sides : (b : Bool) (head own : Option Target) → first_of (if not b then own else None) (if b then head else None) ≡ (if b then head else own)
both_sides true head own = refl
both_sides false head None = refl
both_sides false head (Some t) = refl

pub merged_named : (sides : Sides) (all : List DirEntry) (name : PathName) → all ≡ merged_of Own sides sides.own.targets.entries ++ merged_of Head sides sides.head.targets.entries → target_named all name ≡ merged_target (three_in sides name)
merged_named sides all name e =
    let xs = merged_of Own sides sides.own.targets.entries in
    let ys = merged_of Head sides sides.head.targets.entries in
    ap (λ (es : List DirEntry). target_named es name) e ∙ named_both xs ys name ∙ (λ i. first_of (of_side Own sides sides.own.targets.entries name i) (of_side Head sides sides.head.targets.entries name i))
    ∙ both_sides (takes_head (three_in sides name)) (target_in sides.head name) (target_in sides.own name)

-- ---- what is put, one after another

pub values_push : (all : List PlacedEntry) (e : PlacedEntry) → entry_values (all ++ e ∷ []) ≡ entry_values all ++ entry_value e ∷ []
values_push [] e = refl
values_push (x ∷ all) e = ap (λ (t : List DirEntry). entry_value x ∷ t) (values_push all e)

pub none_taken : (side : Side) (all : List DirEntry) (name : PathName) (t : Target) (three : Three) → is_taken side three ≡ false → all ≡ all ++ if_merged side name t three
none_taken side all name t three h = sym (append-nil all) ∙ ap (λ (b : Bool). all ++ (if b then target_entry name t ∷ [] else [])) (sym h)

pub one_taken : (side : Side) (all : List DirEntry) (name : PathName) (t : Target) (three : Three) → is_taken side three ≡ true → all ++ target_entry name t ∷ [] ≡ all ++ if_merged side name t three
one_taken side all name t three h = ap (λ (b : Bool). all ++ (if b then target_entry name t ∷ [] else [])) (sym h)

merged_append : (side : Side) (sides : Sides) (xs ys : List Named) → merged_of side sides (xs ++ ys) ≡ merged_of side sides xs ++ merged_of side sides ys
merged_append side sides [] ys = refl
merged_append side sides (x ∷ xs) ys =
    ap (λ (t : List DirEntry). if_merged side (string_bytes x.0) x.1 (three_in sides (string_bytes x.0)) ++ t) (merged_append side sides xs ys)
    ∙ sym (append_assoc (if_merged side (string_bytes x.0) x.1 (three_in sides (string_bytes x.0))) (merged_of side sides xs) (merged_of side sides ys))

pub merged_push : (side : Side) (sides : Sides) (done : List Named) (e : Named) → merged_of side sides (done ++ e ∷ []) ≡ merged_of side sides done ++ if_merged side (string_bytes e.0) e.1 (three_in sides (string_bytes e.0))
merged_push side sides done e =
    merged_append side sides done (e ∷ []) ∙ ap (λ (t : List DirEntry). merged_of side sides done ++ t) (append-nil (if_merged side (string_bytes e.0) e.1 (three_in sides (string_bytes e.0))))
