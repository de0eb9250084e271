-- Paths as lists of names, and a name as its bytes.
use Rattle.std.specs.Prelude.{◌≡◌, Option, Some, ℕ, Bool, true, false, ◌&&◌, not, List, [], ◌∷◌, ◌++◌, nat_eq}
use Rattle.std.specs.Ordering.{nat_cmp}
use Rattle.std.specs.declared.cmp.Ordering.{Ordering}
use Rattle.std.specs.Cmp.Lexicographic.{slice_cmp, pointwise, lists_total, lists_ties, texts_ties, nat_list_cmp_total}
use Rattle.std.specs.Cmp.{IsPartialOrder, IsTotalOrder, po}
use Rattle.std.specs.Ordering.{is_eq}

-- the bytes of a name
abbrev pub PathName : Type 0
PathName = List ℕ

-- `/` is the empty list
abbrev pub Path : Type 0
Path = List PathName

-- each name with a `/` before it
abbrev pub names_text : Path → List ℕ
names_text [] = []
names_text (x ∷ p) = 47 ∷ x ++ names_text p

-- a path as it is written: `/`, or each name with a `/` before it
abbrev pub path_text : Path → List ℕ
path_text [] = 47 ∷ []
path_text (x ∷ p) = names_text (x ∷ p)

-- names by their bytes
abbrev pub name_cmp : PathName → PathName → Ordering
name_cmp = slice_cmp nat_cmp

-- paths as lists, a prefix first
abbrev pub path_cmp : Path → Path → Ordering
path_cmp = slice_cmp name_cmp

abbrev pub same_name : PathName → PathName → Bool
same_name = pointwise nat_eq

abbrev pub is_root : Path → Bool
is_root [] = true
is_root (x ∷ p) = false

-- q is at or above p
abbrev pub covers : Path → Path → Bool
covers [] p = true
covers (x ∷ q) [] = false
covers (x ∷ q) (y ∷ p) = same_name x y && covers q p

-- q is above p, and not at it
abbrev pub is_above : Path → Path → Bool
is_above q p = covers q p && not (covers p q)

abbrev pub same_path : Path → Path → Bool
same_path = pointwise same_name

abbrev pub path_partial_cmp : Path → Path → Option Ordering
path_partial_cmp x y = Some (path_cmp x y)

pub path_cmp_total : IsTotalOrder path_cmp
path_cmp_total = lists_total nat_list_cmp_total

pub paths_tie : (x y : Path) → same_path x y ≡ is_eq (path_cmp x y)
paths_tie x y = lists_ties name_cmp texts_ties x y

pub path_po : IsPartialOrder same_path path_partial_cmp
path_po = po path_cmp_total paths_tie
