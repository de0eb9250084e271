-- The first stop of the walk, directory by directory: what each step of the code says, and what comes of it.
use Rattle.std.specs.Prelude.{◌≡◌, ◌++◌, true, false, List, [], ◌∷◌, Option, Some, None}
use Rattle.std.specs.List.{list_any}
use Rattle.std.specs.declared.cmp.Ordering.TheVariants.{Less}
use Rattle.fsfs_base.specs.Paths.{PathName, Path, name_cmp, path_cmp, same_name}
use Rattle.fsfs_model.specs.Flat.Landing.{reached}
use Rattle.fsfs_merge.specs.Walks.{Sight, merges, is_stopped, down, clashes_by_ids}

-- no path at or below p stops the walk
abbrev pub NoStop : (Path → Sight) → Path → Type 0
NoStop see p = (q : Path) → clashes_by_ids see (p ++ q) ≡ false

-- c is the least path at or below p that stops it
pub record FirstStop (see : Path → Sight) (p c : Path) : Type 0 where
  pub rest : Path
  pub below : c ≡ p ++ rest
  pub stops : clashes_by_ids see c ≡ true
  pub least : (q : Path) → path_cmp (p ++ q) c ≡ Less → clashes_by_ids see (p ++ q) ≡ false

-- each name is before all that follow
abbrev pub Rise : List PathName → Type 0
Rise [] = Unit {0}
Rise (x ∷ xs) = ((y : PathName) → list_any (same_name y) xs ≡ true → name_cmp x y ≡ Less) × Rise xs

-- the entries of these names, one after another: nothing stops the walk; or the first stop is found at or below one, and no further is looked at
pub data Entries (see : Path → Sight) (p : Path) : List PathName → Option Path → Type 0 where
  End : Entries see p [] None
  Clear : (x : PathName) (xs : List PathName) (r : Option Path) → NoStop see (p ++ x ∷ []) → Entries see p xs r → Entries see p (x ∷ xs) r
  Found : (x : PathName) (xs : List PathName) (c : Path) → FirstStop see (p ++ x ∷ []) c → Entries see p (x ∷ xs) (Some c)

-- the names are those of the three directories
abbrev pub AreAllNames : (Path → Sight) → Path → List PathName → Type 0
AreAllNames see p names = (y : PathName) → list_any (same_name y) names ≡ false → (merges (see (p ++ y ∷ [])) ≡ false) × (is_stopped (see (p ++ y ∷ [])) ≡ false)

pub record WalksFindTheFirst : Type 0 where
  -- an entry that is not merged
  pub left : (see : Path → Sight) (p : Path) → merges (see p) ≡ false → is_stopped (see p) ≡ false → NoStop see p
  pub clash : (see : Path → Sight) (p : Path) → reached (down see) p ≡ true → is_stopped (see p) ≡ true → FirstStop see p p
  -- a directory that is merged
  pub clear : (see : Path → Sight) (p : Path) (names : List PathName) → is_stopped (see p) ≡ false → AreAllNames see p names → Entries see p names None → NoStop see p
  pub first : (see : Path → Sight) (p : Path) (names : List PathName) (c : Path) → is_stopped (see p) ≡ false → Rise names → AreAllNames see p names → Entries see p names (Some c) → FirstStop see p c
