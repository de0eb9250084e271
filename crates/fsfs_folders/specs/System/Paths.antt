-- Paths below one folder: `/` between names. The empty path is the folder itself, `..` the one that it stands in.
use Rattle.std.specs.Prelude.{ℕ, List, [], ◌∷◌, ◌++◌, Bool, false, ◌==◌, ◌||◌, ◌&&◌, if◌then◌else◌, codes}
use Rattle.fsfs_base.specs.Files.{same_text}

abbrev pub has_path : List (List ℕ) → List ℕ → Bool
has_path [] p = false
has_path (q ∷ qs) p = same_text p q || has_path qs p

abbrev pub has_slash : List ℕ → Bool
has_slash [] = false
has_slash (c ∷ cs) = (c == 47) || has_slash cs

-- what stands before the last slash; nothing where there is none
abbrev pub before_slash : List ℕ → List ℕ
before_slash [] = []
before_slash (c ∷ cs) = if has_slash cs then c ∷ before_slash cs else []

-- the folder that a name stands in
abbrev pub folder_of : List ℕ → List ℕ
folder_of [] = codes ".."
folder_of (c ∷ cs) = before_slash (c ∷ cs)

-- the second path is below the first
abbrev pub is_below : List ℕ → List ℕ → Bool
is_below [] [] = false
is_below [] (c ∷ cs) = c == 47
is_below (p ∷ ps) [] = false
is_below (p ∷ ps) (c ∷ cs) = (p == c) && is_below ps cs

-- the path of a name in a folder
abbrev pub within : List ℕ → List ℕ → List ℕ
within [] name = name
within (c ∷ cs) name = (c ∷ cs) ++ 47 ∷ name
