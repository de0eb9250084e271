-- The files of a repository: bytes by name, and what a change of names makes of them.
use Rattle.std.specs.Prelude.{ℕ, List, Option, Some, None, [], ◌∷◌, Bool}
use Rattle.std.specs.Ordering.{nat_cmp, is_eq}
use Rattle.std.specs.Cmp.Lexicographic.{slice_cmp}
use Rattle.std.specs.FinMap as map
use Rattle.std.specs.FinMap.{FinMap}

-- bytes by name
abbrev pub Files : Type 0
Files = FinMap (slice_cmp nat_cmp) (List ℕ)

-- two names are the same
abbrev pub same_text : List ℕ → List ℕ → Bool
same_text a b = is_eq (slice_cmp nat_cmp a b)

-- a name and the bytes of its file
abbrev pub NamedFile : Type 0
NamedFile = List ℕ × List ℕ

-- the file `from` under the name `to` instead, in place of the file that `to` had; where there is none, neither name has a file
abbrev pub renamed : Files → List ℕ → List ℕ → Option (List ℕ) → Files
renamed m from to None = map.remove (map.remove m from) to
renamed m from to (Some bytes) = map.insert (map.remove m from) to bytes

-- files laid over others, in order
abbrev pub lay_over : List NamedFile → Files → Files
lay_over [] m = m
lay_over (file ∷ files) m = lay_over files (map.insert m file.0 file.1)
