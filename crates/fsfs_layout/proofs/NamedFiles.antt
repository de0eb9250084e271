-- Files laid over others, by their names.
use Rattle.std.proofs.Common.{◌≡◌, ℕ, List, [], ◌∷◌, Bool, true, false, refl, sym, ◌∙◌}
use Rattle.std.specs.Prelude.{not, ◌&&◌}
use Rattle.std.specs.Ordering.{nat_cmp, is_eq}
use Rattle.std.specs.Cmp.Lexicographic.{slice_cmp}
use Rattle.std.specs.FinMap.{get, insert}
use Rattle.fsfs_base.specs.Files.{Files, NamedFile, lay_over}
use Rattle.fsfs_base.proofs.FileLemmas.{get_kept, apart_by}

-- none of the files has this name
abbrev pub lacks : List ℕ → List NamedFile → Bool
lacks name [] = true
lacks name (file ∷ files) = not (is_eq (slice_cmp nat_cmp file.0 name)) && lacks name files

pub first_of : (a b : Bool) → (not a && b) ≡ true → a ≡ false
first_of true b h = cc
first_of false b h = refl

pub rest_of : (a b : Bool) → (not a && b) ≡ true → b ≡ true
rest_of true b h = cc
rest_of false b h = h

-- the first file has another name
pub first_apart : (name : List ℕ) (file : NamedFile) (files : List NamedFile) → lacks name (file ∷ files) ≡ true → file.0 ≡ name → ⊥
first_apart name file files h = apart_by file.0 name (first_of (is_eq (slice_cmp nat_cmp file.0 name)) (lacks name files) h)

pub lacks_rest : (name : List ℕ) (file : NamedFile) (files : List NamedFile) → lacks name (file ∷ files) ≡ true → lacks name files ≡ true
lacks_rest name file files h = rest_of (is_eq (slice_cmp nat_cmp file.0 name)) (lacks name files) h

-- the other files leave what has this name
pub get_laid : (files : List NamedFile) (m : Files) (name : List ℕ) → lacks name files ≡ true → get (lay_over files m) name ≡ get m name
get_laid [] m name h = refl
get_laid (file ∷ files) m name h = get_laid files (insert m file.0 file.1) name (lacks_rest name file files h) ∙ get_kept m file.0 file.1 name (λ e. first_apart name file files h (sym e))

-- no two of them have one name
abbrev pub are_apart : List NamedFile → Bool
are_apart [] = true
are_apart (file ∷ files) = lacks file.0 files && are_apart files
