-- That a look prints one text at most.
use Rattle.std.specs.Prelude.{◌≡◌, ◌⊎◌, ◌++◌, ℕ, Bool, List}
use Rattle.fsfs_base.specs.Paths.{Path}
use Rattle.fsfs_revision.specs.Told.{RevisionBytes}
use Rattle.fsfs_stands.specs.Texts.{End, Stopped}
use Rattle.fsfs_stands.specs.TreeTexts.{TreeText}
use Rattle.fsfs_stands.specs.FileTexts.{FileText}

-- a is a first part of b
abbrev pub IsFront : List ℕ → List ℕ → Type 0
IsFront a b = (rest : List ℕ) × (b ≡ a ++ rest)

-- two texts, each with its end, are one; or a failure stopped one of them, and it is a first part of the other
abbrev pub Agree : List ℕ → End → List ℕ → End → Type 0
Agree a e b f = ((a ≡ b) × (e ≡ f)) ⊎ (((e ≡ Stopped) × IsFront a b) ⊎ ((f ≡ Stopped) × IsFront b a))

abbrev pub HasOneText : (List ℕ → End → Type 0) → Type 0
HasOneText R = (a b : List ℕ) (e f : End) → R a e → R b f → Agree a e b f

abbrev pub TreesHaveOneText : Type 0
TreesHaveOneText = (look : RevisionBytes) (rev : ℕ) (path : Path) (ids : Bool) → HasOneText (TreeText look rev path ids)

abbrev pub FilesHaveOneText : Type 0
FilesHaveOneText = (look : RevisionBytes) (rev : ℕ) (path : Path) → HasOneText (FileText look rev path)
