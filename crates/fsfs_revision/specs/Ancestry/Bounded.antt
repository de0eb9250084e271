-- What is shown of a revision, and the rules of ids up to it, depend on the bytes of no later revision.
use Rattle.std.specs.Prelude.{◌≡◌, ◌≤◌, ℕ}
use Rattle.fsfs_tree.specs.Nodes.{TreeFunction}
use Rattle.fsfs_revision.specs.Told.{RevisionBytes}
use Rattle.fsfs_revision.specs.Shows.Shown.{Shows}
use Rattle.fsfs_revision.specs.Shows.IdRules.{IdRule}

abbrev pub AreSameUpTo : ℕ → RevisionBytes → RevisionBytes → Type 0
AreSameUpTo r look other = (s : ℕ) → s ≤ r → look s ≡ other s

pub record LaterBytesChangeNothing : Type 0 where
  pub tree : (r : ℕ) (look other : RevisionBytes) (tree : TreeFunction) → AreSameUpTo r look other → Shows look r tree → Shows other r tree
  pub ids : (r : ℕ) (look other : RevisionBytes) → AreSameUpTo r look other → IdRule look r → IdRule other r
