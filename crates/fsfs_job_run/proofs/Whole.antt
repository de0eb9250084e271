-- The root of a revision whose bytes show a tree is read.
use Rattle.std.proofs.Common.{◌≡◌, ℕ, []}
use Rattle.std.specs.Prelude.{Ok, Err}
use Rattle.fsfs_revision.specs.declared.wrong.Wrong.{Wrong}
use Rattle.fsfs_tree.specs.Nodes.{TreeFunction}
use Rattle.fsfs_revision.specs.Told.{RevisionBytes}
use Rattle.fsfs_revision.specs.Shows.Reading.{RootOf}
use Rattle.fsfs_revision.specs.Shows.Shown.{Shows}
use Rattle.fsfs_revision.proofs.OneNode.{root_of_one}

pub root_whole : (look : RevisionBytes) (rev : ℕ) (tree : TreeFunction) (wrong : Wrong) → Shows look rev tree → RootOf look rev (Err wrong) → ⊥
root_whole look rev tree wrong shows is =
    let met = shows.each [] in
    let same : Ok met.1.0 ≡ Err wrong = root_of_one look rev (Ok met.1.0) (Err wrong) met.1.1 is in
    absurd cc
