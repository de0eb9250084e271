-- What a directory that stands in a revision has of a name.
use Rattle.std.proofs.Common.{◌≡◌, ℕ, [], ◌∷◌, ◌++◌, subst, Option}
use Rattle.std.specs.Prelude.{Ok}
use Rattle.fsfs_base.specs.Paths.{PathName, Path}
use Rattle.fsfs_base.specs.declared.kind.Kind.TheVariants.{Dir}
use Rattle.fsfs_tree.specs.Nodes.{TreeFunction}
use Rattle.fsfs_revision.specs.Told.{RevisionBytes}
use Rattle.fsfs_noderev.specs.declared.node_rev.NodeRev.{NodeRev}
use Rattle.fsfs_revision.proofs.OneAnswer.{ok_same}
use Rattle.fsfs_revision.specs.Shows.Reading.{ChildOf, MetFrom, StandsAt}
use Rattle.fsfs_revision.specs.Shows.Shown.{Shows}
use Rattle.fsfs_revision.proofs.OneNode.{root_of_one}
use Rattle.fsfs_final.proofs.Written.{child_in}

pub has_child : (look : RevisionBytes) (r : ℕ) (tree : TreeFunction) (q : Path) (d : NodeRev) (name : PathName) → Shows look r tree → StandsAt look r q d → d.kind ≡ Dir → (o : Option NodeRev) × ChildOf look d name (Ok o)
has_child look r tree q d name shows at kind =
    let met = shows.each (q ++ name ∷ []) in
    let root_is : met.1.0 ≡ at.0 = ok_same met.1.0 at.0 (root_of_one look r (Ok met.1.0) (Ok at.0) met.1.1 at.1) in
    child_in look at.0 d 0 q name met.0 at.2 kind (subst (λ (z : NodeRev). MetFrom look z 0 (q ++ name ∷ []) (Ok met.0)) root_is met.1.2)
