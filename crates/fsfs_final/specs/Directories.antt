-- What is read of the bytes of a new revision, directory by directory.
use Rattle.std.specs.Prelude.{◌≡◌, ℕ, suc, false, [], ◌∷◌, ◌++◌, Some, None, Ok}
use Rattle.fsfs_base.specs.Paths.{PathName, Path}
use Rattle.fsfs_tree.specs.Nodes.{TreeFunction}
use Rattle.fsfs_base.specs.declared.kind.Kind.TheVariants.{Dir}
use Rattle.fsfs_revision.specs.Told.{RevisionBytes}
use Rattle.fsfs_noderev.specs.declared.node_rev.NodeRev.{NodeRev}
use Rattle.fsfs_revision.specs.Shows.Reading.{RootOf, ChildOf}
use Rattle.fsfs_revision.specs.Ancestry.Trees.{ShowTrees}
use Rattle.fsfs_draft.specs.OwnSides.{NodesAt, in_txn}
use Rattle.fsfs_draft.specs.NodeDrafts.{IsOwn, IsDraft}
use Rattle.fsfs_final.specs.Final.{IsFinal, IsWritten}

-- the root is the draft's; a directory of the transaction has the draft's entries, each as it stands in the revision; `done` gives what stands there for
-- what is the transaction's at a path
pub record ReadsAsDraft (look : RevisionBytes) (n : ℕ) (own : NodesAt) (done : Path → NodeRev) : Type 0 where
  pub final : (p : Path) (u : NodeRev) → own p ≡ Some u → IsOwn u → IsFinal n u (done p)
  pub root : RootOf look n (Ok (done []))
  pub lacking : (p : Path) (name : PathName) (u : NodeRev) → own p ≡ Some u → IsOwn u → u.kind ≡ Dir → own (p ++ name ∷ []) ≡ None → ChildOf look (done p) name (Ok None)
  pub mine : (p : Path) (name : PathName) (u w : NodeRev) → own p ≡ Some u → IsOwn u → own (p ++ name ∷ []) ≡ Some w → IsOwn w → ChildOf look (done p) name (Ok (Some (done (p ++ name ∷ []))))
  pub lasting : (p : Path) (name : PathName) (u w : NodeRev) → own p ≡ Some u → IsOwn u → own (p ++ name ∷ []) ≡ Some w → in_txn w.id.place ≡ false → ChildOf look (done p) name (Ok (Some w))
  -- they stand at different places
  pub apart : (p q : Path) (u w : NodeRev) → own p ≡ Some u → own q ≡ Some w → IsOwn u → IsOwn w → done p ≡ done q → p ≡ q

-- the draft has all that is below a directory that is not of the transaction. (Of a file it says nothing: its text may read as a directory's.)
abbrev pub HasAllBelow : RevisionBytes → NodesAt → Type 0
HasAllBelow look own = (p : Path) (name : PathName) (d v : NodeRev) → own p ≡ Some d → in_txn d.id.place ≡ false → d.kind ≡ Dir → ChildOf look d name (Ok (Some v)) → own (p ++ name ∷ []) ≡ Some v

abbrev pub DirectoriesAreEnough : Type 0
DirectoriesAreEnough = (look : RevisionBytes) (top : ℕ) (tree : ℕ → TreeFunction) (own : NodesAt) (done : Path → NodeRev)
    → ShowTrees look top tree → IsDraft look top top own → HasAllBelow look own → ReadsAsDraft look (suc top) own done → IsWritten look (suc top) own
