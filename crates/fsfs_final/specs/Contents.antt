-- Texts and properties of a draft, and of the revision that is made of it.
use Rattle.std.specs.Prelude.{◌≡◌, ◌≤◌, ℕ, suc, false, List, [], Some, Ok}
use Rattle.fsfs_model.specs.declared.flat.mark.Mark.{Mark}
use Rattle.fsfs_base.specs.declared.kind.Kind.TheVariants.{File, Dir}
use Rattle.fsfs_base.specs.Paths.{Path}
use Rattle.fsfs_tree.specs.Nodes.{Node, TreeFunction, Bytes}
use Rattle.fsfs_tree.specs.Histories.{AreRevisions}
use Rattle.fsfs_model.specs.Flat.Landing.{NoClash, land}
use Rattle.fsfs_model.specs.Flat.Transactions.{IsTransaction}
use Rattle.fsfs_revision.specs.Told.{RevisionBytes}
use Rattle.fsfs_noderev.specs.declared.node_rev.NodeRev.{NodeRev}
use Rattle.fsfs_revision.specs.Shows.Reading.{StandsAt, PropsOf}
use Rattle.fsfs_revision.specs.Shows.Shown.{IsTextOf}
use Rattle.fsfs_revision.specs.Ancestry.Trees.{ShowTrees}
use Rattle.fsfs_merge.specs.declared.sight.Sight.{Sight}
use Rattle.fsfs_draft.specs.OwnSides.{NodesAt, in_txn}
use Rattle.fsfs_merge.specs.MergeLaws.{IsMerge, landed_nodes}
use Rattle.fsfs_draft.specs.NodeDrafts.{IsOwn}
use Rattle.fsfs_final.specs.Final.{IsWritten}
use Rattle.fsfs_draft.specs.Draws.{DrawsTree}
use Rattle.fsfs_final.specs.Shown.{ReadsContents}

-- a directory has no text
abbrev pub HasBareDirs : TreeFunction → Type 0
HasBareDirs t = (p : Path) (n : Node) → t p ≡ Some n → n.kind ≡ Dir → n.text ≡ Bytes []

-- t may be what a landing has made
abbrev pub TransactionsHaveBareDirs : Type 0
TransactionsHaveBareDirs = (tree : ℕ → TreeFunction) (last b : ℕ) (t : TreeFunction) (marks : List Mark) → AreRevisions tree last → ((r : ℕ) → r ≤ last → HasBareDirs (tree r)) → IsTransaction tree last b t marks → HasBareDirs t

-- the node-revision reads as the node does
abbrev pub ReadsAs : RevisionBytes → NodeRev → Node → Type 0
ReadsAs look v n = (n.kind ≡ File → IsTextOf look v.kind v n.text) × PropsOf look v (Ok n.properties)

-- what is of no transaction reads as the tree has it
abbrev pub LastingContents : RevisionBytes → TreeFunction → NodesAt → Type 0
LastingContents look t own = (p : Path) (u : NodeRev) (n : Node) → own p ≡ Some u → in_txn u.id.place ≡ false → t p ≡ Some n → ReadsAs look u n

-- what was of the transaction does so in revision n
abbrev pub OwnContents : RevisionBytes → ℕ → TreeFunction → NodesAt → Type 0
OwnContents look n t own = (p : Path) (u v : NodeRev) (m : Node) → own p ≡ Some u → IsOwn u → StandsAt look n p v → t p ≡ Some m → ReadsAs look v m

abbrev pub ContentsAreRead : Type 0
ContentsAreRead = (look : RevisionBytes) (top : ℕ) (tree : ℕ → TreeFunction) (t : TreeFunction) (marks : List Mark) (own : NodesAt)
    → ShowTrees look top tree → IsTransaction tree top top t marks → DrawsTree (suc top) (tree top) t marks own → IsWritten look (suc top) own
    → LastingContents look t own → OwnContents look (suc top) t own → ReadsContents look (suc top) (land (tree top) (tree top) t marks (suc top))

-- a merge keeps it
abbrev pub MergesKeepContents : Type 0
MergesKeepContents = (look : RevisionBytes) (top : ℕ) (tree : ℕ → TreeFunction) (b h n : ℕ) (t : TreeFunction) (marks : List Mark) (base head own : NodesAt) (see : Path → Sight)
    → IsMerge look top tree b h t marks base head own see → NoClash b (tree b) (tree h) t marks → ((p : Path) (u : NodeRev) (m : Node) → own p ≡ Some u → t p ≡ Some m → m.kind ≡ u.kind)
    → LastingContents look t own → LastingContents look (land (tree b) (tree h) t marks n) (landed_nodes see head own)

pub record ContentLaws : Type 0 where
  pub bare : TransactionsHaveBareDirs
  pub read : ContentsAreRead
  pub merged : MergesKeepContents
