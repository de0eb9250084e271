-- That the bytes of a commit show, beside those of the revisions before, the next revision of the history.
use Rattle.std.specs.Prelude.{◌≡◌, ℕ, List, [], ◌∷◌, ◌++◌, length, Ok}
use Rattle.std.specs.FinMap.{get}
use Rattle.fsfs_tree.specs.Revisions.{Revision, tree_of}
use Rattle.fsfs_tree.specs.Dated.{last_of}
use Rattle.fsfs_model.specs.Flat.Landing.{land}
use Rattle.fsfs_model.specs.Flat.Transactions.{Entry, IsEntry, IsNext}
use Rattle.fsfs_revision.specs.Told.{RevisionBytes}
use Rattle.fsfs_layout.specs.Hash.Dump.{IsDump}
use Rattle.fsfs_stands.specs.Changes.{AreChangesOf}
use Rattle.fsfs_stands.specs.History.{ShowsHistory}
use Rattle.fsfs_draft.specs.OwnSides.{NodesAt, IsOwnSide, AreNodesOf}
use Rattle.fsfs_draft.specs.NodeDrafts.{IsDraft}
use Rattle.fsfs_draft.specs.Draws.{DrawsTree}
use Rattle.fsfs_final.specs.Final.{IsWritten}
use Rattle.fsfs_final.specs.Shown.{ReadsContents}

-- the bytes behind the history's are of this entry, a transaction on the youngest revision: its draft was written, its texts and
-- properties read as the landing's, and the changed paths and the property file are those of the next revision
pub record IsWrittenAs (look props : RevisionBytes) (h : List Revision) (e : Entry) (next : Revision) : Type 0 where
  pub youngest : e.base ≡ last_of h
  pub base : NodesAt
  pub own : NodesAt
  pub nodes : AreNodesOf look (last_of h) base
  pub side : IsOwnSide base e.marks own
  pub draft : IsDraft look (last_of h) (last_of h) own
  pub draws : DrawsTree (length h) (tree_of h (last_of h)) (get e.tree) e.marks own
  pub written : IsWritten look (length h) own
  pub contents : ReadsContents look (length h) (land (tree_of h (last_of h)) (tree_of h (last_of h)) (get e.tree) e.marks (length h))
  pub bytes : List ℕ
  pub bytes_are : look (length h) ≡ Ok bytes
  pub changes : AreChangesOf look (length h) bytes next.changes
  pub file : List ℕ
  pub file_is : props (length h) ≡ Ok file
  pub properties : IsDump file next.properties

abbrev pub NextIsShown : Type 0
NextIsShown = (look props : RevisionBytes) (h : List Revision) (e : Entry) (next : Revision) → ShowsHistory look props h → IsEntry h e → IsNext h e next → IsWrittenAs look props h e next → ShowsHistory look props (h ++ next ∷ [])
