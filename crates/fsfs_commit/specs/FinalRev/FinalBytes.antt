-- What the bytes of a new revision are, and what they show beside those before: one revision more.
use Rattle.std.specs.Prelude.{◌≡◌, ◌≢◌, ℕ, suc, List, [], ◌∷◌, ◌++◌, Ok, Some, Contains, map}
use Rattle.std.specs.FinMap.{FinMap, get}
use Rattle.std.specs.List.Sorted.{IsStrictlySortedBy}
use Rattle.std.specs.Ordering.{nat_cmp}
use Rattle.std.specs.Cmp.Lexicographic.{slice_cmp}
use Rattle.fsfs_base.specs.Paths.{Path, path_cmp}
use Rattle.fsfs_base.specs.declared.action.Action.TheVariants.{Delete}
use Rattle.fsfs_tree.specs.declared.change_map.Change.{Change}
use Rattle.fsfs_tree.specs.Nodes.{TreeFunction}
use Rattle.fsfs_tree.specs.Revisions.{Revision, tree_of}
use Rattle.fsfs_tree.specs.Dated.{last_of}
use Rattle.fsfs_model.specs.declared.flat.mark.Mark.{Mark}
use Rattle.fsfs_model.specs.Flat.Folding.{fold}
use Rattle.fsfs_model.specs.Flat.Landing.{land}
use Rattle.fsfs_model.specs.Flat.Transactions.{Entry, IsEntry, IsNext}
use Rattle.fsfs_revision.specs.Told.{RevisionBytes}
use Rattle.fsfs_noderev.specs.declared.node_rev.NodeRev.{NodeRev}
use Rattle.fsfs_noderev.specs.declared.changes.item.ChangeItem.{ChangeItem}
use Rattle.fsfs_layout.specs.Hash.Dump.{IsDump}
use Rattle.fsfs_revision.specs.Shows.Reading.{StandsAt}
use Rattle.fsfs_revision.specs.Shows.Chains.{own_rev}
use Rattle.fsfs_revision.specs.Shows.Shown.{Shows}
use Rattle.fsfs_revision.specs.Shows.IdRules.{IdRule}
use Rattle.fsfs_stands.specs.Changes.{HasItems, AreChangesOf}
use Rattle.fsfs_stands.specs.History.{ShowsHistory}
use Rattle.fsfs_draft.specs.OwnSides.{NodesAt}
use Rattle.fsfs_final.specs.Bytes.{HoldsDraft}
use Rattle.fsfs_final.specs.Contents.{OwnContents}
use Rattle.fsfs_edit.specs.Folds.FoldedItems.{fold_items, item_at, text_of}
use Rattle.fsfs_edit.specs.Folds.Marks.{AgreesWith}

-- they hold what is met in the draft, and what is the transaction's own reads as its tree has it
pub record IsFinalBytes (look : RevisionBytes) (n : ℕ) (bytes : List ℕ) (met : NodesAt) (t : TreeFunction) : Type 0 where
  pub done : Path → NodeRev
  pub off : Path → ℕ
  pub holds : HoldsDraft look n bytes met done off
  pub contents : OwnContents look n t met

-- ---- what they show

-- the changed paths: what the transaction's items come to
pub record TellsItems (look : RevisionBytes) (n : ℕ) (bytes : List ℕ) (marks : List Mark) (items : List ChangeItem) : Type 0 where
  pub told : List ChangeItem
  pub has : HasItems bytes told
  -- in byte order of the paths' texts
  pub rising : IsStrictlySortedBy (slice_cmp nat_cmp) (map text_of told)
  pub each : (p : Path) → AgreesWith (item_at told p) (fold marks p)
  -- what stands at the path is named, where it is of this revision; a delete names what it named
  pub named : (item : ChangeItem) → Contains told item → item.action ≢ Delete → (v : NodeRev) → StandsAt look n item.path v → own_rev v ≡ n → item.id ≡ v.id
  pub deleted : (item : ChangeItem) → Contains told item → item.action ≡ Delete → fold_items items item.path ≡ Some item

-- they are those of revision top + 1, beside those before: they show the tree that landed, keep the rules of ids, and tell the changes
pub record IsNextRevision (look : RevisionBytes) (trees : ℕ → TreeFunction) (top : ℕ) (tree : TreeFunction) (marks : List Mark) (items : List ChangeItem) (bytes : List ℕ) : Type 0 where
  pub shows : Shows look (suc top) (land (trees top) (trees top) tree marks (suc top))
  pub ids : IdRule look (suc top)
  pub tells : TellsItems look (suc top) bytes marks items
  pub changes : (changes : FinMap path_cmp Change) → ((p : Path) → get changes p ≡ fold marks p) → AreChangesOf look (suc top) bytes changes

-- ---- the history with one revision more

-- the entry's transaction is on the youngest revision; its bytes stand behind the history's, and the property file
pub record IsCommittedAs (look props : RevisionBytes) (h : List Revision) (e : Entry) (next : Revision) : Type 0 where
  pub youngest : e.base ≡ last_of h
  pub bytes : List ℕ
  pub bytes_are : look (suc (last_of h)) ≡ Ok bytes
  pub items : List ChangeItem
  pub next_is : IsNextRevision look (tree_of h) (last_of h) (get e.tree) e.marks items bytes
  pub file : List ℕ
  pub file_is : props (suc (last_of h)) ≡ Ok file
  pub properties : IsDump file next.properties

abbrev pub FinalBytesAreEnough : Type 0
FinalBytesAreEnough = (look props : RevisionBytes) (h : List Revision) (e : Entry) (next : Revision) → ShowsHistory look props h → IsEntry h e → IsNext h e next → IsCommittedAs look props h e next → ShowsHistory look props (h ++ next ∷ [])
