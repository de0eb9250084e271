-- What a merge leaves of a transaction.
use Rattle.std.specs.Prelude.{◌≡◌, ◌<◌, ◌≤◌, ℕ, List, Result, Ok, Err}
use Rattle.std.specs.declared.vec.Vec.{Vec}
use Rattle.std.specs.declared.alloc.Global.{Global}
use Rattle.fsfs_base.specs.Paths.{Path}
use Rattle.fsfs_tree.specs.Nodes.{TreeFunction}
use Rattle.fsfs_model.specs.declared.flat.mark.Mark.{Mark}
use Rattle.fsfs_model.specs.Flat.Landing.{NoClash, IsFirstClash, land}
use Rattle.fsfs_model.specs.Flat.Transactions.{IsTransaction}
use Rattle.fsfs_base.specs.declared.fields.txn_name.TxnName.{TxnName}
use Rattle.fsfs_revision.specs.Told.{RevisionBytes}
use Rattle.fsfs_revision.specs.Ancestry.Trees.{ShowTrees}
use Rattle.fsfs_draft.specs.Drafts.{Folder}
use Rattle.fsfs_draft.specs.Edits.{IsDraftAfter}
use Rattle.fsfs_draft.specs.Whole.{IsDraftOf}
use Rattle.fsfs_draft.specs.Errors.{IfStays}
use Rattle.fsfs_draft.specs.declared.error.EditError.{EditError}
use Rattle.fsfs_draft.specs.declared.error.EditError.TheVariants as errors
use Rattle.fsfs_merge.specs.declared.clash.merged.MergedDir.{MergedDir}
use Rattle.fsfs_merge.specs.declared.clash.walk.Merge.TheVariants as merges
use Rattle.fsfs_merge.specs.Clash.Merges.{LeadOn, MergeOf}
use Rattle.fsfs_merge.specs.Clash.Points.{Point}
use Rattle.fsfs_merge.specs.declared.land.Outcome.{Outcome}
use Rattle.fsfs_merge.specs.declared.land.Outcome.TheVariants as outcomes
use Rattle.fsfs_merge.specs.Relinked.{AreRelinked, AreHere}

-- ---- over a draft

-- the folder after it holds a draft of the landing over the head, with the same marks, and so with the same paths that it made; the
-- landing may take any number for its nodes
abbrev pub IsLanded : RevisionBytes → (ℕ → TreeFunction) → ℕ → ℕ → ℕ → TxnName → TreeFunction → List Mark → Folder → Type 0
IsLanded look trees top base head txn tree marks after = (k : ℕ) → IsDraftAfter look trees top head txn after (land (trees base) (trees head) tree marks k) marks

-- the first clash, and the draft is as before; or nothing clashes and the draft is one of the landing; a failure leaves it, but where
-- the bench failed
abbrev pub LeavesLanded : RevisionBytes → (ℕ → TreeFunction) → ℕ → ℕ → ℕ → TxnName → TreeFunction → List Mark → Folder → Folder → Result Outcome EditError → Type 0
LeavesLanded look trees top base head txn tree marks before after (Ok (outcomes.Clash c)) = IsFirstClash base (trees base) (trees head) tree marks c × (after ≡ before)
LeavesLanded look trees top base head txn tree marks before after (Ok outcomes.Landed) = NoClash base (trees base) (trees head) tree marks × IsLanded look trees top base head txn tree marks after
LeavesLanded look trees top base head txn tree marks before after (Err e) = IfStays e (after ≡ before)

-- ---- over whatever bytes and folder

-- a clash, what is wrong, or the directories that were written are those of what is seen there; where the folder lacks one of them
-- nothing is written
abbrev pub TellsMerge : RevisionBytes → ℕ → TxnName → ℕ → ℕ → (Path → Point) → Folder → Folder → Result Outcome EditError → Type 0
TellsMerge look top txn base head see before after (Ok (outcomes.Clash c)) = MergeOf look top txn before base head see (Ok (merges.Clash c)) × (after ≡ before)
TellsMerge look top txn base head see before after (Ok outcomes.Landed) = (dirs : Vec MergedDir Global) × MergeOf look top txn before base head see (Ok (merges.Dirs dirs)) × AreRelinked before after dirs.items
TellsMerge look top txn base head see before after (Err (errors.Wrong w)) = MergeOf look top txn before base head see (Err w) × (after ≡ before)
TellsMerge look top txn base head see before after (Err errors.Lacking) = (dirs : Vec MergedDir Global) × MergeOf look top txn before base head see (Ok (merges.Dirs dirs)) × (AreHere before dirs.items → ⊥) × (after ≡ before)
TellsMerge look top txn base head see before after (Err errors.BenchFault) = (dirs : Vec MergedDir Global) × MergeOf look top txn before base head see (Ok (merges.Dirs dirs))
TellsMerge look top txn base head see before after (Err errors.OutOfMemory) = after ≡ before
TellsMerge look top txn base head see before after (Err errors.DiskFault) = after ≡ before

-- ---- the laws that link a plan and the draft

-- the directories that a merge finds in a draft are of its folder; and written they leave the landing
pub record PlansLand : Type 0 where
  pub here : (look : RevisionBytes) (trees : ℕ → TreeFunction) (top base head : ℕ) (txn : TxnName) (f : Folder) (tree : TreeFunction) (marks : List Mark) (dirs : List MergedDir)
      → ShowTrees look top trees → base < head → head ≤ top → IsTransaction trees top base tree marks → (d : IsDraftOf look trees top base txn f tree marks)
      → NoClash base (trees base) (trees head) tree marks → LeadOn look top base head d.shows.own dirs → AreHere f dirs
  pub lands : (look : RevisionBytes) (trees : ℕ → TreeFunction) (top base head : ℕ) (txn : TxnName) (f after : Folder) (tree : TreeFunction) (marks : List Mark) (dirs : List MergedDir)
      → ShowTrees look top trees → base < head → head ≤ top → IsTransaction trees top base tree marks → (d : IsDraftAfter look trees top base txn f tree marks)
      → NoClash base (trees base) (trees head) tree marks → LeadOn look top base head d.0.shows.own dirs → AreRelinked f after dirs
      → IsLanded look trees top base head txn tree marks after
