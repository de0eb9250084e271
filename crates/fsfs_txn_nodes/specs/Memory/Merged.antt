-- What is kept of a merged directory.
use Rattle.std.specs.Prelude.{◌≡◌, List}
use Rattle.fsfs_revision.specs.Shows.Reading.{DirEntry}
use Rattle.fsfs_draft.specs.Drafts.{Kept}
use Rattle.fsfs_merge.specs.declared.clash.merged.MergedDir.{MergedDir}
use Rattle.fsfs_merge.specs.Relinked.{IsListOf, relinked_kept}

-- gone on from the head's node-revision, with the entries that the merge found behind the names
pub record IsRelinkedKept (dir : MergedDir) (k new : Kept) : Type 0 where
  pub entries : List DirEntry
  pub listed : IsListOf dir entries
  pub new_is : new ≡ relinked_kept dir entries k
