-- What a reader of a repository tells.
use Rattle.std.specs.Prelude.{◌≡◌, Some}
use Rattle.fsfs_tree.specs.Dated.{last_of}
use Rattle.fsfs_tree.specs.Revisions.{tree_of}
use Rattle.fsfs_revision.specs.Ancestry.Trees.{ShowTrees}
use Rattle.fsfs_revision.specs.Told.{Telling, Knows as ToldOf}
use Rattle.fsfs_machine.specs.Machine.{revisions}
use Rattle.fsfs_turn.specs.Bytes.{bytes_of}
use Rattle.fsfs_turn.specs.Views.{View}
use Rattle.fsfs_turn.specs.Telling.{OwnedState}
use Rattle.fsfs_turn.specs.Seen.{TellsRevisions}
use Rattle.fsfs_repo.specs.Owned.Alone.{KnowsIn}

-- Of each revision that the pass has seen the bytes beside it, which show its tree; and that the last of them is the youngest. The pass knows this now, and after any run of readers.
pub record TellsSeenAll (v : View) (told : Telling OwnedState) : Type 0 where
  pub revisions_are : TellsRevisions v told
  pub revs : ToldOf told.revs (last_of (revisions v.seen)) (bytes_of v.seen)
  pub shown : ShowTrees (bytes_of v.seen) (last_of (revisions v.seen)) (tree_of (revisions v.seen))
  pub youngest : told.youngest ≡ Some (last_of (revisions v.seen))
  pub known : KnowsIn told.below v
