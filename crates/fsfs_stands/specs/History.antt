-- Which history the bytes of revisions and of their property files show.
use Rattle.std.specs.Prelude.{◌≡◌, ℕ, List, Some, Ok, slice_get}
use Rattle.std.specs.FinMap.{get}
use Rattle.fsfs_tree.specs.Revisions.{Revision}
use Rattle.fsfs_tree.specs.Dated.{IsDated, last_of}
use Rattle.fsfs_revision.specs.Told.{RevisionBytes}
use Rattle.fsfs_layout.specs.Hash.Dump.{IsDump}
use Rattle.fsfs_revision.specs.Shows.Shown.{Shows}
use Rattle.fsfs_revision.specs.Shows.IdRules.{IdRule}
use Rattle.fsfs_stands.specs.Changes.{AreChangesOf}

-- the bytes of revision r and of its property file show this revision
pub record ShowsRevision (look props : RevisionBytes) (r : ℕ) (revision : Revision) : Type 0 where
  pub bytes : List ℕ
  pub bytes_are : look r ≡ Ok bytes
  pub tree : Shows look r (get revision.tree)
  pub changes : AreChangesOf look r bytes revision.changes
  -- the property file is a dump, and a date in it has the form in which dates are stored
  pub file : List ℕ
  pub file_is : props r ≡ Ok file
  pub properties : IsDump file revision.properties
  pub dated : IsDated revision.properties

-- each of them, and the node-revisions hang together
pub record ShowsHistory (look props : RevisionBytes) (h : List Revision) : Type 0 where
  pub each : (r : ℕ) (revision : Revision) → slice_get h r ≡ Some revision → ShowsRevision look props r revision
  pub ids : IdRule look (last_of h)
