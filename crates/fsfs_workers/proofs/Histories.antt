-- What a pass has seen is a history.
use Rattle.std.proofs.Common.{◌<◌, List, length, arith}
use Rattle.fsfs_tree.specs.Dated.{last_of}
use Rattle.fsfs_tree.specs.Histories.{AreRevisions, IsHistory}
use Rattle.fsfs_tree.specs.Revisions.{tree_of}
use Rattle.fsfs_revision.proofs.Revisions.{shown_revisions}
use Rattle.fsfs_machine.specs.declared.machine.Recorded.{Recorded}
use Rattle.fsfs_machine.specs.Machine.{revisions}
use Rattle.fsfs_machine.proofs.Growing.{revisions_length}
use Rattle.fsfs_turn.specs.Bytes.{bytes_of, AllShow, BytesShow}
use Rattle.fsfs_job_run.specs.SeenLemmas.{shown_trees}
use Rattle.fsfs_job_run.proofs.Shown.{seen_shows}

pub revisions_shown : (h : List Recorded) → BytesShow h → 0 < length h → AreRevisions (tree_of (revisions h)) (last_of (revisions h))
revisions_shown h shows some = shown_revisions (bytes_of h) (last_of (revisions h)) (tree_of (revisions h)) (shown_trees h some shows)

pub history_seen : (h : List Recorded) → AllShow h → 0 < length h → IsHistory (revisions h)
history_seen h all some = record { last = last_of (revisions h); counted = omega (arith, revisions_length h, some); revisions = revisions_shown h (seen_shows h all some) some }
