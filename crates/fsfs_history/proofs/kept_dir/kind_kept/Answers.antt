use Rattle.fsfs_history.proofs.DirLemmas.{parted}
use Rattle.fsfs_history.proofs.kept_dir.kind_kept.Goals as goal

pub kind_in-requires : goal.kind_in-requires
kind_in-requires g c =
    let parent = rw c.in-Ok-Some.field-0-is at c.in-Ok-Some.ensures in
    parted c.args.path.now c.in-Ok-Some.above c.last_name-name.result.now parent.0 parent.1 c.last_name-name.ensures
