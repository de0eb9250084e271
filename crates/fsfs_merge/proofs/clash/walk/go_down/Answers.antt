use Rattle.std.proofs.Common.{refl}
use Rattle.fsfs_merge.proofs.clash.walk.go_down.Goals as goal

pub returns-clause-opened : goal.returns-clause-opened
returns-clause-opened c = record {
  dir = c.in_ok-dir.dir;
  opened = c.in_ok-dir.ensures.opened;
  dirs = c.in_ok-keep.ensures;
  first = refl;
}

pub returns-clause-total : goal.returns-clause-total
returns-clause-total c = λ before. c.in_ok-dir.ensures.total before
