use Rattle.std.proofs.Common.{◌≡◌}
use Rattle.fsfs_folders.proofs.noted.Noted.add.Given as goal

abbrev pub invariant-loop-noted : goal.invariant-loop-noted
invariant-loop-noted l = Unit {0}
