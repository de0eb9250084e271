use Rattle.std.proofs.Common.{◌≡◌, ◌-◌, suc, length}
use Rattle.fsfs_base.specs.Grammar.Reading.{many_at}
use Rattle.fsfs_layout.specs.Hash.Reading.{change_views}
use Rattle.fsfs_layout.specs.Hash.Children.{change_at}
use Rattle.fsfs_layout.proofs.ManyLoops.{with_all}
use Rattle.fsfs_layout.proofs.hash.children.changes.Given as goal

abbrev pub invariant-loop : goal.invariant-loop
invariant-loop l = with_all (change_views l.found.items) (many_at change_at (suc (length l.bytes) - l.counter) l.rest) ≡ many_at change_at (suc (length l.bytes)) l.bytes
