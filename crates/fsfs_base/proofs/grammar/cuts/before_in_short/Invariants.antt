use Rattle.std.proofs.Common.{◌≤◌, ◌-◌, length}
use Rattle.fsfs_base.specs.Grammar.Cuts.{before}
use Rattle.fsfs_base.proofs.grammar.cuts.before_in_short.Given as goal

abbrev pub invariant-bytes : goal.invariant-bytes
invariant-bytes l = l.at ≤ before l.byte l.text

abbrev pub decreases-bytes : goal.decreases-bytes
decreases-bytes l = length l.text - l.at
