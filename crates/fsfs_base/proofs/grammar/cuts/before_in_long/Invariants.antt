use Rattle.std.proofs.Common.{◌≤◌, ◌-◌, length}
use Rattle.fsfs_base.specs.Grammar.Cuts.{before}
use Rattle.fsfs_base.proofs.grammar.cuts.before_in_long.Given as goal

abbrev pub invariant-places : goal.invariant-places
invariant-places l = (l.at ≤ length l.text) × (l.at ≤ before l.byte l.text)

abbrev pub decreases-places : goal.decreases-places
decreases-places l = length l.text - l.at
