use Rattle.std.proofs.Common.{◌-◌, length, arith}
use Rattle.fsfs_base.proofs.CutPlaces.{block_passed, block_ends, last_block}
use Rattle.fsfs_base.proofs.grammar.cuts.before_in_long.Goals as goal

pub places-preserved : goal.places-preserved
places-preserved c = (omega arith, block_passed c.args.byte c.places.at c.args.text.now c.places.invariant.1 (omega arith) (omega (arith, c.before_in_lanes-run.ensures)))

pub returns-then-run-lt-LANES : goal.returns-then-run-lt-LANES
returns-then-run-lt-LANES c =
    let ends = block_ends c.args.byte c.places.at c.args.text.now c.places.invariant.1 (omega arith) (omega (arith, c.before_in_lanes-run.ensures)) in
    omega (arith, ends, c.before_in_lanes-run.ensures)

pub returns : goal.returns
returns c =
    let ends = last_block c.args.byte c.args.text.now (length c.args.text.now - 16) (omega arith) (omega (arith, c.places.invariant.1)) in
    omega (arith, ends, c.before_in_lanes.ensures)
