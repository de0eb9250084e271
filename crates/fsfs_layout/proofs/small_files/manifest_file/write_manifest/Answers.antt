use Rattle.std.proofs.Common.{arith, refl}
use Rattle.fsfs_layout.proofs.Manifests.{line_more, all_fit, all_lines}
use Rattle.fsfs_layout.proofs.small_files.manifest_file.write_manifest.Goals as goal

pub loop-offset-preserved : goal.loop-offset-preserved
loop-offset-preserved c = line_more c.loop-offset.out.items c.put_decimal.new.out.items c.args.offsets.now c.loop-offset.offset-index c.loop-offset-test.true (omega (arith, c.type_inv.offsets c.loop-offset.offset-index)) c.loop-offset.invariant c.in_ok-put_decimal.ensures

pub returns-clause-grammar : goal.returns-clause-grammar
returns-clause-grammar c = record {
  count = refl;
  first = c.requires.first;
  rising = c.requires.rising;
  fit = all_fit c.args.offsets.now (λ i. omega (arith, c.type_inv.offsets i));
  lines = all_lines c.loop-offset.out.items c.args.offsets.now c.loop-offset.offset-index c.loop-offset-test.false c.loop-offset.invariant;
}
