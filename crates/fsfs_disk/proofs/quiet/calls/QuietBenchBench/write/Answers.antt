use Rattle.std.proofs.Common.{◌≡◌, true, false, sym, subst}
use Rattle.std.specs.Prelude.{Some}
use Rattle.fsfs_disk.specs.Last.{is_last}
use Rattle.fsfs_disk.proofs.LastFile.{is_written}
use Rattle.fsfs_disk.proofs.quiet.calls.QuietBenchBench.write.Goals as goal

pub invariant_of-self : goal.invariant_of-self
invariant_of-self g c =
    let contents = g.B.Bench.contents in
    let firm_to = g.B.Bench.firm_to in
    let now = c.write.new.self in
    record {
      known = subst (λ name. is_last (contents now) (firm_to now) (Some name) false ≡ true) (sym c.copy.ensures)
          (is_written (contents c.args.self.now.bench) (contents now) (firm_to now) c.args.file.now (λ m. c.args.bytes.now) c.in-Ok.ensures.ok);
    }
