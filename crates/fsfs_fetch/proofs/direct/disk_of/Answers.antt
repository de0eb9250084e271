use Rattle.std.proofs.Common.{ap, sym, ◌∙◌}
use Rattle.std.specs.Prelude.{Some}
use Rattle.fsfs_fetch.specs.Owned.{OwnedBelow, owned_view, state_of}
use Rattle.fsfs_fetch.proofs.TellingLemmas.{below_same}
use Rattle.fsfs_fetch.proofs.direct.disk_of.Goals as goal

pub returns-clause-below : goal.returns-clause-below
returns-clause-below g c =
    let r = c.args.book.reads in
    ap (λ (b : OwnedBelow). b.disk) (below_same (owned_view (state_of (g.D.Disk.trace r.disk) (g.D.Disk.mount_path r.disk) (g.D.Disk.may_write r.disk) (g.D.Disk.bench_faults r.disk)) r.youngest r.layout) c.args.book.floor c.args.book.kept)
    ∙ ap (λ d. Some (state_of (g.D.Disk.trace d) (g.D.Disk.mount_path d) (g.D.Disk.may_write d) (g.D.Disk.bench_faults d))) (sym (c.into_disk.ensures ∙ ap (λ x. x.disk) c.into_reads.ensures))
