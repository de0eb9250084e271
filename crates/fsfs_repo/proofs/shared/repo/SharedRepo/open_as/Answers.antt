use Rattle.std.proofs.Common.{◌≡◌, ◌≤◌, sym, ap, subst, ◌∙◌}
use Rattle.std.specs.Prelude.{IsTrue}
use Rattle.fsfs_base.specs.Failures.{Rose}
use Rattle.fsfs_disk.specs.Trace.{FirmNames, Performs}
use Rattle.fsfs_base.specs.declared.places.open_fault.OpenFault.TheVariants.{Memory}
use Rattle.fsfs_repo.proofs.Opened.{begun_as, all_seen, names_on, said_on, if_ok_map, both_so, wanting_because, firm_left}
use Rattle.fsfs_repo.proofs.shared.repo.SharedRepo.open_as.Goals as goal

pub share-requires-clause-right : goal.share-requires-clause-right
share-requires-clause-right g c = subst (λ d. IsTrue (g.D.Disk.may_write d)) (sym c.into_disk-disk.ensures) c.in-Ok.field-0.store.writes

pub some-about-requires : goal.some-about-requires
some-about-requires g c =
    begun_as c.args.packs c.in-Ok.field-0.said c.in-Ok.field-0.store.layout c.in-Ok.field-0.store.floor c.in-Ok.field-0.store.young c.in-Ok.field-0.store.stuck (g.D.Disk.trace c.args.disk) (g.D.Disk.trace c.of-before.result.value) (g.D.Disk.trace c.in-Ok.field-0.store.disk) (g.D.Disk.trace c.into_disk-disk.result)
    c.in-Ok.ensures.same.0 c.in-Ok.ensures.same.1 c.in-Ok.ensures.same.2 (ap (λ d. g.D.Disk.trace d) c.into_disk-disk.ensures) (ap (λ d. g.D.Disk.trace d) c.of-before.ensures) c.in-Ok.ensures.firm c.requires.stands c.in-Ok.ensures.opened c.in-Ok.ensures.known

pub share-requires-clause-known : goal.share-requires-clause-known
share-requires-clause-known g c = c.some-about.ensures.0

pub returns-in-Ok-clause-seen : goal.returns-in-Ok-clause-seen
returns-in-Ok-clause-seen g c = all_seen c.args.packs c.share.result (λ o. o.seat.me.0) (λ o. o.youngest) (g.D.Disk.trace c.args.disk) (g.D.Disk.trace c.of-before.result.value) c.some-about.result.value (ap (λ d. g.D.Disk.trace d) c.of-before.ensures) c.some-about.ensures.1 c.share.ensures.looked

pub returns-in-Ok-clause-labels : goal.returns-in-Ok-clause-labels
returns-in-Ok-clause-labels g c = names_on c.args.packs c.share.result (λ o. o.repo.board.shared.key.value.disk.trace ≡ g.D.Disk.trace o.repo.first.value) (λ o. o.repo.board.shared.key.value.seat.given) (λ o. o.repo.board.shared.key.value.seat.since.packs) (λ o. o.said) c.in-Ok.field-0.said (g.D.Disk.trace c.args.disk) (g.D.Disk.trace c.of-before.result.value) c.some-about.result.value (ap (λ d. g.D.Disk.trace d) c.of-before.ensures) c.some-about.ensures.2 c.share.ensures.said c.share.ensures.labels

pub returns-in-Ok-clause-opened : goal.returns-in-Ok-clause-opened
returns-in-Ok-clause-opened g c = said_on c.share.result (λ o. o.said) c.in-Ok.field-0.said (g.D.Disk.trace c.args.disk) c.share.ensures.said c.in-Ok.ensures.opened

pub returns-in-Ok-clause-refused : goal.returns-in-Ok-clause-refused
returns-in-Ok-clause-refused g c =
    wanting_because c.share.result (λ e. e.why) (λ e. Rose (g.D.Disk.faults c.args.disk) (g.D.Disk.faults e.disk)) (g.D.Disk.trace c.args.disk) (λ e. (e.why ≡ Memory) × (g.D.Disk.trace e.disk ≡ g.D.Disk.trace c.into_disk-disk.result) × (g.D.Disk.mount_path e.disk ≡ g.D.Disk.mount_path c.into_disk-disk.result) × (g.D.Disk.faults e.disk ≡ g.D.Disk.faults c.into_disk-disk.result) × (g.D.Disk.bench_faults e.disk ≡ g.D.Disk.bench_faults c.into_disk-disk.result)) (λ e q. q.0) c.share.ensures.wanting

pub returns-in-Ok-clause-firm : goal.returns-in-Ok-clause-firm
returns-in-Ok-clause-firm g c =
    if_ok_map (λ o. o.repo.first.value ≡ c.into_disk-disk.result) (λ o. Performs FirmNames (g.D.Disk.trace c.args.disk) (g.D.Disk.trace o.repo.first.value)) c.share.result
    (λ o is. ap (λ d. g.D.Disk.trace d) (is ∙ c.into_disk-disk.ensures) ∙ c.in-Ok.ensures.firm) c.share.ensures.first

pub returns-in-Ok-clause-left : goal.returns-in-Ok-clause-left
returns-in-Ok-clause-left g c =
    firm_left c.share.result (λ e. g.D.Disk.trace e.disk) (g.D.Disk.trace c.args.disk) (g.D.Disk.trace c.into_disk-disk.result) (λ e. (e.why ≡ Memory) × (g.D.Disk.trace e.disk ≡ g.D.Disk.trace c.into_disk-disk.result) × (g.D.Disk.mount_path e.disk ≡ g.D.Disk.mount_path c.into_disk-disk.result) × (g.D.Disk.faults e.disk ≡ g.D.Disk.faults c.into_disk-disk.result) × (g.D.Disk.bench_faults e.disk ≡ g.D.Disk.bench_faults c.into_disk-disk.result)) (λ e q. q.1)
    (ap (λ d. g.D.Disk.trace d) c.into_disk-disk.ensures ∙ c.in-Ok.ensures.firm) c.share.ensures.wanting

pub returns-in-Ok-clause-mounted : goal.returns-in-Ok-clause-mounted
returns-in-Ok-clause-mounted g c =
    both_so (λ o. o.repo.first.value ≡ c.into_disk-disk.result) (λ e. (e.why ≡ Memory) × (g.D.Disk.trace e.disk ≡ g.D.Disk.trace c.into_disk-disk.result) × (g.D.Disk.mount_path e.disk ≡ g.D.Disk.mount_path c.into_disk-disk.result) × (g.D.Disk.faults e.disk ≡ g.D.Disk.faults c.into_disk-disk.result) × (g.D.Disk.bench_faults e.disk ≡ g.D.Disk.bench_faults c.into_disk-disk.result))
    (λ o. g.D.Disk.mount_path o.repo.first.value ≡ g.D.Disk.mount_path c.args.disk) (λ e. g.D.Disk.mount_path e.disk ≡ g.D.Disk.mount_path c.args.disk) c.share.result
    (λ o is. ap (λ d. g.D.Disk.mount_path d) (is ∙ c.into_disk-disk.ensures) ∙ c.in-Ok.ensures.mounted) (λ e is. is.2 ∙ ap (λ d. g.D.Disk.mount_path d) c.into_disk-disk.ensures ∙ c.in-Ok.ensures.mounted) c.share.ensures.first c.share.ensures.wanting

pub returns-in-Ok-clause-benches : goal.returns-in-Ok-clause-benches
returns-in-Ok-clause-benches g c =
    both_so (λ o. o.repo.first.value ≡ c.into_disk-disk.result) (λ e. (e.why ≡ Memory) × (g.D.Disk.trace e.disk ≡ g.D.Disk.trace c.into_disk-disk.result) × (g.D.Disk.mount_path e.disk ≡ g.D.Disk.mount_path c.into_disk-disk.result) × (g.D.Disk.faults e.disk ≡ g.D.Disk.faults c.into_disk-disk.result) × (g.D.Disk.bench_faults e.disk ≡ g.D.Disk.bench_faults c.into_disk-disk.result))
    (λ o. g.D.Disk.bench_faults o.repo.first.value ≡ g.D.Disk.bench_faults c.args.disk) (λ e. g.D.Disk.bench_faults e.disk ≡ g.D.Disk.bench_faults c.args.disk) c.share.result
    (λ o is. ap (λ d. g.D.Disk.bench_faults d) (is ∙ c.into_disk-disk.ensures) ∙ c.in-Ok.ensures.benches) (λ e is. is.4 ∙ ap (λ d. g.D.Disk.bench_faults d) c.into_disk-disk.ensures ∙ c.in-Ok.ensures.benches) c.share.ensures.first c.share.ensures.wanting

pub returns-in-Ok-clause-later : goal.returns-in-Ok-clause-later
returns-in-Ok-clause-later g c =
    both_so (λ o. o.repo.first.value ≡ c.into_disk-disk.result) (λ e. (e.why ≡ Memory) × (g.D.Disk.trace e.disk ≡ g.D.Disk.trace c.into_disk-disk.result) × (g.D.Disk.mount_path e.disk ≡ g.D.Disk.mount_path c.into_disk-disk.result) × (g.D.Disk.faults e.disk ≡ g.D.Disk.faults c.into_disk-disk.result) × (g.D.Disk.bench_faults e.disk ≡ g.D.Disk.bench_faults c.into_disk-disk.result))
    (λ o. g.D.Disk.faults c.args.disk ≤ g.D.Disk.faults o.repo.first.value) (λ e. g.D.Disk.faults c.args.disk ≤ g.D.Disk.faults e.disk) c.share.result
    (λ o is. subst (λ n. g.D.Disk.faults c.args.disk ≤ n) (sym (ap (λ d. g.D.Disk.faults d) (is ∙ c.into_disk-disk.ensures))) c.in-Ok.ensures.later)
    (λ e is. subst (λ n. g.D.Disk.faults c.args.disk ≤ n) (sym (is.3 ∙ ap (λ d. g.D.Disk.faults d) c.into_disk-disk.ensures)) c.in-Ok.ensures.later) c.share.ensures.first c.share.ensures.wanting
