use Rattle.std.proofs.Common.{◌≡◌, ◌∙◌, ap, map, subst, sym}
use Rattle.std.specs.Prelude.{string_bytes}
use Rattle.fsfs_layout.specs.Folders.{AreShards}
use Rattle.fsfs_cli.specs.declared.request.Task.TheVariants.{RunJobs}
use Rattle.fsfs_cli.specs.declared.tool.Tool.TheVariants.{Jobs}
use Rattle.fsfs_cli.proofs.OneMeaning.{one_task}
use Rattle.fsfs_examples.proofs.KnownStores.{came_well, is_made}
use Rattle.fsfs_examples.proofs.known.make.Goals as goal

pub create-made-requires-clause-right : goal.create-made-requires-clause-right
create-made-requires-clause-right g c = c.in-Ok-mount.ensures.right tt

pub create-made-requires-clause-packs : goal.create-made-requires-clause-packs
create-made-requires-clause-packs g c = record { format = c.sharded.ensures.format; sharded = subst AreShards (sym c.sharded.ensures.folders) tt }

pub returns : goal.returns
returns g c = λ well repos run asks.
    let words = map string_bytes c.args.words.now in
    let told = g.H.Mounted.Disk.trace in
    let path : g.H.Mounted.Disk.mount_path c.create-made.new.disk ≡ c.in-Ok.request.repos.now = c.create-made.ensures.mounted ∙ c.in-Ok-mount.ensures.path in
    let same : repos ≡ c.in-Ok.request.repos.now = (one_task Jobs words repos c.in-Ok.request.repos.now (RunJobs run) c.in-Ok.request.task asks c.in-Ok.ensures).0 in
    let back : g.H.Host.disk_at c.unmount.new.self repos ≡ told c.create-made.new.disk = ap (g.H.Host.disk_at c.unmount.new.self) (same ∙ sym path) ∙ c.unmount.ensures.back in
    is_made (g.C.Clock.next c.args.clock.now) c.micros-moment.result (g.H.Host.disk_at c.unmount.new.self repos) (told c.create-made.new.disk)
    c.micros-moment.ensures.value back (came_well c.create-made.result (sym c.is_ok.ensures.value ∙ well) c.create-made.ensures.stands)
