use Rattle.std.proofs.Common.{◌≡◌, ◌∙◌, ap, sym, subst, arith}
use Rattle.fsfs_disk.specs.Crash.{IsFirm}
use Rattle.fsfs_disk.proofs.CrashLemmas.{same_leaves}
use Rattle.fsfs_base.specs.Failures.{Rose}
use Rattle.fsfs_layout.specs.CreatedFiles.{random_identifier}
use Rattle.fsfs_layout.specs.Folders.{AreShards, size_of}
use Rattle.fsfs_layout.specs.Layouts.{shard_size}
use Rattle.fsfs_top.specs.Scenes.{host_scene}
use Rattle.fsfs_top.proofs.CreationTold.{drawn, created_done, created_failed, leaves_created, some_drawn}
use Rattle.fsfs_top.proofs.top.create_at.Goals as goal

pub create-made-requires-clause-packs : goal.create-made-requires-clause-packs
create-made-requires-clause-packs g c = record { format = c.sharded-layout.ensures.format; sharded = subst AreShards (sym c.sharded-layout.ensures.folders) tt }

pub returns-in-Ok-made-clause-created : goal.returns-in-Ok-made-clause-created
returns-in-Ok-made-clause-created g c =
    let told = g.H.Mounted.Disk.trace in
    let d = drawn (g.C.Clock.next c.args.clock.now) (g.R.Dice.next c.args.dice.now) c.micros-moment.result c.bytes16.result c.micros-moment.ensures.value c.bytes16.ensures.value in
    let named : c.into_uuid-identifier.result ≡ random_identifier c.bytes16.result = c.into_uuid-identifier.ensures ∙ c.from_random_bytes.ensures.value in
    let path : g.H.Mounted.Disk.mount_path c.create-made.new.disk ≡ c.args.repos.now = c.create-made.ensures.mounted ∙ c.in-Ok.ensures.path in
    let back : g.H.Host.disk_at c.unmount.new.self c.args.repos.now ≡ told c.create-made.new.disk = ap (g.H.Host.disk_at c.unmount.new.self) (sym path) ∙ c.unmount.ensures.back in
    let size : shard_size c.sharded-layout.result ≡ c.args.shard = ap size_of c.sharded-layout.ensures.folders in
    rw (sym size) (created_done c.args.repos.now (host_scene g.H.Host c.args.host.now) (host_scene g.H.Host c.unmount.new.self)
    (shard_size c.sharded-layout.result) (g.C.Clock.next c.args.clock.now) (g.R.Dice.next c.args.dice.now) d c.into_uuid-identifier.result (told c.in-Ok.disk) (told c.create-made.new.disk)
    named c.in-Ok.ensures.disk back c.in-Ok-made.ensures.fresh c.in-Ok-made.ensures.created)

pub returns-in-Ok-made-clause-any_moment : goal.returns-in-Ok-made-clause-any_moment
returns-in-Ok-made-clause-any_moment g c =
    let told = g.H.Mounted.Disk.trace in
    let d = drawn (g.C.Clock.next c.args.clock.now) (g.R.Dice.next c.args.dice.now) c.micros-moment.result c.bytes16.result c.micros-moment.ensures.value c.bytes16.ensures.value in
    let named : c.into_uuid-identifier.result ≡ random_identifier c.bytes16.result = c.into_uuid-identifier.ensures ∙ c.from_random_bytes.ensures.value in
    let path : g.H.Mounted.Disk.mount_path c.create-made.new.disk ≡ c.args.repos.now = c.create-made.ensures.mounted ∙ c.in-Ok.ensures.path in
    let back : g.H.Host.disk_at c.unmount.new.self c.args.repos.now ≡ told c.create-made.new.disk = ap (g.H.Host.disk_at c.unmount.new.self) (sym path) ∙ c.unmount.ensures.back in
    let size : shard_size c.sharded-layout.result ≡ c.args.shard = ap size_of c.sharded-layout.ensures.folders in
    rw (sym size) (leaves_created (shard_size c.sharded-layout.result) (g.C.Clock.next c.args.clock.now) (g.R.Dice.next c.args.dice.now) d c.into_uuid-identifier.result (told c.in-Ok.disk) (told c.create-made.new.disk)
    (g.H.Host.disk_at c.args.host.now c.args.repos.now) (g.H.Host.disk_at c.unmount.new.self c.args.repos.now) named c.in-Ok.ensures.disk back c.create-made.ensures.any_moment)

pub returns-in-Err-made-clause-created : goal.returns-in-Err-made-clause-created
returns-in-Err-made-clause-created g c =
    let told = g.H.Mounted.Disk.trace in
    let d = drawn (g.C.Clock.next c.args.clock.now) (g.R.Dice.next c.args.dice.now) c.micros-moment.result c.bytes16.result c.micros-moment.ensures.value c.bytes16.ensures.value in
    let named : c.into_uuid-identifier.result ≡ random_identifier c.bytes16.result = c.into_uuid-identifier.ensures ∙ c.from_random_bytes.ensures.value in
    let path : g.H.Mounted.Disk.mount_path c.create-made.new.disk ≡ c.args.repos.now = c.create-made.ensures.mounted ∙ c.in-Ok.ensures.path in
    let back : g.H.Host.disk_at c.unmount.new.self c.args.repos.now ≡ told c.create-made.new.disk = ap (g.H.Host.disk_at c.unmount.new.self) (sym path) ∙ c.unmount.ensures.back in
    let counted : Rose (g.H.Mounted.Disk.faults c.in-Ok.disk) (g.H.Mounted.Disk.faults c.create-made.new.disk) → Rose (g.H.Host.disk_faults c.args.host.now) (g.H.Host.disk_faults c.unmount.new.self) =
    λ rose. omega (arith, rose, c.in-Ok.ensures.new, c.in-Ok.ensures.same_faults, c.unmount.ensures.faults) in
    let size : shard_size c.sharded-layout.result ≡ c.args.shard = ap size_of c.sharded-layout.ensures.folders in
    rw (sym size) (created_failed c.args.repos.now (host_scene g.H.Host c.args.host.now) (host_scene g.H.Host c.unmount.new.self) (Rose (g.H.Mounted.Disk.faults c.in-Ok.disk) (g.H.Mounted.Disk.faults c.create-made.new.disk))
    (shard_size c.sharded-layout.result) (g.C.Clock.next c.args.clock.now) (g.R.Dice.next c.args.dice.now) d c.into_uuid-identifier.result (told c.in-Ok.disk) (told c.create-made.new.disk)
    c.in-Err-made.fault c.from.result c.from.ensures named c.in-Ok.ensures.disk back counted c.in-Err-made.ensures.refused)

pub returns-in-Err-made-clause-any_moment : goal.returns-in-Err-made-clause-any_moment
returns-in-Err-made-clause-any_moment g c =
    let told = g.H.Mounted.Disk.trace in
    let d = drawn (g.C.Clock.next c.args.clock.now) (g.R.Dice.next c.args.dice.now) c.micros-moment.result c.bytes16.result c.micros-moment.ensures.value c.bytes16.ensures.value in
    let named : c.into_uuid-identifier.result ≡ random_identifier c.bytes16.result = c.into_uuid-identifier.ensures ∙ c.from_random_bytes.ensures.value in
    let path : g.H.Mounted.Disk.mount_path c.create-made.new.disk ≡ c.args.repos.now = c.create-made.ensures.mounted ∙ c.in-Ok.ensures.path in
    let back : g.H.Host.disk_at c.unmount.new.self c.args.repos.now ≡ told c.create-made.new.disk = ap (g.H.Host.disk_at c.unmount.new.self) (sym path) ∙ c.unmount.ensures.back in
    let size : shard_size c.sharded-layout.result ≡ c.args.shard = ap size_of c.sharded-layout.ensures.folders in
    rw (sym size) (leaves_created (shard_size c.sharded-layout.result) (g.C.Clock.next c.args.clock.now) (g.R.Dice.next c.args.dice.now) d c.into_uuid-identifier.result (told c.in-Ok.disk) (told c.create-made.new.disk)
    (g.H.Host.disk_at c.args.host.now c.args.repos.now) (g.H.Host.disk_at c.unmount.new.self c.args.repos.now) named c.in-Ok.ensures.disk back c.create-made.ensures.any_moment)

pub returns-in-Ok-made-clause-firm : goal.returns-in-Ok-made-clause-firm
returns-in-Ok-made-clause-firm g c =
    let told = g.H.Mounted.Disk.trace in
    let path : g.H.Mounted.Disk.mount_path c.create-made.new.disk ≡ c.args.repos.now = c.create-made.ensures.mounted ∙ c.in-Ok.ensures.path in
    let back : g.H.Host.disk_at c.unmount.new.self c.args.repos.now ≡ told c.create-made.new.disk = ap (g.H.Host.disk_at c.unmount.new.self) (sym path) ∙ c.unmount.ensures.back in
    subst IsFirm (sym back) c.in-Ok-made.ensures.firm

pub sharded-layout-requires-clause-some : goal.sharded-layout-requires-clause-some
sharded-layout-requires-clause-some g c = omega (arith, c.requires.0)

pub sharded-layout-requires-clause-most : goal.sharded-layout-requires-clause-most
sharded-layout-requires-clause-most g c = omega (arith, c.requires.1)

pub create-made-requires-clause-right : goal.create-made-requires-clause-right
create-made-requires-clause-right g c = c.in-Ok.ensures.right tt

pub returns-in-Err-clause-any_moment : goal.returns-in-Err-clause-any_moment
returns-in-Err-clause-any_moment g c = λ all.
    (some_drawn (g.C.Clock.next c.args.clock.now) (g.R.Dice.next c.args.dice.now), same_leaves (g.H.Host.disk_at c.args.host.now c.args.repos.now) (g.H.Host.disk_at c.mount.new.self c.args.repos.now) _ c.in-Err.ensures.err)
