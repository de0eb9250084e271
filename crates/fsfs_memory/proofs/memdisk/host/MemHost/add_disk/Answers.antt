use Rattle.std.proofs.Common.{◌≡◌, ap, sym, ◌∙◌}
use Rattle.std.specs.Prelude.{Some, option_map, string_bytes}
use Rattle.std.specs.BTreeMap.{get_by_text, is_at}
use Rattle.std.specs.Map.{lookup}
use Rattle.std.proofs.lemmas.Map.Text.{btree_map_updates_text, text_cmp}
use Rattle.fsfs_memory.specs.Memdisk.MemDisk.{disk_in, trace_of}
use Rattle.fsfs_memory.proofs.PlaceLemmas.{either_way, same_places, set_places, set_here, set_elsewhere}
use Rattle.fsfs_memory.proofs.memdisk.host.MemHost.add_disk.Goals as goal

pub invariant_of-self : goal.invariant_of-self
invariant_of-self c =
    let old = get_by_text c.args.self.now.disks in
    let new = get_by_text c.insert.new.self in
    let path = string_bytes c.in_ok-place.place in
    let mounted = c.mounted_at.ensures.mount_path ∙ c.in_ok-mount_path.ensures.ok ∙ sym c.in_ok-place.ensures.ok in
    record {
      at_their_paths = either_way c.insert.result c.insert.ensures.updates c.insert.ensures.err
          (λ updates. set_places old new path (Some c.mounted_at.result) (λ p. btree_map_updates_text path c.args.self.now.disks c.insert.new.self _ updates p)
          (λ disk is. ap (λ d. string_bytes d.mount_path) (let same : disk ≡ c.mounted_at.result = cc is in same) ∙ mounted) c.args.self.now.at_their_paths)
          (λ unchanged. same_places old new (λ p. ap (λ entries. lookup (is_at (text_cmp p)) entries) unchanged) c.args.self.now.at_their_paths);
    }

pub returns-clause-ok : goal.returns-clause-ok
returns-clause-ok c =
    let old = get_by_text c.args.self.now.disks in
    let new = get_by_text c.insert.new.self in
    let path = string_bytes c.in_ok-place.place in
    ap (λ p. option_map trace_of (disk_in (get_by_text c.insert.new.self p))) (sym c.in_ok-place.ensures.ok)
    ∙ ap (λ place. option_map trace_of (disk_in place)) (set_here old new path (Some c.mounted_at.result) (λ p. btree_map_updates_text path c.args.self.now.disks c.insert.new.self _ c.in_ok-insert.ensures.updates p))
    ∙ ap (λ t. Some t) c.mounted_at.ensures.trace

pub returns-clause-others : goal.returns-clause-others
returns-clause-others c = λ p apart.
    let old = get_by_text c.args.self.now.disks in
    let new = get_by_text c.insert.new.self in
    let path = string_bytes c.in_ok-place.place in
    ap (λ place. option_map trace_of (disk_in place)) (set_elsewhere old new path (Some c.mounted_at.result) (λ q. btree_map_updates_text path c.args.self.now.disks c.insert.new.self _ c.in_ok-insert.ensures.updates q) p (λ e. apart (e ∙ c.in_ok-place.ensures.ok)))
