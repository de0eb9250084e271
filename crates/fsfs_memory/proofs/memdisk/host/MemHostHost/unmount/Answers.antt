use Rattle.std.proofs.Common.{◌≡◌, ap}
use Rattle.std.specs.Prelude.{Some, string_bytes}
use Rattle.std.specs.BTreeMap.{get_by_text}
use Rattle.fsfs_memory.proofs.PlaceLemmas.{set_places}
use Rattle.fsfs_memory.proofs.memdisk.host.MemHostHost.unmount.Goals as goal

pub invariant_of-self : goal.invariant_of-self
invariant_of-self c = record {
  at_their_paths = set_places (get_by_text c.args.self.now.disks) (get_by_text c.put_back.new.disks) (string_bytes c.args.disk.mount_path) (Some c.args.disk) c.put_back.ensures
      (λ disk is. ap (λ d. string_bytes d.mount_path) (let same : disk ≡ c.args.disk = cc is in same)) c.args.self.now.at_their_paths;
}
