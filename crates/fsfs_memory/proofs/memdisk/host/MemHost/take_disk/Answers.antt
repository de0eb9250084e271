use Rattle.std.specs.BTreeMap.{get_by_text}
use Rattle.fsfs_memory.proofs.PlaceLemmas.{taken_places}
use Rattle.fsfs_memory.proofs.memdisk.host.MemHost.take_disk.Goals as goal

pub invariant_of-self : goal.invariant_of-self
invariant_of-self c = record {
  at_their_paths = taken_places (get_by_text c.args.self.now.disks) (get_by_text c.take.new.disks) c.args.path.now c.take.result c.take.ensures.emptied c.take.ensures.none c.args.self.now.at_their_paths;
}
