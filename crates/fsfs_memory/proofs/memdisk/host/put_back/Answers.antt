use Rattle.std.proofs.Common.{rules, ap, ◌∙◌}
use Rattle.std.specs.Prelude.{Some}
use Rattle.std.specs.BTreeMap.{get_by_text}
use Rattle.std.specs.Map.{update}
use Rattle.std.specs.Str.{bytes_eq}
use Rattle.std.proofs.lemmas.Map.Text.{btree_map_updates_text}
use Rattle.fsfs_memory.proofs.memdisk.host.put_back.Goals as goal

pub returns-in-Some : goal.returns-in-Some
returns-in-Some c = λ p.
    btree_map_updates_text c.mount_path.result.now c.args.disks.now (c.get_mut.follows.lender (Some c.args.disk)) _ ((c.get_mut.follows.holds (Some c.args.disk)).3 (search rules)) p
    ∙ ap (λ path. update bytes_eq (get_by_text c.args.disks.now) path (Some (Some c.args.disk)) p) c.mount_path.ensures
