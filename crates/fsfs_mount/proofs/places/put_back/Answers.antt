use Rattle.std.proofs.Common.{rules}
use Rattle.std.specs.Prelude.{Some}
use Rattle.std.proofs.lemmas.Map.Text.{btree_map_updates_text}
use Rattle.fsfs_mount.proofs.places.put_back.Goals as goal

pub returns-in-Some : goal.returns-in-Some
returns-in-Some g c = λ p.
    btree_map_updates_text c.args.path.now c.args.places.now (c.get_mut.follows.lender (Some c.args.held)) _ ((c.get_mut.follows.holds (Some c.args.held)).3 (search rules)) p
