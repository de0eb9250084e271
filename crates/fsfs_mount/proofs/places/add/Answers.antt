use Rattle.std.specs.Prelude.{string_bytes}
use Rattle.std.proofs.lemmas.Map.Text.{btree_map_updates_text}
use Rattle.fsfs_mount.proofs.places.add.Goals as goal

pub returns-in-Ok-clause-ok : goal.returns-in-Ok-clause-ok
returns-in-Ok-clause-ok g c = λ p. btree_map_updates_text (string_bytes c.args.path) c.args.places.now c.insert.new.self _ c.in-Ok.ensures.updates p
