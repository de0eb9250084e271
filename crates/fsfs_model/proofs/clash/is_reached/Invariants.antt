use Rattle.std.proofs.Common.{◌≡◌, true, take}
use Rattle.std.specs.FinMap as map
use Rattle.fsfs_model.specs.Flat.Marks.{effects_by}
use Rattle.fsfs_model.specs.Flat.Landing.{goes_on, reached}
use Rattle.fsfs_model.proofs.clash.is_reached.Given as goal

abbrev pub invariant-loop-count : goal.invariant-loop-count
invariant-loop-count l = reached (λ q. goes_on l.b (effects_by l.outer q) (map.get l.base q) (map.get l.head q)) (take l.count l.path) ≡ true
