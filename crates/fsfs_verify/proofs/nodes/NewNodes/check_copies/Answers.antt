use Rattle.std.proofs.Common.{◌≡◌, ◌<◌, ℕ, arith}
use Rattle.fsfs_verify.proofs.nodes.NewNodes.check_copies.Goals as goal

pub loop-copy-init : goal.loop-copy-init
loop-copy-init c = record { led = λ k x less is. absurd (omega (arith, less)) }
