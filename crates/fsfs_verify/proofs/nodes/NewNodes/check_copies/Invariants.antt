use Rattle.std.proofs.Common.{◌≡◌, ◌<◌, ℕ}
use Rattle.std.specs.Prelude.{Some, slice_get}
use Rattle.fsfs_verify.specs.declared.nodes.Copied.{Copied}
use Rattle.fsfs_verify.specs.LinksUp.{LeadsUp}
use Rattle.fsfs_verify.proofs.nodes.NewNodes.check_copies.Given as goal

-- each copy so far stands at its path
abbrev pub invariant-loop-copy : goal.invariant-loop-copy
invariant-loop-copy l = record {
  led : (k : ℕ) (x : Copied) → k < l.copy-index → slice_get l.self.copies.items k ≡ Some x → LeadsUp l.self.links l.fn.root x.place x.path;
}
