use Rattle.std.proofs.Common.{◌≡◌, ◌++◌, map, take, List, ℕ, Bor}
use Rattle.std.specs.String.{string_bytes}
use Rattle.fsfs_base.proofs.paths.path.FsPath.with_names.Given as goal

abbrev pub invariant-loop-name : goal.invariant-loop-name
invariant-loop-name l = map string_bytes l.all.items ≡ l.self ++ map (λ (name : Bor (List ℕ)). name.now) (take l.name-index l.names)
