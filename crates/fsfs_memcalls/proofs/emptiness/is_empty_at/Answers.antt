use Rattle.std.proofs.Common.{◌≡◌, List, ℕ, true, sym, subst}
use Rattle.fsfs_folders.specs.System.Paths.{has_path}
use Rattle.fsfs_memcalls.specs.Told.{beginning_of, calls_of}
use Rattle.fsfs_memcalls.proofs.PlaceLemmas.{empty_by_paths}
use Rattle.fsfs_memcalls.proofs.emptiness.is_empty_at.Goals as goal

pub returns : goal.returns
returns c = λ e. empty_by_paths (beginning_of c.args.first.now) (calls_of c.args.calls.now) c.args.above.now
    (λ q here below. c.are_clear.ensures e q (subst (λ (ps : List (List ℕ)). has_path ps q ≡ true) (sym c.requires.all) here) below)
