-- The disk of a path that no task of the words touches stays as it is.
use Rattle.std.proofs.Common.{◌≡◌, ℕ, Bool, List, inl, inr, ap, subst}
use Rattle.std.specs.Prelude.{Option}
use Rattle.fsfs_cli.specs.Readings.{IsUnnamed}
use Rattle.fsfs_cli.specs.declared.faults.fault.Fault.{Fault}
use Rattle.fsfs_cli.specs.declared.request.Task.TheVariants.{RunJobs}
use Rattle.fsfs_cli.specs.declared.tool.Tool.{Tool}
use Rattle.fsfs_cli.specs.declared.tool.Tool.TheVariants as tools
use Rattle.fsfs_top.specs.Command.{Did}
use Rattle.fsfs_top.specs.Scenes.{Scene}
use Rattle.fsfs_top.specs.declared.checked.JobsEnd.{JobsEnd}
use Rattle.fsfs_top.specs.Scripts.{DidJobs}

pub did_others : (tool : Tool) (words : List (List ℕ)) (clock : Option ℕ) (dice : Option (List ℕ)) (a b : Scene) (fault : Option Fault) → Did tool words clock dice a b fault
    → (path : List ℕ) → IsUnnamed tool words path → b.host.disk_at path ≡ a.host.disk_at path
did_others tool words clock dice a b fault (inl (repos, task, asks, does, others)) path none = others path (none repos task asks)
did_others tool words clock dice a b fault (inr (why, is, refuses, kept)) path none = ap (λ (s : Scene). s.host.disk_at path) kept

by_run : (words : List (List ℕ)) (known : Bool) (clock : Option ℕ) (a b : Scene) (end : JobsEnd) → DidJobs words known clock a b end → (path : List ℕ) → IsUnnamed tools.Jobs words path → b.host.disk_at path ≡ a.host.disk_at path
by_run words known clock a b end (inl (repos, run, asks, ran, decided, others)) path none = others path (none repos (RunJobs run) asks)
by_run words known clock a b end (inr (why, is, refuses, kept)) path none = ap (λ (s : Scene). s.host.disk_at path) kept

pub jobs_others : (tool : Tool) (words : List (List ℕ)) (known : Bool) (clock : Option ℕ) (a b : Scene) (end : JobsEnd) → tool ≡ tools.Jobs → DidJobs words known clock a b end
    → (path : List ℕ) → IsUnnamed tool words path → b.host.disk_at path ≡ a.host.disk_at path
jobs_others tool words known clock a b end jobs did path none = by_run words known clock a b end did path (subst (λ (t : Tool). IsUnnamed t words path) jobs none)
