-- The lines of jobs behind whose run something else is told, as a run without that would print them.
use Rattle.std.proofs.Common.{◌++◌, ℕ, Bool, List, refl}
use Rattle.std.specs.Prelude.{Option, Some, None, option_map, Ok}
use Rattle.fsfs_base.specs.Streams.{Adds}
use Rattle.fsfs_workers.specs.JobAnswer.{JobAnswer}
use Rattle.fsfs_workers.specs.Runs.{RunScene}
use Rattle.fsfs_workers.specs.RunTexts.{bare_ending, greatest_status, run_text}
use Rattle.fsfs_cli.specs.declared.request.JobRun.{JobRun}
use Rattle.fsfs_top.specs.Scripts.{RunsBy, RunsWith, WorkedBy, WorkedWith}

adds : (old : Option (List ℕ)) (text : List ℕ) → Adds old (option_map (λ (bytes : List ℕ). bytes ++ text) old) text
adds None text = tt
adds (Some bytes) text = refl

-- what the output would be behind them
abbrev would_be : RunScene → List JobAnswer → ℕ → Option (List ℕ)
would_be a answers youngest = option_map (λ (bytes : List ℕ). bytes ++ run_text answers bare_ending youngest) a.written

pub as_printed : (run : JobRun) (known : Bool) (moment before after : ℕ) (benches : ℕ → Type 0) (a b : RunScene) (answers : List JobAnswer) (youngest : ℕ) → WorkedBy run known moment before after benches a b answers youngest
    → RunsBy run known moment before after benches a (record b { written = would_be a answers youngest; write_faults = a.write_faults }) (Ok (greatest_status answers))
as_printed run known moment before after benches a b answers youngest worked =
    worked (would_be a answers youngest) a.write_faults (Ok (greatest_status answers)) (refl, adds a.written (run_text answers bare_ending youngest))

pub with_printed : (run : JobRun) (known : Bool) (beside : Option Bool) (moment before after : ℕ) (benches : ℕ → Type 0) (a b : RunScene) (answers : List JobAnswer) (youngest : ℕ) → WorkedWith run known beside moment before after benches a b answers youngest
    → RunsWith run known beside moment before after benches a (record b { written = would_be a answers youngest; write_faults = a.write_faults }) (Ok (greatest_status answers))
with_printed run known beside moment before after benches a b answers youngest worked =
    worked (would_be a answers youngest) a.write_faults (Ok (greatest_status answers)) (refl, adds a.written (run_text answers bare_ending youngest))
