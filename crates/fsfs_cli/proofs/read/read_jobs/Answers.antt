use Rattle.std.proofs.Common.{◌∙◌, sym, ap, map, string_bytes, refl, []}
use Rattle.clap.specs.Words.{App, found_of, rows_of}
use Rattle.fsfs_cli.specs.Commands.{jobs_app}
use Rattle.fsfs_cli.specs.Words.{taken, jobs_in, run_in}
use Rattle.fsfs_cli.proofs.ReadLemmas.{asked_with}
use Rattle.fsfs_cli.proofs.read.read_jobs.Goals as goal

pub returns : goal.returns
returns c =
    let words = map string_bytes c.args.words.now in
    let rows = rows_of (found_of c.in_ok-matches.matches) in
    let found = ap (λ (a : App). taken a words) (sym c.in_ok-jobs_command.ensures.app) ∙ c.in_ok-matches.ensures.found in
    (jobs_in rows c.in_ok-job_run.job_run, asked_with jobs_app words rows jobs_in run_in c.in_ok-job_run.job_run found c.in_ok-job_run.ensures, (c.required-repos.ensures, ([], refl, refl)))
