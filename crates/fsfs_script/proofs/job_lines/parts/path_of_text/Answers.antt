use Rattle.std.proofs.Common.{sym}
use Rattle.fsfs_script.proofs.PathReadings.{path_again, path_none}
use Rattle.fsfs_script.proofs.job_lines.parts.path_of_text.Goals as goal

pub returns-in-Ok : goal.returns-in-Ok
returns-in-Ok c = sym (path_again c.args.text.now c.in-Ok.path (record { path_is = c.in-Ok.ensures.path; text_is = c.in-Ok.ensures.text }))

pub returns-in-Err-Bad : goal.returns-in-Err-Bad
returns-in-Err-Bad c = path_none c.args.text.now (λ p is. let e = rw c.in-Err-Bad.field-0-is at c.in-Err-Bad.ensures.only p is.path_is is.text_is in absurd cc)
