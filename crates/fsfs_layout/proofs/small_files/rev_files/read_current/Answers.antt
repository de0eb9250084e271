use Rattle.std.proofs.Common.{ap, sym, ◌∙◌, arith, Ok, refl}
use Rattle.fsfs_base.proofs.Readers.{all_found, all_again, all_exact, ok_is}
use Rattle.fsfs_layout.proofs.Files.{rev_line_reads, never}
use Rattle.fsfs_layout.proofs.small_files.rev_files.read_current.Goals as goal

pub overflow_sub-result : goal.overflow_sub-result
overflow_sub-result c = omega (arith, (all_exact rev_line_reads c.args.bytes.now c.in-Err.left c.in-Err.ensures).0)

pub returns-in-Ok-clause-found : goal.returns-in-Ok-clause-found
returns-in-Ok-clause-found c = all_found rev_line_reads c.args.bytes.now c.in-Ok.rev c.in-Ok.ensures

pub returns-in-Ok-clause-only : goal.returns-in-Ok-clause-only
returns-in-Ok-clause-only c = λ n g. ap (λ y. Ok y) (ok_is c.in-Ok.rev n (sym c.in-Ok.ensures ∙ all_again rev_line_reads c.args.bytes.now n g))

pub returns-in-Err-clause-only : goal.returns-in-Err-clause-only
returns-in-Err-clause-only c = λ n g. absurd (never rev_line_reads c.args.bytes.now n c.in-Err.left g c.in-Err.ensures)

pub returns-in-Err-clause-fault : goal.returns-in-Err-clause-fault
returns-in-Err-clause-fault c = record { names = refl; place = (all_exact rev_line_reads c.args.bytes.now c.in-Err.left c.in-Err.ensures).1 }
