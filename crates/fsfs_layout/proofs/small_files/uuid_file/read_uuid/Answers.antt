use Rattle.std.proofs.Common.{ap, sym, ◌∙◌, arith, Ok, refl}
use Rattle.fsfs_base.proofs.Readers.{all_found, all_again, all_exact, ok_is}
use Rattle.fsfs_layout.proofs.Files.{uuid_reads, never}
use Rattle.fsfs_layout.proofs.small_files.uuid_file.read_uuid.Goals as goal

pub overflow_sub-result : goal.overflow_sub-result
overflow_sub-result c = omega (arith, (all_exact uuid_reads c.args.bytes.now c.in-Err.left c.in-Err.ensures).0)

pub returns-in-Ok-clause-found : goal.returns-in-Ok-clause-found
returns-in-Ok-clause-found c = all_found uuid_reads c.args.bytes.now c.in-Ok.uuid c.in-Ok.ensures

pub returns-in-Ok-clause-only : goal.returns-in-Ok-clause-only
returns-in-Ok-clause-only c = λ u g. ap (λ y. Ok y) (ok_is c.in-Ok.uuid u (sym c.in-Ok.ensures ∙ all_again uuid_reads c.args.bytes.now u g))

pub returns-in-Err-clause-only : goal.returns-in-Err-clause-only
returns-in-Err-clause-only c = λ u g. absurd (never uuid_reads c.args.bytes.now u c.in-Err.left g c.in-Err.ensures)

pub returns-in-Err-clause-fault : goal.returns-in-Err-clause-fault
returns-in-Err-clause-fault c = record { names = refl; place = (all_exact uuid_reads c.args.bytes.now c.in-Err.left c.in-Err.ensures).1 }
