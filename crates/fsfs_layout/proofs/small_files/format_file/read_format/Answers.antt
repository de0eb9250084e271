use Rattle.std.proofs.Common.{ap, sym, ◌∙◌, arith, Ok, refl}
use Rattle.fsfs_base.proofs.Readers.{ok_is}
use Rattle.fsfs_layout.specs.Reading.{format_parts}
use Rattle.fsfs_layout.proofs.Files.{format_found, format_again, format_exact, format_same}
use Rattle.fsfs_layout.proofs.small_files.format_file.read_format.Goals as goal

pub overflow_sub-result : goal.overflow_sub-result
overflow_sub-result c = omega (arith, (format_exact c.args.bytes.now c.in-Err.left c.in-Err.ensures).0)

pub returns-in-Ok-clause-found : goal.returns-in-Ok-clause-found
returns-in-Ok-clause-found c = format_found c.args.bytes.now c.in-Ok.found c.in-Ok.ensures

pub returns-in-Ok-clause-only : goal.returns-in-Ok-clause-only
returns-in-Ok-clause-only c = λ f g. ap (λ y. Ok y) (format_same c.in-Ok.found f (ok_is (format_parts c.in-Ok.found) (format_parts f) (sym c.in-Ok.ensures ∙ format_again c.args.bytes.now f g)))

pub returns-in-Err-clause-only : goal.returns-in-Err-clause-only
returns-in-Err-clause-only c = λ f g. let e = sym c.in-Err.ensures ∙ format_again c.args.bytes.now f g in absurd cc

pub returns-in-Err-clause-fault : goal.returns-in-Err-clause-fault
returns-in-Err-clause-fault c = record { names = refl; place = (format_exact c.args.bytes.now c.in-Err.left c.in-Err.ensures).1 }
