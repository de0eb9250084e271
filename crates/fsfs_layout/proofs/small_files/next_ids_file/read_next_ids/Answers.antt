use Rattle.std.proofs.Common.{ℕ, ap, sym, ◌∙◌, arith, refl}
use Rattle.fsfs_base.proofs.Readers.{all_found, all_again, all_exact, ok_is}
use Rattle.fsfs_layout.proofs.Files.{next_ids_reads, never}
use Rattle.fsfs_layout.proofs.small_files.next_ids_file.read_next_ids.Goals as goal

pub overflow_sub-result : goal.overflow_sub-result
overflow_sub-result c = omega (arith, (all_exact next_ids_reads c.args.bytes.now c.in-Err.left c.in-Err.ensures).0)

pub returns-in-Ok-clause-found : goal.returns-in-Ok-clause-found
returns-in-Ok-clause-found c = all_found next_ids_reads c.args.bytes.now (c.in-Ok.ids.node.number, c.in-Ok.ids.copy.number) c.in-Ok.ensures

pub returns-in-Ok-clause-only : goal.returns-in-Ok-clause-only
returns-in-Ok-clause-only c = λ node copy g.
    let both = ok_is (c.in-Ok.ids.node.number, c.in-Ok.ids.copy.number) (node, copy) (sym c.in-Ok.ensures ∙ all_again next_ids_reads c.args.bytes.now (node, copy) g) in
    (ap (λ (p : ℕ × ℕ). p.0) both, ap (λ (p : ℕ × ℕ). p.1) both)

pub returns-in-Err-clause-only : goal.returns-in-Err-clause-only
returns-in-Err-clause-only c = λ node copy g. absurd (never next_ids_reads c.args.bytes.now (node, copy) c.in-Err.left g c.in-Err.ensures)

pub returns-in-Err-clause-fault : goal.returns-in-Err-clause-fault
returns-in-Err-clause-fault c = record { names = refl; place = (all_exact next_ids_reads c.args.bytes.now c.in-Err.left c.in-Err.ensures).1 }
