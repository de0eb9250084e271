use Rattle.std.proofs.Common.{sym, ◌∙◌, arith}
use Rattle.fsfs_base.proofs.Readers.{all_found, all_again, all_exact, ok_is}
use Rattle.fsfs_layout.proofs.Dumps.{no_fault}
use Rattle.fsfs_layout.specs.Hash.Reading.{dump_at, views}
use Rattle.fsfs_layout.proofs.Dumps.{dump_reads}
use Rattle.fsfs_layout.proofs.hash.in_place.read_hash_in_place.Goals as goal

pub overflow_sub-result : goal.overflow_sub-result
overflow_sub-result c = let e = rw c.in-Err-Left.field-0-is at c.in-Err-Left.ensures in omega (arith, (all_exact dump_reads c.args.bytes.now c.in-Err-Left.left e).0)

pub returns-in-Ok-clause-found : goal.returns-in-Ok-clause-found
returns-in-Ok-clause-found c = all_found dump_reads c.args.bytes.now (views c.in-Ok.pairs.items) c.in-Ok.ensures

pub returns-in-Ok-clause-only : goal.returns-in-Ok-clause-only
returns-in-Ok-clause-only c = λ pairs w. ok_is (views c.in-Ok.pairs.items) pairs (sym c.in-Ok.ensures ∙ all_again dump_reads c.args.bytes.now pairs w)

pub returns-in-Err-Left-clause-only : goal.returns-in-Err-Left-clause-only
returns-in-Err-Left-clause-only c = λ pairs w. let e = rw c.in-Err-Left.field-0-is at c.in-Err-Left.ensures in no_fault (dump_at c.args.bytes.now) pairs c.in-Err-Left.left (all_again dump_reads c.args.bytes.now pairs w) e

pub returns-in-Err-Left-clause-fault : goal.returns-in-Err-Left-clause-fault
returns-in-Err-Left-clause-fault c = let e = rw c.in-Err-Left.field-0-is at c.in-Err-Left.ensures in (all_exact dump_reads c.args.bytes.now c.in-Err-Left.left e).1
