use Rattle.std.proofs.Common.{sym, ◌∙◌, arith, refl}
use Rattle.fsfs_base.proofs.Readers.{all_found, all_again, all_exact, ok_is}
use Rattle.fsfs_layout.proofs.Files.{never}
use Rattle.fsfs_layout.proofs.Manifests.{layout_manifest}
use Rattle.fsfs_layout.proofs.small_files.manifest_file.read_manifest.Goals as goal

pub overflow_sub-result : goal.overflow_sub-result
overflow_sub-result c = let e = rw (c.in-Err-Left.field-0-is, c.shard_size.ensures.size) at c.in-Err-Left.ensures in omega (arith, (all_exact (layout_manifest c.args.layout) c.args.bytes.now c.in-Err-Left.left e).0)

pub returns-in-Ok-clause-found : goal.returns-in-Ok-clause-found
returns-in-Ok-clause-found c = let e = rw c.shard_size.ensures.size at c.in-Ok.ensures in all_found (layout_manifest c.args.layout) c.args.bytes.now c.in-Ok.found.items e

pub returns-in-Ok-clause-only : goal.returns-in-Ok-clause-only
returns-in-Ok-clause-only c = λ offsets w. let e = rw c.shard_size.ensures.size at c.in-Ok.ensures in ok_is c.in-Ok.found.items offsets (sym e ∙ all_again (layout_manifest c.args.layout) c.args.bytes.now offsets w)

pub returns-in-Err-Left-clause-only : goal.returns-in-Err-Left-clause-only
returns-in-Err-Left-clause-only c = λ offsets w. let e = rw (c.in-Err-Left.field-0-is, c.shard_size.ensures.size) at c.in-Err-Left.ensures in absurd (never (layout_manifest c.args.layout) c.args.bytes.now offsets c.in-Err-Left.left w e)

pub returns-in-Err-Left-clause-fault : goal.returns-in-Err-Left-clause-fault
returns-in-Err-Left-clause-fault c = let e = rw (c.in-Err-Left.field-0-is, c.shard_size.ensures.size) at c.in-Err-Left.ensures in record { names = refl; place = (all_exact (layout_manifest c.args.layout) c.args.bytes.now c.in-Err-Left.left e).1 }
