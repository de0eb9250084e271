use Rattle.std.proofs.Common.{◌++◌, ◌∷◌, [], ◌-◌, ◌∙◌, ap, arith, refl, List, ℕ}
use Rattle.std.proofs.lemmas.Result.{err_from_is_err_and}
use Rattle.fsfs_layout.specs.ManifestReading.{lines_at}
use Rattle.fsfs_layout.proofs.Manifests.{lines_begin, lines_more, lines_fault, lines_end}
use Rattle.fsfs_layout.proofs.small_files.manifest_file.lines.Goals as goal

pub returns-in_err-rest : goal.returns-in_err-rest
unfolding lines_at
returns-in_err-rest c = let p = err_from_is_err_and c.from_residual.result c.from_residual.ensures.1 in rw (p.1, p.2, c.in_err-rest.ensures) refl

pub loop-init : goal.loop-init
loop-init c = lines_begin c.args.shard_size c.args.bytes.now c.in_ok-rest.rest.now c.push.new.self.items c.in_ok-rest.ensures (c.in_ok-push.ensures.items ∙ ap (λ (t : List ℕ). t ++ 0 ∷ []) c.new-found.ensures.items)

pub returns-in_err-next : goal.returns-in_err-next
returns-in_err-next c =
    let p = err_from_is_err_and c.from_residual-in_err-next.result c.from_residual-in_err-next.ensures.1 in
    rw (p.1, p.2) (lines_fault c.loop.found.items (c.args.shard_size - 1) c.loop.counter c.loop.low c.loop.rest.now (lines_at c.args.shard_size c.args.bytes.now) c.loop.invariant _ (omega arith) c.in_err-next.ensures)

pub loop-preserved : goal.loop-preserved
loop-preserved c =
    rw c.in_ok-push-2.ensures.items (lines_more c.loop.found.items (c.args.shard_size - 1) c.loop.counter c.loop.low c.loop.rest.now (lines_at c.args.shard_size c.args.bytes.now) c.loop.invariant c.in_ok-next.next c.in_ok-next.after.now (omega arith) c.in_ok-next.ensures)

pub returns : goal.returns
returns c = lines_end c.loop.found.items (c.args.shard_size - 1) c.loop.counter c.loop.low c.loop.rest.now (lines_at c.args.shard_size c.args.bytes.now) c.loop.invariant (omega arith)
