use Rattle.std.proofs.Common.{sym, ap, subst, ◌∙◌, arith}
use Rattle.fsfs_turn.specs.Views.{shard_parts}
use Rattle.fsfs_pack.proofs.Filling.{parts_told, parts_many, looked_sure, looked_next, looked_full, reads_along}
use Rattle.fsfs_pack.proofs.Written.{both_written, cause_later}
use Rattle.fsfs_pack.proofs.writing.fill.Goals as goal

pub returns-in-Err-clause-fine : goal.returns-in-Err-clause-fine
returns-in-Err-clause-fine g c = λ v known next.
    let l = c.look-youngest.ensures.turned v known in
    let mine = looked_next c.args.shard.now c.look-youngest.result v l.0 l.2 next in
    c.in-Err.ensures.fine (shard_parts l.0 c.args.shard.now.first)
    (parts_told _ c.look-youngest.result l.0 c.args.shard.now.first (c.over_pass-book.ensures.told l.0 l.1) (looked_full c.args.shard.now c.look-youngest.result v l.0 l.2 next))
    (parts_many c.args.shard.now l.0 c.requires.shard mine)

pub returns-in-Err-clause-written : goal.returns-in-Err-clause-written
returns-in-Err-clause-written g c = λ v known sure held next.
    let l = c.look-youngest.ensures.turned v known in
    let same = looked_sure c.look-youngest.result v l.0 l.2 sure held in
    let now = subst (λ z. g.T.Turns.knows c.look-youngest.new.self z) same l.1 in
    let below = ap (λ p. p.0) (c.copy_shard-copied.ensures.kept.below ∙ c.over_pass-book.ensures.below) in
    let go = c.pass_of-turns.ensures.goes_on.known v (subst (λ t. g.T.Turns.knows t v) (sym below) now) in
    (go.0, go.1, go.2, tt)

pub returns-in-Ok-clause-written : goal.returns-in-Ok-clause-written
returns-in-Ok-clause-written g c = λ v known sure held next.
    let x = c.args.shard.now in
    let l = c.look-youngest.ensures.turned v known in
    let same = looked_sure c.look-youngest.result v l.0 l.2 sure held in
    let now = subst (λ z. g.T.Turns.knows c.look-youngest.new.self z) same l.1 in
    let below = ap (λ p. p.0) (c.copy_shard-copied.ensures.kept.below ∙ c.over_pass-book.ensures.below) in
    let go = c.pass_of-turns.ensures.goes_on.known v (subst (λ t. g.T.Turns.knows t v) (sym below) now) in
    let copied = c.in-Ok.ensures.copied (shard_parts v x.first) (g.met.T.Turns.benches_tell c.args.turns v c.args.bench.now known)
    (parts_told _ c.look-youngest.result v x.first (c.over_pass-book.ensures.told v now) (omega (arith, next.full.full, l.2.seen))) (parts_many x v c.requires.shard next) in (
      go.0,
      go.1,
      go.2,
      both_written _ c.finish_files-finished.result x v go.0 c.in-Ok.offsets.items c.deref.result.now (g.T.Bench.Bench.contents c.finish_files-finished.new.bench) c.requires.shard next (reads_along v go.0 go.2) copied.0 c.deref.ensures.value
          (c.finish_files-finished.ensures.pack _ copied.1) c.finish_files-finished.ensures.manifest,
    )

pub returns-in-Ok-clause-disk_cause : goal.returns-in-Ok-clause-disk_cause
returns-in-Ok-clause-disk_cause g c =
    cause_later (g.T.Turns.faults c.args.turns) (g.T.Turns.faults c.pass_of-turns.result) c.finish_files-finished.result
    (omega (arith, c.look-youngest.ensures.faults, c.over_pass-book.ensures.faults, c.copy_shard-copied.ensures.read_cause.later, c.pass_of-turns.ensures.faults)) c.finish_files-finished.ensures.disk_cause
