use Rattle.std.proofs.Common.{◌≡◌, ◌∙◌, List, refl, subst}
use Rattle.std.specs.Prelude.{option_map}
use Rattle.std.proofs.lemmas.List.{take_all}
use Rattle.std.proofs.lemmas.Result.{err_from_is_err_and}
use Rattle.fsfs_txn_files.specs.Changes.{changed_all}
use Rattle.fsfs_txn_files.specs.declared.change.FileChange.{FileChange}
use Rattle.fsfs_txn_files.proofs.ChangeLemmas.{none_made, made_more, stopped}
use Rattle.fsfs_txn_files.proofs.making.make_all.Goals as goal

pub loop-change-init : goal.loop-change-init
loop-change-init g c = record { made = none_made (g.B.Bench.contents c.args.bench.now); quiet = refl }

pub loop-change-preserved : goal.loop-change-preserved
loop-change-preserved g c = record {
  made = made_more c.args.changes.now c.loop-change.change-index c.change-item.result (g.B.Bench.contents c.args.bench.now) (g.B.Bench.contents c.loop-change.bench) (g.B.Bench.contents c.make.new.bench)
      c.loop-change-test.true c.change-item.is c.loop-change.invariant.made c.in_ok-make.ensures.done;
  quiet = c.in_ok-make.ensures.cause.kept ∙ c.loop-change.invariant.quiet;
}

pub returns-in_err-make-clause-failed : goal.returns-in_err-make-clause-failed
returns-in_err-make-clause-failed g c =
    let r = err_from_is_err_and c.from_residual.result c.from_residual.ensures.1 in
    rw (r.1, r.2) (stopped c.args.changes.now c.loop-change.change-index c.change-item.result (g.B.Bench.contents c.args.bench.now) (g.B.Bench.contents c.loop-change.bench) (g.B.Bench.contents c.make.new.bench) c.in_err-make.field-0.0
    c.loop-change-test.true c.change-item.is c.loop-change.invariant.made c.in_err-make.ensures.failed)

pub returns-clause-done : goal.returns-clause-done
returns-clause-done g c =
    let all = take_all c.loop-change.change-index c.args.changes.now c.loop-change-test.false in
    subst (λ (l : List FileChange). g.B.Bench.contents c.loop-change.bench ≡ option_map (changed_all l) (g.B.Bench.contents c.args.bench.now)) all c.loop-change.invariant.made
