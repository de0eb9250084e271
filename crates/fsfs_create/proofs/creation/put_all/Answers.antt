use Rattle.std.proofs.Common.{◌+◌, arith, map, option_map, take, drop, sym, subst, ap, ◌∙◌}
use Rattle.fsfs_base.proofs.ResultLemmas.{on_err_always}
use Rattle.fsfs_disk.specs.Trace.{Put, Performs, FailsToPut}
use Rattle.fsfs_create.specs.NewFiles.{named}
use Rattle.fsfs_create.specs.Creation.{after_puts}
use Rattle.fsfs_create.proofs.CreationLemmas.{puts_more, parts_at, taken_more}
use Rattle.fsfs_create.proofs.creation.put_all.Goals as goal

pub returns-in_err-put-clause-stopped : goal.returns-in_err-put-clause-stopped
returns-in_err-put-clause-stopped g c =
    let i = c.loop-file.file-index in
    let file = c.file-item.result in
    let put : FailsToPut file.name file.bytes.items (option_map (after_puts (map named (take i c.args.files.now))) (g.D.Disk.trace c.args.disk.now)) (g.D.Disk.trace c.put.new.self) =
    subst (λ o. FailsToPut file.name file.bytes.items o (g.D.Disk.trace c.put.new.self)) c.loop-file.invariant.done
    (subst (λ b. FailsToPut file.name b (g.D.Disk.trace c.loop-file.disk) (g.D.Disk.trace c.put.new.self)) c.deref.ensures.value c.in_err-put.ensures.err) in
    on_err_always c.from_residual.result
    (map named (take i c.args.files.now), named file, map named (drop (i + 1) c.args.files.now), parts_at c.args.files.now i file c.loop-file-test.true c.file-item.is, put)

pub loop-file-preserved : goal.loop-file-preserved
loop-file-preserved g c =
    let i = c.loop-file.file-index in
    let file = c.file-item.result in
    let told = g.D.Disk.trace in
    let put : Performs (Put file.name file.bytes.items) (told c.loop-file.disk) (told c.put.new.self) =
    subst (λ b. Performs (Put file.name b) (told c.loop-file.disk) (told c.put.new.self)) c.deref.ensures.value c.in_ok-put.ensures.ok in
    record {
      done = puts_more (map named (take i c.args.files.now)) (named file) (told c.args.disk.now) (told c.loop-file.disk) (told c.put.new.self) c.loop-file.invariant.done put
          ∙ ap (λ files. option_map (after_puts files) (told c.args.disk.now)) (sym (taken_more c.args.files.now i file c.loop-file-test.true c.file-item.is));
      mounted = grind arith;
      right = c.put.ensures.right ∙ c.loop-file.invariant.right;
      later = grind arith;
    }
