use Rattle.std.proofs.Common.{rules, ◌≡◌, ℕ, ◌-◌, take, drop, length, refl, ap, subst, ◌∙◌, arith}
use Rattle.std.proofs.lemmas.List.{length-drop, take_all}
use Rattle.fsfs_folders.specs.Writing.{Writes}
use Rattle.fsfs_folders.proofs.WritingLemmas.{wrote_none, went_on, ended, wrote_some, on_err}
use Rattle.fsfs_folders.proofs.writing.append_all.Goals as goal

pub loop-rest-init : goal.loop-rest-init
loop-rest-init g c = (0, omega arith, refl, wrote_none (g.C.File.OpenFile.number c.args.file.now) (g.C.Calls.history c.args.calls.now))

pub loop-rest-preserved : goal.loop-rest-preserved
loop-rest-preserved g c =
    let so = c.loop-rest.invariant in
    let next = went_on (g.C.File.OpenFile.number c.args.file.now) (g.C.Calls.history c.args.calls.now) (g.C.Calls.history c.loop-rest.calls) (g.C.Calls.history c.append.new.self)
    c.args.bytes.now c.loop-rest.rest.now so.0 c.in_ok-count.count so.1 so.2 (c.in_ok-count.ensures.count).1 so.3 c.in_ok-count.ensures.ok in
    let whole : take (length c.loop-rest.rest.now - c.in_ok-count.count) (drop c.in_ok-count.count c.loop-rest.rest.now) ≡ drop c.in_ok-count.count c.loop-rest.rest.now =
    take_all (length c.loop-rest.rest.now - c.in_ok-count.count) (drop c.in_ok-count.count c.loop-rest.rest.now) (omega (arith, length-drop c.in_ok-count.count c.loop-rest.rest.now)) in
    (next.0, next.1, whole ∙ next.2, next.3)

pub returns-in_err-count-clause-err : goal.returns-in_err-count-clause-err
returns-in_err-count-clause-err g c =
    let so = c.loop-rest.invariant in
    on_err c.from_residual.result (wrote_some (g.C.File.OpenFile.number c.args.file.now) (g.C.Calls.history c.args.calls.now) (g.C.Calls.history c.loop-rest.calls) (g.C.Calls.history c.append.new.self)
    c.args.bytes.now c.loop-rest.rest.now so.0 so.1 so.2 so.3 c.in_err-count.ensures.err)

pub returns-clause-ok : goal.returns-clause-ok
returns-clause-ok g c =
    let so = c.loop-rest.invariant in
    subst (λ z. Writes (g.C.File.OpenFile.number c.args.file.now) z (g.C.Calls.history c.args.calls.now) (g.C.Calls.history c.loop-rest.calls)) (ended so.0 c.args.bytes.now c.loop-rest.rest.now so.1 so.2 (search rules)) so.3
