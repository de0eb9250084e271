use Rattle.std.proofs.Common.{◌≡◌, rules, List, ℕ, [], ◌∷◌, ◌++◌, ◌+◌, take, length, refl, true, false, sym, ap, subst, ◌∙◌, arith}
use Rattle.std.proofs.lemmas.List.{take_all, take_more}
use Rattle.fsfs_folders.specs.BenchFiles.{Clears}
use Rattle.fsfs_folders.proofs.Clearing.{cleared_none, cleared_more}
use Rattle.fsfs_folders.proofs.benches.bench_files.remove_all.Goals as goal

pub loop-name-init : goal.loop-name-init
loop-name-init g c = cleared_none (g.C.Calls.history c.args.calls.now)

pub loop-name-preserved : goal.loop-name-preserved
loop-name-preserved g c =
    let names = c.args.names.now in
    let i = c.loop-name.name-index in
    let name = c.name-item.result in
    let more = cleared_more (take i names) name (g.C.Calls.history c.args.calls.now) (g.C.Calls.history c.loop-name.calls) (g.C.Calls.history c.remove_from.new.calls) c.loop-name.invariant (search rules) in
    let here : take i names ++ name ∷ [] ≡ take (i + 1) names = ap (λ (f : List ℕ). take i names ++ f ∷ []) c.name-item.is ∙ sym (take_more names i name (omega arith)) in
    subst (λ ns. Clears ns (g.C.Calls.history c.args.calls.now) (g.C.Calls.history c.remove_from.new.calls)) here more

pub returns : goal.returns
returns g c =
    subst (λ ns. Clears ns (g.C.Calls.history c.args.calls.now) (g.C.Calls.history c.loop-name.calls)) (take_all c.loop-name.name-index c.args.names.now (omega arith)) c.loop-name.invariant
