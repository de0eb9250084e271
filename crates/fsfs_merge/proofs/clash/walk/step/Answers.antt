use Rattle.std.proofs.Common.{◌<◌, ◌+◌, List, Option, sym, subst, arith}
use Rattle.std.proofs.lemmas.Result.{on_ok_weaker}
use Rattle.fsfs_merge.specs.declared.clash.merged.MergedDir.{MergedDir}
use Rattle.fsfs_merge.specs.declared.clash.walk.Found.{Found}
use Rattle.fsfs_merge.specs.declared.clash.turn.Turn.{Turn}
use Rattle.fsfs_merge.specs.Clash.Dirs.{dirs_in}
use Rattle.fsfs_merge.specs.Clash.Readings.{LookAt}
use Rattle.fsfs_merge.specs.Clash.Turning.{lists_value, IsHome, IsTurn, IsTurnIn}
use Rattle.fsfs_merge.specs.Clash.Weights.{total, weight}
use Rattle.fsfs_merge.specs.Clash.UnderWay.{IsUnderWay, GoesDown}
use Rattle.fsfs_merge.proofs.Stepping.{memory_failure, memory_cause, next_within, halt_step, open_step, turn_weight, turn_before}
use Rattle.fsfs_merge.proofs.WeightLemmas.{weight_some}
use Rattle.fsfs_merge.proofs.clash.walk.step.Goals as goal

pub returns-in-Halts-clause-told : goal.returns-in-Halts-clause-told
returns-in-Halts-clause-told g c = λ look top see knows seen way.
    let f = g.N.Own.folder c.args.own.now in
    let R = LookAt look f c.args.base (dirs_in c.args.next.three) in
    let was = c.args.walk.now in
    let turn = subst (λ (t : Turn). IsTurn R t) c.in-Halts.is (c.in_ok-turn.ensures.told look top knows (next_within look top f c.args.base see seen was.todo.items c.args.next was.first was.dirs.items way)) in
    subst (λ (o : Option Found). IsUnderWay see was.todo.items o was.dirs.items) (sym c.note.ensures) (halt_step look top f c.args.base see seen was.todo.items c.args.next c.in-Halts.halt was.first was.dirs.items way turn)

pub returns-in-Halts-clause-total : goal.returns-in-Halts-clause-total
returns-in-Halts-clause-total g c = weight_some c.args.next.three.base _

pub returns-in-Down-clause-told : goal.returns-in-Down-clause-told
returns-in-Down-clause-told g c = λ look top see knows seen way.
    let f = g.N.Own.folder c.args.own.now in
    let R = LookAt look f c.args.base (dirs_in c.args.next.three) in
    let was = c.args.walk.now in
    let now = c.go_down.new.walk in
    let turn = subst (λ (t : Turn). IsTurn R t) c.in-Down.is (c.in_ok-turn.ensures.told look top knows (next_within look top f c.args.base see seen was.todo.items c.args.next was.first was.dirs.items way)) in
    on_ok_weaker c.go_down.result
    (λ (o : GoesDown (lists_value c.in-Down.lists) c.args.next.path was now).
    subst (λ (first : Option Found). IsUnderWay see now.todo.items first now.dirs.items) (sym o.first)
    (subst (λ (l : List MergedDir). IsUnderWay see now.todo.items was.first l) (sym o.dirs)
    (open_step look top f c.args.base see seen was.todo.items c.args.next c.in-Down.lists was.first was.dirs.items now.todo.items o.dir way turn o.opened)))
    c.go_down.ensures.opened

pub returns-in-Down-clause-failure : goal.returns-in-Down-clause-failure
returns-in-Down-clause-failure g c = memory_failure c.go_down.result c.go_down.ensures.memory

pub returns-in-Down-clause-total : goal.returns-in-Down-clause-total
returns-in-Down-clause-total g c =
    let base = c.args.next.three.base in
    let home : IsHome c.in-Down.lists base = subst (λ (t : Turn). IsTurnIn base t) c.in-Down.is c.in_ok-turn.ensures.base in
    let same = turn_weight base c.in-Down.lists home in
    on_ok_weaker c.go_down.result (λ (less : total c.go_down.new.walk.todo.items < total c.args.walk.now.todo.items + weight c.in-Down.lists.home). omega (arith, same, less)) (c.go_down.ensures.total (turn_before base c.in-Down.lists home))

pub returns-in-Down-clause-cause : goal.returns-in-Down-clause-cause
returns-in-Down-clause-cause g c = memory_cause _ _ c.go_down.result c.in_ok-turn.ensures.cause.later c.go_down.ensures.memory
