-- Each step adds the next revision, and there is one.
use Rattle.std.proofs.Common.{rules, ◌≡◌, ◌<◌, ◌≤◌, ◌++◌, ◌∷◌, [], length, ap, ◌∙◌, arith}
use Rattle.fsfs_machine.proofs.PackLemmas.{parts_more, part_there, parts_all}
use Rattle.fsfs_machine.proofs.packs.parts_from.Goals as goal
use Rattle.fsfs_machine.proofs.packs.parts_from.Goals.{in-Some+in_ok-push, in_default}

pub loop-number-preserved : goal.loop-number-preserved
loop-number-preserved c =
    let from : c.min-first.result ≤ c.loop-number.number = search rules in
    let less : c.loop-number.number < length c.args.line.now = search rules in
    elim c.match-branch-2.branch [
      | in-Some+in_ok-push w ↦
          let pushed : c.match-branch-2.parts.items ≡ c.loop-number.parts.items ++ w.in-Some.part ∷ [] = search rules in
          pushed ∙ ap (λ xs. xs ++ w.in-Some.part ∷ []) c.loop-number.invariant ∙ parts_more c.args.line.now c.min-first.result c.loop-number.number w.in-Some.part from (search rules)
      | in_default w ↦ absurd (omega (arith, less, part_there c.args.line.now c.loop-number.number (search rules)))
    ]

pub returns : goal.returns
returns c = search (parts_all, rules)
