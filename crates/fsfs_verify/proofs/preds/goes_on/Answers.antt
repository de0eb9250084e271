use Rattle.std.proofs.Common.{rules, ◌≡◌, ◌+◌, ◌-◌, ℕ, sym, ◌∙◌}
use Rattle.std.specs.Prelude.{min, ◌^◌}
use Rattle.fsfs_dag.proofs.IdLemmas.{part_true, equal}
use Rattle.fsfs_verify.proofs.preds.goes_on.Goals as goal
use Rattle.fsfs_verify.proofs.preds.goes_on.Goals.{then-same_part, else-same_part}

pub returns-then-eq-clause-yes : goal.returns-then-eq-clause-yes
returns-then-eq-clause-yes c = λ same.
    let part : c.same_part.result ≡ _ = search rules in
    let kinds : c.args.node.now.kind ≡ c.args.pred.now.kind = search rules in
    let count : c.args.node.now.count ≡ min (c.args.pred.now.count + 1) (2 ^ 64 - 1) = equal c.args.node.now.count c.saturating_add.result same ∙ c.saturating_add.ensures in
    record { node = part_true c.args.node.now.id.node c.args.pred.now.id.node (sym c.same_part.ensures ∙ part); kind = kinds; count = count }
