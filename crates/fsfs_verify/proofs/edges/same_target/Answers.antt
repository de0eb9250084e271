use Rattle.std.proofs.Common.{rules, ◌≡◌, sym, ◌∙◌}
use Rattle.fsfs_dag.proofs.IdLemmas.{id_true}
use Rattle.fsfs_verify.proofs.edges.same_target.Goals as goal

pub returns-then-same_id-clause-yes : goal.returns-then-same_id-clause-yes
returns-then-same_id-clause-yes c = λ same.
    let kinds : c.args.b.now.kind ≡ c.args.a.now.kind = search rules in
    (sym (id_true c.args.a.now.id c.args.b.now.id (sym c.same_id.ensures ∙ c.if-same_id.true)), kinds)
