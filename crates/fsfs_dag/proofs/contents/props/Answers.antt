use Rattle.std.proofs.Common.{ℕ, List, []}
use Rattle.fsfs_revision.specs.Shows.Reading.{PairsAt}
use Rattle.fsfs_dag.proofs.Reps.{rep_le, contents_some, contents_none}
use Rattle.fsfs_dag.proofs.contents.props.Goals as goal

abbrev Pairs : Type 0
Pairs = List (List ℕ × List ℕ)

pub returns-in-None-clause-told : goal.returns-in-None-clause-told
returns-in-None-clause-told g c = λ look knows. contents_none [] _ (PairsAt look) c.args.node.now.node.props c.in-None.ensures.value c.new.ensures

pub returns-in-Some-clause-told : goal.returns-in-Some-clause-told
returns-in-Some-clause-told g c = λ look knows.
    contents_some (λ (pairs : Pairs). pairs) c.pairs_in.result [] (PairsAt look) c.args.node.now.node.props c.in-Some.rep.now c.in-Some.ensures.value
    (c.pairs_in.ensures.told look (knows _ (rep_le _ c.in-Some.rep.now.rev c.in-Some.rep.now.offset c.in-Some.ensures.before)))
