use Rattle.fsfs_revision.proofs.Keeping.{keeps_trans}
use Rattle.fsfs_dag.proofs.Steps.{knows_later}
use Rattle.fsfs_history.proofs.DirLemmas.{met_stands}
use Rattle.fsfs_history.proofs.kept_dir.dir_at.Goals as goal

pub returns-in-Ok-Node-clause-told : goal.returns-in-Ok-Node-clause-told
returns-in-Ok-Node-clause-told g c = λ look knows.
    let stands = met_stands look c.args.rev c.args.path c.node_at.result c.in-Ok-Node.field-0 c.in-Ok-Node.found (c.node_at.ensures.told look knows) c.in-Ok-Node.is c.in-Ok-Node.field-0-is in
    c.as_dir.ensures.told look (knows_later _ _ look c.args.rev c.node_at.ensures.kept knows) stands

pub returns-in-Ok-Node-clause-kept : goal.returns-in-Ok-Node-clause-kept
returns-in-Ok-Node-clause-kept g c = keeps_trans _ _ _ c.node_at.ensures.kept c.as_dir.ensures.kept
