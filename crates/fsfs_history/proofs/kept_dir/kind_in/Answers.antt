use Rattle.fsfs_dag.proofs.Steps.{knows_later}
use Rattle.fsfs_stands.specs.ChangedTexts.{KindAt}
use Rattle.fsfs_history.proofs.DirLemmas.{below_place, failed_tells}
use Rattle.fsfs_history.proofs.kept_dir.kind_in.Goals as goal

pub kind_below-requires : goal.kind_below-requires
kind_below-requires g c = below_place c.keep_dir.new.kept c.args.rev c.args.path.now c.args.above c.args.name.now c.requires c.in-Ok.ensures.place

pub returns-in-Ok-clause-told : goal.returns-in-Ok-clause-told
returns-in-Ok-clause-told g c = λ look knows kept.
    c.kind_below.ensures.told look (knows_later _ _ look c.args.rev c.keep_dir.ensures.kept knows) (c.keep_dir.ensures.dir look knows kept)

pub returns-in-Err-clause-told : goal.returns-in-Err-clause-told
returns-in-Err-clause-told g c = λ look knows kept. failed_tells (KindAt look c.args.rev c.args.path.now c.args.absent) c.in-Err.error c.in-Err.ensures.failed
