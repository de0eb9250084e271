use Rattle.fsfs_turn.proofs.Alone.{alone_stays, alone_adds}
use Rattle.fsfs_turn.proofs.laws.a_lone_pass_adds_all.Goals as goal

pub returns-clause-stays : goal.returns-clause-stays
returns-clause-stays c = alone_stays

pub returns-clause-adds : goal.returns-clause-adds
returns-clause-adds c = alone_adds
