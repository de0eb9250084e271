use Rattle.fsfs_fetch.proofs.DirectLemmas.{finds_later}
use Rattle.fsfs_fetch.proofs.TellingLemmas.{keeps, youngest_same}
use Rattle.fsfs_fetch.proofs.direct.DirectBook.youngest.Goals as goal

pub returns-clause-told : goal.returns-clause-told
returns-clause-told g c = youngest_same _ _ c.args.self.now.floor c.args.self.now.kept _ c.youngest.ensures.later c.youngest.ensures.youngest

pub returns-clause-kept : goal.returns-clause-kept
returns-clause-kept g c = keeps _ _ _ _ _ _ c.youngest.ensures.later (finds_later _ _ _ _ c.youngest.ensures.later)
