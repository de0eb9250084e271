use Rattle.fsfs_look.proofs.OneText.{authors_one, dates_one, logs_one, infos_one}
use Rattle.fsfs_look.proofs.revprops.laws.prop_texts_are_one.Goals as goal

pub returns-clause-authors : goal.returns-clause-authors
returns-clause-authors c = authors_one

pub returns-clause-dates : goal.returns-clause-dates
returns-clause-dates c = dates_one

pub returns-clause-logs : goal.returns-clause-logs
returns-clause-logs c = logs_one

pub returns-clause-infos : goal.returns-clause-infos
returns-clause-infos c = infos_one
