use Rattle.fsfs_look.proofs.ByProps.{authors_by, dates_by, logs_by, infos_by}
use Rattle.fsfs_look.proofs.revprops.laws.prop_texts_are_by_the_properties.Goals as goal

pub returns-clause-authors : goal.returns-clause-authors
returns-clause-authors c = authors_by

pub returns-clause-dates : goal.returns-clause-dates
returns-clause-dates c = dates_by

pub returns-clause-logs : goal.returns-clause-logs
returns-clause-logs c = logs_by

pub returns-clause-infos : goal.returns-clause-infos
returns-clause-infos c = infos_by
