use Rattle.fsfs_model.proofs.FoldedLaw.{folds_fit}
use Rattle.fsfs_model.proofs.folds_laws.folds_fit_the_tree.Goals as goal

pub returns : goal.returns
returns c = folds_fit
