use Rattle.fsfs_images.proofs.LabelShowing.{labels_are_shown}
use Rattle.fsfs_images.proofs.laws.labels_are_shown.Goals as goal

pub returns : goal.returns
returns c = labels_are_shown
