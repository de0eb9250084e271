use Rattle.fsfs_images.proofs.Showing.{images_are_shown}
use Rattle.fsfs_images.proofs.laws.images_are_shown.Goals as goal

pub returns : goal.returns
returns c = images_are_shown c.args.layout
