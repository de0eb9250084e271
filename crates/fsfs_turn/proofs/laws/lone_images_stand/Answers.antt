use Rattle.fsfs_turn.proofs.LoneImages.{lone_images_stand, nothing_in_doubt, none_left_stands}
use Rattle.fsfs_turn.proofs.laws.lone_images_stand.Goals as goal

pub returns-clause-stand : goal.returns-clause-stand
returns-clause-stand c = lone_images_stand

pub returns-clause-doubtless : goal.returns-clause-doubtless
returns-clause-doubtless c = nothing_in_doubt

pub returns-clause-certain : goal.returns-clause-certain
returns-clause-certain c = none_left_stands
