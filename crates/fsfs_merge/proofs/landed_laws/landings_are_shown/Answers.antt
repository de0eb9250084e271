use Rattle.fsfs_merge.proofs.LandedShownLaw.{landings_are_shown}
use Rattle.fsfs_merge.proofs.landed_laws.landings_are_shown.Goals as goal

pub returns : goal.returns
returns c = landings_are_shown
