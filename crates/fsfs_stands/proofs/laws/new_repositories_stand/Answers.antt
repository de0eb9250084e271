use Rattle.fsfs_stands.proofs.NewRepository.{new_repositories_stand}
use Rattle.fsfs_stands.proofs.laws.new_repositories_stand.Goals as goal

pub returns : goal.returns
returns c = new_repositories_stand
