use Rattle.fsfs_images.proofs.RealNaming.{machine_names_apart}
use Rattle.fsfs_images.proofs.laws.machine_files_have_names.Goals as goal

pub returns : goal.returns
returns c = machine_names_apart c.args.layout
