use Rattle.fsfs_layout.proofs.Files.{all_folders_sized}
use Rattle.fsfs_layout.proofs.small_files.format_file.our_format.Goals as goal

pub new-requires : goal.new-requires
new-requires c = all_folders_sized c.in_ok-rest.rest.now c.in_ok-found.found c.in_ok-found.ensures
