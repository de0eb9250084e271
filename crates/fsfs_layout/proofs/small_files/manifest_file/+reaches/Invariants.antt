use Rattle.fsfs_layout.proofs.small_files.manifest_file.+reaches.Given as goal

abbrev pub decreases-reaches : goal.decreases-reaches
decreases-reaches l = l.digits
