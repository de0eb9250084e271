use Rattle.fsfs_layout.proofs.small_files.uuid_file.+line_rest.Given as goal

abbrev pub decreases-line_rest : goal.decreases-line_rest
decreases-line_rest l = l.count
