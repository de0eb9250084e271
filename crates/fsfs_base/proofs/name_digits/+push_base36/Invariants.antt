use Rattle.fsfs_base.proofs.name_digits.+push_base36.Given as goal

abbrev pub decreases-push_base36 : goal.decreases-push_base36
decreases-push_base36 l = l.digits
