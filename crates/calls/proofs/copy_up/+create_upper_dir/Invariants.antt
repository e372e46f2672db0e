use Rattle.calls.proofs.copy_up.+create_upper_dir.Given as goal

abbrev pub decreases-create_upper_dir : goal.decreases-create_upper_dir
decreases-create_upper_dir l = l.depth
