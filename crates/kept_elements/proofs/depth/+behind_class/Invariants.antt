use Rattle.kept_elements.proofs.depth.+behind_class.Given as goal

abbrev pub decreases-behind_class : goal.decreases-behind_class
decreases-behind_class l = l.levels
