use Rattle.derivative_tests.proofs.walks.takes_there.Given as goal

abbrev pub ghosts-walk : goal.ghosts-walk
ghosts-walk a = record { name = a.blank.name; parts = a.blank.parts }
