use Rattle.dlk_tests_commands.proofs.tests.check.limits.keeps_to_numbers_of_leaves.Given as goal

abbrev pub ghosts-leaves_full : goal.ghosts-leaves_full
ghosts-leaves_full g a = record { name = a.blank.name; parts = a.blank.parts }
