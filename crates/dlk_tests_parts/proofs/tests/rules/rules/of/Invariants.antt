use Rattle.dlk_tests_parts.proofs.tests.rules.rules.of.Given as goal

abbrev pub ghosts-goals_of : goal.ghosts-goals_of
ghosts-goals_of a = record { name = a.blank.name; parts = a.blank.parts }
