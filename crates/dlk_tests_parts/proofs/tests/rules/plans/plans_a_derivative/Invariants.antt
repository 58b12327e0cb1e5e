use Rattle.dlk_tests_parts.proofs.tests.rules.plans.plans_a_derivative.Given as goal

abbrev pub ghosts-uses : goal.ghosts-uses
ghosts-uses g a = record { name = a.blank.name; parts = a.blank.parts }
