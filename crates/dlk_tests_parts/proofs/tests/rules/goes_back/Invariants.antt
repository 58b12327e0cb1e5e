use Rattle.dlk_tests_parts.proofs.tests.rules.goes_back.Given as goal

abbrev pub ghosts-stepped_back : goal.ghosts-stepped_back
ghosts-stepped_back a b = record { name = b.blank.name; parts = b.blank.parts }
