use Rattle.dlk_tests_parts.proofs.tests.terms.lines.writes.Given as goal

abbrev pub ghosts-written : goal.ghosts-written
ghosts-written a = record { name = a.blank.name; parts = a.blank.parts }
