use Rattle.dlk_tests_parts.proofs.tests.terms.files.applied.Given as goal

abbrev pub ghosts-uncounted_applied : goal.ghosts-uncounted_applied
ghosts-uncounted_applied a = record { name = a.blank.name; parts = a.blank.parts }
