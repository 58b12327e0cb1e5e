use Rattle.dlk_tests_parts.proofs.tests.terms.files.refused_line.Given as goal

abbrev pub ghosts-uncounted_refusal : goal.ghosts-uncounted_refusal
ghosts-uncounted_refusal a = record { name = a.blank.name; parts = a.blank.parts }
