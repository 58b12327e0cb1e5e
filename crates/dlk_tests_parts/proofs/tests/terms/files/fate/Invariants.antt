use Rattle.dlk_tests_parts.proofs.tests.terms.files.fate.Given as goal

abbrev pub ghosts-uncounted : goal.ghosts-uncounted
ghosts-uncounted a = record { name = a.blank.name; parts = a.blank.parts }
