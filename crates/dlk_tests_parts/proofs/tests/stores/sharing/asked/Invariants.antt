use Rattle.dlk_tests_parts.proofs.tests.stores.sharing.asked.Given as goal

abbrev pub ghosts-looked : goal.ghosts-looked
ghosts-looked g a = record { name = a.blank.name; parts = a.blank.parts }
