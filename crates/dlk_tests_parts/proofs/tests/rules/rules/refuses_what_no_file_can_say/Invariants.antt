use Rattle.dlk_tests_parts.proofs.tests.rules.rules.refuses_what_no_file_can_say.Given as goal

abbrev pub ghosts-cut_refused : goal.ghosts-cut_refused
ghosts-cut_refused g a = record { name = a.blank.name; parts = a.blank.parts }

abbrev pub ghosts-start_refused : goal.ghosts-start_refused
ghosts-start_refused g a = record { name = a.blank.name; parts = a.blank.parts }
