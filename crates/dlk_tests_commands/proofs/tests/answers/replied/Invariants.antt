use Rattle.dlk_tests_commands.proofs.tests.answers.replied.Given as goal

abbrev pub ghosts-respond_to : goal.ghosts-respond_to
ghosts-respond_to a = record { name = a.blank.name; parts = a.blank.parts }
