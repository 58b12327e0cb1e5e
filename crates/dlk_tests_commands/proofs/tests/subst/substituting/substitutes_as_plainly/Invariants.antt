use Rattle.dlk_tests_commands.proofs.tests.subst.substituting.substitutes_as_plainly.Given as goal

abbrev pub ghosts-plainly : goal.ghosts-plainly
ghosts-plainly g a = record { name = a.blank.name; parts = a.blank.parts }
