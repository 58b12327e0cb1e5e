use Rattle.std.proofs.Common.{refl, false}
use Rattle.dlk_vars.proofs.Words.{no_words}
use Rattle.dlk_vars.proofs.Members.{holds_alike}
use Rattle.dlk_vars.proofs.set.VarSet.empty.Goals as goal

pub returns-clause-numbers : goal.returns-clause-numbers
returns-clause-numbers c = no_words (record { words = c.new.result.items; others = false }) c.new.ensures.items

pub returns-clause-vars : goal.returns-clause-vars
returns-clause-vars c =
    holds_alike (record { words = c.new.result.items; others = false }) false (returns-clause-numbers c) refl
