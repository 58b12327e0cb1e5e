use Rattle.std.proofs.Common.{◌+◌, sym, subst}
use Rattle.dlk_link.specs.Keyed.{AreKeyed, Numbers}
use Rattle.dlk_link.proofs.KeptSteps.{number_there, number_new, kept_as, is_found, is_not_found}
use Rattle.dlk_link.proofs.trimming.Kept.number.Goals.{then-is_new+in_ok-push, else-is_new}
use Rattle.dlk_link.proofs.trimming.Kept.number.Goals as goal

pub returns-clause-number : goal.returns-clause-number
returns-clause-number c = λ trees one known keyed.
    let steps = c.args.self.now.steps.items in
    let keys = c.args.self.now.keys.keys in
    let new = c.insert_full.new.self.keys in
    let told = c.in_ok-n.ensures in
    let is_key = c.in_ok-key.ensures trees known in
    elim c.if-is_new.branch [
      | then-is_new+in_ok-push w ↦
          kept_as trees steps c.args.step c.if-is_new.self (record { steps = w.push.new.self; keys = c.insert_full.new.self }) c.in_ok-n.n w.self-is
          (subst (λ l. AreKeyed trees l new × Numbers trees steps c.args.step l (c.in_ok-n.n + 1)) (sym w.in_ok-push.ensures.items)
          (number_new c.rule_is_its_word_and_arguments.ensures trees one steps keys c.args.step c.in_ok-key.key keyed known is_key new c.in_ok-n.n told.keys
          (is_not_found (told.added) w.if-is_new.true) told.stored))
      | else-is_new w ↦
          kept_as trees steps c.args.step c.if-is_new.self (record { steps = c.args.self.now.steps; keys = c.insert_full.new.self }) c.in_ok-n.n w.self-is
          (number_there c.rule_is_its_word_and_arguments.ensures trees one steps keys c.args.step c.in_ok-key.key keyed known is_key new c.in_ok-n.n told.keys
          (is_found (told.added) w.if-is_new.false) told.stored)
    ]
