use Rattle.std.proofs.Common.{◌≡◌}
use Rattle.dlk_lines.proofs.StepForms.{no_space, no_step_word, step_or_none, no_step_or_none}
use Rattle.dlk_lines.proofs.step.read_step.Goals as goal

pub returns-in_default-clause-fault : goal.returns-in_default-clause-fault
returns-in_default-clause-fault g c = no_space _ c.args.text.now c.in_default.ensures.none

pub returns-in_default-from_utf8-clause-fault : goal.returns-in_default-from_utf8-clause-fault
returns-in_default-from_utf8-clause-fault g c = no_step_word _ c.args.text.now _ _ c.in-Some.ensures.found c.in_default-from_utf8.ensures.cases.0

pub returns-clause-found : goal.returns-clause-found
returns-clause-found g c =
    let same : c.in-Ok.word.now ≡ c.in-Some.word.now = c.in-Ok.ensures.cases.0 in
    step_or_none _ _ c.args.text.now c.in-Some.word.now c.in-Some.rest.now c.in-Some.ensures.found c.step_of_word.result
    (rw same at c.step_of_word.ensures.found)

pub returns-clause-fault : goal.returns-clause-fault
returns-clause-fault g c =
    let same : c.in-Ok.word.now ≡ c.in-Some.word.now = c.in-Ok.ensures.cases.0 in
    no_step_or_none _ c.args.text.now c.in-Some.word.now c.in-Some.rest.now c.in-Some.ensures.found c.step_of_word.result
    (rw same at c.step_of_word.ensures.fault)

pub returns-clause-memory : goal.returns-clause-memory
returns-clause-memory g c = λ is.
    let same : c.in-Ok.word.now ≡ c.in-Some.word.now = c.in-Ok.ensures.cases.0 in
    record {
      word = c.in-Some.word.now;
      rest = c.in-Some.rest.now;
      text_is = c.in-Some.ensures.found;
      step_wants = rw same at (c.step_of_word.ensures.memory is);
    }
