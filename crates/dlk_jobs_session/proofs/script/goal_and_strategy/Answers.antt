use Rattle.std.proofs.Common.{◌≡◌, ◌++◌, Some, sym, subst, ◌∙◌}
use Rattle.std.specs.Prelude.{codes}
use Rattle.std.proofs.lemmas.Bool.Decides.{Decides-eqb}
use Rattle.std.proofs.lemmas.Slice.Eq.{strip_prefix_is}
use Rattle.dlk_lines.specs.Parts.{NumberThen}
use Rattle.dlk_jobs_session.proofs.ScriptLaws.{behind_word}
use Rattle.dlk_jobs_session.proofs.Turned.{if_none}
use Rattle.dlk_jobs_session.proofs.script.goal_and_strategy.Goals as goal

pub returns-clause-none : goal.returns-clause-none
returns-clause-none c =
    let text = c.args.text.now in
    let behind = c.in_ok-behind.behind.now in
    let cut : text ≡ c.as_slice.result.now ++ behind =
    strip_prefix_is Decides-eqb text c.as_slice.result.now (Some c.in_ok-behind.behind) c.in_ok-behind.ensures.cases in
    let word : text ≡ codes "apply " ++ behind = rw c.as_slice.ensures at cut in
    if_none c.number_before.result _ _
    (λ out goal rest h. out goal rest (subst (λ l. NumberThen l 32 goal rest) (behind_word h.behind behind (sym h.word_is ∙ word)) h.number))
    c.number_before.ensures.none
