use Rattle.dlk_grammar.specs.Shown.{spell, variable}
use Rattle.dlk_jobs_text.proofs.ListTexts.{others, behind-more, all_behind}
use Rattle.dlk_jobs_text.proofs.vars.append_variables.Goals as goal

pub loop-v-preserved : goal.loop-v-preserved
loop-v-preserved c =
    behind-more (λ v. spell (variable v)) (others c.args.vars.now) c.loop-v.v-index c.v-item.result _ _ _ _ c.loop-v-test.true c.v-item.is
    c.loop-v.invariant c.in_ok-extend_from_slice.ensures.items c.in_ok-variable_text-2.ensures.ok

pub returns : goal.returns
returns c =
    all_behind (λ v. spell (variable v)) c.args.vars.now c.first-item.result c.loop-v.v-index _ _ _ c.in-len1-up.len_at_least c.first-item.is
    c.loop-v-test.false
    c.in_ok-variable_text.ensures.ok c.loop-v.invariant
