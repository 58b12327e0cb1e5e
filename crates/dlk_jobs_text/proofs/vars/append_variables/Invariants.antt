use Rattle.std.proofs.Common.{◌≡◌, ◌++◌, take}
use Rattle.dlk_grammar.specs.Shown.{spell, variable}
use Rattle.dlk_jobs_text.proofs.ListTexts.{behind}
use Rattle.dlk_jobs_text.proofs.vars.append_variables.Given as goal

abbrev pub invariant-loop-v : goal.invariant-loop-v
invariant-loop-v l = l.out.items ≡ l.initial.out.items ++ behind (λ v. spell (variable v)) (take l.v-index l.others)
