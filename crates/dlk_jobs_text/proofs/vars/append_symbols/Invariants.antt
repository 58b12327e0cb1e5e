use Rattle.std.proofs.Common.{◌≡◌, ◌++◌, take}
use Rattle.dlk_jobs_text.specs.Lists.{kind_and_symbol}
use Rattle.dlk_jobs_text.proofs.ListTexts.{behind}
use Rattle.dlk_jobs_text.proofs.vars.append_symbols.Given as goal

abbrev pub invariant-loop-s : goal.invariant-loop-s
invariant-loop-s l = l.out.items ≡ l.initial.out.items ++ behind kind_and_symbol (take l.s-index l.others)
