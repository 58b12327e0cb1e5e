-- What is said of a strategy that isn't done.
use Rattle.std.specs.Prelude.{ℕ, List, ◌++◌, codes, decimal}
use Rattle.dlk_calculus.specs.Reasons.{reason_text}
use Rattle.dlk_elab.specs.declared.fault.FailWhy.{FailWhy}
use Rattle.dlk_elab.specs.declared.fault.FailWhy.TheVariants as fail

-- the word for why a strategy fails
abbrev pub fail_text : FailWhy → List ℕ
fail_text fail.WrongCount = codes "WrongCount"
fail_text fail.UnknownName = codes "UnknownName"
fail_text fail.NoPlace = codes "NoPlace"
fail_text fail.NoMatch = codes "NoMatch"
fail_text (fail.Step reason) = reason_text reason

-- fails at B: WHY
abbrev pub fails_text : ℕ → FailWhy → List ℕ
fails_text at why = codes "fails at " ++ (decimal at ++ (codes ": " ++ fail_text why))

-- budget at B
abbrev pub budget_text : ℕ → List ℕ
budget_text at = codes "budget at " ++ decimal at
