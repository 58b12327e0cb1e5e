-- Rows that steps give in turn are rows of formulas.
use Rattle.std.proofs.Common.{List, [], arith}
use Rattle.std.specs.List.{All}
use Rattle.std.proofs.lemmas.List.Elements.{All-weaker}
use Rattle.std.proofs.lemmas.Option.{slice_get_within}
use Rattle.dlk_calculus.specs.Provables.{Provable, HasFormulas}
use Rattle.dlk_calculus.specs.Steps.{Step, History, Derives}
use Rattle.dlk_calculus.proofs.Histories.{History-more}
use Rattle.dlk_kernel.specs.Taken.{Takes, none, more}

taken_history : (steps : List Step) (rows : List Provable) → Takes [] steps rows → History rows
taken_history _ _ none = λ n p e. absurd (omega (arith, slice_get_within [] n p e))
taken_history _ _ (more {steps} {mid} {step} {p} before is) = History-more mid step p (taken_history steps mid before) is.given

pub taken_formulas : ((rows : List Provable) → History rows → All Derives rows) → ((p : Provable) → Derives p → HasFormulas p) →
    (steps : List Step) (rows : List Provable) → Takes [] steps rows → All HasFormulas rows
taken_formulas derives formulas steps rows taken = All-weaker Derives HasFormulas formulas rows (derives rows (taken_history steps rows taken))
