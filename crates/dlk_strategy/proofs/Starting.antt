-- The step that states a formula.
use Rattle.std.proofs.Common.{◌≡◌, List, [], ◌∷◌, ap, ◌∙◌}
use Rattle.dlk_tree.specs.Trees.{Tree}
use Rattle.dlk_calculus.specs.Limits.{IsSmall, IsShallow}
use Rattle.dlk_calculus.specs.Sequents.{Sequent, alone_right, IsFormula}
use Rattle.dlk_calculus.specs.Provables.{Provable, started}
use Rattle.dlk_calculus.specs.Steps.{Start, start, StepOf, Adds}
use Rattle.dlk_kernel.proofs.Starting.{alone_is, started_is, none_against}

pub starts : (formula : Tree) → IsFormula formula → IsSmall formula → IsShallow formula →
    StepOf [] (Start (alone_right formula)) (started (alone_right formula))
starts formula is small shallow = record {
  given = start (alone_right formula) (alone_is formula is);
  allowed = λ why. none_against formula why is small shallow;
}

-- and it gives a row
pub one_row : (s : Sequent) (after : List Provable) → Adds [] (Start s) after → after ≡ started s ∷ []
one_row s after adds = adds.after_is ∙ ap (λ (p : Provable). p ∷ []) (started_is s adds.provable adds.is_its.given)
