-- The step that states a formula.
use Rattle.std.proofs.Common.{◌≡◌, List, [], map, refl, ap, subst, arith}
use Rattle.std.proofs.lemmas.List.Elements.{All-nil, All-cons}
use Rattle.dlk_tree.specs.Trees.{Tree}
use Rattle.dlk_calculus.specs.declared.reason.Reason.{Reason}
use Rattle.dlk_calculus.specs.Limits.{IsSmall, IsShallow}
use Rattle.dlk_calculus.specs.Limited.{InSequent, InProvable, HasFewFormulas}
use Rattle.dlk_calculus.specs.Sequents.{Sequent, alone_right, IsFormula, IsSequent}
use Rattle.dlk_calculus.specs.Provables.{Provable, started}
use Rattle.dlk_calculus.specs.Steps.{Start, Gives, start, Exceeds, too_big, too_deep, start_full, Against, start_no_formulas, past_limit, rows_full}
use Rattle.dlk_kernel.specs.Kernel.{State, facts, provable_at}

pub alone_is : (formula : Tree) → IsFormula formula → IsSequent (alone_right formula)
alone_is formula is = record { ante = All-nil IsFormula; succ = All-cons IsFormula formula [] is (All-nil IsFormula) }

alone_has : (P : Tree → Type 0) (formula : Tree) → P formula → InSequent P (alone_right formula)
alone_has P formula has = record { ante = All-nil P; succ = All-cons P formula [] has (All-nil P) }

started_has : (P : Tree → Type 0) (formula : Tree) → P formula → InProvable P (started (alone_right formula))
started_has P formula has = record {
  conclusion = alone_has P formula has;
  goals = All-cons (InSequent P) (alone_right formula) [] (alone_has P formula has) (All-nil (InSequent P));
}

pub started_is : (s : Sequent) (p : Provable) → Gives [] (Start s) p → p ≡ started s
started_is _ _ (start s is) = refl

pub few : (formula : Tree) → HasFewFormulas (alone_right formula)
few formula = record { ante = omega arith; succ = omega arith }

within : (formula : Tree) (why : Reason) → IsSmall formula → IsShallow formula → Exceeds why (Start (alone_right formula)) (started (alone_right formula)) → ⊥
within formula _ small shallow (too_big n) = n (started_has IsSmall formula small)
within formula _ small shallow (too_deep n) = n (started_has IsShallow formula shallow)
within formula _ small shallow (start_full n) = n (few formula)

-- nothing speaks against it
pub none_against : (formula : Tree) (why : Reason) → IsFormula formula → IsSmall formula → IsShallow formula → Against [] (Start (alone_right formula)) why → ⊥
none_against formula _ is small shallow (start_no_formulas n) = n (alone_is formula is)
none_against formula _ is small shallow (past_limit {why} p gives exceeds) =
    within formula why small shallow (subst (λ (q : Provable). Exceeds why (Start (alone_right formula)) q) (started_is (alone_right formula) p gives) exceeds)
none_against formula _ is small shallow (rows_full full) = absurd (omega (arith, full))

pub no_facts : {S : Type 0} (trees : S → List Tree) (k : State S) → k.rows ≡ [] → facts trees k ≡ []
no_facts trees k none = ap (map (provable_at (trees k.store))) none
