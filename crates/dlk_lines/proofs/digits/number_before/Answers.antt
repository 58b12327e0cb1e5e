use Rattle.std.proofs.Common.{◌≡◌, ℕ, List, ◌∷◌, length, get_or, sym, ap, arith}
use Rattle.std.proofs.lemmas.Bool.{eqb-true}
use Rattle.dlk_lines.proofs.Numbers.{front_before, other_end}
use Rattle.dlk_lines.proofs.digits.number_before.Goals as goal
use Rattle.dlk_lines.proofs.digits.number_before.Goals.{then-is_empty-via-then-is_empty, then-is_empty-via-else-is_empty+then-rest-stop}

pub returns-in_err-number-clause-none : goal.returns-in_err-number-clause-none
returns-in_err-number-clause-none c =
    rw c.from_residual.ensures (λ n rest is.
    c.in_err-number.ensures.none n (c.args.stop ∷ rest) (front_before c.args.text.now c.args.stop n rest c.requires is))

pub returns-then-is_empty-clause-none : goal.returns-then-is_empty-clause-none
returns-then-is_empty-clause-none c =
    other_end c.args.text.now c.args.stop c.in_ok-number.number c.in_ok-number.rest.now c.requires c.in_ok-number.ensures.found
    (λ behind same. elim c.then-is_empty.branch [
      | then-is_empty-via-then-is_empty w ↦ (let none : length c.in_ok-number.rest.now ≡ 0 = eqb-true _ 0 (sym w.if-is_empty.ensures) in
          absurd (omega (arith, none, ap length same)))
      | then-is_empty-via-else-is_empty+then-rest-stop w ↦ absurd (w.if-rest-stop.true (ap (λ (l : List ℕ). get_or l 0 0) same))
    ])
