use Rattle.dlk_sequent.proofs.formula.is_sequent.Goals as goal

pub returns-then-are_formulas : goal.returns-then-are_formulas
returns-then-are_formulas g c =
    let trees = g.S.Store.trees c.args.store.now in
    let left = rw c.as_slice.ensures at (c.are_formulas.ensures.0 c.if-are_formulas.true) in (
      λ yes. record { ante = left; succ = rw c.as_slice-then-are_formulas.ensures at (c.are_formulas-then-are_formulas.ensures.0 yes) },
      λ is. c.are_formulas-then-are_formulas.ensures.1 (rw c.as_slice-then-are_formulas.ensures is.succ),
    )

pub returns-else-are_formulas : goal.returns-else-are_formulas
returns-else-are_formulas g c = (λ yes. cc, λ is. c.are_formulas.ensures.1 (rw c.as_slice.ensures is.ante))
