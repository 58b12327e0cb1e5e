use Rattle.std.proofs.Common.{◌≡◌, ℕ, ◌<◌, get_or}
use Rattle.dlk_kernel.specs.declared.axioms.NamedFormula.{NamedFormula}
use Rattle.dlk_kernel.proofs.axioms.NamedAxioms.find.Given as goal

-- none before has the name
abbrev pub invariant-loop-named : goal.invariant-loop-named
invariant-loop-named l = (k : ℕ) (d : NamedFormula) → k < l.named-index → (get_or l.self k d).name ≡ l.name → ⊥
