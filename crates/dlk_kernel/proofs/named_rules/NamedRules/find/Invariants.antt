use Rattle.std.proofs.Common.{◌≡◌, ℕ, ◌<◌, get_or}
use Rattle.dlk_kernel.specs.declared.named_rules.NamedRule.{NamedRule}
use Rattle.dlk_kernel.proofs.named_rules.NamedRules.find.Given as goal

-- none before has the name
abbrev pub invariant-loop-named : goal.invariant-loop-named
invariant-loop-named l = (k : ℕ) (d : NamedRule) → k < l.named-index → (get_or l.self k d).name ≡ l.name → ⊥
