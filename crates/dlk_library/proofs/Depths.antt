-- The parts of a strategy are less deep than it.
use Rattle.std.proofs.Common.{◌≡◌, ℕ, ◌+◌, Vec, Global, arith, ap, ◌∙◌}
use Rattle.dlk_tacsyn.specs.declared.tactic.Tactic.{Tactic, Choice, Seq, Branch, size_is-Tactic, out-Tactic}
use Rattle.dlk_tacsyn.specs.declared.tactic.Tactic.{items_shown-the_row-Tactic-0, items_hidden-the_row-Tactic-0}
use Rattle.dlk_tacsyn.specs.declared.tactic.Tactic.TheBlock as block
use Rattle.dlk_tacsyn.proofs.tactic.Tactic.TheLaws.{the_size}
use denote.Param.Weighed.{most}
use denote.Hole.Carrier as carrier

same_items : (ts : Vec Tactic Global) → (block.shown-the_row-Tactic-0 (block.shape-the_row-Tactic-0 ts) (block.hidden-the_row-Tactic-0 ts)).items ≡ ts.items
same_items ts = items_shown-the_row-Tactic-0 (block.shape-the_row-Tactic-0 ts) (block.hidden-the_row-Tactic-0 ts) ∙ items_hidden-the_row-Tactic-0 ts

pub size_choice : (ts : Vec Tactic Global) → the_size (Choice ts) ≡ most the_size ts.items + 1
unfolding out-Tactic block.the_depth carrier.out carrier.shown
size_choice ts = let e = ap (most the_size) (same_items ts) in size_is-Tactic (Choice ts) ∙ ap (λ n. n + 1) (omega (arith, e))

pub size_sequence : (ts : Vec Tactic Global) → the_size (Seq ts) ≡ most the_size ts.items + 1
unfolding out-Tactic block.the_depth carrier.out carrier.shown
size_sequence ts = let e = ap (most the_size) (same_items ts) in size_is-Tactic (Seq ts) ∙ ap (λ n. n + 1) (omega (arith, e))

pub size_branch : (at : ℕ) (ts : Vec Tactic Global) → the_size (Branch at ts) ≡ most the_size ts.items + 1
unfolding out-Tactic block.the_depth carrier.out carrier.shown
size_branch at ts = let e = ap (most the_size) (same_items ts) in size_is-Tactic (Branch at ts) ∙ ap (λ n. n + 1) (omega (arith, e))
