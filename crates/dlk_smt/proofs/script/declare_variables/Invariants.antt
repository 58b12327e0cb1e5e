use Rattle.std.proofs.Common.{◌≡◌, ◌++◌, map, drop, filter}
use Rattle.dlk_tree.specs.Statics.{free}
use Rattle.dlk_sequent.specs.Sequents.{sequent_at}
use Rattle.dlk_smt.specs.Smt.{in_some_formula, declarations, variable_symbol}
use Rattle.dlk_smt.proofs.script.declare_variables.Given as goal

-- the lines so far and those that are left are all of them
abbrev pub invariant-loop-v : goal.invariant-loop-v
invariant-loop-v g l =
    let s = sequent_at (g.S.Store.trees l.store) l.s in
    l.out.items ++ declarations (map variable_symbol (filter (λ v. in_some_formula (λ t. free t v) s) (drop l.v-index l.vars)))
    ≡ l.fn.out.items ++ declarations (map variable_symbol (filter (λ v. in_some_formula (λ t. free t v) s) l.vars))
