use Rattle.std.proofs.Common.{◌≡◌, ◌∙◌, ◌++◌, [], ap, map, filter, Bool, codes}
use Rattle.dlk_tree.specs.Listed.{var_cmp}
use Rattle.dlk_tree.specs.Statics.{free}
use Rattle.dlk_tree.specs.declared.op.Var.{Var}
use Rattle.dlk_store.specs.Stores.{tree}
use Rattle.dlk_sequent.specs.Sequents.{sequent_at}
use Rattle.dlk_print.proofs.Left.{unbegun, appended, last}
use Rattle.dlk_smt.specs.Smt.{in_some_formula, in_formulas, own_variables, put_all, variable_symbol, function_symbol, free_variables, functions}
use Rattle.dlk_smt.specs.Smt.{declarations, assertions, expression, denied}
use Rattle.dlk_smt.proofs.Parts.{smt_parts}
use Rattle.dlk_smt.proofs.script.append_script.Goals as goal

pub returns : goal.returns
returns g c =
    let trees = g.S.Store.trees c.args.store.now in
    let s = sequent_at trees c.args.s.now in
    let is_free : Var → Bool = λ v. in_some_formula (λ t. free t v) s in
    let vars : c.as_slice.result.now ≡ put_all var_cmp [] (in_formulas own_variables s) = c.as_slice.ensures.value ∙ c.in_ok-variables.ensures ∙
    c.in_ok-symbols.ensures.variables in
    let names : c.as_slice-2.result.now ≡ functions s = c.as_slice-2.ensures.value ∙ c.in_ok-functions.ensures ∙ c.in_ok-symbols.ensures.functions in
    let none = unbegun c.args.out.now.items (smt_parts s) in
    let logic = appended (codes "(set-logic NRA)\n") _ none c.in_ok-append.ensures.ok in
    let variables = appended (declarations (map variable_symbol (free_variables s))) _ logic
    (c.in_ok-declare_variables.ensures ∙ ap (λ vs. c.append.new.out.items ++ declarations (map variable_symbol (filter is_free vs))) vars) in
    let declared = appended (declarations (map function_symbol (functions s))) _ variables
    (c.in_ok-declare_functions.ensures ∙ ap (λ fs. c.declare_variables.new.out.items ++ declarations (map function_symbol fs)) names) in
    let left = appended (assertions (map expression s.ante)) _ declared
    (c.in_ok-assert_all.ensures ∙ ap (λ ids. c.declare_functions.new.out.items ++ assertions (map expression (map (tree trees) ids))) c.as_slice-3.ensures) in
    let right = appended (assertions (map denied s.succ)) _ left
    (c.in_ok-deny_all.ensures ∙ ap (λ ids. c.assert_all.new.out.items ++ assertions (map denied (map (tree trees) ids))) c.as_slice-4.ensures) in
    (last right c.append-2.ensures).ok
