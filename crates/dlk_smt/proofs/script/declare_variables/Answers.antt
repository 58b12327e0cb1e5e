use Rattle.std.proofs.Common.{Bool, ◌++◌, ◌+◌, ap, sym, ◌∙◌, append_assoc, map, filter, drop}
use Rattle.dlk_tree.specs.Statics.{free}
use Rattle.dlk_tree.specs.declared.op.Var.{Var}
use Rattle.dlk_sequent.specs.Sequents.{sequent_at}
use Rattle.dlk_smt.specs.Smt.{in_some_formula, declarations, variable_symbol}
use Rattle.dlk_smt.proofs.Parts.{drop_next, declarations-filter}
use Rattle.dlk_smt.proofs.script.declare_variables.Goals as goal

pub loop-v-preserved : goal.loop-v-preserved
loop-v-preserved g c =
    let s = sequent_at (g.S.Store.trees c.args.store.now) c.args.s.now in
    let is_free : Var → Bool = λ v. in_some_formula (λ t. free t v) s in
    let vars = c.args.vars.now in
    let v = c.v-item.result in
    let later = filter is_free (drop (c.loop-v.v-index + 1) vars) in
    let next = drop_next vars c.loop-v.v-index v c.v-item.is c.loop-v-test.true in
    ap (λ l. l ++ declarations (map variable_symbol later)) c.in_ok-declare_free.ensures
    ∙ append_assoc c.loop-v.out.items _ (declarations (map variable_symbol later))
    ∙ ap (λ l. c.loop-v.out.items ++ l) (sym (declarations-filter variable_symbol (is_free v) v later))
    ∙ ap (λ vs. c.loop-v.out.items ++ declarations (map variable_symbol (filter is_free vs))) (sym next)
    ∙ c.loop-v.invariant
