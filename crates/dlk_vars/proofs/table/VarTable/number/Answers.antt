use Rattle.std.proofs.Common.{◌≡◌, ◌∷◌, ◌++◌, [], true, Some, sym, ap, subst, ◌∙◌}
use Rattle.std.proofs.lemmas.Bool.{cond-true}
use Rattle.dlk_tree.specs.Listed.{is_among}
use Rattle.dlk_tree.specs.Tests.{var_eq}
use Rattle.dlk_vars.specs.Tables.{numbered}
use Rattle.dlk_vars.proofs.Numbering.{among, inserted, has_its_number, var_same}
use Rattle.dlk_vars.proofs.table.VarTable.number.Goals as goal

pub returns-in-Some-clause-numbered : goal.returns-in-Some-clause-numbered
returns-in-Some-clause-numbered c =
    let table = c.args.self.now in
    let v = c.args.v.now in
    sym (cond-true (is_among table v) table (table ++ v ∷ []) (among table v c.in-Some.n.0 (sym c.in-Some.ensures.number)))

pub invariant_of-self-2 : goal.invariant_of-self-2
invariant_of-self-2 c =
    let keys = c.in_ok-n.ensures.keys in
    let made = keys ∙ (λ i. numbered (c.self.view_is i) (sym c.in_ok-clone.ensures.cases i)) in
    inserted c.args.self.now c.insert_full.new.self.keys c.args.v.now c.in_default.ensures.table (sym c.in_default.ensures.number) c.is_name.ensures.name made

pub returns-clause-table : goal.returns-clause-table
returns-clause-table c = invariant_of-self-2 c

pub returns-clause-number : goal.returns-clause-number
returns-clause-number c =
    let s = c.in_ok-n.ensures.stored in
    let same = var_same c.args.v.now s.0 (subst (λ w. var_eq w s.0 ≡ true) (sym c.in_ok-clone.ensures.cases) s.2) in
    has_its_number c.insert_full.new.self.keys (invariant_of-self-2 c) c.args.v.now c.in_ok-n.n (s.1 ∙ ap Some (sym same))
