use Rattle.std.proofs.Common.{◌≡◌, ◌∷◌, ◌++◌, true, false, refl, []}
use Rattle.std.proofs.lemmas.Result.{err_from_is_err_and}
use Rattle.dlk_lines.proofs.Refusals.{fault_of_whole}
use Rattle.dlk_nodes.proofs.DetailLaws.{constant_parts, constant_again, constant_name_needed, constant_taboo_needed, bar_cut, taboo_cut, some_left, none_left}
use Rattle.dlk_nodes.proofs.items.constant.Goals as goal

pub returns-in_default-cut_at-clause-fault : goal.returns-in_default-cut_at-clause-fault
returns-in_default-cut_at-clause-fault c = λ u s.
    let w = constant_parts c.args.text.now _ _ u c.in-Some.ensures.found s in
    c.in_default-cut_at.ensures.none [] (w.taboo ++ 124 ∷ 125 ∷ []) w.behind_is

pub returns-in_default-cut_at-2-clause-fault : goal.returns-in_default-cut_at-2-clause-fault
returns-in_default-cut_at-2-clause-fault c = λ u s.
    let w = constant_parts c.args.text.now _ _ u c.in-Some.ensures.found s in
    let bar = bar_cut _ _ _ (w.taboo ++ 124 ∷ 125 ∷ []) c.in-Some-cut_at.ensures.found w.behind_is in
    c.in_default-cut_at-2.ensures.none w.taboo (125 ∷ []) bar.1

pub returns-then-not-is_empty-clause-fault : goal.returns-then-not-is_empty-clause-fault
returns-then-not-is_empty-clause-fault c = λ u s.
    let w = constant_parts c.args.text.now _ _ u c.in-Some.ensures.found s in
    some_left _ c.if-not-is_empty.ensures (bar_cut _ _ _ (w.taboo ++ 124 ∷ 125 ∷ []) c.in-Some-cut_at.ensures.found w.behind_is).0

pub returns-then-not-are-clause-fault : goal.returns-then-not-are-clause-fault
returns-then-not-are-clause-fault c = λ u s.
    let w = constant_parts c.args.text.now _ _ u c.in-Some.ensures.found s in
    let bar = bar_cut _ _ _ (w.taboo ++ 124 ∷ 125 ∷ []) c.in-Some-cut_at.ensures.found w.behind_is in
    let end = taboo_cut _ _ _ w.taboo (125 ∷ []) c.in-Some-cut_at-2.ensures.found bar.1 w.real in
    let clash : false ≡ true = c.if-not-are.ensures.1 end.1 in
    cc clash

pub returns-in_err-x-clause-fault : goal.returns-in_err-x-clause-fault
returns-in_err-x-clause-fault c =
    let e = err_from_is_err_and c.from_residual-in_err-x.result c.from_residual-in_err-x.ensures.1 in
    rw (e.1, e.2) (fault_of_whole (constant_name_needed c.args.text.now _ _ c.in-Some.ensures.found) _ c.in_err-x.ensures.fault)

pub returns-in_err-y-clause-fault : goal.returns-in_err-y-clause-fault
returns-in_err-y-clause-fault c =
    let e = err_from_is_err_and c.from_residual-in_err-y.result c.from_residual-in_err-y.ensures.1 in
    rw (e.1, e.2)
    (fault_of_whole (constant_taboo_needed c.args.text.now _ _ _ _ _ _ c.in-Some.ensures.found c.in-Some-cut_at.ensures.found
    c.in-Some-cut_at-2.ensures.found) _ c.in_err-y.ensures.fault)

pub returns-clause-found : goal.returns-clause-found
returns-clause-found c =
    rw (c.in_ok-x.ensures.found, c.in_ok-y.ensures.found)
    (constant_again _ _ _ _ _ _ c.args.text.now c.in-Some.ensures.found c.in-Some-cut_at.ensures.found c.in-Some-cut_at-2.ensures.found
    (none_left _ c.if-not-is_empty.ensures)
    (c.if-not-are.ensures.0 refl) c.in_ok-x.ensures.real c.in_ok-y.ensures.real)
