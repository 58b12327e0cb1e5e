use Rattle.dlk_store.specs.Stores.{tree}
use Rattle.dlk_sequent.specs.Spines.{top, path_of}
use Rattle.dlk_elab.proofs.Turns.{if_ok}
use Rattle.dlk_elab.proofs.finishing.finish.Goals as goal

pub returns-in-E-clause-made : goal.returns-in-E-clause-made
returns-in-E-clause-made g c = if_ok c.finish_equivalence.result _ _ c.finish_equivalence.ensures.made (λ steps made. rw c.in-E.is made)

pub returns-in-Q-clause-made : goal.returns-in-Q-clause-made
returns-in-Q-clause-made g c = if_ok c.finish_equation.result _ _ c.finish_equation.ensures.made (λ steps made. rw c.in-Q.is made)

pub returns-in-C-clause-made : goal.returns-in-C-clause-made
returns-in-C-clause-made g c =
    let trees = g.S.Store.trees c.args.store.now in
    let way = c.args.spine.now in
    if_ok c.finish_conditional_equivalence.result _ _ c.finish_conditional_equivalence.ensures
    (λ steps made. rw c.in-C.is (made (path_of way) (tree trees (top way))))

pub returns-in-R-clause-made : goal.returns-in-R-clause-made
returns-in-R-clause-made g c = if_ok c.finish_conditional_equation.result _ _ c.finish_conditional_equation.ensures.made (λ steps made. rw c.in-R.is made)

pub returns-in-I-clause-made : goal.returns-in-I-clause-made
returns-in-I-clause-made g c =
    let trees = g.S.Store.trees c.args.store.now in
    let way = c.args.spine.now in
    if_ok c.finish_implication.result _ _ c.finish_implication.ensures (λ steps made. rw c.in-I.is (made (path_of way) (tree trees (top way))))

pub returns-in-F-clause-made : goal.returns-in-F-clause-made
returns-in-F-clause-made g c =
    let trees = g.S.Store.trees c.args.store.now in
    let way = c.args.spine.now in
    if_ok c.finish_fact.result _ _ c.finish_fact.ensures
    (λ steps made. rw c.in-F.is (made trees (path_of way) (tree trees (top way)) (tree trees c.args.f)))

pub finish_equivalence-requires-clause-form : goal.finish_equivalence-requires-clause-form
finish_equivalence-requires-clause-form g c =
    rw c.in-E.is at c.requires.form

pub finish_equation-requires-clause-form : goal.finish_equation-requires-clause-form
finish_equation-requires-clause-form g c =
    rw c.in-Q.is at c.requires.form

pub finish_conditional_equation-requires-clause-form : goal.finish_conditional_equation-requires-clause-form
finish_conditional_equation-requires-clause-form g c =
    rw c.in-R.is at c.requires.form

pub finish_implication-requires-clause-form : goal.finish_implication-requires-clause-form
finish_implication-requires-clause-form g c =
    λ found. rw c.in-I.is at c.requires.form
