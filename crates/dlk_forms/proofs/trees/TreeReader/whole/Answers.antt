use Rattle.std.proofs.Common.{Ok, Err}
use Rattle.std.proofs.lemmas.Result.{err_from_is_err_and}
use Rattle.dlk_reader.specs.Shows.{IsWhole}
use Rattle.dlk_reader.proofs.Agree.{ok_same, err_same}
use Rattle.dlk_forms.specs.Readers.{IsTreeCode, tree_ended}
use Rattle.dlk_forms.proofs.TreeSteps.{tree_ends}
use Rattle.dlk_forms.proofs.trees.TreeReader.whole.Goals as goal

pub returns-in_err-end_tree : goal.returns-in_err-end_tree
returns-in_err-end_tree c = λ d wanted x h.
    let e = err_from_is_err_and c.from_residual.result c.from_residual.ensures.1 in
    let new = c.end_tree.new.stack in
    let a = tree_ends wanted c.args.self.stack new c.args.self.place (Err c.in_err-end_tree.field-0.0) c.in_err-end_tree.ensures.expression
    c.in_err-end_tree.ensures.of x h.place in
    rw (e.1, e.2) (err_same {X = Unit {0}} (λ _ t. IsWhole new t) IsTreeCode c.in_err-end_tree.field-0.0 (tree_ended wanted x) a)

pub returns : goal.returns
returns c = λ d wanted x h.
    let new = c.end_tree.new.stack in
    let a = tree_ends wanted c.args.self.stack new c.args.self.place (Ok tt) c.in_ok-end_tree.ensures.expression c.in_ok-end_tree.ensures.of x h.place in
    ok_same {X = Unit {0}} (λ _ t. IsWhole new t) IsTreeCode tt new.out (tree_ended wanted x) (λ t w. w.out) a
