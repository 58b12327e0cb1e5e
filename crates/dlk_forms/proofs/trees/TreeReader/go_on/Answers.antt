use Rattle.std.proofs.Common.{Ok, Err, sym, ap, subst, ◌∙◌}
use Rattle.std.proofs.lemmas.Result.{err_from_is_err_and}
use Rattle.dlk_grammar.specs.declared.token.Dots.{Dots}
use Rattle.dlk_grammar.specs.Readings.{permits}
use Rattle.dlk_reader.specs.Shows.{seen}
use Rattle.dlk_forms.specs.Readers.{ShowsPlace, ShowsTree, tree_step}
use Rattle.dlk_forms.specs.declared.expressions.Place.{Place}
use Rattle.dlk_forms.specs.declared.expressions.Place.TheVariants as place
use Rattle.dlk_forms.specs.declared.trees.TreeReader.{TreeReader}
use Rattle.dlk_forms.proofs.TreeSteps.{when_err, when_ok, when_leaving, tree_steps, tree_goes_on}
use Rattle.dlk_forms.proofs.trees.TreeReader.go_on.Goals as goal

pub returns-in-Of : goal.returns-in-Of
returns-in-Of c = λ d wanted x h.
    let k = seen c.args.lexeme in
    let old = c.args.self.now in
    let new = c.go_on.new.self in
    let next = place.Of c.in-Of.sort c.go_on.new.mode in
    let shown = subst (λ (p : Place). ShowsPlace wanted old.stack p x) c.in-Of.is h.place in
    let a = tree_goes_on old.stack new c.in-Of.sort c.in-Of.mode c.go_on.new.mode c.args.lexeme c.go_on.result c.go_on.ensures wanted x shown in
    let reader : TreeReader = record { dots = old.dots; stack = new; place = next } in
    let permitted = ap (λ (d : Dots). permits d k) (sym h.dots) ∙ sym c.permits.ensures ∙ c.if-not-permits.false in
    when_leaving (ShowsPlace wanted new) (ShowsTree d wanted) next reader c.go_on.result (permits d k) (tree_step wanted x k) permitted
    (λ y s. record { dots = h.dots; place = s }) a

pub returns-in_err-self : goal.returns-in_err-self
returns-in_err-self c = λ d wanted x h.
    let e = err_from_is_err_and c.from_residual.result c.from_residual.ensures.1 in
    let k = seen c.args.lexeme in
    let new = c.step_tree.new.stack in
    let a = tree_steps wanted c.args.self.now.stack new c.args.self.now.place (Err c.in_err-self.field-0.0) k
    (rw c.replace-place.ensures.value at c.in_err-self.ensures.expression)
    (rw c.replace-place.ensures.value at c.in_err-self.ensures.of) x h.place in
    let permitted = ap (λ (d : Dots). permits d k) (sym h.dots) ∙ sym c.permits.ensures ∙ c.if-not-permits.false in
    rw (e.1, e.2) (when_err (ShowsPlace wanted new) (ShowsTree d wanted) c.in_err-self.field-0.0 (permits d k) (tree_step wanted x k) permitted a)

pub returns : goal.returns
returns c = λ d wanted x h.
    let k = seen c.args.lexeme in
    let new = c.step_tree.new.stack in
    let place = c.in_ok-self.field-0 in
    let next : TreeReader = record { dots = c.args.self.now.dots; stack = new; place = place } in
    let a = tree_steps wanted c.args.self.now.stack new c.args.self.now.place (Ok place) k
    (rw c.replace-place.ensures.value at c.in_ok-self.ensures.expression) (rw c.replace-place.ensures.value at c.in_ok-self.ensures.of) x h.place in
    let permitted = ap (λ (d : Dots). permits d k) (sym h.dots) ∙ sym c.permits.ensures ∙ c.if-not-permits.false in
    when_ok (ShowsPlace wanted new) (ShowsTree d wanted) place next (permits d k) (tree_step wanted x k) permitted
    (λ y s. record { dots = h.dots; place = s }) a
