use Rattle.std.proofs.Common.{◌∙◌, sym, ap, arith}
use Rattle.std.proofs.lemmas.Bool.{false_from_ne_true}
use Rattle.dlk_tree.specs.declared.op.Op.TheVariants as Op'
use Rattle.dlk_tree.specs.Trees.{root}
use Rattle.dlk_calculus.specs.Pairs.{is_true}
use Rattle.dlk_sequent.proofs.Last.{last_kid, is_True}
use Rattle.dlk_sequent.proofs.why.ends_in_true.Goals as goal

pub returns-in-True-clause-value : goal.returns-in-True-clause-value
returns-in-True-clause-value g c =
    let is = last_kid (g.S.Store.trees c.args.store.now) c.args.kids.now c.in-Some.domain.now (sym c.in-Some.ensures.value) in
    sym (ap (λ t. is_true (root t)) (is ∙ c.look.ensures.node) ∙ ap is_true c.in-True.is)

pub returns-in_default : goal.returns-in_default
returns-in_default g c =
    let is = last_kid (g.S.Store.trees c.args.store.now) c.args.kids.now c.in-Some.domain.now (sym c.in-Some.ensures.value) in
    record {
      value = sym (ap (λ t. is_true (root t)) (is ∙ c.look.ensures.node)
          ∙ false_from_ne_true (is_true c.look.result.op.now) (λ e. c.in_default.not-True (is_True c.look.result.op.now e)));
      cost = omega arith;
    }
