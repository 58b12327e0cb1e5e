use Rattle.std.proofs.Common.{◌∙◌, sym, arith}
use Rattle.dlk_store.specs.Stores.{tree, kid_trees}
use Rattle.dlk_store.proofs.Kids.{kid_smaller}
use Rattle.dlk_derive.proofs.Kids.{all_kids, formula_over}
use Rattle.dlk_derive.proofs.derivable.+is_derivable_formula.Goals as goal

pub loop-kid-init : goal.loop-kid-init
loop-kid-init g t c =
    let trees = g.S.Store.trees c.args.store.now in
    let op = c.look-node.result.op.now in
    let ks = c.look-node.result.kids.now in
    let e = c.look-node.ensures.node in
    let every = all_kids trees c.args.id op ks (g.met.S.Store.well_made c.args.store.now) c.requires e in
    record {
      rest = sym (formula_over (tree trees c.args.id) op (kid_trees trees ks) e every
          (sym c.is_comparison.ensures ∙ c.if-is_comparison.false) (sym c.joins_formulas.ensures ∙ c.if-not-joins_formulas.false));
      known = c.look-node.ensures.known;
      cost = rw e (omega (arith, c.look-node.ensures.step));
      smaller = λ i d h. kid_smaller trees (tree trees c.args.id) op ks i d e h;
    }
