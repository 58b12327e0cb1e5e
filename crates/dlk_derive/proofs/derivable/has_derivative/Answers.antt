use Rattle.std.proofs.Common.{◌∙◌, sym}
use Rattle.dlk_store.specs.Stores.{tree, kid_trees}
use Rattle.dlk_derive.proofs.Kids.{all_kids, differential_over, formula_differential_over, both_ways}
use Rattle.dlk_derive.proofs.derivable.has_derivative.Goals as goal

pub returns-in-Diff-clause-value : goal.returns-in-Diff-clause-value
returns-in-Diff-clause-value g c =
    let trees = g.S.Store.trees c.args.store.now in
    let op = c.look-node.result.op.now in
    let ks = c.look-node.result.kids.now in
    let e = c.look-node.ensures.node in
    let every = all_kids trees c.args.id op ks (g.met.S.Store.well_made c.args.store.now) c.requires e in
    both_ways (tree trees c.args.id) c.are_derivable.result
    (differential_over (tree trees c.args.id) op (kid_trees trees ks) e c.in-Diff.is every ∙ sym c.are_derivable.ensures.value)

pub returns-in-DiffF-clause-value : goal.returns-in-DiffF-clause-value
returns-in-DiffF-clause-value g c =
    let trees = g.S.Store.trees c.args.store.now in
    let op = c.look-node.result.op.now in
    let ks = c.look-node.result.kids.now in
    let e = c.look-node.ensures.node in
    let every = all_kids trees c.args.id op ks (g.met.S.Store.well_made c.args.store.now) c.requires e in
    both_ways (tree trees c.args.id) c.are_derivable_formulas.result
    (formula_differential_over (tree trees c.args.id) op (kid_trees trees ks) e c.in-DiffF.is every ∙ sym c.are_derivable_formulas.ensures.value)
