use Rattle.std.proofs.Common.{◌+◌, ◌≤◌, [], ◌∷◌, map, drop}
use Rattle.std.specs.Prelude.{sum_by}
use Rattle.dlk_tree.specs.Trees.{size}
use Rattle.dlk_store.specs.Stores.{tree}
use Rattle.dlk_grammar.specs.Shown.{mark, space, spell, shown, formulas}
use Rattle.dlk_grammar.specs.declared.token.Mark.TheVariants.{Comma}
use Rattle.dlk_print.proofs.Left.{Left}
use Rattle.dlk_print.proofs.Joined.{pending}
use Rattle.dlk_print.proofs.sequent.formulas.Given as goal

abbrev pub invariant-loop-i : goal.invariant-loop-i
invariant-loop-i g l =
    let trees = g.S.Store.trees l.store in
    let later = map (tree trees) (drop l.i l.ids) in
    record {
      text : Left l.fn.out.items (spell (formulas (map (tree trees) l.fn.ids))) l.out.items (spell (pending shown (mark Comma ∷ space ∷ []) l.i later));
      cost : l.steps + sum_by size later ≤ l.fn.steps + sum_by size (map (tree trees) l.fn.ids);
    }
