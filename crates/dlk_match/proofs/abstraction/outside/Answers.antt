use Rattle.std.proofs.Common.{◌≡◌, sym, subst, ⊎_elim, ◌-◌, ◌≤◌, length, arith}
use Rattle.dlk_tree.specs.declared.op.Op.{Op}
use Rattle.dlk_store.specs.Stores.{kid_trees}
use Rattle.dlk_calculus.specs.Captures.{captures}
use Rattle.dlk_match.specs.Entered.{count}
use Rattle.dlk_match.proofs.Abstracted.{one_outside}
use Rattle.dlk_match.proofs.abstraction.outside.Goals as goal

pub returns-in-Box-clause-value : goal.returns-in-Box-clause-value
returns-in-Box-clause-value c = λ trees.
    let kids = kid_trees trees c.args.kids.now in
    let some : 1 ≤ length c.args.kids.now = grind (arith, c.if-not-is_empty.true, c.is_empty.ensures) in
    let one = one_outside trees c.args.kids.now some in
    let at = λ (op : Op). 1 ≡ count kids - count ((captures op).reach kids) in
    ⊎_elim (λ e. subst at (sym e) one) (⊎_elim (λ e. subst at (sym e) one) (λ e. subst at (sym e) one)) c.in-Box.is

pub returns-in-Box-clause-few : goal.returns-in-Box-clause-few
returns-in-Box-clause-few c = grind (arith, c.if-not-is_empty.true, c.is_empty.ensures)
