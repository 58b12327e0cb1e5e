use Rattle.std.proofs.Common.{◌+◌, ◌*◌, ◌≤◌, drop}
use Rattle.dlk_sequent.specs.Substitutions.{pairs_at}
use Rattle.dlk_grammar.specs.Shown.{spell}
use Rattle.dlk_grammar.specs.Symbols.{shown_pair, shown_pairs}
use Rattle.dlk_print.proofs.Left.{Left}
use Rattle.dlk_print.proofs.Joined.{pending}
use Rattle.dlk_print.proofs.Paired.{comma, sizes}
use Rattle.dlk_print.proofs.pairs.pairs_text.Given as goal

abbrev pub invariant-loop-i : goal.invariant-loop-i
invariant-loop-i g l =
    let trees = g.S.Store.trees l.store in
    let later = pairs_at trees (drop l.i l.pairs) in
    record {
      text : Left l.fn.out.items (spell (shown_pairs (pairs_at trees l.fn.pairs))) l.out.items (spell (pending shown_pair comma l.i later));
      cost : l.steps + 2 * sizes later ≤ l.fn.steps + 2 * sizes (pairs_at trees l.fn.pairs);
    }
