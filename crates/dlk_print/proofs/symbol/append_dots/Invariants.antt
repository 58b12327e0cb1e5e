use Rattle.dlk_grammar.specs.Shown.{spell}
use Rattle.dlk_grammar.specs.Symbols.{dots}
use Rattle.dlk_print.proofs.Left.{Left}
use Rattle.dlk_print.proofs.Symbols.{later_dots}
use Rattle.dlk_print.proofs.symbol.append_dots.Given as goal

-- the dots from the i-th on are left
abbrev pub invariant-loop-i : goal.invariant-loop-i
invariant-loop-i l = Left l.fn.out.items (spell (dots l.fn.count)) l.out.items (later_dots l.i l.fn.count)
