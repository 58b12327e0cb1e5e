use Rattle.dlk_lex.proofs.Sources.{taking_on}
use Rattle.dlk_lex.proofs.FirstTokens.{fails_from}
use Rattle.dlk_lex.proofs.source.Source.finish.Goals as goal

pub loop-token-preserved-else-is_end : goal.loop-token-preserved-else-is_end
loop-token-preserved-else-is_end c =
    taking_on c.args.self.now c.loop-token.self (record { origin = c.next.new.self; noted = c.note.new.self }) c.in_ok-token.token c.loop-token.invariant
    c.in_ok-token.ensures.next (fails_from c.is_end.ensures c.if-is_end.false) c.in_ok-note.ensures

pub loop-token-preserved : goal.loop-token-preserved
loop-token-preserved c =
    taking_on c.args.self.now c.loop-token.self (record { origin = c.next.new.self; noted = c.note.new.self }) c.in_ok-token.token c.loop-token.invariant
    c.in_ok-token.ensures.next (fails_from c.is_end.ensures c.if-is_end.false) c.in_ok-note.ensures
