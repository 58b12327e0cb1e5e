use Rattle.std.proofs.Common.{◌-◌, length, drop, refl, arith}
use Rattle.std.proofs.lemmas.List.{take_all, length-drop}
use Rattle.dlk_lex.proofs.Sources.{token_taken}
use Rattle.dlk_lex.proofs.FirstTokens.{fails_from}
use Rattle.dlk_lex.proofs.source.Origin.next.Goals as goal

pub returns-else-is_end-clause-next : goal.returns-else-is_end-clause-next
returns-else-is_end-clause-next c =
    let ts = c.in-Tokens.tokens.now in
    let are = rw c.in-Tokens.is at c.requires in
    let rest = take_all (length ts - 1) (drop 1 ts) (omega (arith, length-drop 1 ts)) in
    rw c.in-Tokens.is (token_taken _ _ ts c.in_ok-token-in-Tokens.token _ refl rest are c.in_ok-token-in-Tokens.ensures
    (fails_from c.is_end.ensures c.if-is_end.false))
