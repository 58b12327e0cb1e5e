use Rattle.dlk_grammar.proofs.Real.{split_tokens}
use Rattle.dlk_lex.proofs.Steps.{all_split}
use Rattle.dlk_lex.proofs.FirstTokens.{holds_from}
use Rattle.dlk_lex.proofs.splitting.tokens.Goals as goal

pub returns-then-ends-clause-real : goal.returns-then-ends-clause-real
returns-then-ends-clause-real c =
    rw c.in_ok-push.ensures.items (split_tokens
    (all_split c.args.bytes.now c.loop-out.at c.loop-out.out.items c.in_ok-token.token c.loop-out.invariant c.in_ok-token.ensures.first
    (holds_from c.is_end-ends.ensures c.if-ends.true)))
