use Rattle.std.proofs.Common.{sym, ◌∙◌, arith}
use Rattle.dlk_lex.proofs.Steps.{past_space, past_gap, stuck, rest_from, all_passed, first_token_is}
use Rattle.dlk_lex.proofs.splitting.first_token.Goals as goal

pub loop-at-preserved-then-is_space : goal.loop-at-preserved-then-is_space
loop-at-preserved-then-is_space c =
    past_space c.args.bytes.now c.args.from c.loop-at.at c.loop-at.invariant c.loop-at-test.true (sym c.is_space.ensures ∙ c.if-is_space.true)

pub loop-at-preserved : goal.loop-at-preserved
loop-at-preserved c =
    let piece = rw c.in-Comment.is at c.in_ok-n.ensures.piece in
    (past_gap c.args.bytes.now c.args.from c.loop-at.at _ c.loop-at.invariant _ (rest_from c.args.bytes.now c.loop-at.at) c.in-Comment.n piece).1

pub loop-at-smaller : goal.loop-at-smaller
loop-at-smaller c =
    let piece = rw c.in-Comment.is at c.in_ok-n.ensures.piece in
    let goes = past_gap c.args.bytes.now c.args.from c.loop-at.at _ c.loop-at.invariant _ (rest_from c.args.bytes.now c.loop-at.at) c.in-Comment.n piece in
    omega (arith, c.loop-at-test.true, goes.0)

pub returns-in-Token-clause-first : goal.returns-in-Token-clause-first
returns-in-Token-clause-first c =
    let piece = rw c.in-Token.is at c.in_ok-n.ensures.piece in
    first_token_is c.args.bytes.now c.args.from c.loop-at.at c.loop-at.invariant _ (rest_from c.args.bytes.now c.loop-at.at) c.in-Token.n c.in-Token.kind piece

pub returns-in-Nothing-clause-bad : goal.returns-in-Nothing-clause-bad
returns-in-Nothing-clause-bad c =
    let piece = rw c.in-Nothing.is at c.in_ok-n.ensures.piece in
    stuck c.args.bytes.now c.args.from c.loop-at.at _ c.loop-at.invariant _ (rest_from c.args.bytes.now c.loop-at.at) piece

pub returns-clause-first : goal.returns-clause-first
returns-clause-first c = all_passed c.args.bytes.now c.args.from c.loop-at.at c.loop-at.invariant c.loop-at-test.false
