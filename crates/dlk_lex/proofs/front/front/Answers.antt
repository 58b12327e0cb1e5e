use Rattle.std.proofs.Common.{◌∙◌, sym}
use Rattle.std.proofs.lemmas.Result.{IfOk-weaker}
use Rattle.dlk_lex.proofs.Comments.{no_comment}
use Rattle.dlk_lex.proofs.Steps.{as_piece}
use Rattle.dlk_lex.proofs.front.front.Goals as goal

pub returns-clause-piece : goal.returns-clause-piece
returns-clause-piece c =
    let none = no_comment c.args.bytes.now (sym c.starts_with.ensures.value ∙ c.if-starts_with.false)
    (sym c.starts_with-2.ensures.value ∙ c.if-starts_with-2.false) in
    IfOk-weaker c.token.result _ _ (as_piece c.args.bytes.now c.requires.some c.requires.no_space none) c.token.ensures.token
