use Rattle.std.proofs.Common.{◌-◌, length, take, drop, refl, codes}
use Rattle.dlk_lex.proofs.Comments.{behind, line_found}
use Rattle.dlk_lex.proofs.front.line.Goals as goal

pub returns : goal.returns
returns c = line_found c.args.bytes.now (take (length c.args.bytes.now - 2) (drop 2 c.args.bytes.now)) c.line_run.result
    (behind c.args.bytes.now (codes "//") 2 c.requires refl) c.line_run.ensures.count
