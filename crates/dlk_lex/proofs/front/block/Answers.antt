use Rattle.std.proofs.Common.{◌-◌, length, take, drop, refl, codes}
use Rattle.dlk_lex.proofs.Comments.{behind, block_found, block_missing}
use Rattle.dlk_lex.proofs.front.block.Goals as goal

pub returns-in-Some : goal.returns-in-Some
returns-in-Some c =
    let bytes = c.args.bytes.now in
    block_found c.args.bytes.now (take (length c.args.bytes.now - 2) (drop 2 c.args.bytes.now)) c.in-Some.n
    (behind c.args.bytes.now (codes "/*") 2 c.requires refl) c.in-Some.ensures.found

pub returns-in-None : goal.returns-in-None
returns-in-None c =
    block_missing c.args.bytes.now (take (length c.args.bytes.now - 2) (drop 2 c.args.bytes.now)) (behind c.args.bytes.now (codes "/*") 2 c.requires refl)
    c.in-None.ensures.none
