use Rattle.dlk_print.proofs.Left.{first_failed, then_last, same_text}
use Rattle.dlk_nodes.proofs.IdTexts.{number_same}
use Rattle.dlk_nodes.proofs.spelling.NodesOfSpells.formula.Goals as goal

pub returns-in_err-append-clause-text : goal.returns-in_err-append-clause-text
returns-in_err-append-clause-text g c = first_failed _ _ c.from_residual.result c.from_residual.ensures.0 c.in_err-append.ensures.begun

pub returns-clause-text : goal.returns-clause-text
returns-clause-text g c =
    let store = c.args.self.now.store.now in
    let there = c.requires.there in
    let same = number_same (g.S.Store.trees store) (g.met.S.Store.one_id there.0 store) c.args.self.now.table.now there.1 c.args.h c.requires.known in
    then_last _ c.in_ok-append.ensures.ok (same_text same c.append_place.ensures)
