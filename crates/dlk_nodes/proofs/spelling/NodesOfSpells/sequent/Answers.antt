use Rattle.std.specs.Prelude.{codes}
use Rattle.dlk_print.proofs.Left.{failed, partly, appended, last}
use Rattle.dlk_lines.specs.Written.{numbers_text, numbers_before}
use Rattle.dlk_nodes.specs.Tables.{nodes_at}
use Rattle.dlk_nodes.proofs.IdTexts.{before_same, behind_same}
use Rattle.dlk_nodes.proofs.WrittenLaws.{three_left}
use Rattle.dlk_nodes.proofs.spelling.NodesOfSpells.sequent.Goals as goal

pub returns-in_err-append_before-clause-text : goal.returns-in_err-append_before-clause-text
returns-in_err-append_before-clause-text g c =
    let trees = g.S.Store.trees c.args.self.now.store.now in
    let nodes = nodes_at trees c.args.self.now.table.now in
    let left = numbers_before nodes (nodes_at trees c.args.s.now.ante) in
    let right = numbers_text nodes (nodes_at trees c.args.s.now.succ) in
    let none = three_left c.args.out.now.items left (codes "==>") right in
    let one = g.met.S.Store.one_id c.requires.there.0 c.args.self.now.store.now in
    let same = before_same trees one c.args.self.now.table.now c.requires.there.1 c.args.s.now.ante c.requires.known.ante in
    failed c.from_residual.result c.from_residual.ensures.0 (partly left _ none (rw (c.as_slice.ensures, same) at c.in_err-append_before.ensures.begun))

pub returns-in_err-append-clause-text : goal.returns-in_err-append-clause-text
returns-in_err-append-clause-text g c =
    let trees = g.S.Store.trees c.args.self.now.store.now in
    let nodes = nodes_at trees c.args.self.now.table.now in
    let left = numbers_before nodes (nodes_at trees c.args.s.now.ante) in
    let right = numbers_text nodes (nodes_at trees c.args.s.now.succ) in
    let none = three_left c.args.out.now.items left (codes "==>") right in
    let one = g.met.S.Store.one_id c.requires.there.0 c.args.self.now.store.now in
    let same = before_same trees one c.args.self.now.table.now c.requires.there.1 c.args.s.now.ante c.requires.known.ante in
    let first = appended left _ none (rw (c.as_slice.ensures, same) at c.in_ok-append_before.ensures.ok) in
    failed c.from_residual-in_err-append.result c.from_residual-in_err-append.ensures.0 (partly (codes "==>") right first c.in_err-append.ensures.begun)

pub returns-clause-text : goal.returns-clause-text
returns-clause-text g c =
    let trees = g.S.Store.trees c.args.self.now.store.now in
    let nodes = nodes_at trees c.args.self.now.table.now in
    let left = numbers_before nodes (nodes_at trees c.args.s.now.ante) in
    let right = numbers_text nodes (nodes_at trees c.args.s.now.succ) in
    let none = three_left c.args.out.now.items left (codes "==>") right in
    let one = g.met.S.Store.one_id c.requires.there.0 c.args.self.now.store.now in
    let same = before_same trees one c.args.self.now.table.now c.requires.there.1 c.args.s.now.ante c.requires.known.ante in
    let behind = behind_same trees one c.args.self.now.table.now c.requires.there.1 c.args.s.now.succ c.requires.known.succ in
    let first = appended left _ none (rw (c.as_slice.ensures, same) at c.in_ok-append_before.ensures.ok) in
    last (appended (codes "==>") right first c.in_ok-append.ensures.ok) (rw (c.as_slice-2.ensures, behind) at c.append_behind.ensures)
