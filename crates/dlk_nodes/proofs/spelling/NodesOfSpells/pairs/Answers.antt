use Rattle.std.proofs.Common.{◌++◌, get_or, sym, ap, subst, ◌∙◌}
use Rattle.std.specs.Prelude.{codes}
use Rattle.dlk_sequent.specs.declared.subst.Pair.{Pair}
use Rattle.dlk_sequent.specs.Substitutions.{pair_at, pairs_at, AreKnownPairs}
use Rattle.std.proofs.lemmas.List.Elements.{All-head, All-tail}
use Rattle.dlk_store.specs.Stores.{IsId}
use Rattle.dlk_print.specs.Printed.{Begun}
use Rattle.dlk_print.proofs.Left.{failed, partly, appended, unbegun, first_failed, same_text}
use Rattle.dlk_lines.specs.Spelled.{ByNodes}
use Rattle.dlk_lines.specs.Written.{pair_text, pairs_text}
use Rattle.dlk_nodes.specs.Tables.{nodes_at}
use Rattle.dlk_nodes.proofs.IdTexts.{id_pair, pair_same}
use Rattle.dlk_nodes.proofs.WrittenLaws.{later_pairs, pairs_left}
use Rattle.dlk_nodes.proofs.spelling.NodesOfSpells.pairs.Goals as goal

pub returns-in_err-append_pair-clause-text : goal.returns-in_err-append_pair-clause-text
returns-in_err-append_pair-clause-text g c =
    let trees = g.S.Store.trees c.args.self.now.store.now in
    let nodes = nodes_at trees c.args.self.now.table.now in
    let one = g.met.S.Store.one_id c.requires.there.0 c.args.self.now.store.now in
    let all = subst (AreKnownPairs trees) c.in-Some.ensures.cases.0 c.requires.known in
    let here = All-head (λ (p : Pair). IsId trees p.by) c.in-Some.first.now c.in-Some.rest.now all in
    let same = pair_same trees one c.args.self.now.table.now c.requires.there.1 c.in-Some.first.now here in
    same_text (sym (ap (λ l. pairs_text (ByNodes nodes) (pairs_at trees l)) c.in-Some.ensures.cases.0))
    (first_failed (pair_text nodes (pair_at trees c.in-Some.first.now)) (later_pairs trees nodes c.in-Some.rest.now) c.from_residual.result
    c.from_residual.ensures.0 (rw same at c.in_err-append_pair.ensures.begun))

pub loop-pair-init : goal.loop-pair-init
loop-pair-init g c =
    let trees = g.S.Store.trees c.args.self.now.store.now in
    let nodes = nodes_at trees c.args.self.now.table.now in
    let one = g.met.S.Store.one_id c.requires.there.0 c.args.self.now.store.now in
    let all = subst (AreKnownPairs trees) c.in-Some.ensures.cases.0 c.requires.known in
    let here = All-head (λ (p : Pair). IsId trees p.by) c.in-Some.first.now c.in-Some.rest.now all in
    let same = pair_same trees one c.args.self.now.table.now c.requires.there.1 c.in-Some.first.now here in
    let none = unbegun c.args.out.now.items (sym (ap (λ l. pairs_text (ByNodes nodes) (pairs_at trees l)) c.in-Some.ensures.cases.0)) in
    appended (pair_text nodes (pair_at trees c.in-Some.first.now)) (later_pairs trees nodes c.in-Some.rest.now) none
    (c.in_ok-append_pair.ensures.ok ∙ ap (λ l. c.args.out.now.items ++ l) same)

pub returns-in_err-append-clause-text : goal.returns-in_err-append-clause-text
returns-in_err-append-clause-text g c =
    let trees = g.S.Store.trees c.args.self.now.store.now in
    let nodes = nodes_at trees c.args.self.now.table.now in
    let at = pairs_left trees nodes c.in-Some.rest.now c.loop-pair.pair-index c.pair-item.result c.loop-pair-test.true c.loop-pair.invariant in
    failed c.from_residual-in_err-append.result c.from_residual-in_err-append.ensures.0 (partly (codes ",") _ at c.in_err-append.ensures.begun)

pub returns-in_err-append_pair-2-clause-text : goal.returns-in_err-append_pair-2-clause-text
returns-in_err-append_pair-2-clause-text g c =
    let trees = g.S.Store.trees c.args.self.now.store.now in
    let nodes = nodes_at trees c.args.self.now.table.now in
    let one = g.met.S.Store.one_id c.requires.there.0 c.args.self.now.store.now in
    let all = subst (AreKnownPairs trees) c.in-Some.ensures.cases.0 c.requires.known in
    let here = All-tail (λ (p : Pair). IsId trees p.by) c.in-Some.first.now c.in-Some.rest.now all c.loop-pair.pair-index c.pair-item.result
    c.loop-pair-test.true in
    let same = pair_same trees one c.args.self.now.table.now c.requires.there.1
    (get_or c.in-Some.rest.now c.loop-pair.pair-index c.pair-item.result) here in
    let at = pairs_left trees nodes c.in-Some.rest.now c.loop-pair.pair-index c.pair-item.result c.loop-pair-test.true c.loop-pair.invariant in
    let comma = appended (codes ",") _ at c.in_ok-append.ensures.ok in
    let begun = subst (λ (p : Pair). Begun c.append.new.out.items c.append_pair-in-loop-pair.new.out.items (id_pair c.args.self.now.table.now p))
    c.pair-item.is c.in_err-append_pair-2.ensures.begun in
    failed c.from_residual-in_err-append_pair-2.result c.from_residual-in_err-append_pair-2.ensures.0 (partly _ _ comma (rw same at begun))

pub loop-pair-preserved : goal.loop-pair-preserved
loop-pair-preserved g c =
    let trees = g.S.Store.trees c.args.self.now.store.now in
    let nodes = nodes_at trees c.args.self.now.table.now in
    let one = g.met.S.Store.one_id c.requires.there.0 c.args.self.now.store.now in
    let all = subst (AreKnownPairs trees) c.in-Some.ensures.cases.0 c.requires.known in
    let here = All-tail (λ (p : Pair). IsId trees p.by) c.in-Some.first.now c.in-Some.rest.now all c.loop-pair.pair-index c.pair-item.result
    c.loop-pair-test.true in
    let same = pair_same trees one c.args.self.now.table.now c.requires.there.1
    (get_or c.in-Some.rest.now c.loop-pair.pair-index c.pair-item.result) here in
    let at = pairs_left trees nodes c.in-Some.rest.now c.loop-pair.pair-index c.pair-item.result c.loop-pair-test.true c.loop-pair.invariant in
    let comma = appended (codes ",") _ at c.in_ok-append.ensures.ok in
    appended _ _ comma (c.in_ok-append_pair-2.ensures.ok
    ∙ ap (λ (p : Pair). c.append.new.out.items ++ id_pair c.args.self.now.table.now p) c.pair-item.is ∙ ap (λ l. c.append.new.out.items ++ l) same)
