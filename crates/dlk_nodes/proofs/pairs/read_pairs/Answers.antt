use Rattle.std.proofs.Common.{[], ◌∷◌, sym, ap, subst}
use Rattle.std.specs.Prelude.{option_copied}
use Rattle.std.proofs.lemmas.List.{map-append}
use Rattle.std.proofs.lemmas.List.Elements.{All-nil, All-push}
use Rattle.std.proofs.lemmas.Result.{err_from_is_err_and}
use Rattle.dlk_store.specs.Stores.{IsId}
use Rattle.dlk_sequent.specs.declared.subst.Pair.{Pair}
use Rattle.dlk_sequent.specs.Substitutions.{pair_at, pairs_at, AreKnownPairs}
use Rattle.dlk_nodes.specs.Tables.{nodes_at}
use Rattle.dlk_nodes.proofs.PairsFound.{PairsSoFar, pairs_begin, pair_wanted, pair_found, all_pairs}
use Rattle.dlk_lines.proofs.Refusals.{fault_of_whole}
use Rattle.dlk_nodes.proofs.pairs.read_pairs.Goals as goal

pub loop-left-init : goal.loop-left-init
loop-left-init g c =
    let trees = g.S.Store.trees c.args.store.now in
    let nodes = nodes_at trees c.args.table.now in
    record {
      so_far = subst (λ l. PairsSoFar nodes c.args.text.now (option_copied c.unless_empty-left.result) (pairs_at trees l)) (sym c.new-pairs.ensures.items)
          (pairs_begin nodes c.args.text.now c.unless_empty-left.result c.unless_empty-left.ensures);
      known = subst (AreKnownPairs trees) (sym c.new-pairs.ensures.items) (All-nil (λ (p : Pair). IsId trees p.by));
    }

pub returns-in_err-pair-clause-fault : goal.returns-in_err-pair-clause-fault
returns-in_err-pair-clause-fault g c =
    let trees = g.S.Store.trees c.args.store.now in
    let nodes = nodes_at trees c.args.table.now in
    let done = pairs_at trees c.loop-left.pairs.items in
    let so_far = subst (λ l. PairsSoFar nodes c.args.text.now l done) (ap option_copied c.in-Some.is) c.loop-left.invariant.so_far in
    let e = err_from_is_err_and c.from_residual.result c.from_residual.ensures.1 in
    rw (e.1, e.2) (fault_of_whole (pair_wanted nodes c.args.text.now c.in-Some.part.now done so_far) _ c.in_err-pair.ensures.fault)

pub loop-left-preserved : goal.loop-left-preserved
loop-left-preserved g c =
    let trees = g.S.Store.trees c.args.store.now in
    let nodes = nodes_at trees c.args.table.now in
    let done = pairs_at trees c.loop-left.pairs.items in
    let pair = c.in_ok-pair.pair in
    let rest = option_copied c.in_ok-pair.rest in
    let so_far = subst (λ l. PairsSoFar nodes c.args.text.now l done) (ap option_copied c.in-Some.is) c.loop-left.invariant.so_far in
    record {
      so_far = subst (λ l. PairsSoFar nodes c.args.text.now rest (pairs_at trees l)) (sym c.in_ok-push.ensures.items)
          (subst (PairsSoFar nodes c.args.text.now rest) (sym (map-append (pair_at trees) c.loop-left.pairs.items (pair ∷ [])))
          (pair_found nodes c.args.text.now c.in-Some.part.now done so_far (pair_at trees pair) rest c.in_ok-pair.ensures.found));
      known = subst (AreKnownPairs trees) (sym c.in_ok-push.ensures.items)
          (All-push (λ (p : Pair). IsId trees p.by) c.loop-left.pairs.items pair c.loop-left.invariant.known c.in_ok-pair.ensures.known);
    }

pub returns-clause-found : goal.returns-clause-found
returns-clause-found g c =
    let trees = g.S.Store.trees c.args.store.now in
    let nodes = nodes_at trees c.args.table.now in
    let done = pairs_at trees c.loop-left.pairs.items in
    all_pairs nodes c.args.text.now done (subst (λ l. PairsSoFar nodes c.args.text.now l done) (ap option_copied c.in_default.is) c.loop-left.invariant.so_far)
