use Rattle.std.proofs.Common.{◌++◌, ◌∙◌, [], sym, ap, subst}
use Rattle.std.specs.Prelude.{All}
use Rattle.std.proofs.lemmas.List.Elements.{All-nil}
use Rattle.dlk_store.specs.Stores.{IsId, kid_trees}
use Rattle.dlk_store.specs.Kids.{sorts-kid_trees}
use Rattle.dlk_calculus.specs.Kids.{last}
use Rattle.dlk_calculus.specs.Subst.{new_members, items_of, kids_of}
use Rattle.dlk_sequent.specs.Substitutions.{pairs_at}
use Rattle.dlk_subst.specs.Splices.{append}
use Rattle.dlk_subst.specs.Counts.{replacement_subtrees}
use Rattle.dlk_subst.proofs.Looked.{sees_begun, sees_then, seen_few}
use Rattle.dlk_subst.proofs.Splicing.{whole_put, next_fits, next_items, next_kids}
use Rattle.dlk_subst.proofs.splice.all_spliced.Goals as goal

pub loop-item-init : goal.loop-item-init
loop-item-init g c =
    let trees = g.S.Store.trees c.args.store.now in
    let members = new_members (pairs_at trees c.args.pairs.now) c.args.items.now (kid_trees trees c.args.kids.now) in
    record {
      items_are = ap (λ l. l ++ items_of members) c.new.ensures.items;
      kids_are = ap (λ ks. append (kid_trees trees ks) (kids_of members (last (kid_trees trees c.args.kids.now)))) c.new-2.ensures.items;
      left_are = sorts-kid_trees trees c.args.kids.now ∙ c.requires.fits.kids_fit;
      known = subst (All (IsId trees)) (sym c.new-2.ensures.items) (All-nil (IsId trees));
      left_known = c.requires.kids;
      sees =
          sees_begun trees (replacement_subtrees (pairs_at trees c.args.pairs.now)) c.new-seen.result.items c.args.steps.now c.new-seen.ensures.items;
    }

pub returns-clause-kids : goal.returns-clause-kids
returns-clause-kids g c =
    let trees = g.S.Store.trees c.args.store.now in
    whole_put trees (pairs_at trees c.args.pairs.now) c.args.items.now c.loop-item.item-index c.loop-item.new c.loop-item.left.now
    c.extend_from_slice.new.self.items _ c.loop-item-test.false
    c.in_ok-extend_from_slice.ensures.items c.loop-item.invariant.left_are c.loop-item.invariant.kids_are

pub loop-item-preserved : goal.loop-item-preserved
loop-item-preserved g c =
    let trees = g.S.Store.trees c.args.store.now in
    let pairs = pairs_at trees c.args.pairs.now in
    let inv = c.loop-item.invariant in
    let puts = c.in_ok-left.ensures.puts in
    record {
      items_are = next_items trees pairs c.args.items.now c.loop-item.item-index c.item-item.result c.item-item.is c.loop-item-test.true puts inv.left_are
          ∙ inv.items_are;
      kids_are = next_kids trees pairs c.args.items.now c.loop-item.item-index c.item-item.result c.item-item.is c.loop-item-test.true puts inv.left_are
          ∙ inv.kids_are;
      left_are = next_fits trees pairs c.args.items.now c.loop-item.item-index c.item-item.result c.item-item.is c.loop-item-test.true puts inv.left_are;
      known = puts.known inv.left_known inv.known;
      left_known = puts.left_known inv.left_known;
      sees =
          sees_then trees (replacement_subtrees (pairs_at trees c.args.pairs.now)) [] c.loop-item.seen.items c.put.new.seen.items c.args.steps.now
          c.loop-item.steps c.put.new.steps c.loop-item.invariant.sees c.put.ensures.sees;
    }

pub returns-in_err-left-clause-cost : goal.returns-in_err-left-clause-cost
returns-in_err-left-clause-cost g c u =
    let trees = g.S.Store.trees c.args.store.now in
    let all = replacement_subtrees (pairs_at trees c.args.pairs.now) in
    seen_few trees all c.put.new.seen.items c.args.steps.now c.put.new.steps (g.met.S.Store.one_id u c.args.store.now)
    (sees_then trees all [] c.loop-item.seen.items c.put.new.seen.items c.args.steps.now c.loop-item.steps c.put.new.steps c.loop-item.invariant.sees
    c.put.ensures.sees)

pub returns-in_err-extend_from_slice-clause-cost : goal.returns-in_err-extend_from_slice-clause-cost
returns-in_err-extend_from_slice-clause-cost g c u =
    let trees = g.S.Store.trees c.args.store.now in
    seen_few trees (replacement_subtrees (pairs_at trees c.args.pairs.now)) c.loop-item.seen.items c.args.steps.now c.loop-item.steps
    (g.met.S.Store.one_id u c.args.store.now) c.loop-item.invariant.sees

pub returns-clause-cost : goal.returns-clause-cost
returns-clause-cost g c u =
    let trees = g.S.Store.trees c.args.store.now in
    seen_few trees (replacement_subtrees (pairs_at trees c.args.pairs.now)) c.loop-item.seen.items c.args.steps.now c.loop-item.steps
    (g.met.S.Store.one_id u c.args.store.now) c.loop-item.invariant.sees
