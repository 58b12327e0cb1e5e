use Rattle.std.proofs.Common.{◌∙◌, sym, ap, subst, Option, Some}
use Rattle.std.specs.Prelude.{OnOk}
use Rattle.dlk_tree.specs.Trees.{Tree}
use Rattle.dlk_store.specs.Stores.{tree}
use Rattle.dlk_calculus.specs.Subst.{members_for}
use Rattle.dlk_sequent.specs.Substitutions.{pairs_at}
use Rattle.dlk_subst.specs.Counts.{replacement_subtrees}
use Rattle.dlk_subst.specs.Splices.{Puts}
use Rattle.dlk_subst.proofs.Found.{tree_of, found_tree, found_known}
use Rattle.dlk_subst.proofs.Looked.{found_in}
use Rattle.dlk_subst.proofs.Splicing.{symbol_put}
use Rattle.dlk_subst.proofs.splice.Spliced.put_constant.Goals as goal

pub look_once-requires : goal.look_once-requires
look_once-requires g c =
    record {
      known =
          found_known (g.S.Store.trees c.args.store.now) c.args.pairs.now c.args.s.now c.in-Some.by c.requires.pairs (sym c.find.ensures ∙ c.in-Some.is);
    }

pub returns-in_default-clause-puts : goal.returns-in_default-clause-puts
returns-in_default-clause-puts g c =
    let trees = g.S.Store.trees c.args.store.now in
    let is = found_tree trees c.args.pairs.now c.args.s.now ∙ ap (tree_of trees) (sym c.find.ensures ∙ c.in_default.is) in
    let put = symbol_put trees c.args.s.now c.args.self.now c.put_symbol.new.self c.put_symbol.result c.put_symbol.ensures.items c.put_symbol.ensures.kids in
    subst (λ (o : Option Tree). OnOk c.put_symbol.result (Puts trees (members_for c.args.s.now o) c.args.self.now c.put_symbol.new.self)) (sym is) put

pub returns-in_err-node-clause-sees : goal.returns-in_err-node-clause-sees
returns-in_err-node-clause-sees g c =
    let trees = g.S.Store.trees c.args.store.now in
    c.look_once.ensures.sees (replacement_subtrees (pairs_at trees c.args.pairs.now))
    (found_in trees c.args.pairs.now c.args.s.now c.in-Some.by (sym c.find.ensures ∙ c.in-Some.is)) c.requires.seen

pub returns-clause-puts : goal.returns-clause-puts
returns-clause-puts g c =
    let trees = g.S.Store.trees c.args.store.now in
    let is = found_tree trees c.args.pairs.now c.args.s.now ∙ ap (tree_of trees) (sym c.find.ensures ∙ c.in-Some.is) in
    let id = ap (λ j. Some (tree trees j)) c.in_ok-node.ensures.id in
    let seen = c.in_ok-node.ensures.node (replacement_subtrees (pairs_at trees c.args.pairs.now)) c.requires.seen in
    let put = c.put_replacement.ensures trees (g.met.S.Store.well_made c.args.store.now) seen in
    subst (λ (o : Option Tree). OnOk c.put_replacement.result (Puts trees (members_for c.args.s.now o) c.args.self.now c.put_replacement.new.self))
    (id ∙ sym is) put

pub returns-clause-sees : goal.returns-clause-sees
returns-clause-sees g c =
    let trees = g.S.Store.trees c.args.store.now in
    c.look_once.ensures.sees (replacement_subtrees (pairs_at trees c.args.pairs.now))
    (found_in trees c.args.pairs.now c.args.s.now c.in-Some.by (sym c.find.ensures ∙ c.in-Some.is)) c.requires.seen
