use Rattle.std.proofs.Common.{◌≡◌, sym, subst, ap, ◌∙◌, ◌-◌, arith, rules, get_or, length, List}
use Rattle.dlk_tree.specs.Trees.{node, no_kids}
use Rattle.dlk_tree.specs.declared.op.Op.TheVariants.{True}
use Rattle.dlk_store.specs.Stores.{IsId, tree, kid_trees}
use Rattle.dlk_sequent.specs.Extras.{extra_at}
use Rattle.dlk_calculus.specs.Subst.{Member, members}
use Rattle.dlk_match.specs.Members.{TakingIs}
use Rattle.dlk_match.proofs.SystemHeads.{target_is, target_many, all_members, last_kid, system_head}
use Rattle.dlk_match.proofs.members.match_system.Goals as goal

pub take_members-requires-clause-members : goal.take_members-requires-clause-members
take_members-requires-clause-members g c =
    let trees = g.S.Store.trees c.args.store.now in
    let node_is = c.look-node.ensures.node in
    let made = g.met.S.Store.well_made c.args.store.now c.args.target.0 (node True no_kids) c.requires.target in
    let there : c.items.result.now ≡ c.in-System.there = c.items.ensures ∙ sym c.in_ok-there.ensures.cases in
    let kids : c.as_slice.result.now ≡ c.look-node.result.kids.now = search rules in
    all_members trees _ c.look-node.result.op.now c.in-System.there c.look-node.result.kids.now node_is c.in-System.is made
    (record { items = c.items.result; kids = c.as_slice.result }) c.look-node.ensures.known there kids

pub returns-clause-matched : goal.returns-clause-matched
returns-clause-matched g c = λ keys.
    let trees = g.S.Store.trees c.args.store.now in
    let now = g.S.Store.trees c.take_members.new.store in
    let old = extra_at trees c.args.extra.now in
    let new = extra_at now c.take_members.new.extra in
    let node_is = c.look-node.ensures.node in
    let made = g.met.S.Store.well_made c.args.store.now c.args.target.0 (node True no_kids) c.requires.target in
    let ks = c.look-node.result.kids.now in
    let items = c.args.items.now in
    let keeps = g.met.S.Store.grows_keeps c.args.store.now c.take_members.new.store c.in_ok-taking.ensures.grows in
    let there : c.items.result.now ≡ c.in-System.there = c.items.ensures ∙ sym c.in_ok-there.ensures.cases in
    let kids : c.as_slice.result.now ≡ ks = search rules in
    let many = target_many trees _ c.look-node.result.op.now c.in-System.there ks node_is c.in-System.is made in
    let d = c.index.result.now in
    let copied : c.in_ok-kids.kids.items ≡ ks = search rules in
    let domain : d ≡ get_or ks (length ks - 1) d = subst (λ all. d ≡ get_or all (length all - 1) d) copied (search rules) in
    let known = c.look-node.ensures.known (length ks - 1) d (omega (arith, many)) in
    let domain_known : IsId now d = subst (IsId now) (sym domain) (omega (arith, keeps.known, known)) in
    let domain_is = ap (tree now) domain ∙ keeps.same (get_or ks (length ks - 1) d) known ∙ last_kid trees ks d (omega (arith, many)) in
    let members_are : members c.items.result.now (kid_trees trees c.as_slice.result.now) ≡ members c.in-System.there (kid_trees trees ks) =
    λ i. members (there i) (kid_trees trees (kids i)) in
    let taking = subst (λ (ms : List Member). TakingIs items ms now old new c.in_ok-taking.taking) members_are c.in_ok-taking.ensures.matched in
    let system_is = target_is trees _ c.look-node.result.op.now c.in-System.there ks node_is c.in-System.is made in
    system_head items keys _ c.in-System.there (kid_trees trees ks) system_is old
    now new d domain_known domain_is c.in_ok-taking.taking taking c.in_ok-left.field-0 c.in_ok-left.ensures
