use Rattle.std.proofs.Common.{◌≡◌, subst, rules, take, length, ◌++◌, ◌∷◌, []}
use Rattle.std.specs.Prelude.{IfOk}
use Rattle.dlk_tree.specs.Table.{evolved}
use Rattle.dlk_tree.specs.Trees.{Tree}
use Rattle.dlk_store.specs.Stores.{StandsFor}
use Rattle.dlk_match.proofs.SomeMembers.{own_system, own_fits}
use Rattle.dlk_match.proofs.members.Members.system.Goals as goal

pub make-requires-2-clause-fits : goal.make-requires-2-clause-fits
make-requires-2-clause-fits g c =
    let keeps = g.met.S.Store.grows_keeps c.args.store.now c.make.new.self c.in_ok-domain.ensures.grows in
    let ms = c.args.self.now in
    let items : c.new-items.result ≡ ms.items.now = search rules in
    let ids : c.as_slice.result.now ≡ take (length (evolved ms.items.now)) ms.kids.now ++ c.in_ok-domain.domain ∷ [] = search rules in
    own_fits keeps ms c.requires c.new-items.result items c.in_ok-domain.domain c.in_ok-domain.ensures.made.tree_is c.as_slice.result.now ids

pub returns-clause-made : goal.returns-clause-made
returns-clause-made g c =
    let keeps = g.met.S.Store.grows_keeps c.args.store.now c.make.new.self c.in_ok-domain.ensures.grows in
    let ms = c.args.self.now in
    let items : c.new-items.result ≡ ms.items.now = search rules in
    let ids : c.as_slice.result.now ≡ take (length (evolved ms.items.now)) ms.kids.now ++ c.in_ok-domain.domain ∷ [] = search rules in
    let own = own_system keeps ms c.requires c.new-items.result items c.in_ok-domain.domain c.in_ok-domain.ensures.made.tree_is c.as_slice.result.now ids in
    subst (λ (t : Tree). IfOk c.make-2.result (λ id. StandsFor (g.S.Store.trees c.make-2.new.self) id t)) own c.make-2.ensures.made

pub returns-clause-grows : goal.returns-clause-grows
returns-clause-grows g c =
    g.met.S.Store.grows_trans c.args.store.now c.make.new.self c.make-2.new.self c.make.ensures.grows c.make-2.ensures.grows
