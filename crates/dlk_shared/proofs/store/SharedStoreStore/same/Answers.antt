use Rattle.std.proofs.Common.{IsTrue, ◌≡◌, sym, ap, ◌∙◌, eqb-true, eq-eqb}
use Rattle.dlk_store.specs.Stores.{tree}
use Rattle.dlk_store.specs.declared.Id.{Id}
use Rattle.dlk_shared.specs.Nodes.{trees_of}
use Rattle.dlk_shared.specs.Unique.{nodes_one_id}
use Rattle.dlk_shared.proofs.store.SharedStoreStore.same.Goals as goal

pub returns : goal.returns
returns c =
    let s = c.args.self.now in
    let one = nodes_one_id s.ops.keys s.nodes.entries s.ops_apart s.nodes_apart s.sound c.args.a c.args.b c.requires.first c.requires.second in
    let yes : IsTrue c.eq.result → c.args.a.0 ≡ c.args.b.0 = λ h. eqb-true c.args.a.0 c.args.b.0 (sym c.eq.ensures ∙ h) in (
      λ h. ap (λ n. tree (trees_of s.ops.keys s.nodes.entries) (record { 0 = n })) (yes h),
      λ e. c.eq.ensures ∙ eq-eqb c.args.a.0 c.args.b.0 (ap (λ (id : Id). id.0) (one e)),
    )
