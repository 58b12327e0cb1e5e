use Rattle.std.proofs.Common.{ap, sym, ◌∙◌, get_or, Option, Some, None}
use Rattle.dlk_store.specs.declared.Id.{Id}
use Rattle.dlk_memo.specs.Tables.{Table, found}
use Rattle.dlk_memo.proofs.Parts.{once_both, found_near, found_far, placed, not_placed}
use Rattle.dlk_memo.proofs.results.Results.find.Goals as goal

pub returns-in-Some-clause-found : goal.returns-in-Some-clause-found
returns-in-Some-clause-found c =
    let near = c.self.inside.near in
    let there = placed near c.args.id c.as_slice-near.result.now c.as_slice-near.ensures.items c.in-Some.i c.in-Some.ensures in
    let d : Id × Option Id = (record { 0 = 0 }, None) in
    let is = found_near near c.self.inside.far.entries c.args.id _ (there.there d) in
    ap (λ (t : Table). Some (get_or t c.in-Some.i d).1) c.as_slice-near.ensures.items ∙ sym is ∙ ap (λ t. found t c.args.id) c.self.view_is

pub returns-in-Some-clause-once : goal.returns-in-Some-clause-once
returns-in-Some-clause-once c = rw (← c.self.view_is) (once_both c.self.invariant)

pub returns-in-None-clause-found : goal.returns-in-None-clause-found
returns-in-None-clause-found c =
    let near = c.self.inside.near in
    let none = not_placed near c.args.id c.as_slice-near.result.now c.as_slice-near.ensures.items c.in-None.ensures in
    c.copied.ensures ∙ c.get.ensures.value ∙ sym (found_far near c.self.inside.far.entries c.args.id none) ∙ ap (λ t. found t c.args.id) c.self.view_is

pub returns-in-None-clause-once : goal.returns-in-None-clause-once
returns-in-None-clause-once c = rw (← c.self.view_is) (once_both c.self.invariant)
