use Rattle.std.proofs.Common.{◌≡◌, ◌∙◌, ap, subst, [], ◌∷◌, ◌++◌, false}
use Rattle.std.specs.Prelude.{All}
use Rattle.dlk_subst.specs.declared.seen.Seen.{Seen}
use Rattle.dlk_subst.specs.Looked.{same_id}
use Rattle.dlk_subst.proofs.Looked.{sees_pushed}
use Rattle.dlk_subst.proofs.seen.look_once.Goals as goal

pub returns-clause-sees : goal.returns-clause-sees
returns-clause-sees g c all within seen =
    let old = c.args.seen.now.items in
    let s : Seen = record { id = c.args.id; op = c.look-node.result.op; kids = c.look-node.result.kids } in
    let items : c.push.new.self.items ≡ old ++ s ∷ [] = c.in_ok-push.ensures.items ∙ ap (λ l. l ++ s ∷ []) c.reserve.ensures.items in
    let absent = subst (All (λ (r : Seen). same_id r.id c.args.id ≡ false)) c.as_slice.ensures.value (c.find_seen.ensures.absent c.in_default.is) in
    sees_pushed (g.S.Store.trees c.args.store.now) all old c.push.new.self.items s c.args.steps.now c.look-node.new.steps items c.look-node.ensures.step
    (record { known = c.requires.known; node_is = c.look-node.ensures.node; kids_known = c.look-node.ensures.known }) within absent seen
