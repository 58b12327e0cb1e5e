use Rattle.std.proofs.Common.{[], ◌∷◌, ◌++◌, ap, ◌∙◌}
use Rattle.dlk_store.specs.Stores.{tree}
use Rattle.dlk_session.proofs.Holding.{begun_held, shared_none}
use Rattle.dlk_session.proofs.session.Session.new.Goals as goal

pub invariant_of-result : goal.invariant_of-result
invariant_of-result g c =
    let trees = g.S.Store.trees in
    let made = c.in_ok-push.ensures.items ∙ ap (λ xs. xs ++ c.in_ok-start.start ∷ []) c.new-taken.ensures.items in
    rw c.new.ensures.items (
      begun_held trees (tree (trees c.args.kernel.store) c.args.model) c.stated.new.kernel c.in_ok-start.start
          c.push.new.self.items made c.in_ok-start.ensures.step c.in_ok-start.ensures.row c.in_ok-start.ensures.known,
      shared_none (trees c.stated.new.kernel.store) c.push.new.self.items _,
    )
