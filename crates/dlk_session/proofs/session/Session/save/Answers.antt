use Rattle.std.proofs.Common.{◌≡◌, ◌++◌, take, length, refl, sym, ap, ◌∙◌, arith}
use Rattle.std.specs.Prelude.{option_map}
use Rattle.std.proofs.lemmas.List.{length-map, take_rest}
use Rattle.std.proofs.lemmas.List.Elements.{All-drop}
use Rattle.dlk_rules.specs.Steps.{step_at, HasKnownIds}
use Rattle.dlk_session.specs.declared.reply.Reply.TheVariants.{Saved}
use Rattle.dlk_session.specs.Held.{saved_steps}
use Rattle.dlk_session.proofs.Holding.{row_count, saved_again, saved_known_again, shared_all, save_held, save_state}
use Rattle.dlk_session.proofs.session.Session.save.Goals as goal

pub invariant_of-self-2 : goal.invariant_of-self-2
invariant_of-self-2 g c =
    let trees = g.S.Store.trees c.self.inside.kernel.store in
    let steps = c.self.inside.steps.items in
    let saved = option_map (λ v. v.items) c.self.inside.saved in
    let new = c.in_ok-new.new.items in
    let all = take c.self.inside.shared (saved_steps saved) ++ new in
    let copied = rw (c.deref.ensures.value, take_rest steps c.self.inside.shared) at (c.in_ok-new.ensures.same trees) in
    let same = saved_again trees c.self.inside.shared steps new all saved c.self.invariant.1 copied refl in
    let first = rw (c.deref.ensures.value, take_rest steps c.self.inside.shared) at (c.in_ok-new.ensures.known trees) in
    let known = saved_known_again trees c.self.inside.shared new all saved c.self.invariant.0.saved
    (first (All-drop (HasKnownIds trees) c.self.inside.shared steps c.self.invariant.0.known)) refl in
    let count : c.len-self-inside.result ≡ length steps = omega (arith, c.len-self-inside.ensures, c.self.inside.steps.ok.0) in
    rw (c.in_ok-save_behind.ensures.saved, count) (
      save_held g.S.Store.trees _ all c.self.invariant.0 same known,
      shared_all trees steps all same,
    )

pub returns-clause-says : goal.returns-clause-says
returns-clause-says g c =
    let trees = g.S.Store.trees c.self.inside.kernel.store in
    rw (← c.self.view_is)
    (ap Saved (c.rows.ensures.count ∙ row_count g.S.Store.trees _ c.self.invariant.0 ∙ sym (length-map c.self.inside.steps.items (step_at trees))))

pub returns-clause-saves : goal.returns-clause-saves
returns-clause-saves g c =
    let trees = g.S.Store.trees c.self.inside.kernel.store in
    let steps = c.self.inside.steps.items in
    let saved = option_map (λ v. v.items) c.self.inside.saved in
    let new = c.in_ok-new.new.items in
    let all = take c.self.inside.shared (saved_steps saved) ++ new in
    let copied = rw (c.deref.ensures.value, take_rest steps c.self.inside.shared) at (c.in_ok-new.ensures.same trees) in
    let same = saved_again trees c.self.inside.shared steps new all saved c.self.invariant.1 copied refl in
    let now = save_state g.S.Store.trees
    (record { kernel = c.self.inside.kernel; steps = steps; earlier = c.self.inside.earlier.items; used = c.self.inside.used; saved = saved }) all same in
    rw (c.in_ok-save_behind.ensures.saved, ← c.self.view_is) now
