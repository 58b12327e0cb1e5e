use Rattle.std.proofs.Common.{map, ap, sym, subst, ◌∙◌}
use Rattle.std.specs.List.{All}
use Rattle.std.proofs.lemmas.List.Elements.{All-nil}
use Rattle.dlk_tacsyn.specs.Ties.{tactic_at, TacticIsKnown}
use Rattle.dlk_tacsyn.specs.Tactics.{Choice}
use Rattle.dlk_tacsyn.specs.Strategies.{parts}
use Rattle.dlk_library.proofs.Known.{one_more}
use Rattle.dlk_library.proofs.rows.step_of.Goals as goal

pub returns-clause-made : goal.returns-clause-made
returns-clause-made c = λ trees.
    c.choice.ensures.made trees
    ∙ ap (λ ts. Choice (parts ts))
    (one_more _ (c.in_ok-steps-8.ensures.made trees)
    (one_more _ (c.in_ok-steps-7.ensures.made trees)
    (one_more _ (c.in_ok-steps-6.ensures.made trees)
    (one_more _ (c.in_ok-steps-5.ensures.made trees)
    (one_more _ (c.in_ok-steps-4.ensures.made trees)
    (one_more _ (c.in_ok-steps-3.ensures.made trees)
    (one_more _ (c.in_ok-steps-2.ensures.made trees)
    (one_more _ (c.in_ok-steps.ensures.made trees)
    (ap (map (tactic_at trees)) c.new.ensures.items)))))))))

pub returns-clause-known : goal.returns-clause-known
returns-clause-known c = λ trees place.
    c.choice.ensures.known trees
    (c.in_ok-steps-8.ensures.known trees place
    (c.in_ok-steps-7.ensures.known trees place
    (c.in_ok-steps-6.ensures.known trees place
    (c.in_ok-steps-5.ensures.known trees place
    (c.in_ok-steps-4.ensures.known trees place
    (c.in_ok-steps-3.ensures.known trees place
    (c.in_ok-steps-2.ensures.known trees place
    (c.in_ok-steps.ensures.known trees place
    (subst (All (TacticIsKnown trees)) (sym c.new.ensures.items) (All-nil (TacticIsKnown trees)))))))))))
