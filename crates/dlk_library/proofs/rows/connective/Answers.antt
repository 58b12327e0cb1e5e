use Rattle.std.proofs.Common.{[], ◌∷◌, map, ap, ◌∙◌}
use Rattle.std.specs.Prelude.{codes}
use Rattle.dlk_tacsyn.specs.Tactics.{Choice}
use Rattle.dlk_tacsyn.specs.Strategies.{parts}
use Rattle.dlk_tacsyn.specs.Ties.{argument_at, ArgumentIsKnown, tactic_at, TacticIsKnown}
use Rattle.dlk_library.specs.Parts.{atom}
use Rattle.dlk_library.proofs.Known.{all_of, one_more}
use Rattle.dlk_library.proofs.rows.connective.Goals as goal

pub returns-clause-made : goal.returns-clause-made
returns-clause-made c = λ trees.
    let close = c.in_ok-atom.ensures.made trees ∙ ap (λ args. atom c.args.at (codes "close") (map (argument_at trees) args)) c.new.ensures.items in
    c.choice.ensures.made trees
    ∙ ap (λ ts. Choice (parts ts))
    (one_more _ (c.in_ok-rules-13.ensures.made trees)
    (one_more _ (c.in_ok-rules-12.ensures.made trees)
    (one_more _ (c.in_ok-rules-11.ensures.made trees)
    (one_more _ (c.in_ok-rules-10.ensures.made trees)
    (one_more _ (c.in_ok-rules-9.ensures.made trees)
    (one_more _ (c.in_ok-rules-8.ensures.made trees)
    (one_more _ (c.in_ok-rules-7.ensures.made trees)
    (one_more _ (c.in_ok-rules-6.ensures.made trees)
    (one_more _ (c.in_ok-rules-5.ensures.made trees)
    (one_more _ (c.in_ok-rules-4.ensures.made trees)
    (one_more _ (c.in_ok-rules-3.ensures.made trees)
    (one_more _ (c.in_ok-rules-2.ensures.made trees)
    (ap (map (tactic_at trees)) c.in_ok-rules.ensures.items ∙ ap (λ t. t ∷ []) close)))))))))))))

pub returns-clause-known : goal.returns-clause-known
returns-clause-known c = λ trees.
    let close = c.in_ok-atom.ensures.known trees (all_of (ArgumentIsKnown trees) [] _ c.new.ensures.items tt) in
    c.choice.ensures.known trees
    (c.in_ok-rules-13.ensures.known trees tt
    (c.in_ok-rules-12.ensures.known trees tt
    (c.in_ok-rules-11.ensures.known trees tt
    (c.in_ok-rules-10.ensures.known trees tt
    (c.in_ok-rules-9.ensures.known trees tt
    (c.in_ok-rules-8.ensures.known trees tt
    (c.in_ok-rules-7.ensures.known trees tt
    (c.in_ok-rules-6.ensures.known trees tt
    (c.in_ok-rules-5.ensures.known trees tt
    (c.in_ok-rules-4.ensures.known trees tt
    (c.in_ok-rules-3.ensures.known trees tt
    (c.in_ok-rules-2.ensures.known trees tt
    (all_of (TacticIsKnown trees) _ _ c.in_ok-rules.ensures.items (close, tt))))))))))))))
