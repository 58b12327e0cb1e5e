use Rattle.std.proofs.Common.{◌≡◌}
use Rattle.dlk_grammar.specs.declared.token.Form.TheVariants.{Formula, Term}
use Rattle.dlk_grammar.specs.declared.token.Dots.TheVariants.{Refused}
use Rattle.dlk_tacsyn.specs.Faults.{IsTacSyntaxOf}
use Rattle.dlk_tacsyn.specs.Rows.{AreOfText}
use Rattle.dlk_tacsyn.specs.Strategies.{Says, Fails, StrategyText, StrategyFault}
use Rattle.dlk_tacsyn.specs.Steps.{outcome_of}
use Rattle.dlk_tacsyn.specs.Ties.{tactic_at}
use Rattle.dlk_tacsyn.specs.States.{ByReading}
use Rattle.dlk_tacsyn.proofs.Kept.{ok_map, err_map}
use Rattle.dlk_tacsyn.proofs.Quoted.{weaken}
use Rattle.dlk_tacsyn.proofs.Read.{QuotedLaws}
use Rattle.dlk_tacsyn.proofs.Later.{outcome, outcome_fault}
use Rattle.dlk_tacsyn.proofs.reading.strategy.Goals as goal

pub returns-clause-found : goal.returns-clause-found
returns-clause-found g c =
    let laws : QuotedLaws = record {
      formulas = record {
        one = c.tree_texts.ensures.one Formula Refused;
        no_fault = c.tree_texts.ensures.no_fault Formula Refused;
        some = c.tree_texts.ensures.some Formula Refused;
      };
      terms = record {
        one = c.tree_texts.ensures.one Term Refused;
        no_fault = c.tree_texts.ensures.no_fault Term Refused;
        some = c.tree_texts.ensures.some Term Refused;
      };
      extras = record { one = c.extra_texts.ensures.one; no_fault = c.extra_texts.ensures.no_fault; some = c.extra_texts.ensures.some };
    } in
    ok_map (λ t. ByReading (λ read. outcome_of read c.in_ok-parts.parts.items ≡ Says (tactic_at (g.S.Store.trees c.read_parts.new.store) t)))
    (λ t. StrategyText c.args.bytes.now (tactic_at (g.S.Store.trees c.read_parts.new.store) t))
    (λ t h. outcome laws c.args.bytes.now c.in_ok-parts.parts.items (Says (tactic_at (g.S.Store.trees c.read_parts.new.store) t)) c.in_ok-parts.ensures.found h)
    c.read_parts.result c.read_parts.ensures.found

pub returns-clause-fitting : goal.returns-clause-fitting
returns-clause-fitting g c =
    let laws : QuotedLaws = record {
      formulas = record {
        one = c.tree_texts.ensures.one Formula Refused;
        no_fault = c.tree_texts.ensures.no_fault Formula Refused;
        some = c.tree_texts.ensures.some Formula Refused;
      };
      terms = record {
        one = c.tree_texts.ensures.one Term Refused;
        no_fault = c.tree_texts.ensures.no_fault Term Refused;
        some = c.tree_texts.ensures.some Term Refused;
      };
      extras = record { one = c.extra_texts.ensures.one; no_fault = c.extra_texts.ensures.no_fault; some = c.extra_texts.ensures.some };
    } in
    ok_map (λ t. ByReading (λ read. outcome_of read c.in_ok-parts.parts.items ≡ Says (tactic_at (g.S.Store.trees c.read_parts.new.store) t)))
    (λ t. AreOfText (tactic_at (g.S.Store.trees c.read_parts.new.store) t))
    (λ t h. c.fit_strategy.ensures.fitting c.args.bytes.now (tactic_at (g.S.Store.trees c.read_parts.new.store) t)
    (outcome laws c.args.bytes.now c.in_ok-parts.parts.items
    (Says (tactic_at (g.S.Store.trees c.read_parts.new.store) t)) c.in_ok-parts.ensures.found h))
    c.read_parts.result c.read_parts.ensures.found

pub returns-clause-fault : goal.returns-clause-fault
returns-clause-fault g c =
    let laws : QuotedLaws = record {
      formulas = record {
        one = c.tree_texts.ensures.one Formula Refused;
        no_fault = c.tree_texts.ensures.no_fault Formula Refused;
        some = c.tree_texts.ensures.some Formula Refused;
      };
      terms = record {
        one = c.tree_texts.ensures.one Term Refused;
        no_fault = c.tree_texts.ensures.no_fault Term Refused;
        some = c.tree_texts.ensures.some Term Refused;
      };
      extras = record { one = c.extra_texts.ensures.one; no_fault = c.extra_texts.ensures.no_fault; some = c.extra_texts.ensures.some };
    } in
    err_map (IsTacSyntaxOf (λ f. ByReading (λ read. outcome_of read c.in_ok-parts.parts.items ≡ Fails f))) (IsTacSyntaxOf (StrategyFault c.args.bytes.now))
    (λ e h. weaken (λ f. ByReading (λ read. outcome_of read c.in_ok-parts.parts.items ≡ Fails f)) (StrategyFault c.args.bytes.now)
    (λ f w. outcome_fault laws c.args.bytes.now c.in_ok-parts.parts.items c.in_ok-parts.ensures.found f w)
    e h)
    c.read_parts.result c.read_parts.ensures.fault
