use Rattle.dlk_grammar.specs.declared.token.Form.TheVariants.{Formula, Term}
use Rattle.dlk_grammar.specs.declared.token.Dots.TheVariants.{Refused}
use Rattle.dlk_tacsyn.proofs.Read.{QuotedLaws}
use Rattle.dlk_tacsyn.proofs.OneStrategy.{says_or_fails}
use Rattle.dlk_tacsyn.proofs.laws.strategy_or_fault.Goals as goal

pub returns : goal.returns
returns c =
    let laws : QuotedLaws = record {
      formulas = record {
        one = c.tree_texts.ensures.one Formula Refused;
        no_fault = c.tree_texts.ensures.no_fault Formula Refused;
        some = c.tree_texts.ensures.some Formula Refused;
      };
      terms = record {
        one = c.tree_texts.ensures.one Term Refused;
        no_fault = c.tree_texts.ensures.no_fault Term Refused;
        some = c.tree_texts.ensures.some Term Refused;
      };
      extras = record { one = c.extra_texts.ensures.one; no_fault = c.extra_texts.ensures.no_fault; some = c.extra_texts.ensures.some };
    } in
    λ bytes. says_or_fails laws bytes (c.script_or_stop.ensures bytes)
