use Rattle.dlk_grammar.specs.declared.token.Form.TheVariants.{Term}
use Rattle.dlk_grammar.specs.declared.token.Dots.TheVariants.{Refused}
use Rattle.dlk_tacsyn.proofs.Fit.{text_fits, text_named}
use Rattle.dlk_tacsyn.proofs.Shapes.{text_stands}
use Rattle.dlk_tacsyn.proofs.laws.fit_strategy.Goals as goal

pub returns : goal.returns
returns c = record {
  fitting = text_fits c.tree_texts.ensures.formulas (c.tree_texts.ensures.well_made Term Refused) c.extra_texts.ensures.well_made;
  names = text_named;
  shaped = text_stands;
}
