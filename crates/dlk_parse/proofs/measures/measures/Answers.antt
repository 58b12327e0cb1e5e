use Rattle.std.proofs.Common.{ap, ◌∙◌, fold, []}
use Rattle.std.proofs.lemmas.List.{take_all}
use Rattle.dlk_parse.specs.Measuring.{measure_step}
use Rattle.dlk_parse.proofs.Measuring.{phrases_measured}
use Rattle.dlk_parse.proofs.measures.measures.Goals as goal

pub returns : goal.returns
returns c = record {
  of_phrases = λ ps e. c.loop-next.invariant
      ∙ ap (fold measure_step []) (take_all c.loop-next.next-index c.args.code.now c.loop-next-test.false ∙ e) ∙ phrases_measured ps;
}
