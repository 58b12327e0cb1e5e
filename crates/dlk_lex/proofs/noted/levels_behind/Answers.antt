use Rattle.std.proofs.Common.{sym, ap, ◌∙◌}
use Rattle.dlk_grammar.specs.Readings.{OpensTooDeep, level_behind}
use Rattle.dlk_lex.proofs.FirstTokens.{none_more, level_more, not_deep, fails_from, low_more}
use Rattle.dlk_lex.proofs.noted.levels_behind.Goals as goal

pub returns : goal.returns
returns c seen h =
    let not = fails_from c.opens_too_deep.ensures c.if-opens_too_deep.false in
    let behind = c.level_behind.ensures h.low in
    record {
      low = rw behind (low_more c.args.levels.level c.args.token.now.kind h.low not);
      deep = none_more OpensTooDeep seen c.args.token.now c.args.levels.deep c.in_default.is
          (not_deep seen c.args.levels.level c.args.token.now.kind (h.level c.in_default.is) not) h.deep;
      level = λ is. behind ∙ ap (λ n. level_behind n c.args.token.now.kind) (h.level c.in_default.is) ∙ sym (level_more seen c.args.token.now);
    }
