use Rattle.std.proofs.Common.{◌++◌, ap, ◌∙◌}
use Rattle.dlk_jobs_text.specs.Lists.{kind_and_symbol}
use Rattle.dlk_jobs_text.proofs.ListTexts.{others, behind-more, all_behind, some_symbols}
use Rattle.dlk_jobs_text.proofs.vars.append_symbols.Goals as goal

pub loop-s-preserved : goal.loop-s-preserved
loop-s-preserved c =
    behind-more kind_and_symbol (others c.args.syms.now) c.loop-s.s-index c.s-item.result _ _ _ _ c.loop-s-test.true c.s-item.is
    c.loop-s.invariant c.in_ok-extend_from_slice-2.ensures.items c.in_ok-append_symbol-2.ensures

pub returns : goal.returns
returns c =
    all_behind kind_and_symbol c.args.syms.now c.first-item.result c.loop-s.s-index _ _ _ c.in-len1-up.len_at_least c.first-item.is c.loop-s-test.false
    c.in_ok-append_symbol.ensures c.loop-s.invariant
    ∙ ap (λ l. c.args.out.now.items ++ l) (some_symbols c.args.syms.now c.in-len1-up.len_at_least)
