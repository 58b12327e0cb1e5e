use Rattle.std.proofs.Common.{List}
use Rattle.dlk_tree.specs.Trees.{Tree}
use Rattle.dlk_tacsyn.specs.Ties.{TacticIsKnown}
use Rattle.dlk_tacsyn.specs.States.{BracketsAreKnown, ReaderIsKnown}
use Rattle.dlk_tacsyn.proofs.Kept.{ok_map}
use Rattle.dlk_tacsyn.proofs.reader.after_whole.Goals as goal

pub returns-in_ok-inner-in-Close-clause-known : goal.returns-in_ok-inner-in-Close-clause-known
returns-in_ok-inner-in-Close-clause-known c =
    ok_map (λ r. (trees : List Tree) → BracketsAreKnown trees (record { outer = c.args.brackets.outer; inner = c.in_ok-inner-in-Close.inner }) →
    ReaderIsKnown trees r)
    (λ r. (trees : List Tree) → BracketsAreKnown trees c.args.brackets → TacticIsKnown trees c.args.t → ReaderIsKnown trees r)
    (λ r p trees k t. p trees (record { outer = k.outer; inner = c.in_ok-inner-in-Close.ensures.known trees k.inner t }))
    c.close.result c.close.ensures.known
