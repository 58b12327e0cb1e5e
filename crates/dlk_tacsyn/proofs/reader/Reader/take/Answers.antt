use Rattle.std.proofs.Common.{List}
use Rattle.dlk_tree.specs.Trees.{Tree}
use Rattle.dlk_tacsyn.specs.States.{BracketsAreKnown, ReaderIsKnown}
use Rattle.dlk_tacsyn.proofs.Kept.{ok_map}
use Rattle.dlk_tacsyn.proofs.reader.Reader.take.Goals as goal

pub returns-in-Nothing-clause-known : goal.returns-in-Nothing-clause-known
returns-in-Nothing-clause-known g c =
    ok_map (λ r. (trees : List Tree) → BracketsAreKnown trees c.args.self.brackets → ReaderIsKnown trees r) (ReaderIsKnown (g.S.Store.trees c.args.store.now))
    (λ r p. p (g.S.Store.trees c.args.store.now) c.requires.brackets) c.after_nothing.result c.after_nothing.ensures.known
