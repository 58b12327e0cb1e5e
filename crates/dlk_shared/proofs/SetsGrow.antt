-- What is kept of nodes while the table of sets grows, and the sets of kids.
use Rattle.std.proofs.Common.{List}
use Rattle.dlk_tree.specs.Trees.{Tree}
use Rattle.dlk_shared.specs.Nodes.{EachIs}
use Rattle.dlk_shared.specs.Kept.{IsFactsOf}
use Rattle.dlk_shared.specs.SetTables.{SetTable, Keeps}
use Rattle.dlk_shared.specs.declared.node.Key.{Key}
use Rattle.dlk_shared.specs.declared.node.Facts.{Facts}
use Rattle.dlk_shared.specs.Signs.{SignTable, KeepsSigns}
use Rattle.dlk_shared.proofs.SetLemmas.{mean_sets_kept}
use Rattle.dlk_shared.proofs.SignLemmas.{signs_kept}

pub facts_kept : {old new : SetTable} {was now : SignTable} → Keeps old new → KeepsSigns was now → (trees : List Tree) (nodes : List (Key × Facts))
    → EachIs (IsFactsOf old was) trees nodes → EachIs (IsFactsOf new now) trees nodes
facts_kept k l trees nodes each i d h =
    let f = each i d h in
    record {
      size_is = f.size_is;
      depth_is = f.depth_is;
      dots_are = f.dots_are;
      hole_is = f.hole_is;
      sets_are = mean_sets_kept k f.sets_are;
      sign_is = signs_kept l f.sign_is;
    }
