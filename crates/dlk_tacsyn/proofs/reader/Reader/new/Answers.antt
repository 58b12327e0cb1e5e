use Rattle.std.proofs.Common.{All, subst, sym}
use Rattle.std.proofs.lemmas.List.Elements.{All-nil}
use Rattle.dlk_tacsyn.specs.States.{FrameIsKnown}
use Rattle.dlk_tacsyn.proofs.reader.Reader.new.Goals as goal

pub returns-clause-known : goal.returns-clause-known
returns-clause-known c = λ trees.
    record {
      brackets = record {
        outer = subst (All (FrameIsKnown trees)) (sym c.new.ensures.items) (All-nil (FrameIsKnown trees));
        inner =
            c.empty.ensures.known trees;
      };
      last = tt;
    }
