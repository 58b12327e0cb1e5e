use Rattle.std.proofs.Common.{All, subst, sym}
use Rattle.std.proofs.lemmas.List.Elements.{All-push}
use Rattle.dlk_tacsyn.specs.States.{FrameIsKnown}
use Rattle.dlk_tacsyn.proofs.reader.open.Goals as goal

pub returns-clause-known : goal.returns-clause-known
returns-clause-known c = λ trees k. record {
  brackets = record {
    outer = subst (All (FrameIsKnown trees)) (sym c.in_ok-push.ensures.items)
        (All-push (FrameIsKnown trees) c.args.brackets.outer.items c.args.brackets.inner k.outer k.inner);
    inner = c.empty-inner.ensures.known trees;
  };
  last = tt;
}
