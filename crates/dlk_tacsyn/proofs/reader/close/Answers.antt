use Rattle.dlk_tacsyn.proofs.Stacked.{known_before, known_last}
use Rattle.dlk_tacsyn.proofs.reader.close.Goals as goal

pub returns-clause-known : goal.returns-clause-known
returns-clause-known c = λ trees k. record {
  brackets = record {
    outer = known_before trees c.args.brackets.outer.items c.pop.new.self.items c.in-Some.around c.in-Some.ensures.items k.outer;
    inner = known_last trees c.args.brackets.outer.items c.pop.new.self.items c.in-Some.around c.in-Some.ensures.items k.outer;
  };
  last = c.closed.ensures.known trees k.inner;
}
