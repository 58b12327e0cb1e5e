use Rattle.std.specs.Prelude.{IsTrue}
use Rattle.dlk_desk.proofs.host.tests.read_to_end.Given as goal

abbrev pub invariant-pieces : goal.invariant-pieces
invariant-pieces g l = IsTrue (g.D.Desk.outside l.desk).reading
