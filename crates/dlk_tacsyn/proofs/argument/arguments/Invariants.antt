use Rattle.std.proofs.Common.{◌≡◌, All, map}
use Rattle.std.specs.Vec.Iter.{into_iter_items}
use Rattle.dlk_tacsyn.specs.Strategies.{arguments_of}
use Rattle.dlk_tacsyn.specs.Ties.{argument_at, ArgumentIsKnown}
use Rattle.dlk_tacsyn.specs.States.{ByReading}
use Rattle.dlk_tacsyn.proofs.Quoted.{behind}
use Rattle.dlk_tacsyn.proofs.argument.arguments.Given as goal

-- what is read so far, and what is left to read
abbrev pub invariant-loop-next : goal.invariant-loop-next
invariant-loop-next g l = record {
  grows : g.S.Store.grows l.initial.store l.store;
  known : All (ArgumentIsKnown (g.S.Store.trees l.store)) l.all.items;
  goes : ByReading (λ read. arguments_of read l.fn.row.wanted.now l.fn.row.optional l.fn.written ≡
      behind (map (argument_at (g.S.Store.trees l.store)) l.all.items) (arguments_of read l.rest.wanted.now l.rest.optional (into_iter_items l.next-iterator)));
}
