use Rattle.std.proofs.Common.{◌≡◌}
use Rattle.std.specs.Vec.Iter.{into_iter_items}
use Rattle.dlk_tacsyn.specs.Steps.{start, run}
use Rattle.dlk_tacsyn.specs.States.{ByReading, state_at, ReaderIsKnown}
use Rattle.dlk_tacsyn.proofs.reading.read_parts.Given as goal

-- what is read so far leads where the whole leads
abbrev pub invariant-loop-part : goal.invariant-loop-part
invariant-loop-part g l = record {
  grows : g.S.Store.grows l.initial.store l.store;
  known : ReaderIsKnown (g.S.Store.trees l.store) l.reader;
  goes : ByReading (λ read. run read start l.fn.parts.items ≡ run read (state_at (g.S.Store.trees l.store) l.reader) (into_iter_items l.part-iterator));
}
