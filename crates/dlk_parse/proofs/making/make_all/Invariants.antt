use Rattle.std.proofs.Common.{◌≡◌, ◌+◌, ◌≤◌, [], All, fold, length}
use Rattle.std.specs.Vec.Iter.{into_iter_items, into_iter_len}
use Rattle.dlk_store.specs.Stores.{IsId}
use Rattle.dlk_parse.specs.Making.{make_step, making_at}
use Rattle.dlk_parse.proofs.making.make_all.Given as goal

-- what is left of the code leads to what the whole code leads to
abbrev pub invariant-loop-piece : goal.invariant-loop-piece
invariant-loop-piece g l = record {
  grows : g.S.Store.grows l.initial.store l.store;
  known : All (IsId (g.S.Store.trees l.store)) l.maker.ids.items;
  ends : fold make_step (making_at (g.S.Store.trees l.store) l.maker) (into_iter_items l.piece-iterator) ≡ fold make_step (record { notes = 0; trees = [] })
      l.fn.code.items;
  room : l.maker.notes + into_iter_len l.piece-iterator ≤ length l.fn.code.items;
}
