use Rattle.std.proofs.Common.{◌≡◌, take}
use Rattle.std.specs.List.{list_any}
use Rattle.dlk_tree.specs.Listed.{is_among}
use Rattle.dlk_tree.specs.declared.op.Var.{Var}
use Rattle.dlk_shared.specs.SetTables.{row_at}
use Rattle.dlk_shared.proofs.Told.{told}
use Rattle.dlk_shared.proofs.sets.SetTable.list.Given as goal

abbrev pub invariant-loop-k : goal.invariant-loop-k
invariant-loop-k l =
    let vars = l.self.vars in
    (v : Var) → is_among l.listed.keys v ≡ list_any (told vars (row_at l.self.sets l.n) v) (take l.k vars)
