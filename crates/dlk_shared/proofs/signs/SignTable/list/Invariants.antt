use Rattle.std.proofs.Common.{◌≡◌, take}
use Rattle.std.specs.List.{list_any}
use Rattle.dlk_tree.specs.Tests.{sym_eq}
use Rattle.dlk_tree.specs.declared.op.Sym.{Sym}
use Rattle.dlk_vars.specs.Rows.{has_number}
use Rattle.dlk_shared.specs.SetTables.{row_at}
use Rattle.dlk_shared.specs.Signs.{stands}
use Rattle.dlk_shared.proofs.signs.SignTable.list.Given as goal

abbrev pub invariant-loop-k : goal.invariant-loop-k
invariant-loop-k l = (t : Sym) → list_any (sym_eq t) l.listed.keys ≡ stands (has_number (row_at l.self.signs l.n)) 0 (take l.k l.self.syms) t
