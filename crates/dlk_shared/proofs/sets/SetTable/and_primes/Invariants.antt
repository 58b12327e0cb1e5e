use Rattle.std.proofs.Common.{◌≡◌, ◌||◌, take}
use Rattle.std.specs.List.{list_any}
use Rattle.dlk_tree.specs.declared.op.Var.{Var}
use Rattle.dlk_vars.specs.Tables.{Grows}
use Rattle.dlk_vars.specs.Sets.{has, IsWithin}
use Rattle.dlk_shared.specs.SetTables.{row_at}
use Rattle.dlk_shared.proofs.Primes.{primes}
use Rattle.dlk_shared.proofs.sets.SetTable.and_primes.Given as goal

abbrev pub invariant-loop-n : goal.invariant-loop-n
invariant-loop-n l =
    let vars = l.initial.self.vars in
    let from = row_at l.initial.self.sets l.a in
    record {
      grows : Grows vars l.self.vars;
      sets : l.self.sets ≡ l.initial.self.sets;
      within : IsWithin l.self.vars l.set;
      members : (v : Var) → has l.self.vars l.set v ≡ (has vars from v || list_any (primes vars from v) (take l.n vars));
    }
