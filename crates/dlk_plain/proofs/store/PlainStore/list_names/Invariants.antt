use Rattle.std.proofs.Common.{drop}
use Rattle.std.specs.List.{list_any}
use Rattle.std.specs.Str.{bytes_eq}
use Rattle.dlk_tree.specs.Tests.{var_eq}
use Rattle.dlk_plain.specs.Plain.{trees_of}
use Rattle.dlk_plain.specs.Sets.{set_of}
use Rattle.dlk_plain.specs.Added.{told}
use Rattle.dlk_plain.proofs.Owed.{Owes}
use Rattle.dlk_plain.proofs.store.PlainStore.list_names.Given as goal

abbrev pub invariant-loop-name : goal.invariant-loop-name
invariant-loop-name l =
    let told_by = told (set_of (trees_of l.self.nodes.items) l.set) l.others in
    Owes var_eq (told_by (λ x. list_any (bytes_eq x) (drop l.name-index l.names))) (told_by (λ x. list_any (bytes_eq x) l.names)) l.fn.vars.keys l.vars.keys
