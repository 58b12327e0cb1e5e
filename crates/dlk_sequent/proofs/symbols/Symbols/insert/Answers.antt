use Rattle.std.proofs.Common.{◌∙◌, ◌||◌, sym}
use Rattle.std.specs.List.{list_any}
use Rattle.dlk_tree.specs.Tests.{sym_eq}
use Rattle.dlk_sequent.proofs.SymbolKeys.{one_more}
use Rattle.dlk_sequent.proofs.symbols.Symbols.insert.Goals as goal

pub returns : goal.returns
returns c = λ t.
    one_more c.self.inside.set.keys c.insert.new.self.keys c.in_ok-clone.field-0 c.in_ok-insert.ensures.updates.0 t
    ∙ (λ i. list_any (sym_eq t) (c.self.view_is i) || sym_eq t (sym c.in_ok-clone.ensures.cases i))
