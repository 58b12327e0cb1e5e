use Rattle.std.proofs.Common.{◌∙◌, ap}
use Rattle.std.specs.List.{list_any}
use Rattle.dlk_store.specs.Stores.{tree}
use Rattle.dlk_calculus.specs.Rename.{hides_variables}
use Rattle.dlk_rename.proofs.Signatures.{some_symbol}
use Rattle.dlk_rename.proofs.fresh.has_hidden_variables.Goals as goal

pub returns : goal.returns
returns g c =
    c.any_is_open.ensures ∙ ap (list_any hides_variables) c.deref.ensures.value
    ∙ some_symbol hides_variables (tree (g.S.Store.trees c.args.store.now) c.args.id) c.in_ok-symbols.symbols.items c.in_ok-symbols.ensures
