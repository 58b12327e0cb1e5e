use Rattle.std.proofs.Common.{◌∙◌, ap}
use Rattle.std.specs.List.{list_any}
use Rattle.dlk_tree.specs.Tests.{sym_eq}
use Rattle.dlk_sequent.proofs.SymbolKeys.{keys_have}
use Rattle.dlk_sequent.proofs.symbols.Symbols.has.Goals as goal

pub returns : goal.returns
returns c = c.contains.ensures ∙ keys_have c.self.inside.set.keys c.args.s.now ∙ ap (list_any (sym_eq c.args.s.now)) c.self.view_is
