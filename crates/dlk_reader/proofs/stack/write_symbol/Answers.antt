use Rattle.std.proofs.Common.{[], ◌∷◌, ◌++◌, sym, ap, ◌∙◌}
use Rattle.dlk_reader.proofs.Agree.{any_written}
use Rattle.dlk_reader.proofs.stack.write_symbol.Goals as goal

pub returns-in_ok-push-in-Any : goal.returns-in_ok-push-in-Any
returns-in_ok-push-in-Any c = λ h before is at.
    let old = c.args.out.now.items in
    any_written c.args.holds c.in-Any.name c.in-Any.taboo h before old c.push-in-Any.new.self.items (sym c.in-Any.is ∙ is) at
    (c.in_ok-push-in-Any.ensures.items ∙ ap (λ x. old ++ x ∷ []) c.unit_symbol.ensures)
