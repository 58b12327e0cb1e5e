use Rattle.std.proofs.Common.{◌++◌, ◌∷◌, [], None, ap, ◌∙◌, arith}
use Rattle.std.proofs.lemmas.List.{take_more_set}
use Rattle.dlk_memo.proofs.near.Near.push.Goals as goal

pub returns-clause-there : goal.returns-clause-there
returns-clause-there c is =
    take_more_set c.self.inside.entries c.self.inside.count (c.args.id, None) (omega arith) ∙ ap (λ t. t ++ (c.args.id, None) ∷ []) c.self.view_is
