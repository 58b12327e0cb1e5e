use Rattle.dlk_store.specs.Stores.{tree}
use Rattle.dlk_elab.proofs.Turns.{if_ok}
use Rattle.dlk_elab.proofs.forms.by_implication.Goals as goal

pub returns-in-Succ : goal.returns-in-Succ
returns-in-Succ c = if_ok c.by_implication_right.result _ _ c.by_implication_right.ensures
    (λ steps planned trees s b h right. rw c.in-Succ.is (planned trees s (tree trees c.args.conclusion) b))

pub returns-in-Ante : goal.returns-in-Ante
returns-in-Ante c = if_ok c.by_implication_left.result _ _ c.by_implication_left.ensures
    (λ steps planned trees s b h right. rw c.in-Ante.is (planned trees s (tree trees c.args.condition) h right))
