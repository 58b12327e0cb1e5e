use Rattle.dlk_elab.proofs.MergesFit.{merges_fit}
use Rattle.dlk_elab.proofs.laws.merges_fit.Goals as goal

pub returns : goal.returns
returns c = merges_fit c.uses_fit.ensures.instance c.uses_fit.ensures.behind c.boxes_fit.ensures.generalizing c.boxes_fit.ensures.cutting
