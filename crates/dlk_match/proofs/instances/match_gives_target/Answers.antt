use Rattle.dlk_match.proofs.Back.{match_gives_target}
use Rattle.dlk_match.proofs.instances.match_gives_target.Goals as goal

pub returns : goal.returns
returns c = λ own key target given extra t names key_made made dots m well p.
    match_gives_target own key target given extra t names key_made (made, dots) m well p
