use Rattle.dlk_match.proofs.SameSort.{match_sort}
use Rattle.dlk_match.proofs.instances.match_keeps_sort.Goals as goal

pub returns : goal.returns
returns c = λ own key target given extra made m. match_sort key own target given extra made m
