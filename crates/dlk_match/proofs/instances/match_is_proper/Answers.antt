use Rattle.std.proofs.Common.{sym, subst}
use Rattle.dlk_calculus.specs.Pairs.{Extra}
use Rattle.dlk_match.specs.Matching.{AreGiven, AreApart}
use Rattle.dlk_match.proofs.Growing.{grows}
use Rattle.dlk_match.proofs.Proper.{match_names, match_made, match_symbols}
use Rattle.dlk_match.proofs.instances.match_is_proper.Goals as goal

pub returns-clause-given : goal.returns-clause-given
returns-clause-given c = λ own key target given extra is m.
    subst (λ (x : Extra). AreGiven own x.renames × AreApart own x.renames) (sym m.extra_is)
    ((grows own key target given m.found is m.matches).given m.given_well, m.apart)

pub returns-clause-names : goal.returns-clause-names
returns-clause-names c = λ own key target given extra key_made made dots names m. match_names key own target given extra key_made (made, dots) names m

pub returns-clause-made : goal.returns-clause-made
returns-clause-made c = λ own key target given extra key_made made dots pairs m. match_made key own target given extra key_made (made, dots) pairs m

pub returns-clause-symbols : goal.returns-clause-symbols
returns-clause-symbols c = λ own key target given extra key_made made dots names symbols m.
    match_symbols key own target given extra key_made (made, dots) names symbols m
