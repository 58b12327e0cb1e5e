use Rattle.dlk_library.proofs.Fits.{become_fits}
use Rattle.dlk_library.proofs.Named.{become_named}
use Rattle.dlk_library.proofs.laws.expansion_fits.Goals as goal

pub returns-clause-fitting : goal.returns-clause-fitting
returns-clause-fitting c = become_fits

pub returns-clause-names : goal.returns-clause-names
returns-clause-names c = become_named
