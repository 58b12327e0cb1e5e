use Rattle.std.proofs.Common.{refl}
use Rattle.dlk_calculus.proofs.Binders.{one_binding}
use Rattle.dlk_calculus.proofs.laws.one_renamed.Goals as goal

pub returns : goal.returns
returns c y t p q a b = one_binding p q refl a b
