use Rattle.std.proofs.Common.{ap, ◌∙◌}
use Rattle.dlk_calculus.specs.Axioms.{Axiom}
use Rattle.dlk_axioms.proofs.RowLaws.{axiom_made}
use Rattle.dlk_axioms.proofs.axioms.axiom.Goals as goal

pub make-requires : goal.make-requires
make-requires g c =
    let h = c.in-Some.ensures in
    axiom_made c.args.name.now h.0 c.in-Some.row.now h.1 h.2

pub returns-clause-axiom : goal.returns-clause-axiom
returns-clause-axiom g c =
    let h = c.in-Some.ensures in
    let stands = c.in_ok-id.ensures.made in
    (h.0, h.1, record { known = stands.known; tree_is = stands.tree_is ∙ ap (λ (a : Axiom). a.formula) h.2 })
