use Rattle.dlk_uses.proofs.Shapes.{axiom_shaped}
use Rattle.dlk_uses.proofs.Instance.{proves_one}
use Rattle.dlk_uses.proofs.Instances.{instance_shaped, instance_made}
use Rattle.dlk_uses.proofs.laws.uses_have_shapes.Goals as goal

pub returns : goal.returns
returns c = record {
  axioms = axiom_shaped;
  instances =
      λ rows between name extra a named takes.
      instance_shaped c.derived_formulas.ensures c.nothing_replaced.ensures rows between name extra a named takes
      (record {
        exchanged_equiv = c.exchanged_over_kids.ensures.equivalence;
        exchanged_imply = c.exchanged_over_kids.ensures.implication;
        exchanged_eq = c.exchanged_over_kids.ensures.equation;
        subst_equiv = c.subst_over_kids.ensures.equivalence;
        subst_imply = c.subst_over_kids.ensures.implication;
        subst_eq = c.subst_over_kids.ensures.equation;
      });
  made = instance_made c.derived_formulas.ensures c.nothing_replaced.ensures;
  one = proves_one;
}
