use Rattle.dlk_uses.proofs.Instance.{instance_fits}
use Rattle.dlk_uses.proofs.Behind.{behind_fits}
use Rattle.dlk_uses.proofs.laws.uses_fit.Goals as goal

pub returns : goal.returns
returns c = record {
  instance = instance_fits;
  behind = behind_fits
      (record {
        target = c.match_gives_target.ensures;
        ends_names = c.axioms_have_own_names.ensures.ends_names;
        ends_made = c.axioms_have_own_names.ensures.ends_made;
        exchanged_equiv = c.exchanged_over_kids.ensures.equivalence;
        exchanged_imply = c.exchanged_over_kids.ensures.implication;
        exchanged_eq = c.exchanged_over_kids.ensures.equation;
        subst_equiv = c.subst_over_kids.ensures.equivalence;
        subst_imply = c.subst_over_kids.ensures.implication;
        subst_eq = c.subst_over_kids.ensures.equation;
        paths = record { itself = c.put_is_there.ensures.itself; hole = c.put_is_filled.ensures.hole; dot = c.put_is_filled.ensures.dot };
        inside_made = c.subtrees_keep.ensures.made;
        inside_lacks = c.subtrees_keep.ensures.lack;
        joined = c.paths_join.ensures.subtree;
      })
      c.axioms_have_own_names.ensures.names c.axioms_have_own_names.ensures.made c.derived_formulas.ensures c.nothing_replaced.ensures;
}
