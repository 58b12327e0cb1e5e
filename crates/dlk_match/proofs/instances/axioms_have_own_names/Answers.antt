use Rattle.std.proofs.lemmas.Bool.{or_parts}
use Rattle.dlk_match.proofs.AxiomNames.{own_names, well_made, each_own, each_made, ends_own, ends_made}
use Rattle.dlk_match.proofs.instances.axioms_have_own_names.Goals as goal

pub returns-clause-names : goal.returns-clause-names
returns-clause-names c = own_names

pub returns-clause-made : goal.returns-clause-made
returns-clause-made c = well_made c.axiom_formulas.ensures.axioms

pub returns-clause-kids_names : goal.returns-clause-kids_names
returns-clause-kids_names c = λ own op kids h. each_own own kids (or_parts _ _ h).1

pub returns-clause-kids_made : goal.returns-clause-kids_made
returns-clause-kids_made c = λ op kids h. each_made kids h.1

pub returns-clause-ends_names : goal.returns-clause-ends_names
returns-clause-ends_names c = λ own op kids h. ends_own own kids (or_parts _ _ h).1

pub returns-clause-ends_made : goal.returns-clause-ends_made
returns-clause-ends_made c = λ op kids h. ends_made kids h.1
