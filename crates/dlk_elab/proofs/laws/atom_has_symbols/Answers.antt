use Rattle.dlk_elab.proofs.StepSymbols.{atom_symbols}
use Rattle.dlk_elab.proofs.laws.atom_has_symbols.Goals as goal

pub returns : goal.returns
returns c =
    atom_symbols c.axioms_have_own_names.ensures.ends_made c.axioms_have_own_names.ensures.made c.subtrees_keep.ensures.made c.subtrees_keep.ensures.lack
    c.match_is_proper.ensures.symbols
