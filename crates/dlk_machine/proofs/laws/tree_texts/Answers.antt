use Rattle.dlk_machine.proofs.SomeText.{some_tree}
use Rattle.dlk_machine.proofs.TextLaws.{one_tree_text, tree_or_fault, one_tree_fault, tree_text_well_made, tree_text_formula}
use Rattle.dlk_machine.proofs.laws.tree_texts.Goals as goal

pub returns : goal.returns
returns c = record {
  one = one_tree_text;
  no_fault = tree_or_fault;
  one_fault = one_tree_fault;
  some = some_tree;
  well_made = tree_text_well_made;
  formulas = tree_text_formula;
}
