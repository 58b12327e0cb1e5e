use Rattle.std.proofs.Common.{rules}
use Rattle.dlk_rules.proofs.Renumbered.{apply_renumbered, merge_renumbered, substitute_renumbered, rename_renumbered}
use Rattle.dlk_rules.proofs.step.Step.renumbered.Goals.{in-Start-1, in-Axiom-1, in-AxRule-1, in-Leaf-1, in-Apply, in-Merge, in-Subst, in-Rename}
use Rattle.dlk_rules.proofs.step.Step.renumbered.Goals as goal

pub returns-clause-same : goal.returns-clause-same
returns-clause-same g c numbers h trees = elim c.match-self.branch [
  | in-Start-1 w ↦ search rules
  | in-Axiom-1 w ↦ search rules
  | in-AxRule-1 w ↦ search rules
  | in-Leaf-1 w ↦ search rules
  | in-Apply w ↦ apply_renumbered trees numbers c.args.self c.match-self.self _ _ _ _ w.in-Apply.is w.self-is (λ has. h _ _ has w.to.ensures)
  | in-Merge w ↦
      merge_renumbered trees numbers c.args.self c.match-self.self _ _ _ _ _ w.in-Merge.is w.self-is (λ has. h _ _ has w.to-in-Merge.ensures)
      (λ has. h _ _ has w.to-in-Merge-2.ensures)
  | in-Subst w ↦ substitute_renumbered trees numbers c.args.self c.match-self.self _ _ _ w.in-Subst.is w.self-is (λ has. h _ _ has w.to-in-Subst.ensures)
  | in-Rename w ↦ rename_renumbered trees numbers c.args.self c.match-self.self _ _ _ _ w.in-Rename.is w.self-is (λ has. h _ _ has w.to-in-Rename.ensures)
]
