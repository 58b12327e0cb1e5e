-- Sequents of one formula.
use Rattle.std.proofs.Common.{◌≡◌, List, [], ◌∷◌, sym, ap, subst, ◌∙◌}
use Rattle.std.proofs.lemmas.List.Elements.{All-nil, All-cons}
use Rattle.dlk_tree.specs.Trees.{Tree}
use Rattle.dlk_store.specs.Stores.{Keeps}
use Rattle.dlk_calculus.specs.Axioms.{AxiomaticRule}
use Rattle.dlk_sequent.specs.declared.sequent.Sequent.{Sequent}
use Rattle.dlk_sequent.specs.Sequents.{IsKnown}
use Rattle.dlk_sequent.proofs.Kept.{sequent-kept, IsKnown-kept}
use Rattle.dlk_axioms.specs.Answers.{StandsAlone, IsRuleAt}

-- of the sequents of a premise, read first, and of a conclusion
pub rule_at : {old new : List Tree} (r : AxiomaticRule) (premises : List Sequent) (premise conclusion : Sequent) →
    premises ≡ premise ∷ [] → Keeps old new → StandsAlone old premise r.premise → StandsAlone new conclusion r.conclusion → IsRuleAt new r premises conclusion
rule_at {old} {new} r premises premise conclusion e keeps first second =
    let it : IsRuleAt new r (premise ∷ []) conclusion = record {
      premises_known = All-cons (IsKnown new) premise [] (IsKnown-kept keeps premise first.known) (All-nil (IsKnown new));
      premises_are = ap (λ z. z ∷ []) (sequent-kept keeps premise first.known ∙ first.sequent_is);
      conclusion_known = second.known;
      conclusion_is = second.sequent_is;
    } in
    subst (λ (all : List Sequent). IsRuleAt new r all conclusion) (sym e) it
