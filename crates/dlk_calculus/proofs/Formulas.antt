-- What is derived is made of formulas.
use Rattle.std.proofs.Common.{List, [], ◌∷◌, ◌++◌}
use Rattle.std.specs.List.{All}
use Rattle.std.proofs.lemmas.List.Elements.{All-cons, All-nil, All-head, All-tail, All-append}
use Rattle.dlk_tree.specs.Trees.{Tree}
use Rattle.dlk_calculus.specs.Sequents.{Sequent, alone_right, IsFormula, IsSequent}
use Rattle.dlk_calculus.specs.Rules.{Rule, IsProperRule, Premises}
use Rattle.dlk_calculus.specs.Provables.{Provable, HasFormulas, AreNew, no_more, there, added, SubstEach, SubstSequent, SubstSequents}
use Rattle.dlk_calculus.specs.Pairs.{Pair, IsWellFormed}
use Rattle.dlk_calculus.specs.Steps.{Derives, by_itself, by_axiom, by_axiomatic_rule, by_arithmetic, by_rule, by_fact, by_substitution, by_renaming}
use Rattle.dlk_calculus.proofs.PlaceLaws.{All-between, All-replaced}
use Rattle.dlk_calculus.proofs.AxiomLaws.{axiom_formula, rule_formulas}
use Rattle.dlk_calculus.proofs.CleanResults.{subst_formula}
use Rattle.dlk_calculus.proofs.Swapped.{swap_is_sequent, swap_sequents}
use Rattle.dlk_calculus.proofs.Connectives.{alone, one_sequent}
use Rattle.dlk_calculus.proofs.Figures.{lawful}

pub premises_formulas : (rule : Rule) (s : Sequent) (premises : List Sequent) → IsProperRule rule → IsSequent s → Premises rule s premises →
    All IsSequent premises
premises_formulas rule s premises real h p = rw p.premises_are ((lawful rule s).formulas real h p.parts p.shape)

-- what a substitution makes of formulas are formulas
module _ (pairs : List Pair) (well : IsWellFormed pairs) where
  substituted_each : (fs gs : List Tree) → All IsFormula fs → SubstEach pairs fs gs → All IsFormula gs
  substituted_each [] [] h s = All-nil IsFormula
  substituted_each [] (g ∷ gs) h s = absurd s
  substituted_each (f ∷ fs) [] h s = absurd s
  substituted_each (f ∷ fs) (g ∷ gs) h s =
      All-cons IsFormula g gs (subst_formula pairs well f g (All-head IsFormula f fs h) s.0) (substituted_each fs gs (All-tail IsFormula f fs h) s.1)

  substituted_sequent : (s t : Sequent) → IsSequent s → SubstSequent pairs s t → IsSequent t
  substituted_sequent s t h m = record { ante = substituted_each s.ante t.ante h.ante m.0; succ = substituted_each s.succ t.succ h.succ m.1 }

  substituted_sequents : (ss ts : List Sequent) → All IsSequent ss → SubstSequents pairs ss ts → All IsSequent ts
  substituted_sequents [] [] h m = All-nil IsSequent
  substituted_sequents [] (t ∷ ts) h m = absurd m
  substituted_sequents (s ∷ ss) [] h m = absurd m
  substituted_sequents (s ∷ ss) (t ∷ ts) h m =
      All-cons IsSequent t ts (substituted_sequent s t (All-head IsSequent s ss h) m.0) (substituted_sequents ss ts (All-tail IsSequent s ss h) m.1)

-- what all have, the new ones among them have; and where the old leaves have it too, all joined ones do
all_new : (P : Sequent → Type 0) (old more new : List Sequent) → All P more → AreNew old more new → All P new
all_new P old [] _ h no_more = All-nil P
all_new P old (s ∷ more) new h (there a j) = all_new P old more new (All-tail P s more h) j
all_new P old (s ∷ more) _ h (added {new} n j) = All-cons P s new (All-head P s more h) (all_new P old more new (All-tail P s more h) j)

pub all_joined : (P : Sequent → Type 0) (old more new : List Sequent) → All P old → All P more → AreNew old more new → All P (old ++ new)
all_joined P old more new h k j = All-append P old new h (all_new P old more new k j)

-- what is derived is made of formulas
pub Derives-formulas : (p : Provable) → Derives p → HasFormulas p
Derives-formulas _ (by_itself {s} h) = record { conclusion = h; goals = one_sequent s h; leaves = All-nil IsSequent }
Derives-formulas _ (by_axiom name a e) = record { conclusion = alone (axiom_formula name a e); goals = All-nil IsSequent; leaves = All-nil IsSequent }
Derives-formulas _ (by_axiomatic_rule name r e) =
    let formulas = rule_formulas name r e in
    record { conclusion = alone formulas.1; goals = one_sequent (alone_right r.premise) (alone formulas.0); leaves = All-nil IsSequent }
Derives-formulas _ (by_arithmetic {s} h k) = record { conclusion = h; goals = All-nil IsSequent; leaves = one_sequent s h }
Derives-formulas _ (by_rule {c} {s} {premises} {leaves} {rule} before after d real made) =
    let h = Derives-formulas (record { conclusion = c; goals = before ++ s ∷ after; leaves = leaves }) d in
    let new = premises_formulas rule s premises real (All-between IsSequent before after s h.goals) made in
    record { conclusion = h.conclusion; goals = All-replaced IsSequent before after premises s h.goals new; leaves = h.leaves }
Derives-formulas _ (by_fact {c} {leaves} {new} {p} before after d e joined) =
    let h = Derives-formulas (record { conclusion = c; goals = before ++ p.conclusion ∷ after; leaves = leaves }) d in
    let k = Derives-formulas p e in
    record {
      conclusion = h.conclusion;
      goals = All-replaced IsSequent before after p.goals p.conclusion h.goals k.goals;
      leaves = all_joined IsSequent leaves p.leaves new h.leaves k.leaves joined;
    }
Derives-formulas _ (by_substitution {p} {q} {pairs} d made well free is) =
    let h = Derives-formulas p d in
    record {
      conclusion = substituted_sequent pairs well p.conclusion q.conclusion h.conclusion is.conclusion;
      goals = substituted_sequents pairs well p.goals q.goals h.goals is.goals;
      leaves = rw is.leaves h.leaves;
    }
Derives-formulas _ (by_renaming {p} x y d a b) =
    let h = Derives-formulas p d in
    record {
      conclusion = swap_is_sequent x y a b p.conclusion h.conclusion;
      goals = swap_sequents x y a b p.goals h.goals;
      leaves = h.leaves;
    }
