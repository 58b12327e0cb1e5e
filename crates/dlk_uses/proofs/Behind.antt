-- Where a use applies and its instance is taken, the lines behind the instance fit.
use Rattle.std.proofs.Common.{◌≡◌, ℕ, List, [], length, subst, Some}
use Rattle.std.proofs.lemmas.List.Elements.{All-head}
use Rattle.dlk_tree.specs.Trees.{Tree, WellMade}
use Rattle.dlk_calculus.specs.Axioms.{Axiom, axiom_named}
use Rattle.dlk_calculus.specs.Pairs.{Extra}
use Rattle.dlk_calculus.specs.Sequents.{Sequent, IsFormula, IsSequent}
use Rattle.dlk_calculus.specs.Provables.{Provable, known, HasFormulas}
use Rattle.dlk_calculus.specs.Steps.{Step, Derives}
use Rattle.dlk_calculus.specs.Subst.{Subst}
use Rattle.dlk_match.specs.Instances.{HasOwnNames}
use Rattle.dlk_match.specs.Matching.{exchanged}
use Rattle.dlk_sequent.specs.declared.sequent.Place.{Place}
use Rattle.dlk_sequent.specs.declared.sequent.Place.TheVariants.{Ante, Succ}
use Rattle.dlk_uses.specs.Applying.{Applies}
use Rattle.dlk_kernel.specs.Taken.{Takes}
use Rattle.dlk_uses.specs.Uses.{Use, Spot, instance, formula_at, Finishes, FinishesBehind}
use Rattle.dlk_calculus.proofs.PlaceLaws.{At_All}
use Rattle.dlk_uses.proofs.Fitting.{Fit}
use Rattle.dlk_uses.proofs.Instance.{instantiates, proves_one}
use Rattle.dlk_uses.proofs.Shapes.{axiom_shaped}
use Rattle.dlk_uses.proofs.Uses.{Laws, finishing_fits}

-- what stands at a place of a sequent is a formula
pub formula_there : (s : Sequent) (place : Place) (e : Tree) → IsSequent s → formula_at s place ≡ Some e → IsFormula e
formula_there s (Ante i) e is h = At_All IsFormula s.ante i e is.ante h
formula_there s (Succ j) e is h = At_All IsFormula s.succ j e is.succ h

pub behind_fits : Laws → ((name : List ℕ) (a : Axiom) → axiom_named name ≡ Some a → HasOwnNames a.own_names a.formula) →
    ((name : List ℕ) (a : Axiom) → axiom_named name ≡ Some a → WellMade a.formula) → ((p : Provable) → Derives p → HasFormulas p) →
    ((e : Tree) → WellMade e → Subst [] e e) →
    (rows between : List Provable) (name : List ℕ) (spot : Spot) (used : Use) (e : Tree) (extra : Extra) (rest : List Step) →
    Applies rows spot used e extra → axiom_named name ≡ Some used.its_axiom → Takes rows (instance (length rows) name extra) between →
    FinishesBehind between spot used e rest → Fit between rest
behind_fits laws names made formulas nothing rows between name spot used e extra rest applies named takes behind =
    let a = used.its_axiom in
    let g = exchanged extra.renames a.formula in
    let itself : Derives (known g) → Subst [] g g = λ derived. nothing g (All-head IsFormula g [] (formulas (known g) derived).conclusion.succ).well_made in
    let i = instantiates rows between name extra a named itself takes in
    let same : behind.f ≡ i.f =
    proves_one between behind.f i.f behind.proves (record { row = i.row; is_last = i.last; concludes = i.concludes }) in
    finishing_fits laws between spot used e applies.there i.f extra
    (record {
      goal = (applies.goal.0, i.keeps spot.fact applies.goal.0 applies.goal.1, applies.goal.2);
      here = applies.stands;
      formula = formula_there spot.s used.place e applies.formulas applies.stands;
      inside = applies.inside;
      stands = applies.may;
      matches = applies.matches;
      is_key = record { names = names name a named; made = made name a named };
      shaped = axiom_shaped name a named;
      proves = (i.row, i.last, i.concludes);
      makes = i.makes;
      formed = i.formed;
    })
    rest (subst (λ f. Finishes (length between) spot used e f rest) same behind.finishes)
