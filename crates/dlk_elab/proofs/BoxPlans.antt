-- The plans of atoms for boxes.
use Rattle.std.proofs.Common.{◌≡◌, ◌≢◌, ℕ, ◌+◌, List, [], ◌∷◌, map, length, refl, sym, ap, subst, ◌∙◌, arith}
use Rattle.std.specs.Prelude.{codes}
use Rattle.std.specs.List.{All}
use Rattle.std.proofs.lemmas.List.Elements.{All-nil, All-cons}
use Rattle.dlk_tree.specs.declared.op.Op.{Op}
use Rattle.dlk_tree.specs.declared.op.Op.TheVariants as op
use Rattle.dlk_tree.specs.declared.op.Sort.TheVariants.{Formula, Program}
use Rattle.dlk_tree.specs.Table.{Fits}
use Rattle.dlk_tree.specs.Trees.{Tree, node, sort, WellMade}
use Rattle.dlk_store.specs.declared.Id.{Id}
use Rattle.dlk_calculus.specs.declared.reason.Reason.TheVariants.{WrongShape}
use Rattle.dlk_calculus.specs.Notation.{two, box}
use Rattle.dlk_calculus.specs.Places.{At}
use Rattle.dlk_sequent.specs.declared.sequent.Place.TheVariants.{Succ}
use Rattle.dlk_sequent.specs.declared.sequent.Sequent.{Sequent as IdSequent}
use Rattle.dlk_sequent.specs.Sequents.{sequent_at}
use Rattle.dlk_tacsyn.specs.declared.tactic.Arg.{Arg}
use Rattle.dlk_tacsyn.specs.Tactics.{Argument, AtPlace}
use Rattle.dlk_tacsyn.specs.Ties.{argument_at}
use Rattle.dlk_elab.specs.declared.fault.TacFault.{TacFault}
use Rattle.dlk_elab.specs.Atoms.{FailWhy, NoPlace, AtStep, IsOnTheRight, Asks, Refused, no_box, not_on_the_right}
use Rattle.dlk_elab.specs.Ties.{IsTacFault, NoBox, IsBoxOf, IsBoxAt}
use Rattle.dlk_elab.proofs.Elaborates.{tac_fault_weaker}
use Rattle.dlk_store.specs.Stores.{IsId, tree, kid_trees, StandsFor, Keeps}
use Rattle.dlk_calculus.specs.Rules.{CutR, CoHideR, ImplyR, imply}
use Rattle.dlk_calculus.specs.Steps.{Step as TreeStep, UseAxiom, UseRule, Apply, Merge, Substitute}
use Rattle.dlk_calculus.specs.Sequents.{Sequent, IsFormula, IsSequent}
use Rattle.dlk_calculus.proofs.PlaceLaws.{At-map, At_All}
use Rattle.dlk_sequent.specs.declared.subst.Pair.{Pair}
use Rattle.dlk_rules.specs.declared.rule.Rule.TheVariants as rule
use Rattle.dlk_rules.specs.declared.step.Step.{Step}
use Rattle.dlk_rules.specs.declared.step.Step.TheVariants as step
use Rattle.dlk_rules.specs.Steps.{step_at, HasKnownIds}
use Rattle.dlk_uses.specs.Uses.{◌~>◌, program_a, any_p, any_q, generalizing, cutting_box}
use Rattle.dlk_elab.specs.declared.boxes.Boxed.{Boxed}
use Rattle.dlk_elab.specs.declared.boxes.Cut.{Cut}
use Rattle.dlk_elab.specs.declared.plan.Target.{Target}
use Rattle.dlk_elab.specs.Plans.{ArePlanned, goal_at, AreCutTrees}
use Rattle.dlk_elab.proofs.FormPlans.{known_two, known_three}

abbrev generalizes : Target → Boxed → List Step
generalizes target boxed =
    step.AxRule (codes "G") ∷
    step.Subst (target.rows + 1) ((record { sym = program_a; by = boxed.program }) ∷ (record { sym = any_p; by = boxed.formula }) ∷ []) ∷
    step.Apply target.fact target.goal (rule.CoHideR boxed.place) ∷
    step.Merge (target.rows + 3) target.goal (target.rows + 2) ∷ []

generalizes_planned : (trees : List Tree) (target : Target) (boxed : Boxed) (s : Sequent) → IsId trees boxed.program → IsId trees boxed.formula →
    ArePlanned trees (generalizes target boxed) (generalizing target.rows (goal_at target s) boxed.place (tree trees boxed.program) (tree trees boxed.formula))
generalizes_planned trees target boxed s h k = record {
  are = refl;
  known =
      let K = HasKnownIds trees in
      let last : Step = step.Merge (target.rows + 3) target.goal (target.rows + 2) in
      let third : Step = step.Apply target.fact target.goal (rule.CoHideR boxed.place) in
      let p : Pair = record { sym = program_a; by = boxed.program } in
      let q : Pair = record { sym = any_p; by = boxed.formula } in
      let second : Step = step.Subst (target.rows + 1) (p ∷ q ∷ []) in
      All-cons K (step.AxRule (codes "G")) (second ∷ third ∷ last ∷ []) tt
      (All-cons K second (third ∷ last ∷ []) (known_two trees p q h k) (All-cons K third (last ∷ []) tt (All-cons K last [] tt (All-nil K))));
}

abbrev distributes : Boxed → Cut → List Pair
distributes boxed cut =
    (record { sym = program_a; by = boxed.program }) ∷ (record { sym = any_p; by = cut.formula }) ∷ (record { sym = any_q; by = boxed.formula }) ∷ []

abbrev implies : Boxed → Cut → List Pair
implies boxed cut = (record { sym = program_a; by = boxed.program }) ∷ (record { sym = any_p; by = cut.implied }) ∷ []

-- the steps behind the first four
abbrev cuts : Target → Boxed → Cut → List Step
cuts target boxed cut =
    step.Apply target.fact target.goal (rule.CutR boxed.place cut.boxed) ∷
    step.Apply (target.rows + 5) (target.goal + 1) (rule.CoHideR boxed.place) ∷
    step.Apply (target.rows + 6) (target.goal + 1) (rule.CutR 1 cut.box_implied) ∷
    step.Merge (target.rows + 7) (target.goal + 2) (target.rows + 2) ∷
    step.Merge (target.rows + 8) (target.goal + 1) (target.rows + 4) ∷
    step.Apply (target.rows + 9) (target.goal + 1) (rule.ImplyR 1) ∷ []

abbrev all_cuts : Target → Boxed → Cut → (k g : List ℕ) → (p q : List Pair) → List Step
all_cuts target boxed cut k g p q =
    step.Axiom k ∷ step.Subst (target.rows + 1) p ∷ step.AxRule g ∷ step.Subst (target.rows + 3) q ∷ cuts target boxed cut

module _ (trees : List Tree) (target : Target) (boxed : Boxed) (cut : Cut) (s : Sequent) (program : IsId trees boxed.program)
    (formula : IsId trees boxed.formula) (are : AreCutTrees trees boxed cut.formula cut) where
  cuts_known : All (HasKnownIds trees) (cuts target boxed cut)
  cuts_known =
      let K = HasKnownIds trees in
      let a : Step = step.Apply target.fact target.goal (rule.CutR boxed.place cut.boxed) in
      let b : Step = step.Apply (target.rows + 5) (target.goal + 1) (rule.CoHideR boxed.place) in
      let d : Step = step.Apply (target.rows + 6) (target.goal + 1) (rule.CutR 1 cut.box_implied) in
      let m : Step = step.Merge (target.rows + 7) (target.goal + 2) (target.rows + 2) in
      let n : Step = step.Merge (target.rows + 8) (target.goal + 1) (target.rows + 4) in
      let z : Step = step.Apply (target.rows + 9) (target.goal + 1) (rule.ImplyR 1) in
      All-cons K a (b ∷ d ∷ m ∷ n ∷ z ∷ []) are.of_formula.known
      (All-cons K b (d ∷ m ∷ n ∷ z ∷ []) tt
      (All-cons K d (m ∷ n ∷ z ∷ []) are.box_implied.known
      (All-cons K m (n ∷ z ∷ []) tt (All-cons K n (z ∷ []) tt (All-cons K z [] tt (All-nil K))))))

  all_known : All (HasKnownIds trees) (all_cuts target boxed cut (codes "K") (codes "G") (distributes boxed cut) (implies boxed cut))
  all_known =
      let K = HasKnownIds trees in
      let p : Pair = record { sym = program_a; by = boxed.program } in
      let h : Pair = record { sym = any_p; by = cut.formula } in
      let f : Pair = record { sym = any_q; by = boxed.formula } in
      let i : Pair = record { sym = any_p; by = cut.implied } in
      let a : Step = step.Axiom (codes "K") in
      let b : Step = step.Subst (target.rows + 1) (p ∷ h ∷ f ∷ []) in
      let d : Step = step.AxRule (codes "G") in
      let e : Step = step.Subst (target.rows + 3) (p ∷ i ∷ []) in
      let rest = cuts target boxed cut in
      All-cons K a (b ∷ d ∷ e ∷ rest) tt
      (All-cons K b (d ∷ e ∷ rest) (known_three trees p h f program are.known formula)
      (All-cons K d (e ∷ rest) tt (All-cons K e rest (known_two trees p i program are.implied.known) cuts_known)))

  -- the steps over trees
  abbrev wanted : (box_h implied box_implied : Tree) → List TreeStep
  wanted box_h implied box_implied =
      UseAxiom (codes "K") ∷
      Substitute (target.rows + 1)
      ((program_a ~> tree trees boxed.program) ∷ (any_p ~> tree trees cut.formula) ∷ (any_q ~> tree trees boxed.formula) ∷ []) ∷
      UseRule (codes "G") ∷
      Substitute (target.rows + 3) ((program_a ~> tree trees boxed.program) ∷ (any_p ~> implied) ∷ []) ∷
      Apply target.fact target.goal (CutR boxed.place box_h) ∷
      Apply (target.rows + 5) (target.goal + 1) (CoHideR boxed.place) ∷
      Apply (target.rows + 6) (target.goal + 1) (CutR 1 box_implied) ∷
      Merge (target.rows + 7) (target.goal + 2) (target.rows + 2) ∷
      Merge (target.rows + 8) (target.goal + 1) (target.rows + 4) ∷
      Apply (target.rows + 9) (target.goal + 1) (ImplyR 1) ∷ []

  all_are : map (step_at trees) (all_cuts target boxed cut (codes "K") (codes "G") (distributes boxed cut) (implies boxed cut)) ≡
      cutting_box target.rows (goal_at target s) boxed.place (tree trees boxed.program) (tree trees boxed.formula) (tree trees cut.formula)
  all_are = λ i. wanted (are.of_formula.tree_is i) (are.implied.tree_is i) (are.box_implied.tree_is i)

  pub cutting_box_planned : (steps : List Step) (k g : List ℕ) (p q : List Pair) → k ≡ codes "K" → g ≡ codes "G" → p ≡ distributes boxed cut →
      q ≡ implies boxed cut → steps ≡ all_cuts target boxed cut k g p q →
      ArePlanned trees steps (cutting_box target.rows (goal_at target s) boxed.place (tree trees boxed.program) (tree trees boxed.formula)
      (tree trees cut.formula))
  cutting_box_planned steps k g p q ke ge pe qe steps_are =
      let e : steps ≡ all_cuts target boxed cut (codes "K") (codes "G") (distributes boxed cut) (implies boxed cut) =
      steps_are ∙ (λ i. all_cuts target boxed cut (ke i) (ge i) (pe i) (qe i)) in
      subst (λ xs. ArePlanned trees xs (cutting_box target.rows (goal_at target s) boxed.place (tree trees boxed.program) (tree trees boxed.formula) (tree trees
      cut.formula))) (sym e) (record { are = all_are; known = all_known })

-- a box has two kids
pub two_kids : (trees : List Tree) (kids : List Id) (o : Op) (t b f : Tree) → t ≡ node o (kid_trees trees kids) → t ≡ box b f → length kids ≡ 2
two_kids trees [] o t b f p q = absurd (let e = sym p ∙ q in cc)
two_kids trees (x ∷ []) o t b f p q = absurd (let e = sym p ∙ q in cc)
two_kids trees (x ∷ y ∷ []) o t b f p q = refl
two_kids trees (x ∷ y ∷ z ∷ rest) o t b f p q = absurd (let e = sym p ∙ q in cc)

-- no place on the right
abbrev NotOnTheRight : IdSequent → Arg → FailWhy → Type 0
NotOnTheRight s a why = (why ≡ NoPlace) × ((ts : List Tree) (j : ℕ) (f : Tree) → ¬ IsOnTheRight (sequent_at ts s) (argument_at ts a) j f)

pub no_place : (trees : List Tree) (s : IdSequent) (a : Arg) (e : TacFault) → IsTacFault (NotOnTheRight s a) e →
    IsTacFault (NoBox (sequent_at trees s) (argument_at trees a)) e
no_place trees s a e h =
    tac_fault_weaker (NotOnTheRight s a) (NoBox (sequent_at trees s) (argument_at trees a))
    (λ why k rows fact goal atom is. subst (λ w. Asks rows fact goal (sequent_at trees s) atom (Refused w)) (sym k.0) (not_on_the_right (argument_at trees a) is
    (k.1 trees))) e h

module _ (trees : List Tree) (s : IdSequent) (argument : Argument) where
  pub found : (b : Boxed) (formula : Id) → IsSequent (sequent_at trees s) → argument ≡ AtPlace (Succ b.place) [] → At s.succ b.place formula →
      IsBoxOf trees (tree trees formula) (record { program = b.program; formula = b.formula }) → IsBoxAt trees s argument b
  found b formula formulas place at is =
      let here : At (map (tree trees) s.succ) b.place (tree trees formula) = At-map (tree trees) s.succ b.place formula at in
      let formed : IsFormula (tree trees formula) = At_All IsFormula (map (tree trees) s.succ) b.place (tree trees formula) formulas.succ here in
      record {
        place = place;
        stands = subst (At (map (tree trees) s.succ) b.place) is.box_is here;
        program_known = is.program_known;
        formula_known = is.formula_known;
        fits = subst WellMade is.box_is formed.well_made;
      }

  pub no_box_there : (j : ℕ) (formula : Id) → argument ≡ AtPlace (Succ j) [] → At s.succ j formula → ((b f : Tree) → tree trees formula ≢ box b f) →
      NoBox (sequent_at trees s) argument (AtStep WrongShape)
  no_box_there j formula place at none = λ rows fact goal atom is.
      no_box argument j (tree trees formula) is (record { place = place; stands = At-map (tree trees) s.succ j formula at }) none

-- the sorts under a box
record BoxSorts (b f : Tree) : Type 0 where
  program : sort b ≡ Program
  formula : sort f ≡ Formula

box_sorts : (b f : Tree) → WellMade (box b f) → BoxSorts b f
box_sorts b f made = let e = made.0.kids_fit in record { program = cc; formula = cc }

pub box_fits : (b f h : Tree) → WellMade (box b f) → sort h ≡ Formula → Fits op.Box (sort b ∷ sort h ∷ [])
box_fits b f h made e = let p = (box_sorts b f made).program in record { kids_fit = λ i. p i ∷ e i ∷ []; parts_fit = refl }

pub id_later : (old new : List Tree) (id : Id) → Keeps old new → IsId old id → IsId new id
id_later old new id keeps known = omega (arith, keeps.known)

-- a node over two kids, in a store that has grown
two_later : (t u v : List Tree) (o : Op) (a b id : Id) → Keeps t v → Keeps u v → IsId t a → IsId t b → StandsFor u id (two o (tree t a) (tree t b)) →
    StandsFor v id (two o (tree v a) (tree v b))
two_later t u v o a b id far near ka kb made =
    let p = sym (far.same a ka) in
    let q = sym (far.same b kb) in
    record { known = id_later u v id near made.known; tree_is = near.same id made.known ∙ made.tree_is ∙ (λ i. two o (p i) (q i)) }

-- the trees for a cut, made one after another
module _ (t u v w : List Tree) (tu : Keeps t u) (tv : Keeps t v) (tw : Keeps t w) (uv : Keeps u v) (uw : Keeps u w) (vw : Keeps v w) (boxed : Boxed) (cut : Cut)
    (program : IsId t boxed.program) (formula : IsId t boxed.formula) (h : IsId t cut.formula)
    (made : WellMade (box (tree t boxed.program) (tree t boxed.formula)))
    (implied : StandsFor v cut.implied (two op.Imply (tree u cut.formula) (tree u boxed.formula))) where
  pub last_fits : Fits op.Box (sort (tree v boxed.program) ∷ sort (tree v cut.implied) ∷ [])
  last_fits =
      let p = (box_sorts (tree t boxed.program) (tree t boxed.formula) made).program in
      let e = tv.same boxed.program program in
      record { kids_fit = λ i. (ap sort e ∙ p) i ∷ ap sort implied.tree_is i ∷ []; parts_fit = refl }

  pub cut_made : StandsFor u cut.boxed (box (tree t boxed.program) (tree t cut.formula)) →
      StandsFor w cut.box_implied (box (tree v boxed.program) (tree v cut.implied)) → AreCutTrees w boxed cut.formula cut
  cut_made first last =
      let imp : StandsFor w cut.implied (imply (tree w cut.formula) (tree w boxed.formula)) =
      two_later u v w op.Imply cut.formula boxed.formula cut.implied uw vw (id_later t u cut.formula tu h) (id_later t u boxed.formula tu formula) implied in
      let e = sym (vw.same boxed.program (id_later t v boxed.program tv program)) in
      let f = sym (vw.same cut.implied implied.known) ∙ imp.tree_is in
      record {
        formula_is = refl;
        known = id_later t w cut.formula tw h;
        of_formula = two_later t u w op.Box boxed.program cut.formula cut.boxed tw uw program h first;
        implied = imp;
        box_implied = record { known = last.known; tree_is = last.tree_is ∙ (λ i. box (e i) (f i)) };
      }
