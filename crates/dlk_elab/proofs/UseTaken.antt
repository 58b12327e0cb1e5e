-- A use of an axiom on a kernel: what the steps of the instance and those behind it need of what was found, and what they give.
use Rattle.std.proofs.Common.{◌≡◌, ◌≤◌, ℕ, Bool, true, false, List, [], ◌∷◌, ◌++◌, map, length, cond, find, Some, refl, sym, ap, subst, ◌∙◌}
use Rattle.std.specs.Prelude.{IsTrue}
use Rattle.std.specs.Bool.{Decides}
use Rattle.std.specs.List.{All}
use Rattle.std.specs.Str.{bytes_eq}
use Rattle.std.proofs.lemmas.List.{map-append}
use Rattle.std.proofs.lemmas.List.Elements.{All-append}
use Rattle.std.proofs.lemmas.Option.{none-some, same_Some}
use Rattle.std.proofs.lemmas.Slice.Eq.{bytes_eq-Decides}
use Rattle.dlk_tree.specs.declared.op.Sort.TheVariants.{Term, Formula}
use Rattle.dlk_tree.specs.Trees.{Tree, sort, WellMade}
use Rattle.dlk_store.specs.Stores.{tree}
use Rattle.dlk_calculus.specs.declared.form.AxiomForm.{AxiomForm}
use Rattle.dlk_calculus.specs.declared.form.AxiomForm.TheVariants.{E, Q, C, R, I, F}
use Rattle.dlk_calculus.specs.Axioms.{Axiom, axioms, axiom_named}
use Rattle.dlk_calculus.specs.Notation.{eq}
use Rattle.dlk_calculus.specs.Pairs.{Extra as TreeExtra}
use Rattle.dlk_calculus.specs.Provables.{Provable}
use Rattle.dlk_calculus.specs.Rules.{imply, equiv}
use Rattle.dlk_calculus.specs.Steps.{Step as TreeStep}
use Rattle.dlk_kernel.specs.declared.fault.StepFault.{StepFault}
use Rattle.dlk_kernel.specs.declared.fault.StepFault.TheVariants as step_fault
use Rattle.dlk_kernel.specs.Faults.{IsStepFault}
use Rattle.dlk_kernel.specs.Taken.{Takes}
use Rattle.dlk_match.specs.Matching.{Match}
use Rattle.dlk_rules.specs.declared.step.Step.{Step}
use Rattle.dlk_rules.specs.Steps.{step_at, HasKnownIds}
use Rattle.dlk_sequent.specs.declared.sequent.Place.{Place}
use Rattle.dlk_sequent.specs.declared.sequent.Place.TheVariants.{Ante, Succ}
use Rattle.dlk_sequent.specs.Extras.{extra_at}
use Rattle.dlk_sequent.specs.Spines.{top, path_of}
use Rattle.dlk_tacsyn.specs.Tactics.{Atom}
use Rattle.dlk_uses.specs.Uses.{Direction, Forwards, Backwards, left_of, right_of, key, HasShape, Spot, may_stand, instance, Finishes, FinishesBehind}
use Rattle.dlk_uses.specs.Uses.{ProvesLast}
use Rattle.dlk_elab.specs.declared.calls.UseCall.{UseCall}
use Rattle.dlk_elab.specs.declared.plan.Target.{Target}
use Rattle.dlk_elab.specs.declared.uses.Found.{Found}
use Rattle.dlk_elab.specs.Atoms.{AtomSteps, uses, FirstFault, AtomFault, not_instantiated, not_used, instance_of}
use Rattle.dlk_elab.specs.Finishing.{HasForm, FinishUse, FinishLast}
use Rattle.dlk_elab.specs.Plans.{ArePlanned}
use Rattle.dlk_elab.specs.Ties.{IsTacFault, of_step, AreMade}
use Rattle.dlk_elab.specs.Uses.{IsFound, ProvesForm, aim_of}

-- An axiom has the name by which it is found.

named_in : (name : List ℕ) (xs : List Axiom) (a : Axiom) → find (λ (x : Axiom). bytes_eq x.name name) xs ≡ Some a → a.name ≡ name
named_in name [] a e = absurd (none-some a e)
named_in name (x ∷ xs) a e = go (λ h. named_in name xs a h) (bytes_eq x.name name) (bytes_eq-Decides x.name name) e
  where
    go : (find (λ (y : Axiom). bytes_eq y.name name) xs ≡ Some a → a.name ≡ name) → (b : Bool) → Decides b (x.name ≡ name) →
        cond b (Some x) (find (λ (y : Axiom). bytes_eq y.name name) xs) ≡ Some a → a.name ≡ name
    go rest true d h = subst (λ (z : Axiom). z.name ≡ name) (same_Some x a h) (d.0 refl)
    go rest false d h = rest h

pub has_its_name : (name : List ℕ) (a : Axiom) → axiom_named name ≡ Some a → a.name ≡ name
has_its_name name a e = named_in name axioms a e

-- The sort of what an axiom's key matches, which the steps behind the instance need to know.

abbrev IsOfSort : AxiomForm → Tree → Type 0
IsOfSort E t = sort t ≡ Formula
IsOfSort Q t = sort t ≡ Term
IsOfSort C t = Unit {0}
IsOfSort R t = sort t ≡ Term
IsOfSort I t = Unit {0}
IsOfSort F t = Unit {0}

formulas : (l r : Tree) → WellMade (equiv l r) → (sort l ≡ Formula) × (sort r ≡ Formula)
formulas l r made = let e : sort l ∷ sort r ∷ [] ≡ Formula ∷ Formula ∷ [] = made.0.kids_fit in (cc, cc)

terms : (l r : Tree) → WellMade (eq l r) → (sort l ≡ Term) × (sort r ≡ Term)
terms l r made = let e : sort l ∷ sort r ∷ [] ≡ Term ∷ Term ∷ [] = made.0.kids_fit in (cc, cc)

module _ (keeps_sort : (own : List (List ℕ)) (k t : Tree) (given extra : TreeExtra) → WellMade k → Match k own t given extra → sort t ≡ sort k)
    (own : List (List ℕ)) (t : Tree) (given extra : TreeExtra) where
  is_of_sort : (form : AxiomForm) (direction : Direction) (place : Place) (f : Tree) → HasShape form f → WellMade f →
      Match (key form direction place f) own t given extra → IsOfSort form t
  is_of_sort E Forwards place f shape made m =
      let parts = subst WellMade shape made in
      keeps_sort own (left_of f) t given extra parts.1.0 m ∙ (formulas (left_of f) (right_of f) parts).0
  is_of_sort E Backwards place f shape made m =
      let parts = subst WellMade shape made in
      keeps_sort own (right_of f) t given extra parts.1.1.0 m ∙ (formulas (left_of f) (right_of f) parts).1
  is_of_sort Q Forwards place f shape made m =
      let parts = subst WellMade shape made in
      keeps_sort own (left_of f) t given extra parts.1.0 m ∙ (terms (left_of f) (right_of f) parts).0
  is_of_sort Q Backwards place f shape made m =
      let parts = subst WellMade shape made in
      keeps_sort own (right_of f) t given extra parts.1.1.0 m ∙ (terms (left_of f) (right_of f) parts).1
  is_of_sort C direction place f shape made m = tt
  is_of_sort R direction place f shape made m =
      let parts = subst WellMade shape.1 (subst WellMade shape.0 made).1.1.0 in
      keeps_sort own (left_of (right_of f)) t given extra parts.1.0 m ∙ (terms (left_of (right_of f)) (right_of (right_of f)) parts).0
  is_of_sort I direction place f shape made m = tt
  is_of_sort F direction place f shape made m = tt

-- an instance of the axiom's shape, where the axiom may be used, has its form
has_form : (form : AxiomForm) (direction : Direction) (place : Place) (path : List ℕ) (t f : Tree) → IsTrue (may_stand form direction place path) →
    IsOfSort form t → HasShape form f → HasForm form place t f
has_form E direction place path t f may is shape = (shape, is)
has_form Q direction place path t f may is shape = (shape, is)
has_form C direction (Succ j) path t f may is shape = shape.0 ∙ ap (imply (left_of f)) shape.1
has_form C Forwards (Ante i) path t f may is shape = absurd (cc may)
has_form C Backwards (Ante i) path t f may is shape = absurd (cc may)
has_form R direction place path t f may is shape = (shape.0 ∙ ap (imply (left_of f)) shape.1, is)
has_form I direction place path t f may is shape = shape
has_form F direction (Succ j) path t f may is shape = tt
has_form F Forwards (Ante i) path t f may is shape = absurd (cc may)
has_form F Backwards (Ante i) path t f may is shape = absurd (cc may)

-- what the laws of matching and of uses say
pub record Laws : Type 0 where
  pub few : (name : List ℕ) (a : Axiom) (direction : Direction) (place : Place) (t : Tree) (given extra : TreeExtra) → axiom_named name ≡ Some a →
      Match (key a.form direction place a.formula) a.own_names t given extra → length extra.renames ≤ 3
  pub keeps_sort : (own : List (List ℕ)) (k t : Tree) (given extra : TreeExtra) → WellMade k → Match k own t given extra → sort t ≡ sort k
  pub made : (name : List ℕ) (a : Axiom) → axiom_named name ≡ Some a → WellMade a.formula
  pub shapes : (name : List ℕ) (a : Axiom) → axiom_named name ≡ Some a → HasShape a.form a.formula
  pub instances : (rows between : List Provable) (name : List ℕ) (extra : TreeExtra) (a : Axiom) → axiom_named name ≡ Some a →
      Takes rows (instance (length rows) name extra) between → (f : Tree) × ProvesLast between f × HasShape a.form f

module _ (rows : List Provable) (target : Target) (atom : Atom) (mid : List Tree) (u : UseCall) (found : Found)
    (is : IsFound rows target atom mid u found) where
  abbrev its_extra : TreeExtra
  its_extra = extra_at mid found.extra

  abbrev e : Tree
  e = tree mid (top found.way)

  abbrev pub first_steps : List TreeStep
  first_steps = instance (length rows) u.name.now its_extra

  pub few_renames : (laws : Laws) → length found.extra.renames ≤ 3
  few_renames laws =
      laws.few u.name.now is.used.its_axiom is.used.direction is.used.place (tree mid found.way.found) is.used.given its_extra is.is_axiom is.matches

  instance_is : instance_of (length rows) is.used its_extra ≡ first_steps
  instance_is = ap (λ (n : List ℕ). instance (length rows) n its_extra) (has_its_name u.name.now is.used.its_axiom is.is_axiom)

  pub planned_there : (plan : List Step) (n : ℕ) → n ≡ length rows → ArePlanned mid plan (instance n u.name.now its_extra) → ArePlanned mid plan first_steps
  planned_there plan n counted planned = subst (λ (m : ℕ). ArePlanned mid plan (instance m u.name.now its_extra)) counted planned

  -- the steps of the instance, over ids
  module _ (plan : List Step) (planned : ArePlanned mid plan first_steps) where
    planned_is : map (step_at mid) plan ≡ instance_of (length rows) is.used its_extra
    planned_is = planned.are ∙ sym instance_is

    pub not_instanced : (fault : StepFault) → IsStepFault (FirstFault rows (map (step_at mid) plan)) fault →
        IsTacFault (AtomFault rows target.fact target.goal atom) (of_step fault)
    not_instanced (step_fault.Refused why) h =
        not_instantiated is.s is.used its_extra e is.is_goal is.asks (subst (λ (xs : List TreeStep). FirstFault rows xs why) planned_is h)
    not_instanced step_fault.Memory h = tt

    module _ (between : List Provable) (taken : Takes rows (map (step_at mid) plan) between) where
      pub proves : (laws : Laws) (t : Tree) → t ≡ tree mid found.way.found → ProvesForm between found.form u.place t
      proves laws t same =
          let a = is.used.its_axiom in
          let p = laws.instances rows between u.name.now its_extra a is.is_axiom (subst (λ (xs : List TreeStep). Takes rows xs between) planned.are taken) in
          let sorted = is_of_sort laws.keeps_sort a.own_names (tree mid found.way.found) is.used.given its_extra a.form is.used.direction is.used.place
          a.formula (laws.shapes u.name.now a is.is_axiom) (laws.made u.name.now a is.is_axiom) is.matches in
          let form = has_form a.form is.used.direction is.used.place is.used.path (tree mid found.way.found) p.0 is.may sorted p.2 in
          record {
            f = p.0;
            last = p.1;
            has_form =
                subst (λ (x : Tree). HasForm found.form u.place x p.0) (sym same)
                (subst (λ (x : Place). HasForm found.form x (tree mid found.way.found) p.0) is.place
                (subst (λ (x : AxiomForm). HasForm x is.used.place (tree mid found.way.found) p.0) is.form form));
          }

      -- the steps behind it, over the ids of a later store
      module _ (later : List Tree) (top_tree : Tree) (rest : List Step) (same : top_tree ≡ e)
          (behind : FinishLast later between (aim_of target u found.right) found.form (path_of found.way) top_tree rest) where
        abbrev spot : Spot
        spot = record { fact = target.fact; goal = target.goal; s = is.s }

        finished : FinishUse later (length between) (aim_of target u found.right) is.s is.used top_tree behind.f rest
        finished = behind.finish is.s is.used is.right (record { form_is = is.form; direction_is = is.direction; place_is = is.place; path_is = is.path })

        pub rest_known : All (HasKnownIds later) rest
        rest_known = finished.known

        ends : FinishesBehind between spot is.used e (map (step_at later) rest)
        ends = record {
          f = behind.f;
          proves = behind.proves;
          finishes = subst (λ (x : Tree). Finishes (length between) spot is.used x behind.f (map (step_at later) rest)) same finished.finishes;
        }

        taken_instance : Takes rows (instance_of (length rows) is.used its_extra) between
        taken_instance = subst (λ (xs : List TreeStep). Takes rows xs between) planned_is taken

        pub not_finished : (fault : StepFault) → IsStepFault (FirstFault between (map (step_at later) rest)) fault →
            IsTacFault (AtomFault rows target.fact target.goal atom) (of_step fault)
        not_finished (step_fault.Refused why) h =
            not_used is.s is.used its_extra e between (map (step_at later) rest) is.is_goal is.asks taken_instance ends h
        not_finished step_fault.Memory h = tt

        -- all of them, over the ids of the last store
        pub made_by_use : (last : List Tree) (all : List Step) (after : List Provable) → all ≡ plan ++ rest →
            map (step_at last) plan ≡ map (step_at mid) plan → All (HasKnownIds last) plan →
            map (step_at last) rest ≡ map (step_at later) rest → All (HasKnownIds last) rest →
            Takes between (map (step_at later) rest) after → AreMade rows target.fact target.goal atom last all after
        made_by_use last all after all_is plan_is plan_known rest_is rest_known takes =
            let steps_are : map (step_at last) all ≡ instance_of (length rows) is.used its_extra ++ map (step_at later) rest =
            ap (map (step_at last)) all_is ∙ map-append (step_at last) plan rest ∙ (λ i. (plan_is ∙ planned_is) i ++ rest_is i) in
            record {
              made = subst (λ (xs : List TreeStep). AtomSteps rows target.fact target.goal atom xs after) (sym steps_are)
                  (uses is.s is.used its_extra e between (map (step_at later) rest) is.is_goal is.asks taken_instance ends takes);
              known = subst (All (HasKnownIds last)) (sym all_is) (All-append (HasKnownIds last) plan rest plan_known rest_known);
            }
