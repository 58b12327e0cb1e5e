-- A use of an axiom that matches what stands in a formula makes proper steps.
use Rattle.std.proofs.Common.{◌≡◌, ℕ, ◌+◌, Bool, true, false, List, [], ◌∷◌, ◌++◌, length, Some, refl, sym, ap, subst, ◌∙◌, if◌then◌else◌}
use Rattle.std.specs.Prelude.{IsTrue, ◌&&◌}
use Rattle.std.specs.List.{All}
use Rattle.std.specs.Str.{bytes_eq}
use Rattle.std.proofs.lemmas.List.Elements.{All-nil, All-cons, All-append, All-head, All-tail}
use Rattle.dlk_tree.specs.declared.op.Op.{Op}
use Rattle.dlk_tree.specs.declared.op.Op.TheVariants.{Dot, Hole, Eq, Imply, Equiv}
use Rattle.dlk_tree.specs.declared.op.Sort.{Sort}
use Rattle.dlk_tree.specs.declared.op.Sort.TheVariants.{Term, Formula}
use Rattle.dlk_tree.specs.Names.{is_name}
use Rattle.dlk_tree.specs.Occurs.{has, has_dots}
use Rattle.dlk_tree.specs.Table.{kid_sorts}
use Rattle.dlk_tree.specs.Trees.{Tree, node, Forest, sort, WellMade}
use Rattle.dlk_calculus.specs.declared.form.AxiomForm.{AxiomForm}
use Rattle.dlk_calculus.specs.declared.form.AxiomForm.TheVariants.{E, Q, C, R, I, F}
use Rattle.dlk_calculus.specs.Axioms.{Axiom, axiom_named}
use Rattle.dlk_calculus.specs.Kids.{first, last}
use Rattle.dlk_calculus.specs.Notation.{leaf, two}
use Rattle.dlk_calculus.specs.Pairs.{Pair, Extra, AreWellMade}
use Rattle.dlk_calculus.specs.Paths.{subtree, put_at, IsInnermost}
use Rattle.dlk_calculus.specs.Provables.{Provable}
use Rattle.dlk_calculus.specs.Sequents.{IsFormula}
use Rattle.dlk_calculus.specs.Steps.{Step, UseAxiom, Substitute, Rename, IsProper}
use Rattle.dlk_sequent.specs.declared.sequent.Place.{Place}
use Rattle.dlk_sequent.specs.declared.sequent.Place.TheVariants.{Ante, Succ}
use Rattle.dlk_kernel.specs.Taken.{Takes}
use Rattle.dlk_match.specs.Instances.{AreNames}
use Rattle.dlk_match.specs.Matching.{Match}
use Rattle.dlk_uses.specs.Uses.{Direction, Forwards, Backwards, Use, Spot, key, left_of, right_of, may_stand, is_forwards, is_on_the_right, is_whole}
use Rattle.dlk_uses.specs.Uses.{HasShape, ProvesLast}
use Rattle.dlk_uses.specs.Uses.{renaming, substituting, instance, by_equivalence, by_equation, by_conditional_equation, by_conditional_equivalence}
use Rattle.dlk_uses.specs.Uses.{by_implication, by_fact}
use Rattle.dlk_uses.specs.Uses.{Finishes, FinishesBehind, equivalence, equation, conditional_equivalence, conditional_equation, implication, fact}
use Rattle.dlk_elab.specs.Atoms.{MatchesThere}
use Rattle.dlk_elab.proofs.ProperSteps.{all_proper, equivalence_proper, EquationMade, equation_proper, conditional_equation_proper}
use Rattle.dlk_elab.proofs.ProperSteps.{conditional_equivalence_proper, implication_proper, fact_proper}

-- what laws say of paths, of matches and of the instances of axioms
pub record Laws : Type 0 where
  pub put_made : (e : Tree) (path : List ℕ) (s new : Tree) → WellMade e → WellMade new → subtree e path ≡ Some s → sort new ≡ sort s →
      WellMade (put_at e path new)
  pub inside_made : (e : Tree) (path : List ℕ) (s : Tree) → WellMade e → subtree e path ≡ Some s → WellMade s
  pub inside_lacks : (test : Op → Bool) (e : Tree) (path : List ℕ) (s : Tree) → has test e ≡ false → subtree e path ≡ Some s → has test s ≡ false
  pub joined : (e : Tree) (outer inner : List ℕ) (d : Tree) → subtree e outer ≡ Some d → subtree e (outer ++ inner) ≡ subtree d inner
  pub innermost : (e : Tree) (path : List ℕ) (s : Tree) → sort e ≡ Formula → subtree e path ≡ Some s →
      (outer : List ℕ) × (inner : List ℕ) × (f : Tree) × IsInnermost e path outer inner f
  pub names : (own : List (List ℕ)) (key target : Tree) (given extra : Extra) → WellMade key → WellMade target → has_dots target ≡ false →
      AreNames given.renames → Match key own target given extra → AreNames extra.renames
  pub pairs : (own : List (List ℕ)) (key target : Tree) (given extra : Extra) → WellMade key → WellMade target → has_dots target ≡ false →
      AreWellMade given.pairs → Match key own target given extra → AreWellMade extra.pairs
  pub same_sort : (own : List (List ℕ)) (key target : Tree) (given extra : Extra) → WellMade key → Match key own target given extra →
      sort target ≡ sort key
  pub axiom_made : (name : List ℕ) (a : Axiom) → axiom_named name ≡ Some a → WellMade a.formula
  pub ends_made : (op : Op) (kids : Forest) → WellMade (node op kids) → WellMade (first kids) × WellMade (last kids)
  pub axiom_shaped : (name : List ℕ) (a : Axiom) → axiom_named name ≡ Some a → HasShape a.form a.formula
  pub instance_shaped : (rows between : List Provable) (name : List ℕ) (extra : Extra) (a : Axiom) → axiom_named name ≡ Some a →
      Takes rows (instance (length rows) name extra) between → (f : Tree) × ProvesLast between f × HasShape a.form f
  pub instance_made : (rows between : List Provable) (name : List ℕ) (extra : Extra) (a : Axiom) → axiom_named name ≡ Some a →
      Takes rows (instance (length rows) name extra) between → (f : Tree) → ProvesLast between f → WellMade f

-- The steps of an instance:

-- both of a pair are names
abbrev pub AreBothNames : List ℕ × List ℕ → Type 0
AreBothNames r = IsTrue (is_name r.0) × IsTrue (is_name r.1)

renaming_proper : (n : ℕ) (renames : List (List ℕ × List ℕ)) → AreNames renames → All IsProper (renaming n renames)
renaming_proper n [] names = All-nil IsProper
renaming_proper n (r ∷ renames) names =
    elim (bytes_eq r.0 r.1) as (λ b. All IsProper (if b then renaming n renames else Rename n r.0 r.1 ∷ renaming (n + 1) renames)) [
      | true ↦ renaming_proper n renames (All-tail AreBothNames r renames names)
      | false ↦ All-cons IsProper (Rename n r.0 r.1) (renaming (n + 1) renames) (All-head AreBothNames r renames names)
          (renaming_proper (n + 1) renames (All-tail AreBothNames r renames names))
    ]

substituting_proper : (n : ℕ) (pairs : List Pair) → AreWellMade pairs → All IsProper (substituting n pairs)
substituting_proper n [] made = All-nil IsProper
substituting_proper n (p ∷ pairs) made = All-cons IsProper (Substitute n (p ∷ pairs)) [] made (All-nil IsProper)

instance_proper : (rows : ℕ) (name : List ℕ) (extra : Extra) → AreNames extra.renames → AreWellMade extra.pairs → All IsProper (instance rows name extra)
instance_proper rows name extra names made =
    let named = UseAxiom name ∷ renaming (rows + 1) extra.renames in
    All-append IsProper named (substituting (rows + length named) extra.pairs)
    (All-cons IsProper (UseAxiom name) (renaming (rows + 1) extra.renames) tt (renaming_proper (rows + 1) extra.renames names))
    (substituting_proper (rows + length named) extra.pairs made)

-- Both sides of a formula:

record Sides (s : Sort) (f : Tree) : Type 0 where
  left : WellMade (left_of f)
  right : WellMade (right_of f)
  left_sort : sort (left_of f) ≡ s
  right_sort : sort (right_of f) ≡ s

both_sides : (op : Op) (s : Sort) (f : Tree) → kid_sorts op ≡ s ∷ s ∷ [] → f ≡ two op (left_of f) (right_of f) → WellMade f → Sides s f
both_sides op s f kinds shape made =
    let m : WellMade (two op (left_of f) (right_of f)) = subst WellMade shape made in
    let e : sort (left_of f) ∷ sort (right_of f) ∷ [] ≡ s ∷ s ∷ [] = m.0.kids_fit ∙ kinds in
    record { left = m.1.0; right = m.1.1.0; left_sort = cc; right_sort = cc }

hole_made : WellMade (leaf Hole)
hole_made = (record { kids_fit = refl; parts_fit = refl }, tt)

dot_made : WellMade (leaf (Dot 0))
dot_made = (record { kids_fit = refl; parts_fit = refl }, tt)

-- a place on the right
on_the_right : (direction : Direction) (place : Place) (path : List ℕ) → IsTrue (is_forwards direction && is_on_the_right place && is_whole path) →
    (j : ℕ) × (place ≡ Succ j)
on_the_right direction (Succ j) path may = (j, refl)
on_the_right Forwards (Ante i) path may = absurd (cc may)
on_the_right Backwards (Ante i) path may = absurd (cc may)

-- behind an instance there are proper steps
abbrev Goes : (now : ℕ) (spot : Spot) (used : Use) (e f : Tree) → Type 0
Goes now spot used e f = (rest : List Step) × Finishes now spot used e f rest × All IsProper rest

-- so there are where the last of the rows proves it
abbrev pub GoesBehind : (rows : List Provable) (spot : Spot) (used : Use) (e : Tree) → Type 0
GoesBehind rows spot used e = (rest : List Step) × FinishesBehind rows spot used e rest × All IsProper rest

module _ (laws : Laws) where
  left_made : (f : Tree) → WellMade f → WellMade (left_of f)
  left_made (node op kids) made = (laws.ends_made op kids made).0

  right_made : (f : Tree) → WellMade f → WellMade (right_of f)
  right_made (node op kids) made = (laws.ends_made op kids made).1

  key_made : (form : AxiomForm) (direction : Direction) (place : Place) (f : Tree) → WellMade f → WellMade (key form direction place f)
  key_made E Forwards place f made = left_made f made
  key_made E Backwards place f made = right_made f made
  key_made Q Forwards place f made = left_made f made
  key_made Q Backwards place f made = right_made f made
  key_made C direction place f made = left_made (right_of f) (right_made f made)
  key_made R direction place f made = left_made (right_of f) (right_made f made)
  key_made I direction (Succ j) f made = right_made f made
  key_made I direction (Ante i) f made = left_made f made
  key_made F direction place f made = made

  equivalence_key : (direction : Direction) (place : Place) (f : Tree) → HasShape E f → WellMade f → sort (key E direction place f) ≡ Formula
  equivalence_key Forwards place f shape made = (both_sides Equiv Formula f refl shape made).left_sort
  equivalence_key Backwards place f shape made = (both_sides Equiv Formula f refl shape made).right_sort

  equation_key : (direction : Direction) (place : Place) (f : Tree) → HasShape Q f → WellMade f → sort (key Q direction place f) ≡ Term
  equation_key Forwards place f shape made = (both_sides Eq Term f refl shape made).left_sort
  equation_key Backwards place f shape made = (both_sides Eq Term f refl shape made).right_sort

  module _ (spot : Spot) (used : Use) (e t : Tree) (extra : Extra) (formula : IsFormula e) (inside : subtree e used.path ≡ Some t)
      (may : IsTrue (may_stand used.its_axiom.form used.direction used.place used.path)) (matches : MatchesThere used t extra)
      (named : axiom_named used.its_axiom.name ≡ Some used.its_axiom) where
    axiom_is_made : WellMade used.its_axiom.formula
    axiom_is_made = laws.axiom_made used.its_axiom.name used.its_axiom named

    key_is_made : WellMade (key used.its_axiom.form used.direction used.place used.its_axiom.formula)
    key_is_made = key_made used.its_axiom.form used.direction used.place used.its_axiom.formula axiom_is_made

    target_made : WellMade t
    target_made = laws.inside_made e used.path t formula.well_made inside

    target_clean : has_dots t ≡ false
    target_clean = laws.inside_lacks _ e used.path t formula.no_dot inside

    pub made_proper : (rows : ℕ) → AreNames used.given.renames → AreWellMade used.given.pairs → All IsProper (instance rows used.its_axiom.name extra)
    made_proper rows names pairs =
        let k = key used.its_axiom.form used.direction used.place used.its_axiom.formula in
        instance_proper rows used.its_axiom.name extra
        (laws.names used.its_axiom.own_names k t used.given extra key_is_made target_made target_clean names matches)
        (laws.pairs used.its_axiom.own_names k t used.given extra key_is_made target_made target_clean pairs matches)

    -- the sort of what is looked for is that of what stands there
    sort_there : (form : AxiomForm) (s : Sort) → used.its_axiom.form ≡ form →
        (HasShape form used.its_axiom.formula → sort (key form used.direction used.place used.its_axiom.formula) ≡ s) → sort t ≡ s
    sort_there form s is of =
        let shape = subst (λ x. HasShape x used.its_axiom.formula) is (laws.axiom_shaped used.its_axiom.name used.its_axiom named) in
        let k = key used.its_axiom.form used.direction used.place used.its_axiom.formula in
        laws.same_sort used.its_axiom.own_names k t used.given extra key_is_made matches
        ∙ ap (λ x. sort (key x used.direction used.place used.its_axiom.formula)) is ∙ of shape

    -- an equation is used in the smallest formula round the place
    record Equated (l r : Tree) : Type 0 where
      outer : List ℕ
      inner : List ℕ
      d : Tree
      round : IsInnermost e used.path outer inner d
      made : EquationMade e outer inner d l r

    equated : (l r : Tree) → WellMade l → WellMade r → sort l ≡ Term → sort r ≡ Term → sort t ≡ Term → Equated l r
    equated l r left right left_sort right_sort here =
        let i = laws.innermost e used.path t formula.sort_is inside in
        let there : subtree i.2 i.1 ≡ Some t = sym (laws.joined e i.0 i.1 i.2 i.3.stands) ∙ ap (subtree e) (sym i.3.parts) ∙ inside in
        let made : WellMade i.2 = laws.inside_made e i.0 i.2 formula.well_made i.3.stands in
        record {
          outer = i.0;
          inner = i.1;
          d = i.2;
          round = i.3;
          made = record {
            left = left;
            right = right;
            dot = laws.put_made i.2 i.1 t (leaf (Dot 0)) made dot_made there (sym here);
            left_there = laws.put_made i.2 i.1 t l made left there (left_sort ∙ sym here);
            right_there = laws.put_made i.2 i.1 t r made right there (right_sort ∙ sym here);
            context = laws.put_made e i.0 i.2 (leaf Hole) formula.well_made hole_made i.3.stands (sym i.3.is_formula);
          };
        }

    goes : (form : AxiomForm) → used.its_axiom.form ≡ form → (now : ℕ) (f : Tree) → HasShape form f → WellMade f → Goes now spot used e f
    goes E is now f shape made =
        let sides = both_sides Equiv Formula f refl shape made in
        let here : sort t ≡ Formula =
        sort_there E Formula is (λ s. equivalence_key used.direction used.place used.its_axiom.formula s axiom_is_made) in
        let context : WellMade (put_at e used.path (leaf Hole)) = laws.put_made e used.path t (leaf Hole) formula.well_made hole_made inside (sym here) in
        let steps = by_equivalence now spot used.place used.direction e used.path (left_of f) (right_of f) in (
          steps,
          equivalence is,
          all_proper steps (equivalence_proper now spot used.place used.direction e used.path (left_of f) (right_of f) sides.left sides.right context),
        )
    goes Q is now f shape made =
        let sides = both_sides Eq Term f refl shape made in
        let here : sort t ≡ Term = sort_there Q Term is (λ s. equation_key used.direction used.place used.its_axiom.formula s axiom_is_made) in
        let q = equated (left_of f) (right_of f) sides.left sides.right sides.left_sort sides.right_sort here in
        let steps = by_equation now spot used.place used.direction e q.outer q.inner q.d (left_of f) (right_of f) in (
          steps,
          equation q.outer q.inner q.d is q.round,
          all_proper steps (equation_proper now spot used.place used.direction e q.outer q.inner q.d (left_of f) (right_of f) q.made),
        )
    goes C is now f shape made =
        let at = on_the_right used.direction used.place used.path
        (subst (λ x. IsTrue (may_stand x used.direction used.place used.path)) is may) in
        let steps = by_conditional_equivalence now spot at.0 (left_of f) (left_of (right_of f)) (right_of (right_of f)) in (
          steps,
          conditional_equivalence at.0 is at.1,
          all_proper steps (conditional_equivalence_proper now spot at.0 (left_of f) (left_of (right_of f)) (right_of (right_of f))),
        )
    goes R is now f shape made =
        let g = right_of f in
        let sides = both_sides Eq Term g refl shape.1 (both_sides Imply Formula f refl shape.0 made).right in
        let here : sort t ≡ Term =
        sort_there R Term is
        (λ s. (both_sides Eq Term (right_of used.its_axiom.formula) refl s.1
        (both_sides Imply Formula used.its_axiom.formula refl s.0 axiom_is_made).right).left_sort) in
        let q = equated (left_of g) (right_of g) sides.left sides.right sides.left_sort sides.right_sort here in
        let steps = by_conditional_equation now spot used.place used.direction e q.outer q.inner q.d (left_of f) (left_of g) (right_of g) in (
          steps,
          conditional_equation q.outer q.inner q.d is q.round,
          all_proper steps
              (conditional_equation_proper now spot used.place used.direction e q.outer q.inner q.d (left_of f) (left_of g) (right_of g) q.made),
        )
    goes I is now f shape made =
        let steps = by_implication now spot used.place (left_of f) (right_of f) in
        (steps, implication is, all_proper steps (implication_proper now spot used.place (left_of f) (right_of f)))
    goes F is now f shape made =
        let at = on_the_right used.direction used.place used.path
        (subst (λ x. IsTrue (may_stand x used.direction used.place used.path)) is may) in
        let steps = by_fact now spot at.0 in (steps, fact at.0 is at.1, all_proper steps (fact_proper now spot at.0))

    pub goes_on : (rows between : List Provable) → Takes rows (instance (length rows) used.its_axiom.name extra) between →
        GoesBehind between spot used e
    goes_on rows between takes =
        let i = laws.instance_shaped rows between used.its_axiom.name extra used.its_axiom named takes in
        let made = laws.instance_made rows between used.its_axiom.name extra used.its_axiom named takes i.0 i.1 in
        let g = goes used.its_axiom.form refl (length between) i.0 i.2 made in
        (g.0, record { f = i.0; proves = i.1; finishes = g.1 }, g.2)
