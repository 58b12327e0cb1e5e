-- What the lines behind an instance merge fits, whatever the form of the axiom is.
use Rattle.std.proofs.Common.{◌≡◌, ℕ, List, [], ◌∷◌, ◌++◌, length, refl, sym, ap, subst, ◌∙◌, Bool, false, Some}
use Rattle.std.specs.Prelude.{IsTrue}
use Rattle.std.proofs.lemmas.Bool.{and_parts}
use Rattle.std.proofs.lemmas.Option.{same_Some}
use Rattle.dlk_tree.specs.declared.op.Op.{Op}
use Rattle.dlk_tree.specs.declared.op.Sort.TheVariants.{Term}
use Rattle.dlk_tree.specs.Occurs.{has, has_dots}
use Rattle.dlk_tree.specs.Trees.{Tree, node, Forest, sort, WellMade}
use Rattle.dlk_calculus.specs.declared.form.AxiomForm.{AxiomForm}
use Rattle.dlk_calculus.specs.declared.form.AxiomForm.TheVariants.{E, Q, C, R, I, F}
use Rattle.dlk_calculus.specs.Axioms.{Axiom}
use Rattle.dlk_calculus.specs.Kids.{first, last}
use Rattle.dlk_calculus.specs.Notation.{eq}
use Rattle.dlk_calculus.specs.Pairs.{Pair, Extra, IsWellFormed}
use Rattle.dlk_calculus.specs.Paths.{subtree, IsInnermost}
use Rattle.dlk_calculus.specs.Places.{At}
use Rattle.dlk_calculus.specs.Rules.{imply, equiv}
use Rattle.dlk_calculus.specs.Sequents.{IsFormula}
use Rattle.dlk_calculus.specs.Provables.{Provable}
use Rattle.dlk_calculus.specs.Steps.{Step, IsGoal}
use Rattle.dlk_calculus.specs.Subst.{Subst}
use Rattle.dlk_match.specs.Instances.{HasOwnNames}
use Rattle.dlk_match.specs.Matching.{Match, exchanged}
use Rattle.dlk_sequent.specs.declared.sequent.Place.{Place}
use Rattle.dlk_sequent.specs.declared.sequent.Place.TheVariants.{Ante, Succ}
use Rattle.dlk_uses.specs.Uses.{HasShape, Direction, Forwards, Backwards, Use, left_of, right_of, key, is_forwards, is_whole, may_stand, formula_at}
use Rattle.dlk_uses.specs.Uses.{Spot, by_equivalence, by_equation, by_conditional_equation, by_conditional_equivalence, by_implication, by_fact}
use Rattle.dlk_uses.specs.Uses.{Finishes, equivalence, equation, conditional_equivalence, conditional_equation, implication, fact}
use Rattle.dlk_uses.proofs.Fitting.{Fit}
use Rattle.dlk_uses.proofs.Exchanging.{Proves, old_side, fact_fits, implication_fits, implication_fits_left}
use Rattle.dlk_uses.proofs.Conditional.{conditional_equivalence_fits}
use Rattle.dlk_uses.proofs.Blocks.{PathLaws, equivalence_fits}
use Rattle.dlk_uses.proofs.Equations.{IsTerm, equation_fits, conditional_equation_fits}

-- what the laws of matching and of paths say
pub record Laws : Type 0 where
  pub target : (own : List (List ℕ)) (key target : Tree) (given extra : Extra) (t : Tree) → HasOwnNames own key → WellMade key → WellMade target →
      has_dots target ≡ false → Match key own target given extra → IsWellFormed extra.pairs → Subst extra.pairs (exchanged extra.renames key) t → t ≡ target
  pub ends_names : (own : List (List ℕ)) (op : Op) (kids : Forest) → HasOwnNames own (node op kids) → HasOwnNames own (first kids) × HasOwnNames own (last kids)
  pub ends_made : (op : Op) (kids : Forest) → WellMade (node op kids) → WellMade (first kids) × WellMade (last kids)
  pub exchanged_equiv : (renames : List (List ℕ × List ℕ)) (l r : Tree) → exchanged renames (equiv l r) ≡ equiv (exchanged renames l) (exchanged renames r)
  pub exchanged_imply : (renames : List (List ℕ × List ℕ)) (l r : Tree) → exchanged renames (imply l r) ≡ imply (exchanged renames l) (exchanged renames r)
  pub exchanged_eq : (renames : List (List ℕ × List ℕ)) (l r : Tree) → exchanged renames (eq l r) ≡ eq (exchanged renames l) (exchanged renames r)
  pub subst_equiv : (pairs : List Pair) (l r t : Tree) → Subst pairs (equiv l r) t →
      (m : Tree) × (s : Tree) × (t ≡ equiv m s) × Subst pairs l m × Subst pairs r s
  pub subst_imply : (pairs : List Pair) (l r t : Tree) → Subst pairs (imply l r) t →
      (m : Tree) × (s : Tree) × (t ≡ imply m s) × Subst pairs l m × Subst pairs r s
  pub subst_eq : (pairs : List Pair) (l r t : Tree) → Subst pairs (eq l r) t →
      (m : Tree) × (s : Tree) × (t ≡ eq m s) × Subst pairs l m × Subst pairs r s
  pub paths : PathLaws
  pub inside_made : (e : Tree) (path : List ℕ) (s : Tree) → WellMade e → subtree e path ≡ Some s → WellMade s
  pub inside_lacks : (test : Op → Bool) (e : Tree) (path : List ℕ) (s : Tree) → has test e ≡ false → subtree e path ≡ Some s → has test s ≡ false
  pub joined : (e : Tree) (outer inner : List ℕ) (d : Tree) → subtree e outer ≡ Some d → subtree e (outer ++ inner) ≡ subtree d inner

-- a formula of which only these names are variables, or a part of one
pub record IsKey (own : List (List ℕ)) (k : Tree) : Type 0 where
  pub names : HasOwnNames own k
  pub made : WellMade k

module _ (laws : Laws) where
  left_key : (own : List (List ℕ)) (k : Tree) → IsKey own k → IsKey own (left_of k)
  left_key own (node op kids) is = record { names = (laws.ends_names own op kids is.names).0; made = (laws.ends_made op kids is.made).0 }

  right_key : (own : List (List ℕ)) (k : Tree) → IsKey own k → IsKey own (right_of k)
  right_key own (node op kids) is = record { names = (laws.ends_names own op kids is.names).1; made = (laws.ends_made op kids is.made).1 }

-- An instance of two parts: each is the instance of its part.
record IsTwo (pairs : List Pair) (renames : List (List ℕ × List ℕ)) (make : Tree → Tree → Tree) (k f : Tree) : Type 0 where
  left : Tree
  right : Tree
  is : f ≡ make left right
  makes_left : Subst pairs (exchanged renames (left_of k)) left
  makes_right : Subst pairs (exchanged renames (right_of k)) right

is_two : (pairs : List Pair) (renames : List (List ℕ × List ℕ)) (make : Tree → Tree → Tree) (k f : Tree) →
    ((l r : Tree) → exchanged renames (make l r) ≡ make (exchanged renames l) (exchanged renames r)) →
    ((l r t : Tree) → Subst pairs (make l r) t → (m : Tree) × (s : Tree) × (t ≡ make m s) × Subst pairs l m × Subst pairs r s) →
    k ≡ make (left_of k) (right_of k) → Subst pairs (exchanged renames k) f → IsTwo pairs renames make k f
is_two pairs renames make k f exchanges substitutes shape makes =
    let l = exchanged renames (left_of k) in
    let r = exchanged renames (right_of k) in
    let same : exchanged renames k ≡ make l r = ap (exchanged renames) shape ∙ exchanges (left_of k) (right_of k) in
    let s = substitutes l r f (subst (λ x. Subst pairs x f) same makes) in
    record { left = s.0; right = s.1; is = s.2; makes_left = s.3; makes_right = s.4 }

forwards : (d : Direction) → IsTrue (is_forwards d) → d ≡ Forwards
forwards Forwards h = refl
forwards Backwards h = absurd (cc h)

no_path : (path : List ℕ) → IsTrue (is_whole path) → path ≡ []
no_path [] h = refl
no_path (n ∷ path) h = absurd (cc h)

-- the sides of an equation are terms
subst_made : (pairs : List Pair) (k f : Tree) → Subst pairs k f → WellMade f
subst_made pairs (node op kids) f h = h.3

sides_are_terms : (l r : Tree) → WellMade (eq l r) → IsTerm l × IsTerm r
sides_are_terms l r (fits, (left, (right, none))) =
    let sorts : sort l ∷ sort r ∷ [] ≡ Term ∷ Term ∷ [] = fits.kids_fit in
    let one : sort l ≡ Term = cc in
    let two : sort r ≡ Term = cc in
    (record { well_made = left; sort_is = one }, record { well_made = right; sort_is = two })

-- A use of an axiom on a formula e at a place, of which t stands at the path; f is what the row `length between` proves.
pub record Used (between : List Provable) (spot : Spot) (used : Use) (e t f : Tree) (extra : Extra) : Type 0 where
  pub goal : IsGoal between spot.fact spot.goal spot.s
  pub here : formula_at spot.s used.place ≡ Some e
  pub formula : IsFormula e
  pub inside : subtree e used.path ≡ Some t
  pub stands : IsTrue (may_stand used.its_axiom.form used.direction used.place used.path)
  pub matches : Match (key used.its_axiom.form used.direction used.place used.its_axiom.formula) used.its_axiom.own_names t used.given extra
  pub is_key : IsKey used.its_axiom.own_names used.its_axiom.formula
  pub shaped : HasShape used.its_axiom.form used.its_axiom.formula
  pub proves : Proves between (length between) f
  pub makes : Subst extra.pairs (exchanged extra.renames used.its_axiom.formula) f
  pub formed : IsWellFormed extra.pairs

module _ (laws : Laws) (between : List Provable) (spot : Spot) (used : Use) (e t f : Tree) (extra : Extra) (u : Used between spot used e t f extra) where
  abbrev a : Axiom
  a = used.its_axiom

  -- the instance of the key is what stands there
  is_target : (form : AxiomForm) (k m : Tree) → a.form ≡ form → k ≡ key form used.direction used.place a.formula → IsKey a.own_names k →
      Subst extra.pairs (exchanged extra.renames k) m → m ≡ t
  is_target form k m is same is_key makes =
      let matches = subst (λ x. Match x a.own_names t used.given extra) (ap (λ x. key x used.direction used.place a.formula) is ∙ sym same) u.matches in
      laws.target a.own_names k t used.given extra m is_key.names is_key.made (laws.inside_made e used.path t u.formula.well_made u.inside)
      (laws.inside_lacks _ e used.path t u.formula.no_dot u.inside) matches u.formed makes

  -- one side of an equivalence or an equation
  side_is : (form : AxiomForm) (l r : Tree) → a.form ≡ form → (left_of a.formula ≡ key form Forwards used.place a.formula) →
      (right_of a.formula ≡ key form Backwards used.place a.formula) → Subst extra.pairs (exchanged extra.renames (left_of a.formula)) l →
      Subst extra.pairs (exchanged extra.renames (right_of a.formula)) r → old_side used.direction l r ≡ t
  side_is form l r is left right makes_left makes_right = side used.direction refl
    where
      side : (d : Direction) → used.direction ≡ d → old_side d l r ≡ t
      side Forwards e = is_target form (left_of a.formula) l is (left ∙ ap (λ d. key form d used.place a.formula) (sym e))
          (left_key laws a.own_names a.formula u.is_key) makes_left
      side Backwards e = is_target form (right_of a.formula) r is (right ∙ ap (λ d. key form d used.place a.formula) (sym e))
          (right_key laws a.own_names a.formula u.is_key) makes_right

  by_equivalence_fits : a.form ≡ E →
      Fit between (by_equivalence (length between) spot used.place used.direction e used.path (left_of f) (right_of f))
  by_equivalence_fits is =
      let shape : a.formula ≡ equiv (left_of a.formula) (right_of a.formula) = subst (λ x. HasShape x a.formula) is u.shaped in
      let two = is_two extra.pairs extra.renames equiv a.formula f (laws.exchanged_equiv extra.renames) (laws.subst_equiv extra.pairs) shape u.makes in
      let old = side_is E two.left two.right is refl refl two.makes_left two.makes_right in
      subst (λ x. Fit between (by_equivalence (length between) spot used.place used.direction e used.path (left_of x) (right_of x))) (sym two.is)
      (equivalence_fits laws.paths between (length between) spot used.place used.direction e used.path two.left two.right refl u.goal u.here
      u.formula.no_hole (u.inside ∙ ap Some (sym old)) (subst (Proves between (length between)) two.is u.proves))

  -- the formula in which an equation is used, and the way on from it
  around : (outer inner : List ℕ) (d : Tree) → IsInnermost e used.path outer inner d → (subtree e outer ≡ Some d) × (subtree d inner ≡ Some t)
  around outer inner d i = (i.stands, sym (laws.joined e outer inner d i.stands) ∙ sym (ap (subtree e) i.parts) ∙ u.inside)

  by_equation_fits : a.form ≡ Q → (outer inner : List ℕ) (d : Tree) → IsInnermost e used.path outer inner d →
      Fit between (by_equation (length between) spot used.place used.direction e outer inner d (left_of f) (right_of f))
  by_equation_fits is outer inner d round =
      let shape : a.formula ≡ eq (left_of a.formula) (right_of a.formula) = subst (λ x. HasShape x a.formula) is u.shaped in
      let two = is_two extra.pairs extra.renames eq a.formula f (laws.exchanged_eq extra.renames) (laws.subst_eq extra.pairs) shape u.makes in
      let old = side_is Q two.left two.right is refl refl two.makes_left two.makes_right in
      let way = around outer inner d round in
      let terms = sides_are_terms two.left two.right (subst WellMade two.is (subst_made extra.pairs (exchanged extra.renames a.formula) f u.makes)) in
      subst (λ x. Fit between (by_equation (length between) spot used.place used.direction e outer inner d (left_of x) (right_of x))) (sym two.is)
      (equation_fits laws.paths between (length between) spot used.place used.direction e outer inner d two.left two.right refl u.goal u.here
      u.formula.no_hole (laws.inside_lacks _ e outer d u.formula.no_dot way.0) way.0 (way.1 ∙ ap Some (sym old)) terms.0 terms.1
      (subst (Proves between (length between)) two.is u.proves))

  -- the parts of a conditional axiom, whose consequence is made of two
  by_conditional_equivalence_fits : a.form ≡ C → (j : ℕ) → used.place ≡ Succ j →
      Fit between (by_conditional_equivalence (length between) spot j (left_of f) (left_of (right_of f)) (right_of (right_of f)))
  by_conditional_equivalence_fits is j place =
      let shape = subst (λ x. HasShape x a.formula) is u.shaped in
      let stands = subst (λ x. IsTrue (may_stand x used.direction used.place used.path)) is u.stands in
      let path = no_path used.path (and_parts _ (is_whole used.path) stands).1 in
      let two = is_two extra.pairs extra.renames imply a.formula f (laws.exchanged_imply extra.renames) (laws.subst_imply extra.pairs) shape.0 u.makes in
      let inner = is_two extra.pairs extra.renames equiv (right_of a.formula) two.right (laws.exchanged_equiv extra.renames) (laws.subst_equiv extra.pairs)
      shape.1 two.makes_right in
      let l : inner.left ≡ t = is_target C (left_of (right_of a.formula)) inner.left is refl
      (left_key laws a.own_names (right_of a.formula) (right_key laws a.own_names a.formula u.is_key)) inner.makes_left in
      let e_is : e ≡ t = same_Some e t (subst (λ p. subtree e p ≡ Some t) path u.inside) in
      let here : At spot.s.succ j inner.left = subst (λ p. formula_at spot.s p ≡ Some e) place u.here ∙ ap Some (e_is ∙ sym l) in
      let whole_is : f ≡ imply two.left (equiv inner.left inner.right) = two.is ∙ ap (imply two.left) inner.is in
      subst (λ x. Fit between (by_conditional_equivalence (length between) spot j (left_of x) (left_of (right_of x)) (right_of (right_of x)))) (sym whole_is)
      (conditional_equivalence_fits between (length between) spot j two.left inner.left inner.right refl u.goal here
      (subst (Proves between (length between)) whole_is u.proves))

  by_conditional_equation_fits : a.form ≡ R → (outer inner : List ℕ) (d : Tree) → IsInnermost e used.path outer inner d →
      Fit between (by_conditional_equation (length between) spot used.place used.direction e outer inner d (left_of f) (left_of (right_of f))
      (right_of (right_of f)))
  by_conditional_equation_fits is outer inner d round =
      let shape = subst (λ x. HasShape x a.formula) is u.shaped in
      let direction = forwards used.direction (subst (λ x. IsTrue (may_stand x used.direction used.place used.path)) is u.stands) in
      let two = is_two extra.pairs extra.renames imply a.formula f (laws.exchanged_imply extra.renames) (laws.subst_imply extra.pairs) shape.0 u.makes in
      let sides = is_two extra.pairs extra.renames eq (right_of a.formula) two.right (laws.exchanged_eq extra.renames) (laws.subst_eq extra.pairs)
      shape.1 two.makes_right in
      let l : sides.left ≡ t = is_target R (left_of (right_of a.formula)) sides.left is refl
      (left_key laws a.own_names (right_of a.formula) (right_key laws a.own_names a.formula u.is_key)) sides.makes_left in
      let old : old_side used.direction sides.left sides.right ≡ t = subst (λ x. old_side x sides.left sides.right ≡ t) (sym direction) l in
      let way = around outer inner d round in
      let terms = sides_are_terms sides.left sides.right (subst WellMade sides.is
      (subst_made extra.pairs (exchanged extra.renames (right_of a.formula)) two.right two.makes_right)) in
      let whole_is : f ≡ imply two.left (eq sides.left sides.right) = two.is ∙ ap (imply two.left) sides.is in
      subst
      (λ x. Fit between (by_conditional_equation (length between) spot used.place used.direction e outer inner d (left_of x) (left_of (right_of x))
      (right_of (right_of x))))
      (sym whole_is)
      (conditional_equation_fits laws.paths between (length between) spot used.place used.direction e outer inner d two.left sides.left sides.right refl
      u.goal u.here u.formula.no_hole (laws.inside_lacks _ e outer d u.formula.no_dot way.0) way.0 (way.1 ∙ ap Some (sym old)) terms.0 terms.1
      (subst (Proves between (length between)) whole_is u.proves))

  by_implication_fits : a.form ≡ I → (place : Place) → used.place ≡ place → Fit between (by_implication (length between) spot place (left_of f) (right_of f))
  by_implication_fits is place at_place =
      let shape : a.formula ≡ imply (left_of a.formula) (right_of a.formula) = subst (λ x. HasShape x a.formula) is u.shaped in
      let stands = subst (λ x. IsTrue (may_stand x used.direction used.place used.path)) is u.stands in
      let path = no_path used.path (and_parts _ (is_whole used.path) stands).1 in
      let two = is_two extra.pairs extra.renames imply a.formula f (laws.exchanged_imply extra.renames) (laws.subst_imply extra.pairs) shape u.makes in
      let e_is : e ≡ t = same_Some e t (subst (λ p. subtree e p ≡ Some t) path u.inside) in
      let proof = subst (Proves between (length between)) two.is u.proves in
      subst (λ x. Fit between (by_implication (length between) spot place (left_of x) (right_of x))) (sym two.is) (side place at_place e_is two.left two.right
      two.makes_left two.makes_right proof)
    where
      side : (p : Place) → used.place ≡ p → e ≡ t → (b h : Tree) → Subst extra.pairs (exchanged extra.renames (left_of a.formula)) b →
          Subst extra.pairs (exchanged extra.renames (right_of a.formula)) h → Proves between (length between) (imply b h) →
          Fit between (by_implication (length between) spot p b h)
      side (Succ j) is_place e_is b h makes_left makes_right proof =
          let target : h ≡ t = is_target I (right_of a.formula) h is (ap (λ p. key I used.direction p a.formula) (sym is_place))
          (right_key laws a.own_names a.formula u.is_key) makes_right in
          implication_fits between (length between) spot j b h refl u.goal
          (subst (λ p. formula_at spot.s p ≡ Some e) is_place u.here ∙ ap Some (e_is ∙ sym target)) proof
      side (Ante i) is_place e_is b h makes_left makes_right proof =
          let target : b ≡ t = is_target I (left_of a.formula) b is (ap (λ p. key I used.direction p a.formula) (sym is_place))
          (left_key laws a.own_names a.formula u.is_key) makes_left in
          implication_fits_left between (length between) spot i b h refl u.goal
          (subst (λ p. formula_at spot.s p ≡ Some e) is_place u.here ∙ ap Some (e_is ∙ sym target)) proof

  by_fact_fits : a.form ≡ F → (j : ℕ) → used.place ≡ Succ j → Fit between (by_fact (length between) spot j)
  by_fact_fits is j place =
      let stands = subst (λ x. IsTrue (may_stand x used.direction used.place used.path)) is u.stands in
      let path = no_path used.path (and_parts _ (is_whole used.path) stands).1 in
      let target : f ≡ t = is_target F a.formula f is refl u.is_key u.makes in
      let e_is : e ≡ t = same_Some e t (subst (λ p. subtree e p ≡ Some t) path u.inside) in
      fact_fits between (length between) spot j e refl u.goal (subst (λ p. formula_at spot.s p ≡ Some e) place u.here)
      (subst (Proves between (length between)) (target ∙ sym e_is) u.proves)

  pub finishing_fits : (rest : List Step) → Finishes (length between) spot used e f rest → Fit between rest
  finishing_fits _ (equivalence is) = by_equivalence_fits is
  finishing_fits _ (equation outer inner d is round) = by_equation_fits is outer inner d round
  finishing_fits _ (conditional_equivalence j is place) = by_conditional_equivalence_fits is j place
  finishing_fits _ (conditional_equation outer inner d is round) = by_conditional_equation_fits is outer inner d round
  finishing_fits _ (implication is) = by_implication_fits is used.place refl
  finishing_fits _ (fact j is place) = by_fact_fits is j place
