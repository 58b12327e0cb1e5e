-- Instances of axioms have the axioms' shapes.
use Rattle.std.proofs.Common.{◌≡◌, ℕ, List, [], length, refl, sym, ap, subst, ◌∙◌, Some}
use Rattle.std.proofs.lemmas.List.Elements.{All-head}
use Rattle.dlk_tree.specs.Trees.{Tree, node, WellMade}
use Rattle.dlk_calculus.specs.declared.form.AxiomForm.{AxiomForm}
use Rattle.dlk_calculus.specs.declared.form.AxiomForm.TheVariants.{E, Q, C, R, I, F}
use Rattle.dlk_calculus.specs.Axioms.{Axiom, axiom_named}
use Rattle.dlk_calculus.specs.Notation.{eq}
use Rattle.dlk_calculus.specs.Pairs.{Pair, Extra}
use Rattle.dlk_calculus.specs.Provables.{Provable, known, HasFormulas}
use Rattle.dlk_calculus.specs.Rules.{imply, equiv}
use Rattle.dlk_calculus.specs.Sequents.{IsFormula}
use Rattle.dlk_calculus.specs.Steps.{Derives}
use Rattle.dlk_calculus.specs.Subst.{Subst}
use Rattle.dlk_match.specs.Matching.{exchanged}
use Rattle.dlk_kernel.specs.Taken.{Takes}
use Rattle.dlk_uses.specs.Uses.{instance, left_of, right_of, HasShape, ProvesLast}
use Rattle.dlk_uses.proofs.Instance.{Instantiates, instantiates, proves_one}
use Rattle.dlk_uses.proofs.Shapes.{axiom_shaped}

-- what the laws of matching say of names exchanged and of what is replaced in a node over two kids
abbrev Exchanges : (Tree → Tree → Tree) → Type 0
Exchanges make = (renames : List (List ℕ × List ℕ)) (l r : Tree) → exchanged renames (make l r) ≡ make (exchanged renames l) (exchanged renames r)

abbrev Replaces : (Tree → Tree → Tree) → Type 0
Replaces make = (pairs : List Pair) (l r t : Tree) → Subst pairs (make l r) t → (m : Tree) × (s : Tree) × (t ≡ make m s) × Subst pairs l m × Subst pairs r s

pub record KidLaws : Type 0 where
  pub exchanged_equiv : Exchanges equiv
  pub exchanged_imply : Exchanges imply
  pub exchanged_eq : Exchanges eq
  pub subst_equiv : Replaces equiv
  pub subst_imply : Replaces imply
  pub subst_eq : Replaces eq

-- the instance of such a node is one, over the instances of its kids
record IsOver (make : Tree → Tree → Tree) (pairs : List Pair) (renames : List (List ℕ × List ℕ)) (k f : Tree) : Type 0 where
  is : f ≡ make (left_of f) (right_of f)
  makes_right : Subst pairs (exchanged renames (right_of k)) (right_of f)

record IsPair (make : Tree → Tree → Tree) : Type 0 where
  left : (l r : Tree) → left_of (make l r) ≡ l
  right : (l r : Tree) → right_of (make l r) ≡ r

is_over : (make : Tree → Tree → Tree) → IsPair make → Exchanges make → Replaces make → (pairs : List Pair) (renames : List (List ℕ × List ℕ)) (k f : Tree) →
    k ≡ make (left_of k) (right_of k) → Subst pairs (exchanged renames k) f → IsOver make pairs renames k f
is_over make pair exchanges replaces pairs renames k f shape makes =
    let l = exchanged renames (left_of k) in
    let r = exchanged renames (right_of k) in
    let same : exchanged renames k ≡ make l r = ap (exchanged renames) shape ∙ exchanges renames (left_of k) (right_of k) in
    let s = replaces pairs l r f (subst (λ x. Subst pairs x f) same makes) in
    let left : left_of f ≡ s.0 = ap left_of s.2 ∙ pair.left s.0 s.1 in
    let right : right_of f ≡ s.1 = ap right_of s.2 ∙ pair.right s.0 s.1 in
    record { is = s.2 ∙ sym (λ i. make (left i) (right i)); makes_right = subst (λ x. Subst pairs r x) (sym right) s.4 }

equiv_pair : IsPair equiv
equiv_pair = record { left = λ l r. refl; right = λ l r. refl }

imply_pair : IsPair imply
imply_pair = record { left = λ l r. refl; right = λ l r. refl }

eq_pair : IsPair eq
eq_pair = record { left = λ l r. refl; right = λ l r. refl }

shaped : KidLaws → (form : AxiomForm) (pairs : List Pair) (renames : List (List ℕ × List ℕ)) (k f : Tree) → HasShape form k →
    Subst pairs (exchanged renames k) f → HasShape form f
shaped laws E pairs renames k f shape makes = (is_over equiv equiv_pair laws.exchanged_equiv laws.subst_equiv pairs renames k f shape makes).is
shaped laws Q pairs renames k f shape makes = (is_over eq eq_pair laws.exchanged_eq laws.subst_eq pairs renames k f shape makes).is
shaped laws C pairs renames k f shape makes =
    let o = is_over imply imply_pair laws.exchanged_imply laws.subst_imply pairs renames k f shape.0 makes in
    (o.is, (is_over equiv equiv_pair laws.exchanged_equiv laws.subst_equiv pairs renames (right_of k) (right_of f) shape.1 o.makes_right).is)
shaped laws R pairs renames k f shape makes =
    let o = is_over imply imply_pair laws.exchanged_imply laws.subst_imply pairs renames k f shape.0 makes in
    (o.is, (is_over eq eq_pair laws.exchanged_eq laws.subst_eq pairs renames (right_of k) (right_of f) shape.1 o.makes_right).is)
shaped laws I pairs renames k f shape makes = (is_over imply imply_pair laws.exchanged_imply laws.subst_imply pairs renames k f shape makes).is
shaped laws F pairs renames k f shape makes = tt

-- what a substitution makes is well made
subst_made : (pairs : List Pair) (e t : Tree) → Subst pairs e t → WellMade t
subst_made pairs (node op kids) t made = made.3

-- what is derived is well made, so it is what a substitution without pairs makes of it
module _ (formulas : (p : Provable) → Derives p → HasFormulas p) (nothing : (e : Tree) → WellMade e → Subst [] e e) (rows between : List Provable)
    (name : List ℕ) (extra : Extra) (a : Axiom) (named : axiom_named name ≡ Some a) (takes : Takes rows (instance (length rows) name extra) between) where
  instanced : Instantiates rows extra.pairs (exchanged extra.renames a.formula) between
  instanced =
      let g = exchanged extra.renames a.formula in
      instantiates rows between name extra a named
      (λ derived. nothing g (All-head IsFormula g [] (formulas (known g) derived).conclusion.succ).well_made) takes

  proves_instance : ProvesLast between instanced.f
  proves_instance = record { row = instanced.row; is_last = instanced.last; concludes = instanced.concludes }

  pub instance_shaped : KidLaws → (f : Tree) × ProvesLast between f × HasShape a.form f
  instance_shaped laws = (
    instanced.f,
    proves_instance,
    shaped laws a.form extra.pairs extra.renames a.formula instanced.f (axiom_shaped name a named) instanced.makes,
  )

  pub instance_made : (f : Tree) → ProvesLast between f → WellMade f
  instance_made f proves =
      subst WellMade (proves_one between instanced.f f proves_instance proves)
      (subst_made extra.pairs (exchanged extra.renames a.formula) instanced.f instanced.makes)
