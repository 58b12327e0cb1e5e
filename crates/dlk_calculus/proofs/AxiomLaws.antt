-- The axioms and the axiomatic rules are made of formulas.
use Rattle.std.proofs.Common.{◌≡◌, refl, Bool, true, false, ◌&&◌, not, subst, cond, ℕ, List, [], ◌∷◌, map, Some, find}
use Rattle.std.specs.Prelude.{IsTrue, nat_le}
use Rattle.std.proofs.lemmas.Bool.{leb-true, and_parts}
use Rattle.std.specs.Str.{bytes_eq}
use Rattle.std.proofs.lemmas.Option.{none-some, same_Some}
use Rattle.std.specs.List.{All, list_all}
use Rattle.std.specs.Cmp.Lexicographic.{pointwise}
use Rattle.std.proofs.lemmas.List.Elements.{All-cons, All-nil, All-head, All-tail}
use Rattle.dlk_tree.specs.declared.op.Sort.TheVariants.{Formula}
use Rattle.dlk_tree.specs.contracts.op.SortPartialEq.TheImpl as SortEq
use Rattle.dlk_tree.specs.Table.{kid_sorts, has_parts}
use Rattle.dlk_tree.specs.Trees.{Tree, node, Forest, no_kids, kid, sort, sorts, size, depth, WellMade, AllWellMade}
use Rattle.dlk_tree.specs.Occurs.{has_dots, has_hole}
use Rattle.dlk_tree.proofs.Same.{sort_decides, sorts_decides}
use Rattle.dlk_calculus.specs.Axioms.{Axiom, AxiomaticRule, axioms, axiom_named, axiomatic_rules, rule_named}
use Rattle.dlk_calculus.specs.Sequents.{IsFormula}
use Rattle.dlk_calculus.specs.Limits.{most_nodes, greatest_depth, IsSmall, IsShallow}

-- the test of a well-made tree
abbrev mutual
  is_made : Tree → Bool
  is_made (node op kids) = (pointwise SortEq.ghosts.eq (sorts kids) (kid_sorts op) && has_parts op) && are_made kids

  are_made : Forest → Bool
  are_made no_kids = true
  are_made (kid t rest) = is_made t && are_made rest

not_true : (b : Bool) → not b ≡ true → b ≡ false
not_true true e = cc
not_true false e = refl

mutual
  made : (t : Tree) → IsTrue (is_made t) → WellMade t
  made (node op kids) h =
      let all = and_parts (pointwise SortEq.ghosts.eq (sorts kids) (kid_sorts op) && has_parts op) (are_made kids) h in
      let fits = and_parts (pointwise SortEq.ghosts.eq (sorts kids) (kid_sorts op)) (has_parts op) all.0 in
      (record { kids_fit = (sorts_decides (sorts kids) (kid_sorts op)).0 fits.0; parts_fit = fits.1 }, all_made kids all.1)

  all_made : (ts : Forest) → IsTrue (are_made ts) → AllWellMade ts
  all_made no_kids h = tt
  all_made (kid t rest) h = let both = and_parts (is_made t) (are_made rest) h in (made t both.0, all_made rest both.1)

abbrev is_formula : Tree → Bool
is_formula t = (is_made t && SortEq.ghosts.eq (sort t) Formula) && (not (has_dots t) && not (has_hole t))

formula : (t : Tree) → IsTrue (is_formula t) → IsFormula t
formula t h =
    let halves = and_parts (is_made t && SortEq.ghosts.eq (sort t) Formula) (not (has_dots t) && not (has_hole t)) h in
    let shape = and_parts (is_made t) (SortEq.ghosts.eq (sort t) Formula) halves.0 in
    let none = and_parts (not (has_dots t)) (not (has_hole t)) halves.1 in
    record {
      well_made = made t shape.0;
      sort_is = (sort_decides (sort t) Formula).0 shape.1;
      no_dot = not_true (has_dots t) none.0;
      no_hole = not_true (has_hole t) none.1;
    }

all_formulas : (ts : List Tree) → IsTrue (list_all is_formula ts) → All IsFormula ts
all_formulas [] h = All-nil IsFormula
all_formulas (t ∷ ts) h = let both = and_parts (is_formula t) (list_all is_formula ts) h in All-cons IsFormula t ts (formula t both.0) (all_formulas ts both.1)

pub axioms_formulas : All IsFormula (map (λ (a : Axiom). a.formula) axioms)
axioms_formulas = all_formulas (map (λ (a : Axiom). a.formula) axioms) refl

pub premises_formulas : All IsFormula (map (λ (r : AxiomaticRule). r.premise) axiomatic_rules)
premises_formulas = all_formulas (map (λ (r : AxiomaticRule). r.premise) axiomatic_rules) refl

pub conclusions_formulas : All IsFormula (map (λ (r : AxiomaticRule). r.conclusion) axiomatic_rules)
conclusions_formulas = all_formulas (map (λ (r : AxiomaticRule). r.conclusion) axiomatic_rules) refl

-- what is found in a list has what all its items have
found_has : {A : Type 0} (P : A → Type 0) (test : A → Bool) (xs : List A) (x : A) → All P xs → find test xs ≡ Some x → P x
found_has P test [] x all e = absurd (none-some x e)
found_has P test (y ∷ xs) x all e = go (λ h. found_has P test xs x (All-tail P y xs all) h) (test y) e
  where
    go : (find test xs ≡ Some x → P x) → (b : Bool) → cond b (Some y) (find test xs) ≡ Some x → P x
    go rest true h = subst P (same_Some y x h) (All-head P y xs all)
    go rest false h = rest h

all_of_map : {A B : Type 0} (P : B → Type 0) (f : A → B) (xs : List A) → All P (map f xs) → All (λ x. P (f x)) xs
all_of_map P f [] h = All-nil (λ x. P (f x))
all_of_map P f (x ∷ xs) h = All-cons (λ x. P (f x)) x xs (All-head P (f x) (map f xs) h) (all_of_map P f xs (All-tail P (f x) (map f xs) h))

pub axiom_formula : (name : List ℕ) (a : Axiom) → axiom_named name ≡ Some a → IsFormula a.formula
axiom_formula name a e =
    found_has (λ (x : Axiom). IsFormula x.formula) (λ (x : Axiom). bytes_eq x.name name) axioms a
    (all_of_map IsFormula (λ (x : Axiom). x.formula) axioms axioms_formulas) e

pub rule_formulas : (name : List ℕ) (r : AxiomaticRule) → rule_named name ≡ Some r → IsFormula r.premise × IsFormula r.conclusion
rule_formulas name r e = (
  found_has (λ (x : AxiomaticRule). IsFormula x.premise) (λ (x : AxiomaticRule). bytes_eq x.name name) axiomatic_rules r
      (all_of_map IsFormula (λ (x : AxiomaticRule). x.premise) axiomatic_rules premises_formulas) e,
  found_has (λ (x : AxiomaticRule). IsFormula x.conclusion) (λ (x : AxiomaticRule). bytes_eq x.name name) axiomatic_rules r
      (all_of_map IsFormula (λ (x : AxiomaticRule). x.conclusion) axiomatic_rules conclusions_formulas) e,
)

-- ---- none of them is too big or too deep

abbrev IsSized : Tree → Type 0
IsSized t = IsSmall t × IsShallow t

abbrev is_sized : Tree → Bool
is_sized t = nat_le (size t) most_nodes && nat_le (depth t) greatest_depth

all_sized : (ts : List Tree) → IsTrue (list_all is_sized ts) → All IsSized ts
all_sized [] h = All-nil IsSized
all_sized (t ∷ ts) h =
    let both = and_parts (is_sized t) (list_all is_sized ts) h in
    let own = and_parts (nat_le (size t) most_nodes) (nat_le (depth t) greatest_depth) both.0 in
    All-cons IsSized t ts (leb-true (size t) most_nodes own.0, leb-true (depth t) greatest_depth own.1) (all_sized ts both.1)

pub axiom_sized : (name : List ℕ) (a : Axiom) → axiom_named name ≡ Some a → IsSmall a.formula × IsShallow a.formula
axiom_sized name a e =
    found_has (λ (x : Axiom). IsSized x.formula) (λ (x : Axiom). bytes_eq x.name name) axioms a
    (all_of_map IsSized (λ (x : Axiom). x.formula) axioms (all_sized (map (λ (x : Axiom). x.formula) axioms) refl)) e

pub rule_sized : (name : List ℕ) (r : AxiomaticRule) → rule_named name ≡ Some r → (IsSmall r.premise × IsShallow r.premise)
    × (IsSmall r.conclusion × IsShallow r.conclusion)
rule_sized name r e = (
  found_has (λ (x : AxiomaticRule). IsSized x.premise) (λ (x : AxiomaticRule). bytes_eq x.name name) axiomatic_rules r
      (all_of_map IsSized (λ (x : AxiomaticRule). x.premise) axiomatic_rules (all_sized (map (λ (x : AxiomaticRule). x.premise) axiomatic_rules) refl)) e,
  found_has (λ (x : AxiomaticRule). IsSized x.conclusion) (λ (x : AxiomaticRule). bytes_eq x.name name) axiomatic_rules r
      (all_of_map IsSized (λ (x : AxiomaticRule). x.conclusion) axiomatic_rules (all_sized (map (λ (x : AxiomaticRule). x.conclusion) axiomatic_rules) refl)) e,
)
