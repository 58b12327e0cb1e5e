-- A tree has a derivative where the test says so, and nowhere else.
use Rattle.std.proofs.Common.{◌≡◌, refl, sym, subst, ℕ, length, Bool, true, false, ◌&&◌, not, ◌==◌, cond, ◌⊎◌, inl, inr, arith}
use Rattle.std.proofs.lemmas.Bool.{and_parts, and_from, eqb-true}
use Rattle.dlk_tree.specs.declared.op.Op.{Op}
use Rattle.dlk_tree.specs.declared.op.Op.TheVariants as Op'
use Rattle.dlk_tree.specs.declared.op.Var.{Var}
use Rattle.dlk_tree.specs.Statics.{prime}
use Rattle.dlk_tree.specs.Table.{kid_sorts}
use Rattle.dlk_tree.specs.Trees.{Tree, node, Forest, no_kids, kid, sorts}
use Rattle.dlk_calculus.specs.Notation.{leaf, number, neg, add, sub, mul, pow, eq, ge, le, conj, forall}
use Rattle.dlk_derive.specs.Derivative.{OfTerm, variable, of_number, constant, negative, sum, difference, product, power}
use Rattle.dlk_derive.specs.Derivative.{OfFormula, equal, unequal, at_least, greater, at_most, less, both, either, all}
use Rattle.dlk_derive.specs.Derivative.{IsDerivative, of_term, of_formula}
use Rattle.dlk_derive.specs.Decided.{is_bare, has_all_kids, is_exponent, joins_terms, is_derivable, are_derivable, is_comparison, joins_formulas}
use Rattle.dlk_derive.specs.Decided.{is_derivable_formula, are_derivable_formulas, has_derivative}

-- ---- kids of this number

with_none : (kids : Forest) → length (sorts kids) ≡ 0 → (P : Forest → Type 0) → P no_kids → P kids
with_none no_kids n P h = h
with_none (kid t rest) n P h = absurd (omega arith)

with_one : (kids : Forest) → length (sorts kids) ≡ 1 → (P : Forest → Type 0) → ((t : Tree) → P (kid t no_kids)) → P kids
with_one no_kids n P h = absurd (omega arith)
with_one (kid t no_kids) n P h = h t
with_one (kid t (kid u rest)) n P h = absurd (omega arith)

with_two : (kids : Forest) → length (sorts kids) ≡ 2 → (P : Forest → Type 0) → ((t u : Tree) → P (kid t (kid u no_kids))) → P kids
with_two no_kids n P h = absurd (omega arith)
with_two (kid t no_kids) n P h = absurd (omega arith)
with_two (kid t (kid u no_kids)) n P h = h t u
with_two (kid t (kid u (kid v rest))) n P h = absurd (omega arith)

-- ---- terms

-- those of a function that has a derivative are none
abbrev kid_count : Op → ℕ
kid_count (Op'.Apply s) = 0
kid_count op = length (kid_sorts op)

abbrev HasTerm : Tree → Type 0
HasTerm t = (d : Tree) × OfTerm t d

abbrev HaveTerms : Forest → Type 0
HaveTerms no_kids = Unit {0}
HaveTerms (kid t rest) = HasTerm t × HaveTerms rest

of_variable : (v : Var) → not v.primed ≡ true → HasTerm (leaf (Op'.Variable v))
of_variable v h = go v.primed refl h
  where
    go : (b : Bool) → v.primed ≡ b → not b ≡ true → HasTerm (leaf (Op'.Variable v))
    go true e h = cc
    go false e h =
        let slope = leaf (Op'.Variable (prime v.name)) in
        (slope, subst (λ b. OfTerm (leaf (Op'.Variable (record v { primed = b }))) slope) (sym e) (variable v.name))

not_zero : (n : ℕ) → not (n == 0) ≡ true → n ≡ 0 → ⊥
not_zero n h e = let f : not (0 == 0) ≡ true = subst (λ m. not (m == 0) ≡ true) e h in cc

of_power : {k dk : Tree} (a : Tree) → is_exponent k ≡ true → OfTerm k dk → HasTerm a → HasTerm (pow a k)
of_power a e (of_number k) h = (_, power k (not_zero k.digits e) h.1)
of_power a e _ h = cc

bare : (kids : Forest) → is_bare kids ≡ true → length (sorts kids) ≡ 0
bare no_kids h = refl
bare (kid t rest) h = cc

counted : (op : Op) (kids : Forest) → has_all_kids op kids ≡ true → joins_terms op kids ≡ true → length (sorts kids) ≡ kid_count op
counted (Op'.Apply s) kids h j = bare kids j
counted _ kids h j = eqb-true _ _ h

of_kids : (op : Op) (kids : Forest) → length (sorts kids) ≡ kid_count op → joins_terms op kids ≡ true → HaveTerms kids → HasTerm (node op kids)
of_kids (Op'.Variable v) kids n j hs = with_none kids n (λ ks. HasTerm (node (Op'.Variable v) ks)) (of_variable v j)
of_kids (Op'.Number k) kids n j hs = with_none kids n (λ ks. HasTerm (node (Op'.Number k) ks)) (number 0, of_number k)
of_kids (Op'.Apply s) kids n j hs =
    with_none kids n (λ ks. HasTerm (node (Op'.Apply s) ks)) (number 0, constant s)
of_kids Op'.Neg kids n j hs =
    with_one kids n (λ ks. HaveTerms ks → HasTerm (node Op'.Neg ks)) (λ t h. (neg h.0.0, negative h.0.1)) hs
of_kids Op'.Add kids n j hs =
    with_two kids n (λ ks. HaveTerms ks → HasTerm (node Op'.Add ks)) (λ t u h. (add h.0.0 h.1.0.0, sum h.0.1 h.1.0.1)) hs
of_kids Op'.Sub kids n j hs =
    with_two kids n (λ ks. HaveTerms ks → HasTerm (node Op'.Sub ks)) (λ t u h. (sub h.0.0 h.1.0.0, difference h.0.1 h.1.0.1)) hs
of_kids Op'.Mul kids n j hs =
    with_two kids n (λ ks. HaveTerms ks → HasTerm (node Op'.Mul ks)) (λ t u h. (add (mul h.0.0 u) (mul t h.1.0.0), product h.0.1 h.1.0.1)) hs
of_kids Op'.Pow kids n j hs =
    with_two kids n (λ ks. joins_terms Op'.Pow ks ≡ true → HaveTerms ks → HasTerm (node Op'.Pow ks)) (λ t u e h. of_power t e h.1.0.1 h.0) j hs
of_kids _ kids n j hs = cc

mutual
  pub found_term : (t : Tree) → is_derivable t ≡ true → HasTerm t
  found_term (node op kids) h =
      let p = and_parts _ _ h in let q = and_parts _ _ p.1 in of_kids op kids (counted op kids q.0 p.0) p.0 (found_terms kids q.1)

  found_terms : (kids : Forest) → are_derivable kids ≡ true → HaveTerms kids
  found_terms no_kids h = tt
  found_terms (kid t rest) h = let p = and_parts _ _ h in (found_term t p.0, found_terms rest p.1)

other_than_zero : (n : ℕ) → (n ≡ 0 → ⊥) → not (n == 0) ≡ true
other_than_zero n h = go (n == 0) refl
  where
    go : (b : Bool) → (n == 0) ≡ b → not b ≡ true
    go true e = absurd (h (eqb-true n 0 e))
    go false e = refl

pub tested_term : {t d : Tree} → OfTerm t d → is_derivable t ≡ true
tested_term (variable x) = refl
tested_term (of_number k) = refl
tested_term (constant s) = refl
tested_term (negative a) = and_from _ _ (tested_term a) refl
tested_term (sum a b) = and_from _ _ (tested_term a) (and_from _ _ (tested_term b) refl)
tested_term (difference a b) = and_from _ _ (tested_term a) (and_from _ _ (tested_term b) refl)
tested_term (product a b) = and_from _ _ (tested_term a) (and_from _ _ (tested_term b) refl)
tested_term (power k n a) = and_from _ _ (other_than_zero k.digits n) (and_from _ _ (tested_term a) refl)

-- ---- formulas

abbrev HasFormula : Tree → Type 0
HasFormula t = (d : Tree) × OfFormula t d

abbrev HaveFormulas : Forest → Type 0
HaveFormulas no_kids = Unit {0}
HaveFormulas (kid t rest) = HasFormula t × HaveFormulas rest

of_comparison : (op : Op) (kids : Forest) → is_comparison op ≡ true → has_all_kids op kids ≡ true → HaveTerms kids → HasFormula (node op kids)
of_comparison Op'.Eq kids c n hs =
    with_two kids (eqb-true _ _ n) (λ ks. HaveTerms ks → HasFormula (node Op'.Eq ks)) (λ t u h. (eq h.0.0 h.1.0.0, equal h.0.1 h.1.0.1)) hs
of_comparison Op'.Ne kids c n hs =
    with_two kids (eqb-true _ _ n) (λ ks. HaveTerms ks → HasFormula (node Op'.Ne ks)) (λ t u h. (eq h.0.0 h.1.0.0, unequal h.0.1 h.1.0.1)) hs
of_comparison Op'.Ge kids c n hs =
    with_two kids (eqb-true _ _ n) (λ ks. HaveTerms ks → HasFormula (node Op'.Ge ks)) (λ t u h. (ge h.0.0 h.1.0.0, at_least h.0.1 h.1.0.1)) hs
of_comparison Op'.Gt kids c n hs =
    with_two kids (eqb-true _ _ n) (λ ks. HaveTerms ks → HasFormula (node Op'.Gt ks)) (λ t u h. (ge h.0.0 h.1.0.0, greater h.0.1 h.1.0.1)) hs
of_comparison Op'.Le kids c n hs =
    with_two kids (eqb-true _ _ n) (λ ks. HaveTerms ks → HasFormula (node Op'.Le ks)) (λ t u h. (le h.0.0 h.1.0.0, at_most h.0.1 h.1.0.1)) hs
of_comparison Op'.Lt kids c n hs =
    with_two kids (eqb-true _ _ n) (λ ks. HaveTerms ks → HasFormula (node Op'.Lt ks)) (λ t u h. (le h.0.0 h.1.0.0, less h.0.1 h.1.0.1)) hs
of_comparison _ kids c n hs = cc

of_connective : (op : Op) (kids : Forest) → joins_formulas op ≡ true → has_all_kids op kids ≡ true → HaveFormulas kids → HasFormula (node op kids)
of_connective Op'.And kids j n hs =
    with_two kids (eqb-true _ _ n) (λ ks. HaveFormulas ks → HasFormula (node Op'.And ks)) (λ t u h. (conj h.0.0 h.1.0.0, both h.0.1 h.1.0.1)) hs
of_connective Op'.Or kids j n hs =
    with_two kids (eqb-true _ _ n) (λ ks. HaveFormulas ks → HasFormula (node Op'.Or ks)) (λ t u h. (conj h.0.0 h.1.0.0, either h.0.1 h.1.0.1)) hs
of_connective (Op'.Forall x) kids j n hs =
    with_one kids (eqb-true _ _ n) (λ ks. HaveFormulas ks → HasFormula (node (Op'.Forall x) ks)) (λ t h. (forall x h.0.0, all x h.0.1)) hs
of_connective _ kids j n hs = cc

-- a comparison of terms, or a connective or a quantifier over formulas
abbrev pub ByKind : Op → Forest → Type 0
ByKind op kids =
    ((is_comparison op ≡ true) × (has_all_kids op kids ≡ true) × (are_derivable kids ≡ true))
    ⊎ ((joins_formulas op ≡ true) × (has_all_kids op kids ≡ true) × (are_derivable_formulas kids ≡ true))

-- the test says so, where its first question is answered
abbrev Says : Op → Forest → Bool → Type 0
Says op kids b = cond b (has_all_kids op kids && are_derivable kids) (joins_formulas op && (has_all_kids op kids && are_derivable_formulas kids)) ≡ true

pub by_kind : (op : Op) (kids : Forest) → is_derivable_formula (node op kids) ≡ true → ByKind op kids
by_kind op kids h = go (is_comparison op) refl
  where
    go : (b : Bool) → is_comparison op ≡ b → ByKind op kids
    go true c = let p = and_parts _ _ (subst (Says op kids) c h) in inl (c, p.0, p.1)
    go false c =
        let p = and_parts _ _ (subst (Says op kids) c h) in
        let q = and_parts _ _ p.1 in inr (p.0, q.0, q.1)

mutual
  pub found_formula : (t : Tree) → is_derivable_formula t ≡ true → HasFormula t
  found_formula (node op kids) h = elim (by_kind op kids h) as (λ _. HasFormula (node op kids)) [
    | inl p ↦ of_comparison op kids p.0 p.1 (found_terms kids p.2)
    | inr p ↦ of_connective op kids p.0 p.1 (found_formulas kids p.2)
  ]

  found_formulas : (kids : Forest) → are_derivable_formulas kids ≡ true → HaveFormulas kids
  found_formulas no_kids h = tt
  found_formulas (kid t rest) h = let p = and_parts _ _ h in (found_formula t p.0, found_formulas rest p.1)

pub tested_formula : {f d : Tree} → OfFormula f d → is_derivable_formula f ≡ true
tested_formula (equal a b) = and_from _ _ (tested_term a) (and_from _ _ (tested_term b) refl)
tested_formula (unequal a b) = and_from _ _ (tested_term a) (and_from _ _ (tested_term b) refl)
tested_formula (at_least a b) = and_from _ _ (tested_term a) (and_from _ _ (tested_term b) refl)
tested_formula (greater a b) = and_from _ _ (tested_term a) (and_from _ _ (tested_term b) refl)
tested_formula (at_most a b) = and_from _ _ (tested_term a) (and_from _ _ (tested_term b) refl)
tested_formula (less a b) = and_from _ _ (tested_term a) (and_from _ _ (tested_term b) refl)
tested_formula (both f g) = and_from _ _ (tested_formula f) (and_from _ _ (tested_formula g) refl)
tested_formula (either f g) = and_from _ _ (tested_formula f) (and_from _ _ (tested_formula g) refl)
tested_formula (all x f) = and_from _ _ (tested_formula f) refl

-- ---- the whole

of_differential : (op : Op) (kids : Forest) → has_derivative (node op kids) ≡ true → (d : Tree) × IsDerivative (node op kids) d
of_differential Op'.Diff kids h =
    let p = and_parts _ _ h in
    with_one kids (eqb-true _ _ p.0) (λ ks. HaveTerms ks → (d : Tree) × IsDerivative (node Op'.Diff ks) d) (λ t hs. (hs.0.0, of_term hs.0.1))
    (found_terms kids p.1)
of_differential Op'.DiffF kids h =
    let p = and_parts _ _ h in
    with_one kids (eqb-true _ _ p.0) (λ ks. HaveFormulas ks → (d : Tree) × IsDerivative (node Op'.DiffF ks) d)
    (λ t hs. (hs.0.0, of_formula hs.0.1)) (found_formulas kids p.1)
of_differential _ kids h = cc

pub found : (t : Tree) → has_derivative t ≡ true → (d : Tree) × IsDerivative t d
found (node op kids) h = of_differential op kids h

pub tested : {t d : Tree} → IsDerivative t d → has_derivative t ≡ true
tested (of_term h) = and_from _ _ (tested_term h) refl
tested (of_formula h) = and_from _ _ (tested_formula h) refl
