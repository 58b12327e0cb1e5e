-- Unlike variables and functions have unlike symbols.
use Rattle.std.proofs.Common.{◌≡◌, ℕ, Bool, true, false, ◌&&◌, List, [], ◌∷◌, ◌++◌, get_or, drop, cond, refl, sym, ap, ◌∙◌, append_assoc, arith}
use Rattle.std.specs.List.{list_all}
use Rattle.std.proofs.lemmas.List.{append_cancel_right}
use Rattle.std.proofs.Math.Bool.{and-false}
use Rattle.dlk_tree.specs.Names.{is_name, is_name_byte}
use Rattle.dlk_tree.specs.declared.op.Var.{Var}
use Rattle.dlk_smt.specs.Smt.{variable_symbol, function_symbol, base_symbol}

pub and_left : (a b : Bool) → (a && b) ≡ true → a ≡ true
and_left true b e = refl
and_left false b e = e

pub and_right : (a b : Bool) → (a && b) ≡ true → b ≡ true
and_right true b e = e
and_right false b e = absurd cc

-- no name ends in a prime
quote_last : (bs : List ℕ) → list_all is_name_byte (bs ++ 39 ∷ []) ≡ false
quote_last [] = refl
quote_last (b ∷ bs) = ap (λ r. is_name_byte b && r) (quote_last bs) ∙ and-false (is_name_byte b)

no_quote : (n : List ℕ) → is_name (n ++ 39 ∷ []) ≡ true → ⊥
no_quote [] h = absurd cc
no_quote (b ∷ bs) h =
    let all = and_right _ _ (and_left _ _ (and_left _ _ h)) in
    let wrong : false ≡ true = sym (quote_last bs) ∙ all in
    absurd cc

abbrev bar : Bool → List ℕ
bar p = cond p (39 ∷ 124 ∷ []) (124 ∷ [])

one_name : (p q : Bool) (n m : List ℕ) → is_name n ≡ true → is_name m ≡ true → n ++ bar p ≡ m ++ bar q → (n ≡ m) × (p ≡ q)
one_name true true n m g h e = (append_cancel_right n m (39 ∷ 124 ∷ []) e, refl)
one_name false false n m g h e = (append_cancel_right n m (124 ∷ []) e, refl)
one_name true false n m g h e =
    let same = append_cancel_right (n ++ 39 ∷ []) m (124 ∷ []) (append_assoc n (39 ∷ []) (124 ∷ []) ∙ e) in
    absurd (no_quote n (ap is_name same ∙ h))
one_name false true n m g h e =
    let same = append_cancel_right (m ++ 39 ∷ []) n (124 ∷ []) (append_assoc m (39 ∷ []) (124 ∷ []) ∙ sym e) in
    absurd (no_quote m (ap is_name same ∙ g))

pub one_variable : (v w : Var) → is_name v.name ≡ true → is_name w.name ≡ true → variable_symbol v ≡ variable_symbol w → v ≡ w
one_variable v w g h e =
    let same = one_name v.primed w.primed v.name w.name g h (ap (drop 3) e) in
    λ i. record { name = same.0 i; primed = same.1 i }

pub one_function : (g h : List ℕ) → function_symbol g ≡ function_symbol h → g ≡ h
one_function g h e = append_cancel_right g h (124 ∷ []) (ap (drop 3) e)

abbrev second : List ℕ → ℕ
second l = get_or l 1 0

pub variable_no_function : (v : Var) (g : List ℕ) → variable_symbol v ≡ function_symbol g → ⊥
variable_no_function v g e = let wrong : 118 ≡ 102 = ap second e in absurd (omega (arith, wrong))

pub base_no_variable : (v : Var) → base_symbol ≡ variable_symbol v → ⊥
base_no_variable v e = let wrong : 101 ≡ 118 = ap second e in absurd (omega (arith, wrong))

pub base_no_function : (g : List ℕ) → base_symbol ≡ function_symbol g → ⊥
base_no_function g e = let wrong : 101 ≡ 102 = ap second e in absurd (omega (arith, wrong))
