-- Examples of derivatives, of trees that have none, and of plans.
use Rattle.std.specs.Prelude.{◌≡◌, ◌≢◌, ℕ, refl, List, [], ◌∷◌, true, false, None, codes}
use Rattle.dlk_tree.specs.declared.op.Num.{Num}
use Rattle.dlk_tree.specs.declared.op.Op.TheVariants as Op'
use Rattle.dlk_tree.specs.declared.op.Kind.TheVariants.{Func}
use Rattle.dlk_tree.specs.Trees.{Tree}
use Rattle.dlk_tree.specs.Statics.{plain, prime}
use Rattle.dlk_calculus.specs.Notation.{leaf, number, neg, add, sub, mul, div, pow, diff, eq, ne, ge, gt, le, lt, negation, conj, disj, diff_formula}
use Rattle.dlk_calculus.specs.Notation.{forall, exists}
use Rattle.dlk_derive.specs.Derivative.{IsDerivative, of_term, of_formula, variable, of_number, constant, negative, sum, difference, product, power}
use Rattle.dlk_derive.specs.Derivative.{equal, unequal, at_least, greater, at_most, less, both, either, all}
use Rattle.dlk_derive.specs.Decided.{has_derivative}
use Rattle.dlk_derive.specs.Plans.{Call, plan_at}

-- x, y and x', y'
abbrev x : Tree
x = leaf (Op'.Variable (plain (codes "x")))

abbrev y : Tree
y = leaf (Op'.Variable (plain (codes "y")))

abbrev x' : Tree
x' = leaf (Op'.Variable (prime (codes "x")))

abbrev y' : Tree
y' = leaf (Op'.Variable (prime (codes "y")))

-- c()
abbrev c : Tree
c = leaf (Op'.Apply (record { kind = Func; name = codes "c"; arity = 0; taboo = None }))

abbrev two : Num
two = record { digits = 2; scale = 0 }

abbrev use_at : List ℕ → List ℕ → Call
use_at name path = record { its_axiom = name; path = path }

-- ---- derivatives

-- (x^2+y)' is 2*x^(2-1)*x'+y'
of_sum : two.digits ≢ 0 → IsDerivative (diff (add (pow x (number 2)) y)) (add (mul (mul (number 2) (pow x (sub (number 2) (number 1)))) x') y')
of_sum h = of_term (sum (power two h (variable _)) (variable _))

-- (-x-c()*y)' is -x'-(0*y+c()*y')
of_difference : IsDerivative (diff (sub (neg x) (mul c y))) (sub (neg x') (add (mul (number 0) y) (mul c y')))
of_difference = of_term (difference (negative (variable _)) (product (constant _) (variable _)))

-- (\forall x (x!=y|x>3))' is \forall x (x'=y'&x'>=0)
of_quantifier : IsDerivative (diff_formula (forall (codes "x") (disj (ne x y) (gt x (number 3))))) (forall (codes "x") (conj (eq x' y') (ge x' (number 0))))
of_quantifier = of_formula (all _ (either (unequal (variable _) (variable _)) (greater (variable _) (of_number _))))

-- (x=y&x>=y)' is x'=y'&x'>=y'
of_equation : IsDerivative (diff_formula (conj (eq x y) (ge x y))) (conj (eq x' y') (ge x' y'))
of_equation = of_formula (both (equal (variable _) (variable _)) (at_least (variable _) (variable _)))

-- (x<=y&x<y)' is x'<=y'&x'<=y'
of_bounds : IsDerivative (diff_formula (conj (le x y) (lt x y))) (conj (le x' y') (le x' y'))
of_bounds = of_formula (both (at_most (variable _) (variable _)) (less (variable _) (variable _)))

-- ---- whether there is one

-- (x^2)'
square : has_derivative (diff (pow x (number 2))) ≡ true
square = refl

-- (x^0)', (x^y)', (x/y)' and (x')'
exponent_zero : has_derivative (diff (pow x (number 0))) ≡ false
exponent_zero = refl

exponent_variable : has_derivative (diff (pow x y)) ≡ false
exponent_variable = refl

quotient : has_derivative (diff (div x y)) ≡ false
quotient = refl

of_prime : has_derivative (diff x') ≡ false
of_prime = refl

-- (!x>=0)' and (\exists x x>=0)'
of_negation : has_derivative (diff_formula (negation (ge x (number 0)))) ≡ false
of_negation = refl

of_exists : has_derivative (diff_formula (exists (codes "x") (ge x (number 0)))) ≡ false
of_exists = refl

-- x, which is no `( )'`
without : has_derivative x ≡ false
without = refl

-- ---- plans

-- of the (x^2+y)' in (x^2+y)'>=0
first_kid : plan_at (add (pow x (number 2)) y) (0 ∷ [])
    ≡ use_at (codes "Dplus") (0 ∷ []) ∷ use_at (codes "Dpow") (0 ∷ 0 ∷ []) ∷ use_at (codes "Dvar") (0 ∷ 0 ∷ 1 ∷ []) ∷ use_at (codes "Dvar") (0 ∷ 1 ∷ []) ∷ []
first_kid = refl

-- of (-x-c()*y)'
whole : plan_at (sub (neg x) (mul c y)) []
    ≡ use_at (codes "Dminus") [] ∷ use_at (codes "Dneg") (0 ∷ []) ∷ use_at (codes "Dvar") (0 ∷ 0 ∷ []) ∷ use_at (codes "Dtimes") (1 ∷ [])
    ∷ use_at (codes "Dconst") (1 ∷ 0 ∷ 0 ∷ []) ∷ use_at (codes "Dvar") (1 ∷ 1 ∷ 1 ∷ []) ∷ []
whole = refl

-- of (\forall x (x!=y|x>3))'
quantified : plan_at (forall (codes "x") (disj (ne x y) (gt x (number 3)))) []
    ≡ use_at (codes "Dforall") [] ∷ use_at (codes "Dor") (0 ∷ []) ∷ use_at (codes "Dne") (0 ∷ 0 ∷ []) ∷ use_at (codes "Dvar") (0 ∷ 0 ∷ 0 ∷ [])
    ∷ use_at (codes "Dvar") (0 ∷ 0 ∷ 1 ∷ []) ∷ use_at (codes "Dgt") (0 ∷ 1 ∷ []) ∷ use_at (codes "Dvar") (0 ∷ 1 ∷ 0 ∷ [])
    ∷ use_at (codes "Dconst") (0 ∷ 1 ∷ 1 ∷ []) ∷ []
quantified = refl
