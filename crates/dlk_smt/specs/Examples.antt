-- Texts of sequents for a solver.
use Rattle.std.specs.Prelude.{◌≡◌, ℕ, true, false, List, [], ◌∷◌, ◌++◌, Some, None, codes, refl}
use Rattle.std.specs.Fmt.{digits}
use Rattle.dlk_tree.specs.declared.op.Kind.TheVariants.{Func}
use Rattle.dlk_tree.specs.declared.op.Op.TheVariants as op
use Rattle.dlk_tree.specs.Trees.{Tree}
use Rattle.dlk_tree.specs.Statics.{plain, prime}
use Rattle.dlk_calculus.specs.Notation.{leaf, one, two, number}
use Rattle.dlk_calculus.specs.Sequents.{Sequent, ◌==>◌}
use Rattle.dlk_smt.specs.Smt.{line, shown, expression, has_other_power, first_power, declared, smt, leaves_lines}

abbrev x : Tree
x = leaf (op.Variable (plain (codes "x")))

abbrev y : Tree
y = leaf (op.Variable (plain (codes "y")))

-- g()
abbrev constant : List ℕ → Tree
constant name = leaf (op.Apply (record { kind = Func; name = name; arity = 0; taboo = None }))

-- digits / 10 ^ scale
abbrev fraction : ℕ → ℕ → Tree
fraction digits scale = leaf (op.Number (record { digits = digits; scale = scale }))

abbrev is_positive : Tree → Tree
is_positive t = two op.Ge t (number 0)

-- x>=0 ==> x+1>=1
abbrev adds_one : Sequent
adds_one = is_positive x ∷ [] ==> two op.Ge (two op.Add x (number 1)) (number 1) ∷ []

abbrev text_of_adds_one : List ℕ
text_of_adds_one = line (codes "(set-logic NRA)") ++ (line (codes "(declare-const |v.x| Real)") ++ (line (codes "(assert (>= |v.x| 0.0))")
    ++ (line (codes "(assert (not (>= (+ |v.x| 1.0) 1.0)))") ++ line (codes "(check-sat)"))))

one_sequent : smt adds_one ≡ text_of_adds_one
unfolding digits
one_sequent = refl

-- two leaves: the second begins with (reset)
two_leaves : leaves_lines 1 (adds_one ∷ adds_one ∷ [])
    ≡ line (codes "; leaf 1") ++ (text_of_adds_one ++ (line (codes "; leaf 2") ++ (line (codes "(reset)") ++ text_of_adds_one)))
unfolding digits
two_leaves = refl

-- no leaf, no text
no_leaf : leaves_lines 1 [] ≡ []
no_leaf = refl

-- the sequent without formulas
no_formula : smt ([] ==> []) ≡ line (codes "(set-logic NRA)") ++ line (codes "(check-sat)")
no_formula = refl

-- ---- powers

squares : shown (expression (is_positive (two op.Pow x (number 2)))) ≡ codes "(>= (let ((|e| |v.x|)) (* |e| |e|)) 0.0)"
unfolding digits
squares = refl

first_powers : shown (expression (two op.Pow x (number 1))) ≡ codes "|v.x|"
first_powers = refl

-- (x^2)^3
nested_powers : shown (expression (two op.Pow (two op.Pow x (number 2)) (number 3))) ≡ codes "(let ((|e| (let ((|e| |v.x|)) (* |e| |e|)))) (* |e| |e| |e|))"
nested_powers = refl

sixteenth_power : has_other_power (two op.Pow x (number 16)) ≡ false
sixteenth_power = refl

seventeenth_power : has_other_power (two op.Pow x (number 17)) ≡ true
seventeenth_power = refl

zeroth_power : has_other_power (two op.Pow x (number 0)) ≡ true
zeroth_power = refl

-- x^1.5, x^y and x^(1+1)
root_power : has_other_power (two op.Pow x (fraction 15 1)) ≡ true
root_power = refl

variable_power : has_other_power (two op.Pow x y) ≡ true
variable_power = refl

computed_power : has_other_power (two op.Pow x (two op.Add (number 1) (number 1))) ≡ true
computed_power = refl

-- the second of two leaves is the first with such a power
power_behind : first_power 1 (adds_one ∷ ([] ==> is_positive (two op.Pow x y) ∷ []) ∷ []) ≡ Some 2
power_behind = refl

-- ---- the other operators

-- -x/1.5-x*y
terms : shown (expression (two op.Sub (two op.Div (one op.Neg x) (fraction 15 1)) (two op.Mul x y))) ≡ codes "(- (/ (- |v.x|) 1.5) (* |v.x| |v.y|))"
unfolding digits
terms = refl

-- x=y&x!=y|!x>y <-> x<=y -> x < y
comparisons : shown (expression (two op.Equiv
    (two op.Or (two op.And (two op.Eq x y) (two op.Ne x y)) (one op.Not (two op.Gt x y)))
    (two op.Imply (two op.Le x y) (two op.Lt x y))))
    ≡ codes "(= (or (and (= |v.x| |v.y|) (not (= |v.x| |v.y|))) (not (> |v.x| |v.y|))) (=> (<= |v.x| |v.y|) (< |v.x| |v.y|)))"
comparisons = refl

-- \forall x (true&\exists y false)
quantifiers : shown (expression (one (op.Forall (codes "x")) (two op.And (leaf op.True) (one (op.Exists (codes "y")) (leaf op.False)))))
    ≡ codes "(forall ((|v.x| Real)) (and true (exists ((|v.y| Real)) false)))"
quantifiers = refl

-- ---- declarations

-- y'=x ==> \forall y y>=g(), f()=g() declares x, y', f and g, each once, and not y, which is bound
abbrev declares_once : Sequent
declares_once = two op.Eq (leaf (op.Variable (prime (codes "y")))) x ∷ []
    ==> one (op.Forall (codes "y")) (two op.Ge y (constant (codes "g"))) ∷ two op.Eq (constant (codes "f")) (constant (codes "g")) ∷ []

declares : declared declares_once ≡ codes "|v.x|" ∷ codes "|v.y'|" ∷ codes "|f.f|" ∷ codes "|f.g|" ∷ []
declares = refl

-- a variable that is free in one formula and bound in another is declared; the unprimed comes first
abbrev free_and_bound : Sequent
free_and_bound = is_positive (leaf (op.Variable (prime (codes "y")))) ∷ one (op.Exists (codes "y")) (is_positive y) ∷ [] ==> is_positive y ∷ []

free_is_declared : declared free_and_bound ≡ codes "|v.y|" ∷ codes "|v.y'|" ∷ []
free_is_declared = refl
