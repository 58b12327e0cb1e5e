-- Examples of the guard, by computation. For each clause there is an instance that breaks it alone, and one beside it that doesn't.
use Rattle.std.specs.Prelude.{◌≡◌, ℕ, refl, List, [], ◌∷◌, ◌++◌, true, false, Option, Some, None, codes}
use Rattle.dlk_tree.specs.declared.op.Sym.{Sym}
use Rattle.dlk_tree.specs.declared.op.Kind.TheVariants.{Func, Ode, Quant}
use Rattle.dlk_tree.specs.declared.op.OdeItem.{OdeItem}
use Rattle.dlk_tree.specs.declared.op.Op.TheVariants as Op'
use Rattle.dlk_tree.specs.Trees.{Tree, node, no_kids, kid}
use Rattle.dlk_tree.specs.Statics.{plain, prime}
use Rattle.dlk_calculus.specs.Notation.{leaf, number, add, mul, div, pow, neg, diff, eq, ne, ge, gt, le, lt, negation, conj, disj, diff_formula}
use Rattle.dlk_calculus.specs.Notation.{forall, exists, box, test, assign, assign_primed, system, evolve, c_item, p0}
use Rattle.dlk_calculus.specs.Rules.{imply, equiv}
use Rattle.dlk_calculus.specs.Sequents.{alone_right}
use Rattle.dlk_calculus.specs.Steps.{Step, Start, UseAxiom, UseRule, Leaf, Merge, Substitute, Rename}
use Rattle.dlk_guard.specs.declared.why.Why.{Why}
use Rattle.dlk_guard.specs.declared.why.Why.TheVariants.{OdeConstant, NotSmooth, NotEvolved, Primed, GhostNotSmooth, DifferentialContext, Dforall, RawFact}
use Rattle.dlk_guard.specs.declared.guard.Refusal.{Refusal}
use Rattle.dlk_guard.specs.Instances.{di_why, dg_why}
use Rattle.dlk_guard.specs.Guarded.{Line, has_hole_in_differential}
use Rattle.dlk_guard.specs.Watched.{watch_of, verdict}

abbrev the : List ℕ → Tree
the x = leaf (Op'.Variable (plain x))

abbrev new : List ℕ → Tree
new x = leaf (Op'.Variable (prime x))

abbrev xs : List ℕ
xs = codes "x"

abbrev bs : List ℕ
bs = codes "B"

abbrev ys : List ℕ
ys = codes "y"

abbrev x : Tree
x = the xs

abbrev b : Tree
b = the bs

abbrev function : ℕ → Sym
function arity = record { kind = Func; name = codes "f"; arity = arity; taboo = None }

-- f() and f(x)
abbrev f0 : Tree
f0 = leaf (Op'.Apply (function 0))

abbrev f_of_x : Tree
f_of_x = node (Op'.Apply (function 1)) (kid x no_kids)

-- 0.5
abbrev half : Tree
half = leaf (Op'.Number (record { digits = 5; scale = 1 }))

abbrev truth : Tree
truth = leaf Op'.True

abbrev zero : Tree
zero = number 0

-- x>=0
abbrev low : Tree
low = ge x zero

-- ---- instances of DI

-- (q -> [{S&q}](p)') -> ([{S&q}]p <-> [?q;]p)
abbrev di : List OdeItem → List Tree → Tree → Tree → Tree
di items sides q p = imply (imply q (box (system items sides q) (diff_formula p))) (equiv (box (system items sides q) p) (box (test q) p))

-- of {x'=1&q}
abbrev di_of : Tree → Tree → Tree
di_of q p = di (evolve xs ∷ []) (number 1 ∷ []) q p

good : di_why (di_of truth low) ≡ None
good = refl

-- No ODE constant is left: {c,x'=1} has one.
constant_left : di_why (di (c_item ∷ evolve xs ∷ []) (number 1 ∷ []) truth low) ≡
    Some (OdeConstant (record { kind = Ode; name = codes "c"; arity = 0; taboo = None }))
constant_left = refl

-- A formula is of connectives over comparisons:

connectives : di_why (di_of truth (imply (negation (conj low (lt x (number 1)))) (disj (equiv (eq x zero) truth) (ne x (number 2))))) ≡ None
connectives = refl

quantifier : di_why (di_of truth (forall ys low)) ≡ Some NotSmooth
quantifier = refl

box_within : di_why (di_of truth (box (assign xs zero) low)) ≡ Some NotSmooth
box_within = refl

predicate : di_why (di_of truth p0) ≡ Some NotSmooth
predicate = refl

differential_formula : di_why (di_of truth (diff_formula low)) ≡ Some NotSmooth
differential_formula = refl

-- of smooth terms:

-- x'>=0
primed_within : di_why (di_of truth (ge (new xs) zero)) ≡ Some NotSmooth
primed_within = refl

no_argument : di_why (di_of truth (ge x f0)) ≡ None
no_argument = refl

one_argument : di_why (di_of truth (ge x f_of_x)) ≡ Some NotSmooth
one_argument = refl

differential_term : di_why (di_of truth (ge (diff x) zero)) ≡ Some NotSmooth
differential_term = refl

-- x^2, and neither x^-2 nor x^0.5 nor x^f(); 2^f() has no variables
whole_power : di_why (di_of truth (ge (pow x (number 2)) zero)) ≡ None
whole_power = refl

negative_power : di_why (di_of truth (ge (pow x (neg (number 2))) zero)) ≡ Some NotSmooth
negative_power = refl

root : di_why (di_of truth (ge (pow x half) zero)) ≡ Some NotSmooth
root = refl

unknown_power : di_why (di_of truth (ge (pow x f0) zero)) ≡ Some NotSmooth
unknown_power = refl

constant_power : di_why (di_of truth (ge x (pow (number 2) f0))) ≡ None
constant_power = refl

-- x/(2*f()), and not 1/x
constant_divisor : di_why (di_of truth (ge (div x (mul (number 2) f0)) zero)) ≡ None
constant_divisor = refl

abbrev inverse : Tree
inverse = ge (div (number 1) x) zero

divisor : di_why (di_of truth inverse) ≡ Some NotSmooth
divisor = refl

-- unless the domain keeps the divisor off 0, in six ways
off_zero : di_why (di_of (ne x zero) inverse) ≡ None
off_zero = refl

above_zero : di_why (di_of (gt x zero) inverse) ≡ None
above_zero = refl

below_zero : di_why (di_of (lt x zero) inverse) ≡ None
below_zero = refl

zero_off : di_why (di_of (ne zero x) inverse) ≡ None
zero_off = refl

zero_above : di_why (di_of (gt zero x) inverse) ≡ None
zero_above = refl

zero_below : di_why (di_of (lt zero x) inverse) ≡ None
zero_below = refl

from_zero : di_why (di_of (ge x zero) inverse) ≡ Some NotSmooth
from_zero = refl

off_one : di_why (di_of (ne x (number 1)) inverse) ≡ Some NotSmooth
off_one = refl

-- as a part of the domain
in_conjunction : di_why (di_of (conj (conj truth (gt x zero)) low) inverse) ≡ None
in_conjunction = refl

in_disjunction : di_why (di_of (disj (gt x zero) low) inverse) ≡ Some NotSmooth
in_disjunction = refl

in_negation : di_why (di_of (negation (gt x zero)) inverse) ≡ Some NotSmooth
in_negation = refl

-- it is the very divisor, and smooth
another_divisor : di_why (di_of (ne x zero) (ge (div (number 1) (mul x x)) zero)) ≡ Some NotSmooth
another_divisor = refl

its_divisor : di_why (di_of (ne (mul x x) zero) (ge (div (number 1) (mul x x)) zero)) ≡ None
its_divisor = refl

rough_divisor : di_why (di_of (ne (pow x half) zero) (ge (div (number 1) (pow x half)) zero)) ≡ Some NotSmooth
rough_divisor = refl

-- The system evolves each variable of the formula, or the domain says that it is constant:

abbrev below_b : Tree
below_b = le x b

abbrev still : Tree
still = eq (new bs) zero

not_evolved : di_why (di_of truth below_b) ≡ Some (NotEvolved bs)
not_evolved = refl

evolved_too : di_why (di (evolve xs ∷ evolve bs ∷ []) (number 1 ∷ zero ∷ []) truth below_b) ≡ None
evolved_too = refl

frozen : di_why (di_of still below_b) ≡ None
frozen = refl

frozen_in_conjunction : di_why (di_of (conj low still) below_b) ≡ None
frozen_in_conjunction = refl

frozen_in_disjunction : di_why (di_of (disj low still) below_b) ≡ Some (NotEvolved bs)
frozen_in_disjunction = refl

-- B'=2, y'=0, B=0 and B'>=0 don't say it
moved : di_why (di_of (eq (new bs) (number 2)) below_b) ≡ Some (NotEvolved bs)
moved = refl

another_frozen : di_why (di_of (eq (new ys) zero) below_b) ≡ Some (NotEvolved bs)
another_frozen = refl

value_is_zero : di_why (di_of (eq b zero) below_b) ≡ Some (NotEvolved bs)
value_is_zero = refl

not_falling : di_why (di_of (ge (new bs) zero) below_b) ≡ Some (NotEvolved bs)
not_falling = refl

-- No primed variable of an evolved one is free in the domain or in a right side:

primed_in_domain : di_why (di_of (eq (new xs) (number 1)) low) ≡ Some (Primed xs)
primed_in_domain = refl

other_in_domain : di_why (di_of (eq (new bs) (number 1)) low) ≡ None
other_in_domain = refl

-- [x':=1;]x'=1
covered_in_domain : di_why (di_of (box (assign_primed xs (number 1)) (eq (new xs) (number 1))) low) ≡ None
covered_in_domain = refl

primed_in_side : di_why (di (evolve xs ∷ []) (add (new xs) (number 1) ∷ []) truth low) ≡ Some (Primed xs)
primed_in_side = refl

-- {x'=y',y'=1}
primed_in_other_side : di_why (di (evolve xs ∷ evolve ys ∷ []) (new ys ∷ number 1 ∷ []) truth low) ≡ Some (Primed ys)
primed_in_other_side = refl

other_in_side : di_why (di (evolve xs ∷ []) (new bs ∷ []) truth low) ≡ None
other_in_side = refl

-- The reasons are looked for in this order: x^0.5>=B over {x'=x'}, and x>=B
first_not_smooth : di_why (di (evolve xs ∷ []) (new xs ∷ []) truth (ge (pow x half) b)) ≡ Some NotSmooth
first_not_smooth = refl

then_not_evolved : di_why (di (evolve xs ∷ []) (new xs ∷ []) truth (ge x b)) ≡ Some (NotEvolved bs)
then_not_evolved = refl

-- ---- instances of DG

-- [{x'=1&q}]x>=0 <-> \exists y [{x'=1,y'=a*y+b&q}]x>=0
abbrev dg : Tree → Tree → Tree → Tree
dg q a c =
    equiv (box (system (evolve xs ∷ []) (number 1 ∷ []) q) low)
    (exists ys (box (system (evolve xs ∷ evolve ys ∷ []) (number 1 ∷ add (mul a (the ys)) c ∷ []) q) low))

-- the second divides by a variable
smooth_ghost : dg_why (dg truth x b) ≡ None
smooth_ghost = refl

divided_factor : dg_why (dg truth (div (number 2) x) b) ≡ Some GhostNotSmooth
divided_factor = refl

divided_summand : dg_why (dg truth x (div (number 2) x)) ≡ Some GhostNotSmooth
divided_summand = refl

kept_off_zero : dg_why (dg (gt x zero) (div (number 2) x) b) ≡ None
kept_off_zero = refl

-- ---- contexts

abbrev hole : Tree
hole = leaf Op'.Hole

below_differential : has_hole_in_differential (diff_formula hole) ≡ true
below_differential = refl

-- [x:=1;](y>=0&[?_;]y>=0)'
deep_below_differential :
    has_hole_in_differential (box (assign xs (number 1)) (diff_formula (conj low (box (test hole) low)))) ≡ true
deep_below_differential = refl

-- _&(x>=0)'
beside_differential : has_hole_in_differential (conj hole (diff_formula low)) ≡ false
beside_differential = refl

-- [x:=(x)';]_, where the differential is that of a term
behind_differential_of_a_term : has_hole_in_differential (box (assign xs (diff x)) hole) ≡ false
behind_differential_of_a_term = refl

-- ---- lines

abbrev row : Step → Tree → Line
row step f = record { step = step; conclusion = alone_right f }

abbrev refused : ℕ → Why → Option Refusal
refused line why = Some (record { line = line; why = why })

-- a row with a goal, this axiom, and what is made of it
abbrev of_axiom : List ℕ → Tree → List Line
of_axiom name f = row (Start (alone_right truth)) truth ∷ row (UseAxiom name) truth ∷ row (Substitute 2 []) f ∷ []

abbrev bad : Tree
bad = di_of truth below_b

-- a good instance is merged
good_merged : verdict (watch_of (of_axiom (codes "DI") (di_of truth low) ++ row (Merge 1 1 3) truth ∷ [])) ≡ None
good_merged = refl

-- a bad one is
bad_merged : verdict (watch_of (of_axiom (codes "DI") bad ++ row (Merge 1 1 3) truth ∷ row (Leaf (alone_right truth)) truth ∷ [])) ≡ refused 4 (NotEvolved bs)
bad_merged = refl

-- a bad one, whose name is exchanged, is
renamed_merged :
    verdict (watch_of (of_axiom (codes "DI") bad ++ row (Rename 3 xs ys) bad ∷ row (Merge 1 1 4) truth ∷ [])) ≡ refused 5 (NotEvolved bs)
renamed_merged = refl

-- the same lines, of another axiom
other_axiom : verdict (watch_of (of_axiom (codes "DC") bad ++ row (Merge 1 1 3) truth ∷ [])) ≡ None
other_axiom = refl

-- a bad one that isn't used is no fault, and a raw row of which a good instance is made isn't either
not_used : verdict (watch_of (of_axiom (codes "DI") bad ++ row (Leaf (alone_right truth)) truth ∷ [])) ≡ None
not_used = refl

made_good : verdict (watch_of (of_axiom (codes "DI") bad ++ row (Substitute 3 []) (di_of truth low) ∷ row (Merge 1 1 4) truth ∷ [])) ≡ None
made_good = refl

-- what is made of a good instance is none either
made_of_good : verdict (watch_of (of_axiom (codes "DI") (di_of truth low) ++ row (Substitute 3 []) bad ∷ row (Merge 1 1 4) truth ∷ [])) ≡ None
made_of_good = refl

-- a bad one is last
bad_last : verdict (watch_of (of_axiom (codes "DI") bad)) ≡ refused 3 (NotEvolved bs)
bad_last = refl

good_last : verdict (watch_of (of_axiom (codes "DI") (di_of truth low))) ≡ None
good_last = refl

-- the axiom itself, of which no instance was made, is merged, or is last
axiom_merged : verdict (watch_of (of_axiom (codes "DI") bad ++ row (Merge 1 1 2) truth ∷ [])) ≡ refused 4 RawFact
axiom_merged = refl

axiom_last : verdict (watch_of (row (UseAxiom (codes "DG")) truth ∷ [])) ≡ refused 1 RawFact
axiom_last = refl

-- DG
ghost_merged : verdict (watch_of (of_axiom (codes "DG") (dg truth (div (number 2) x) b) ++ row (Merge 1 1 3) truth ∷ [])) ≡ refused 4 GhostNotSmooth
ghost_merged = refl

ghost_good : verdict (watch_of (of_axiom (codes "DG") (dg truth x b) ++ row (Merge 1 1 3) truth ∷ [])) ≡ None
ghost_good = refl

-- Dforall, and another axiom
uses_dforall : verdict (watch_of (row (UseAxiom (codes "Dforall")) truth ∷ row (UseAxiom (codes "Dor")) truth ∷ [])) ≡ refused 1 Dforall
uses_dforall = refl

uses_dor : verdict (watch_of (row (UseAxiom (codes "Dor")) truth ∷ [])) ≡ None
uses_dor = refl

-- C{_}~>(_)', and C{_}~>_&(x>=0)'
abbrev context : Tree → Line
context k = row (Substitute 1 (record { sym = record { kind = Quant; name = codes "C"; arity = 0; taboo = None }; by = k } ∷ [])) truth

rule_in_differential : verdict (watch_of (row (UseRule (codes "CE")) truth ∷ context (diff_formula hole) ∷ [])) ≡ refused 2 DifferentialContext
rule_in_differential = refl

rule_beside_differential : verdict (watch_of (row (UseRule (codes "CE")) truth ∷ context (conj hole (diff_formula low)) ∷ [])) ≡ None
rule_beside_differential = refl

-- the first of two is named
the_first : verdict (watch_of (of_axiom (codes "DI") bad ++ row (Merge 1 1 3) truth ∷ row (UseAxiom (codes "Dforall")) truth ∷ [])) ≡ refused 4 (NotEvolved bs)
the_first = refl
