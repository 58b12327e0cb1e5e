-- Texts of trees and sequents.
use Rattle.std.specs.Prelude.{◌≡◌, ℕ, true, false, List, [], ◌∷◌, Option, Some, None, codes, refl}
use Rattle.std.specs.Fmt.{digits}
use Rattle.dlk_tree.specs.declared.op.Sym.{Sym}
use Rattle.dlk_tree.specs.declared.op.Kind.{Kind}
use Rattle.dlk_tree.specs.declared.op.Kind.TheVariants.{Func, UnitFunc, Pred, UnitPred, Quant, Prog, Ode}
use Rattle.dlk_tree.specs.declared.op.OdeItem.TheVariants as item
use Rattle.dlk_tree.specs.declared.op.Op.{Op}
use Rattle.dlk_tree.specs.declared.op.Op.TheVariants as op
use Rattle.dlk_tree.specs.Trees.{Tree, node, forest}
use Rattle.dlk_grammar.specs.Shown.{spell, shown, shown_sequent}

abbrev tree : Op → List Tree → Tree
tree o kids = node o (forest kids)

abbrev variable : List ℕ → Tree
variable name = tree (op.Variable (record { name = name; primed = false })) []

abbrev x : Tree
x = variable (codes "x")

abbrev y : Tree
y = variable (codes "y")

abbrev v : Tree
v = variable (codes "v")

abbrev a : Tree
a = variable (codes "a")

abbrev b : Tree
b = variable (codes "b")

-- digits / 10 ^ scale
abbrev number : ℕ → ℕ → Tree
number digits scale = tree (op.Number (record { digits = digits; scale = scale })) []

abbrev zero' : Tree
zero' = number 0 0

abbrev symbol : Kind → List ℕ → ℕ → Option (List ℕ) → Sym
symbol kind name arity taboo = record { kind = kind; name = name; arity = arity; taboo = taboo }

abbrev two : Op → Tree → Tree → Tree
two o s t = tree o (s ∷ t ∷ [])

abbrev is_positive : Tree → Tree
is_positive t = two op.Ge t zero'

abbrev set_a : Tree → Tree
set_a t = tree (op.Assign (record { name = codes "a"; primed = false })) (t ∷ [])

-- x'=v, v'=a & v>=0
abbrev motion : Tree
motion = tree (op.System (item.Evolve (codes "x") ∷ item.Evolve (codes "v") ∷ [])) (v ∷ a ∷ is_positive v ∷ [])

imply_text : spell (shown (two op.Imply (is_positive x) (is_positive x))) ≡ codes "x>=0 -> x>=0"
unfolding digits
imply_text = refl

nested_imply_text : spell (shown (two op.Imply (two op.Imply (is_positive x) (is_positive x)) (is_positive x))) ≡ codes "(x>=0 -> x>=0) -> x>=0"
unfolding digits
nested_imply_text = refl

arithmetic_text : spell (shown (two op.Eq (two op.Sub (two op.Mul (tree op.Neg (two op.Pow x (number 2 0) ∷ [])) y) (tree op.Neg (number 1 0 ∷ []))) zero'))
    ≡ codes "-x^2*y--1=0"
unfolding digits
arithmetic_text = refl

bracket_text : spell (shown (two op.Ge (two op.Mul (two op.Add x y) (two op.Pow (tree op.Neg (x ∷ [])) (two op.Div x y))) zero')) ≡ codes "(x+y)*(-x)^(x/y)>=0"
unfolding digits
bracket_text = refl

number_text : spell (shown (two op.Imply (two op.Ge (two op.Add x (number 1 0)) (number 15 1)) (two op.Gt y zero'))) ≡ codes "x+1>=1.5 -> y>0"
unfolding digits
number_text = refl

small_number_text : spell (shown (number 5 3)) ≡ codes "0.005"
unfolding digits
small_number_text = refl

system_text : spell (shown (two op.Box motion (is_positive v))) ≡ codes "[{x'=v,v'=a&v>=0}]v>=0"
unfolding digits
system_text = refl

undomained_text : spell (shown (tree
    (op.System (item.Const (symbol Ode (codes "c") 0 None) ∷ item.Evolve (codes "x") ∷ item.Const (symbol Ode (codes "d") 0 (Some (codes "y"))) ∷ []))
    (v ∷ tree op.True [] ∷ [])))
    ≡ codes "{c,x'=v,d{|y|}}"
undomained_text = refl

program_text : spell (shown (two op.Box
    (tree op.Loop (two op.Seq (two op.Choice (set_a (variable (codes "A"))) (set_a zero')) motion ∷ [])) (is_positive v)))
    ≡ codes "[{{a:=A;++a:=0;}{x'=v,v'=a&v>=0}}*]v>=0"
unfolding digits
program_text = refl

quantifier_text : spell (shown (tree (op.Forall (codes "x")) (is_positive x ∷ []))) ≡ codes "\\forall x x>=0"
unfolding digits
quantifier_text = refl

symbol_text : spell (shown (two op.Dia
    (two op.Choice (tree (op.Const (symbol Prog (codes "a") 0 None)) []) (tree op.Test (tree (op.Holds (symbol Pred (codes "p") 0 None)) [] ∷ [])))
    (two op.And (tree (op.UnitPred (symbol UnitPred (codes "q") 0 None)) [])
    (two op.Or (tree (op.Predicational (symbol Quant (codes "C") 0 None)) (tree op.Hole [] ∷ [])) (tree op.DiffF (tree op.False [] ∷ []))))))
    ≡ codes "<a;++?p();>(q(||)&(C{_}|(false)'))"
unfolding digits
symbol_text = refl

application_text : spell (shown (two op.Ne
    (tree (op.Apply (symbol Func (codes "f") 2 None)) (two op.Add x y ∷ tree (op.Dot 0) [] ∷ []))
    (tree op.Diff (tree (op.UnitFun (symbol UnitFunc (codes "g") 0 (Some (codes "y")))) [] ∷ []))))
    ≡ codes "f(x+y,._0)!=(g(|y|))'"
unfolding digits
application_text = refl

prime_text : spell (shown (tree op.Seq
    (tree (op.Assign (record { name = codes "x"; primed = true }))
    (tree (op.Variable (record { name = codes "x"; primed = true })) [] ∷ []) ∷ set_a x ∷ [])))
    ≡ codes "x':=x';a:=x;"
prime_text = refl

any_text : spell (shown (two op.Box (tree (op.Any (codes "x")) []) (is_positive x))) ≡ codes "[x:=*;]x>=0"
unfolding digits
any_text = refl

goal_text : spell (shown_sequent (record { ante = []; succ = is_positive x ∷ [] })) ≡ codes "==> x>=0"
unfolding digits
goal_text = refl

both_sides_text : spell (shown_sequent (record { ante = is_positive x ∷ []; succ = is_positive x ∷ [] })) ≡ codes "x>=0 ==> x>=0"
unfolding digits
both_sides_text = refl

left_side_text : spell (shown_sequent (record { ante = is_positive a ∷ is_positive b ∷ []; succ = [] })) ≡ codes "a>=0, b>=0 ==>"
unfolding digits
left_side_text = refl

right_side_text : spell (shown_sequent (record { ante = []; succ = is_positive a ∷ is_positive b ∷ [] })) ≡ codes "==> a>=0, b>=0"
unfolding digits
right_side_text = refl

empty_text : spell (shown_sequent (record { ante = []; succ = [] })) ≡ codes "==>"
empty_text = refl
