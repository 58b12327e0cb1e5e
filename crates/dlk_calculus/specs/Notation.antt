-- Words for the trees of the axioms and of the rules.
use Rattle.std.specs.Prelude.{ℕ, List, [], ◌∷◌, ◌++◌, Option, Some, None, codes}
use Rattle.dlk_tree.specs.declared.op.Sym.{Sym}
use Rattle.dlk_tree.specs.declared.op.Kind.{Kind}
use Rattle.dlk_tree.specs.declared.op.Kind.TheVariants.{Func, UnitFunc, Pred, UnitPred, Quant, Prog, Ode}
use Rattle.dlk_tree.specs.declared.op.OdeItem.{OdeItem}
use Rattle.dlk_tree.specs.declared.op.OdeItem.TheVariants as Item
use Rattle.dlk_tree.specs.declared.op.Op.{Op}
use Rattle.dlk_tree.specs.declared.op.Op.TheVariants as Op'
use Rattle.dlk_tree.specs.Trees.{Tree, node, no_kids, kid, forest}
use Rattle.dlk_tree.specs.Statics.{plain, prime}

abbrev pub leaf : Op → Tree
leaf op = node op no_kids

abbrev pub one : Op → Tree → Tree
one op s = node op (kid s no_kids)

abbrev pub two : Op → Tree → Tree → Tree
two op s t = node op (kid s (kid t no_kids))

-- ---- terms

abbrev pub number : ℕ → Tree
number n = leaf (Op'.Number (record { digits = n; scale = 0 }))

abbrev pub add : Tree → Tree → Tree
add s t = two Op'.Add s t

abbrev pub sub : Tree → Tree → Tree
sub s t = two Op'.Sub s t

abbrev pub mul : Tree → Tree → Tree
mul s t = two Op'.Mul s t

abbrev pub div : Tree → Tree → Tree
div s t = two Op'.Div s t

abbrev pub pow : Tree → Tree → Tree
pow s t = two Op'.Pow s t

abbrev pub neg : Tree → Tree
neg s = one Op'.Neg s

-- (s)' of a term
abbrev pub diff : Tree → Tree
diff s = one Op'.Diff s

-- ---- formulas

abbrev pub eq : Tree → Tree → Tree
eq s t = two Op'.Eq s t

abbrev pub ne : Tree → Tree → Tree
ne s t = two Op'.Ne s t

abbrev pub ge : Tree → Tree → Tree
ge s t = two Op'.Ge s t

abbrev pub gt : Tree → Tree → Tree
gt s t = two Op'.Gt s t

abbrev pub le : Tree → Tree → Tree
le s t = two Op'.Le s t

abbrev pub lt : Tree → Tree → Tree
lt s t = two Op'.Lt s t

abbrev pub negation : Tree → Tree
negation s = one Op'.Not s

abbrev pub conj : Tree → Tree → Tree
conj s t = two Op'.And s t

abbrev pub disj : Tree → Tree → Tree
disj s t = two Op'.Or s t

-- (s)' of a formula
abbrev pub diff_formula : Tree → Tree
diff_formula s = one Op'.DiffF s

abbrev pub forall : List ℕ → Tree → Tree
forall x s = one (Op'.Forall x) s

abbrev pub exists : List ℕ → Tree → Tree
exists x s = one (Op'.Exists x) s

abbrev pub box : Tree → Tree → Tree
box s t = two Op'.Box s t

abbrev pub dia : Tree → Tree → Tree
dia s t = two Op'.Dia s t

-- ---- programs

abbrev pub assign : List ℕ → Tree → Tree
assign x s = one (Op'.Assign (plain x)) s

abbrev pub assign_primed : List ℕ → Tree → Tree
assign_primed x s = one (Op'.Assign (prime x)) s

-- x:=*;
abbrev pub assign_any : List ℕ → Tree
assign_any x = leaf (Op'.Any x)

abbrev pub test : Tree → Tree
test s = one Op'.Test s

abbrev pub choice : Tree → Tree → Tree
choice s t = two Op'.Choice s t

abbrev pub seq : Tree → Tree → Tree
seq s t = two Op'.Seq s t

abbrev pub loop : Tree → Tree
loop s = one Op'.Loop s

-- a system by its items, the right sides of what it evolves, and its domain
abbrev pub system : List OdeItem → List Tree → Tree → Tree
system items sides domain = node (Op'.System items) (forest (sides ++ domain ∷ []))

abbrev pub evolve : List ℕ → OdeItem
evolve x = Item.Evolve x

-- ---- names and symbols

abbrev symbol : Kind → List ℕ → ℕ → Option (List ℕ) → Sym
symbol kind name arity taboo = record { kind = kind; name = name; arity = arity; taboo = taboo }

abbrev pub x_ : List ℕ
x_ = codes "x_"

abbrev pub y_ : List ℕ
y_ = codes "y_"

abbrev pub t_ : List ℕ
t_ = codes "t_"

abbrev pub s_ : List ℕ
s_ = codes "s_"

-- the variable x_
abbrev pub x : Tree
x = leaf (Op'.Variable (plain x_))

-- the variable y_
abbrev pub y : Tree
y = leaf (Op'.Variable (plain y_))

-- the variable t_
abbrev pub t : Tree
t = leaf (Op'.Variable (plain t_))

-- the variable s_
abbrev pub s : Tree
s = leaf (Op'.Variable (plain s_))

-- the variable x_'
abbrev pub x' : Tree
x' = leaf (Op'.Variable (prime x_))

-- the program constant a;
abbrev pub a : Tree
a = leaf (Op'.Const (symbol Prog (codes "a") 0 None))

-- the program constant b;
abbrev pub b : Tree
b = leaf (Op'.Const (symbol Prog (codes "b") 0 None))

-- p(||)
abbrev pub p : Tree
p = leaf (Op'.UnitPred (symbol UnitPred (codes "p") 0 None))

-- q(||)
abbrev pub q : Tree
q = leaf (Op'.UnitPred (symbol UnitPred (codes "q") 0 None))

-- r(||)
abbrev pub r : Tree
r = leaf (Op'.UnitPred (symbol UnitPred (codes "r") 0 None))

-- p(|y_|)
abbrev pub p_but_y : Tree
p_but_y = leaf (Op'.UnitPred (symbol UnitPred (codes "p") 0 (Some y_)))

-- q(|y_|)
abbrev pub q_but_y : Tree
q_but_y = leaf (Op'.UnitPred (symbol UnitPred (codes "q") 0 (Some y_)))

-- p()
abbrev pub p0 : Tree
p0 = leaf (Op'.Holds (symbol Pred (codes "p") 0 None))

-- p(e)
abbrev pub p_of : Tree → Tree
p_of e = one (Op'.Holds (symbol Pred (codes "p") 1 None)) e

-- q(e)
abbrev pub q_of : Tree → Tree
q_of e = one (Op'.Holds (symbol Pred (codes "q") 1 None)) e

-- f(||)
abbrev pub f : Tree
f = leaf (Op'.UnitFun (symbol UnitFunc (codes "f") 0 None))

-- g(||)
abbrev pub g : Tree
g = leaf (Op'.UnitFun (symbol UnitFunc (codes "g") 0 None))

-- a(|y_|)
abbrev pub a_but_y : Tree
a_but_y = leaf (Op'.UnitFun (symbol UnitFunc (codes "a") 0 (Some y_)))

-- b(|y_|)
abbrev pub b_but_y : Tree
b_but_y = leaf (Op'.UnitFun (symbol UnitFunc (codes "b") 0 (Some y_)))

-- f()
abbrev pub f0 : Tree
f0 = leaf (Op'.Apply (symbol Func (codes "f") 0 None))

-- g()
abbrev pub g0 : Tree
g0 = leaf (Op'.Apply (symbol Func (codes "g") 0 None))

-- c()
abbrev pub c0 : Tree
c0 = leaf (Op'.Apply (symbol Func (codes "c") 0 None))

-- h(e)
abbrev pub h_of : Tree → Tree
h_of e = one (Op'.Apply (symbol Func (codes "h") 1 None)) e

-- C{e}
abbrev pub c_of : Tree → Tree
c_of e = one (Op'.Predicational (symbol Quant (codes "C") 0 None)) e

-- the ODE constants c, d and c{|y_|}
abbrev pub c_item : OdeItem
c_item = Item.Const (symbol Ode (codes "c") 0 None)

abbrev pub d_item : OdeItem
d_item = Item.Const (symbol Ode (codes "d") 0 None)

abbrev pub c_item_but_y : OdeItem
c_item_but_y = Item.Const (symbol Ode (codes "c") 0 (Some y_))
