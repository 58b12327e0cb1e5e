-- Examples of the static semantics, by computation.
use Rattle.std.specs.Prelude.{◌≡◌, ℕ, refl, List, [], ◌∷◌, true, false, Some, None, codes}
use Rattle.dlk_tree.specs.Trees.{Tree, node, Forest, no_kids, kid, size, depth}
use Rattle.dlk_tree.specs.Statics.{plain, prime, free, bound, must}
use Rattle.dlk_tree.specs.Occurs.{occurs}
use Rattle.dlk_tree.specs.declared.op.Sym.{Sym}
use Rattle.dlk_tree.specs.declared.op.Kind.TheVariants.{Pred, UnitPred, Ode}
use Rattle.dlk_tree.specs.declared.op.OdeItem.TheVariants as Item
use Rattle.dlk_tree.specs.declared.op.Op.TheVariants as Op'

abbrev num : ℕ → Tree
num n = node (Op'.Number (record { digits = n; scale = 0 })) no_kids

abbrev two : Tree → Tree → Forest
two a b = kid a (kid b no_kids)

abbrev assign : List ℕ → ℕ → Tree
assign x n = node (Op'.Assign (plain x)) (kid (num n) no_kids)

-- x:=1;y:=2;++y:=3;
abbrev choice : Tree
choice = node Op'.Choice (two (node Op'.Seq (two (assign (codes "x") 1) (assign (codes "y") 2))) (assign (codes "y") 3))

must_y : must choice (plain (codes "y")) ≡ true
must_y = refl

not_must_x : must choice (plain (codes "x")) ≡ false
not_must_x = refl

loop_bound_x : bound (node Op'.Loop (kid choice no_kids)) (plain (codes "x")) ≡ true
loop_bound_x = refl

loop_not_must_y : must (node Op'.Loop (kid choice no_kids)) (plain (codes "y")) ≡ false
loop_not_must_y = refl

loop_none_free : (x : List ℕ) → free (node Op'.Loop (kid choice no_kids)) (plain x) ≡ false
loop_none_free x = refl

-- x:=*;
abbrev anything : Tree
anything = node (Op'.Any (codes "x")) no_kids

any_none_free : (x : List ℕ) → free anything (plain x) ≡ false
any_none_free x = refl

any_bound_x : bound anything (plain (codes "x")) ≡ true
any_bound_x = refl

any_must_x : must anything (plain (codes "x")) ≡ true
any_must_x = refl

any_not_bound_x' : bound anything (prime (codes "x")) ≡ false
any_not_bound_x' = refl

-- x isn't free in [x:=*;]x>=1, and in [y:=*;]x>=1 it is
abbrev behind_any : List ℕ → Tree
behind_any y = node Op'.Box (two (node (Op'.Any y) no_kids) (node Op'.Ge (two (node (Op'.Variable (plain (codes "x"))) no_kids) (num 1))))

any_covers_x : free (behind_any (codes "x")) (plain (codes "x")) ≡ false
any_covers_x = refl

any_leaves_x : free (behind_any (codes "y")) (plain (codes "x")) ≡ true
any_leaves_x = refl

-- [{c{|y|}&p(|y|)}]q()
abbrev c_ode : Sym
c_ode = record { kind = Ode; name = codes "c"; arity = 0; taboo = Some (codes "y") }

abbrev p_unit : Sym
p_unit = record { kind = UnitPred; name = codes "p"; arity = 0; taboo = Some (codes "y") }

abbrev q_sym : Sym
q_sym = record { kind = Pred; name = codes "q"; arity = 0; taboo = None }

abbrev boxed : Tree
boxed = node Op'.Box (two (node (Op'.System (Item.Const c_ode ∷ [])) (kid (node (Op'.UnitPred p_unit) no_kids) no_kids)) (node (Op'.Holds q_sym) no_kids))

y_not_free : free boxed (plain (codes "y")) ≡ false
y_not_free = refl

y'_not_free : free boxed (prime (codes "y")) ≡ false
y'_not_free = refl

x_free : free boxed (plain (codes "x")) ≡ true
x_free = refl

y'_not_bound : bound boxed (prime (codes "y")) ≡ false
y'_not_bound = refl

q_occurs : occurs q_sym boxed ≡ true
q_occurs = refl

c_occurs : occurs c_ode boxed ≡ true
c_occurs = refl

size_of_choice : size choice ≡ 8
size_of_choice = refl

depth_of_choice : depth choice ≡ 4
depth_of_choice = refl
