-- Examples of pairs, captures, plugging and substitution.
use Rattle.std.specs.Prelude.{◌≡◌, ℕ, ◌<◌, refl, List, [], ◌∷◌, take, Bool, true, false, ◌&&◌, IsTrue, Option, Some, None, codes}
use Rattle.std.proofs.Common.{◌∙◌, ◌-◌, zero, suc, sym, ap, subst, true≢false, lit<, arith}
use Rattle.std.proofs.lemmas.Option.{none-some, same_Some}
use Rattle.std.proofs.Math.Dec.{eqb-suc-zero}
use Rattle.std.proofs.lemmas.List.Elements.{All-cons, All-nil}
use Rattle.dlk_tree.specs.declared.op.Var.{Var}
use Rattle.dlk_tree.specs.declared.op.Sym.{Sym}
use Rattle.dlk_tree.specs.declared.op.Kind.{Kind}
use Rattle.dlk_tree.specs.declared.op.Kind.TheVariants.{Func, Pred, UnitPred, Quant, Prog, Ode}
use Rattle.dlk_tree.specs.declared.op.Sort.TheVariants.{Term}
use Rattle.dlk_tree.specs.declared.op.OdeItem.TheVariants as Item
use Rattle.dlk_tree.specs.declared.op.Op.{Op}
use Rattle.dlk_tree.specs.declared.op.Op.TheVariants as Op'
use Rattle.dlk_tree.specs.Table.{kind_row, kid_sorts, has_parts}
use Rattle.dlk_tree.specs.Trees.{Tree, node, Forest, no_kids, kid, sort, WellMade}
use Rattle.dlk_tree.specs.Statics.{none, plain, prime, free, bound, both}
use Rattle.dlk_tree.specs.Occurs.{any_has, has_symbol}
use Rattle.dlk_calculus.specs.declared.why.Why.{Why}
use Rattle.dlk_calculus.specs.declared.why.Why.TheVariants as Why'
use Rattle.dlk_calculus.specs.Kids.{first}
use Rattle.dlk_calculus.specs.Captures.{captures, AreApart}
use Rattle.dlk_calculus.specs.Plug.{IsClear, Plug, filled}
use Rattle.dlk_calculus.specs.Places.{at}
use Rattle.dlk_calculus.specs.Pairs.{Pair, why, IsIll, FirstIll, IsWellFormed}
use Rattle.dlk_calculus.specs.Subst.{IsAdmissible, Member, Equation, new_members, items_of, kids_of, Subst, SubstAll}

abbrev leaf : Op → Tree
leaf op = node op no_kids

abbrev one : Tree → Forest
one t = kid t no_kids

abbrev two : Tree → Tree → Forest
two s t = kid s (one t)

abbrev number_op : ℕ → Op
number_op n = Op'.Number (record { digits = n; scale = 0 })

abbrev number : ℕ → Tree
number n = leaf (number_op n)

abbrev x : Tree
x = leaf (Op'.Variable (plain (codes "x")))

abbrev y : Tree
y = leaf (Op'.Variable (plain (codes "y")))

-- x:=1;
abbrev assign : Tree
assign = node (Op'.Assign (plain (codes "x"))) (one (number 1))

-- x:=*;
abbrev anything : Tree
anything = leaf (Op'.Any (codes "x"))

abbrev positive : Tree → Tree
positive t = node Op'.Gt (two t (number 0))

abbrev dot : ℕ → Tree
dot n = leaf (Op'.Dot n)

abbrev apply : Sym → Tree
apply s = leaf (Op'.Apply s)

abbrev holds : Sym → Tree
holds s = leaf (Op'.Holds s)

abbrev symbol : Kind → List ℕ → ℕ → Sym
symbol kind name arity = record { kind = kind; name = name; arity = arity; taboo = None }

abbrev with_taboo : Kind → List ℕ → List ℕ → Sym
with_taboo kind name taboo = record { kind = kind; name = name; arity = 0; taboo = Some taboo }

abbrev to : Sym → Tree → Pair
to sym by = record { sym = sym; by = by }

abbrev p : Sym
p = symbol Pred (codes "p") 0

abbrev q : Sym
q = symbol Pred (codes "q") 0

-- p of one argument
abbrev p1 : Sym
p1 = symbol Pred (codes "p") 1

abbrev f : Sym
f = symbol Func (codes "f") 0

abbrev h : Sym
h = symbol Func (codes "h") 0

abbrev a : Sym
a = symbol Prog (codes "a") 0

abbrev c : Sym
c = symbol Ode (codes "c") 0

-- [x:=1;]q()
abbrev boxed : Tree
boxed = node Op'.Box (two assign (holds q))

-- {x'=1&domain}
abbrev system : Tree → Tree
system domain = node (Op'.System (Item.Evolve (codes "x") ∷ [])) (two (number 1) domain)

-- ---- pairs

abbrev alone : Pair → Option Why
alone p = why [] p

-- p()~>true, p()~>false
abbrev p_twice : List Pair
p_twice = to p (leaf Op'.True) ∷ to p (leaf Op'.False) ∷ []

good_first : (n : ℕ) (w : Why) → n < 2 → ¬ IsIll p_twice n w
good_first zero w lt ill = none-some ill.0 ill.1
good_first (suc zero) w lt ill = none-some w (subst (λ r. why [] r ≡ Some w) (sym (same_Some _ _ ill.1)) ill.2)
good_first (suc (suc n)) w lt ill = omega (arith, lt)

twice : FirstIll p_twice 2 Why'.Twice
twice = record { ill = (to p (leaf Op'.False), refl, refl); first = good_first }

-- p()~>x
wrong_sort : alone (to p x) ≡ Some Why'.Sort
wrong_sort = refl

-- {c}~>{x'=1&y>0}, and {c}~>x:=1;
wrong_domain : alone (to c (system (positive y))) ≡ Some Why'.Sort
wrong_domain = refl

no_system : alone (to c assign) ≡ Some Why'.Sort
no_system = refl

-- p(._0)~>._1>0
wrong_dot : alone (to p1 (positive (dot 1))) ≡ Some Why'.Dot
wrong_dot = refl

-- p()~>_
wrong_hole : alone (to p (leaf Op'.Hole)) ≡ Some Why'.Hole
wrong_hole = refl

-- p(|x|)~>x>0, and {c{|x|}}~>{x'=1&true}
free_taboo : alone (to (with_taboo UnitPred (codes "p") (codes "x")) (positive x)) ≡ Some Why'.Taboo
free_taboo = refl

bound_taboo : alone (to (with_taboo Ode (codes "c") (codes "x")) (system (leaf Op'.True))) ≡ Some Why'.Taboo
bound_taboo = refl

-- p(|x|)~>\exists x x>0
bound_alone : alone (to (with_taboo UnitPred (codes "p") (codes "x")) (node (Op'.Exists (codes "x")) (one (positive x)))) ≡ None
bound_alone = refl

-- q{_}~>!_, {c}~>{x'=1&true}
abbrev two_good : List Pair
two_good = to (symbol Quant (codes "q") 0) (node Op'.Not (one (leaf Op'.Hole))) ∷ to c (system (leaf Op'.True)) ∷ []

well_formed : IsWellFormed two_good
well_formed = record { none = good }
  where
    past : (n : ℕ) → at two_good (suc (suc (suc n))) ≡ None
    past n = let e : suc (suc (suc n)) - 1 ≡ suc (suc n) = omega arith in rw (eqb-suc-zero (suc (suc n)), e)

    good : (n : ℕ) (w : Why) → ¬ IsIll two_good n w
    good zero w ill = none-some ill.0 ill.1
    good (suc zero) w ill = none-some w (subst (λ r. why [] r ≡ Some w) (sym (same_Some _ _ ill.1)) ill.2)
    good (suc (suc zero)) w ill = none-some w (subst (λ r. why (take 1 two_good) r ≡ Some w) (sym (same_Some _ _ ill.1)) ill.2)
    good (suc (suc (suc n))) w ill = none-some ill.0 (sym (past n) ∙ ill.1)

-- ---- captures

exists_captures : (captures (Op'.Exists (codes "y"))).set no_kids (plain (codes "y")) ≡ true
exists_captures = refl

exists_leaves : (captures (Op'.Exists (codes "y"))).set no_kids (prime (codes "y")) ≡ false
exists_leaves = refl

-- [x:=1;]q()
box_captures : (captures Op'.Box).set (two assign (holds q)) (plain (codes "x")) ≡ true
box_captures = refl

box_reaches : (captures Op'.Box).reach (two assign (holds q)) ≡ one (holds q)
box_reaches = refl

none_apart : (set : Var → Bool) → AreApart none set
none_apart set w = true≢false (sym w.2)

none_clear : (args : List Tree) (trees : Forest) → IsClear args none trees
none_clear args trees = record { clear = λ n t e occurs. none_apart (free t) }

none_admissible : (pairs : List Pair) (trees : Forest) → IsAdmissible pairs none trees
none_admissible pairs trees k d lt occurs w = true≢false (sym w.2)

-- ---- plugging and filling

-- ._0>0 with x is x>0
plugged : Plug (x ∷ []) (positive (dot 0)) (positive x)
plugged = (two x (number 0), ((no_kids, tt, refl), ((no_kids, tt, (none_clear _ no_kids, refl)), tt)), (none_clear _ (two (dot 0) (number 0)), refl))

-- \exists y ._0>0 with y is nothing
captured : (t : Tree) → Plug (y ∷ []) (node (Op'.Exists (codes "y")) (one (positive (dot 0)))) t → ⊥
captured t w = w.2.0.clear 0 y refl refl (plain (codes "y"), refl, refl)

-- !_ with x>0 is !x>0
filled_in : filled (positive x) (node Op'.Not (one (leaf Op'.Hole))) ≡ node Op'.Not (one (positive x))
filled_in = refl

-- {y'=2,c&true} with {c}~>{x'=1&true} is {y'=2,x'=1&true}
abbrev both_members : List Member
both_members = new_members (to c (system (leaf Op'.True)) ∷ []) (Item.Evolve (codes "y") ∷ Item.Const c ∷ []) (two (number 2) (leaf Op'.True))

members_spliced : both_members ≡ Equation (codes "y") (number 2) ∷ Equation (codes "x") (number 1) ∷ []
members_spliced = refl

items_spliced : items_of both_members ≡ Item.Evolve (codes "y") ∷ Item.Evolve (codes "x") ∷ []
items_spliced = refl

kids_spliced : kids_of both_members (leaf Op'.True) ≡ kid (number 2) (two (number 1) (leaf Op'.True))
kids_spliced = refl

-- ---- substitution

leaf_made : (op : Op) → [] ≡ kid_sorts op → IsTrue (has_parts op) → WellMade (leaf op)
leaf_made op kids parts = (record { kids_fit = kids; parts_fit = parts }, tt)

one_made : (op : Op) (t : Tree) → sort t ∷ [] ≡ kid_sorts op → IsTrue (has_parts op) → WellMade t → WellMade (node op (one t))
one_made op t kids parts made = (record { kids_fit = kids; parts_fit = parts }, (made, tt))

two_made : (op : Op) (s t : Tree) → sort s ∷ sort t ∷ [] ≡ kid_sorts op → IsTrue (has_parts op) → WellMade s → WellMade t → WellMade (node op (two s t))
two_made op s t kids parts left right = (record { kids_fit = kids; parts_fit = parts }, (left, (right, tt)))

number_made : (n : ℕ) → IsTrue (has_parts (number_op n)) → WellMade (number n)
number_made n parts = leaf_made (number_op n) refl parts

positive_made : (t : Tree) → sort t ≡ Term → WellMade t → WellMade (positive t)
positive_made t term made = two_made Op'.Gt t (number 0) (λ i. term i ∷ Term ∷ []) refl made (number_made 0 refl)

number_stays : (pairs : List Pair) (n : ℕ) → IsTrue (has_parts (number_op n)) → Subst pairs (number n) (number n)
number_stays pairs n parts = (no_kids, tt, (none_admissible pairs no_kids, refl), number_made n parts)

positive_of : (pairs : List Pair) (s t : Tree) → sort t ≡ Term → WellMade t → Subst pairs s t → Subst pairs (positive s) (positive t)
positive_of pairs s t term made result =
    (two t (number 0), (result, (number_stays pairs 0 refl, tt)), (none_admissible pairs (two s (number 0)), refl), positive_made t term made)

f_made : WellMade (apply f)
f_made = leaf_made (Op'.Apply f) refl refl

h_made : WellMade (apply h)
h_made = leaf_made (Op'.Apply h) refl refl

-- f()>0 with the function f()~>h() is h()>0
function : Subst (to f (apply h) ∷ []) (positive (apply f)) (positive (apply h))
function =
    positive_of (to f (apply h) ∷ []) (apply f) (apply h) refl h_made (no_kids, tt, (no_kids, tt, (none_clear [] no_kids, refl)), h_made)

-- and with the predicate f()~>x>0 it stays
abbrev f_predicate : List Pair
f_predicate = to (symbol Pred (codes "f") 0) (positive x) ∷ []

other_kind : Subst f_predicate (positive (apply f)) (positive (apply f))
other_kind = positive_of f_predicate (apply f) (apply f) refl f_made (no_kids, tt, (none_admissible f_predicate no_kids, refl), f_made)

abbrev p_positive : List Pair
p_positive = to p (positive x) ∷ []

x_positive : WellMade (positive x)
x_positive = positive_made x refl (leaf_made (Op'.Variable (plain (codes "x"))) refl refl)

q_made : WellMade (holds q)
q_made = leaf_made (Op'.Holds q) refl refl

assign_made : WellMade assign
assign_made = one_made (Op'.Assign (plain (codes "x"))) (number 1) refl refl (number_made 1 refl)

boxed_made : WellMade boxed
boxed_made = two_made Op'.Box assign (holds q) refl refl assign_made q_made

-- p() is x>0
p_gives : Subst p_positive (holds p) (positive x)
p_gives = (
  no_kids,
  tt,
  (
    two x (number 0),
    ((no_kids, tt, (none_clear [] no_kids, refl)), ((no_kids, tt, (none_clear [] no_kids, refl)), tt)),
    (none_clear [] (two x (number 0)), refl),
  ),
  x_positive,
)

-- what admissibility of the assignment for q() says of a pair
abbrev IsApart : Pair → Type 0
IsApart r = IsTrue ((kind_row r.sym.kind).arguments && any_has (has_symbol r.sym) (one (holds q))) → AreApart (bound assign) (free r.by)

-- p() doesn't occur in q()
q_admissible : IsAdmissible p_positive (bound assign) (one (holds q))
q_admissible = All-cons IsApart (to p (positive x)) [] (λ occurs w. true≢false (sym occurs)) (All-nil IsApart)

-- [x:=1;]q() stays
boxed_stays : Subst p_positive boxed boxed
boxed_stays = (
  two assign (holds q),
  (
    (one (number 1), (number_stays p_positive 1 refl, tt), (none_admissible p_positive (one (number 1)), refl), assign_made),
    ((no_kids, tt, (none_admissible p_positive no_kids, refl), q_made), tt),
  ),
  (q_admissible, refl),
  boxed_made,
)

-- [x:=1;]q()&p() with p()~>x>0 is [x:=1;]q()&x>0
outside : Subst p_positive (node Op'.And (two boxed (holds p))) (node Op'.And (two boxed (positive x)))
outside = (
  two boxed (positive x),
  (boxed_stays, (p_gives, tt)),
  (none_admissible p_positive (two boxed (holds p)), refl),
  two_made Op'.And boxed (positive x) refl refl boxed_made x_positive,
)

-- p()->[a;]p() with p()~>x>0, a;~>b is nothing where x is bound in b, since it is free in x>0: so with x:=1; and with x:=*;
abbrev both_pairs : Tree → List Pair
both_pairs b = to p (positive x) ∷ to a b ∷ []

abbrev after_a : Tree
after_a = node Op'.Box (two (leaf (Op'.Const a)) (holds p))

module _ (b : Tree) (binds_x : bound b (plain (codes "x")) ≡ true) where
  x_clashes : (new : Forest) → SubstAll (both_pairs b) (two (leaf (Op'.Const a)) (holds p)) new →
      IsAdmissible (both_pairs b) (bound (first new)) (one (holds p)) → ⊥
  x_clashes no_kids all admissible = all
  x_clashes (kid made rest) all admissible =
      admissible 0 (to a b) (lit< tt) refl (
        plain (codes "x"),
        refl,
        subst (λ t. IsTrue (both (bound t) (free (positive x)) (plain (codes "x")))) (sym all.0.2) (ap (λ c. c && true) binds_x),
      )

  clashes : (new : Forest) → SubstAll (both_pairs b) (two (holds p) after_a) new → ⊥
  clashes no_kids all = all
  clashes (kid s no_kids) all = all.1
  clashes (kid s (kid t rest)) all = let box = all.1.0 in x_clashes box.0 box.1 box.2.0

inside : (t : Tree) → Subst (both_pairs assign) (node Op'.Imply (two (holds p) after_a)) t → ⊥
inside t s = clashes assign refl s.0 s.1

inside_any : (t : Tree) → Subst (both_pairs anything) (node Op'.Imply (two (holds p) after_a)) t → ⊥
inside_any t s = clashes anything refl s.0 s.1
