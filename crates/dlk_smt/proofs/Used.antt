-- What an expression uses is a variable that is free in its tree, or a function that stands there.
use Rattle.std.proofs.Common.{◌≡◌, ◌⊎◌, inl, inr, ℕ, zero, suc, ◌==◌, Bool, true, false, ◌||◌, ◌&&◌, not, cond, List, ◌++◌, Option, Some}
use Rattle.std.proofs.Common.{None, refl, sym, ap, ◌∙◌, codes}
use Rattle.std.specs.Bool.{Decides}
use Rattle.std.specs.Str.{bytes_eq}
use Rattle.std.proofs.lemmas.Slice.Eq.{bytes_eq-Decides}
use Rattle.std.proofs.lemmas.Bool.{or_right}
use Rattle.dlk_tree.specs.Tests.{var_eq}
use Rattle.dlk_tree.specs.Trees.{Tree, node, Forest, no_kids, kid}
use Rattle.dlk_tree.specs.Statics.{free, plain, sets_all, free_in_kids}
use Rattle.dlk_tree.specs.declared.op.Var.{Var}
use Rattle.dlk_tree.specs.declared.op.Op.{Op}
use Rattle.dlk_tree.specs.declared.op.Op.TheVariants as op
use Rattle.dlk_tree.proofs.Same.{var_eq_decides}
use Rattle.dlk_smt.specs.Smt.{Expr, Exprs, none, next, symbol, call, bind, uses, any_uses, first, times, power, base_symbol, variable_symbol}
use Rattle.dlk_smt.specs.Smt.{function_symbol, exponent, translated, expression, expressions, denied, own_variables, own_functions, everywhere}
use Rattle.dlk_smt.specs.Smt.{everywhere_in}
use Rattle.dlk_smt.proofs.Members.{Has, Has-left, Has-right}

-- x is the symbol of a variable of the set that stands in the one list, or of a function that stands in the other
abbrev pub Names : List ℕ → (Var → Bool) → List Var → List (List ℕ) → Type 0
Names x set vars funs = ((v : Var) × (x ≡ variable_symbol v) × (set v ≡ true) × Has v vars) ⊎ ((g : List ℕ) × (x ≡ function_symbol g) × Has g funs)

either : {A : Type 0} (a b : Bool) → (a || b) ≡ true → (a ≡ true → A) → (b ≡ true → A) → A
either true b e f g = f refl
either false b e f g = g e

false_true : {A : Type 0} → false ≡ true → A
false_true e = absurd cc

times_uses : (x s : List ℕ) (n : ℕ) → any_uses x (times n (symbol s)) ≡ true → bytes_eq x s ≡ true
times_uses x s zero e = false_true e
times_uses x s (suc n) e = either (bytes_eq x s) (any_uses x (times n (symbol s))) e (λ h. h) (times_uses x s n)

never : {A : Type 0} (b a : Bool) → (a ≡ true → b ≡ true) → cond b false a ≡ true → A
never true a f e = false_true e
never false true f e = false_true (f refl)
never false false f e = false_true e

power_uses : (x : List ℕ) (m : Option ℕ) (e : Expr) → uses x (power m e) ≡ true → uses x e ≡ true
power_uses x None e h = false_true h
power_uses x (Some n) e h = by (n == 1) h
  where
    by : (b : Bool) → uses x (cond b e (bind base_symbol e (call (codes "*") (times n (symbol base_symbol))))) ≡ true → uses x e ≡ true
    by true h = h
    by false h = either (uses x e) (cond (bytes_eq x base_symbol) false (any_uses x (times n (symbol base_symbol)))) h (λ u. u)
        (never (bytes_eq x base_symbol) (any_uses x (times n (symbol base_symbol))) (times_uses x base_symbol n))

first_uses : (x : List ℕ) (es : Exprs) → uses x (first es) ≡ true → any_uses x es ≡ true
first_uses x none h = false_true h
first_uses x (next e es) h = ap (λ b. b || any_uses x es) h

outside : (b a : Bool) → cond b false a ≡ true → (b ≡ false) × (a ≡ true)
outside true a e = false_true e
outside false a e = (refl, e)

other : (b : Bool) {A : Type 0} → Decides b A → (A → ⊥) → b ≡ false
other true d h = absurd (h (d.0 refl))
other false d h = refl

true_false : {b : Bool} → b ≡ true → b ≡ false → ⊥
true_false {b} t f = let wrong : true ≡ false = sym t ∙ f in absurd cc

-- a quantifier over y
unbound : (x y : List ℕ) (kids : Forest)
    → Names x (free_in_kids (sets_all kids)) (everywhere_in own_variables kids) (everywhere_in own_functions kids)
    → bytes_eq x (variable_symbol (plain y)) ≡ false
    → Names x (λ v. free_in_kids (sets_all kids) v && not (var_eq v (plain y))) (everywhere_in own_variables kids) (everywhere_in own_functions kids)
unbound x y kids (inr g) f = inr g
unbound x y kids (inl (v, e, is_free, there)) f =
    let apart : var_eq v (plain y) ≡ false = other (var_eq v (plain y)) (var_eq_decides v (plain y))
    (λ same. true_false ((bytes_eq-Decides x (variable_symbol (plain y))).1 (e ∙ ap variable_symbol same)) f) in
    inl (v, e, (λ i. is_free i && not (apart i)), there)

quantified : (x y : List ℕ) (kids : Forest)
    → (any_uses x (expressions kids) ≡ true → Names x (free_in_kids (sets_all kids)) (everywhere_in own_variables kids) (everywhere_in own_functions kids))
    → cond (bytes_eq x (variable_symbol (plain y))) false (uses x (first (expressions kids))) ≡ true
    → Names x (λ v. free_in_kids (sets_all kids) v && not (var_eq v (plain y))) (everywhere_in own_variables kids) (everywhere_in own_functions kids)
quantified x y kids ih h =
    let free_there = outside (bytes_eq x (variable_symbol (plain y))) (uses x (first (expressions kids))) h in
    unbound x y kids (ih (first_uses x (expressions kids) free_there.1)) free_there.0

by_op : (o : Op) (kids : Forest) (x : List ℕ)
    → (any_uses x (expressions kids) ≡ true → Names x (free_in_kids (sets_all kids)) (everywhere_in own_variables kids) (everywhere_in own_functions kids))
    → uses x (translated o kids (expressions kids)) ≡ true
    → Names x (free (node o kids)) (own_variables o ++ everywhere_in own_variables kids) (own_functions o ++ everywhere_in own_functions kids)
by_op (op.Variable v) kids x ih h = inl (v, (bytes_eq-Decides x (variable_symbol v)).0 h, (var_eq_decides v v).1 refl, inl refl)
by_op (op.Number n) kids x ih h = false_true h
by_op (op.Dot n) kids x ih h = false_true h
by_op (op.UnitFun s) kids x ih h = false_true h
by_op (op.Apply s) kids x ih h = inr (s.name, (bytes_eq-Decides x (function_symbol s.name)).0 h, inl refl)
by_op op.Neg kids x ih h = ih h
by_op op.Diff kids x ih h = false_true h
by_op op.Add kids x ih h = ih h
by_op op.Sub kids x ih h = ih h
by_op op.Mul kids x ih h = ih h
by_op op.Div kids x ih h = ih h
by_op op.Pow kids x ih h = ih (first_uses x (expressions kids) (power_uses x (exponent kids) (first (expressions kids)) h))
by_op op.True kids x ih h = false_true h
by_op op.False kids x ih h = false_true h
by_op op.Hole kids x ih h = false_true h
by_op (op.UnitPred s) kids x ih h = false_true h
by_op (op.Holds s) kids x ih h = false_true h
by_op op.Eq kids x ih h = ih h
by_op op.Ne kids x ih h = ih (either (any_uses x (expressions kids)) false h (λ u. u) false_true)
by_op op.Ge kids x ih h = ih h
by_op op.Gt kids x ih h = ih h
by_op op.Le kids x ih h = ih h
by_op op.Lt kids x ih h = ih h
by_op (op.Predicational s) kids x ih h = false_true h
by_op op.Not kids x ih h = ih h
by_op op.DiffF kids x ih h = false_true h
by_op (op.Forall y) kids x ih h = quantified x y kids ih h
by_op (op.Exists y) kids x ih h = quantified x y kids ih h
by_op op.And kids x ih h = ih h
by_op op.Or kids x ih h = ih h
by_op op.Imply kids x ih h = ih h
by_op op.Equiv kids x ih h = ih h
by_op op.Box kids x ih h = false_true h
by_op op.Dia kids x ih h = false_true h
by_op (op.Const s) kids x ih h = false_true h
by_op (op.Assign v) kids x ih h = false_true h
by_op (op.Any y) kids x ih h = false_true h
by_op op.Test kids x ih h = false_true h
by_op (op.System items) kids x ih h = false_true h
by_op op.Choice kids x ih h = false_true h
by_op op.Seq kids x ih h = false_true h
by_op op.Loop kids x ih h = false_true h

in_first : (x : List ℕ) (t : Tree) (rest : Forest) → Names x (free t) (everywhere own_variables t) (everywhere own_functions t)
    → Names x (free_in_kids (sets_all (kid t rest))) (everywhere_in own_variables (kid t rest)) (everywhere_in own_functions (kid t rest))
in_first x t rest (inl (v, e, is_free, there)) = inl (
  v,
  e,
  ap (λ b. b || free_in_kids (sets_all rest) v) is_free,
  Has-left v
      (everywhere own_variables t) (everywhere_in own_variables rest) there,
)
in_first x t rest (inr (g, e, there)) = inr (g, e, Has-left g (everywhere own_functions t) (everywhere_in own_functions rest) there)

in_rest : (x : List ℕ) (t : Tree) (rest : Forest)
    → Names x (free_in_kids (sets_all rest)) (everywhere_in own_variables rest) (everywhere_in own_functions rest)
    → Names x (free_in_kids (sets_all (kid t rest))) (everywhere_in own_variables (kid t rest)) (everywhere_in own_functions (kid t rest))
in_rest x t rest (inl (v, e, is_free, there)) = inl (
  v,
  e,
  or_right (free t v) _ is_free,
  Has-right v (everywhere own_variables t)
      (everywhere_in own_variables rest) there,
)
in_rest x t rest (inr (g, e, there)) = inr (g, e, Has-right g (everywhere own_functions t) (everywhere_in own_functions rest) there)

mutual
  pub used : (t : Tree) (x : List ℕ) → uses x (expression t) ≡ true → Names x (free t) (everywhere own_variables t) (everywhere own_functions t)
  used (node o kids) x h = by_op o kids x (used_all kids x) h

  used_all : (kids : Forest) (x : List ℕ) → any_uses x (expressions kids) ≡ true
      → Names x (free_in_kids (sets_all kids)) (everywhere_in own_variables kids) (everywhere_in own_functions kids)
  used_all no_kids x h = false_true h
  used_all (kid t rest) x h = either (uses x (expression t)) (any_uses x (expressions rest)) h (λ u. in_first x t rest (used t x u))
      (λ u. in_rest x t rest (used_all rest x u))

pub denied_uses : (t : Tree) (x : List ℕ) → uses x (denied t) ≡ true → uses x (expression t) ≡ true
denied_uses t x h = either (uses x (expression t)) false h (λ u. u) false_true
