-- Sequents of arithmetic as SMT-LIB text: a script that asserts each formula on the left, and that each on the right is false.
use Rattle.std.specs.Prelude.{ℕ, zero, suc, ◌+◌, ◌==◌, Bool, true, false, ◌&&◌, ◌||◌, if◌then◌else◌, List, [], ◌∷◌, ◌++◌, map, filter, Option, Some}
use Rattle.std.specs.Prelude.{None, is_none, codes, decimal}
use Rattle.std.specs.List.{list_any}
use Rattle.std.specs.Str.{bytes_eq}
use Rattle.std.specs.declared.cmp.Ordering.{Ordering}
use Rattle.std.specs.Ordering.{nat_cmp}
use Rattle.std.specs.Cmp.Lexicographic.{slice_cmp}
use Rattle.std.specs.BTreeSet.{insert_key}
use Rattle.dlk_tree.specs.Names.{is_between}
use Rattle.dlk_tree.specs.Listed.{var_cmp}
use Rattle.dlk_tree.specs.Statics.{free, plain}
use Rattle.dlk_tree.specs.Trees.{Tree, node, root, Forest, no_kids, kid, forest}
use Rattle.dlk_tree.specs.declared.op.Num.{Num}
use Rattle.dlk_tree.specs.declared.op.Var.{Var}
use Rattle.dlk_tree.specs.declared.op.Op.{Op}
use Rattle.dlk_tree.specs.declared.op.Op.TheVariants as op
use Rattle.dlk_calculus.specs.Sequents.{Sequent}
use Rattle.dlk_grammar.specs.Shown.{literal}
pub use Rattle.dlk_print.specs.Lines.{line}

-- ---- expressions

-- an expression of SMT-LIB. Symbols are bytes, with their bars.
mutual
  pub data Expr : Type 0 where
    constant : List ℕ → Expr  -- a number, `true` or `false`
    symbol : List ℕ → Expr
    call : List ℕ → Exprs → Expr  -- (word A B ..)
    bind : List ℕ → Expr → Expr → Expr  -- (let ((symbol A)) B)
    quantify : List ℕ → List ℕ → Expr → Expr  -- (word ((symbol Real)) F)

  pub data Exprs : Type 0 where
    none : Exprs
    next : Expr → Exprs → Exprs

-- the text of an expression, and the texts of several, each behind a space
abbrev mutual
  pub shown : Expr → List ℕ
  shown (constant text) = text
  shown (symbol s) = s
  shown (call word es) = codes "(" ++ (word ++ (shown_all es ++ codes ")"))
  shown (bind s e f) = codes "(let ((" ++ (s ++ (codes " " ++ (shown e ++ (codes ")) " ++ (shown f ++ codes ")")))))
  shown (quantify word s f) = codes "(" ++ (word ++ (codes " ((" ++ (s ++ (codes " Real)) " ++ (shown f ++ codes ")")))))

  pub shown_all : Exprs → List ℕ
  shown_all none = []
  shown_all (next e es) = codes " " ++ (shown e ++ shown_all es)

-- the symbol stands in the expression outside what binds it
abbrev mutual
  pub uses : List ℕ → Expr → Bool
  uses s (constant text) = false
  uses s (symbol t) = bytes_eq s t
  uses s (call word es) = any_uses s es
  uses s (bind t e f) = uses s e || (if bytes_eq s t then false else uses s f)
  uses s (quantify word t f) = if bytes_eq s t then false else uses s f

  pub any_uses : List ℕ → Exprs → Bool
  any_uses s none = false
  any_uses s (next e es) = uses s e || any_uses s es

-- ---- the translation

-- |v.x|, and |v.x'| for a primed variable
abbrev pub variable_symbol : Var → List ℕ
variable_symbol v = codes "|v." ++ (v.name ++ (if v.primed then codes "'|" else codes "|"))

-- |f.g|
abbrev pub function_symbol : List ℕ → List ℕ
function_symbol g = codes "|f." ++ (g ++ codes "|")

-- |e|, the name of a power's base
abbrev pub base_symbol : List ℕ
base_symbol = codes "|e|"

-- a number as a real: its canonical text, with `.0` behind a whole one
abbrev pub real : Num → List ℕ
real n = literal n ++ (if n.scale == 0 then codes ".0" else [])

-- what no sequent of arithmetic has has no text
abbrev pub no_expr : Expr
no_expr = constant []

abbrev pub first : Exprs → Expr
first none = no_expr
first (next e es) = e

abbrev pub negation : Exprs → Expr
negation es = call (codes "not") es

abbrev pub times : ℕ → Expr → Exprs
times zero e = none
times (suc n) e = next e (times n e)

-- a power with this exponent: the base is named, and multiplied so often
abbrev pub power : Option ℕ → Expr → Expr
power None e = no_expr
power (Some n) e = if n == 1 then e else bind base_symbol e (call (codes "*") (times n (symbol base_symbol)))

-- a whole literal from 1 to 16
abbrev pub small_whole : Op → Option ℕ
small_whole (op.Number n) = if n.scale == 0 && is_between 1 16 n.digits then Some n.digits else None
small_whole _ = None

-- the exponent among a power's kids
abbrev pub exponent : Forest → Option ℕ
exponent no_kids = None
exponent (kid base no_kids) = None
exponent (kid base (kid t rest)) = small_whole (root t)

-- the table of operators of arithmetic: the expression of each over these kids, whose expressions are these; an operator that isn't here
-- has none
abbrev pub translated : Op → Forest → Exprs → Expr
translated (op.Variable v) kids es = symbol (variable_symbol v)
translated (op.Apply s) kids es = symbol (function_symbol s.name)
translated (op.Number n) kids es = constant (real n)
translated op.Neg kids es = call (codes "-") es
translated op.Add kids es = call (codes "+") es
translated op.Sub kids es = call (codes "-") es
translated op.Mul kids es = call (codes "*") es
translated op.Div kids es = call (codes "/") es
translated op.Pow kids es = power (exponent kids) (first es)
translated op.Eq kids es = call (codes "=") es
translated op.Ne kids es = negation (next (call (codes "=") es) none)
translated op.Ge kids es = call (codes ">=") es
translated op.Gt kids es = call (codes ">") es
translated op.Le kids es = call (codes "<=") es
translated op.Lt kids es = call (codes "<") es
translated op.True kids es = constant (codes "true")
translated op.False kids es = constant (codes "false")
translated op.Not kids es = negation es
translated op.And kids es = call (codes "and") es
translated op.Or kids es = call (codes "or") es
translated op.Imply kids es = call (codes "=>") es
translated op.Equiv kids es = call (codes "=") es
translated (op.Forall x) kids es = quantify (codes "forall") (variable_symbol (plain x)) (first es)
translated (op.Exists x) kids es = quantify (codes "exists") (variable_symbol (plain x)) (first es)
translated _ kids es = no_expr

abbrev mutual
  pub expression : Tree → Expr
  expression (node o kids) = translated o kids (expressions kids)

  pub expressions : Forest → Exprs
  expressions no_kids = none
  expressions (kid t rest) = next (expression t) (expressions rest)

-- ---- powers that have no text

abbrev pub is_other_power : Op → Forest → Bool
is_other_power op.Pow kids = is_none (exponent kids)
is_other_power _ kids = false

-- a `^` has another exponent than a whole literal from 1 to 16
abbrev mutual
  pub has_other_power : Tree → Bool
  has_other_power (node o kids) = is_other_power o kids || any_has_other_power kids

  pub any_has_other_power : Forest → Bool
  any_has_other_power no_kids = false
  any_has_other_power (kid t rest) = has_other_power t || any_has_other_power rest

abbrev pub in_some_formula : (Tree → Bool) → Sequent → Bool
in_some_formula test s = list_any test s.ante || list_any test s.succ

abbrev pub is_power : Sequent → Bool
is_power s = in_some_formula has_other_power s

-- the number of the first sequent with one, from i on
abbrev pub first_power : ℕ → List Sequent → Option ℕ
first_power i [] = None
first_power i (s ∷ ss) = if is_power s then Some i else first_power (i + 1) ss

-- ---- what is declared

-- the variable that an operator is, and the name of the function that it is, if it is one
abbrev pub own_variables : Op → List Var
own_variables (op.Variable v) = v ∷ []
own_variables _ = []

abbrev pub own_functions : Op → List (List ℕ)
own_functions (op.Apply s) = s.name ∷ []
own_functions _ = []

abbrev mutual
  pub everywhere : {A : Type 0} → (Op → List A) → Tree → List A
  everywhere own (node o kids) = own o ++ everywhere_in own kids

  pub everywhere_in : {A : Type 0} → (Op → List A) → Forest → List A
  everywhere_in own no_kids = []
  everywhere_in own (kid t rest) = everywhere own t ++ everywhere_in own rest

abbrev pub in_formulas : {A : Type 0} → (Op → List A) → Sequent → List A
in_formulas own s = everywhere_in own (forest s.ante) ++ everywhere_in own (forest s.succ)

-- the keys, each once, put in order among those that are there
abbrev pub put_all : {A : Type 0} → (A → A → Ordering) → List A → List A → List A
put_all cmp keys [] = keys
put_all cmp keys (k ∷ ks) = put_all cmp (insert_key cmp keys k) ks

-- the variables that are free in some formula, in order of name bytes and the unprimed first
abbrev pub free_variables : Sequent → List Var
free_variables s = filter (λ v. in_some_formula (λ t. free t v) s) (put_all var_cmp [] (in_formulas own_variables s))

-- the functions, in order of name bytes
abbrev pub functions : Sequent → List (List ℕ)
functions s = put_all (slice_cmp nat_cmp) [] (in_formulas own_functions s)

-- ---- scripts

-- that the formula is false
abbrev pub denied : Tree → Expr
denied t = negation (next (expression t) none)

-- the symbols that a sequent's script declares: its free variables, and then its functions
abbrev pub declared : Sequent → List (List ℕ)
declared s = map variable_symbol (free_variables s) ++ map function_symbol (functions s)

-- the expressions that it asserts: each formula on the left, and that each on the right is false
abbrev pub asserted : Sequent → List Expr
asserted s = map expression s.ante ++ map denied s.succ

abbrev pub declaration : List ℕ → List ℕ
declaration s = line (codes "(declare-const " ++ (s ++ codes " Real)"))

abbrev pub declarations : List (List ℕ) → List ℕ
declarations [] = []
declarations (s ∷ ss) = declaration s ++ declarations ss

abbrev pub assertion : Expr → List ℕ
assertion e = line (codes "(assert " ++ (shown e ++ codes ")"))

abbrev pub assertions : List Expr → List ℕ
assertions [] = []
assertions (e ∷ es) = assertion e ++ assertions es

-- the text of one sequent
abbrev pub smt : Sequent → List ℕ
smt s = line (codes "(set-logic NRA)") ++ (declarations (declared s) ++ (assertions (asserted s) ++ line (codes "(check-sat)")))

-- the text of leaf i of several: from the second on the solver forgets the ones before
abbrev pub leaf_lines : ℕ → Sequent → List ℕ
leaf_lines i s = line (codes "; leaf " ++ decimal i) ++ ((if i == 1 then [] else line (codes "(reset)")) ++ smt s)

-- the text of several leaves, one script, from number i on
abbrev pub leaves_lines : ℕ → List Sequent → List ℕ
leaves_lines i [] = []
leaves_lines i (s ∷ ss) = leaf_lines i s ++ leaves_lines (i + 1) ss
