-- Texts of symbols.
use Rattle.std.specs.Prelude.{◌≡◌, ℕ, List, Option, Some, None, codes, refl}
use Rattle.std.specs.Fmt.{digits}
use Rattle.dlk_tree.specs.declared.op.Kind.{Kind}
use Rattle.dlk_tree.specs.declared.op.Kind.TheVariants.{Func, UnitFunc, Pred, UnitPred, Quant, Prog, Ode}
use Rattle.dlk_grammar.specs.Shown.{spell}
use Rattle.dlk_grammar.specs.Symbols.{shown_symbol}

abbrev text : Kind → List ℕ → ℕ → Option (List ℕ) → List ℕ
text kind name arity taboo = spell (shown_symbol (record { kind = kind; name = name; arity = arity; taboo = taboo }))

constant_function : text Func (codes "f") 0 None ≡ codes "f()"
constant_function = refl

function_of_two : text Func (codes "f") 2 None ≡ codes "f(._0,._1)"
unfolding digits
function_of_two = refl

predicate : text Pred (codes "p") 1 None ≡ codes "p(._0)"
unfolding digits
predicate = refl

unit_function : text UnitFunc (codes "f") 0 None ≡ codes "f(||)"
unit_function = refl

unit_predicate : text UnitPred (codes "p") 0 (Some (codes "y")) ≡ codes "p(|y|)"
unit_predicate = refl

predicational : text Quant (codes "C") 0 None ≡ codes "C{_}"
predicational = refl

program : text Prog (codes "a") 0 None ≡ codes "a;"
program = refl

ode : text Ode (codes "c") 0 None ≡ codes "{c}"
ode = refl

ode_with_taboo : text Ode (codes "c") 0 (Some (codes "y")) ≡ codes "{c{|y|}}"
ode_with_taboo = refl
