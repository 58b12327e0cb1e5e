-- A text of an operator and its kids says one operator: there is a function that finds it again. One row an operator, and none for two of them.
use Rattle.std.proofs.Common.{◌≡◌, ℕ, ◌<◌, true, List, [], ◌∷◌, ◌++◌, length, Option, Some, None, find, codes, refl, ap, ◌∙◌}
use Rattle.std.specs.List.{join_by}
use Rattle.std.specs.Str.{bytes_eq}
use Rattle.std.specs.Fmt.{decimal}
use Rattle.std.proofs.lemmas.Bool.{and_parts, ltb-true, leb-true}
use Rattle.dlk_tree.specs.declared.op.Num.{Num}
use Rattle.dlk_tree.specs.declared.op.Var.{Var}
use Rattle.dlk_tree.specs.declared.op.Sym.{Sym}
use Rattle.dlk_tree.specs.declared.op.Kind.TheVariants.{Func, UnitFunc, Pred, UnitPred, Quant, Prog}
use Rattle.dlk_tree.specs.declared.op.OdeItem.{OdeItem}
use Rattle.dlk_tree.specs.declared.op.Op.{Op}
use Rattle.dlk_tree.specs.declared.op.Op.TheVariants as op
use Rattle.dlk_tree.specs.Table.{has_parts}
use Rattle.dlk_grammar.specs.Shown.{literal}
use Rattle.dlk_grammar.specs.Tokens.{value}
use Rattle.dlk_nodes.specs.Words.{Detail, NoDetail, Named, OfVariable, OfNumber, OfDot, OfUnit, OfItems, variable_text, unit_text, item_text, call_of}
use Rattle.dlk_nodes.proofs.DotText.{dot_value}
use Rattle.dlk_nodes.specs.Fields.{parts_of}
use Rattle.dlk_nodes.specs.Nodes.{TakesKids}
use Rattle.dlk_nodes.proofs.NumberBack.{number_of, number_back}
use Rattle.dlk_nodes.proofs.OpsBack.{variable_in, variable_back, unit_in, unit_back, called, bare, unit_again, symbol_parts, items_of, items_back}

-- the fields of a detail: one or none
abbrev pub detail_fields : Detail → List (List ℕ)
detail_fields NoDetail = []
detail_fields (Named x) = x ∷ []
detail_fields (OfVariable v) = variable_text v ∷ []
detail_fields (OfNumber n) = literal n ∷ []
detail_fields (OfDot n) = decimal n ∷ []
detail_fields (OfUnit x y) = unit_text x y ∷ []
detail_fields (OfItems items) = join_by item_text (codes ",") items ∷ []

-- what is made of a word's detail and the number of the kids
pub data Maker : Type 0 where
  Plain : Op → Maker
  OfVar : (Var → Op) → Maker
  OfNum : (Num → Op) → Maker
  OfDigit : (ℕ → Op) → Maker
  OfSymbol : (List ℕ × Option (List ℕ) → Op) → Maker
  OfCall : (List ℕ → ℕ → Op) → Maker
  OfList : (List OdeItem → Op) → Maker

abbrev row : List ℕ → Maker → List ℕ × Maker
row word maker = (word, maker)

unfoldable pub makers : List (List ℕ × Maker)
makers =
    row (codes "box") (Plain op.Box) ∷ row (codes "add") (Plain op.Add) ∷ row (codes "mul") (Plain op.Mul) ∷ row (codes "system") (OfList op.System)
    ∷ row (codes "le") (Plain op.Le) ∷ row (codes "imply") (Plain op.Imply) ∷ row (codes "and") (Plain op.And) ∷ row (codes "ge") (Plain op.Ge)
    ∷ row (codes "eq") (Plain op.Eq) ∷ row (codes "sub") (Plain op.Sub) ∷ row (codes "diff") (Plain op.Diff) ∷ row (codes "equiv") (Plain op.Equiv)
    ∷ row (codes "seq") (Plain op.Seq) ∷ row (codes "assign") (OfVar op.Assign) ∷ row (codes "var") (OfVar op.Variable) ∷ row (codes "difff") (Plain op.DiffF)
    ∷ row (codes "app") (OfCall (λ x n. op.Apply (record { kind = Func; name = x; arity = n; taboo = None }))) ∷ row (codes "test") (Plain op.Test)
    ∷ row (codes "forall") (OfCall (λ x n. op.Forall x)) ∷ row (codes "num") (OfNum op.Number) ∷ row (codes "choice") (Plain op.Choice)
    ∷ row (codes "gt") (Plain op.Gt) ∷ row (codes "pow") (Plain op.Pow) ∷ row (codes "div") (Plain op.Div) ∷ row (codes "neg") (Plain op.Neg)
    ∷ row (codes "exists") (OfCall (λ x n. op.Exists x)) ∷ row (codes "hole") (Plain op.Hole) ∷ row (codes "dot") (OfDigit op.Dot)
    ∷ row (codes "true") (Plain op.True) ∷ row (codes "not") (Plain op.Not) ∷ row (codes "loop") (Plain op.Loop) ∷ row (codes "lt") (Plain op.Lt)
    ∷ row (codes "or") (Plain op.Or) ∷ row (codes "ne") (Plain op.Ne) ∷ row (codes "false") (Plain op.False) ∷ row (codes "dia") (Plain op.Dia)
    ∷ row (codes "ufun") (OfSymbol (λ u. op.UnitFun (record { kind = UnitFunc; name = u.0; arity = 0; taboo = u.1 })))
    ∷ row (codes "upred") (OfSymbol (λ u. op.UnitPred (record { kind = UnitPred; name = u.0; arity = 0; taboo = u.1 })))
    ∷ row (codes "holds") (OfCall (λ x n. op.Holds (record { kind = Pred; name = x; arity = n; taboo = None })))
    ∷ row (codes "quant") (OfCall (λ x n. op.Predicational (record { kind = Quant; name = x; arity = 0; taboo = None })))
    ∷ row (codes "const") (OfCall (λ x n. op.Const (record { kind = Prog; name = x; arity = 0; taboo = None })))
    ∷ row (codes "any") (OfCall (λ x n. op.Any x)) ∷ []

-- the operator and what is left for the kids
abbrev made_as : Maker → List (List ℕ) → Option (Op × List (List ℕ))
made_as (Plain o) fields = Some (o, fields)
made_as (OfVar make) [] = None
made_as (OfVar make) (d ∷ kids) = Some (make (variable_in (parts_of 39 d)), kids)
made_as (OfNum make) [] = None
made_as (OfNum make) (d ∷ kids) = Some (make (number_of d), kids)
made_as (OfDigit make) [] = None
made_as (OfDigit make) (d ∷ kids) = Some (make (value d), kids)
made_as (OfSymbol make) [] = None
made_as (OfSymbol make) (d ∷ kids) = Some (make (unit_in (parts_of 124 d)), kids)
made_as (OfCall make) [] = None
made_as (OfCall make) (d ∷ kids) = Some (make d (length kids), kids)
made_as (OfList make) [] = None
made_as (OfList make) (d ∷ kids) = Some (make (items_of (parts_of 44 d)), kids)

abbrev made_by : Option (List ℕ × Maker) → List (List ℕ) → Option (Op × List (List ℕ))
made_by None fields = None
made_by (Some r) fields = made_as r.1 fields

unfoldable pub read_op : List ℕ → List (List ℕ) → Option (Op × List (List ℕ))
read_op word fields = made_by (find (λ (r : List ℕ × Maker). bytes_eq r.0 word) makers) fields

-- an operator with what is left
abbrev pub found : List (List ℕ) → Op → Option (Op × List (List ℕ))
found kids o = Some (o, kids)

of_sym : (make : Sym → Op) (s t : Sym) (kids : List (List ℕ)) → s ≡ t → found kids (make s) ≡ found kids (make t)
of_sym make s t kids e = ap (λ q. found kids (make q)) e

-- an operator is found again, where there are as many fields for kids as it has kids
pub op_back : (o : Op) (kids : List (List ℕ)) → has_parts o ≡ true → TakesKids o (length kids) →
    read_op (call_of o).0 (detail_fields (call_of o).1 ++ kids) ≡ Some (o, kids)
unfolding read_op makers
op_back (op.Variable v) kids h n = ap (λ w. found kids (op.Variable w)) (variable_back v h)
op_back (op.Number m) kids h n = ap (λ w. found kids (op.Number w)) (number_back m h)
op_back (op.Dot m) kids h n = ap (λ w. found kids (op.Dot w)) (let less : m < 8 = ltb-true m 8 h in dot_value m less)
op_back (op.UnitFun s) kids h n =
    ap (λ u. found kids (op.UnitFun (record {
      kind = UnitFunc;
      name = u.0;
      arity = 0;
      taboo =
          u.1;
    }))) (unit_back s.name s.taboo (symbol_parts UnitFunc s h).name_is (symbol_parts UnitFunc s h).taboo_is)
    ∙ of_sym op.UnitFun _ s kids (unit_again UnitFunc s refl h)
op_back (op.Apply s) kids h n = of_sym op.Apply _ s kids (called Func s (length kids) refl n h)
op_back op.Neg kids h n = refl
op_back op.Diff kids h n = refl
op_back op.Add kids h n = refl
op_back op.Sub kids h n = refl
op_back op.Mul kids h n = refl
op_back op.Div kids h n = refl
op_back op.Pow kids h n = refl
op_back op.True kids h n = refl
op_back op.False kids h n = refl
op_back op.Hole kids h n = refl
op_back (op.UnitPred s) kids h n =
    ap (λ u. found kids (op.UnitPred (record {
      kind = UnitPred;
      name = u.0;
      arity = 0;
      taboo =
          u.1;
    }))) (unit_back s.name s.taboo (symbol_parts UnitPred s h).name_is (symbol_parts UnitPred s h).taboo_is)
    ∙ of_sym op.UnitPred _ s kids (unit_again UnitPred s refl h)
op_back (op.Holds s) kids h n = of_sym op.Holds _ s kids (called Pred s (length kids) refl n h)
op_back op.Eq kids h n = refl
op_back op.Ne kids h n = refl
op_back op.Ge kids h n = refl
op_back op.Gt kids h n = refl
op_back op.Le kids h n = refl
op_back op.Lt kids h n = refl
op_back (op.Predicational s) kids h n = of_sym op.Predicational _ s kids (bare Quant s refl refl h)
op_back op.Not kids h n = refl
op_back op.DiffF kids h n = refl
op_back (op.Forall x) kids h n = refl
op_back (op.Exists x) kids h n = refl
op_back op.And kids h n = refl
op_back op.Or kids h n = refl
op_back op.Imply kids h n = refl
op_back op.Equiv kids h n = refl
op_back op.Box kids h n = refl
op_back op.Dia kids h n = refl
op_back (op.Const s) kids h n = of_sym op.Const _ s kids (bare Prog s refl refl h)
op_back (op.Assign v) kids h n = ap (λ w. found kids (op.Assign w)) (variable_back v h)
op_back (op.Any x) kids h n = refl
op_back op.Test kids h n = refl
op_back (op.System items) kids h n =
    let a = and_parts _ _ h in
    let b = and_parts _ _ a.0 in
    let c = and_parts _ _ b.0 in
    ap (λ w. found kids (op.System w)) (items_back items b.1 (leb-true 1 (length items) c.0))
op_back op.Choice kids h n = refl
op_back op.Seq kids h n = refl
op_back op.Loop kids h n = refl
