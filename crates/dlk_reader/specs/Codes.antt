-- A phrase as a list in which each operator stands behind its operands.
use Rattle.std.specs.Prelude.{List, [], ◌∷◌, ◌++◌, true, false}
use Rattle.dlk_tree.specs.declared.op.Kind.TheVariants.{UnitFunc, UnitPred, Quant, Prog}
use Rattle.dlk_tree.specs.declared.op.Op.TheVariants as op
use Rattle.dlk_grammar.specs.Phrases.{Everywhere, Phrase, Literal, Argument, Variable, Apply, Negate, Diff, Truth, Falsity, Hole, Holds, Context, Not}
use Rattle.dlk_grammar.specs.Phrases.{DiffF, Forall, Exists, Box, Dia, Binary, Const, Assign, AssignAny, Test, Then, Loop, System, Noted, Phrases}
use Rattle.dlk_grammar.specs.Phrases.{none, snoc, Call, Any, Evolve, Flow, Items, no_items, add}
use Rattle.dlk_grammar.specs.Erased.{symbol, ode_items, infix_op, count}
use Rattle.dlk_reader.specs.declared.code.Code.{Code}
use Rattle.dlk_reader.specs.declared.code.Code.TheVariants as code

abbrev mutual
  pub postfix : Phrase → List Code
  postfix (Literal d) = code.Operator (op.Number d) ∷ []
  postfix (Argument n) = code.Operator (op.Dot n) ∷ []
  postfix (Variable x primed) = code.Operator (op.Variable (record { name = x; primed = primed })) ∷ []
  postfix (Apply (Call n x l)) = postfix_all l ++ code.Call false n x (count l) ∷ []
  postfix (Apply (Any x s)) = code.Operator (op.UnitFun (symbol UnitFunc x 0 s)) ∷ []
  postfix (Negate a) = postfix a ++ code.Operator op.Neg ∷ []
  postfix (Diff a) = postfix a ++ code.Operator op.Diff ∷ []
  postfix Truth = code.Operator op.True ∷ []
  postfix Falsity = code.Operator op.False ∷ []
  postfix Hole = code.Operator op.Hole ∷ []
  postfix (Holds (Call n x l)) = postfix_all l ++ code.Call true n x (count l) ∷ []
  postfix (Holds (Any x s)) = code.Operator (op.UnitPred (symbol UnitPred x 0 s)) ∷ []
  postfix (Context x a) = postfix a ++ code.Operator (op.Predicational (symbol Quant x 0 Everywhere)) ∷ []
  postfix (Not a) = postfix a ++ code.Operator op.Not ∷ []
  postfix (DiffF a) = postfix a ++ code.Operator op.DiffF ∷ []
  postfix (Forall x a) = postfix a ++ code.Operator (op.Forall x) ∷ []
  postfix (Exists x a) = postfix a ++ code.Operator (op.Exists x) ∷ []
  postfix (Box p a) = postfix p ++ (postfix a ++ code.Operator op.Box ∷ [])
  postfix (Dia p a) = postfix p ++ (postfix a ++ code.Operator op.Dia ∷ [])
  postfix (Binary o a b) = postfix a ++ (postfix b ++ code.Operator (infix_op o) ∷ [])
  postfix (Const x) = code.Operator (op.Const (symbol Prog x 0 Everywhere)) ∷ []
  postfix (Assign x primed a) = postfix a ++ code.Operator (op.Assign (record { name = x; primed = primed })) ∷ []
  postfix (AssignAny x) = code.Operator (op.Any x) ∷ []
  postfix (Test a) = postfix a ++ code.Operator op.Test ∷ []
  postfix (Then p q) = postfix p ++ (postfix q ++ code.Operator op.Seq ∷ [])
  postfix (Loop p) = postfix p ++ code.Operator op.Loop ∷ []
  postfix (System n l a) = postfix_terms l ++ (postfix a ++ code.System n (ode_items l) ∷ [])
  postfix (Noted p l) = postfix p ++ (code.Notes ∷ (postfix_all l ++ code.EndNotes (count l) ∷ []))

  pub postfix_all : Phrases → List Code
  postfix_all none = []
  postfix_all (snoc l a) = postfix_all l ++ postfix a

  pub postfix_terms : Items → List Code
  postfix_terms no_items = []
  postfix_terms (add l (Evolve x a)) = postfix_terms l ++ postfix a
  postfix_terms (add l (Flow x s)) = postfix_terms l
