-- Node lines, by computation.
use Rattle.std.specs.Prelude.{◌≡◌, List, [], ◌∷◌, Some, None, codes, refl, false, true}
use Rattle.std.specs.Fmt.{digits}
use Rattle.dlk_tree.specs.Trees.{Tree, node, forest}
use Rattle.dlk_tree.specs.declared.op.Op.TheVariants as op
use Rattle.dlk_tree.specs.declared.op.Kind.TheVariants.{Func, UnitFunc, Ode}
use Rattle.dlk_tree.specs.declared.op.OdeItem.TheVariants.{Evolve, Const}
use Rattle.dlk_calculus.specs.Rules.{ImplyR, Close, CutR}
use Rattle.dlk_calculus.specs.Steps.{Step, Start, Apply, Substitute}
use Rattle.dlk_nodes.specs.Words.{op_text}
use Rattle.dlk_nodes.specs.Written.{node_text}
use Rattle.dlk_nodes.specs.Terms.{new_nodes}
use Rattle.dlk_nodes.specs.TermFiles.{term_text}

-- x >= 0 -> x >= 0

x : Tree
x = node (op.Variable (record { name = codes "x"; primed = false })) (forest [])

zero : Tree
zero = node (op.Number (record { digits = 0; scale = 0 })) (forest [])

at_least : Tree
at_least = node op.Ge (forest (x ∷ zero ∷ []))

model : Tree
model = node op.Imply (forest (at_least ∷ at_least ∷ []))

-- a formula that stands twice has one node
its_nodes : new_nodes [] model ≡ x ∷ zero ∷ at_least ∷ model ∷ []
unfolding model at_least zero x
its_nodes = refl

first_line : node_text [] x ≡ codes "node 1 var x"
unfolding digits x
first_line = refl

second_line : node_text (x ∷ []) zero ≡ codes "node 2 num 0"
unfolding digits x zero
second_line = refl

third_line : node_text (x ∷ zero ∷ []) at_least ≡ codes "node 3 ge 1 2"
unfolding digits at_least zero x
third_line = refl

fourth_line : node_text (x ∷ zero ∷ at_least ∷ []) model ≡ codes "node 4 imply 3 3"
unfolding digits model at_least zero x
fourth_line = refl

-- details

primed : op_text (op.Variable (record { name = codes "x"; primed = true })) ≡ codes "var x'"
primed = refl

fraction : op_text (op.Number (record { digits = 105; scale = 2 })) ≡ codes "num 1.05"
unfolding digits
fraction = refl

unit : op_text (op.UnitFun (record { kind = UnitFunc; name = codes "f"; arity = 0; taboo = Some (codes "y") })) ≡ codes "ufun f|y|"
unit = refl

system : op_text (op.System (Evolve (codes "x") ∷ Const (record { kind = Ode; name = codes "c"; arity = 0; taboo = Some (codes "y") })
    ∷ Const (record { kind = Ode; name = codes "d"; arity = 0; taboo = None }) ∷ [])) ≡ codes "system x',c{|y|},d"
system = refl

-- whole files

steps : List Step
steps = Start (record { ante = []; succ = model ∷ [] }) ∷ Apply 1 1 (ImplyR 1) ∷ Apply 2 1 (Close 1 1) ∷ []

proved : term_text steps
    ≡ codes "dlk 2\nnode 1 var x\nnode 2 num 0\nnode 3 ge 1 2\nnode 4 imply 3 3\n1 start ==> 4\n2 apply 1 1 implyR(1)\n3 apply 2 1 close(1,1)\ndone\n"
unfolding digits steps model at_least zero x
proved = refl

-- a replacement and the formula of a rule have nodes, too
replaced : term_text (Substitute 1 (record { sym = record { kind = Func; name = codes "f"; arity = 2; taboo = None }; by = x }
    ∷ record { sym = record { kind = UnitFunc; name = codes "g"; arity = 0; taboo = Some (codes "y") }; by = zero } ∷ [])
    ∷ Apply 1 1 (CutR 1 at_least) ∷ [])
    ≡ codes "dlk 2\nnode 1 var x\nnode 2 num 0\n1 subst 1 f(._0,._1)~>1,g(|y|)~>2\nnode 3 ge 1 2\n2 apply 1 1 cutR(1,#3)\ndone\n"
unfolding digits at_least zero x
replaced = refl
