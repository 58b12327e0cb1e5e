-- Examples of renaming and of rules.
use Rattle.std.specs.Prelude.{◌≡◌, ℕ, refl, List, [], ◌∷◌, true, false, ◌||◌, Some, None, codes}
use Rattle.dlk_tree.specs.declared.op.Sym.{Sym}
use Rattle.dlk_tree.specs.declared.op.Kind.TheVariants.{Pred, UnitPred, Prog, Ode}
use Rattle.dlk_tree.specs.declared.op.OdeItem.TheVariants as Item
use Rattle.dlk_tree.specs.declared.op.Op.{Op}
use Rattle.dlk_tree.specs.declared.op.Op.TheVariants as Op'
use Rattle.dlk_tree.specs.Trees.{Tree, node, Forest, no_kids, kid}
use Rattle.dlk_tree.specs.Statics.{free, plain, prime}
use Rattle.dlk_calculus.specs.Sequents.{◌==>◌}
use Rattle.dlk_calculus.specs.Rename.{swap, may_rename, RenamesBound, in_box}
use Rattle.dlk_calculus.specs.Notation.{leaf, negation, conj, disj, exists}
use Rattle.dlk_calculus.specs.Rules.{Close, CloseTrue, CloseFalse, NotL, NotR, AndL, AndR, OrL, OrR, ImplyL, ImplyR, EquivL, EquivR, Cut, CutL, CutR}
use Rattle.dlk_calculus.specs.Rules.{HideL, HideR, CoHideR, ExchangeL, ExchangeR, SkolemL, SkolemR, BoundL, BoundR, EquivifyR, CommuteEquivL}
use Rattle.dlk_calculus.specs.Rules.{CommuteEquivR, imply, equiv, figure}

abbrev one : Tree → Forest
one t = kid t no_kids

abbrev two : Tree → Tree → Forest
two s t = kid s (one t)

abbrev x : List ℕ
x = codes "x"

abbrev y : List ℕ
y = codes "y"

abbrev variable : List ℕ → Tree
variable name = leaf (Op'.Variable (plain name))

-- s>t
abbrev greater : Tree → Tree → Tree
greater s t = node Op'.Gt (two s t)

abbrev forall : List ℕ → Tree → Tree
forall name f = node (Op'.Forall name) (one f)

-- [name:=e;]f
abbrev assigned_box : List ℕ → Tree → Tree → Tree
assigned_box name e f = node Op'.Box (two (node (Op'.Assign (plain name)) (one e)) f)

-- p(|name|)
abbrev all_but : List ℕ → Tree
all_but name = leaf (Op'.UnitPred (record { kind = UnitPred; name = codes "p"; arity = 0; taboo = Some name }))

-- p()
abbrev predicate : List ℕ → Tree
predicate name = leaf (Op'.Holds (record { kind = Pred; name = name; arity = 0; taboo = None }))

-- a;
abbrev program : Tree
program = leaf (Op'.Const (record { kind = Prog; name = codes "a"; arity = 0; taboo = None }))

-- ---- two names exchanged

-- \forall x x>y becomes \forall y y>x
swaps_binders : swap x y (forall x (greater (variable x) (variable y))) ≡ forall y (greater (variable y) (variable x))
swaps_binders = refl

-- p(|x|) becomes p(|y|), and a predicate named x stays
swaps_taboos : swap x y (all_but x) ≡ all_but y
swaps_taboos = refl

keeps_symbols : swap x y (predicate x) ≡ predicate x
keeps_symbols = refl

-- {x'=y,c{|x|}} becomes {y'=x,c{|y|}}
abbrev constant : List ℕ → Sym
constant name = record { kind = Ode; name = codes "c"; arity = 0; taboo = Some name }

abbrev system : List ℕ → List ℕ → Tree
system v w = node (Op'.System (Item.Evolve v ∷ Item.Const (constant v) ∷ [])) (two (variable w) (leaf Op'.True))

swaps_systems : swap x y (system x y) ≡ system y x
swaps_systems = refl

-- x:=*; becomes y:=*;
abbrev any_of : List ℕ → Tree
any_of name = leaf (Op'.Any name)

swaps_any : swap x y (any_of x) ≡ any_of y
swaps_any = refl

-- ---- bound variables

-- [x:=x;]x>x becomes [y:=x;]y>y: the term stays
renames_assignments :
    RenamesBound x y (greater (variable x) (variable x)) (assigned_box x (variable x) (greater (variable x) (variable x)))
    (assigned_box y (variable x) (greater (variable y) (variable y)))
renames_assignments = in_box (variable x)

-- [x':=y;]x binds no variable that can have another name, and <a;>x and [x:=*;]x neither
no_primed_binder : (z : List ℕ) (f u : Tree) → ¬ RenamesBound z y f (node Op'.Box (two (node (Op'.Assign (prime x)) (one (variable y))) (variable x))) u
no_primed_binder z f u p = elim p [ ]

no_constant_binder : (z : List ℕ) (f u : Tree) → ¬ RenamesBound z y f (node Op'.Dia (two program (variable x))) u
no_constant_binder z f u p = elim p [ ]

no_any_binder : (z : List ℕ) (f u : Tree) → ¬ RenamesBound z y f (node Op'.Box (two (any_of x) (variable x))) u
no_any_binder z f u p = elim p [ ]

fresh_name : may_rename x y (greater (variable x) (variable (codes "z"))) ≡ true
fresh_name = refl

-- y is free in x>y, x' in x'>x
free_name : may_rename x y (greater (variable x) (variable y)) ≡ false
free_name = refl

free_prime : may_rename x y (greater (leaf (Op'.Variable (prime x))) (variable x)) ≡ false
free_prime = refl

-- neither y nor y' is free in p(|y|), and yet it is refused: p may read other variables
hidden_variables : may_rename y y (all_but y) ≡ false
hidden_variables = refl

-- [y:=1;y':=1;x':=1;]p(||): y, y' and x' are must-bound before p(||), and yet it is refused
abbrev assign : Op → Tree
assign op = node op (one (leaf (Op'.Number (record { digits = 1; scale = 0 }))))

abbrev assigns_all : Tree
assigns_all = node Op'.Seq (two (assign (Op'.Assign (plain y))) (node Op'.Seq (two (assign (Op'.Assign (prime y))) (assign (Op'.Assign (prime x))))))

abbrev behind_assignments : Tree
behind_assignments = node Op'.Box (two assigns_all (leaf (Op'.UnitPred (record { kind = UnitPred; name = codes "p"; arity = 0; taboo = None }))))

reads_none_of_them : (free behind_assignments (plain y) || free behind_assignments (prime y) || free behind_assignments (prime x)) ≡ false
reads_none_of_them = refl

hidden_behind_assignments : may_rename x y behind_assignments ≡ false
hidden_behind_assignments = refl

-- ---- rules

abbrev p : Tree
p = predicate (codes "p")

abbrev q : Tree
q = predicate (codes "q")

abbrev r : Tree
r = predicate (codes "r")

-- The premises of a sequent, by what stands at the rule's places, each rule once:

-- r, p ==> p has none
closes : (figure (Close 2 1) (r ∷ p ∷ []) (p ∷ [])).premises (p, p) ≡ []
closes = refl

-- r ==> true has none
closes_by_true : (figure (CloseTrue 1) (r ∷ []) (leaf Op'.True ∷ [])).premises tt ≡ []
closes_by_true = refl

-- false ==> r has none
closes_by_false : (figure (CloseFalse 1) (leaf Op'.False ∷ []) (r ∷ [])).premises tt ≡ []
closes_by_false = refl

-- r, !p ==> r has r ==> r, p
negation_left : (figure (NotL 2) (r ∷ negation p ∷ []) (r ∷ [])).premises p ≡ (r ∷ [] ==> r ∷ p ∷ []) ∷ []
negation_left = refl

-- r ==> !p, r has r, p ==> r
negation_right : (figure (NotR 1) (r ∷ []) (negation p ∷ r ∷ [])).premises p ≡ (r ∷ p ∷ [] ==> r ∷ []) ∷ []
negation_right = refl

-- p & q, r ==> r has p, r, q ==> r
and_left : (figure (AndL 1) (conj p q ∷ r ∷ []) (r ∷ [])).premises (p, q) ≡ (p ∷ r ∷ q ∷ [] ==> r ∷ []) ∷ []
and_left = refl

-- r ==> r, p & q has r ==> r, p and r ==> r, q
and_right : (figure (AndR 2) (r ∷ []) (r ∷ conj p q ∷ [])).premises (p, q) ≡ (r ∷ [] ==> r ∷ p ∷ []) ∷ (r ∷ [] ==> r ∷ q ∷ []) ∷ []
and_right = refl

-- r, p | q ==> has r, p ==> and r, q ==>
or_left : (figure (OrL 2) (r ∷ disj p q ∷ []) []).premises (p, q) ≡ (r ∷ p ∷ [] ==> []) ∷ (r ∷ q ∷ [] ==> []) ∷ []
or_left = refl

-- ==> p | q, r has ==> p, r, q
or_right : (figure (OrR 1) [] (disj p q ∷ r ∷ [])).premises (p, q) ≡ ([] ==> p ∷ r ∷ q ∷ []) ∷ []
or_right = refl

-- p -> q, r ==> r has r ==> r, p and q, r ==> r
imply_left : (figure (ImplyL 1) (imply p q ∷ r ∷ []) (r ∷ [])).premises (p, q) ≡ (r ∷ [] ==> r ∷ p ∷ []) ∷ (q ∷ r ∷ [] ==> r ∷ []) ∷ []
imply_left = refl

-- r ==> r, p -> q has r, p ==> r, q
imply_right : (figure (ImplyR 2) (r ∷ []) (r ∷ imply p q ∷ [])).premises (p, q) ≡ (r ∷ p ∷ [] ==> r ∷ q ∷ []) ∷ []
imply_right = refl

-- p <-> q, r ==> has p -> q, r, q -> p ==>
equiv_left : (figure (EquivL 1) (equiv p q ∷ r ∷ []) []).premises (p, q) ≡ (imply p q ∷ r ∷ imply q p ∷ [] ==> []) ∷ []
equiv_left = refl

-- ==> p <-> q, r has ==> p -> q, r and ==> q -> p, r
equiv_right : (figure (EquivR 1) [] (equiv p q ∷ r ∷ [])).premises (p, q) ≡ ([] ==> imply p q ∷ r ∷ []) ∷ ([] ==> imply q p ∷ r ∷ []) ∷ []
equiv_right = refl

-- p ==> r cut with q has p, q ==> r and p ==> r, q
cuts : (figure (Cut q) (p ∷ []) (r ∷ [])).premises tt ≡ (p ∷ q ∷ [] ==> r ∷ []) ∷ (p ∷ [] ==> r ∷ q ∷ []) ∷ []
cuts = refl

-- p, q ==> r cut with q for p has q, q ==> r and q ==> r, p -> q
cuts_on_the_left : (figure (CutL 1 q) (p ∷ q ∷ []) (r ∷ [])).premises p ≡ (q ∷ q ∷ [] ==> r ∷ []) ∷ (q ∷ [] ==> r ∷ imply p q ∷ []) ∷ []
cuts_on_the_left = refl

-- q ==> r, p cut with q for p has q ==> r, q and q ==> r, q -> p
cuts_on_the_right : (figure (CutR 2 q) (q ∷ []) (r ∷ p ∷ [])).premises p ≡ (q ∷ [] ==> r ∷ q ∷ []) ∷ (q ∷ [] ==> r ∷ imply q p ∷ []) ∷ []
cuts_on_the_right = refl

-- p, q, r ==> without q
hides_on_the_left : (figure (HideL 2) (p ∷ q ∷ r ∷ []) []).premises q ≡ (p ∷ r ∷ [] ==> []) ∷ []
hides_on_the_left = refl

-- r ==> p, q without p
hides_on_the_right : (figure (HideR 1) (r ∷ []) (p ∷ q ∷ [])).premises p ≡ (r ∷ [] ==> q ∷ []) ∷ []
hides_on_the_right = refl

-- p ==> q, r with q alone
hides_the_others : (figure (CoHideR 1) (p ∷ []) (q ∷ r ∷ [])).premises q ≡ ([] ==> q ∷ []) ∷ []
hides_the_others = refl

-- p, q, r ==> with p and r exchanged
exchanges_on_the_left : (figure (ExchangeL 1 3) (p ∷ q ∷ r ∷ []) []).premises (p, r) ≡ (r ∷ q ∷ p ∷ [] ==> []) ∷ []
exchanges_on_the_left = refl

-- p, q, r ==> with q exchanged with itself
exchanges_with_itself : (figure (ExchangeL 2 2) (p ∷ q ∷ r ∷ []) []).premises (q, q) ≡ (p ∷ q ∷ r ∷ [] ==> []) ∷ []
exchanges_with_itself = refl

-- r ==> p, q with p and q exchanged
exchanges_on_the_right : (figure (ExchangeR 2 1) (r ∷ []) (p ∷ q ∷ [])).premises (q, p) ≡ (r ∷ [] ==> q ∷ p ∷ []) ∷ []
exchanges_on_the_right = refl

-- r, \exists x p ==> r has r, p ==> r
exists_left : (figure (SkolemL 2) (r ∷ exists x p ∷ []) (r ∷ [])).premises (x, p) ≡ (r ∷ p ∷ [] ==> r ∷ []) ∷ []
exists_left = refl

-- r ==> \forall x p, r has r ==> p, r
forall_right : (figure (SkolemR 1) (r ∷ []) (forall x p ∷ r ∷ [])).premises (x, p) ≡ (r ∷ [] ==> p ∷ r ∷ []) ∷ []
forall_right = refl

-- \exists x p ==> r has \exists y p ==> r
renames_on_the_left : (figure (BoundL 1 y) (exists x p ∷ []) (r ∷ [])).premises (record { x = x; f = p; g = exists y p }) ≡ (exists y p ∷ [] ==> r ∷ []) ∷ []
renames_on_the_left = refl

-- r ==> r, \forall x p has r ==> r, \forall y p
renames_on_the_right :
    (figure (BoundR 2 y) (r ∷ []) (r ∷ forall x p ∷ [])).premises (record { x = x; f = p; g = forall y p }) ≡ (r ∷ [] ==> r ∷ forall y p ∷ []) ∷ []
renames_on_the_right = refl

-- r ==> p -> q has r ==> p <-> q
equivalence_of_implication : (figure (EquivifyR 1) (r ∷ []) (imply p q ∷ [])).premises (p, q) ≡ (r ∷ [] ==> equiv p q ∷ []) ∷ []
equivalence_of_implication = refl

-- p <-> q ==> r has q <-> p ==> r
commutes_on_the_left : (figure (CommuteEquivL 1) (equiv p q ∷ []) (r ∷ [])).premises (p, q) ≡ (equiv q p ∷ [] ==> r ∷ []) ∷ []
commutes_on_the_left = refl

-- r ==> p <-> q has r ==> q <-> p
commutes_on_the_right : (figure (CommuteEquivR 1) (r ∷ []) (equiv p q ∷ [])).premises (p, q) ≡ (r ∷ [] ==> equiv q p ∷ []) ∷ []
commutes_on_the_right = refl
