-- The axioms and the axiomatic rules, as trees.
use Rattle.std.specs.Prelude.{ℕ, List, [], ◌∷◌, ◌++◌, Option, find, codes}
use Rattle.std.specs.Str.{bytes_eq}
use Rattle.dlk_tree.specs.Trees.{Tree}
use Rattle.dlk_calculus.specs.declared.form.AxiomForm.{AxiomForm}
use Rattle.dlk_calculus.specs.declared.form.AxiomForm.TheVariants.{E, Q, C, R, I, F}
use Rattle.dlk_calculus.specs.Rules.{imply, equiv}
use Rattle.dlk_calculus.specs.Notation.{x_, y_, t_, s_, x, y, t, s, x', number, eq, ne, ge, gt, le, lt, add, sub, mul, div, pow, neg, diff}
use Rattle.dlk_calculus.specs.Notation.{diff_formula, negation, conj, disj, forall, exists, box, dia, assign, assign_primed, assign_any, test, choice}
use Rattle.dlk_calculus.specs.Notation.{seq, loop, system, evolve, c_item, d_item, c_item_but_y, a, b, p, q, r, p0, p_of, q_of, p_but_y, q_but_y, f}
use Rattle.dlk_calculus.specs.Notation.{g, f0, g0, c0, a_but_y, b_but_y, h_of, c_of}

-- an axiom with its form, and those of its names that end in `_`, in order of their first place
pub record Axiom : Type 0 where
  pub name : List ℕ
  pub form : AxiomForm
  pub own_names : List (List ℕ)
  pub formula : Tree

abbrev says : List ℕ → AxiomForm → List (List ℕ) → Tree → Axiom
says name form own_names formula = record { name = name; form = form; own_names = own_names; formula = formula }

-- Boxes and diamonds:
abbrev pub box_axioms : List Axiom
box_axioms =
    -- <a;>p(||) <-> ![a;]!p(||)
    says (codes "diamond") E [] (equiv (dia a p) (negation (box a (negation p)))) ∷
    -- [x_:=f();]p(x_) <-> p(f())
    says (codes "assignb") E (x_ ∷ []) (equiv (box (assign x_ f0) (p_of x)) (p_of f0)) ∷
    -- [x_:=f();]p(||) <-> \forall x_ (x_=f() -> p(||))
    says (codes "assigneq") E (x_ ∷ []) (equiv (box (assign x_ f0) p) (forall x_ (imply (eq x f0) p))) ∷
    -- [x_:=x_;]p(||) <-> p(||)
    says (codes "selfassign") E (x_ ∷ []) (equiv (box (assign x_ x) p) p) ∷
    -- [x_':=f();]p(x_') <-> p(f())
    says (codes "dassignb") E (x_ ∷ []) (equiv (box (assign_primed x_ f0) (p_of x')) (p_of f0)) ∷
    -- [x_:=*;]p(||) <-> \forall x_ p(||)
    says (codes "randomb") E (x_ ∷ []) (equiv (box (assign_any x_) p) (forall x_ p)) ∷
    -- [?q(||);]p(||) <-> (q(||) -> p(||))
    says (codes "testb") E [] (equiv (box (test q) p) (imply q p)) ∷
    -- [a;++b;]p(||) <-> [a;]p(||)&[b;]p(||)
    says (codes "choiceb") E [] (equiv (box (choice a b) p) (conj (box a p) (box b p))) ∷
    -- [a;b;]p(||) <-> [a;][b;]p(||)
    says (codes "composeb") E [] (equiv (box (seq a b) p) (box a (box b p))) ∷
    []

-- Loops, and what holds of all programs:
abbrev pub loop_axioms : List Axiom
loop_axioms =
    -- [{a;}*]p(||) <-> p(||)&[a;][{a;}*]p(||)
    says (codes "iterateb") E [] (equiv (box (loop a) p) (conj p (box a (box (loop a) p)))) ∷
    -- [a;](p(||) -> q(||)) -> ([a;]p(||) -> [a;]q(||))
    says (codes "K") I [] (imply (box a (imply p q)) (imply (box a p) (box a q))) ∷
    -- [{a;}*](p(||) -> [a;]p(||)) -> (p(||) -> [{a;}*]p(||))
    says (codes "I") I [] (imply (box (loop a) (imply p (box a p))) (imply p (box (loop a) p))) ∷
    -- p() -> [a;]p()
    says (codes "V") I [] (imply p0 (box a p0)) ∷
    []

-- Differential equations:
abbrev pub ode_axioms : List Axiom
ode_axioms =
    -- [{c&q(||)}]q(||)
    says (codes "DW") F [] (box (system (c_item ∷ []) [] q) q) ∷
    -- [{c&q(||)}]p(||) <-> [{c&q(||)}](q(||) -> p(||))
    says (codes "DWeq") E [] (equiv (box (system (c_item ∷ []) [] q) p) (box (system (c_item ∷ []) [] q) (imply q p))) ∷
    -- [{c&q(||)}]r(||) -> ([{c&q(||)}]p(||) <-> [{c&q(||)&r(||)}]p(||))
    says (codes "DC") C []
    (imply (box (system (c_item ∷ []) [] q) r) (equiv (box (system (c_item ∷ []) [] q) p) (box (system (c_item ∷ []) [] (conj q r)) p))) ∷
    -- [{x_'=f(||)&q(||)}]p(||) <-> [{x_'=f(||)&q(||)}][x_':=f(||);]p(||)
    says (codes "DE") E (x_ ∷ []) (equiv (box (system (evolve x_ ∷ []) (f ∷ []) q) p) (box (system (evolve x_ ∷ []) (f ∷ []) q) (box (assign_primed x_ f) p))) ∷
    -- [{x_'=f(||),c&q(||)}]p(||) <-> [{c,x_'=f(||)&q(||)}][x_':=f(||);]p(||)
    says (codes "DEsys") E (x_ ∷ [])
    (equiv (box (system (evolve x_ ∷ c_item ∷ []) (f ∷ []) q) p) (box (system (c_item ∷ evolve x_ ∷ []) (f ∷ []) q) (box (assign_primed x_ f) p))) ∷
    -- [{c,d&q(||)}]p(||) <-> [{d,c&q(||)}]p(||)
    says (codes "ODEswap") E [] (equiv (box (system (c_item ∷ d_item ∷ []) [] q) p) (box (system (d_item ∷ c_item ∷ []) [] q) p)) ∷
    -- (q(||) -> [{c&q(||)}](p(||))') -> ([{c&q(||)}]p(||) <-> [?q(||);]p(||))
    says (codes "DI") C [] (imply (imply q (box (system (c_item ∷ []) [] q) (diff_formula p))) (equiv (box (system (c_item ∷ []) [] q) p) (box (test q) p))) ∷
    -- [{c{|y_|}&q(|y_|)}]p(|y_|) <-> \exists y_ [{c{|y_|},y_'=a(|y_|)*y_+b(|y_|)&q(|y_|)}]p(|y_|)
    says (codes "DG") E (y_ ∷ [])
    (equiv (box (system (c_item_but_y ∷ []) [] q_but_y) p_but_y)
    (exists y_ (box (system (c_item_but_y ∷ evolve y_ ∷ []) ((add (mul a_but_y y) b_but_y) ∷ []) q_but_y) p_but_y))) ∷
    -- [{x_'=f()&q(x_)}]p(x_) <-> \forall t_ (t_>=0 -> ((\forall s_ (0<=s_&s_<=t_ -> q(x_+f()*s_))) -> [x_:=x_+f()*t_;]p(x_)))
    says (codes "DS") E (x_ ∷ t_ ∷ s_ ∷ [])
    (equiv (box (system (evolve x_ ∷ []) (f0 ∷ []) (q_of x)) (p_of x))
    (forall t_ (imply (ge t (number 0)) (imply (forall s_ (imply (conj (le (number 0) s) (le s t)) (q_of (add x (mul f0 s)))))
    (box (assign x_ (add x (mul f0 t))) (p_of x)))))) ∷
    []

-- Differentials:
abbrev pub differential_axioms : List Axiom
differential_axioms =
    -- (f())'=0
    says (codes "Dconst") Q [] (eq (diff f0) (number 0)) ∷
    -- (x_)'=x_'
    says (codes "Dvar") Q (x_ ∷ []) (eq (diff x) x') ∷
    -- (f(||)+g(||))'=(f(||))'+(g(||))'
    says (codes "Dplus") Q [] (eq (diff (add f g)) (add (diff f) (diff g))) ∷
    -- (f(||)-g(||))'=(f(||))'-(g(||))'
    says (codes "Dminus") Q [] (eq (diff (sub f g)) (sub (diff f) (diff g))) ∷
    -- (-f(||))'=-(f(||))'
    says (codes "Dneg") Q [] (eq (diff (neg f)) (neg (diff f))) ∷
    -- (f(||)*g(||))'=(f(||))'*g(||)+f(||)*(g(||))'
    says (codes "Dtimes") Q [] (eq (diff (mul f g)) (add (mul (diff f) g) (mul f (diff g)))) ∷
    -- (f(||)/g(||))'=((f(||))'*g(||)-f(||)*(g(||))')/g(||)^2
    says (codes "Dquot") Q [] (eq (diff (div f g)) (div (sub (mul (diff f) g) (mul f (diff g))) (pow g (number 2)))) ∷
    -- c()!=0 -> (f(||)^c())'=c()*f(||)^(c()-1)*(f(||))'
    says (codes "Dpow") R [] (imply (ne c0 (number 0)) (eq (diff (pow f c0)) (mul (mul c0 (pow f (sub c0 (number 1)))) (diff f)))) ∷
    -- (f(||)=g(||))' <-> (f(||))'=(g(||))'
    says (codes "Deq") E [] (equiv (diff_formula (eq f g)) (eq (diff f) (diff g))) ∷
    -- (f(||)!=g(||))' <-> (f(||))'=(g(||))'
    says (codes "Dne") E [] (equiv (diff_formula (ne f g)) (eq (diff f) (diff g))) ∷
    -- (f(||)>=g(||))' <-> (f(||))'>=(g(||))'
    says (codes "Dge") E [] (equiv (diff_formula (ge f g)) (ge (diff f) (diff g))) ∷
    -- (f(||)>g(||))' <-> (f(||))'>=(g(||))'
    says (codes "Dgt") E [] (equiv (diff_formula (gt f g)) (ge (diff f) (diff g))) ∷
    -- (f(||)<=g(||))' <-> (f(||))'<=(g(||))'
    says (codes "Dle") E [] (equiv (diff_formula (le f g)) (le (diff f) (diff g))) ∷
    -- (f(||)<g(||))' <-> (f(||))'<=(g(||))'
    says (codes "Dlt") E [] (equiv (diff_formula (lt f g)) (le (diff f) (diff g))) ∷
    -- (p(||)&q(||))' <-> (p(||))'&(q(||))'
    says (codes "Dand") E [] (equiv (diff_formula (conj p q)) (conj (diff_formula p) (diff_formula q))) ∷
    -- (p(||)|q(||))' <-> (p(||))'&(q(||))'
    says (codes "Dor") E [] (equiv (diff_formula (disj p q)) (conj (diff_formula p) (diff_formula q))) ∷
    -- (p(||) -> q(||))' <-> (!p(||)|q(||))'
    says (codes "Dimply") E [] (equiv (diff_formula (imply p q)) (diff_formula (disj (negation p) q))) ∷
    -- (\forall x_ p(||))' <-> \forall x_ (p(||))'
    says (codes "Dforall") E (x_ ∷ []) (equiv (diff_formula (forall x_ p)) (forall x_ (diff_formula p))) ∷
    []

-- First order:
abbrev pub first_order_axioms : List Axiom
first_order_axioms =
    -- (\forall x_ p(x_)) -> p(f())
    says (codes "allinst") I (x_ ∷ []) (imply (forall x_ (p_of x)) (p_of f0)) ∷
    -- \exists x_ p(||) <-> !\forall x_ !p(||)
    says (codes "existsdual") E (x_ ∷ []) (equiv (exists x_ p) (negation (forall x_ (negation p)))) ∷
    -- (\forall x_ (p(||) -> q(||))) -> (\forall x_ p(||) -> \forall x_ q(||))
    says (codes "alldist") I (x_ ∷ []) (imply (forall x_ (imply p q)) (imply (forall x_ p) (forall x_ q))) ∷
    -- p() -> \forall x_ p()
    says (codes "allvac") I (x_ ∷ []) (imply p0 (forall x_ p0)) ∷
    []

-- Equality:
abbrev pub equality_axioms : List Axiom
equality_axioms =
    -- f()=f()
    says (codes "eqrefl") F [] (eq f0 f0) ∷
    -- f()=g() -> (p(f()) <-> p(g()))
    says (codes "eqcongr") C [] (imply (eq f0 g0) (equiv (p_of f0) (p_of g0))) ∷
    []

abbrev pub axioms : List Axiom
axioms = box_axioms ++ loop_axioms ++ ode_axioms ++ differential_axioms ++ first_order_axioms ++ equality_axioms

-- the axiom of this name
abbrev pub axiom_named : List ℕ → Option Axiom
axiom_named name = find (λ (a : Axiom). bytes_eq a.name name) axioms

-- an axiomatic rule, from its premise to its conclusion; both stand alone on the right
pub record AxiomaticRule : Type 0 where
  pub name : List ℕ
  pub premise : Tree
  pub conclusion : Tree

abbrev rule : List ℕ → Tree → Tree → AxiomaticRule
rule name premise conclusion = record { name = name; premise = premise; conclusion = conclusion }

abbrev pub axiomatic_rules : List AxiomaticRule
axiomatic_rules =
    -- from p(||) to [a;]p(||)
    rule (codes "G") p (box a p) ∷
    -- from p(||) to \forall x_ p(||)
    rule (codes "allgen") p (forall x_ p) ∷
    -- from p(||) -> q(||) to <a;>p(||) -> <a;>q(||)
    rule (codes "mon") (imply p q) (imply (dia a p) (dia a q)) ∷
    -- from f(||)=g(||) to h(f(||))=h(g(||))
    rule (codes "CT") (eq f g) (eq (h_of f) (h_of g)) ∷
    -- from f(||)=g(||) to p(f(||)) <-> p(g(||))
    rule (codes "CQ") (eq f g) (equiv (p_of f) (p_of g)) ∷
    -- from p(||) <-> q(||) to C{p(||)} <-> C{q(||)}
    rule (codes "CE") (equiv p q) (equiv (c_of p) (c_of q)) ∷
    []

-- the axiomatic rule of this name
abbrev pub rule_named : List ℕ → Option AxiomaticRule
rule_named name = find (λ (r : AxiomaticRule). bytes_eq r.name name) axiomatic_rules
