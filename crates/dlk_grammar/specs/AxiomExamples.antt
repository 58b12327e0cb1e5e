-- Texts of the axioms and the axiomatic rules.
use Rattle.std.specs.Prelude.{◌≡◌, ℕ, List, [], ◌∷◌, map, codes, refl}
use Rattle.std.specs.Fmt.{digits}
use Rattle.dlk_calculus.specs.Axioms.{Axiom, AxiomaticRule, box_axioms, loop_axioms, ode_axioms, differential_axioms, first_order_axioms}
use Rattle.dlk_calculus.specs.Axioms.{equality_axioms, axiomatic_rules}
use Rattle.dlk_grammar.specs.Shown.{spell, shown}

-- each axiom's name, and the text of its formula
abbrev texts : List Axiom → List (List ℕ × List ℕ)
texts all = map (λ (a : Axiom). (a.name, spell (shown a.formula))) all

-- each rule's name, and the texts of its premise and of its conclusion
abbrev rule_texts : List AxiomaticRule → List (List ℕ × List ℕ × List ℕ)
rule_texts all = map (λ (r : AxiomaticRule). (r.name, spell (shown r.premise), spell (shown r.conclusion))) all

box_texts : texts box_axioms ≡
    (codes "diamond", codes "<a;>p(||) <-> ![a;]!p(||)") ∷
    (codes "assignb", codes "[x_:=f();]p(x_) <-> p(f())") ∷
    (codes "assigneq", codes "[x_:=f();]p(||) <-> \\forall x_ (x_=f() -> p(||))") ∷
    (codes "selfassign", codes "[x_:=x_;]p(||) <-> p(||)") ∷
    (codes "dassignb", codes "[x_':=f();]p(x_') <-> p(f())") ∷
    (codes "randomb", codes "[x_:=*;]p(||) <-> \\forall x_ p(||)") ∷
    (codes "testb", codes "[?q(||);]p(||) <-> q(||) -> p(||)") ∷
    (codes "choiceb", codes "[a;++b;]p(||) <-> [a;]p(||)&[b;]p(||)") ∷
    (codes "composeb", codes "[a;b;]p(||) <-> [a;][b;]p(||)") ∷
    []
unfolding digits
box_texts = refl

loop_texts : texts loop_axioms ≡
    (codes "iterateb", codes "[{a;}*]p(||) <-> p(||)&[a;][{a;}*]p(||)") ∷
    (codes "K", codes "[a;](p(||) -> q(||)) -> [a;]p(||) -> [a;]q(||)") ∷
    (codes "I", codes "[{a;}*](p(||) -> [a;]p(||)) -> p(||) -> [{a;}*]p(||)") ∷
    (codes "V", codes "p() -> [a;]p()") ∷
    []
unfolding digits
loop_texts = refl

ode_texts : texts ode_axioms ≡
    (codes "DW", codes "[{c&q(||)}]q(||)") ∷
    (codes "DWeq", codes "[{c&q(||)}]p(||) <-> [{c&q(||)}](q(||) -> p(||))") ∷
    (codes "DC", codes "[{c&q(||)}]r(||) -> ([{c&q(||)}]p(||) <-> [{c&q(||)&r(||)}]p(||))") ∷
    (codes "DE", codes "[{x_'=f(||)&q(||)}]p(||) <-> [{x_'=f(||)&q(||)}][x_':=f(||);]p(||)") ∷
    (codes "DEsys", codes "[{x_'=f(||),c&q(||)}]p(||) <-> [{c,x_'=f(||)&q(||)}][x_':=f(||);]p(||)") ∷
    (codes "ODEswap", codes "[{c,d&q(||)}]p(||) <-> [{d,c&q(||)}]p(||)") ∷
    (codes "DI", codes "(q(||) -> [{c&q(||)}](p(||))') -> ([{c&q(||)}]p(||) <-> [?q(||);]p(||))") ∷
    (codes "DG", codes "[{c{|y_|}&q(|y_|)}]p(|y_|) <-> \\exists y_ [{c{|y_|},y_'=a(|y_|)*y_+b(|y_|)&q(|y_|)}]p(|y_|)") ∷
    (codes "DS", codes "[{x_'=f()&q(x_)}]p(x_) <-> \\forall t_ (t_>=0 -> \\forall s_ (0<=s_&s_<=t_ -> q(x_+f()*s_)) -> [x_:=x_+f()*t_;]p(x_))") ∷
    []
unfolding digits
ode_texts = refl

differential_texts : texts differential_axioms ≡
    (codes "Dconst", codes "(f())'=0") ∷
    (codes "Dvar", codes "(x_)'=x_'") ∷
    (codes "Dplus", codes "(f(||)+g(||))'=(f(||))'+(g(||))'") ∷
    (codes "Dminus", codes "(f(||)-g(||))'=(f(||))'-(g(||))'") ∷
    (codes "Dneg", codes "(-f(||))'=-(f(||))'") ∷
    (codes "Dtimes", codes "(f(||)*g(||))'=(f(||))'*g(||)+f(||)*(g(||))'") ∷
    (codes "Dquot", codes "(f(||)/g(||))'=((f(||))'*g(||)-f(||)*(g(||))')/g(||)^2") ∷
    (codes "Dpow", codes "c()!=0 -> (f(||)^c())'=c()*f(||)^(c()-1)*(f(||))'") ∷
    (codes "Deq", codes "(f(||)=g(||))' <-> (f(||))'=(g(||))'") ∷
    (codes "Dne", codes "(f(||)!=g(||))' <-> (f(||))'=(g(||))'") ∷
    (codes "Dge", codes "(f(||)>=g(||))' <-> (f(||))'>=(g(||))'") ∷
    (codes "Dgt", codes "(f(||)>g(||))' <-> (f(||))'>=(g(||))'") ∷
    (codes "Dle", codes "(f(||)<=g(||))' <-> (f(||))'<=(g(||))'") ∷
    (codes "Dlt", codes "(f(||)<g(||))' <-> (f(||))'<=(g(||))'") ∷
    (codes "Dand", codes "(p(||)&q(||))' <-> (p(||))'&(q(||))'") ∷
    (codes "Dor", codes "(p(||)|q(||))' <-> (p(||))'&(q(||))'") ∷
    (codes "Dimply", codes "(p(||) -> q(||))' <-> (!p(||)|q(||))'") ∷
    (codes "Dforall", codes "(\\forall x_ p(||))' <-> \\forall x_ (p(||))'") ∷
    []
unfolding digits
differential_texts = refl

first_order_texts : texts first_order_axioms ≡
    (codes "allinst", codes "\\forall x_ p(x_) -> p(f())") ∷
    (codes "existsdual", codes "\\exists x_ p(||) <-> !\\forall x_ !p(||)") ∷
    (codes "alldist", codes "\\forall x_ (p(||) -> q(||)) -> \\forall x_ p(||) -> \\forall x_ q(||)") ∷
    (codes "allvac", codes "p() -> \\forall x_ p()") ∷
    []
unfolding digits
first_order_texts = refl

equality_texts : texts equality_axioms ≡
    (codes "eqrefl", codes "f()=f()") ∷
    (codes "eqcongr", codes "f()=g() -> (p(f()) <-> p(g()))") ∷
    []
unfolding digits
equality_texts = refl

axiomatic_rule_texts : rule_texts axiomatic_rules ≡
    (codes "G", codes "p(||)", codes "[a;]p(||)") ∷
    (codes "allgen", codes "p(||)", codes "\\forall x_ p(||)") ∷
    (codes "mon", codes "p(||) -> q(||)", codes "<a;>p(||) -> <a;>q(||)") ∷
    (codes "CT", codes "f(||)=g(||)", codes "h(f(||))=h(g(||))") ∷
    (codes "CQ", codes "f(||)=g(||)", codes "p(f(||)) <-> p(g(||))") ∷
    (codes "CE", codes "p(||) <-> q(||)", codes "C{p(||)} <-> C{q(||)}") ∷
    []
unfolding digits
axiomatic_rule_texts = refl
