-- A text of a nonterminal is one of each that it may stand for.
use Rattle.std.proofs.Common.{◌≡◌, ℕ, zero, suc, ◌+◌, ◌-◌, ◌≤◌, List, refl, sym, ap, subst, ◌∙◌, arith}
use Rattle.dlk_grammar.specs.Lexemes.{Lexeme}
use Rattle.dlk_grammar.specs.Phrases.{Phrase}
use Rattle.dlk_grammar.specs.Grammar.{Nonterminal, formula, imp, disj, conj, unf, atom, term, mul, neg, pow, prim, prog, seq, stmt, Reads}
use Rattle.dlk_grammar.specs.Grammar.{formula-imp, imp-disj, disj-conj, conj-unf, unf-atom, term-mul, mul-neg, neg-pow, pow-prim, prog-seq, seq-stmt}
use Rattle.dlk_tree.specs.declared.op.Sort.{Sort}
use Rattle.dlk_tree.specs.declared.op.Sort.TheVariants.{Term, Formula, Program}
use Rattle.dlk_grammar.specs.declared.token.Infix.TheVariants.{Equiv, Imply, Or, And, Equal, NotEqual, AtLeast, Greater, AtMost, Less, Add, Sub, Mul}
use Rattle.dlk_grammar.specs.declared.token.Infix.TheVariants.{Div, Pow, Choice}
use Rattle.dlk_machine.specs.Levels.{form_level, form_sort}
use Rattle.dlk_machine.specs.Machine.{Between, By, Next}

pub term_level : (m : Nonterminal) → form_sort m ≡ Term → 7 ≤ form_level m
term_level formula e = absurd cc
term_level imp e = absurd cc
term_level disj e = absurd cc
term_level conj e = absurd cc
term_level unf e = absurd cc
term_level atom e = absurd cc
term_level term e = omega arith
term_level mul e = omega arith
term_level neg e = omega arith
term_level pow e = omega arith
term_level prim e = omega arith
term_level prog e = absurd cc
term_level seq e = absurd cc
term_level stmt e = absurd cc

pub formula_level : (m : Nonterminal) → form_sort m ≡ Formula → form_level m ≤ 6
formula_level formula e = omega arith
formula_level imp e = omega arith
formula_level disj e = omega arith
formula_level conj e = omega arith
formula_level unf e = omega arith
formula_level atom e = omega arith
formula_level term e = absurd cc
formula_level mul e = absurd cc
formula_level neg e = absurd cc
formula_level pow e = absurd cc
formula_level prim e = absurd cc
formula_level prog e = absurd cc
formula_level seq e = absurd cc
formula_level stmt e = absurd cc

pub program_level : (m : Nonterminal) → form_sort m ≡ Program → form_level m ≤ 3
program_level formula e = absurd cc
program_level imp e = absurd cc
program_level disj e = absurd cc
program_level conj e = absurd cc
program_level unf e = absurd cc
program_level atom e = absurd cc
program_level term e = absurd cc
program_level mul e = absurd cc
program_level neg e = absurd cc
program_level pow e = absurd cc
program_level prim e = absurd cc
program_level prog e = omega arith
program_level seq e = omega arith
program_level stmt e = omega arith

pub level_above : (m : Nonterminal) → 1 ≤ form_level m
level_above formula = omega arith
level_above imp = omega arith
level_above disj = omega arith
level_above conj = omega arith
level_above unf = omega arith
level_above atom = omega arith
level_above term = omega arith
level_above mul = omega arith
level_above neg = omega arith
level_above pow = omega arith
level_above prim = omega arith
level_above prog = omega arith
level_above seq = omega arith
level_above stmt = omega arith

abbrev at_level : Sort → ℕ → Nonterminal
at_level Formula (suc zero) = formula
at_level Formula (suc (suc zero)) = imp
at_level Formula (suc (suc (suc zero))) = disj
at_level Formula (suc (suc (suc (suc zero)))) = conj
at_level Formula (suc (suc (suc (suc (suc zero))))) = unf
at_level Formula (suc (suc (suc (suc (suc (suc zero)))))) = atom
at_level Term (suc (suc (suc (suc (suc (suc (suc zero))))))) = term
at_level Term (suc (suc (suc (suc (suc (suc (suc (suc zero)))))))) = mul
at_level Term (suc (suc (suc (suc (suc (suc (suc (suc (suc zero))))))))) = neg
at_level Term (suc (suc (suc (suc (suc (suc (suc (suc (suc (suc zero)))))))))) = pow
at_level Term (suc (suc (suc (suc (suc (suc (suc (suc (suc (suc (suc zero))))))))))) = prim
at_level Program (suc zero) = prog
at_level Program (suc (suc zero)) = seq
at_level Program (suc (suc (suc zero))) = stmt
at_level _ _ = formula

at_level-is : (n : Nonterminal) → at_level (form_sort n) (form_level n) ≡ n
at_level-is formula = refl
at_level-is imp = refl
at_level-is disj = refl
at_level-is conj = refl
at_level-is unf = refl
at_level-is atom = refl
at_level-is term = refl
at_level-is mul = refl
at_level-is neg = refl
at_level-is pow = refl
at_level-is prim = refl
at_level-is prog = refl
at_level-is seq = refl
at_level-is stmt = refl

same_level : (n m : Nonterminal) → form_sort n ≡ form_sort m → form_level m ≡ form_level n → n ≡ m
same_level n m s e = sym (at_level-is n) ∙ ap (at_level (form_sort n)) (sym e) ∙ ap (λ (k : Sort). at_level k (form_level m)) s ∙ at_level-is m

climb : (k : ℕ) (n m : Nonterminal) (s : List Lexeme) (t : Phrase) → form_level m + k ≡ form_level n → form_sort n ≡ form_sort m → Reads n s t → Reads m s t
climb zero n m s t l e d = let same : form_level m ≡ form_level n = omega arith in subst (λ (f : Nonterminal). Reads f s t) (same_level n m e same) d
climb (suc k) formula m s t l e d = absurd (omega (arith, level_above m))
climb (suc k) imp m s t l e d = climb k formula m s t (omega arith) e (formula-imp d)
climb (suc k) disj m s t l e d = climb k imp m s t (omega arith) e (imp-disj d)
climb (suc k) conj m s t l e d = climb k disj m s t (omega arith) e (disj-conj d)
climb (suc k) unf m s t l e d = climb k conj m s t (omega arith) e (conj-unf d)
climb (suc k) atom m s t l e d = climb k unf m s t (omega arith) e (unf-atom d)
climb (suc k) term m s t l e d = absurd (omega (arith, term_level m (sym e)))
climb (suc k) mul m s t l e d = climb k term m s t (omega arith) e (term-mul d)
climb (suc k) neg m s t l e d = climb k mul m s t (omega arith) e (mul-neg d)
climb (suc k) pow m s t l e d = climb k neg m s t (omega arith) e (neg-pow d)
climb (suc k) prim m s t l e d = climb k pow m s t (omega arith) e (pow-prim d)
climb (suc k) prog m s t l e d = absurd (omega (arith, level_above m))
climb (suc k) seq m s t l e d = climb k prog m s t (omega arith) e (prog-seq d)
climb (suc k) stmt m s t l e d = climb k seq m s t (omega arith) e (seq-stmt d)

-- the least level at which a text has to stand to be one of the nonterminal: each term is a text of term
abbrev pub need : Nonterminal → ℕ
need formula = 1
need imp = 2
need disj = 3
need conj = 4
need unf = 5
need atom = 6
need term = 0
need mul = 8
need neg = 9
need pow = 10
need prim = 11
need prog = 1
need seq = 2
need stmt = 3

pub need_below : (m : Nonterminal) → need m ≤ form_level m
need_below formula = omega arith
need_below imp = omega arith
need_below disj = omega arith
need_below conj = omega arith
need_below unf = omega arith
need_below atom = omega arith
need_below term = omega arith
need_below mul = omega arith
need_below neg = omega arith
need_below pow = omega arith
need_below prim = omega arith
need_below prog = omega arith
need_below seq = omega arith
need_below stmt = omega arith

need_level : (n m : Nonterminal) → form_sort n ≡ form_sort m → need m ≤ form_level n → form_level m ≤ form_level n
need_level n formula e h = h
need_level n imp e h = h
need_level n disj e h = h
need_level n conj e h = h
need_level n unf e h = h
need_level n atom e h = h
need_level n term e h = term_level n e
need_level n mul e h = h
need_level n neg e h = h
need_level n pow e h = h
need_level n prim e h = h
need_level n prog e h = h
need_level n seq e h = h
need_level n stmt e h = h

pub stands : (n m : Nonterminal) (s : List Lexeme) (t : Phrase) → need m ≤ form_level n → form_sort n ≡ form_sort m → Reads n s t → Reads m s t
stands n m s t h e d =
    let le = need_level n m e h in
    climb (form_level n - form_level m) n m s t (omega arith) e d

-- the nonterminals of an operator, and of its left and right operand
abbrev pub own_form : Between → Nonterminal
own_form (By Equiv) = formula
own_form (By Imply) = imp
own_form (By Or) = disj
own_form (By And) = conj
own_form (By Equal) = atom
own_form (By NotEqual) = atom
own_form (By AtLeast) = atom
own_form (By Greater) = atom
own_form (By AtMost) = atom
own_form (By Less) = atom
own_form (By Add) = term
own_form (By Sub) = term
own_form (By Mul) = mul
own_form (By Div) = mul
own_form (By Pow) = pow
own_form (By Choice) = prog
own_form Next = seq

abbrev pub left_form : Between → Nonterminal
left_form (By Equiv) = imp
left_form (By Imply) = disj
left_form (By Or) = conj
left_form (By And) = unf
left_form (By Equal) = term
left_form (By NotEqual) = term
left_form (By AtLeast) = term
left_form (By Greater) = term
left_form (By AtMost) = term
left_form (By Less) = term
left_form (By Add) = term
left_form (By Sub) = term
left_form (By Mul) = mul
left_form (By Div) = mul
left_form (By Pow) = prim
left_form (By Choice) = seq
left_form Next = stmt

abbrev pub right_form : Between → Nonterminal
right_form (By Equiv) = formula
right_form (By Imply) = imp
right_form (By Or) = disj
right_form (By And) = conj
right_form (By Equal) = term
right_form (By NotEqual) = term
right_form (By AtLeast) = term
right_form (By Greater) = term
right_form (By AtMost) = term
right_form (By Less) = term
right_form (By Add) = mul
right_form (By Sub) = mul
right_form (By Mul) = neg
right_form (By Div) = neg
right_form (By Pow) = neg
right_form (By Choice) = prog
right_form Next = seq
