-- A text of a nonterminal is one of each that it may stand for.
use Rattle.std.proofs.Common.{◌≡◌, ℕ, zero, suc, ◌+◌, ◌-◌, ◌≤◌, List, subst, arith}
use Rattle.dlk_tree.specs.declared.op.Sort.{Sort}
use Rattle.dlk_tree.specs.declared.op.Sort.TheVariants.{Term, Formula, Program}
use Rattle.dlk_grammar.specs.Lexemes.{Lexeme}
use Rattle.dlk_grammar.specs.Phrases.{Phrase}
use Rattle.dlk_grammar.specs.Grammar.{Nonterminal, formula, imp, disj, conj, unf, atom, term, mul, neg, pow, prim, prog, seq, stmt, Reads}
use Rattle.dlk_grammar.specs.Grammar.{formula-imp, imp-disj, disj-conj, conj-unf, unf-atom, term-mul, mul-neg, neg-pow, pow-prim, prog-seq, seq-stmt}

-- the nonterminal of a sort and a level; above the highest level it is the last one
abbrev pub form_at : Sort → ℕ → Nonterminal
form_at Formula zero = formula
form_at Formula (suc zero) = formula
form_at Formula (suc (suc zero)) = imp
form_at Formula (suc (suc (suc zero))) = disj
form_at Formula (suc (suc (suc (suc zero)))) = conj
form_at Formula (suc (suc (suc (suc (suc zero))))) = unf
form_at Formula (suc (suc (suc (suc (suc (suc n)))))) = atom
form_at Term zero = term
form_at Term (suc zero) = term
form_at Term (suc (suc zero)) = mul
form_at Term (suc (suc (suc zero))) = neg
form_at Term (suc (suc (suc (suc zero)))) = pow
form_at Term (suc (suc (suc (suc (suc n))))) = prim
form_at Program zero = prog
form_at Program (suc zero) = prog
form_at Program (suc (suc zero)) = seq
form_at Program (suc (suc (suc n))) = stmt

-- one level down
step_down : (s : Sort) (n : ℕ) {ts : List Lexeme} {p : Phrase} → Reads (form_at s (suc n)) ts p → Reads (form_at s n) ts p
step_down Formula zero r = r
step_down Formula (suc zero) r = formula-imp r
step_down Formula (suc (suc zero)) r = imp-disj r
step_down Formula (suc (suc (suc zero))) r = disj-conj r
step_down Formula (suc (suc (suc (suc zero)))) r = conj-unf r
step_down Formula (suc (suc (suc (suc (suc zero))))) r = unf-atom r
step_down Formula (suc (suc (suc (suc (suc (suc n)))))) r = r
step_down Term zero r = r
step_down Term (suc zero) r = term-mul r
step_down Term (suc (suc zero)) r = mul-neg r
step_down Term (suc (suc (suc zero))) r = neg-pow r
step_down Term (suc (suc (suc (suc zero)))) r = pow-prim r
step_down Term (suc (suc (suc (suc (suc n))))) r = r
step_down Program zero r = r
step_down Program (suc zero) r = prog-seq r
step_down Program (suc (suc zero)) r = seq-stmt r
step_down Program (suc (suc (suc n))) r = r

steps_down : (s : Sort) (d n : ℕ) {ts : List Lexeme} {p : Phrase} → Reads (form_at s (d + n)) ts p → Reads (form_at s n) ts p
steps_down s zero n {ts} {p} r = let at : 0 + n ≡ n = omega arith in subst (λ (k : ℕ). Reads (form_at s k) ts p) at r
steps_down s (suc d) n {ts} {p} r = let at : suc d + n ≡ suc (d + n) = omega arith in
    steps_down s d n (step_down s (d + n) (subst (λ (k : ℕ). Reads (form_at s k) ts p) at r))

-- a text of a level is one of each lower level
pub lower : (s : Sort) (m n : ℕ) {ts : List Lexeme} {p : Phrase} → n ≤ m → Reads (form_at s m) ts p → Reads (form_at s n) ts p
lower s m n {ts} {p} le r = let at : m ≡ (m - n) + n = omega arith in steps_down s (m - n) n (subst (λ (k : ℕ). Reads (form_at s k) ts p) at r)

-- above the sixth level all is as there
pub any_level : (s : Sort) (n : ℕ) {ts : List Lexeme} {p : Phrase} → Reads (form_at s 6) ts p → Reads (form_at s n) ts p
any_level s zero r = lower s 6 0 (omega arith) r
any_level s (suc zero) r = lower s 6 1 (omega arith) r
any_level s (suc (suc zero)) r = lower s 6 2 (omega arith) r
any_level s (suc (suc (suc zero))) r = lower s 6 3 (omega arith) r
any_level s (suc (suc (suc (suc zero)))) r = lower s 6 4 (omega arith) r
any_level s (suc (suc (suc (suc (suc zero))))) r = lower s 6 5 (omega arith) r
any_level Formula (suc (suc (suc (suc (suc (suc n)))))) r = r
any_level Term (suc (suc (suc (suc (suc (suc n)))))) r = r
any_level Program (suc (suc (suc (suc (suc (suc n)))))) r = r
