-- How a text begins.
use Rattle.std.proofs.Common.{◌≡◌, ℕ, Bool, true, false, List, [], ◌∷◌, ◌++◌, refl}
use Rattle.dlk_grammar.specs.declared.token.Infix.TheVariants.{Mul}
use Rattle.dlk_grammar.specs.Lexemes.{Word, Lexeme, Name, Close, OpenBrace, Prime, Gets, Query, Semi, Op}
use Rattle.dlk_grammar.specs.Phrases.{Phrase, Phrases}
use Rattle.dlk_grammar.specs.Grammar.{Nonterminal, term, Reads, formula-imp, formula-equiv, imp-disj, imp-imply, disj-conj, disj-or, conj-unf}
use Rattle.dlk_grammar.specs.Grammar.{conj-and, unf-not, unf-forall, unf-exists, unf-box, unf-dia, unf-atom, atom-true, atom-false, atom-hole}
use Rattle.dlk_grammar.specs.Grammar.{atom-compare, atom-nullary, atom-holds, atom-any, atom-except, atom-context, atom-bracket, atom-diff, term-mul}
use Rattle.dlk_grammar.specs.Grammar.{term-add, term-sub, mul-neg, mul-times, mul-over, neg-pow, neg-minus, pow-prim, pow-power, prim-number}
use Rattle.dlk_grammar.specs.Grammar.{prim-dot, prim-name, prim-primed, prim-nullary, prim-apply, prim-any, prim-except, prim-bracket, prim-diff}
use Rattle.dlk_grammar.specs.Grammar.{prog-seq, prog-choice, seq-stmt, seq-then, stmt-const, stmt-assign, stmt-assign_prime, stmt-any, stmt-test}
use Rattle.dlk_grammar.specs.Grammar.{stmt-group, ReadsList, list-one, list-more, ReadsBrace, brace-prog, brace-items, brace-domain}
use Rattle.dlk_machine.specs.Levels.{form_sort}
use Rattle.dlk_machine.specs.Machine.{program_sort}

-- the first tokens of a program
pub data ProgramFront : List Lexeme → Type 0 where
  front-query : {s : List Lexeme} → ProgramFront (Query ∷ s)
  front-brace : {n : ℕ} {s : List Lexeme} → ProgramFront (OpenBrace n ∷ s)
  front-const : {n : ℕ} {x : Word} {s : List Lexeme} → ProgramFront (Name n x ∷ Semi ∷ s)
  front-assign : {n : ℕ} {x : Word} {s : List Lexeme} → ProgramFront (Name n x ∷ Gets ∷ s)
  front-assign_prime : {n : ℕ} {x : Word} {s : List Lexeme} → ProgramFront (Name n x ∷ Prime ∷ Gets ∷ s)

pub program_append : {s : List Lexeme} (r : List Lexeme) → ProgramFront s → ProgramFront (s ++ r)
program_append r front-query = front-query
program_append r front-brace = front-brace
program_append r front-const = front-const
program_append r front-assign = front-assign
program_append r front-assign_prime = front-assign_prime

-- neither ends a call without arguments nor stands for any value
abbrev pub is_other : Lexeme → Bool
is_other Close = false
is_other (Op Mul) = false
is_other _ = true

-- the first tokens of a program, and of a term or a formula
abbrev pub First : Bool → List Lexeme → Type 0
First true s = ProgramFront s
First false [] = ⊥
First false (k ∷ ks) = is_other k ≡ true

First-append : (b : Bool) (s r : List Lexeme) → First b s → First b (s ++ r)
First-append true s r h = program_append r h
First-append false [] r h = absurd h
First-append false (k ∷ s) r h = h

brace_first : {s : List Lexeme} {a : Phrase} → ReadsBrace s a → ProgramFront s
brace_first (brace-prog d) = front-brace
brace_first (brace-items d) = front-brace
brace_first (brace-domain d e) = front-brace

mutual
  pub first : {n : Nonterminal} {s : List Lexeme} {t : Phrase} → Reads n s t → First (program_sort (form_sort n)) s
  first (formula-imp d) = first d
  first (imp-disj d) = first d
  first (disj-conj d) = first d
  first (conj-unf d) = first d
  first (unf-atom d) = first d
  first (term-mul d) = first d
  first (mul-neg d) = first d
  first (neg-pow d) = first d
  first (pow-prim d) = first d
  first (prog-seq d) = first d
  first (seq-stmt d) = first d
  first (formula-equiv d e) = First-append false _ _ (first d)
  first (imp-imply d e) = First-append false _ _ (first d)
  first (disj-or d e) = First-append false _ _ (first d)
  first (conj-and d e) = First-append false _ _ (first d)
  first (atom-compare c d e) = First-append false _ _ (first d)
  first (term-add d e) = First-append false _ _ (first d)
  first (term-sub d e) = First-append false _ _ (first d)
  first (mul-times d e) = First-append false _ _ (first d)
  first (mul-over d e) = First-append false _ _ (first d)
  first (pow-power d e) = First-append false _ _ (first d)
  first (prog-choice d e) = First-append true _ _ (first d)
  first (seq-then d e) = First-append true _ _ (first d)
  first (unf-not d) = refl
  first (unf-forall d) = refl
  first (unf-exists d) = refl
  first (unf-box d e) = refl
  first (unf-dia d e) = refl
  first atom-true = refl
  first atom-false = refl
  first atom-hole = refl
  first atom-nullary = refl
  first (atom-holds d) = refl
  first atom-any = refl
  first atom-except = refl
  first (atom-context d) = refl
  first (atom-bracket d) = refl
  first (atom-diff d) = refl
  first (neg-minus d) = refl
  first prim-number = refl
  first prim-dot = refl
  first prim-name = refl
  first prim-primed = refl
  first prim-nullary = refl
  first (prim-apply d) = refl
  first prim-any = refl
  first prim-except = refl
  first (prim-bracket d) = refl
  first (prim-diff d) = refl
  first stmt-const = front-const
  first (stmt-assign d) = front-assign
  first (stmt-assign_prime d) = front-assign_prime
  first stmt-any = front-assign
  first (stmt-test d) = front-query
  first (stmt-group d q i e) = program_append _ (brace_first d)

  pub first_list : {s : List Lexeme} {l : Phrases} → ReadsList term s l → First false s
  first_list (list-one d) = first d
  first_list (list-more l d) = First-append false _ _ (first_list l)
