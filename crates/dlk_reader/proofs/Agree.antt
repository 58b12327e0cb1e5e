-- What a call answers, beside what the definition gives.
use Rattle.std.proofs.Common.{◌≡◌, ℕ, zero, suc, Bool, true, false, List, [], ◌∷◌, ◌++◌, Option, Some, None, Result, Ok, Err, refl, sym, ap, ◌∙◌, append_assoc}
use Rattle.std.proofs.lemmas.List.{append-nil}
use Rattle.dlk_tree.specs.declared.op.Sort.{Sort}
use Rattle.dlk_grammar.specs.Erased.{taboo}
use Rattle.dlk_grammar.specs.Lexemes.{Word}
use Rattle.dlk_grammar.specs.Phrases.{Phrase, Head, Call, Any, Apply, Holds}
use Rattle.dlk_machine.specs.Machine.{◌>>=◌, Between, By, Next, Prefix, Minus, Bang', Bound, Modal, ForAll, ForSome, InBox, InDia, Part, Left, Before}
use Rattle.dlk_machine.specs.Machine.{Inside, Piece, Is, Done, as_sort, join, operand_sort, result_sort, prefix_sort, primes, formula_primes, binary}
use Rattle.dlk_machine.specs.Machine.{unary}
use Rattle.dlk_reader.specs.Codes.{postfix}
use Rattle.dlk_reader.specs.Shows.{between_of, said, prefix_of, shape, prefix_code, operator_of, operator_before, part_code, piece_code, prime_code}
use Rattle.dlk_reader.specs.Shows.{primes_code, head_of, head_code, unit_code, symbol_of, IsLast, Agrees, Writes, Joins}
use Rattle.dlk_reader.specs.declared.stop.LexemeFault.{LexemeFault}
use Rattle.dlk_reader.specs.declared.stop.LexemeFault.TheVariants.{Memory, Syntax}
use Rattle.dlk_reader.specs.declared.code.Code.{Code}
use Rattle.dlk_reader.specs.declared.code.Code.TheVariants as code
use Rattle.dlk_reader.specs.declared.parts.Between.{Between as BetweenPart}
use Rattle.dlk_reader.specs.declared.parts.Between.TheVariants as between
use Rattle.dlk_reader.specs.declared.parts.Prefix.{Prefix as PrefixPart}
use Rattle.dlk_reader.specs.declared.parts.Part.{Part as OpenPart}
use Rattle.dlk_reader.specs.declared.parts.Part.TheVariants as part
use Rattle.dlk_reader.specs.declared.parts.Head.TheVariants as head
use Rattle.dlk_reader.specs.declared.parts.Tail.TheVariants as tail
use Rattle.dlk_reader.specs.declared.parts.Last.{Last}
use Rattle.dlk_reader.specs.declared.parts.Last.TheVariants as last

-- a fault of the first step
pub agrees_err : {X Y V W : Type 0} (s : X → Y → Type 0) (r : V → W → Type 0) (f : LexemeFault) (o : Option Y) (g : Y → Option W) → Agrees s (Err f) o
    → Agrees r (Err f) (o >>= g)
agrees_err s r Memory o g a = tt
agrees_err s r Syntax (Some y) g a = absurd a
agrees_err s r Syntax None g a = tt

-- the value of a first step that did not fail
pub agrees_ok : {X Y : Type 0} (s : X → Y → Type 0) (x : X) (o : Option Y) → Agrees s (Ok x) o → (y : Y) × (o ≡ Some y) × s x y
agrees_ok s x (Some y) a = (y, refl, a)
agrees_ok s x None a = absurd a

pub said_of : (o : Between) → said (between_of o) ≡ o
said_of (By o) = refl
said_of Next = refl

pub of_said : (b : BetweenPart) → between_of (said b) ≡ b
of_said (between.By o) = refl
of_said between.Next = refl

said_is : (b : BetweenPart) (o : Between) → b ≡ between_of o → said b ≡ o
said_is b o e = ap said e ∙ said_of o

-- the operators of primes
pub postfix_primes : (n : ℕ) (t : Phrase) → postfix (primes n t) ≡ postfix t ++ primes_code false n
postfix_primes zero t = sym (append-nil (postfix t))
postfix_primes (suc n) t = ap (λ (l : List Code). l ++ prime_code false ∷ []) (postfix_primes n t)
    ∙ append_assoc (postfix t) (primes_code false n) (prime_code false ∷ [])

pub postfix_formula_primes : (n : ℕ) (t : Phrase) → postfix (formula_primes n t) ≡ postfix t ++ primes_code true n
postfix_formula_primes zero t = sym (append-nil (postfix t))
postfix_formula_primes (suc n) t = ap (λ (l : List Code). l ++ prime_code true ∷ []) (postfix_formula_primes n t)
    ∙ append_assoc (postfix t) (primes_code true n) (prime_code true ∷ [])

-- primes behind a symbol
pub primes_written : (h : Head) (n : ℕ) (before mid new : List Code) (r : Result (Unit {0}) LexemeFault) → mid ≡ before ++ postfix (Apply h)
    → Agrees (λ _ c. new ≡ mid ++ c) r (Some (primes_code false n)) → Agrees (λ _ t. Writes new before t) r (Some (primes n (Apply h)))
primes_written h n before mid new (Ok x) m a = record {
  out = a ∙ ap (λ (l : List Code). l ++ primes_code false n) m ∙ append_assoc before (postfix (Apply h)) (primes_code false n)
      ∙ ap (λ (l : List Code). before ++ l) (sym (postfix_primes n (Apply h)));
}
primes_written h n before mid new (Err Memory) m a = tt
primes_written h n before mid new (Err Syntax) m a = absurd a

pub formula_primes_written : (h : Head) (n : ℕ) (before mid new : List Code) (r : Result (Unit {0}) LexemeFault) → mid ≡ before ++ postfix (Holds h)
    → Agrees (λ _ c. new ≡ mid ++ c) r (Some (primes_code true n)) → Agrees (λ _ t. Writes new before t) r (Some (formula_primes n (Holds h)))
formula_primes_written h n before mid new (Ok x) m a = record {
  out = a ∙ ap (λ (l : List Code). l ++ primes_code true n) m ∙ append_assoc before (postfix (Holds h)) (primes_code true n)
      ∙ ap (λ (l : List Code). before ++ l) (sym (postfix_formula_primes n (Holds h)));
}
formula_primes_written h n before mid new (Err Memory) m a = tt
formula_primes_written h n before mid new (Err Syntax) m a = absurd a

-- the operator of a unit symbol
pub any_written : (holds : Bool) (x : Word) (y : Option Word) (h : Head) (before out new : List Code) → head.Any x y ≡ head_of h → out ≡ before ++ head_code h
    → new ≡ out ++ unit_code holds x y ∷ [] → Writes new before (symbol_of holds h)
any_written holds x y (Call n z l) before out new is at w = absurd cc
any_written holds x y (Any z s) before out new is at w = go holds (w ∙ ap (λ (l : List Code). l ++ unit_code holds x y ∷ []) (at ∙ append-nil before))
  where
    name : x ≡ z
    name = cc

    free : y ≡ taboo s
    free = cc

    go : (b : Bool) → new ≡ before ++ unit_code b x y ∷ [] → Writes new before (symbol_of b (Any z s))
    go true w = record {
      out = w ∙ ap (λ (n : Word). before ++ unit_code true n y ∷ []) name ∙ ap (λ (t : Option Word). before ++ unit_code true z t ∷ []) free;
    }
    go false w = record {
      out = w ∙ ap (λ (n : Word). before ++ unit_code false n y ∷ []) name ∙ ap (λ (t : Option Word). before ++ unit_code false z t ∷ []) free;
    }

-- what a call of settle answers for what was read last
abbrev pub Settles : List Code → List Code → Last → Sort → Result (Unit {0}) LexemeFault → Type 0
Settles old new l s r = (p : Piece) (before : List Code) → IsLast l p → old ≡ before ++ piece_code p → Agrees (λ _ t. Writes new before t) r (as_sort s p)

postfix_binary : (o : Between) (a b : Phrase) → postfix (binary o a b) ≡ postfix a ++ (postfix b ++ code.Operator (operator_of o) ∷ [])
postfix_binary (By o) a b = refl
postfix_binary Next a b = refl

postfix_unary : (o : Prefix) (a : Phrase) → postfix (unary o a) ≡ prefix_code o ++ (postfix a ++ code.Operator (operator_before o) ∷ [])
postfix_unary Minus a = refl
postfix_unary Bang' a = refl
postfix_unary (Bound ForAll x) a = refl
postfix_unary (Bound ForSome x) a = refl
postfix_unary (Modal InBox p) a = refl
postfix_unary (Modal InDia p) a = refl

-- an operator behind its right operand
behind : (before a b mid new c : List Code) (x : Code) → mid ≡ (before ++ a) ++ b → new ≡ mid ++ x ∷ [] → c ≡ a ++ (b ++ x ∷ []) → new ≡ before ++ c
behind before a b mid new c x m n e = n ∙ ap (λ (l : List Code). l ++ x ∷ []) m ∙ append_assoc (before ++ a) b (x ∷ [])
    ∙ append_assoc before a (b ++ x ∷ []) ∙ ap (λ (l : List Code). before ++ l) (sym e)

module _ (old mid new : List Code) (l : Last) (x : OpenPart) (p : Piece) (before : List Code) (is : IsLast l p) where
  pub left_err : (b : BetweenPart) (so : Sort) (f : LexemeFault) (e : Part) → so ≡ operand_sort (said b) → x ≡ part.Left b → x ≡ shape e
      → old ≡ before ++ (part_code e ++ piece_code p) → Settles old new l so (Err f) → Agrees (Joins new before) (Err f) (join e p)
  left_err b so f (Left o a) z y k at c =
      let same : said b ≡ o = said_is b o cc in
      let a' = c p (before ++ postfix a) is (at ∙ sym (append_assoc before (postfix a) (piece_code p))) in
      agrees_err {X = Unit {0}} (λ _ t. Writes new (before ++ postfix a) t) (Joins new before) f (as_sort (operand_sort o) p)
      (λ b. Some (Is (result_sort o) (binary o a b) Done)) (rw (← same, ← z) a')
  left_err b so f (Before o) z y k at c = absurd cc
  left_err b so f (Inside o) z y k at c = absurd cc

  pub left_ok : (b : BetweenPart) (so rs : Sort) (e : Part) → so ≡ operand_sort (said b) → rs ≡ result_sort (said b) → x ≡ part.Left b → x ≡ shape e
      → old ≡ before ++ (part_code e ++ piece_code p) → Settles old mid l so (Ok tt) → new ≡ mid ++ code.Operator (operator_of (said b)) ∷ []
      → Agrees (Joins new before) (Ok (last.Tree rs tail.Done)) (join e p)
  left_ok b so rs (Left o a) z z' y k at c n =
      let same : said b ≡ o = said_is b o cc in
      let w = agrees_ok {X = Unit {0}} (λ _ t. Writes mid (before ++ postfix a) t) tt (as_sort so p)
      (c p (before ++ postfix a) is (at ∙ sym (append_assoc before (postfix a) (piece_code p)))) in
      let n' : new ≡ mid ++ code.Operator (operator_of o) ∷ [] = rw (← same) n in
      let so' : so ≡ operand_sort o = z ∙ ap operand_sort same in
      let rs' : rs ≡ result_sort o = z' ∙ ap result_sort same in
      rw (← so', w.1) (record {
        last = record { same = ap (λ (s : Sort). last.Tree s tail.Done) rs'; lone = tt };
        out = behind before (postfix a) (postfix w.0) mid new (postfix (binary o a w.0)) (code.Operator (operator_of o)) w.2.out n' (postfix_binary o a w.0);
      })
  left_ok b so rs (Before o) z z' y k at c n = absurd cc
  left_ok b so rs (Inside o) z z' y k at c n = absurd cc

  pub before_err : (b : PrefixPart) (so : Sort) (f : LexemeFault) (e : Part) → ((q : Prefix) → b ≡ prefix_of q → so ≡ prefix_sort q) → x ≡ part.Before b
      → x ≡ shape e → old ≡ before ++ (part_code e ++ piece_code p) → Settles old new l so (Err f) → Agrees (Joins new before) (Err f) (join e p)
  before_err b so f (Before o) z y k at c =
      let z' : so ≡ prefix_sort o = z o cc in
      let a' = c p (before ++ prefix_code o) is (at ∙ sym (append_assoc before (prefix_code o) (piece_code p))) in
      agrees_err {X = Unit {0}} (λ _ t. Writes new (before ++ prefix_code o) t) (Joins new before) f (as_sort (prefix_sort o) p)
      (λ b. Some (Is (prefix_sort o) (unary o b) Done)) (rw (← z') a')
  before_err b so f (Left o a) z y k at c = absurd cc
  before_err b so f (Inside o) z y k at c = absurd cc

  pub before_ok : (b : PrefixPart) (so : Sort) (z : Code) (e : Part) → ((q : Prefix) → b ≡ prefix_of q → so ≡ prefix_sort q)
      → ((q : Prefix) → b ≡ prefix_of q → z ≡ code.Operator (operator_before q)) → x ≡ part.Before b → x ≡ shape e
      → old ≡ before ++ (part_code e ++ piece_code p) → Settles old mid l so (Ok tt) → new ≡ mid ++ z ∷ []
      → Agrees (Joins new before) (Ok (last.Tree so tail.Done)) (join e p)
  before_ok b so v (Before o) z d y k at c n =
      let z' : so ≡ prefix_sort o = z o cc in
      let d' : v ≡ code.Operator (operator_before o) = d o cc in
      let w = agrees_ok {X = Unit {0}} (λ _ t. Writes mid (before ++ prefix_code o) t) tt (as_sort so p)
      (c p (before ++ prefix_code o) is (at ∙ sym (append_assoc before (prefix_code o) (piece_code p)))) in
      let n' : new ≡ mid ++ code.Operator (operator_before o) ∷ [] = rw (← d') n in
      rw (← z', w.1) (record {
        last = record { same = refl; lone = tt };
        out = behind before (prefix_code o) (postfix w.0) mid new (postfix (unary o w.0)) (code.Operator (operator_before o)) w.2.out n' (postfix_unary o w.0);
      })
  before_ok b so v (Left o a) z d y k at c n = absurd cc
  before_ok b so v (Inside o) z d y k at c n = absurd cc

-- a fault where there is a value is want of memory
pub agrees_memory : {X Y V W : Type 0} (s : X → Y → Type 0) (r : V → W → Type 0) (f : LexemeFault) (y : Y) (o : Option W) → Agrees s (Err f) (Some y)
    → Agrees r (Err f) o
agrees_memory s r Memory y o a = tt
agrees_memory s r Syntax y o a = absurd a

-- the same value, shown in another way
pub ok_same : {X Y V : Type 0} (s : X → Y → Type 0) (r : V → Y → Type 0) (x : X) (v : V) (o : Option Y) → ((y : Y) → s x y → r v y) → Agrees s (Ok x) o
    → Agrees r (Ok v) o
ok_same s r x v (Some y) f a = f y a
ok_same s r x v None f a = a

-- a value made of it
pub ok_maps : {X Y V W : Type 0} (s : X → Y → Type 0) (r : V → W → Type 0) (x : X) (v : V) (o : Option Y) (g : Y → W)
    → ((y : Y) → s x y → r v (g y)) → Agrees s (Ok x) o → Agrees r (Ok v) (o >>= λ y. Some (g y))
ok_maps s r x v (Some y) g f a = f y a
ok_maps s r x v None g f a = a

-- a fault, whatever a value were to show
pub err_same : {X Y V : Type 0} (s : X → Y → Type 0) (r : V → Y → Type 0) (f : LexemeFault) (o : Option Y) → Agrees s (Err f) o → Agrees r (Err f) o
err_same s r Memory (Some y) a = a
err_same s r Memory None a = a
err_same s r Syntax (Some y) a = a
err_same s r Syntax None a = a
