-- What a step answers, seen from the reader above it.
use Rattle.std.proofs.Common.{◌≡◌, ℕ, true, false, [], Option, Some, None, Result, Ok, Err, refl, subst}
use Rattle.dlk_tree.specs.declared.op.Sort.{Sort}
use Rattle.dlk_tree.specs.declared.op.Sort.TheVariants.{Term, Program}
use Rattle.dlk_grammar.specs.Lexemes.{Word}
use Rattle.dlk_grammar.specs.Phrases.{Phrases, none, Variable}
use Rattle.dlk_machine.specs.Machine.{◌>>=◌, Done, Bare, Is, State, Wants, Has, Starts, StartsPrime}
use Rattle.dlk_machine.specs.Expressions.{ExpressionState, Unread, FirstName, FirstPrime, AsFormula, AsProgram, as_formula, as_program, expression_step}
use Rattle.dlk_machine.specs.Sequents.{Side, Fresh, Reading, inner, sequent_step}
use Rattle.dlk_reader.specs.declared.lexeme.Lexeme.{Lexeme as SeenLexeme}
use Rattle.dlk_reader.specs.declared.lexeme.Lexeme.TheVariants as lexeme
use Rattle.dlk_reader.specs.declared.stop.LexemeFault.{LexemeFault}
use Rattle.dlk_reader.specs.declared.stop.LexemeFault.TheVariants.{Memory, Syntax}
use Rattle.dlk_reader.specs.declared.stack.Stack.{Stack}
use Rattle.dlk_reader.specs.declared.parts.Mode.{Mode}
use Rattle.dlk_forms.specs.declared.expressions.Place.{Place}
use Rattle.dlk_forms.specs.declared.expressions.Place.TheVariants as place
use Rattle.dlk_reader.specs.Shows.{seen, IsOpen, Shows, Agrees}
use Rattle.dlk_forms.specs.declared.sides.SidesSoFar.{SidesSoFar}
use Rattle.dlk_forms.specs.Readers.{ShowsOf, ShowsExpression, KeepsSide}

-- a program of an expression
pub as_programs : (k : Stack) (r : Result Place LexemeFault) (o : Option State) → Agrees (ShowsOf Program k) r o
    → Agrees (ShowsExpression k) r (o >>= λ y. Some (AsProgram y))
as_programs k (Ok p) (Some y) a = a
as_programs k (Ok p) None a = a
as_programs k (Err Memory) (Some y) a = a
as_programs k (Err Memory) None a = a
as_programs k (Err Syntax) (Some y) a = a
as_programs k (Err Syntax) None a = a

-- the side does not lie on the stack
pub keeps_side : (r : SidesSoFar) (k : Stack) (w : Side) (l : Phrases) → KeepsSide r w l → KeepsSide (record r { stack = k }) w l
keeps_side r k w l h = record { left = h.left; number = h.number; done = h.done }

-- what begins a program
pub unread_query : (k : SeenLexeme) → k ≡ lexeme.Query → expression_step Unread (seen k) ≡ as_program (Wants []) (seen k)
unread_query k e = rw e refl

pub unread_brace : (k : SeenLexeme) (n : ℕ) → k ≡ lexeme.OpenBrace n → expression_step Unread (seen k) ≡ as_program (Wants []) (seen k)
unread_brace k n e = rw e refl

pub first_name_semi : (n : ℕ) (x : Word) (k : SeenLexeme) → k ≡ lexeme.Semi → expression_step (FirstName n x) (seen k) ≡ as_program (Starts [] x) (seen k)
first_name_semi n x k e = rw e refl

pub first_name_gets : (n : ℕ) (x : Word) (k : SeenLexeme) → k ≡ lexeme.Gets → expression_step (FirstName n x) (seen k) ≡ as_program (Starts [] x) (seen k)
first_name_gets n x k e = rw e refl

pub first_prime_gets : (x : Word) (k : SeenLexeme) → k ≡ lexeme.Gets → expression_step (FirstPrime x) (seen k) ≡ as_program (StartsPrime [] x) (seen k)
first_prime_gets x k e = rw e refl

-- Of a machine that names some lexemes, each other one.
pub unread_other : (k : SeenLexeme) → ((n : ℕ) (x : Word) → k ≡ lexeme.Name n x → ⊥) → ((n : ℕ) → k ≡ lexeme.OpenBrace n → ⊥)
    → (k ≡ lexeme.Query → ⊥) → expression_step Unread (seen k) ≡ as_formula (Wants []) (seen k)
unread_other (lexeme.Name n x) a b c = absurd (a n x refl)
unread_other (lexeme.OpenBrace n) a b c = absurd (b n refl)
unread_other lexeme.Query a b c = absurd (c refl)
unread_other _ a b c = refl

pub first_name_other : (n : ℕ) (x : Word) (k : SeenLexeme) → (k ≡ lexeme.Prime → ⊥) → (k ≡ lexeme.Gets → ⊥) → (k ≡ lexeme.Semi → ⊥)
    → expression_step (FirstName n x) (seen k) ≡ as_formula (Has [] (Is Term (Variable x false) (Bare n x))) (seen k)
first_name_other n x lexeme.Prime a b c = absurd (a refl)
first_name_other n x lexeme.Gets a b c = absurd (b refl)
first_name_other n x lexeme.Semi a b c = absurd (c refl)
first_name_other n x _ a b c = refl

pub first_prime_other : (x : Word) (k : SeenLexeme) → (k ≡ lexeme.Gets → ⊥)
    → expression_step (FirstPrime x) (seen k) ≡ as_formula (Has [] (Is Term (Variable x true) Done)) (seen k)
first_prime_other x lexeme.Gets a = absurd (a refl)
first_prime_other x _ a = refl

pub fresh_other : (w : Side) (k : SeenLexeme) → (k ≡ lexeme.Turnstile → ⊥) → sequent_step (Fresh w) (seen k) ≡ inner w none (Wants []) (seen k)
fresh_other w lexeme.Turnstile a = absurd (a refl)
fresh_other w _ a = refl

pub reading_other : (w : Side) (l : Phrases) (x : State) (k : SeenLexeme) → (k ≡ lexeme.Turnstile → ⊥) → (k ≡ lexeme.Comma → ⊥)
    → sequent_step (Reading w l x) (seen k) ≡ inner w l x (seen k)
reading_other w l x lexeme.Turnstile a b = absurd (a refl)
reading_other w l x lexeme.Comma a b = absurd (b refl)
reading_other w l x _ a b = refl

-- a program of an expression stands as a tree
pub expression_of : (k : Stack) (sort : Sort) (m : Mode) (p : Place) (x : ExpressionState) → p ≡ place.Of sort m → ShowsExpression k p x
    → (y : State) × (x ≡ AsProgram y) × (sort ≡ Program) × Shows k m y
expression_of k sort m p Unread e h = absurd (let i = h.place in cc)
expression_of k sort m p (FirstName n x) e h = absurd (let i = h.place in cc)
expression_of k sort m p (FirstPrime x) e h = absurd (let i = h.place in cc)
expression_of k sort m p (AsFormula y) e h = absurd (let i = h.place in cc)
expression_of k sort m p (AsProgram y) e h =
    let s : sort ≡ Program = (let i = h.place in cc) in
    let same : h.mode ≡ m = (let i = h.place in cc) in
    (y, refl, s, subst (λ (o : Mode). Shows k o y) same h.shows)

pub expression_name : (k : Stack) (n : ℕ) (x : Word) (p : Place) (y : ExpressionState) → p ≡ place.FirstName n x → ShowsExpression k p y
    → (y ≡ FirstName n x) × IsOpen k [] []
expression_name k n x p Unread e h = absurd (let i = h.place in cc)
expression_name k n x p (FirstName m z) e h = ((let i = h.place in cc), h.lists)
expression_name k n x p (FirstPrime z) e h = absurd (let i = h.place in cc)
expression_name k n x p (AsFormula y) e h = absurd (let i = h.place in cc)
expression_name k n x p (AsProgram y) e h = absurd (let i = h.place in cc)

pub expression_prime : (k : Stack) (x : Word) (p : Place) (y : ExpressionState) → p ≡ place.FirstPrime x → ShowsExpression k p y
    → (y ≡ FirstPrime x) × IsOpen k [] []
expression_prime k x p Unread e h = absurd (let i = h.place in cc)
expression_prime k x p (FirstName m z) e h = absurd (let i = h.place in cc)
expression_prime k x p (FirstPrime z) e h = ((let i = h.place in cc), h.lists)
expression_prime k x p (AsFormula y) e h = absurd (let i = h.place in cc)
expression_prime k x p (AsProgram y) e h = absurd (let i = h.place in cc)
