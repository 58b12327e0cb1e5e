-- The reader of expressions reads their grammar.
use Rattle.std.proofs.Common.{◌≡◌, ℕ, true, false, List, [], ◌∷◌, ◌++◌, inl, inr, Option, Some, None, refl, sym, ap, subst, ◌∙◌, append_assoc}
use Rattle.std.proofs.lemmas.List.{append-nil}
use Rattle.dlk_grammar.specs.Lexemes.{Word, Lexeme, Name, OpenBrace, Prime, Gets, Query, Semi}
use Rattle.dlk_grammar.specs.Phrases.{Phrase, Variable}
use Rattle.dlk_tree.specs.declared.op.Sort.{Sort}
use Rattle.dlk_tree.specs.declared.op.Sort.TheVariants.{Term, Formula, Program}
use Rattle.dlk_machine.specs.Machine.{◌>>=◌, Done, Bare, Is, State, Wants, Has, Starts, StartsPrime, step, ended}
use Rattle.dlk_grammar.specs.declared.token.Dots.{Dots}
use Rattle.dlk_machine.specs.Parse.{or_else, reader}
use Rattle.dlk_grammar.specs.Grammar.{formula, Reads, ReadsExpression, as-formula, as-program, as-term}
use Rattle.dlk_machine.specs.Expressions.{ExpressionState, Unread, FirstName, FirstPrime, AsFormula, AsProgram, as_formula, as_program}
use Rattle.dlk_machine.specs.Expressions.{expression_step, term_or_formula, expression_ended, expression_reader}
use Rattle.dlk_machine.proofs.Opening.{some_is, bind_some, plain_permitted, Begun, states, states_more}
use Rattle.dlk_machine.proofs.Only.{only_at}
use Rattle.dlk_machine.proofs.Found.{ends}
use Rattle.dlk_machine.proofs.Live.{live}
use Rattle.dlk_machine.proofs.Parsing.{known, none_some, Reader}
use Rattle.dlk_machine.proofs.Reading.{passed_after}

-- the state of the formula reader, or of the program reader, at the same place
data AlikeFormula : ExpressionState → State → Type 0 where
  formula-unread : AlikeFormula Unread (Wants [])
  formula-name : {n : ℕ} {x : Word} → AlikeFormula (FirstName n x) (Has [] (Is Term (Variable x false) (Bare n x)))
  formula-prime : {x : Word} → AlikeFormula (FirstPrime x) (Has [] (Is Term (Variable x true) Done))
  formula-in : {x : State} → AlikeFormula (AsFormula x) x

data AlikeProgram : ExpressionState → State → Type 0 where
  program-unread : AlikeProgram Unread (Wants [])
  program-name : {n : ℕ} {x : Word} → AlikeProgram (FirstName n x) (Starts [] x)
  program-prime : {x : Word} → AlikeProgram (FirstPrime x) (StartsPrime [] x)
  program-in : {x : State} → AlikeProgram (AsProgram x) x

as_formula_is : (x : State) (k : Lexeme) (y : State) → step Formula x k ≡ Some y → as_formula x k ≡ Some (AsFormula y)
as_formula_is x k y e = ap (λ (o : Option State). o >>= λ z. Some (AsFormula z)) e

as_program_is : (x : State) (k : Lexeme) (y : State) → step Program x k ≡ Some y → as_program x k ≡ Some (AsProgram y)
as_program_is x k y e = ap (λ (o : Option State). o >>= λ z. Some (AsProgram z)) e

abbrev NextFormula : ExpressionState → Lexeme → State → Type 0
NextFormula e k y = (f : ExpressionState) × (expression_step e k ≡ Some f) × AlikeFormula f y

abbrev NextProgram : ExpressionState → Lexeme → State → Type 0
NextProgram e k y = (f : ExpressionState) × (expression_step e k ≡ Some f) × AlikeProgram f y

to_formula : (e : ExpressionState) (x : State) (k : Lexeme) (y : State) → expression_step e k ≡ as_formula x k → step Formula x k ≡ Some y → NextFormula e k y
to_formula e x k y s h = (AsFormula y, s ∙ as_formula_is x k y h, formula-in)

to_program : (e : ExpressionState) (x : State) (k : Lexeme) (y : State) → expression_step e k ≡ as_program x k → step Program x k ≡ Some y → NextProgram e k y
to_program e x k y s h = (AsProgram y, s ∙ as_program_is x k y h, program-in)

formula_moves : {e : ExpressionState} {x : State} → AlikeFormula e x → (k : Lexeme) (y : State) → step Formula x k ≡ Some y → NextFormula e k y
formula_moves formula-unread (Name n x) y h =
    (FirstName n x, refl, subst (λ (z : State). AlikeFormula (FirstName n x) z) (some_is (Has [] (Is Term (Variable x false) (Bare n x))) y h) formula-name)
formula_moves formula-unread Query y h = absurd (none_some y h)
formula_moves formula-unread (OpenBrace n) y h = absurd (none_some y h)
formula_moves formula-unread k y h = to_formula Unread (Wants []) k y refl h
formula_moves (formula-name {n = n} {x = x}) Prime y h =
    (FirstPrime x, refl, subst (λ (z : State). AlikeFormula (FirstPrime x) z) (some_is (Has [] (Is Term (Variable x true) Done)) y h) formula-prime)
formula_moves formula-name Semi y h = absurd (none_some y h)
formula_moves formula-name Gets y h = absurd (none_some y h)
formula_moves (formula-name {n = n} {x = x}) k y h = to_formula (FirstName n x) (Has [] (Is Term (Variable x false) (Bare n x))) k y refl h
formula_moves formula-prime Gets y h = absurd (none_some y h)
formula_moves (formula-prime {x = x}) k y h = to_formula (FirstPrime x) (Has [] (Is Term (Variable x true) Done)) k y refl h
formula_moves (formula-in {x = x}) k y h = to_formula (AsFormula x) x k y refl h

program_moves : {e : ExpressionState} {x : State} → AlikeProgram e x → (k : Lexeme) (y : State) → step Program x k ≡ Some y → NextProgram e k y
program_moves program-unread (Name n x) y h =
    (FirstName n x, refl, subst (λ (z : State). AlikeProgram (FirstName n x) z) (some_is (Starts [] x) y h) program-name)
program_moves program-unread Query y h = to_program Unread (Wants []) Query y refl h
program_moves program-unread (OpenBrace n) y h = to_program Unread (Wants []) (OpenBrace n) y refl h
program_moves program-unread _ y h = absurd (none_some y h)
program_moves (program-name {n = n} {x = x}) Prime y h =
    (FirstPrime x, refl, subst (λ (z : State). AlikeProgram (FirstPrime x) z) (some_is (StartsPrime [] x) y h) program-prime)
program_moves (program-name {n = n} {x = x}) Semi y h = to_program (FirstName n x) (Starts [] x) Semi y refl h
program_moves (program-name {n = n} {x = x}) Gets y h = to_program (FirstName n x) (Starts [] x) Gets y refl h
program_moves program-name _ y h = absurd (none_some y h)
program_moves (program-prime {x = x}) Gets y h = to_program (FirstPrime x) (StartsPrime [] x) Gets y refl h
program_moves program-prime _ y h = absurd (none_some y h)
program_moves (program-in {x = x}) k y h = to_program (AsProgram x) x k y refl h

formula_passes : (s : List Lexeme) (e : ExpressionState) (x y : State) → AlikeFormula e x → states (reader Formula) x s ≡ Some y
    → (f : ExpressionState) × (states expression_reader e s ≡ Some f) × AlikeFormula f y
formula_passes [] e x y a h = (e, refl, subst (λ (z : State). AlikeFormula e z) (some_is x y h) a)
formula_passes (k ∷ s) e x y a h =
    let b = bind_some (step Formula x k) (λ z. states (reader Formula) z s) y h in
    let m = formula_moves a k b.0 b.1 in
    let w = formula_passes s m.0 b.0 y m.2 b.2 in
    (w.0, ap (λ (o : Option ExpressionState). o >>= λ z. states expression_reader z s) m.1 ∙ w.1, w.2)

program_passes : (s : List Lexeme) (e : ExpressionState) (x y : State) → AlikeProgram e x → states (reader Program) x s ≡ Some y
    → (f : ExpressionState) × (states expression_reader e s ≡ Some f) × AlikeProgram f y
program_passes [] e x y a h = (e, refl, subst (λ (z : State). AlikeProgram e z) (some_is x y h) a)
program_passes (k ∷ s) e x y a h =
    let b = bind_some (step Program x k) (λ z. states (reader Program) z s) y h in
    let m = program_moves a k b.0 b.1 in
    let w = program_passes s m.0 b.0 y m.2 b.2 in
    (w.0, ap (λ (o : Option ExpressionState). o >>= λ z. states expression_reader z s) m.1 ∙ w.1, w.2)

formula_end : {f : ExpressionState} {y : State} → AlikeFormula f y → (g : Sort) (t : Phrase) → ended g y ≡ Some t → expression_ended f ≡ term_or_formula y
formula_end formula-unread g t e = absurd (none_some t e)
formula_end formula-name g t e = refl
formula_end formula-prime g t e = refl
formula_end formula-in g t e = refl

program_end : {f : ExpressionState} {y : State} → AlikeProgram f y → (t : Phrase) → ended Program y ≡ Some t → expression_ended f ≡ Some t
program_end program-unread t e = absurd (none_some t e)
program_end program-name t e = absurd (none_some t e)
program_end program-prime t e = absurd (none_some t e)
program_end program-in t e = e

-- with a choice before the end
abbrev chosen_end : State → Option Phrase → Option Phrase
chosen_end x q = or_else q (ended Term x) (λ u. Some u)

only_expression : {s : List Lexeme} {t : Phrase} → ReadsExpression s t
    → (y : ExpressionState) × (states expression_reader Unread s ≡ Some y) × (expression_ended y ≡ Some t)
only_expression (as-formula {s = s} {a = a} d) =
    let w = only_at Formula Formula s a d refl in
    let p = formula_passes s Unread (Wants []) w.0 formula-unread w.1 in
    (p.0, p.1, formula_end p.2 Formula a w.2 ∙ ap (chosen_end w.0) w.2)
only_expression (as-term {s = s} {a = a} d never) =
    let w = only_at Formula Term s a d refl in
    let p = formula_passes s Unread (Wants []) w.0 formula-unread w.1 in
    let none : ended Formula w.0 ≡ None =
    elim (known (ended Formula w.0)) [ inl o ↦ o | inr o ↦ absurd (never o.0 (ends Formula Formula w.0 s o.0 (passed_after Formula s w.0 w.1) o.1)) ] in
    (p.0, p.1, formula_end p.2 Term a w.2 ∙ ap (chosen_end w.0) none ∙ w.2)
only_expression (as-program {s = s} {a = a} d) =
    let w = only_at Program Program s a d refl in
    let p = program_passes s Unread (Wants []) w.0 program-unread w.1 in
    (p.0, p.1, program_end p.2 a w.2)

-- The state after these tokens.
abbrev ExpressionAfter : ExpressionState → List Lexeme → Type 0
ExpressionAfter Unread all = all ≡ []
ExpressionAfter (FirstName n x) all = all ≡ Name n x ∷ []
ExpressionAfter (FirstPrime x) all = (n : ℕ) × (all ≡ Name n x ∷ Prime ∷ [])
ExpressionAfter (AsFormula x) all = states (reader Formula) (Wants []) all ≡ Some x
ExpressionAfter (AsProgram x) all = states (reader Program) (Wants []) all ≡ Some x

expression_moved : (x y : ExpressionState) (all : List Lexeme) → Some x ≡ Some y → ExpressionAfter x all → ExpressionAfter y all
expression_moved x y all e a = subst (λ (z : ExpressionState). ExpressionAfter z all) (some_is x y e) a

formula_goes : (x : State) (k : Lexeme) (y : ExpressionState) (all : List Lexeme) → states (reader Formula) (Wants []) all ≡ Some x
    → as_formula x k ≡ Some y → ExpressionAfter y (all ++ k ∷ [])
formula_goes x k y all p e =
    let b = bind_some (step Formula x k) (λ z. Some (AsFormula z)) y e in
    expression_moved (AsFormula b.0) y _ b.2 (states_more (reader Formula) all k (Wants []) x b.0 p b.1)

program_goes : (x : State) (k : Lexeme) (y : ExpressionState) (all : List Lexeme) → states (reader Program) (Wants []) all ≡ Some x
    → as_program x k ≡ Some y → ExpressionAfter y (all ++ k ∷ [])
program_goes x k y all p e =
    let b = bind_some (step Program x k) (λ z. Some (AsProgram z)) y e in
    expression_moved (AsProgram b.0) y _ b.2 (states_more (reader Program) all k (Wants []) x b.0 p b.1)

-- the state of a reader after tokens that are known
passes_by : (g : Sort) (s all : List Lexeme) (x : State) → all ≡ s → states (reader g) (Wants []) s ≡ Some x → states (reader g) (Wants []) all ≡ Some x
passes_by g s all x e h = ap (states (reader g) (Wants [])) e ∙ h

expression_moves : (x : ExpressionState) (k : Lexeme) (y : ExpressionState) (all : List Lexeme) → ExpressionAfter x all → expression_step x k ≡ Some y
    → ExpressionAfter y (all ++ k ∷ [])
expression_moves Unread (Name n x) y all a e = expression_moved (FirstName n x) y _ e (ap (λ (z : List Lexeme). z ++ Name n x ∷ []) a)
expression_moves Unread Query y all a e = program_goes (Wants []) Query y all (passes_by Program [] all (Wants []) a refl) e
expression_moves Unread (OpenBrace n) y all a e = program_goes (Wants []) (OpenBrace n) y all (passes_by Program [] all (Wants []) a refl) e
expression_moves Unread k y all a e = formula_goes (Wants []) k y all (passes_by Formula [] all (Wants []) a refl) e
expression_moves (FirstName n x) Prime y all a e = expression_moved (FirstPrime x) y _ e (n, ap (λ (z : List Lexeme). z ++ Prime ∷ []) a)
expression_moves (FirstName n x) Semi y all a e = program_goes (Starts [] x) Semi y all (passes_by Program (Name n x ∷ []) all (Starts [] x) a refl) e
expression_moves (FirstName n x) Gets y all a e = program_goes (Starts [] x) Gets y all (passes_by Program (Name n x ∷ []) all (Starts [] x) a refl) e
expression_moves (FirstName n x) k y all a e =
    formula_goes (Has [] (Is Term (Variable x false) (Bare n x))) k y all
    (passes_by Formula (Name n x ∷ []) all (Has [] (Is Term (Variable x false) (Bare n x))) a refl) e
expression_moves (FirstPrime x) Gets y all a e =
    program_goes (StartsPrime [] x) Gets y all (passes_by Program (Name a.0 x ∷ Prime ∷ []) all (StartsPrime [] x) a.1 refl) e
expression_moves (FirstPrime x) k y all a e =
    formula_goes (Has [] (Is Term (Variable x true) Done)) k y all
    (passes_by Formula (Name a.0 x ∷ Prime ∷ []) all (Has [] (Is Term (Variable x true) Done)) a.1 refl) e
expression_moves (AsFormula x) k y all a e = formula_goes x k y all a e
expression_moves (AsProgram x) k y all a e = program_goes x k y all a e

expression_after : (s : List Lexeme) (x : ExpressionState) (all : List Lexeme) (y : ExpressionState) → ExpressionAfter x all
    → states expression_reader x s ≡ Some y → ExpressionAfter y (all ++ s)
expression_after [] x all y a e = rw append-nil (expression_moved x y all e a)
expression_after (k ∷ s) x all y a e =
    let b = bind_some (expression_step x k) (λ z. states expression_reader z s) y e in
    subst (λ (z : List Lexeme). ExpressionAfter y z) (append_assoc all (k ∷ []) s)
    (expression_after s b.0 (all ++ k ∷ []) y (expression_moves x k b.0 all a b.1) b.2)

-- what is no whole formula is none
pub no_formula : (s : List Lexeme) (x : State) → states (reader Formula) (Wants []) s ≡ Some x → ended Formula x ≡ None → (b : Phrase) → ¬ Reads formula s b
no_formula s x p e b d =
    let w = only_at Formula Formula s b d refl in
    none_some b (sym e ∙ ap (ended Formula) (some_is x w.0 (sym p ∙ w.1)) ∙ w.2)

said : (all : List Lexeme) (a b : Phrase) → Some a ≡ Some b → ReadsExpression all a → ReadsExpression all b
said all a b e d = subst (λ (z : Phrase). ReadsExpression all z) (some_is a b e) d

found_formula : (x : State) (all : List Lexeme) (t : Phrase) → states (reader Formula) (Wants []) all ≡ Some x → term_or_formula x ≡ Some t
    → ReadsExpression all t
found_formula x all t p e = elim (known (ended Formula x)) [
  | inr o ↦
      said all o.0 t (subst (λ (q : Option Phrase). chosen_end x q ≡ Some t) o.1 e)
      (as-formula (ends Formula Formula x all o.0 (passed_after Formula all x p) o.1))
  | inl o ↦
      let e : ended Term x ≡ Some t = subst (λ (q : Option Phrase). chosen_end x q ≡ Some t) o e in
      as-term (ends Formula Term x all t (passed_after Formula all x p) e) (no_formula all x p o)
]

found_expression : (x : ExpressionState) (all : List Lexeme) (t : Phrase) → ExpressionAfter x all → expression_ended x ≡ Some t → ReadsExpression all t
found_expression Unread all t a e = absurd (none_some t e)
found_expression (FirstName n x) all t a e =
    found_formula (Has [] (Is Term (Variable x false) (Bare n x))) all t
    (passes_by Formula (Name n x ∷ []) all (Has [] (Is Term (Variable x false) (Bare n x))) a refl) e
found_expression (FirstPrime x) all t a e =
    found_formula (Has [] (Is Term (Variable x true) Done)) all t
    (passes_by Formula (Name a.0 x ∷ Prime ∷ []) all (Has [] (Is Term (Variable x true) Done)) a.1 refl) e
found_expression (AsFormula x) all t a e = found_formula x all t a e
found_expression (AsProgram x) all t a e = as-program (ends Program Program x all t (passed_after Program all x a) e)

module _ (d : Dots) where
  formula_live : (x : State) (all : List Lexeme) → states (reader Formula) (Wants []) all ≡ Some x → Begun d ReadsExpression all
  formula_live x all p =
      let b = live Formula x all (passed_after Formula all x p) in
      record { more = b.more; permitted = plain_permitted d b.more b.plain; tree = b.tree; reads = as-formula b.reads }

  expression_live : (x : ExpressionState) (all : List Lexeme) → ExpressionAfter x all → Begun d ReadsExpression all
  expression_live Unread all a = formula_live (Wants []) all (passes_by Formula [] all (Wants []) a refl)
  expression_live (FirstName n x) all a =
      formula_live (Has [] (Is Term (Variable x false) (Bare n x))) all
      (passes_by Formula (Name n x ∷ []) all (Has [] (Is Term (Variable x false) (Bare n x))) a refl)
  expression_live (FirstPrime x) all a =
      formula_live (Has [] (Is Term (Variable x true) Done)) all
      (passes_by Formula (Name a.0 x ∷ Prime ∷ []) all (Has [] (Is Term (Variable x true) Done)) a.1 refl)
  expression_live (AsFormula x) all a = formula_live x all a
  expression_live (AsProgram x) all a =
      let b = live Program x all (passed_after Program all x a) in
      record { more = b.more; permitted = plain_permitted d b.more b.plain; tree = b.tree; reads = as-program b.reads }

  pub expressions_all : Reader d expression_reader ReadsExpression
  expressions_all = record {
    only = λ s t r. only_expression r;
    found = λ s y t e f. found_expression y s t (expression_after s Unread [] y refl e) f;
    live = λ s y e. expression_live y s (expression_after s Unread [] y refl e);
  }
