-- What a lexeme and the end make of the reader of a tree, for each form.
use Rattle.std.proofs.Common.{◌≡◌, Bool, true, Option, Some, None, Result, Ok, Err, refl, subst}
use Rattle.dlk_grammar.specs.declared.token.Form.{Form}
use Rattle.dlk_grammar.specs.declared.token.Form.TheVariants as form
use Rattle.dlk_grammar.specs.Lexemes.{Lexeme}
use Rattle.dlk_tree.specs.declared.op.Sort.{Sort}
use Rattle.dlk_tree.specs.declared.op.Sort.TheVariants.{Term, Formula, Program}
use Rattle.dlk_machine.specs.Machine.{when, State, step, ended}
use Rattle.dlk_machine.specs.Forms.{FormState}
use Rattle.dlk_machine.specs.Expressions.{ExpressionState, expression_step, expression_ended}
use Rattle.dlk_reader.specs.Outcomes.{leaving}
use Rattle.dlk_reader.specs.Shows.{IsWhole, seen, Shows, Agrees}
use Rattle.dlk_reader.specs.declared.lexeme.Lexeme.{Lexeme as SeenLexeme}
use Rattle.dlk_reader.specs.declared.parts.Mode.{Mode}
use Rattle.dlk_reader.specs.declared.stack.Stack.{Stack}
use Rattle.dlk_reader.specs.declared.stop.LexemeFault.{LexemeFault}
use Rattle.dlk_reader.specs.declared.stop.LexemeFault.TheVariants.{Memory, Syntax}
use Rattle.dlk_reader.proofs.Agree.{ok_same, err_same}
use Rattle.dlk_forms.specs.Readers.{ShowsOf, ShowsExpression, ShowsPlace, tree_step, tree_ended}
use Rattle.dlk_forms.specs.declared.expressions.Place.{Place}
use Rattle.dlk_forms.specs.declared.expressions.Place.TheVariants as place
use Rattle.dlk_forms.proofs.Steps.{as_programs, expression_of}

-- a step that is permitted
pub when_err : {X Y V : Type 0} (s : X → Y → Type 0) (r : V → Y → Type 0) (f : LexemeFault) (b : Bool) (o : Option Y) → b ≡ true → Agrees s (Err f) o
    → Agrees r (Err f) (when b o)
when_err s r f b o e a = rw e (err_same s r f o a)

pub when_ok : {X Y V : Type 0} (s : X → Y → Type 0) (r : V → Y → Type 0) (x : X) (v : V) (b : Bool) (o : Option Y) → b ≡ true
    → ((y : Y) → s x y → r v y) → Agrees s (Ok x) o → Agrees r (Ok v) (when b o)
when_ok s r x v b o e f a = rw e (ok_same s r x v o f a)

module _ (wanted : Form) (k new : Stack) (p : Place) where
  pub tree_steps : (r : Result Place LexemeFault) (l : Lexeme) → ((x : ExpressionState) → ShowsExpression k p x → Agrees (ShowsExpression new) r
      (expression_step x l)) → ((s : Sort) (x : State) → ShowsOf s k p x → Agrees (ShowsOf s new) r (step s x l)) → (x : FormState wanted)
      → ShowsPlace wanted k p x → Agrees (ShowsPlace wanted new) r (tree_step wanted x l)
  tree_steps r l e o = elim wanted as (λ wanted. (x : FormState wanted) → ShowsPlace wanted k p x
      → Agrees (ShowsPlace wanted new) r (tree_step wanted x l))
      [ form.Formula ↦ o Formula | form.Term ↦ o Term | form.Program ↦ o Program | form.Expression ↦ e ]

  pub tree_ends : (r : Result (Unit {0}) LexemeFault) → ((x : ExpressionState) → ShowsExpression k p x → Agrees (λ _ t. IsWhole new t) r
      (expression_ended x)) → ((s : Sort) (x : State) → ShowsOf s k p x → Agrees (λ _ t. IsWhole new t) r (ended s x)) → (x : FormState wanted)
      → ShowsPlace wanted k p x → Agrees (λ _ t. IsWhole new t) r (tree_ended wanted x)
  tree_ends r e o = elim wanted as (λ wanted. (x : FormState wanted) → ShowsPlace wanted k p x
      → Agrees (λ _ t. IsWhole new t) r (tree_ended wanted x))
      [ form.Formula ↦ o Formula | form.Term ↦ o Term | form.Program ↦ o Program | form.Expression ↦ e ]

-- what a call leaves, where another thing holds it
leaving_same : {R V Y : Type 0} (s : R → Y → Type 0) (t : V → Y → Type 0) (r : R) (v : V) (done : Result (Unit {0}) LexemeFault) (u : Option Y)
    → ((y : Y) → s r y → t v y) → Agrees s (leaving r done) u → Agrees t (leaving v done) u
leaving_same s t r v (Ok d) (Some y) f a = f y a
leaving_same s t r v (Ok d) None f a = a
leaving_same s t r v (Err Memory) u f a = tt
leaving_same s t r v (Err Syntax) (Some y) f a = a
leaving_same s t r v (Err Syntax) None f a = a

pub when_leaving : {R V Y : Type 0} (s : R → Y → Type 0) (t : V → Y → Type 0) (r : R) (v : V) (done : Result (Unit {0}) LexemeFault) (b : Bool)
    (u : Option Y) → b ≡ true → ((y : Y) → s r y → t v y) → Agrees s (leaving r done) u → Agrees t (leaving v done) (when b u)
when_leaving s t r v done b u e f a = rw e (leaving_same s t r v done u f a)

-- In a tree of a sort only the stack and where its reader stands change.
module _ (k new : Stack) (sort : Sort) (mode next : Mode) (c : SeenLexeme) (done : Result (Unit {0}) LexemeFault)
    (steps : (y : State) → Shows k mode y → Agrees (Shows new) (leaving next done) (step sort y (seen c))) where
  abbrev left : Result Place LexemeFault
  left = leaving (place.Of sort next) done

  goes_of : (s : Sort) (x : State) → ShowsOf s k (place.Of sort mode) x → Agrees (ShowsOf s new) left (step s x (seen c))
  goes_of s x h =
      let same : sort ≡ s = (let i = h.place in cc) in
      let there : h.mode ≡ mode = (let i = h.place in cc) in
      subst (λ (g : Sort). Agrees (ShowsOf g new) left (step g x (seen c))) same
      (leaving_same (Shows new) (ShowsOf sort new) next (place.Of sort next) done (step sort x (seen c))
      (λ y shows. record { mode = next; place = refl; shows = shows }) (steps x (subst (λ (m : Mode). Shows k m x) there h.shows)))

  goes_expression : (x : ExpressionState) → ShowsExpression k (place.Of sort mode) x → Agrees (ShowsExpression new) left (expression_step x (seen c))
  goes_expression x h =
      let s = expression_of k sort mode (place.Of sort mode) x refl h in
      let a = subst (λ (g : Sort). Agrees (ShowsOf g new) left (step g s.0 (seen c))) s.2
      (goes_of sort s.0 (record { mode = mode; place = refl; shows = s.3 })) in
      rw s.1 (as_programs new left (step Program s.0 (seen c)) a)

  pub tree_goes_on : (wanted : Form) (x : FormState wanted) → ShowsPlace wanted k (place.Of sort mode) x
      → Agrees (ShowsPlace wanted new) left (tree_step wanted x (seen c))
  tree_goes_on wanted = tree_steps wanted k new (place.Of sort mode) left (seen c) goes_expression goes_of
