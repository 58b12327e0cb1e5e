-- What closes a holder, over plain variables.
use Rattle.std.proofs.Common.{◌≡◌, ℕ, Bool, true, false, List, [], ◌∷◌, ◌++◌, Option, Some, None, Result, Ok, Err, refl, sym, ap, ◌∙◌, append_assoc}
use Rattle.dlk_tree.specs.declared.op.Sort.{Sort}
use Rattle.dlk_tree.specs.declared.op.Sort.TheVariants.{Formula, Program}
use Rattle.dlk_tree.specs.declared.op.OdeItem.TheVariants as ode
use Rattle.dlk_grammar.specs.declared.token.Infix.TheVariants.{And, Greater}
use Rattle.dlk_grammar.specs.Erased.{item_of, ode_items}
use Rattle.dlk_grammar.specs.Lexemes.{Word, Lexeme, Close, CloseBox, CloseBrace, Comma, Semi, Op as Operator}
use Rattle.dlk_grammar.specs.Phrases.{Phrase, Truth, System, Item, Evolve, Items, add}
use Rattle.dlk_machine.specs.Machine.{◌>>=◌, when, By, InBox, InDia, Part, Left, Holder, Round, Args, InContext, In, InBrace, Assigns, Tests, Evolves}
use Rattle.dlk_machine.specs.Machine.{Domain, Notes, Piece, Is, Tail, Braced, State, Wants, Has, as_sort, fits, held_sort, close, items_step}
use Rattle.dlk_reader.specs.Codes.{postfix, postfix_terms}
use Rattle.dlk_reader.specs.Shows.{holder_of, holder_code, equations_of, stack_code, closer_lexeme, left_opened, formulas_joined, last_of}
use Rattle.dlk_reader.specs.Shows.{IsNoBracket, IsVariable, IsOpen, Shows, Agrees, Writes}
use Rattle.dlk_reader.specs.declared.stop.LexemeFault.{LexemeFault}
use Rattle.dlk_reader.specs.declared.stop.LexemeFault.TheVariants.{Memory, Syntax}
use Rattle.dlk_reader.specs.declared.code.Code.{Code}
use Rattle.dlk_reader.specs.declared.code.Code.TheVariants as code
use Rattle.dlk_reader.specs.declared.parts.Equations.{Equations}
use Rattle.dlk_reader.specs.declared.parts.Holder.{Holder as HolderPart}
use Rattle.dlk_reader.specs.declared.parts.Holder.TheVariants as holder
use Rattle.dlk_reader.specs.declared.parts.Modality.TheVariants as modality
use Rattle.dlk_reader.specs.declared.parts.Closer.{Closer}
use Rattle.dlk_reader.specs.declared.parts.Closer.TheVariants as closer
use Rattle.dlk_reader.specs.declared.parts.Tail.TheVariants as tail
use Rattle.dlk_reader.specs.declared.parts.Last.TheVariants as last
use Rattle.dlk_reader.specs.declared.parts.Mode.{Mode}
use Rattle.dlk_reader.specs.declared.parts.Mode.TheVariants as mode
use Rattle.dlk_reader.specs.declared.stack.Stack.{Stack}
use Rattle.dlk_reader.proofs.Agree.{agrees_memory}

pub domain_is : (e : Equations) (h : Holder) → holder.Domain e ≡ holder_of h → (n : ℕ) × (l : Items) × (h ≡ Domain n l) × (e ≡ equations_of n l)
domain_is e (Domain n l) k = (n, l, refl, cc)
domain_is e _ k = absurd cc

pub evolves_is : (e : Equations) (x : Word) (h : Holder) → holder.Evolves e x ≡ holder_of h
    → (n : ℕ) × (l : Items) × (h ≡ Evolves n l x) × (e ≡ equations_of n l)
evolves_is e x (Evolves n l y) k = let same : x ≡ y = cc in (n, l, ap (Evolves n l) (sym same), cc)
evolves_is e x _ k = absurd cc

-- what a call of add_item answers for an evolved variable
abbrev pub Adds : Equations → Word → Result Equations LexemeFault → Type 0
Adds e x r = (n : ℕ) (l : Items) (i : Item) → e ≡ equations_of n l → ode.Evolve x ≡ item_of i → Agrees (λ e m. e ≡ equations_of n m) r (Some (add l i))

pub evolves_err : {V W : Type 0} (r : V → W → Type 0) (e : Equations) (x : Word) (n : ℕ) (l : Items) (f : LexemeFault) (o : Option W) → e ≡ equations_of n l
    → Adds e x (Err f) → Agrees r (Err f) o
evolves_err r e x n l f o k a = agrees_memory (λ (e : Equations) m. e ≡ equations_of n m) r f (add l (Evolve x Truth)) o (a n l (Evolve x Truth) k refl)

-- how the code puts the operator of a system behind its operands
pub system_code : (e : Equations) (n : ℕ) (l : Items) (t : Phrase) → e ≡ equations_of n l
    → postfix (System n l t) ≡ (postfix_terms l ++ postfix t) ++ code.System e.at e.items ∷ []
system_code e n l t k = sym (append_assoc (postfix_terms l) (postfix t) (code.System n (ode_items l) ∷ []))
    ∙ ap (λ (x : Equations). (postfix_terms l ++ postfix t) ++ code.System x.at x.items ∷ []) (sym k)

unsettled : (c : Closer) (h : Holder) (S : List Part) (p : Piece) → IsNoBracket h → as_sort (held_sort h) p ≡ None → close (closer_lexeme c) h S p ≡ None
unsettled c (Round b) S p n e = absurd n
unsettled c (Evolves n l x) S p w e = rw e refl
unsettled closer.Round (Args n x l) S p w e = rw e refl
unsettled closer.Comma (Args n x l) S p w e = rw e refl
unsettled closer.Brace (InContext x) S p w e = rw e refl
unsettled closer.Square (In InBox) S p w e = rw e refl
unsettled closer.Greater (In InDia) S p w e = rw e refl
unsettled closer.Brace InBrace S p w e = rw e refl
unsettled closer.Semicolon (Assigns x b) S p w e = rw e refl
unsettled closer.Semicolon Tests S p w e = rw e refl
unsettled closer.Brace (Domain n l) S p w e = rw e refl
unsettled closer.Round (Notes b l) S p w e = rw e refl
unsettled closer.Comma (Notes b l) S p w e = rw e refl
unsettled _ _ S p w e = refl

pub close_err : {X V : Type 0} (s : X → Phrase → Type 0) (r : V → State → Type 0) (c : Closer) (h : Holder) (S : List Part) (p : Piece) (f : LexemeFault)
    → IsNoBracket h → Agrees s (Err f) (as_sort (held_sort h) p) → Agrees r (Err f) (close (closer_lexeme c) h S p)
close_err s r c h S p Memory n a = tt
close_err s r c h S p Syntax n a = rw (unsettled c h S p n (none (as_sort (held_sort h) p) a)) tt
  where
    none : (o : Option Phrase) → Agrees s (Err Syntax) o → o ≡ None
    none None a = refl
    none (Some t) a = absurd a

pub no_bracket : (x : HolderPart) (h : Holder) → x ≡ holder_of h → ((b : Bool) → x ≡ holder.Round b → ⊥) → IsNoBracket h
no_bracket x (Round b) k n = absurd (n b k)
no_bracket x _ k n = tt

pub formulas_joined_is : (g : Sort) (S : List Part) (p : Piece) → formulas_joined g S p ≡ (left_opened g (By And) S p >>= λ T. Some (Wants T))
formulas_joined_is g S p = go (as_sort Formula p) (fits g Formula S)
  where
    go : (o : Option Phrase) (b : Bool) → (o >>= λ a. when b (Some (Wants (Left (By And) a ∷ S))))
        ≡ ((o >>= λ a. when b (Some (Left (By And) a ∷ S))) >>= λ T. Some (Wants T))
    go None b = refl
    go (Some a) true = refl
    go (Some a) false = refl

-- what a call of made answers for the operator of a system
abbrev pub Makes : Equations → Stack → Stack → Result Mode LexemeFault → Type 0
Makes e k m r = (S : List Part) (operands : List Code) (t : Phrase) (j : Tail) → postfix t ≡ operands ++ code.System e.at e.items ∷ [] → IsOpen k S operands
    → last.Tree Program tail.Braced ≡ last_of (Is Program t j) → IsVariable j (Is Program t j) → Agrees (Shows m) r (Some (Has S (Is Program t j)))

pub domain_closed : (e : Equations) (k m : Stack) (r : Result Mode LexemeFault) (S : List Part) (h : Holder) (p : Piece) (t : Phrase)
    → holder.Domain e ≡ holder_of h → as_sort (held_sort h) p ≡ Some t → IsOpen k S (holder_code h ++ postfix t) → Makes e k m r
    → Agrees (Shows m) r (close CloseBrace h S p)
domain_closed e k m r S (Domain n l) p t is w at makes =
    let same : e ≡ equations_of n l = cc in
    rw w (makes S (postfix_terms l ++ postfix t) (System n l t) Braced (system_code e n l t same) at refl tt)
domain_closed e k m r S _ p t is w at makes = absurd cc

pub evolves_any_err : {V W : Type 0} (r : V → W → Type 0) (e : Equations) (x : Word) (h : Holder) (f : LexemeFault) (o : Option W)
    → holder.Evolves e x ≡ holder_of h → Adds e x (Err f) → Agrees r (Err f) o
evolves_any_err r e x h f o is a = let w = evolves_is e x h is in evolves_err r e x w.0 w.1 f o w.3 a

pub evolves_brace : (e d : Equations) (x : Word) (k m : Stack) (r : Result Mode LexemeFault) (S : List Part) (h : Holder) (p : Piece) (t : Phrase)
    → holder.Evolves e x ≡ holder_of h → as_sort (held_sort h) p ≡ Some t → IsOpen k S (holder_code h ++ postfix t) → Adds e x (Ok d)
    → ((S : List Part) (n : ℕ) (l : Items) → d ≡ equations_of n l → IsOpen k S (postfix_terms l) → Agrees (Shows m) r (items_step S n l CloseBrace))
    → Agrees (Shows m) r (close CloseBrace h S p)
evolves_brace e d x k m r S (Evolves n l y) p t is w at adds ends =
    let same : e ≡ equations_of n l = cc in
    let name : x ≡ y = cc in
    rw w (ends S n (add l (Evolve y t)) (adds n l (Evolve y t) same (ap ode.Evolve name)) at)
evolves_brace e d x k m r S _ p t is w at adds ends = absurd cc

pub evolves_comma : (e d : Equations) (x : Word) (k : Stack) (S : List Part) (h : Holder) (p : Piece) (t : Phrase) → holder.Evolves e x ≡ holder_of h
    → as_sort (held_sort h) p ≡ Some t → IsOpen k S (holder_code h ++ postfix t) → Adds e x (Ok d)
    → Agrees (Shows k) (Ok (mode.WantsItem d)) (close Comma h S p)
evolves_comma e d x k S (Evolves n l y) p t is w at adds =
    let same : e ≡ equations_of n l = cc in
    let name : x ≡ y = cc in
    rw w (record { mode = ap mode.WantsItem (adds n l (Evolve y t) same (ap ode.Evolve name)); lists = at })
evolves_comma e d x k S _ p t is w at adds = absurd cc

-- what was settled in a holder
pub settled_in : (S : List Part) (h : Holder) (t : Phrase) (k m : Stack) (code : List Code) → IsOpen k S (holder_code h ++ code)
    → m.parts.items ≡ k.parts.items → Writes m.out.items (stack_code S ++ holder_code h) t → IsOpen m S (holder_code h ++ postfix t)
settled_in S h t k m code at parts out = record {
  parts = parts ∙ at.parts;
  out = out.out ∙ append_assoc (stack_code S) (holder_code h) (postfix t);
}

-- A holder that no row of the table closes, where a tree of its sort is whole.
abbrev pub Unclosed : Lexeme → HolderPart → Type 0
Unclosed k x =
    (h : Holder) (S : List Part) (p : Piece) (t : Phrase) → x ≡ holder_of h → as_sort (held_sort h) p ≡ Some t → IsNoBracket h
    → close k h S p ≡ None

pub no_round : (x : HolderPart) → ((n : ℕ) (y : Word) (m : ℕ) → x ≡ holder.Args n y m → ⊥) → ((m : ℕ) → x ≡ holder.Notes m → ⊥) → Unclosed Close x
no_round x args notes (Round b) S p t is whole none = absurd none
no_round x args notes (Args n y l) S p t is whole none = absurd (args _ _ _ is)
no_round x args notes (Notes u l) S p t is whole none = absurd (notes _ is)
no_round x args notes (Evolves n l y) S p t is whole none = rw whole refl
no_round x args notes _ S p t is whole none = refl

pub no_comma : (x : HolderPart)
    → ((n : ℕ) (y : Word) (m : ℕ) → x ≡ holder.Args n y m → ⊥) → ((e : Equations) (y : Word) → x ≡ holder.Evolves e y → ⊥)
    → ((m : ℕ) → x ≡ holder.Notes m → ⊥) → Unclosed Comma x
no_comma x args evolves notes (Round b) S p t is whole none = absurd none
no_comma x args evolves notes (Args n y l) S p t is whole none = absurd (args _ _ _ is)
no_comma x args evolves notes (Notes u l) S p t is whole none = absurd (notes _ is)
no_comma x args evolves notes (Evolves n l y) S p t is whole none = absurd (evolves _ _ is)
no_comma x args evolves notes _ S p t is whole none = refl

pub no_brace : (x : HolderPart)
    → ((y : Word) → x ≡ holder.InContext y → ⊥) → (x ≡ holder.InBrace → ⊥) → ((e : Equations) (y : Word) → x ≡ holder.Evolves e y → ⊥)
    → ((e : Equations) → x ≡ holder.Domain e → ⊥) → Unclosed CloseBrace x
no_brace x context brace evolves domain (Round b) S p t is whole none = absurd none
no_brace x context brace evolves domain (InContext y) S p t is whole none = absurd (context _ is)
no_brace x context brace evolves domain InBrace S p t is whole none = absurd (brace is)
no_brace x context brace evolves domain (Evolves n l y) S p t is whole none = absurd (evolves _ _ is)
no_brace x context brace evolves domain (Domain n l) S p t is whole none = absurd (domain _ is)
no_brace x context brace evolves domain _ S p t is whole none = refl

pub no_square : (x : HolderPart) → (x ≡ holder.In modality.InBox → ⊥) → Unclosed CloseBox x
no_square x box (Round b) S p t is whole none = absurd none
no_square x box (In InBox) S p t is whole none = absurd (box is)
no_square x box (Evolves n l y) S p t is whole none = rw whole refl
no_square x box _ S p t is whole none = refl

pub no_greater : (x : HolderPart) → (x ≡ holder.In modality.InDia → ⊥) → Unclosed (Operator Greater) x
no_greater x dia (Round b) S p t is whole none = absurd none
no_greater x dia (In InDia) S p t is whole none = absurd (dia is)
no_greater x dia (Evolves n l y) S p t is whole none = rw whole refl
no_greater x dia _ S p t is whole none = refl

pub no_semicolon : (x : HolderPart) → ((y : Word) (b : Bool) → x ≡ holder.Assigns y b → ⊥) → (x ≡ holder.Tests → ⊥) → Unclosed Semi x
no_semicolon x assigns tests (Round b) S p t is whole none = absurd none
no_semicolon x assigns tests (Assigns y b) S p t is whole none = absurd (assigns _ _ is)
no_semicolon x assigns tests Tests S p t is whole none = absurd (tests is)
no_semicolon x assigns tests (Evolves n l y) S p t is whole none = rw whole refl
no_semicolon x assigns tests _ S p t is whole none = refl
