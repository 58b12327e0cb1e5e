-- What a comma makes of what is read.
use Rattle.std.proofs.Common.{◌≡◌, ◌≢◌, ℕ, Bool, true, false, cond, nat_lt, length, vec_len, List, [], ◌∷◌, Option, Some, None, Ok, refl, sym, ap, ◌∙◌}
use Rattle.std.specs.Bool.{◌==◌}
use Rattle.dlk_tree.specs.declared.op.Sort.{Sort}
use Rattle.dlk_grammar.specs.Lexemes.{Comma}
use Rattle.dlk_grammar.specs.declared.token.Infix.TheVariants.{Equiv, Imply, Or, And, Equal, NotEqual, AtLeast, Greater, AtMost, Less, Add, Sub, Mul}
use Rattle.dlk_grammar.specs.declared.token.Infix.TheVariants.{Div, Pow, Choice}
use Rattle.dlk_machine.specs.Machine.{◌>>=◌, Between, By, Next, Part, Left, Before, Inside, Piece, operand_sort, result_sort, prefix_sort}
use Rattle.dlk_machine.specs.Machine.{program_sort, is_program, as_sort, wanted, join, reduce, whole, State, Has, close_top, closing, step, ended}
use Rattle.dlk_machine.specs.Parse.{or_else}
use Rattle.dlk_machine.specs.Expressions.{term_or_formula}
use Rattle.dlk_machine.proofs.Closing.{piece_kind}
use Rattle.dlk_reader.specs.declared.ends.Comma.TheVariants as comma
use Rattle.dlk_reader.specs.declared.parts.Last.{Last}
use Rattle.dlk_reader.specs.declared.parts.Mode.{Mode}
use Rattle.dlk_reader.specs.declared.parts.Mode.TheVariants as mode
use Rattle.dlk_reader.specs.declared.parts.Part.{Part as OpenPart}
use Rattle.dlk_reader.specs.declared.stack.Stack.{Stack}
use Rattle.dlk_reader.specs.Shows.{shapes, Shows, Agrees, Stands, Reduces}
use Rattle.dlk_reader.specs.Ends.{CommaState, EndsAt, GoesTo, goes_on, closed_at, at_comma, ShowsComma}
use Rattle.dlk_reader.proofs.Agree.{agrees_ok}

-- what was read last
pub has_shown : (k : Stack) (m : Mode) (last : Last) (x : State) → m ≡ mode.Has last → Shows k m x
    → (S : List Part) × (p : Piece) × (x ≡ Has S p) × Stands k last S p
has_shown k m last (Has S p) e h = (S, p, refl, record { last = record { same = (let i = h.mode in cc); lone = h.lone }; lists = h.lists })
has_shown k m last _ e h = absurd (let i = h.mode in cc)

-- where nothing was read last, nothing ends
pub ended_none : (k : Stack) (m : Mode) (g : Sort) (x : State) → ((last : Last) → m ≡ mode.Has last → ⊥) → Shows k m x → ended g x ≡ None
ended_none k m g (Has S p) other h = absurd (other _ h.mode)
ended_none k m g _ other h = refl

pub neither_none : (k : Stack) (m : Mode) (x : State) → ((last : Last) → m ≡ mode.Has last → ⊥) → Shows k m x → term_or_formula x ≡ None
neither_none k m (Has S p) other h = absurd (other _ h.mode)
neither_none k m _ other h = refl

-- a formula and a program stay apart where operators are closed
between_kind : (o : Between) → program_sort (operand_sort o) ≡ program_sort (result_sort o)
between_kind (By Equiv) = refl
between_kind (By Imply) = refl
between_kind (By Or) = refl
between_kind (By And) = refl
between_kind (By Equal) = refl
between_kind (By NotEqual) = refl
between_kind (By AtLeast) = refl
between_kind (By Greater) = refl
between_kind (By AtMost) = refl
between_kind (By Less) = refl
between_kind (By Add) = refl
between_kind (By Sub) = refl
between_kind (By Mul) = refl
between_kind (By Div) = refl
between_kind (By Pow) = refl
between_kind (By Choice) = refl
between_kind Next = refl

some_from : {A B : Type 0} (o : Option A) (g : A → B) (y : B) → (o >>= λ a. Some (g a)) ≡ Some y → (a : A) × (o ≡ Some a) × (g a ≡ y)
some_from (Some a) g y e = (a, refl, cc)
some_from None g y e = absurd cc

join_kind : (e : Part) (p q : Piece) → join e p ≡ Some q → is_program p ≡ is_program q
join_kind (Left o a) p q h =
    let w = some_from (as_sort (operand_sort o) p) _ q h in
    piece_kind (operand_sort o) p w.0 w.1 ∙ between_kind o ∙ ap is_program w.2
join_kind (Before o) p q h =
    let w = some_from (as_sort (prefix_sort o) p) _ q h in
    piece_kind (prefix_sort o) p w.0 w.1 ∙ ap is_program w.2
join_kind (Inside o) p q h = absurd cc

abbrev stack_in : Option (List Part × Piece) → List Part
stack_in None = []
stack_in (Some r) = r.0

abbrev piece_in : Piece → Option (List Part × Piece) → Piece
piece_in p None = p
piece_in p (Some r) = r.1

-- what is closed is closed once for all
closed : (S : List Part) (p : Piece) (T : List Part) (q : Piece) → reduce 0 S p ≡ Some (T, q) → (is_program p ≡ is_program q) × (reduce 0 T q ≡ Some (T, q))
closed [] p T q e =
    let s : [] ≡ T = ap stack_in e in
    let k : p ≡ q = ap (piece_in p) e in
    (ap is_program k, rw (← s) refl)
closed (x ∷ S) p T q e = go (λ v. closed S v T q) (nat_lt 0 (wanted x)) refl (join x p) refl e
  where
    go : ((v : Piece) → reduce 0 S v ≡ Some (T, q) → (is_program v ≡ is_program q) × (reduce 0 T q ≡ Some (T, q))) → (b : Bool) → nat_lt 0 (wanted x) ≡ b
        → (o : Option Piece) → join x p ≡ o → cond b (o >>= λ v. reduce 0 S v) (Some (x ∷ S, p)) ≡ Some (T, q)
        → (is_program p ≡ is_program q) × (reduce 0 T q ≡ Some (T, q))
    go rest true h (Some v) j e = let w = rest v e in (join_kind x p v j ∙ w.0, w.1)
    go rest true h None j e = absurd cc
    go rest false h o j e =
        let s : x ∷ S ≡ T = ap stack_in e in
        let k : p ≡ q = ap (piece_in p) e in
        (ap is_program k, rw (← s, ← k, h) refl)

comma_kind : (p q : Piece) (o u : Option State) → is_program p ≡ is_program q → o ≡ u → cond (is_program p) None o ≡ cond (is_program q) None u
comma_kind p q o u e h = rw (e, h) refl

-- a comma behind what was closed
comma_closed : (g : Sort) (S : List Part) (p : Piece) (T : List Part) (q : Piece) → reduce 0 S p ≡ Some (T, q) → step g (Has S p) Comma ≡ step g (Has T q) Comma
comma_closed g S p T q e =
    let w = closed S p T q e in
    comma_kind p q (closing Comma S p) (closing Comma T q) w.0 (ap (λ (o : Option (List Part × Piece)). o >>= λ r. close_top Comma r.0 r.1) (e ∙ sym w.1))

some_open : (T : List Part) (items : List OpenPart) → items ≡ shapes T → (n : ℕ) → n ≡ length items → false ≡ (n == 0) → T ≢ []
some_open T items at m z h e = let n : m ≡ 0 = z ∙ ap length (at ∙ ap shapes e) in let f : false ≡ true = h ∙ ap (λ (i : ℕ). i == 0) n in absurd cc

-- a comma where something is open
closed_open : (g : Sort) (T : List Part) (q : Piece) → T ≢ [] → closed_at g T q ≡ goes_on g (Has T q)
closed_open g [] q some = absurd (some refl)
closed_open g (e ∷ T) q some = refl

pub comma_open : (g : Sort) (S : List Part) (p : Piece) (k : Stack) (last : Last) → Agrees (Reduces k) (Ok last) (reduce 0 S p)
    → vec_len k.parts ≡ length k.parts.items → false ≡ (vec_len k.parts == 0)
    → (T : List Part) × (q : Piece) × Stands k last T q × (at_comma g (Has S p) ≡ goes_on g (Has T q))
comma_open g S p k last a z h =
    let r = agrees_ok (Reduces k) last (reduce 0 S p) a in
    let some = some_open r.0.0 k.parts.items r.2.lists.parts (vec_len k.parts) z h in
    (r.0.0, r.0.1, r.2, ap (λ (o : Option (List Part × Piece)). o >>= λ r. closed_at g r.0 r.1) r.1 ∙ closed_open g r.0.0 r.0.1 some)

-- what ends where nothing is open
abbrev pub ended_by : {A : Type 0} → (Piece → Option A) → List Part → Piece → Option A
ended_by w [] p = w p
ended_by w (e ∷ S) p = None

abbrev pub ended_with : {A : Type 0} → (Piece → Option A) → State → Option A
ended_with w (Has S p) = reduce 0 S p >>= λ r. ended_by w r.0 r.1
ended_with w x = None

-- what ends at a comma, or goes on behind it
abbrev pub behind : {A B : Type 0} → (Piece → Option A) → (A → Option B) → (State → Option B) → CommaState → Option B
behind w k f (EndsAt p) = w p >>= k
behind w k f (GoesTo x) = f x

module _ {A B : Type 0} (g : Sort) (w : Piece → Option A) (k : A → Option B) (f : State → Option B) where
  goes : (o : Option State) → (o >>= f) ≡ ((o >>= λ y. Some (GoesTo y)) >>= behind w k f)
  goes (Some y) = refl
  goes None = refl

  -- Nothing goes on behind a comma where nothing is open.
  nowhere : (q : Piece) (b : Bool) → is_program q ≡ b → step g (Has [] q) Comma ≡ None
  nowhere q true e = rw e refl
  nowhere q false e = rw e refl

  at_end : (q : Piece) (o : Option A) (u : Option State) → u ≡ None → or_else o (u >>= f) k ≡ (o >>= k)
  at_end q (Some a) u e = refl
  at_end q None u e = rw e refl

  module _ (S : List Part) (p : Piece) where
    reduced : (o : Option (List Part × Piece)) → reduce 0 S p ≡ o
        → or_else (o >>= λ r. ended_by w r.0 r.1) (step g (Has S p) Comma >>= f) k ≡ ((o >>= λ r. closed_at g r.0 r.1) >>= behind w k f)
    reduced None e = stuck (is_program p) refl
      where
        stuck : (b : Bool) → is_program p ≡ b → (step g (Has S p) Comma >>= f) ≡ None
        stuck true h = rw h refl
        stuck false h = rw (h, e) refl
    reduced (Some ([], q)) e = at_end q (w q) (step g (Has S p) Comma) (comma_closed g S p [] q e ∙ nowhere q (is_program q) refl)
    reduced (Some (x ∷ T, q)) e = ap (λ (o : Option State). o >>= f) (comma_closed g S p (x ∷ T) q e) ∙ goes (step g (Has (x ∷ T) q) Comma)

  pub comma_behind : (x : State) → or_else (ended_with w x) (step g x Comma >>= f) k ≡ (at_comma g x >>= behind w k f)
  comma_behind (Has S p) = reduced S p (reduce 0 S p) refl
  comma_behind x = goes (step g x Comma)

-- the end of a text of a sort
whole_is : (g : Sort) (T : List Part) (q : Piece) → ended_by (as_sort g) T q ≡ whole g T q
whole_is g [] q = refl
whole_is g (e ∷ T) q = refl

pub ended_is_with : (g : Sort) (x : State) → ended g x ≡ ended_with (as_sort g) x
ended_is_with g (Has S p) = through (reduce 0 S p)
  where
    through : (o : Option (List Part × Piece)) → (o >>= λ r. whole g r.0 r.1) ≡ (o >>= λ r. ended_by (as_sort g) r.0 r.1)
    through (Some r) = sym (whole_is g r.0 r.1)
    through None = refl
ended_is_with g _ = refl

-- what a comma was seen to make
pub goes_to : (k : Stack) (m : Mode) (o : Option CommaState) → Agrees (ShowsComma k) (Ok (comma.GoesOn m)) o → (y : State) × (o ≡ Some (GoesTo y)) × Shows k m y
goes_to k m (Some (GoesTo y)) a = (y, refl, a)
goes_to k m (Some (EndsAt p)) a = absurd a
goes_to k m None a = absurd a

pub ends_at : (k : Stack) (last : Last) (o : Option CommaState) → Agrees (ShowsComma k) (Ok (comma.Ends last)) o
    → (p : Piece) × (o ≡ Some (EndsAt p)) × Stands k last [] p
ends_at k last (Some (EndsAt p)) a = (p, refl, a)
ends_at k last (Some (GoesTo y)) a = absurd a
ends_at k last None a = absurd a
