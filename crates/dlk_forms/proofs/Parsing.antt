-- Reading goes on by a lexeme, or stops at it, as parsing does.
use Rattle.std.proofs.Common.{◌≡◌, ℕ, ◌+◌, List, [], ◌∷◌, Option, Some, None, Result, Ok, Err, refl, ap, ◌∙◌}
use Rattle.dlk_grammar.specs.declared.token.Dots.{Dots}
use Rattle.dlk_grammar.specs.declared.token.Token.{Token}
use Rattle.dlk_grammar.specs.Lexemes.{Lexeme}
use Rattle.dlk_grammar.specs.Readings.{permits}
use Rattle.dlk_lex.specs.declared.source.Origin.{Origin}
use Rattle.dlk_lex.specs.declared.source.Source.{Source}
use Rattle.dlk_machine.specs.Machine.{when}
use Rattle.dlk_machine.specs.Parse.{Machine, or_else, parse_from}
use Rattle.dlk_reader.specs.Shows.{Agrees}
use Rattle.dlk_reader.specs.Outcomes.{Outcome, Whole, Stopped, after_one, Steps, Ends, ReadsTokens, OverAll, ReadsAll}
use Rattle.dlk_reader.specs.declared.stop.LexemeFault.{LexemeFault}
use Rattle.dlk_reader.specs.declared.stop.LexemeFault.TheVariants as fault
use Rattle.dlk_reader.specs.declared.stop.Stop.{Stop}
use Rattle.dlk_reader.specs.declared.stop.Stop.TheVariants.{Memory, BadByte, Syntax}
use Rattle.dlk_reader.proofs.Agree.{agrees_ok}
use Rattle.dlk_forms.specs.Parsing.{Gives, Comes, ReadsAs}

none_from : {X Y : Type 0} (s : X → Y → Type 0) (o : Option Y) → Agrees s (Err fault.Syntax) o → o ≡ None
none_from s (Some y) a = absurd a
none_from s None a = refl

-- what is parsed behind one more lexeme
abbrev later : {T : Type 0} → Result T ℕ → Result T ℕ
later (Ok t) = Ok t
later (Err n) = Err (n + 1)

module _ {X T : Type 0} (d : Dots) (m : Machine X T) where
  abbrev goes : ℕ → List Lexeme → Option X → Result T ℕ
  goes n s o = or_else o (Err n) (λ y. parse_from d m y (n + 1) s)

  parsed_later : (s : List Lexeme) (x : X) (n : ℕ) → parse_from d m x (n + 1) s ≡ later (parse_from d m x n s)
  parsed_later [] x n = at_end (m.ended x)
    where
      at_end : (o : Option T) → or_else {B = Result T ℕ} o (Err (n + 1)) (λ t. Ok t) ≡ later (or_else {B = Result T ℕ} o (Err n) (λ t. Ok t))
      at_end (Some t) = refl
      at_end None = refl
  parsed_later (k ∷ s) x n = at_lexeme (λ y. parsed_later s y (n + 1)) (when (permits d k) (m.step x k))
    where
      at_lexeme : ((y : X) → parse_from d m y (n + 1 + 1) s ≡ later (parse_from d m y (n + 1) s)) → (o : Option X) → goes (n + 1) s o ≡ later (goes n s o)
      at_lexeme f (Some y) = f y
      at_lexeme f None = refl

  -- parsing goes on by a lexeme
  parsed_on : (x y : X) (k : Lexeme) (s : List Lexeme) → when (permits d k) (m.step x k) ≡ Some y → parse_from d m x 0 (k ∷ s) ≡ later (parse_from d m y 0 s)
  parsed_on x y k s e = ap (goes 0 s) e ∙ parsed_later s y 0

  module _ {R V : Type 0} (shows : R → X → Type 0) (is_code : V → T → Type 0) where
    gives_on : (x y : X) (k : Lexeme) (s : List Lexeme) (o : Outcome V) → when (permits d k) (m.step x k) ≡ Some y → Gives d m y s is_code o
        → Gives d m x (k ∷ s) is_code (after_one o)
    gives_on x y k s (Whole v) e g = record { said = g.said; parsed = parsed_on x y k s e ∙ ap later g.parsed; code = g.code }
    gives_on x y k s (Stopped place) e g = parsed_on x y k s e ∙ ap later g

    -- a reader whose step agrees with the machine's
    pub steps : (r : R) (k : Lexeme) (result : Result R LexemeFault) → ((x : X) → shows r x → Agrees shows result (when (permits d k) (m.step x k)))
        → Steps (Comes d m shows is_code) r k result
    steps r k (Ok next) f = λ s o h x w.
        let a = agrees_ok shows next (when (permits d k) (m.step x k)) (f x w) in
        gives_on x a.0 k s o a.1 (h a.0 a.2)
    steps r k (Err fault.Memory) f = tt
    steps r k (Err fault.Syntax) f = λ s x w. ap (goes 0 s) (none_from shows (when (permits d k) (m.step x k)) (f x w))

    -- and its end
    pub ends : (r : R) (result : Result V LexemeFault) → ((x : X) → shows r x → Agrees is_code result (m.ended x)) → Ends (Comes d m shows is_code) r result
    ends r (Ok v) f = λ x w.
        let a = agrees_ok is_code v (m.ended x) (f x w) in
        record { said = a.0; parsed = ap (λ (o : Option T). or_else {B = Result T ℕ} o (Err 0) (λ t. Ok t)) a.1; code = a.2 }
    ends r (Err fault.Memory) f = tt
    ends r (Err fault.Syntax) f = λ x w. ap (λ (o : Option T). or_else {B = Result T ℕ} o (Err 0) (λ t. Ok t)) (none_from is_code (m.ended x) (f x w))

    -- what comes of tokens
    pub reads : (r : R) (tokens : List Token) (result : Result V Stop) → shows r m.start → ReadsTokens (Comes d m shows is_code) r tokens result
        → ReadsAs d m is_code tokens result
    reads r tokens (Ok v) w h = h m.start w
    reads r tokens (Err Memory) w h = tt
    reads r tokens (Err (BadByte at)) w h = absurd h
    reads r tokens (Err (Syntax at)) w h = (h.0, h.1 m.start w, h.2)

-- of each of several
module _ {I R V : Type 0} (comes : I → R → List Lexeme → Outcome V → Type 0) where
  abbrev pub each : R → List Lexeme → Outcome V → Type 0
  each r s o = (i : I) → comes i r s o

  pub steps_each : (r : R) (k : Lexeme) (result : Result R LexemeFault) → ((i : I) → Steps (comes i) r k result) → Steps each r k result
  steps_each r k (Ok next) f = λ s o h i. f i s o (h i)
  steps_each r k (Err fault.Memory) f = tt
  steps_each r k (Err fault.Syntax) f = λ s i. f i s

  pub ends_each : (r : R) (result : Result V LexemeFault) → ((i : I) → Ends (comes i) r result) → Ends each r result
  ends_each r (Ok v) f = λ i. f i
  ends_each r (Err fault.Memory) f = tt
  ends_each r (Err fault.Syntax) f = λ i. f i

  pub reads_each : (r : R) (tokens : List Token) (result : Result V Stop) (i : I) → ReadsTokens each r tokens result → ReadsTokens (comes i) r tokens result
  reads_each r tokens (Ok v) i h = h i
  reads_each r tokens (Err Memory) i h = tt
  reads_each r tokens (Err (BadByte at)) i h = absurd h
  reads_each r tokens (Err (Syntax at)) i h = (h.0, h.1 i, h.2)

-- what tokens answer, where they answer something stronger
module _ {V : Type 0} (A B : List Token → Result V Stop → Type 0) (weaker : (tokens : List Token) (result : Result V Stop) → A tokens result → B tokens result)
    (first : Origin) (s : Source) where
  over_all : (result : Result V Stop) → OverAll A first s result → OverAll B first s result
  over_all result h = record { tokens = h.tokens; gives = h.gives; noted = h.noted; answer = weaker h.tokens result h.answer }

  pub reads_all : (result : Result V Stop) → ReadsAll A first s result → ReadsAll B first s result
  reads_all (Ok v) h = over_all (Ok v) h
  reads_all (Err Memory) h = tt
  reads_all (Err (BadByte at)) h = h
  reads_all (Err (Syntax at)) h = over_all (Err (Syntax at)) h
