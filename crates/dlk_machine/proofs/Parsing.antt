-- What is parsed is a text, each text is parsed, and a fault is where the text stops.
use Rattle.std.proofs.Common.{◌≡◌, ℕ, ◌+◌, ◌⊎◌, inl, inr, Bool, true, List, [], ◌∷◌, ◌++◌, length, Option, Some, None, Result, Ok, Err, refl, sym, ap}
use Rattle.std.proofs.Common.{subst, ◌∙◌, append_assoc, length-append}
use Rattle.std.proofs.lemmas.List.{append-nil}
use Rattle.dlk_grammar.specs.Lexemes.{Lexeme}
use Rattle.dlk_machine.specs.Machine.{◌>>=◌, when}
use Rattle.dlk_grammar.specs.declared.token.Dots.{Dots}
use Rattle.dlk_grammar.specs.Readings.{permits, Permitted, Says, Begins, Stops, stops-token, stops-end}
use Rattle.dlk_machine.specs.Parse.{Machine, or_else, parse_from, parse}
use Rattle.dlk_machine.proofs.Opening.{some_is, bind_some, when_is, permitted_append, Begun, states}

-- an option by its cases
pub known : {A : Type 0} (o : Option A) → (o ≡ None) ⊎ ((x : A) × (o ≡ Some x))
known None = inl refl
known (Some x) = inr (x, refl)

pub none_some : {A : Type 0} (x : A) → None ≡ Some x → ⊥
none_some x e = absurd cc

-- What is to be known of a machine: it reads the texts of a grammar, and each state has a text that ends it.
pub record Reader {X T : Type 0} (d : Dots) (m : Machine X T) (G : List Lexeme → T → Type 0) : Type 0 where
  pub only : (s : List Lexeme) (t : T) → G s t → (y : X) × (states m m.start s ≡ Some y) × (m.ended y ≡ Some t)
  pub found : (s : List Lexeme) (y : X) (t : T) → states m m.start s ≡ Some y → m.ended y ≡ Some t → G s t
  pub live : (s : List Lexeme) (y : X) → states m m.start s ≡ Some y → Begun d G s

module _ {X T : Type 0} (m : Machine X T) (G : List Lexeme → T → Type 0) (d : Dots) (c : Reader d m G) where
  abbrev good : T → Result T ℕ
  good t = Ok t

  abbrev bad : ℕ → Result T ℕ
  bad n = Err n

  ok_is : (a b : T) → good a ≡ good b → a ≡ b
  ok_is a b e = cc

  err_is : (a b : ℕ) → bad a ≡ bad b → a ≡ b
  err_is a b e = cc

  not_ok : (n : ℕ) (t : T) → bad n ≡ good t → ⊥
  not_ok n t e = absurd cc

  not_bad : (n : ℕ) (t : T) → good t ≡ bad n → ⊥
  not_bad n t e = absurd cc

  abbrev next : X → Lexeme → Option X
  next x k = when (permits d k) (m.step x k)

  next_is : (x : X) (k : Lexeme) (y : X) → permits d k ≡ true → m.step x k ≡ Some y → next x k ≡ Some y
  next_is x k y p e = ap (λ (b : Bool). when b (m.step x k)) p ∙ e

  -- Parsing passes through the states, where the tokens are permitted.
  passes : (s : List Lexeme) (x : X) (n : ℕ) (y : X) (t : T) → Permitted d s → states m x s ≡ Some y → m.ended y ≡ Some t → parse_from d m x n s ≡ good t
  passes [] x n y t p e f = let same : x ≡ y = some_is x y e in let w : m.ended x ≡ Some t = ap m.ended same ∙ f in rw w refl
  passes (k ∷ s) x n y t p e f =
      let b = bind_some (m.step x k) (λ z. states m z s) y e in
      let w = next_is x k b.0 p.0 b.1 in
      rw w (passes s b.0 (n + 1) y t p.1 b.2 f)

  -- What was parsed has passed through states.
  passed : (s : List Lexeme) (x : X) (n : ℕ) (t : T) → parse_from d m x n s ≡ good t
      → Permitted d s × ((y : X) × (states m x s ≡ Some y) × (m.ended y ≡ Some t))
  passed [] x n t e = elim (known (m.ended x)) [
    | inl o ↦ absurd (not_ok n t (subst (λ (q : Option T). or_else q (bad n) good ≡ good t) o e))
    | inr o ↦ (tt, (x, refl, o.1 ∙ ap (λ (u : T). Some u) (ok_is o.0 t (subst (λ (q : Option T). or_else q (bad n) good ≡ good t) o.1 e))))
  ]
  passed (k ∷ s) x n t e = elim (known (next x k)) [
    | inl o ↦ absurd (not_ok n t (subst (λ (q : Option X). or_else q (bad n) (λ y. parse_from d m y (n + 1) s) ≡ good t) o e))
    | inr o ↦
        let w = when_is (permits d k) (m.step x k) o.0 o.1 in
        let r = passed s o.0 (n + 1) t (subst (λ (q : Option X). or_else q (bad n) (λ y. parse_from d m y (n + 1) s) ≡ good t) o.1 e) in
        ((w.0, r.0), (r.1.0, ap (λ (q : Option X). q >>= λ y. states m y s) w.1 ∙ r.1.1, r.1.2))
  ]

  -- A text is parsed as what it says.
  pub only_text : (s : List Lexeme) (t : T) → Says d G s t → parse d m s ≡ good t
  only_text s t x = let w = c.only s t x.reads in passes s m.start 0 w.0 t x.permitted w.1 w.2

  -- What is parsed is a text.
  pub found_text : (s : List Lexeme) (t : T) → parse d m s ≡ good t → Says d G s t
  found_text s t e = let w = passed s m.start 0 t e in record { reads = c.found s w.1.0 t w.1.1 w.1.2; permitted = w.0 }

  -- A text says one thing.
  pub one_text : (s : List Lexeme) (t u : T) → Says d G s t → Says d G s u → t ≡ u
  one_text s t u x y = ok_is t u (sym (only_text s t x) ∙ only_text s u y)

  begins : (s : List Lexeme) → Permitted d s → Begun d G s → Begins d G s
  begins s p b = record { more = b.more; said = b.tree; text = record { reads = b.reads; permitted = permitted_append d s b.more p b.permitted } }

  permitted_back : (s r : List Lexeme) → Permitted d (s ++ r) → Permitted d r
  permitted_back [] r p = p
  permitted_back (k ∷ s) r p = permitted_back s r p.1

  states_append : (s r : List Lexeme) (x y z : X) → states m x s ≡ Some y → states m x (s ++ r) ≡ Some z → states m y r ≡ Some z
  states_append [] r x y z e f = subst (λ (u : X). states m u r ≡ Some z) (some_is x y e) f
  states_append (k ∷ s) r x y z e f =
      let a = bind_some (m.step x k) (λ u. states m u s) y e in
      let b = bind_some (m.step x k) (λ u. states m u (s ++ r)) z f in
      let same : b.0 ≡ a.0 = some_is b.0 a.0 (sym b.1 ∙ a.1) in
      states_append s r a.0 y z a.2 (subst (λ (u : X). states m u (s ++ r) ≡ Some z) same b.2)

  states_one : (s : List Lexeme) (k : Lexeme) (x y z : X) → states m x s ≡ Some y → m.step y k ≡ Some z → states m x (s ++ k ∷ []) ≡ Some z
  states_one [] k x y z e f = let w : m.step x k ≡ Some z = ap (λ (u : X). m.step u k) (some_is x y e) ∙ f in rw w refl
  states_one (j ∷ s) k x y z e f = let b = bind_some (m.step x j) (λ u. states m u s) y e in rw b.1 (states_one s k b.0 y z b.2 f)

  -- where a token is refused no text goes on
  refused : (all : List Lexeme) (x : X) (k : Lexeme) → states m m.start all ≡ Some x → next x k ≡ None → Begins d G (all ++ k ∷ []) → ⊥
  refused all x k h e b =
      let at : (all ++ k ∷ []) ++ b.more ≡ all ++ (k ∷ b.more) = append_assoc all (k ∷ []) b.more in
      let p : Permitted d (k ∷ b.more) = permitted_back all (k ∷ b.more) (subst (Permitted d) at b.text.permitted) in
      let r = c.only _ b.said b.text.reads in
      let s = states_append all (k ∷ b.more) m.start x r.0 h (subst (λ (l : List Lexeme). states m m.start l ≡ Some r.0) at r.1) in
      let y = bind_some (m.step x k) (λ z. states m z b.more) r.0 s in
      none_some y.0 (sym e ∙ next_is x k y.0 p.0 y.1)

  stopped : (s : List Lexeme) (x : X) (n i : ℕ) (all : List Lexeme) → states m m.start all ≡ Some x → Permitted d all → n ≡ length all
      → parse_from d m x n s ≡ bad i → Stops d G (all ++ s) i
  stopped [] x n i all h p l e = elim (known (m.ended x)) [
    | inl o ↦
        let same : n ≡ i = err_is n i (subst (λ (q : Option T). or_else q (bad n) good ≡ bad i) o e) in
        let at : Stops d G all (length all) = stops-end (begins all p (c.live all x h))
        (λ t u. let w = c.only all t u.reads in none_some t (sym o ∙ ap m.ended (some_is x w.0 (sym h ∙ w.1)) ∙ w.2)) in
        rw append-nil (subst (λ (j : ℕ). Stops d G all j) (sym l ∙ same) at)
    | inr o ↦ absurd (not_bad i o.0 (subst (λ (q : Option T). or_else q (bad n) good ≡ bad i) o.1 e))
  ]
  stopped (k ∷ s) x n i all h p l e = elim (known (next x k)) [
    | inl o ↦
        let same : n ≡ i = err_is n i (subst (λ (q : Option X). or_else q (bad n) (λ y. parse_from d m y (n + 1) s) ≡ bad i) o e) in
        subst (λ (j : ℕ). Stops d G (all ++ k ∷ s) j) (sym l ∙ same) (stops-token k s (begins all p (c.live all x h)) (refused all x k h o))
    | inr o ↦
        let w = when_is (permits d k) (m.step x k) o.0 o.1 in
        subst (λ (z : List Lexeme). Stops d G z i) (append_assoc all (k ∷ []) s)
        (stopped s o.0 (n + 1) i (all ++ k ∷ []) (states_one all k m.start x o.0 h w.1) (permitted_append d all (k ∷ []) p (w.0, tt))
        (ap (λ (j : ℕ). j + 1) l ∙ sym (length-append all (k ∷ [])))
        (subst (λ (q : Option X). or_else q (bad n) (λ y. parse_from d m y (n + 1) s) ≡ bad i) o.1 e))
  ]

  -- A fault is where the text stops.
  pub stops_text : (s : List Lexeme) (i : ℕ) → parse d m s ≡ bad i → Stops d G s i
  stops_text s i e = stopped s m.start 0 i [] refl tt refl e
