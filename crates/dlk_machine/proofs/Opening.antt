-- Fronts of texts, and the states that a machine passes through.
use Rattle.std.proofs.Common.{◌≡◌, Bool, true, false, List, [], ◌∷◌, ◌++◌, Option, Some, None, refl, ap, subst, ◌∙◌, append_assoc}
use Rattle.dlk_grammar.specs.Lexemes.{Lexeme}
use Rattle.dlk_machine.specs.Machine.{◌>>=◌, when}
use Rattle.dlk_grammar.specs.declared.token.Dots.{Dots}
use Rattle.dlk_grammar.specs.declared.token.Dots.TheVariants.{Refused, Allowed}
use Rattle.dlk_grammar.specs.Readings.{Permitted}
use Rattle.dlk_machine.specs.Parse.{Machine}

pub some_is : {A : Type 0} (x y : A) → Some x ≡ Some y → x ≡ y
some_is x y e = cc

pub bind_some : {A B : Type 0} (o : Option A) (f : A → Option B) (y : B) → (o >>= f) ≡ Some y → (x : A) × (o ≡ Some x) × (f x ≡ Some y)
bind_some (Some x) f y e = (x, refl, e)
bind_some None f y e = absurd cc

pub when_is : {A : Type 0} (b : Bool) (x : Option A) (y : A) → when b x ≡ Some y → (b ≡ true) × (x ≡ Some y)
when_is true x y e = (refl, e)
when_is false x y e = absurd cc

-- no dot and no hole
abbrev pub Plain : List Lexeme → Type 0
Plain s = Permitted Refused s

pub permitted_append : (d : Dots) (s r : List Lexeme) → Permitted d s → Permitted d r → Permitted d (s ++ r)
permitted_append d [] r p q = q
permitted_append d (k ∷ s) r p q = (p.0, permitted_append d s r p.1 q)

pub plain_append : (s r : List Lexeme) → Plain s → Plain r → Plain (s ++ r)
plain_append s r p q = permitted_append Refused s r p q

pub plain_permitted : (d : Dots) (s : List Lexeme) → Plain s → Permitted d s
plain_permitted d [] p = tt
plain_permitted Refused (k ∷ s) p = p
plain_permitted Allowed (k ∷ s) p = (refl, plain_permitted Allowed s p.1)

-- where all are allowed, all are permitted
pub all_permitted : (s : List Lexeme) → Permitted Allowed s
all_permitted [] = tt
all_permitted (k ∷ s) = (refl, all_permitted s)

-- The tokens are the front of a text, with more tokens that are plain.
pub record Opening {T : Type 0} (G : List Lexeme → T → Type 0) (s : List Lexeme) : Type 0 where
  pub more : List Lexeme
  pub plain : Plain more
  pub tree : T
  pub reads : G (s ++ more) tree

pub opening_more : {T : Type 0} (G : List Lexeme → T → Type 0) (s r : List Lexeme) → Plain r → Opening G (s ++ r) → Opening G s
opening_more G s r p b = record {
  more = r ++ b.more;
  plain = plain_append r b.more p b.plain;
  tree = b.tree;
  reads = subst (λ (l : List Lexeme). G l b.tree) (append_assoc s r b.more) b.reads;
}

-- The same, where the tokens behind are permitted.
pub record Begun {T : Type 0} (d : Dots) (G : List Lexeme → T → Type 0) (s : List Lexeme) : Type 0 where
  pub more : List Lexeme
  pub permitted : Permitted d more
  pub tree : T
  pub reads : G (s ++ more) tree

pub begun : {T : Type 0} (d : Dots) (G : List Lexeme → T → Type 0) (s : List Lexeme) → Opening G s → Begun d G s
begun d G s b = record { more = b.more; permitted = plain_permitted d b.more b.plain; tree = b.tree; reads = b.reads }

-- the state after some more tokens
abbrev pub states : {X T : Type 0} → Machine X T → X → List Lexeme → Option X
states m x [] = Some x
states m x (k ∷ s) = m.step x k >>= λ y. states m y s

pub states_then : {X T : Type 0} (m : Machine X T) (s r : List Lexeme) (x y : X) → states m x s ≡ Some y → states m x (s ++ r) ≡ states m y r
states_then {X} m [] r x y e = ap (λ (z : X). states m z r) (some_is x y e)
states_then {X} m (k ∷ s) r x y e =
    let b = bind_some (m.step x k) (λ z. states m z s) y e in
    ap (λ (o : Option X). o >>= λ z. states m z (s ++ r)) b.1 ∙ states_then m s r b.0 y b.2

pub states_more : {X T : Type 0} (m : Machine X T) (s : List Lexeme) (k : Lexeme) (x y z : X) → states m x s ≡ Some y → m.step y k ≡ Some z
    → states m x (s ++ k ∷ []) ≡ Some z
states_more {X} m s k x y z e f = states_then m s (k ∷ []) x y e ∙ ap (λ (o : Option X). o >>= λ u. Some u) f

-- the state between two lists of tokens
pub states_split : {X T : Type 0} (m : Machine X T) (s r : List Lexeme) (x z : X) → states m x (s ++ r) ≡ Some z
    → (y : X) × (states m x s ≡ Some y) × (states m y r ≡ Some z)
states_split m [] r x z e = (x, refl, e)
states_split {X} m (k ∷ s) r x z e =
    let b = bind_some (m.step x k) (λ u. states m u (s ++ r)) z e in
    let w = states_split m s r b.0 z b.2 in
    (w.0, ap (λ (o : Option X). o >>= λ u. states m u s) b.1 ∙ w.1, w.2)
