-- Items and what stands behind a brace, over plain variables.
use Rattle.std.proofs.Common.{◌≡◌, ℕ, List, refl}
use Rattle.dlk_grammar.specs.Lexemes.{Word}
use Rattle.dlk_grammar.specs.Phrases.{Everywhere, Flow, Items, no_items, add}
use Rattle.dlk_machine.specs.Machine.{Part, items_step, item_name_step, item_prime_step, opens_name_step, opens_prime_step}
use Rattle.dlk_reader.specs.Shows.{seen}
use Rattle.dlk_reader.specs.declared.lexeme.Lexeme.{Lexeme}
use Rattle.dlk_reader.specs.declared.lexeme.Lexeme.TheVariants as lexeme

pub item_name_other : (S : List Part) (n : ℕ) (l : Items) (x : Word) (k : Lexeme) → (k ≡ lexeme.Prime → ⊥) → (k ≡ lexeme.BraceBar → ⊥) →
    item_name_step S n l x (seen k) ≡ items_step S n (add l (Flow x Everywhere)) (seen k)
item_name_other S n l x lexeme.Prime p b = absurd (p refl)
item_name_other S n l x lexeme.BraceBar p b = absurd (b refl)
item_name_other S n l x _ p b = refl

pub opens_name_other : (S : List Part) (n : ℕ) (x : Word) (k : Lexeme) → (k ≡ lexeme.Prime → ⊥) → (k ≡ lexeme.Semi → ⊥) → (k ≡ lexeme.Gets → ⊥) →
    opens_name_step S n x (seen k) ≡ item_name_step S n no_items x (seen k)
opens_name_other S n x lexeme.Prime p s g = absurd (p refl)
opens_name_other S n x lexeme.Semi p s g = absurd (s refl)
opens_name_other S n x lexeme.Gets p s g = absurd (g refl)
opens_name_other S n x _ p s g = refl

pub opens_prime_other : (S : List Part) (n : ℕ) (x : Word) (k : Lexeme) → (k ≡ lexeme.Gets → ⊥) →
    opens_prime_step S n x (seen k) ≡ item_prime_step S n no_items x (seen k)
opens_prime_other S n x lexeme.Gets g = absurd (g refl)
opens_prime_other S n x _ g = refl
