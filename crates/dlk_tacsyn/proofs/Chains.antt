-- Outcomes one after another.
use Rattle.std.proofs.Common.{◌≡◌, ℕ, Bool, true, false, refl, ap}
use Rattle.std.specs.Prelude.{if◌then◌else◌, nat_lt}
use Rattle.dlk_tacsyn.specs.Faults.{Fault, Nesting}
use Rattle.dlk_tacsyn.specs.Strategies.{Outcome, Says, Fails, ◌>>=◌, opened, most_open}

pub bind_assoc : {A B C : Type 0} (m : Outcome A) (f : A → Outcome B) (g : B → Outcome C) → ((m >>= f) >>= g) ≡ (m >>= (λ a. f a >>= g))
bind_assoc (Says a) f g = refl
bind_assoc (Fails e) f g = refl

pub bind_same : {A B : Type 0} (m : Outcome A) (f g : A → Outcome B) → ((a : A) → f a ≡ g a) → (m >>= f) ≡ (m >>= g)
bind_same (Says a) f g h = h a
bind_same (Fails e) f g h = refl

pub bind_says : {A : Type 0} (m : Outcome A) → (m >>= (λ a. Says a)) ≡ m
bind_says (Says a) = refl
bind_says (Fails e) = refl

pub bind_at : {A B : Type 0} (m n : Outcome A) (f : A → Outcome B) → m ≡ n → (m >>= f) ≡ (n >>= f)
bind_at m n f e = ap (λ o. o >>= f) e

bind_if : {A B : Type 0} (b : Bool) (m : Outcome A) (e : Fault) (f : A → Outcome B) →
    ((if b then m else Fails e) >>= f) ≡ (if b then (m >>= f) else Fails e)
bind_if true m e f = refl
bind_if false m e f = refl

pub bind_opened : {A B : Type 0} (level at : ℕ) (m : Outcome A) (f : A → Outcome B) → (opened level at m >>= f) ≡ opened level at (m >>= f)
bind_opened level at m f = bind_if (nat_lt level most_open) m (Nesting at) f
