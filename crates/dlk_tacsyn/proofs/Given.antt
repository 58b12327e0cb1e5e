-- What holds of a strategy where an outcome is one.
use Rattle.std.proofs.Common.{◌≡◌, Bool, true, false, subst}
use Rattle.std.specs.Prelude.{if◌then◌else◌}
use Rattle.dlk_tacsyn.specs.Faults.{Fault}
use Rattle.dlk_tacsyn.specs.Strategies.{Outcome, Says, Fails, ◌>>=◌}

abbrev pub Gives : {A : Type 0} → (A → Type 0) → Outcome A → Type 0
Gives P (Says a) = P a
Gives P (Fails f) = Unit {0}

pub bind_gives : {A B : Type 0} (P : A → Type 0) (Q : B → Type 0) (m : Outcome A) (next : A → Outcome B) →
    Gives P m → ((a : A) → P a → Gives Q (next a)) → Gives Q (m >>= next)
bind_gives P Q (Says a) next h k = k a h
bind_gives P Q (Fails f) next h k = tt

pub if_gives : {A : Type 0} (P : A → Type 0) (b : Bool) (m : Outcome A) (f : Fault) → Gives P m → Gives P (if b then m else Fails f)
if_gives P true m f h = h
if_gives P false m f h = tt

pub said_gives : {A : Type 0} (P : A → Type 0) (m : Outcome A) (a : A) → m ≡ Says a → Gives P m → P a
said_gives P m a e h = subst (Gives P) e h
