-- Reading the bytes of a slice up to a place.
use Rattle.std.proofs.Common.{◌≡◌, ℕ, ◌+◌, ◌≤◌, ◌<◌, List, [], ◌∷◌, ◌++◌, length, take, drop, get_or, Option, Some, None, Err, refl, sym, ap, subst}
use Rattle.std.proofs.Common.{◌∙◌, append_assoc, arith}
use Rattle.std.proofs.Math.Seq.{take-length}
use Rattle.std.proofs.lemmas.List.{take-append-drop, length-take-le, take_more}
use Rattle.dlk_scripts.specs.declared.state.State.{State}
use Rattle.dlk_scripts.specs.declared.state.ByteFault.{ByteFault}
use Rattle.dlk_scripts.specs.declared.state.ByteFault.TheVariants.{Memory, Syntax}
use Rattle.dlk_scripts.specs.Texts.{HasParts, Stops, IsPartsFaultOf}
use Rattle.dlk_scripts.specs.Steps.{step, ended, first_state, HasDigits, Does, stop_at}
use Rattle.dlk_scripts.proofs.Reached.{Reached, reached_first}
use Rattle.dlk_scripts.proofs.Stepped.{stepped}
use Rattle.dlk_scripts.proofs.Reading.{read}
use Rattle.dlk_scripts.proofs.Answered.{said, stops_here, stops_at_end, step_read, has_digits}

-- the bytes before a place have been read
pub record Come (bytes : List ℕ) (at : ℕ) (y : State) : Type 0 where
  pub within : at ≤ length bytes
  pub reached : Reached (take at bytes) y
  pub reads : read first_state 0 (take at bytes) ≡ Some y

pub come_first : (bytes : List ℕ) → Come bytes 0 first_state
come_first bytes = record { within = omega arith; reached = reached_first; reads = refl }

step_at : (bytes : List ℕ) (at b : ℕ) (y : State) (o : Option State) → at ≤ length bytes → step y at b ≡ o → step y (length (take at bytes)) b ≡ o
step_at bytes at b y o le e = rw (length-take-le at bytes le) e

pub come_next : (bytes : List ℕ) (at : ℕ) (y z : State) → Come bytes at y → at < length bytes → step y at (get_or bytes at 0) ≡ Some z → Come bytes (at + 1) z
come_next bytes at y z c lt e =
    let s = step_at bytes at (get_or bytes at 0) y (Some z) c.within e in
    let more = sym (take_more bytes at 0 lt) in
    record {
      within = omega (arith, lt);
      reached = subst (λ (x : List ℕ). Reached x z) more (stepped (take at bytes) y z (get_or bytes at 0) c.reached s);
      reads = ap (read first_state 0) (sym more) ∙ step_read (take at bytes) y z (get_or bytes at 0) c.reads s;
    }

pub come_stop : (bytes : List ℕ) (at : ℕ) (y : State) → Come bytes at y → at < length bytes → step y at (get_or bytes at 0) ≡ None → Stops bytes at
come_stop bytes at y c lt e =
    let s = step_at bytes at (get_or bytes at 0) y None c.within e in
    let stop = stops_here (take at bytes) (drop (at + 1) bytes) (get_or bytes at 0) y c.reached c.reads s in
    let whole : take at bytes ++ get_or bytes at 0 ∷ drop (at + 1) bytes ≡ bytes =
    sym (append_assoc (take at bytes) (get_or bytes at 0 ∷ []) (drop (at + 1) bytes))
    ∙ ap (λ (x : List ℕ). x ++ drop (at + 1) bytes) (sym (take_more bytes at 0 lt)) ∙ take-append-drop (at + 1) bytes in
    subst (λ (n : ℕ). Stops bytes n) (length-take-le at bytes c.within) (subst (λ (x : List ℕ). Stops x (length (take at bytes))) whole stop)

all_taken : (bytes : List ℕ) (at : ℕ) → at ≤ length bytes → length bytes ≤ at → take at bytes ≡ bytes
all_taken bytes at le ge = let same : at ≡ length bytes = omega (arith, le, ge) in rw same (take-length bytes)

pub come_end : (bytes : List ℕ) (at : ℕ) (y z : State) → Come bytes at y → length bytes ≤ at → ended y ≡ Some z → HasParts bytes z.parts
come_end bytes at y z c ge e = subst (λ (x : List ℕ). HasParts x z.parts) (all_taken bytes at c.within ge) (said (take at bytes) y z c.reached e)

pub come_open : (bytes : List ℕ) (at : ℕ) (y : State) → Come bytes at y → length bytes ≤ at → ended y ≡ None → Stops bytes at
come_open bytes at y c ge e =
    let stop = stops_at_end (take at bytes) y c.reached c.reads e in
    subst (λ (n : ℕ). Stops bytes n) (length-take-le at bytes c.within)
    (subst (λ (x : List ℕ). Stops x (length (take at bytes))) (all_taken bytes at c.within ge) stop)

-- the fault of a step, and that of the end
pub fault_at : (bytes : List ℕ) (at : ℕ) (y new : State) → Come bytes at y → at < length bytes → (f : ByteFault) →
    Does (step y at (get_or bytes at 0)) (Err f) new → IsPartsFaultOf bytes (stop_at f at)
fault_at bytes at y new c lt Memory d = tt
fault_at bytes at y new c lt Syntax d = come_stop bytes at y c lt d

pub end_fault : (bytes : List ℕ) (at : ℕ) (y new : State) → Come bytes at y → length bytes ≤ at → (f : ByteFault) →
    Does (ended y) (Err f) new → IsPartsFaultOf bytes (stop_at f at)
end_fault bytes at y new c ge Memory d = tt
end_fault bytes at y new c ge Syntax d = come_open bytes at y c ge d
