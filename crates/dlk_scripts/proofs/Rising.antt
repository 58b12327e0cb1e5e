-- The places of the parts of a text rise.
use Rattle.std.proofs.Common.{ℕ, ◌+◌, ◌≤◌, List, [], ◌∷◌, ◌++◌, length, subst, arith, length-append}
use Rattle.dlk_scripts.specs.declared.part.Part.{Part}
use Rattle.dlk_scripts.specs.declared.part.PartKind.{PartKind}
use Rattle.dlk_scripts.specs.Parts.{part, Spells, Spelled, RiseTo}
use Rattle.dlk_scripts.specs.Parts as spell
use Rattle.dlk_scripts.specs.Texts.{HasParts}

rise_more : (n m k : ℕ) (ps : List Part) → m ≤ k → RiseTo n ps m → RiseTo n ps k
rise_more n m k [] le r = omega (arith, le, r)
rise_more n m k (p ∷ ps) le r = (r.0, rise_more (p.at + 1) m k ps le r.1)

rise_with : (n m k : ℕ) (ps : List Part) (kind : PartKind) → m + 1 ≤ k → RiseTo n ps m → RiseTo n (ps ++ part m kind ∷ []) k
rise_with n m k [] kind le r = (r, le)
rise_with n m k (p ∷ ps) kind le r = (r.0, rise_with (p.at + 1) m k ps kind le r.1)

some_bytes : {p : List ℕ} {k : PartKind} → Spells p k → 1 ≤ length p
some_bytes spell.open_bracket = omega arith
some_bytes spell.close_bracket = omega arith
some_bytes spell.fork = omega arith
some_bytes spell.semicolon = omega arith
some_bytes spell.bar = omega arith
some_bytes spell.comma = omega arith
some_bytes spell.star = omega arith
some_bytes spell.minus = omega arith
some_bytes spell.point = omega arith
some_bytes spell.any_left = omega arith
some_bytes spell.any_right = omega arith
some_bytes (spell.name [] h) = absurd (cc)
some_bytes (spell.name (b ∷ s) h) = omega arith
some_bytes (spell.number [] h few) = absurd (cc)
some_bytes (spell.number (b ∷ s) h few) = omega arith
some_bytes (spell.string s h) = omega arith

spelled_rise : {s : List ℕ} {ps : List Part} → Spelled s ps → RiseTo 0 ps (length s)
spelled_rise spell.nothing = omega arith
spelled_rise (spell.then_space {s = s} {ps = ps} b w e) = rise_more 0 (length s) _ ps (omega (arith, length-append s (b ∷ []))) (spelled_rise w)
spelled_rise (spell.then_comment {s = s} {ps = ps} c w i) = rise_more 0 (length s) _ ps (omega (arith, length-append s c)) (spelled_rise w)
spelled_rise (spell.then_part {s = s} {ps = ps} p k w h) =
    rise_with 0 (length s) _ ps k (omega (arith, length-append s p, some_bytes h)) (spelled_rise w)

pub parts_rise : (bytes : List ℕ) (ps : List Part) → HasParts bytes ps → RiseTo 0 ps (length bytes)
parts_rise bytes ps h = subst (λ (l : List Part). RiseTo 0 l (length bytes)) h.parts_are (spelled_rise h.says.spelled)
