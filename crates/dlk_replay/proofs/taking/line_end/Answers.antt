use Rattle.std.proofs.Common.{◌≡◌, ◌≤◌, ◌<◌, ℕ, List, Option, Some, None, Bool, true, false, length, get_or, sym, inl, inr, arith}
use Rattle.std.specs.Prelude.{unwrap_or}
use Rattle.std.specs.List.{position_or_len}
use Rattle.std.proofs.lemmas.Bool.{cases_Bool}
use Rattle.std.proofs.lemmas.List.Sums.{position_or_len_is}
use Rattle.memchr.specs.Find.{IsFirstByte, is_byte}
use Rattle.dlk_replay.specs.Files.{is_line_feed}
use Rattle.dlk_replay.proofs.taking.line_end.Goals as goal

fails : (test : Bool) → ¬ (test ≡ true) → test ≡ false
fails test not_so = elim (cases_Bool test) [ inl so ↦ absurd (not_so so) | inr other ↦ other ]

-- the first line feed that is found is where the first line ends
end_found : (left : List ℕ) (found : Option ℕ) → IsFirstByte (is_byte 10) left found →
    (unwrap_or found (length left) ≡ position_or_len is_line_feed left) × (unwrap_or found (length left) ≤ length left)
end_found left None nowhere =
    let before : (k : ℕ) → k < length left → is_line_feed (get_or left k 0) ≡ false = λ k below. fails _ (nowhere k (omega arith) below) in
    (sym (position_or_len_is is_line_feed left (length left) 0 (omega arith) before (λ more. absurd (omega (arith, more)))), omega arith)
end_found left (Some place) first =
    let within : place ≤ length left = omega (arith, first.0.high) in
    let before : (k : ℕ) → k < place → is_line_feed (get_or left k 0) ≡ false = λ k below. fails _ (first.0.before k (omega arith) below) in
    (sym (position_or_len_is is_line_feed left place 0 within before (λ more. first.1)), within)

pub returns : goal.returns
returns c =
    let ends = end_found c.args.left.now c.memchr.result c.memchr.ensures in
    record { place = rw c.unwrap_or.ensures ends.0; within = rw c.unwrap_or.ensures ends.1 }
