-- The first line of a file.
use Rattle.std.proofs.Common.{◌≡◌, ◌≢◌, ℕ, ◌+◌, ◌-◌, ◌<◌, ◌≤◌, List, [], ◌∷◌, Bool, true, false, length, take, drop, suc, refl, ap, sym, ◌∙◌, arith, inl, inr}
use Rattle.std.specs.Prelude.{◌==◌}
use Rattle.std.specs.List.{position_or_len}
use Rattle.std.proofs.lemmas.Bool.{cases_Bool, false≢true, eqb-true}
use Rattle.std.proofs.lemmas.List.{take_all, drop-drop, length-drop, nil_from_length, take_rest}
use Rattle.dlk_replay.specs.Files.{file_lines, is_line_feed, before_first_line}

feed_first : (b : ℕ) (bs : List ℕ) → is_line_feed b ≡ true → position_or_len is_line_feed (b ∷ bs) ≡ 0
feed_first b bs feed = rw feed

other_first : (b : ℕ) (bs : List ℕ) → is_line_feed b ≡ false → position_or_len is_line_feed (b ∷ bs) ≡ suc (position_or_len is_line_feed bs)
other_first b bs other = rw other (omega arith)

lines_of_feed : (b : ℕ) (bs : List ℕ) → is_line_feed b ≡ true → file_lines (b ∷ bs) ≡ [] ∷ file_lines bs
lines_of_feed b bs feed = rw feed

lines_of_other : (b : ℕ) (bs : List ℕ) → is_line_feed b ≡ false → file_lines (b ∷ bs) ≡ before_first_line b (file_lines bs)
lines_of_other b bs other = rw other

-- where no byte is a line feed, the first is none
no_feed : (b : ℕ) (bs : List ℕ) → length {A = ℕ} (b ∷ bs) ≡ position_or_len is_line_feed (b ∷ bs) → is_line_feed b ≡ false
no_feed b bs none =
    elim (cases_Bool (is_line_feed b)) [
      | inl feed ↦ absurd (omega (arith, feed_first b bs feed))
      | inr other ↦ other
    ]

-- up to the first line feed, if there is one
pub first_ended : (bytes : List ℕ) (end : ℕ) → end ≡ position_or_len is_line_feed bytes → end < length bytes →
    file_lines bytes ≡ take end bytes ∷ file_lines (drop (end + 1) bytes)
first_ended [] end place within = absurd (omega (arith, within))
first_ended (b ∷ bs) end place within =
    elim (cases_Bool (is_line_feed b)) [
      | inl feed ↦
          let none : end ≡ 0 = place ∙ feed_first b bs feed in
          rw none (lines_of_feed b bs feed)
      | inr other ↦
          let count : end ≡ suc (position_or_len is_line_feed bs) = place ∙ other_first b bs other in
          let again = first_ended bs (position_or_len is_line_feed bs) refl (omega (arith, within)) in
          let front : b ∷ take (position_or_len is_line_feed bs) bs ≡ take end (b ∷ bs) = sym (ap (λ k. take k (b ∷ bs)) count) in
          let one_on : suc (position_or_len is_line_feed bs + 1) ≡ end + 1 = omega arith in
          let rest : drop (position_or_len is_line_feed bs + 1) bs ≡ drop (end + 1) (b ∷ bs) = ap (λ k. drop k (b ∷ bs)) one_on in
          lines_of_other b bs other ∙ ap (before_first_line b) again ∙ (λ i. front i ∷ file_lines (rest i))
    ]

-- all, if there is none
pub first_unended : (bytes : List ℕ) → 0 < length bytes → length bytes ≡ position_or_len is_line_feed bytes → file_lines bytes ≡ bytes ∷ []
first_unended [] some none = absurd (omega (arith, some))
first_unended (b ∷ []) some none = lines_of_other b [] (no_feed b [] none)
first_unended (b ∷ c ∷ cs) some none =
    let other = no_feed b (c ∷ cs) none in
    let again : file_lines (c ∷ cs) ≡ (c ∷ cs) ∷ [] = first_unended (c ∷ cs) (omega arith) (omega (arith, other_first b (c ∷ cs) other)) in
    lines_of_other b (c ∷ cs) other ∙ ap (before_first_line b) again

-- a line that is cut off before its line feed
pub line_before_feed : (left line rest : List ℕ) (end : ℕ) → end ≡ position_or_len is_line_feed left → line ≡ take end left → rest ≡ drop end left →
    1 ≤ length rest →
    file_lines left ≡ line ∷ file_lines (take (length rest - 1) (drop 1 rest))
line_before_feed left line rest end place line_is rest_is some =
    let within : end < length left = omega (arith, length-drop end left, ap length rest_is) in
    let behind : drop (end + 1) left ≡ take (length rest - 1) (drop 1 rest) = sym (drop-drop 1 end left) ∙ ap (drop 1) (sym rest_is) ∙ sym (take_rest rest 1) in
    first_ended left end place within ∙ (λ i. sym line_is i ∷ file_lines (behind i))

-- the last line, without a line feed
pub line_at_end : (left line rest : List ℕ) (end : ℕ) → 0 < length left → end ≡ position_or_len is_line_feed left → end ≤ length left → line ≡ take end left →
    rest ≡ drop end left → length rest < 1 →
    file_lines left ≡ line ∷ file_lines rest
line_at_end left line rest end some place within line_is rest_is none =
    let whole : end ≡ length left = omega (arith, length-drop end left, ap length rest_is) in
    let empty : [] ≡ rest = sym (nil_from_length rest (omega arith)) in
    let all : left ≡ line = sym (line_is ∙ take_all end left (omega arith)) in
    first_unended left some (sym whole ∙ place) ∙ (λ i. all i ∷ file_lines (empty i))

-- what is left has a first line
pub record FirstOf (lines : List (List ℕ)) : Type 0 where
  pub first : List ℕ
  pub others : List (List ℕ)
  pub lines_are : lines ≡ first ∷ others

first_before : (b : ℕ) (lines : List (List ℕ)) → FirstOf (before_first_line b lines)
first_before b [] = record { first = b ∷ []; others = []; lines_are = refl }
first_before b (line ∷ lines) = record { first = b ∷ line; others = lines; lines_are = refl }

pub some_line : (bytes : List ℕ) → bytes ≢ [] → FirstOf (file_lines bytes)
some_line [] some = absurd (some refl)
some_line (b ∷ bs) some =
    elim (cases_Bool (is_line_feed b)) [
      | inl feed ↦ record { first = []; others = file_lines bs; lines_are = lines_of_feed b bs feed }
      | inr other ↦ rw (lines_of_other b bs other) (first_before b (file_lines bs))
    ]

pub no_lines_left : (bytes : List ℕ) (empty : Bool) → empty ≡ (length bytes == 0) → empty ≡ true → file_lines bytes ≡ []
no_lines_left bytes empty e is = ap file_lines (nil_from_length bytes (eqb-true (length bytes) 0 (sym e ∙ is)))
