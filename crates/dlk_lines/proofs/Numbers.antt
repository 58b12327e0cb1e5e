-- Numbers and their digits.
use Rattle.std.proofs.Common.{◌≡◌, ◌≢◌, ℕ, ◌+◌, ◌-◌, ◌<◌, ◌≤◌, ◌^◌, true, false, IsTrue, List, [], ◌∷◌, ◌++◌, length, take, drop, get_or, refl, sym, ap, ◌∙◌}
use Rattle.std.proofs.Common.{inl, inr, lit<, arith, below_more, length-take, length-drop}
use Rattle.std.specs.List.{list_all}
use Rattle.std.proofs.lemmas.Bool.{cases_lt, and_parts, and_from, both_ways, leb-true, le-leb}
use Rattle.std.proofs.lemmas.List.{append-nil, take-append-drop, take_all, get_or-take, get_or-drop, get_or_default, get_or_append_left, get_or-append-add}
use Rattle.std.proofs.lemmas.List.{get_or_past}
use Rattle.std.proofs.lemmas.List.Sums.{list_all-from_AllPass, AllPass-from_list_all}
use Rattle.std.proofs.Math.Nat.{pow-le-pow_right}
use Rattle.dlk_grammar.specs.Tokens.{is_digit, value}
use Rattle.dlk_lines.specs.Numbers.{IsNumber, number}
use Rattle.dlk_lines.specs.Parts.{CutAt, NumberInFront, NumberThen}
use Rattle.dlk_lines.proofs.Cuts.{lacks_if, one_cut}

-- what is known of the text of a number
pub record NumberParts (text : List ℕ) (n : ℕ) : Type 0 where
  pub digits : IsTrue (list_all is_digit text)
  pub some : 1 ≤ length text
  pub few : length text ≤ 9
  pub first : get_or text 0 0 ≢ 48
  pub value_is : n ≡ value text

pub number_parts : (text : List ℕ) (n : ℕ) → IsNumber text n → NumberParts text n
number_parts _ _ (number first others high rest few) =
    let h = and_parts _ _ high in
    let low : 49 ≤ first = leb-true 49 first h.0 in
    record {
      digits = and_from (is_digit first) (list_all is_digit others) (and_from _ _ (le-leb 48 first (omega arith)) h.1) rest;
      some = omega arith;
      few = omega arith;
      first = λ e. absurd (omega (arith, e));
      value_is = refl;
    }

pub number_from_parts : (text : List ℕ) → IsTrue (list_all is_digit text) → 1 ≤ length text → length text ≤ 9 → get_or text 0 0 ≢ 48 →
    IsNumber text (value text)
number_from_parts [] digits some few first = absurd (omega (arith, some))
number_from_parts (b ∷ bs) digits some few first =
    let h = and_parts (is_digit b) (list_all is_digit bs) digits in
    let g = and_parts _ _ h.0 in
    let low : 48 ≤ b = leb-true 48 b g.0 in
    let other : b ≢ 48 = first in
    number b bs (and_from _ _ (le-leb 49 b (omega arith)) g.1) h.1 (omega (arith, few))

-- a text says one number
pub one_number : (text : List ℕ) (m n : ℕ) → IsNumber text m → IsNumber text n → m ≡ n
one_number text m n a b = (number_parts text m a).value_is ∙ sym (number_parts text n b).value_is

-- nine digits say less than 10 ^ 9
pub below_power : (i : ℕ) → i ≤ 8 → 10 ^ i ≤ 100000000
below_power i few = pow-le-pow_right {n = 10} (lit< tt) {i = i} {j = 8} few

pub digit_between : (b : ℕ) → is_digit b ≡ true → (48 ≤ b) × (b ≤ 57)
digit_between b digit =
    let h = and_parts _ _ digit in
    (leb-true 48 b h.0, leb-true b 57 h.1)

-- digits lack a byte that is none
pub number_cut : (text : List ℕ) (stop n : ℕ) (rest : List ℕ) → is_digit stop ≡ false → (h : NumberThen text stop n rest) → CutAt text stop h.digits rest
number_cut text stop n rest other h = record { text_is = h.text_is; first = lacks_if is_digit stop other h.digits (number_parts h.digits n h.is_number).digits }

-- a text begins with one number before this stop
pub one_number_then : (text : List ℕ) (stop m n : ℕ) (rest behind : List ℕ) → is_digit stop ≡ false → NumberThen text stop m rest →
    NumberThen text stop n behind → (m ≡ n) × (rest ≡ behind)
one_number_then text stop m n rest behind other a b =
    let same = one_cut text stop a.digits b.digits rest behind (number_cut text stop m rest other a) (number_cut text stop n behind other b) in
    (one_number b.digits m n (rw (← same.0) a.is_number) b.is_number, same.1)

-- no number before the stop, where what is cut off there is none
pub no_number_then : (text : List ℕ) (stop : ℕ) (front behind : List ℕ) → is_digit stop ≡ false → CutAt text stop front behind →
    ((n : ℕ) → ¬ IsNumber front n) → (n : ℕ) (rest : List ℕ) → ¬ NumberThen text stop n rest
no_number_then text stop front behind other cut none n rest h =
    let same = one_cut text stop front h.digits behind rest cut (number_cut text stop n rest other h) in
    none n (rw same.0 h.is_number)

-- the bytes before this place are digits, at most nine, and this is what they say
pub record DigitsRead (text : List ℕ) (place n : ℕ) : Type 0 where
  pub within : place ≤ length text
  pub few : place ≤ 9
  pub digits : (k : ℕ) → k < place → is_digit (get_or text k 0) ≡ true
  pub value_is : n ≡ value (take place text)
  pub below : n < 10 ^ place

-- the digits of a number in front end where the first other byte stands
ends_behind : (text : List ℕ) (n : ℕ) (rest : List ℕ) (h : NumberInFront text n rest) (place : ℕ) →
    ((k : ℕ) → k < place → is_digit (get_or text k 0) ≡ true) → place ≤ length h.digits
ends_behind text n rest h place digits = elim (cases_lt (length h.digits) place) [
  | inl less ↦
      let there : get_or text (length h.digits) 0 ≡ get_or rest 0 0 =
      ap (λ l. get_or l (length h.digits) 0) h.text_is ∙ rw (← add_zero (length h.digits)) (get_or-append-add h.digits rest 0 0) in
      absurd (both_ways (is_digit (get_or rest 0 0)) h.ends (ap is_digit (sym there) ∙ digits (length h.digits) less))
  | inr all ↦ all
]
  where
    add_zero : (m : ℕ) → m + 0 ≡ m
    add_zero m = omega arith

-- the first byte of a number in front is its first digit
first_digit : (text : List ℕ) (n : ℕ) (rest : List ℕ) (h : NumberInFront text n rest) → get_or text 0 0 ≡ get_or h.digits 0 0
first_digit text n rest h =
    ap (λ l. get_or l 0 0) h.text_is ∙ get_or_append_left h.digits rest 0 0 (number_parts h.digits n h.is_number).some

-- no number is in front of ten digits, of a byte that is no digit, or of a zero
pub none_of_ten : (text : List ℕ) (place m : ℕ) → DigitsRead text place m → place ≡ 9 → is_digit (get_or text place 0) ≡ true →
    (n : ℕ) (rest : List ℕ) → ¬ NumberInFront text n rest
none_of_ten text place m read nine more n rest h =
    let far = ends_behind text n rest h (place + 1) (below_more (λ k. is_digit (get_or text k 0) ≡ true) place read.digits more) in
    absurd (omega (arith, far, (number_parts h.digits n h.is_number).few))

pub none_of_other : (text : List ℕ) → is_digit (get_or text 0 0) ≡ false → (n : ℕ) (rest : List ℕ) → ¬ NumberInFront text n rest
none_of_other text other n rest h =
    let parts = number_parts h.digits n h.is_number in
    both_ways (is_digit (get_or text 0 0)) other (ap is_digit (first_digit text n rest h) ∙ AllPass-from_list_all is_digit h.digits parts.digits 0 0 parts.some)

pub none_of_zero : (text : List ℕ) → get_or text 0 0 ≡ 48 → (n : ℕ) (rest : List ℕ) → ¬ NumberInFront text n rest
none_of_zero text zero n rest h = (number_parts h.digits n h.is_number).first (sym (first_digit text n rest h) ∙ zero)

-- the digits that were read are the number in front
pub number_read : (text : List ℕ) (place n : ℕ) → DigitsRead text place n → is_digit (get_or text place 0) ≡ false → 1 ≤ place → get_or text 0 0 ≢ 48 →
    NumberInFront text n (take (length text - place) (drop place text))
number_read text place n read ends some first =
    let long : length (take place text) ≡ place = omega (arith, length-take place text, read.within) in
    let all = list_all-from_AllPass is_digit (take place text) (λ k d lt.
    let before : k < place = omega (arith, long, lt) in
    ap is_digit (get_or-take place text k d before) ∙ ap is_digit (get_or_default text k d 0 (omega (arith, read.within))) ∙ read.digits k before) in
    let head : get_or (take place text) 0 0 ≢ 48 = λ e. first (sym (get_or-take place text 0 0 some) ∙ e) in
    rw (take_all (length text - place) (drop place text) (omega (arith, length-drop place text)))
    (record {
      digits = take place text;
      is_number = rw read.value_is (number_from_parts (take place text) all (omega (arith, long)) (omega (arith, long, read.few)) head);
      text_is = sym (take-append-drop place text);
      ends = rw get_or-drop (rw (add_zero place) ends);
    })
  where
    add_zero : (m : ℕ) → m + 0 ≡ m
    add_zero m = omega arith

-- behind the end of a text comes no digit
pub past_end : (text : List ℕ) (place : ℕ) → length text ≤ place → is_digit (get_or text place 0) ≡ false
past_end text place past = ap is_digit (get_or_past text place 0 past)

-- a number is in front of itself, and of a byte that is no digit
pub whole_in_front : (text : List ℕ) (n : ℕ) → IsNumber text n → NumberInFront text n []
whole_in_front text n is = record { digits = text; is_number = is; text_is = sym (append-nil text); ends = refl }

pub front_before : (text : List ℕ) (stop n : ℕ) (rest : List ℕ) → is_digit stop ≡ false → NumberThen text stop n rest → NumberInFront text n (stop ∷ rest)
front_before text stop n rest other h = record { digits = h.digits; is_number = h.is_number; text_is = h.text_is; ends = other }

-- a text that a number begins says it alone
same_end : (front start rest behind : List ℕ) → IsTrue (list_all is_digit front) → IsTrue (list_all is_digit start) → is_digit (get_or rest 0 0) ≡ false →
    is_digit (get_or behind 0 0) ≡ false → front ++ rest ≡ start ++ behind → rest ≡ behind
same_end [] [] rest behind a b ends stops e = e
same_end [] (c ∷ cs) rest behind a b ends stops e =
    absurd (both_ways (is_digit (get_or rest 0 0)) ends (ap (λ l. is_digit (get_or l 0 0)) e ∙ (and_parts _ _ b).0))
same_end (c ∷ cs) [] rest behind a b ends stops e =
    absurd (both_ways (is_digit (get_or behind 0 0)) stops (ap (λ l. is_digit (get_or l 0 0)) (sym e) ∙ (and_parts _ _ a).0))
same_end (c ∷ cs) (d ∷ ds) rest behind a b ends stops e =
    let tail : cs ++ rest ≡ ds ++ behind = cc in
    same_end cs ds rest behind (and_parts _ _ a).1 (and_parts _ _ b).1 ends stops tail

pub one_end : (text : List ℕ) (m n : ℕ) (rest behind : List ℕ) → NumberInFront text m rest → NumberInFront text n behind → rest ≡ behind
one_end text m n rest behind a b =
    same_end a.digits b.digits rest behind (number_parts a.digits m a.is_number).digits (number_parts b.digits n b.is_number).digits a.ends b.ends
    (sym a.text_is ∙ b.text_is)

-- no number before a stop, where something else is behind the number in front
pub other_end : (text : List ℕ) (stop m : ℕ) (rest : List ℕ) → is_digit stop ≡ false → NumberInFront text m rest → ((behind : List ℕ) → rest ≢ stop ∷ behind) →
    (n : ℕ) (behind : List ℕ) → ¬ NumberThen text stop n behind
other_end text stop m rest other a none n behind h = none behind (one_end text m n rest (stop ∷ behind) a (front_before text stop n behind other h))
