-- Whether a text is cut at a byte, has brackets, is a number or begins with one is decided.
use Rattle.std.proofs.Common.{◌≡◌, ℕ, ◌+◌, false, List, [], ◌∷◌, ◌++◌, length, take, drop, get_or, Option, Some, None, refl, ap, inl, inr, arith, length-append}
use Rattle.std.specs.Prelude.{◌==◌, codes}
use Rattle.std.specs.List.{list_all, position}
use Rattle.std.specs.Str.{bytes_eq}
use Rattle.std.proofs.lemmas.Bool.{cases_Bool, cases_eq, cases_lt, both_ways}
use Rattle.std.proofs.lemmas.Slice.Eq.{bytes_eq-Decides}
use Rattle.dlk_calculus.proofs.Decide.{is_true}
use Rattle.dlk_grammar.specs.Tokens.{is_digit, value}
use Rattle.dlk_lines.specs.Numbers.{IsNumber}
use Rattle.dlk_lines.specs.Parts.{CutAt, NumberThen, Bracketed}
use Rattle.dlk_lines.proofs.Cuts.{cut_there, cut_nowhere, one_cut, bracketed_cut, cut_bracketed}
use Rattle.dlk_lines.proofs.Numbers.{number_parts, number_from_parts, number_cut, no_number_then}

pub same_bytes : (x y : List ℕ) → Dec (x ≡ y)
same_bytes x y = elim (cases_Bool (bytes_eq x y)) [
  | inl same ↦ yes ((bytes_eq-Decides x y).0 same)
  | inr other ↦ no (λ e. both_ways (bytes_eq x y) other ((bytes_eq-Decides x y).1 e))
]

pub cut_decided : (text : List ℕ) (byte : ℕ) → Dec ((front : List ℕ) × (rest : List ℕ) × CutAt text byte front rest)
cut_decided text byte = go (position (λ b. b == byte) text) refl
  where
    go : (place : Option ℕ) → position (λ b. b == byte) text ≡ place → Dec ((front : List ℕ) × (rest : List ℕ) × CutAt text byte front rest)
    go (Some place) there = yes (take place text, drop (place + 1) text, cut_there text byte place there)
    go None nowhere = no (λ h. cut_nowhere text byte nowhere h.0 h.1 h.2.text_is)

only_byte : (b byte : ℕ) (front : List ℕ) → b ∷ [] ≡ front ++ byte ∷ [] → b ≡ byte
only_byte b byte [] e = cc
only_byte b byte (c ∷ cs) e = absurd (omega (arith, ap length e, length-append cs (byte ∷ [])))

behind_first : (b c byte : ℕ) (bs front : List ℕ) → b ∷ c ∷ bs ≡ front ++ byte ∷ [] → (f : List ℕ) × (c ∷ bs ≡ f ++ byte ∷ [])
behind_first b c byte bs [] e = absurd (omega (arith, ap length e))
behind_first b c byte bs (d ∷ ds) e = (ds, cc)

-- whether the last byte is this one
last_decided : (text : List ℕ) (byte : ℕ) → Dec ((front : List ℕ) × (text ≡ front ++ byte ∷ []))
last_decided [] byte = no (λ h. absurd (omega (arith, ap length h.1, length-append h.0 (byte ∷ []))))
last_decided (b ∷ []) byte = elim (cases_eq b byte) [
  | inl same ↦ yes ([], ap (λ x. x ∷ []) same)
  | inr other ↦ no (λ h. other (only_byte b byte h.0 h.1))
]
last_decided (b ∷ c ∷ bs) byte = elim (last_decided (c ∷ bs) byte) [
  | yes h ↦ yes (b ∷ h.0, ap (λ l. b ∷ l) h.1)
  | no n ↦ no (λ h. n (behind_first b c byte bs h.0 h.1))
]

pub bracketed_decided : (text : List ℕ) → Dec ((word : List ℕ) × (arguments : List ℕ) × Bracketed text word arguments)
bracketed_decided text = elim (cut_decided text 40) [
  | no n ↦ no (λ h. n (h.0, h.1 ++ codes ")", cut_bracketed text h.0 h.1 h.2))
  | yes cut ↦ elim (last_decided cut.1 41) [
    | yes last ↦ yes (cut.0, last.0, bracketed_cut text cut.0 cut.1 last.0 cut.2 last.1)
    | no n ↦ no (λ h. n (h.1, (one_cut text 40 cut.0 h.0 cut.1 (h.1 ++ codes ")") cut.2 (cut_bracketed text h.0 h.1 h.2)).1))
  ]
]

pub number_decided : (text : List ℕ) → Dec ((n : ℕ) × IsNumber text n)
number_decided text = elim (is_true (list_all is_digit text)) [
  | no n ↦ no (λ h. n (number_parts text h.0 h.1).digits)
  | yes digits ↦ elim (cases_lt 0 (length text)) [
    | inr empty ↦ no (λ h. absurd (omega (arith, (number_parts text h.0 h.1).some)))
    | inl some ↦ elim (cases_lt 9 (length text)) [
      | inl long ↦ no (λ h. absurd (omega (arith, (number_parts text h.0 h.1).few)))
      | inr few ↦ elim (cases_eq (get_or text 0 0) 48) [
        | inl zero ↦ no (λ h. (number_parts text h.0 h.1).first zero)
        | inr first ↦ yes (value text, number_from_parts text digits (omega arith) few first)
      ]
    ]
  ]
]

pub number_then_decided : (text : List ℕ) (stop : ℕ) → is_digit stop ≡ false → Dec ((n : ℕ) × (rest : List ℕ) × NumberThen text stop n rest)
number_then_decided text stop other = elim (cut_decided text stop) [
  | no n ↦ no (λ h. n (h.2.digits, h.1, number_cut text stop h.0 h.1 other h.2))
  | yes cut ↦ elim (number_decided cut.0) [
    | yes n ↦ yes (n.0, cut.1, record { digits = cut.0; is_number = n.1; text_is = cut.2.text_is })
    | no n ↦ no (λ h. no_number_then text stop cut.0 cut.1 other cut.2 (λ k is. n (k, is)) h.0 h.1 h.2)
  ]
]
