-- The report of a proof as JSON: one object on one line, its keys in alphabetical order and nothing between its parts.
use Rattle.std.specs.Prelude.{◌≢◌, ◌≤◌, ℕ, ◌/◌, ◌%◌, ◌==◌, nat_lt, if◌then◌else◌, List, [], ◌∷◌, ◌++◌, map, flat_map, codes, decimal}
use Rattle.std.specs.Char.{digit_char}
use Rattle.std.specs.List.{join_with_byte}
use Rattle.dlk_calculus.specs.Provables.{Provable}
use Rattle.dlk_report.specs.Reports.{Parts, parts_of, first_word}

-- how a byte stands in a text in quotes: a control byte that has no letter has its two hexadecimal digits
abbrev pub escaped : ℕ → List ℕ
escaped b =
    if b == 34 then codes "\\\"" else
    if b == 92 then codes "\\\\" else
    if b == 8 then codes "\\b" else
    if b == 9 then codes "\\t" else
    if b == 10 then codes "\\n" else
    if b == 12 then codes "\\f" else
    if b == 13 then codes "\\r" else
    if nat_lt b 32 then codes "\\u00" ++ digit_char (b / 16) ∷ digit_char (b % 16) ∷ [] else
    b ∷ []

-- a text in quotes
abbrev pub in_quotes : List ℕ → List ℕ
in_quotes text = codes "\"" ++ (flat_map escaped text ++ codes "\"")

-- texts in brackets, with commas
abbrev pub listed : List (List ℕ) → List ℕ
listed texts = codes "[" ++ (join_with_byte 44 (map in_quotes texts) ++ codes "]")

-- the JSON of a report
abbrev pub json_of : Parts → List ℕ
json_of r =
    codes "{\"conclusion\":" ++ (in_quotes r.conclusion
    ++ (codes ",\"goals\":" ++ (listed r.goals
    ++ (codes ",\"leaves\":" ++ (listed r.leaves
    ++ (codes ",\"lines\":" ++ (decimal r.lines
    ++ (codes ",\"status\":\"" ++ (first_word r.closed
    ++ codes "\"}")))))))))

-- the JSON of a provable that so many lines have shown
abbrev pub json_report : Provable → ℕ → List ℕ
json_report p lines = json_of (parts_of p lines)

-- a byte from 32 to 126 other than the quote
abbrev pub IsPlain : ℕ → Type 0
IsPlain b = (32 ≤ b) × (b ≤ 126) × (b ≢ 34)

-- a byte as it is, the backslash twice
abbrev pub backslash_twice : ℕ → List ℕ
backslash_twice b = if b == 92 then 92 ∷ 92 ∷ [] else b ∷ []
