-- The compact text of a report's value is its JSON.
use Rattle.std.proofs.Common.{◌≡◌, ℕ, ◌==◌, Bool, true, false, List, [], ◌∷◌, ◌++◌, map, drop, codes, decimal, append_assoc, refl, sym, ap, ◌∙◌}
use Rattle.std.proofs.Common.{subst, inl, inr}
use Rattle.std.specs.List.{flat_map, join_with_byte}
use Rattle.std.proofs.lemmas.Bool.Decides.{eqb_tells}
use Rattle.serde_json.specs.Data.{Data, string}
use Rattle.serde_json.specs.View.{items_of}
use Rattle.serde_json.specs.Written.{has_float, compact_text, items_text}
use Rattle.serde_json.proofs.OnLiterals.{serde_json_on_literals}
use Rattle.dlk_report.specs.Reports.{Parts, first_word}
use Rattle.dlk_report.specs.Json.{escaped, in_quotes, listed, json_of}
use Rattle.dlk_report.specs.Values.{strings, value_of}

-- what holds of k, and of b where it isn't k, holds of b
or_else : (P : ℕ → Type 0) (b k : ℕ) → P k → ((b == k) ≡ false → P b) → P b
or_else P b k here other = elim (eqb_tells b k) [ inl h ↦ subst P (sym h.1) here | inr h ↦ other h.0 ]

-- what is written of a text behind its first quote
abbrev behind_quote : List ℕ → List ℕ
behind_quote text = drop 1 (compact_text (string text))

behind_quote-cons : (b : ℕ) (text : List ℕ) → behind_quote (b ∷ text) ≡ escaped b ++ behind_quote text
unfolding serde_json_on_literals
behind_quote-cons b text =
    let P = λ (x : ℕ). behind_quote (x ∷ text) ≡ escaped x ++ behind_quote text in
    or_else P b 34 refl (λ no_quote.
    or_else P b 92 refl (λ no_backslash.
    or_else P b 8 refl (λ no_backspace.
    or_else P b 9 refl (λ no_tab.
    or_else P b 10 refl (λ no_line_feed.
    or_else P b 12 refl (λ no_form_feed.
    or_else P b 13 refl (λ no_return.
    rw (no_quote, no_backslash, no_backspace, no_tab, no_line_feed, no_form_feed, no_return, append_assoc))))))))

behind_quote_is : (text : List ℕ) → behind_quote text ≡ flat_map escaped text ++ 34 ∷ []
behind_quote_is [] = refl
behind_quote_is (b ∷ text) = behind_quote-cons b text ∙ ap (λ rest. escaped b ++ rest) (behind_quote_is text)
    ∙ sym (append_assoc (escaped b) (flat_map escaped text) (34 ∷ []))

text_is : (text : List ℕ) → compact_text (string text) ≡ in_quotes text
text_is text = ap (λ rest. 34 ∷ rest) (behind_quote_is text)

items_from : (text : List ℕ) (texts : List (List ℕ)) →
    compact_text (string text) ++ items_text true (items_of (map string texts)) ≡ join_with_byte 44 (map in_quotes (text ∷ texts)) ++ 93 ∷ []
items_from text [] = ap (λ q. q ++ 93 ∷ []) (text_is text)
items_from text (next ∷ texts) =
    ap (λ q. q ++ 44 ∷ (compact_text (string next) ++ items_text true (items_of (map string texts)))) (text_is text)
    ∙ ap (λ rest. in_quotes text ++ 44 ∷ rest) (items_from next texts)
    ∙ sym (append_assoc (in_quotes text) (44 ∷ join_with_byte 44 (map in_quotes (next ∷ texts))) (93 ∷ []))

listed_is : (texts : List (List ℕ)) → compact_text (strings texts) ≡ listed texts
listed_is [] = refl
listed_is (text ∷ texts) = ap (λ rest. 91 ∷ rest) (items_from text texts)

status_is : (closed : Bool) → compact_text (string (first_word closed)) ++ 125 ∷ [] ≡ 34 ∷ (first_word closed ++ 34 ∷ 125 ∷ [])
unfolding serde_json_on_literals
status_is true = refl
status_is false = refl

-- an object of values with these texts, of which the last ends the object
abbrev object_with : List ℕ → List ℕ → List ℕ → List ℕ → List ℕ → List ℕ
object_with conclusion goals leaves lines status =
    codes "{\"conclusion\":" ++ (conclusion
    ++ (codes ",\"goals\":" ++ (goals
    ++ (codes ",\"leaves\":" ++ (leaves
    ++ (codes ",\"lines\":" ++ (lines
    ++ (codes ",\"status\":" ++ status))))))))

same_object : (c d g h l m n s t : List ℕ) → c ≡ d → g ≡ h → l ≡ m → s ≡ t → object_with c g l n s ≡ object_with d h m n t
same_object c d g h l m n s t same_conclusion same_goals same_leaves same_status = cc

text_of_value : (r : Parts) → compact_text (value_of r) ≡ json_of r
unfolding serde_json_on_literals
text_of_value r =
    same_object (compact_text (string r.conclusion)) (in_quotes r.conclusion) (compact_text (strings r.goals)) (listed r.goals)
    (compact_text (strings r.leaves)) (listed r.leaves) (decimal r.lines)
    (compact_text (string (first_word r.closed)) ++ 125 ∷ []) (34 ∷ (first_word r.closed ++ 34 ∷ 125 ∷ []))
    (text_is r.conclusion) (listed_is r.goals) (listed_is r.leaves) (status_is r.closed)

strings_have_no_float : (texts : List (List ℕ)) → has_float (strings texts) ≡ false
strings_have_no_float [] = refl
strings_have_no_float (text ∷ texts) = strings_have_no_float texts

no_float : (r : Parts) → has_float (value_of r) ≡ false
no_float r = rw (strings_have_no_float r.goals, strings_have_no_float r.leaves)

-- the text that is written for a report's value
pub json_from : {d : Data} {text : List ℕ} (r : Parts) → d ≡ value_of r → (has_float d ≡ false → text ≡ compact_text d) → text ≡ json_of r
json_from r e h = h (ap has_float e ∙ no_float r) ∙ ap compact_text e ∙ text_of_value r
