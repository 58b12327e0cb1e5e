-- The names of atoms.
use Rattle.std.proofs.Common.{◌≡◌, ◌≢◌, ℕ, zero, suc, ◌<◌, ◌≤◌, nat_le, arith, Bool, true, false, List, [], ◌∷◌, Option, Some, None, refl, sym, ap}
use Rattle.std.proofs.Common.{subst, ◌∙◌, inl, inr}
use Rattle.std.specs.Prelude.{option_map, codes, ◌||◌, IsTrue}
use Rattle.std.specs.Str.{bytes_eq, IsAscii, IsUtf8}
use Rattle.std.specs.List.{list_all}
use Rattle.std.proofs.lemmas.Bool.{cases_Bool, or_cases, and_parts, leb-true}
use Rattle.std.proofs.lemmas.Option.{none-some, same_Some}
use Rattle.std.proofs.lemmas.Slice.Eq.{bytes_eq-Decides}
use Rattle.std.proofs.lemmas.Str.{IsUtf8-from_ascii}
use Rattle.dlk_calculus.specs.Rules.{Rule, word_of}
use Rattle.dlk_rules.specs.declared.rule.RuleWord.{RuleWord}
use Rattle.dlk_rules.specs.declared.rule.RuleWord.TheVariants as word
use Rattle.dlk_rules.specs.Steps.{Template, WantsPlace, WantsTwoPlaces, WantsPlaceAndFormula, WantsFormula, WantsPlaceAndName, template}
use Rattle.dlk_rules.specs.Words.{text_made, text_of, wanted, named}
use Rattle.dlk_calculus.specs.Notation.{leaf}
use Rattle.dlk_tree.specs.declared.op.Op.TheVariants.{True}
use Rattle.dlk_rules.proofs.WordLaws.{word_named, found_word}
use Rattle.dlk_tacsyn.specs.Rows.{Row, wants, kinds_of, is_bare, row_of}
use Rattle.dlk_tacsyn.proofs.Words.{row_rule}
use Rattle.dlk_elab.specs.Calls.{IsPlain}

named_text : (name : List ℕ) (w : RuleWord) → named name ≡ Some w → text_of w ≡ name
named_text name w e = found_word name (Some w) (sym e)

-- some rule has each word
rule_made : (t : Template) → (rule : Rule) × (word_of rule ≡ text_made t)
rule_made (WantsPlace make) = (make 0, refl)
rule_made (WantsTwoPlaces make) = (make 0 0, refl)
rule_made (WantsPlaceAndFormula make) = (make 0 (leaf True), refl)
rule_made (WantsFormula make) = (make (leaf True), refl)
rule_made (WantsPlaceAndName make) = (make 0 [], refl)

-- the word that names an atom for a rule with arguments
pub record Named (name : List ℕ) (row : Row) : Type 0 where
  pub word : RuleWord
  pub text : text_of word ≡ name
  pub wants : row ≡ wants (kinds_of (wanted word))

from_word : (name : List ℕ) (row : Row) (w : Option RuleWord) → named name ≡ w → option_map (λ v. wants (kinds_of (wanted v))) w ≡ Some row → Named name row
from_word name row None found e = absurd (none-some row e)
from_word name row (Some w) found e = record { word = w; text = named_text name w found; wants = sym (same_Some _ _ e) }

-- what a name that is none of the others wants, it wants as a rule's
rule_row : (name : List ℕ) → is_bare name ≡ false → IsPlain name → row_of name ≡ option_map (λ v. wants (kinds_of (wanted v))) (named name)
rule_row name bare plain = row_rule name bare plain.no_generalize plain.no_cut plain.no_use

pub named_rule : (name : List ℕ) (row : Row) → is_bare name ≡ false → IsPlain name → row_of name ≡ Some row → Named name row
named_rule name row bare plain h = from_word name row (named name) refl (sym (rule_row name bare plain) ∙ h)

-- the arguments of a rule's atom are those that its word wants
pub row_of_word : (w : RuleWord) (row : Row) → is_bare (text_of w) ≡ false → IsPlain (text_of w) → row_of (text_of w) ≡ Some row →
    row ≡ wants (kinds_of (wanted w))
row_of_word w row bare plain h =
    sym (same_Some _ _ (sym (ap (option_map (λ v. wants (kinds_of (wanted v)))) (word_named w)) ∙ sym (rule_row (text_of w) bare plain) ∙ h))

-- a name of which no rule has the word is bare
pub no_rule : (name : List ℕ) (row : Row) → is_bare name ≡ false → IsPlain name → row_of name ≡ Some row → ((rule : Rule) → word_of rule ≢ name) → ⊥
no_rule name row bare plain h none =
    let n : Named name row = named_rule name row bare plain h in
    let made = rule_made (template n.word) in
    none made.0 (made.1 ∙ n.text)

-- the words are of letters
is_low : ℕ → Bool
is_low b = nat_le b 127

ascii : (bs : List ℕ) → IsTrue (list_all is_low bs) → IsAscii bs
unfolding is_low
ascii [] all = λ i. omega arith
ascii (b ∷ bs) all =
    let h = and_parts (is_low b) (list_all is_low bs) all in
    let low : b ≤ 127 = leb-true b 127 h.0 in
    before (omega arith) (ascii bs h.1)
  where
    before : b < 128 → IsAscii bs → IsAscii (b ∷ bs)
    before low more zero = low
    before low more (suc i) = more i

text_ascii : (w : RuleWord) → IsTrue (list_all is_low (text_of w))
unfolding is_low
text_ascii word.Close = refl
text_ascii _ = refl

-- a name without arguments is one of three
pub data Bare (name : List ℕ) : Type 0 where
  is_nil : name ≡ codes "nil" → Bare name
  is_close : name ≡ codes "close" → Bare name
  is_leaf : name ≡ codes "leaf" → Bare name

pub bare : (name : List ℕ) → is_bare name ≡ true → Bare name
bare name h =
    elim (or_cases (bytes_eq name (codes "nil") || bytes_eq name (codes "close")) (bytes_eq name (codes "leaf")) h) [
      | inl first ↦ elim (or_cases (bytes_eq name (codes "nil")) (bytes_eq name (codes "close")) first) [
        | inl nil ↦ is_nil ((bytes_eq-Decides name (codes "nil")).0 nil)
        | inr close ↦ is_close ((bytes_eq-Decides name (codes "close")).0 close)
      ]
      | inr leaf ↦ is_leaf ((bytes_eq-Decides name (codes "leaf")).0 leaf)
    ]

bare_ascii : (name : List ℕ) → Bare name → IsTrue (list_all is_low name)
unfolding is_low
bare_ascii name (is_nil e) = subst (λ t. IsTrue (list_all is_low t)) (sym e) refl
bare_ascii name (is_close e) = subst (λ t. IsTrue (list_all is_low t)) (sym e) refl
bare_ascii name (is_leaf e) = subst (λ t. IsTrue (list_all is_low t)) (sym e) refl

pub name_utf8 : (name : List ℕ) (row : Row) → IsPlain name → row_of name ≡ Some row → IsUtf8 name
name_utf8 name row plain h = IsUtf8-from_ascii name (ascii name
    (elim (cases_Bool (is_bare name)) [
      | inl b ↦ bare_ascii name (bare name b)
      | inr other ↦ let n : Named name row = named_rule name row other plain h in subst (λ t. IsTrue (list_all is_low t)) n.text (text_ascii n.word)
    ]))

-- a name by a test of its text
pub name_is : (name bytes text word : List ℕ) → text ≡ bytes → bytes ≡ name → bytes_eq text word ≡ true → name ≡ word
name_is name bytes text word e f same = sym f ∙ sym e ∙ (bytes_eq-Decides text word).0 same

pub not_bare : (name : List ℕ) → bytes_eq name (codes "nil") ≡ false → bytes_eq name (codes "close") ≡ false → bytes_eq name (codes "leaf") ≡ false →
    is_bare name ≡ false
not_bare name a b c = λ i. (a i || b i) || c i
