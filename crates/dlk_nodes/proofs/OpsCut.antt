-- The text of a node is cut at its spaces: the word, the detail, and the numbers.
use Rattle.std.proofs.Common.{◌≡◌, ◌≢◌, ℕ, ◌==◌, true, false, List, [], ◌∷◌, ◌++◌, length, codes, refl, sym, ap, subst, ◌∙◌, append_assoc, append-nil, arith}
use Rattle.std.specs.Prelude.{IsTrue}
use Rattle.std.specs.List.{list_all}
use Rattle.std.specs.Str.{IsUtf8}
use Rattle.std.proofs.lemmas.Bool.{eqb-true}
use Rattle.std.proofs.lemmas.Str.{IsUtf8-from_ascii}
use Rattle.dlk_tree.specs.declared.op.Op.{Op}
use Rattle.dlk_tree.specs.declared.op.Op.TheVariants as op
use Rattle.dlk_tree.specs.Names.{is_letter}
use Rattle.dlk_tree.specs.Table.{has_parts}
use Rattle.dlk_nodes.specs.Parts.{IsBehind, Front}
use Rattle.dlk_nodes.specs.Fields.{parts_of, Each}
use Rattle.dlk_nodes.specs.Words.{Detail, NoDetail, Named, OfVariable, OfNumber, OfDot, OfUnit, OfItems, detail_text, call_of, op_text}
use Rattle.dlk_lines.specs.Spelled.{Names, NamesEach, none_behind, one_behind}
use Rattle.dlk_lines.proofs.WordLaws.{ascii}
use Rattle.dlk_nodes.specs.Nodes.{NamesNode, op_and_kids, TakesKids, IsRead}
use Rattle.dlk_nodes.specs.Details.{IsCall}
use Rattle.dlk_nodes.proofs.Fields.{lacks, one_part, next_part}
use Rattle.dlk_nodes.proofs.Parted.{each_one}
use Rattle.dlk_nodes.proofs.Numbered.{one_name, fields_behind, each_field, named_each, found_named}
use Rattle.dlk_nodes.proofs.OpsRead.{detail_fields, read_op, found, op_back}
use Rattle.dlk_nodes.proofs.Readings.{reading, one_found}

-- ---- words

letters : (o : Op) → IsTrue (list_all is_letter (call_of o).0)
letters (op.Variable v) = refl
letters _ = refl

word_utf8 : (o : Op) → IsUtf8 (call_of o).0
word_utf8 o = IsUtf8-from_ascii (call_of o).0 (ascii (call_of o).0 (letters o))

-- ---- cuts

pub behind_all : (front rest : List ℕ) → IsBehind rest → lacks 32 front ≡ true → parts_of 32 (front ++ rest) ≡ front ∷ fields_behind rest
behind_all front [] b first = ap (parts_of 32) (append-nil front) ∙ one_part 32 front first
behind_all front (c ∷ rest) b first = ap (λ d. parts_of 32 (front ++ d ∷ rest)) b ∙ next_part 32 front rest refl first

pub front_parts : (text front rest : List ℕ) → Front text front rest → parts_of 32 text ≡ front ∷ fields_behind rest
front_parts text front rest f = ap (parts_of 32) f.text_is ∙ behind_all front rest f.behind f.first

-- numbers of the fields behind
pub named_behind : {A : Type 0} (items : List A) (text : List ℕ) (xs : List A) → IsBehind text → Each (Names items) (fields_behind text) xs →
    NamesEach items text xs
named_behind items [] xs b each = named_each items [] xs each
named_behind items (c ∷ text) xs b each = subst (λ d. NamesEach items (d ∷ text) xs) (sym b) (found_named items text xs each)

pub one_numbers : {A : Type 0} (items : List A) (text : List ℕ) (xs ys : List A) → NamesEach items text xs → NamesEach items text ys → xs ≡ ys
one_numbers items text xs ys a b = each_one (Names items) (one_name items) (fields_behind text) xs ys (each_field items text xs a) (each_field items text ys b)

-- a text that begins with a space
pub begins : (text : List ℕ) (c : ℕ) (rest : List ℕ) → text ≡ c ∷ rest → IsBehind text → text ≡ 32 ∷ rest
begins text c rest e b = let space : c ≡ 32 = subst IsBehind e b in e ∙ ap (λ d. d ∷ rest) space

pub nothing_named : {A : Type 0} (items : List A) (text : List ℕ) (xs : List A) → length text ≡ 0 → xs ≡ [] → NamesEach items text xs
nothing_named items [] xs e none = subst (NamesEach items []) (sym none) none_behind
nothing_named items (c ∷ text) xs e none = absurd (omega (arith, e))

pub fields_found : {A : Type 0} (items : List A) (text : List ℕ) (c : ℕ) (fields : List ℕ) (xs : List A) → text ≡ c ∷ fields → true ≡ (c == 32) →
    Each (Names items) (parts_of 32 fields) xs →
    NamesEach items text xs
fields_found items text c fields xs e space each =
    subst (λ l. NamesEach items l xs) (sym (e ∙ ap (λ d. d ∷ fields) (eqb-true c 32 (sym space)))) (found_named items fields xs each)

pub fields_needed : {A : Type 0} (items : List A) (text : List ℕ) (c : ℕ) (fields : List ℕ) → text ≡ c ∷ fields → ((xs : List A) →
    ¬ Each (Names items) (parts_of 32 fields) xs) →
    (xs : List A) → ¬ NamesEach items text xs
fields_needed items text c fields e none xs names = none xs (each_field items (c ∷ fields) xs (subst (λ l. NamesEach items l xs) e names))

pub not_fields : {A : Type 0} (items : List A) (text : List ℕ) (xs : List A) → NamesEach items text xs → IsBehind text
not_fields items _ _ none_behind = tt
not_fields items _ _ (one_behind name others) = refl

pub space_needed : {A : Type 0} (items : List A) (text : List ℕ) (c : ℕ) (fields : List ℕ) → text ≡ c ∷ fields → false ≡ (c == 32) → (xs : List A) →
    ¬ NamesEach items text xs
space_needed items text c fields e other xs names =
    let space : c ≡ 32 = subst IsBehind e (not_fields items text xs names) in
    let clash : false ≡ true = other ∙ ap (λ d. d == 32) space in
    cc clash

-- ---- operators without a detail

plain_parts : (o : Op) → (call_of o).1 ≡ NoDetail → (has_parts o ≡ true) × ((n : ℕ) → TakesKids o n)
plain_parts (op.Variable v) e = absurd (cc e)
plain_parts (op.Number n) e = absurd (cc e)
plain_parts (op.Dot n) e = absurd (cc e)
plain_parts (op.UnitFun s) e = absurd (cc e)
plain_parts (op.Apply s) e = absurd (cc e)
plain_parts (op.UnitPred s) e = absurd (cc e)
plain_parts (op.Holds s) e = absurd (cc e)
plain_parts (op.Predicational s) e = absurd (cc e)
plain_parts (op.Forall x) e = absurd (cc e)
plain_parts (op.Exists x) e = absurd (cc e)
plain_parts (op.Const s) e = absurd (cc e)
plain_parts (op.Assign v) e = absurd (cc e)
plain_parts (op.Any x) e = absurd (cc e)
plain_parts (op.System items) e = absurd (cc e)
plain_parts _ e = (refl, λ n. tt)

pub record ItsDetail (o : Op) : Type 0 where
  pub text : List ℕ
  pub fields_are : detail_fields (call_of o).1 ≡ text ∷ []
  pub detail_is : detail_text (call_of o).1 ≡ codes " " ++ text

its_detail : (o : Op) (w : List ℕ) → (call_of o).0 ≡ w → call_of o ≢ (w, NoDetail) → ItsDetail o
its_detail o w e other = by_detail (call_of o).1 refl
  where
    given : (text : List ℕ) (x : Detail) → (call_of o).1 ≡ x → detail_fields x ≡ text ∷ [] → detail_text x ≡ codes " " ++ text → ItsDetail o
    given text x is f t = record { text = text; fields_are = ap detail_fields is ∙ f; detail_is = ap detail_text is ∙ t }

    by_detail : (x : Detail) → (call_of o).1 ≡ x → ItsDetail o
    by_detail NoDetail is = let whole : call_of o ≡ (w, NoDetail) = (λ i. (e i, is i)) in absurd (other whole)
    by_detail (Named x) is = given _ (Named x) is refl refl
    by_detail (OfVariable v) is = given _ (OfVariable v) is refl refl
    by_detail (OfNumber n) is = given _ (OfNumber n) is refl refl
    by_detail (OfDot n) is = given _ (OfDot n) is refl refl
    by_detail (OfUnit x y) is = given _ (OfUnit x y) is refl refl
    by_detail (OfItems items) is = given _ (OfItems items) is refl refl

module _ {A : Type 0} (items : List A) where
  -- ---- a word that is plain

  pub plain_read : (text w behind : List ℕ) (o : Op) (xs : List A) → Front text w behind → call_of o ≡ (w, NoDetail) → NamesEach items behind xs →
      IsRead items text o xs
  plain_read text w behind o xs f e names =
      let plain = plain_parts o (ap (λ (p : List ℕ × Detail). p.1) e) in
      let whole : op_text o ++ behind ≡ text = ap (λ (p : List ℕ × Detail). p.0 ++ detail_text p.1 ++ behind) e ∙ ap (λ l. l ++ behind) (append-nil w)
      ∙ sym f.text_is in
      record { names = subst (λ l. NamesNode items l o xs) whole (op_and_kids o names); parts = plain.0; arity = plain.1 (length xs) }

  pub plain_only : (text w behind : List ℕ) (o p : Op) (xs : List A) → Front text w behind → call_of o ≡ (w, NoDetail) → IsRead items text p xs →
      NamesEach items behind xs
  plain_only text w behind o p xs f e is =
      let r = reading items text p xs is in
      let plain = plain_parts o (ap (λ (q : List ℕ × Detail). q.1) e) in
      let same = sym r.parts_are ∙ front_parts text w behind f in
      let words : (call_of p).0 ≡ w = cc in
      let rest : detail_fields (call_of p).1 ++ r.fields ≡ fields_behind behind = cc in
      let its : read_op (call_of o).0 (detail_fields (call_of o).1 ++ fields_behind behind) ≡ found (fields_behind behind) o =
      op_back o (fields_behind behind) plain.0 (plain.1 _) in
      let its_call : read_op w (fields_behind behind) ≡ found (fields_behind behind) o = sym (ap (λ (q : List ℕ × Detail). read_op q.0
      (detail_fields q.1 ++ fields_behind behind)) e) ∙ its in
      let found_it : found r.fields p ≡ found (fields_behind behind) o = sym r.back ∙ (λ i. read_op (words i) (rest i)) ∙ its_call in
      named_behind items behind xs f.behind (subst (λ l. Each (Names items) l xs) (one_found items p o r.fields (fields_behind behind) found_it).1 r.each)

  pub plain_kids_needed : (text w behind : List ℕ) (o : Op) → Front text w behind → call_of o ≡ (w, NoDetail) → ((ids : List A) →
      ¬ NamesEach items behind ids) →
      (p : Op) (xs : List A) → ¬ IsRead items text p xs
  plain_kids_needed text w behind o f e none p xs is = none xs (plain_only text w behind o p xs f e is)

  -- ---- a word that isn't UTF-8 is none

  pub no_word : (text w behind : List ℕ) → Front text w behind → ¬ IsUtf8 w → (o : Op) (xs : List A) → ¬ IsRead items text o xs
  no_word text w behind f none o xs is =
      let r = reading items text o xs is in
      let same = sym r.parts_are ∙ front_parts text w behind f in
      let words : (call_of o).0 ≡ w = cc in
      none (subst IsUtf8 words (word_utf8 o))

  -- ---- a word that wants a detail

  module _ (w : List ℕ) (first : lacks 32 w ≡ true) (other : (o : Op) → call_of o ≢ (w, NoDetail)) where
    pub no_detail_there : (behind : List ℕ) → behind ≡ [] → (o : Op) (xs : List A) → ¬ IsRead items (w ++ behind) o xs
    no_detail_there behind none o xs is =
        let r = reading items (w ++ behind) o xs is in
        let alone : parts_of 32 (w ++ behind) ≡ w ∷ [] = ap (λ l. parts_of 32 (w ++ l)) none ∙ behind_all w [] tt first in
        let same = sym r.parts_are ∙ alone in
        let words : (call_of o).0 ≡ w = cc in
        let d = its_detail o w words (other o) in
        let rest : detail_fields (call_of o).1 ++ r.fields ≡ [] = cc in
        let clash : d.text ∷ r.fields ≡ [] = sym (ap (λ l. l ++ r.fields) d.fields_are) ∙ rest in
        cc clash

    pub record Split (detail behind : List ℕ) (o : Op) (xs : List A) : Type 0 where
      pub is_call : IsCall w detail (length xs) o
      pub names : NamesEach items behind xs

    pub split : (whole text detail behind : List ℕ) → whole ≡ 32 ∷ text → Front text detail behind → (o : Op) (xs : List A) →
        IsRead items (w ++ whole) o xs → Split detail behind o xs
    split whole text detail behind e f o xs is =
        let r = reading items (w ++ whole) o xs is in
        let parts : parts_of 32 (w ++ whole) ≡ w ∷ detail ∷ fields_behind behind =
        ap (λ l. parts_of 32 (w ++ l)) e ∙ next_part 32 w text refl first ∙ ap (λ l. w ∷ l) (front_parts text detail behind f) in
        let same = sym r.parts_are ∙ parts in
        let words : (call_of o).0 ≡ w = cc in
        let d = its_detail o w words (other o) in
        let rest : detail_fields (call_of o).1 ++ r.fields ≡ detail ∷ fields_behind behind = cc in
        let both : d.text ∷ r.fields ≡ detail ∷ fields_behind behind = sym (ap (λ l. l ++ r.fields) d.fields_are) ∙ rest in
        let its : d.text ≡ detail = cc in
        let fields : r.fields ≡ fields_behind behind = cc in
        record {
          is_call = record { word_is = words; detail_is = d.detail_is ∙ ap (λ l. codes " " ++ l) its; parts = is.parts; arity = is.arity };
          names = named_behind items behind xs f.behind (subst (λ l. Each (Names items) l xs) fields r.each);
        }

    pub kids_needed : (whole text detail behind : List ℕ) → whole ≡ 32 ∷ text → Front text detail behind → ((ids : List A) → ¬ NamesEach items behind ids) →
        (o : Op) (xs : List A) → ¬ IsRead items (w ++ whole) o xs
    kids_needed whole text detail behind e f none o xs is = none xs (split whole text detail behind e f o xs is).names

    pub call_needed : (whole text detail behind : List ℕ) (ids : List A) (n : ℕ) → n ≡ length ids → whole ≡ 32 ∷ text → Front text detail behind →
        NamesEach items behind ids →
        ((o : Op) → ¬ IsCall w detail n o) → (o : Op) (xs : List A) → ¬ IsRead items (w ++ whole) o xs
    call_needed whole text detail behind ids n long e f names none o xs is =
        let s = split whole text detail behind e f o xs is in
        none o (subst (λ m. IsCall w detail m o) (ap (λ (l : List A). length l) (one_numbers items behind xs ids s.names names) ∙ sym long) s.is_call)

    pub call_read : (whole text detail behind : List ℕ) (o : Op) (ids : List A) (n : ℕ) → n ≡ length ids → whole ≡ 32 ∷ text →
        Front text detail behind → NamesEach items behind ids →
        IsCall w detail n o → IsRead items (w ++ whole) o ids
    call_read whole text detail behind o ids n long e f names c =
        let word = c.word_is in
        let detail_is = c.detail_is in
        let texts : op_text o ++ behind ≡ w ++ (codes " " ++ detail) ++ behind = (λ i. word i ++ detail_is i ++ behind) in
        let grouped : w ++ (codes " " ++ detail) ++ behind ≡ w ++ 32 ∷ (detail ++ behind) = simp append_assoc in
        let all : op_text o ++ behind ≡ w ++ whole = texts ∙ grouped ∙ ap (λ l. w ++ 32 ∷ l) (sym f.text_is) ∙ ap (λ l. w ++ l) (sym e) in
        record { names = subst (λ l. NamesNode items l o ids) all (op_and_kids o names); parts = c.parts; arity = subst (TakesKids o) long c.arity }
