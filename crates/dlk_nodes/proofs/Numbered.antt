-- Items by their numbers in a text.
use Rattle.std.proofs.Common.{◌≡◌, ℕ, ◌==◌, Bool, true, false, List, [], ◌∷◌, ◌++◌, Option, Some, None, map, codes, refl, sym, ap, subst, ◌∙◌}
use Rattle.std.specs.Prelude.{MatchOption, if◌then◌else◌}
use Rattle.std.proofs.lemmas.Bool.{eqb-true}
use Rattle.dlk_calculus.specs.Places.{at, At}
use Rattle.std.specs.Option.{option_map}
use Rattle.dlk_calculus.proofs.PlaceLaws.{at_one, at-map, At-map}
use Rattle.dlk_grammar.specs.Tokens.{is_digit}
use Rattle.dlk_lines.specs.Numbers.{IsNumber}
use Rattle.dlk_lines.specs.Spelled.{Names, NamesEach, none_behind, one_behind}
use Rattle.dlk_nodes.specs.Fields.{before_first, parts_of, Each}
use Rattle.dlk_lines.proofs.Numbers.{number_parts, one_number}
use Rattle.dlk_nodes.proofs.Fields.{lacks, behind_each, all_lack, split_back}
use Rattle.dlk_nodes.proofs.OpsBack.{lacks_if}

pub number_lacks_space : (text : List ℕ) (n : ℕ) → IsNumber text n → lacks 32 text ≡ true
number_lacks_space text n is = lacks_if is_digit 32 refl text (number_parts text n is).digits

-- one item
pub numbered : {A : Type 0} (items : List A) (text : List ℕ) (n : ℕ) (r : Option A) → IsNumber text n → r ≡ at items n → MatchOption r ((x : A) →
    ¬ Names items text x) (Names items text)
numbered items text n (Some x) is e = record { number = n; is_number = is; there = sym e }
numbered items text n None is e = λ x name.
    let same = one_number text name.number n name.is_number is in
    let none : None ≡ Some x = e ∙ sym (ap (at items) same) ∙ name.there in
    absurd (cc none)

pub one_name : {A : Type 0} (items : List A) (text : List ℕ) (x y : A) → Names items text x → Names items text y → x ≡ y
one_name items text x y a b =
    let same = one_number text a.number b.number a.is_number b.is_number in
    at_one items b.number x y (subst (λ n. At items n x) same a.there) b.there

-- what is numbered in the table is numbered among the trees
pub names_at : {A B : Type 0} (f : A → B) (items : List A) (text : List ℕ) (x : A) → Names items text x → Names (map f items) text (f x)
names_at f items text x name = record { number = name.number; is_number = name.is_number; there = At-map f items name.number x name.there }

pub names_each_at : {A B : Type 0} (f : A → B) (items : List A) (text : List ℕ) (xs : List A) → NamesEach items text xs →
    NamesEach (map f items) text (map f xs)
names_each_at f items _ _ none_behind = none_behind
names_each_at f items _ _ (one_behind {i} {text} {x} {xs} name others) = one_behind (names_at f items i x name) (names_each_at f items text xs others)

-- and back
module _ {A B : Type 0} (f : A → B) (items : List A) where
  pub record From (text : List ℕ) (y : B) : Type 0 where
    pub item : A
    pub names : Names items text item
    pub is : y ≡ f item

  pub record FromEach (text : List ℕ) (ys : List B) : Type 0 where
    pub all : List A
    pub names : NamesEach items text all
    pub are : ys ≡ map f all

  -- an item of the images is an image
  at_back : (xs : List A) (n : ℕ) (y : B) → At (map f xs) n y → (x : A) × At xs n x × (y ≡ f x)
  at_back xs n y there = by_item (at xs n) refl (sym (at-map f xs n) ∙ there)
    where
      by_item : (r : Option A) → at xs n ≡ r → option_map f r ≡ Some y → (x : A) × At xs n x × (y ≡ f x)
      by_item None e is = absurd (cc is)
      by_item (Some x) e is = (x, e, (let same : f x ≡ y = cc in sym same))

  pub from_item : (text : List ℕ) (y : B) → Names (map f items) text y → From text y
  from_item text y name =
      let w = at_back items name.number y name.there in
      record { item = w.0; names = record { number = name.number; is_number = name.is_number; there = w.1 }; is = w.2 }

  pub from_each : (text : List ℕ) (ys : List B) → NamesEach (map f items) text ys → FromEach text ys
  from_each _ _ none_behind = record { all = []; names = none_behind; are = refl }
  from_each _ _ (one_behind {i} {text} {x = y} {xs = ys} name others) =
      let first = from_item i y name in
      let more = from_each text ys others in
      record {
        all = first.item ∷ more.all;
        names = one_behind first.names more.names;
        are = λ t. first.is t ∷ more.are t;
      }

-- ---- numbers behind spaces, and the fields of a text

-- the fields of a text that begins with a space, or of none
abbrev pub fields_behind : List ℕ → List (List ℕ)
fields_behind [] = []
fields_behind (c ∷ text) = parts_of 32 text

pub record Fields {A : Type 0} (items : List A) (text : List ℕ) (xs : List A) : Type 0 where
  pub fields : List (List ℕ)
  pub text_is : text ≡ behind_each 32 fields
  pub each : Each (Names items) fields xs
  pub lack : all_lack 32 fields

pub fields_named : {A : Type 0} (items : List A) (text : List ℕ) (xs : List A) → NamesEach items text xs → Fields items text xs
fields_named items _ _ none_behind = record { fields = []; text_is = refl; each = tt; lack = tt }
fields_named items _ _ (one_behind {i} {text} {x} {xs} name others) =
    let more = fields_named items text xs others in
    record {
      fields = i ∷ more.fields;
      text_is = ap (λ l. codes " " ++ i ++ l) more.text_is;
      each = (name, more.each);
      lack = (number_lacks_space i name.number name.is_number, more.lack);
    }

fields_again : (fields : List (List ℕ)) → all_lack 32 fields → fields_behind (behind_each 32 fields) ≡ fields
fields_again [] lack = refl
fields_again (f ∷ fields) lack = split_back 32 f fields refl lack.0 lack.1

pub each_field : {A : Type 0} (items : List A) (text : List ℕ) (xs : List A) → NamesEach items text xs → Each (Names items) (fields_behind text) xs
each_field items text xs names =
    let w = fields_named items text xs names in
    subst (λ l. Each (Names items) l xs) (sym (ap fields_behind w.text_is ∙ fields_again w.fields w.lack)) w.each

pub named_each : {A : Type 0} (items : List A) (fs : List (List ℕ)) (xs : List A) → Each (Names items) fs xs → NamesEach items (behind_each 32 fs) xs
named_each items [] [] a = none_behind
named_each items [] (x ∷ xs) a = absurd a
named_each items (f ∷ fs) [] a = absurd a
named_each items (f ∷ fs) (x ∷ xs) a = one_behind a.0 (named_each items fs xs a.1)

-- the parts of a text, put together again
module _ (byte : ℕ) where
  first_part : (c : ℕ) (text : List ℕ) (fs : List (List ℕ)) → behind_each byte fs ≡ byte ∷ text → behind_each byte (before_first c fs) ≡ byte ∷ c ∷ text
  first_part c text [] e = absurd (cc e)
  first_part c text (f ∷ fs) e = let tail : f ++ behind_each byte fs ≡ text = cc in ap (λ l. byte ∷ c ∷ l) tail

  pub behind_parts : (text : List ℕ) → (byte == byte) ≡ true → behind_each byte (parts_of byte text) ≡ byte ∷ text
  behind_parts [] same = refl
  behind_parts (c ∷ text) same = by_test (c == byte) refl (behind_parts text same)
    where
      by_test : (b : Bool) → (c == byte) ≡ b → behind_each byte (parts_of byte text) ≡ byte ∷ text →
          behind_each byte (if b then [] ∷ parts_of byte text else before_first c (parts_of byte text)) ≡ byte ∷ c ∷ text
      by_test true e again = ap (λ l. byte ∷ l) again ∙ ap (λ b. byte ∷ b ∷ text) (sym (eqb-true c byte e))
      by_test false e again = first_part c text (parts_of byte text) again

-- what the reader of numbers finds is what the grammar says
pub found_named : {A : Type 0} (items : List A) (text : List ℕ) (xs : List A) → Each (Names items) (parts_of 32 text) xs → NamesEach items (32 ∷ text) xs
found_named items text xs a = subst (λ l. NamesEach items l xs) (behind_parts 32 text refl) (named_each items (parts_of 32 text) xs a)
