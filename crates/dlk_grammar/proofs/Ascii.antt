-- What is shown is ASCII, where the trees are well made.
use Rattle.std.proofs.Common.{◌≡◌, ℕ, zero, suc, ◌+◌, ◌/◌, ◌%◌, ◌^◌, ◌<◌, Bool, true, false, cond, nat_lt, ◌&&◌, List, [], ◌∷◌, ◌++◌, get_or, length}
use Rattle.std.proofs.Common.{Option, Some, None, refl, ◌∙◌, arith, lit<}
use Rattle.std.specs.Prelude.{All, IsAscii, IfSome, ◌==◌}
use Rattle.std.specs.List.{list_all, join_by, flat_map}
use Rattle.std.specs.Fmt.{decimal}
use Rattle.std.proofs.Math.Nat.{div-le_self}
use Rattle.std.proofs.lemmas.Fmt.{IsAscii-decimal_wide}
use Rattle.std.proofs.lemmas.Str.Ascii.{IsAscii-nil, IsAscii-cons}
use Rattle.std.proofs.lemmas.Bool.{and_parts, lt-ltb, ltb-true, and_from}
use Rattle.std.proofs.lemmas.Bool.Decides.{nat_tests}
use Rattle.std.proofs.lemmas.List.Elements.{All-head, All-tail}
use Rattle.std.proofs.lemmas.List.Folds.{list_all-append}
use Rattle.dlk_tree.specs.Names.{is_letter, is_name_byte, is_word, is_name}
use Rattle.dlk_tree.specs.Table.{sort_of, has_parts, is_item, is_num, is_sym, is_sym_of, taboo_is_name, all_distinct, evolved}
use Rattle.dlk_tree.specs.Trees.{Tree, node, Forest, no_kids, kid, trees_in, root, WellMade, AllWellMade}
use Rattle.dlk_tree.specs.declared.op.Kind.{Kind}
use Rattle.dlk_tree.specs.declared.op.Kind.TheVariants.{Func, UnitFunc, Pred, UnitPred, Quant, Prog, Ode}
use Rattle.dlk_tree.specs.declared.op.Num.{Num}
use Rattle.dlk_tree.specs.declared.op.Sym.{Sym}
use Rattle.dlk_tree.specs.declared.op.Var.{Var}
use Rattle.dlk_tree.specs.declared.op.Sort.{Sort}
use Rattle.dlk_tree.specs.declared.op.Sort.TheVariants.{Term, Formula, Program}
use Rattle.dlk_tree.specs.declared.op.OdeItem.{OdeItem}
use Rattle.dlk_tree.specs.declared.op.OdeItem.TheVariants.{Evolve, Const}
use Rattle.dlk_tree.specs.declared.op.Op.{Op}
use Rattle.dlk_tree.specs.declared.op.Op.TheVariants as op
use Rattle.dlk_calculus.specs.Sequents.{Sequent}
use Rattle.dlk_grammar.specs.declared.token.Mark.TheVariants.{Prime, Gets, And, Comma, Turnstile, CloseRound, CloseBrace}
use Rattle.dlk_grammar.specs.declared.token.TokenKind.TheVariants as token
use Rattle.dlk_grammar.specs.Shown.{Piece, one, space, mark, last_digits, literal, token_text, spell, Style, variable, unit_brackets, ode_brackets}
use Rattle.dlk_grammar.specs.Shown.{style, level, least, opening, between, closing, items_of, bracketed, item_text, terms_behind, item_texts, is_true}
use Rattle.dlk_grammar.specs.Shown.{domain_text, inside, shown_at, shown_kids, shown, formulas, left_side, right_side, shown_sequent}

-- tests of ASCII: of a byte, of bytes, of a piece, of a text, and of texts
abbrev is_low : ℕ → Bool
is_low b = nat_lt b 128

abbrev are_low : List ℕ → Bool
are_low bytes = list_all is_low bytes

abbrev piece_is_low : Piece → Bool
piece_is_low (one k) = are_low (token_text k)
piece_is_low space = true

abbrev text_is_low : List Piece → Bool
text_is_low text = list_all piece_is_low text

abbrev texts_are_low : List (List Piece) → Bool
texts_are_low texts = list_all text_is_low texts

low_ascii : (bytes : List ℕ) → are_low bytes ≡ true → IsAscii bytes
low_ascii [] h = IsAscii-nil
low_ascii (b ∷ bytes) h =
    let w = and_parts (is_low b) (are_low bytes) h in
    IsAscii-cons b bytes (ltb-true b 128 w.0) (low_ascii bytes w.1)

ascii_low : (bytes : List ℕ) → IsAscii bytes → are_low bytes ≡ true
ascii_low [] h = refl
ascii_low (b ∷ bytes) h = and_from (is_low b) (are_low bytes) (lt-ltb b 128 (h 0)) (ascii_low bytes (λ i. h (suc i)))

low_append : (a b : List ℕ) → are_low a ≡ true → are_low b ≡ true → are_low (a ++ b) ≡ true
low_append a b h g = list_all-append is_low a b ∙ and_from (are_low a) (are_low b) h g

text_append : (a b : List Piece) → text_is_low a ≡ true → text_is_low b ≡ true → text_is_low (a ++ b) ≡ true
text_append a b h g = list_all-append piece_is_low a b ∙ and_from (text_is_low a) (text_is_low b) h g

spell_low : (text : List Piece) → text_is_low text ≡ true → are_low (spell text) ≡ true
spell_low [] h = refl
spell_low (one k ∷ text) h =
    let w = and_parts (are_low (token_text k)) (text_is_low text) h in
    low_append (token_text k) (spell text) w.0 (spell_low text w.1)
spell_low (space ∷ text) h = spell_low text h

-- names, symbols, numbers
name_byte_low : (b : ℕ) → is_name_byte b ≡ true → is_low b ≡ true
name_byte_low b h = grind (arith, nat_tests)

name_bytes_low : (bytes : List ℕ) → list_all is_name_byte bytes ≡ true → are_low bytes ≡ true
name_bytes_low [] h = refl
name_bytes_low (b ∷ bytes) h =
    let w = and_parts (is_name_byte b) (list_all is_name_byte bytes) h in
    and_from (is_low b) (are_low bytes) (name_byte_low b w.0) (name_bytes_low bytes w.1)

letter_low : (b : ℕ) → is_letter b ≡ true → is_low b ≡ true
letter_low b h = grind (arith, nat_tests)

word_low : (x : List ℕ) → is_word x ≡ true → are_low x ≡ true
word_low [] h = refl
word_low (b ∷ x) h =
    let w = and_parts (is_letter b) (list_all is_name_byte x) h in
    and_from (is_low b) (are_low x) (letter_low b w.0) (name_bytes_low x w.1)

name_low : (x : List ℕ) → is_name x ≡ true → are_low x ≡ true
name_low x h = word_low x (and_parts (is_word x) _ (and_parts _ _ h).0).0

abbrev option_is_low : Option (List ℕ) → Bool
option_is_low None = true
option_is_low (Some y) = are_low y

taboo_low : (taboo : Option (List ℕ)) → taboo_is_name taboo ≡ true → option_is_low taboo ≡ true
taboo_low None h = refl
taboo_low (Some y) h = name_low y h

-- a symbol's name and its taboo
symbol_low : (kind : Kind) (s : Sym) → is_sym_of kind s ≡ true → (are_low s.name ≡ true) × (option_is_low s.taboo ≡ true)
symbol_low kind s h =
    let w = and_parts _ _ (and_parts _ (is_sym s) h).1 in
    let v = and_parts _ (taboo_is_name s.taboo) w.0 in
    (name_low s.name (and_parts (is_name s.name) _ v.0).0, taboo_low s.taboo v.1)

last_digits_low : (w n : ℕ) → are_low (last_digits w n) ≡ true
last_digits_low zero n = refl
last_digits_low (suc w) n =
    let low : is_low (48 + n % 10) ≡ true = lt-ltb (48 + n % 10) 128 (omega arith) in
    low_append (last_digits w (n / 10)) ((48 + n % 10) ∷ []) (last_digits_low w (n / 10)) (and_from (is_low (48 + n % 10)) true low refl)

decimal_low : (n : ℕ) → n < 10 ^ 38 → are_low (decimal n) ≡ true
decimal_low n h = let wide : 10 ^ 38 < 10 ^ 64 = lit< tt in ascii_low (decimal n) (IsAscii-decimal_wide n (omega (arith, h, wide)))

dot_low : (n : ℕ) → nat_lt n 8 ≡ true → are_low (token_text (token.Dot n)) ≡ true
dot_low n h =
    let less = ltb-true n 8 h in
    let wide : 8 < 10 ^ 38 = lit< tt in
    decimal_low n (omega (arith, less, wide))

literal_low : (n : Num) → is_num n ≡ true → are_low (literal n) ≡ true
literal_low n h = by_scale (n.scale == 0)
  where
    below : n.digits < 10 ^ 38
    below = ltb-true n.digits (10 ^ 38) (and_parts (nat_lt n.digits (10 ^ 38)) _ (and_parts _ _ h).0).0

    by_scale : (b : Bool) → are_low (cond b (decimal n.digits) (decimal (n.digits / 10 ^ n.scale) ++ (46 ∷ last_digits n.scale n.digits))) ≡ true
    by_scale true = decimal_low n.digits below
    by_scale false =
        let less = div-le_self n.digits (10 ^ n.scale) in
        let low = decimal_low (n.digits / 10 ^ n.scale) (omega (arith, less, below)) in
        low_append (decimal (n.digits / 10 ^ n.scale)) (46 ∷ last_digits n.scale n.digits) low (last_digits_low n.scale n.digits)

-- the parts of a style
abbrev style_is_low : Style → Bool
style_is_low s = text_is_low s.opening && text_is_low s.between && text_is_low s.closing

variable_low : (v : Var) → is_name v.name ≡ true → text_is_low (variable v) ≡ true
variable_low v h = rw (name_low v.name h) (by_prime v.primed)
  where
    by_prime : (b : Bool) → text_is_low (cond b (mark Prime ∷ []) []) ≡ true
    by_prime true = refl
    by_prime false = refl

unit_low : (taboo : Option (List ℕ)) → option_is_low taboo ≡ true → text_is_low (unit_brackets taboo) ≡ true
unit_low None h = refl
unit_low (Some y) h = rw h refl

ode_low : (taboo : Option (List ℕ)) → option_is_low taboo ≡ true → text_is_low (ode_brackets taboo) ≡ true
ode_low None h = refl
ode_low (Some y) h = rw h refl

style_low : (o : Op) → has_parts o ≡ true → style_is_low (style o) ≡ true
style_low (op.Variable v) h = rw (variable_low v h) refl
style_low (op.Number n) h = rw (literal_low n h) refl
style_low (op.Dot n) h = rw (dot_low n h) refl
style_low (op.UnitFun s) h = let w = symbol_low UnitFunc s h in rw (w.0, unit_low s.taboo w.1) refl
style_low (op.Apply s) h = rw (symbol_low Func s h).0 refl
style_low (op.UnitPred s) h = let w = symbol_low UnitPred s h in rw (w.0, unit_low s.taboo w.1) refl
style_low (op.Holds s) h = rw (symbol_low Pred s h).0 refl
style_low (op.Predicational s) h = rw (symbol_low Quant s h).0 refl
style_low (op.Forall x) h = rw (name_low x h) refl
style_low (op.Exists x) h = rw (name_low x h) refl
style_low (op.Const s) h = rw (symbol_low Prog s h).0 refl
style_low (op.Assign v) h = rw (text_append (variable v) (mark Gets ∷ []) (variable_low v h) refl) refl
style_low (op.Any x) h = rw (name_low x h) refl
style_low _ h = refl

-- the items of a system
items_real : (o : Op) → has_parts o ≡ true → IfSome (items_of o) (λ items. list_all is_item items ≡ true)
items_real (op.System items) h = (and_parts _ (list_all is_item items) (and_parts _ (all_distinct (evolved items)) h).0).1
items_real _ h = tt

-- texts with another between each two
more_low : {X : Type 0} (f : X → List Piece) (sep : List Piece) (xs : List X) → text_is_low sep ≡ true → list_all (λ x. text_is_low (f x)) xs ≡ true
    → text_is_low (flat_map (λ x. sep ++ f x) xs) ≡ true
more_low f sep [] s h = refl
more_low f sep (x ∷ xs) s h =
    let w = and_parts (text_is_low (f x)) (list_all (λ y. text_is_low (f y)) xs) h in
    text_append (sep ++ f x) (flat_map (λ y. sep ++ f y) xs) (text_append sep (f x) s w.0) (more_low f sep xs s w.1)

joined_low : {X : Type 0} (f : X → List Piece) (sep : List Piece) (xs : List X) → text_is_low sep ≡ true → list_all (λ x. text_is_low (f x)) xs ≡ true
    → text_is_low (join_by f sep xs) ≡ true
joined_low f sep [] s h = refl
joined_low f sep (x ∷ xs) s h =
    let w = and_parts (text_is_low (f x)) (list_all (λ y. text_is_low (f y)) xs) h in
    text_append (f x) (flat_map (λ y. sep ++ f y) xs) w.0 (more_low f sep xs s w.1)

-- one of the texts, or nothing
some_low : (texts : List (List Piece)) (i : ℕ) → texts_are_low texts ≡ true → text_is_low (get_or texts i []) ≡ true
some_low [] i h = refl
some_low (t ∷ texts) zero h = (and_parts (text_is_low t) (texts_are_low texts) h).0
some_low (t ∷ texts) (suc i) h = some_low texts i (and_parts (text_is_low t) (texts_are_low texts) h).1

item_low : (item : OdeItem) (terms : List (List Piece)) → is_item item ≡ true → texts_are_low terms ≡ true → text_is_low (item_text item terms) ≡ true
item_low (Const s) terms h t = let w = symbol_low Ode s h in rw (w.0, ode_low s.taboo w.1) refl
item_low (Evolve x) terms h t = rw (name_low x h, some_low terms 0 t) refl

behind_low : (item : OdeItem) (terms : List (List Piece)) → texts_are_low terms ≡ true → texts_are_low (terms_behind item terms) ≡ true
behind_low (Const s) terms h = h
behind_low (Evolve x) [] h = refl
behind_low (Evolve x) (t ∷ terms) h = (and_parts (text_is_low t) (texts_are_low terms) h).1

items_low : (items : List OdeItem) (terms : List (List Piece)) → list_all is_item items ≡ true → texts_are_low terms ≡ true
    → texts_are_low (item_texts items terms) ≡ true
items_low [] terms h t = refl
items_low (item ∷ items) terms h t =
    let w = and_parts (is_item item) (list_all is_item items) h in
    and_from (text_is_low (item_text item terms)) (texts_are_low (item_texts items (terms_behind item terms))) (item_low item terms w.0 t)
    (items_low items (terms_behind item terms) w.1 (behind_low item terms t))

domain_low : (domain : Tree) (text : List Piece) → text_is_low text ≡ true → text_is_low (domain_text domain text) ≡ true
domain_low domain text h = by_test (is_true (root domain))
  where
    by_test : (b : Bool) → text_is_low (cond b [] (mark And ∷ text)) ≡ true
    by_test true = refl
    by_test false = h

inside_low : (items : Option (List OdeItem)) (sep : List Piece) (kids : List Tree) (texts : List (List Piece))
    → IfSome items (λ its. list_all is_item its ≡ true) → text_is_low sep ≡ true → texts_are_low texts ≡ true → text_is_low (inside items sep kids texts) ≡ true
inside_low None sep kids texts h s t = joined_low (λ text. text) sep texts s t
inside_low (Some items) sep kids texts h s t =
    let terms = item_texts items texts in
    let domain = get_or kids (length (evolved items)) (node op.True no_kids) in
    let last = get_or texts (length (evolved items)) [] in
    text_append (join_by (λ text. text) sep terms) (domain_text domain last) (joined_low (λ text. text) sep terms s (items_low items texts h t))
    (domain_low domain last (some_low texts (length (evolved items)) t))

bracketed_low : (b : Bool) (s : Sort) (text : List Piece) → text_is_low text ≡ true → text_is_low (bracketed b s text) ≡ true
bracketed_low true Term text h = text_append text (mark CloseRound ∷ []) h refl
bracketed_low true Formula text h = text_append text (mark CloseRound ∷ []) h refl
bracketed_low true Program text h = text_append text (mark CloseBrace ∷ []) h refl
bracketed_low false s text h = h

mutual
  shown_low : (n : ℕ) (t : Tree) → WellMade t → text_is_low (shown_at n t) ≡ true
  shown_low n (node o kids) h =
      let w = and_parts (text_is_low (opening o) && text_is_low (between o)) (text_is_low (closing o)) (style_low o h.0.parts_fit) in
      let v = and_parts (text_is_low (opening o)) (text_is_low (between o)) w.0 in
      let body = inside (items_of o) (between o) (trees_in kids) (shown_kids o 0 kids) in
      let low = inside_low (items_of o) (between o) (trees_in kids) (shown_kids o 0 kids) (items_real o h.0.parts_fit) v.1 (kids_low o 0 kids h.1) in
      let all = text_append (opening o) (body ++ closing o) v.0 (text_append body (closing o) low w.1) in
      bracketed_low (nat_lt (level o) n) (sort_of o) (opening o ++ (body ++ closing o)) all

  kids_low : (o : Op) (i : ℕ) (kids : Forest) → AllWellMade kids → texts_are_low (shown_kids o i kids) ≡ true
  kids_low o i no_kids h = refl
  kids_low o i (kid t rest) h =
      and_from (text_is_low (shown_at (least o i) t)) (texts_are_low (shown_kids o (i + 1) rest)) (shown_low (least o i) t h.0) (kids_low o (i + 1) rest h.1)

-- sequents
trees_low : (ts : List Tree) → All WellMade ts → list_all (λ t. text_is_low (shown t)) ts ≡ true
trees_low [] h = refl
trees_low (t ∷ ts) h = and_from (text_is_low (shown t)) (list_all (λ u. text_is_low (shown u)) ts) (shown_low 1 t (All-head WellMade t ts h))
    (trees_low ts (All-tail WellMade t ts h))

formulas_low : (ts : List Tree) → All WellMade ts → text_is_low (formulas ts) ≡ true
formulas_low ts h = joined_low shown (mark Comma ∷ space ∷ []) ts refl (trees_low ts h)

left_low : (ts : List Tree) → All WellMade ts → text_is_low (left_side ts) ≡ true
left_low [] h = refl
left_low (t ∷ ts) h = text_append (formulas (t ∷ ts)) (space ∷ []) (formulas_low (t ∷ ts) h) refl

right_low : (ts : List Tree) → All WellMade ts → text_is_low (right_side ts) ≡ true
right_low [] h = refl
right_low (t ∷ ts) h = formulas_low (t ∷ ts) h

-- the laws
pub tree_ascii : (t : Tree) → WellMade t → IsAscii (spell (shown t))
tree_ascii t h = low_ascii (spell (shown t)) (spell_low (shown t) (shown_low 1 t h))

pub sequent_ascii : (s : Sequent) → All WellMade s.ante → All WellMade s.succ → IsAscii (spell (shown_sequent s))
sequent_ascii s h g =
    let low = text_append (left_side s.ante) (mark Turnstile ∷ right_side s.succ) (left_low s.ante h) (right_low s.succ g) in
    low_ascii (spell (shown_sequent s)) (spell_low (shown_sequent s) low)
