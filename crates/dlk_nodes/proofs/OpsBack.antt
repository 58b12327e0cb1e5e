-- An operator is found again by its word and its detail.
use Rattle.std.proofs.Common.{◌≡◌, ℕ, ◌≤◌, ◌==◌, Bool, true, false, not, ◌||◌, nat_le, List, [], ◌∷◌, ◌++◌, length, map, Option, Some, None, codes}
use Rattle.std.proofs.Common.{refl, sym, ap, subst, ◌∙◌, append_assoc, arith}
use Rattle.std.specs.Prelude.{is_none, if◌then◌else◌}
use Rattle.std.specs.List.{list_all, flat_map, join_by}
use Rattle.std.proofs.lemmas.Bool.{and_parts, and_from, eqb-true}
use Rattle.dlk_tree.specs.declared.op.Var.{Var}
use Rattle.dlk_tree.specs.declared.op.Sym.{Sym}
use Rattle.dlk_tree.specs.declared.op.Kind.{Kind}
use Rattle.dlk_tree.specs.declared.op.Kind.TheVariants.{Func, UnitFunc, Pred, UnitPred, Quant, Prog, Ode}
use Rattle.dlk_tree.specs.declared.op.OdeItem.{OdeItem}
use Rattle.dlk_tree.specs.declared.op.OdeItem.TheVariants.{Evolve, Const}
use Rattle.dlk_tree.specs.Names.{is_letter, is_name_byte, is_name}
use Rattle.dlk_tree.specs.Tests.{kind_rank}
use Rattle.dlk_tree.specs.Table.{kind_row, has_arity, taboo_is_name, is_sym, is_sym_of, is_item}
use Rattle.dlk_nodes.specs.Words.{variable_text, unit_text, constant_text, item_text}
use Rattle.dlk_nodes.specs.Fields.{parts_of}
use Rattle.dlk_nodes.proofs.Fields.{lacks, lacks_both, one_part, next_part, behind_each, all_lack, split_back}

-- ---- names lack what is no byte of a name

pub lacks_if : (p : ℕ → Bool) (byte : ℕ) → p byte ≡ false → (text : List ℕ) → list_all p text ≡ true → lacks byte text ≡ true
lacks_if p byte fails [] all = refl
lacks_if p byte fails (c ∷ text) all =
    let w = and_parts (p c) (list_all p text) all in
    and_from (not (c == byte)) (lacks byte text) (unlike (c == byte) refl w.0) (lacks_if p byte fails text w.1)
  where
    unlike : (b : Bool) → (c == byte) ≡ b → p c ≡ true → not b ≡ true
    unlike true same pass = let e : true ≡ false = sym pass ∙ ap p (eqb-true c byte same) ∙ fails in absurd (cc e)
    unlike false other pass = refl

pub name_lacks : (byte : ℕ) → is_name_byte byte ≡ false → (x : List ℕ) → is_name x ≡ true → lacks byte x ≡ true
name_lacks byte fails [] h = refl
name_lacks byte fails (b ∷ x) h =
    let word = and_parts (is_letter b) (list_all is_name_byte x) (and_parts _ _ (and_parts _ _ h).0).0 in
    lacks_if is_name_byte byte fails (b ∷ x) (and_from (is_name_byte b) (list_all is_name_byte x) (letter_in_name b word.0) word.1)
  where
    letter_in_name : (c : ℕ) → is_letter c ≡ true → is_name_byte c ≡ true
    letter_in_name c letter = rw letter refl

-- ---- details

abbrev pub variable_in : List (List ℕ) → Var
variable_in [] = record { name = []; primed = false }
variable_in (x ∷ []) = record { name = x; primed = false }
variable_in (x ∷ y ∷ parts) = record { name = x; primed = true }

pub variable_back : (v : Var) → is_name v.name ≡ true → variable_in (parts_of 39 (variable_text v)) ≡ v
variable_back v h = by_test v.primed refl
  where
    by_test : (b : Bool) → v.primed ≡ b → variable_in (parts_of 39 (if b then v.name ++ codes "'" else v.name)) ≡ v
    by_test true e = ap variable_in (next_part 39 v.name [] refl (name_lacks 39 refl v.name h)) ∙ (λ i. record { name = v.name; primed = sym e i })
    by_test false e = ap variable_in (one_part 39 v.name (name_lacks 39 refl v.name h)) ∙ (λ i. record { name = v.name; primed = sym e i })

abbrev pub unit_in : List (List ℕ) → List ℕ × Option (List ℕ)
unit_in [] = ([], None)
unit_in (x ∷ []) = (x, None)
unit_in (x ∷ y ∷ parts) = (x, Some y)

pub unit_back : (x : List ℕ) (y : Option (List ℕ)) → is_name x ≡ true → taboo_is_name y ≡ true → unit_in (parts_of 124 (unit_text x y)) ≡ (x, y)
unit_back x None h g = ap unit_in (one_part 124 x (name_lacks 124 refl x h))
unit_back x (Some y) h g =
    let first = next_part 124 x (y ++ codes "|") refl (name_lacks 124 refl x h) in
    let second = next_part 124 y [] refl (name_lacks 124 refl y g) in
    ap (λ t. unit_in (parts_of 124 t)) (append_assoc (x ++ codes "|") y (codes "|") ∙ append_assoc x (codes "|") (y ++ codes "|"))
    ∙ ap unit_in (first ∙ ap (λ l. x ∷ l) second)

-- an item: a prime, or a brace, or neither
abbrev pub constant_named : List ℕ → Option (List ℕ) → OdeItem
constant_named x y = Const (record { kind = Ode; name = x; arity = 0; taboo = y })

abbrev pub constant_in : List (List ℕ) → OdeItem
constant_in [] = constant_named [] None
constant_in (x ∷ []) = constant_named x None
constant_in (x ∷ y ∷ parts) = constant_named x (unit_in (parts_of 124 y)).1

abbrev pub item_in : List ℕ → List (List ℕ) → OdeItem
item_in text [] = constant_named [] None
item_in text (x ∷ []) = constant_in (parts_of 123 text)
item_in text (x ∷ y ∷ parts) = Evolve x

abbrev pub item_of : List ℕ → OdeItem
item_of text = item_in text (parts_of 39 text)

-- ---- symbols

kind_at : ℕ → Kind
kind_at n = if n == 0 then Func else if n == 1 then UnitFunc else if n == 2 then Pred else if n == 3 then UnitPred else if n == 4 then Quant else if
    n == 5 then Prog else Ode

kind_ranked : (k : Kind) → kind_at (kind_rank k) ≡ k
unfolding kind_at
kind_ranked Func = refl
kind_ranked UnitFunc = refl
kind_ranked Pred = refl
kind_ranked UnitPred = refl
kind_ranked Quant = refl
kind_ranked Prog = refl
kind_ranked Ode = refl

one_kind : (j k : Kind) → (kind_rank j == kind_rank k) ≡ true → j ≡ k
one_kind j k e = sym (kind_ranked j) ∙ ap kind_at (eqb-true (kind_rank j) (kind_rank k) e) ∙ kind_ranked k

-- what is known of a symbol of a kind
pub record SymbolParts (k : Kind) (s : Sym) : Type 0 where
  pub kind_is : s.kind ≡ k
  pub name_is : is_name s.name ≡ true
  pub arity_is : has_arity k s.arity ≡ true
  pub taboo_is : taboo_is_name s.taboo ≡ true
  pub allowed : (is_none s.taboo || (kind_row k).taboo) ≡ true

pub symbol_parts : (k : Kind) (s : Sym) → is_sym_of k s ≡ true → SymbolParts k s
symbol_parts k s h =
    let of = and_parts (kind_rank s.kind == kind_rank k) (is_sym s) h in
    let is = one_kind s.kind k of.0 in
    let a = and_parts _ _ of.1 in
    let b = and_parts _ _ a.0 in
    let c = and_parts _ _ b.0 in
    record {
      kind_is = is;
      name_is = c.0;
      arity_is = subst (λ j. has_arity j s.arity ≡ true) is c.1;
      taboo_is = b.1;
      allowed = subst (λ j. (is_none s.taboo || (kind_row j).taboo) ≡ true) is a.1;
    }

no_taboo : (y : Option (List ℕ)) → (is_none y || false) ≡ true → y ≡ None
no_taboo None h = refl
no_taboo (Some y) h = absurd (cc h)

pub symbol_again : (k : Kind) (s : Sym) (n : ℕ) (y : Option (List ℕ)) → s.kind ≡ k → s.arity ≡ n → s.taboo ≡ y →
    record { kind = k; name = s.name; arity = n; taboo = y } ≡ s
symbol_again k s n y e f g = λ i. record { kind = sym e i; name = s.name; arity = sym f i; taboo = sym g i }

-- a function or a predicate, by its name and the number of its kids
pub called : (k : Kind) (s : Sym) (n : ℕ) → (kind_row k).taboo ≡ false → s.arity ≡ n → is_sym_of k s ≡ true →
    record { kind = k; name = s.name; arity = n; taboo = None } ≡ s
called k s n none e h =
    let p = symbol_parts k s h in
    symbol_again k s n None p.kind_is e (no_taboo s.taboo (subst (λ b. (is_none s.taboo || b) ≡ true) none p.allowed))

-- a symbol without arguments
pub bare : (k : Kind) (s : Sym) → (kind_row k).arguments ≡ false → (kind_row k).taboo ≡ false → is_sym_of k s ≡ true →
    record { kind = k; name = s.name; arity = 0; taboo = None } ≡ s
bare k s without none h =
    let p = symbol_parts k s h in
    called k s 0 none (eqb-true s.arity 0 (subst (λ b. (if b then nat_le s.arity 8 else s.arity == 0) ≡ true) without p.arity_is)) h

-- a unit symbol, with its taboo
pub unit_again : (k : Kind) (s : Sym) → (kind_row k).arguments ≡ false → is_sym_of k s ≡ true → record {
  kind = k;
  name = s.name;
  arity = 0;
  taboo =
      s.taboo;
} ≡ s
unit_again k s without h =
    let p = symbol_parts k s h in
    symbol_again k s 0 s.taboo p.kind_is (eqb-true s.arity 0 (subst (λ b. (if b then nat_le s.arity 8 else s.arity == 0) ≡ true) without p.arity_is)) refl

-- ---- items

pub item_back : (i : OdeItem) → is_item i ≡ true → item_of (item_text i) ≡ i
item_back (Evolve x) h = ap (item_in (x ++ codes "'")) (next_part 39 x [] refl (name_lacks 39 refl x h))
item_back (Const s) h = by_taboo s.taboo refl
  where
    p : SymbolParts Ode s
    p = symbol_parts Ode s h

    again : (y : Option (List ℕ)) → s.taboo ≡ y → constant_named s.name y ≡ Const s
    again y e = ap Const (symbol_again Ode s 0 y p.kind_is (eqb-true s.arity 0 p.arity_is) e)

    by_taboo : (y : Option (List ℕ)) → s.taboo ≡ y → item_of (constant_text s.name y) ≡ Const s
    by_taboo None e =
        ap (item_in s.name) (one_part 39 s.name (name_lacks 39 refl s.name p.name_is))
        ∙ ap constant_in (one_part 123 s.name (name_lacks 123 refl s.name p.name_is)) ∙ again None e
    by_taboo (Some y) e =
        let real : is_name y ≡ true = subst (λ t. taboo_is_name t ≡ true) e p.taboo_is in
        let text = constant_text s.name (Some y) in
        let brackets : lacks 39 text ≡ true =
        lacks_both 39 (s.name ++ codes "{|" ++ y) (codes "|}") (lacks_both 39 (s.name ++ codes "{|") y
        (lacks_both 39 s.name (codes "{|") (name_lacks 39 refl s.name p.name_is) refl) (name_lacks 39 refl y real)) refl in
        let behind = codes "|" ++ y ++ codes "|}" in
        let grouped : text ≡ s.name ++ 123 ∷ behind = append_assoc (s.name ++ codes "{|") y (codes "|}") ∙ append_assoc s.name (codes "{|") (y ++ codes "|}") in
        let no_brace : lacks 123 behind ≡ true = lacks_both 123 (codes "|" ++ y) (codes "|}") (lacks_both 123 (codes "|") y refl
        (name_lacks 123 refl y real)) refl in
        let braces = ap (parts_of 123) grouped ∙ next_part 123 s.name behind refl (name_lacks 123 refl s.name p.name_is)
        ∙ ap (λ l. s.name ∷ l) (one_part 123 behind no_brace) in
        let bars = next_part 124 [] (y ++ codes "|}") refl refl ∙ ap (λ l. [] ∷ l) (next_part 124 y (codes "}") refl (name_lacks 124 refl y real)) in
        ap (item_in text) (one_part 39 text brackets) ∙ ap constant_in braces ∙ ap (λ l. constant_named s.name (unit_in l).1) bars ∙ again (Some y) e

item_lacks : (byte : ℕ) → is_name_byte byte ≡ false → lacks byte (codes "'{||}") ≡ true → (i : OdeItem) → is_item i ≡ true → lacks byte (item_text i) ≡ true
item_lacks byte other marks (Evolve x) h =
    let w = and_parts (not (39 == byte)) _ marks in
    lacks_both byte x (codes "'") (name_lacks byte other x h) (and_from (not (39 == byte)) true w.0 refl)
item_lacks byte other marks (Const s) h = by_taboo s.taboo refl
  where
    p : SymbolParts Ode s
    p = symbol_parts Ode s h

    opening : lacks byte (codes "{|") ≡ true
    opening = let w = (and_parts (not (39 == byte)) (lacks byte (codes "{||}")) marks).1 in
        let v = and_parts (not (123 == byte)) (lacks byte (codes "||}")) w in
        and_from (not (123 == byte)) (lacks byte (codes "|")) v.0 (and_from (not (124 == byte)) true (and_parts (not (124 == byte)) (lacks byte
        (codes "|}")) v.1).0 refl)

    closing : lacks byte (codes "|}") ≡ true
    closing = let w = (and_parts (not (39 == byte)) (lacks byte (codes "{||}")) marks).1 in
        (and_parts (not (124 == byte)) (lacks byte (codes "|}")) (and_parts (not (123 == byte)) (lacks byte (codes "||}")) w).1).1

    by_taboo : (y : Option (List ℕ)) → s.taboo ≡ y → lacks byte (constant_text s.name y) ≡ true
    by_taboo None e = name_lacks byte other s.name p.name_is
    by_taboo (Some y) e =
        let real : is_name y ≡ true = subst (λ t. taboo_is_name t ≡ true) e p.taboo_is in
        lacks_both byte (s.name ++ codes "{|" ++ y) (codes "|}") (lacks_both byte (s.name ++ codes "{|") y (lacks_both byte s.name (codes "{|")
        (name_lacks byte other s.name p.name_is) opening)
        (name_lacks byte other y real)) closing

pub items_of : List (List ℕ) → List OdeItem
items_of [] = []
items_of (text ∷ texts) = item_of text ∷ items_of texts

all_items_back : (items : List OdeItem) → list_all is_item items ≡ true → items_of (map item_text items) ≡ items
unfolding items_of
all_items_back [] h = refl
all_items_back (i ∷ items) h =
    let w = and_parts (is_item i) (list_all is_item items) h in
    let first = item_back i w.0 in
    let rest = all_items_back items w.1 in
    λ t. first t ∷ rest t

pub items_lack : (byte : ℕ) → is_name_byte byte ≡ false → lacks byte (codes "'{||}") ≡ true → (items : List OdeItem) → list_all is_item items ≡ true →
    all_lack byte (map item_text items)
items_lack byte other marks [] h = tt
items_lack byte other marks (i ∷ items) h =
    let w = and_parts (is_item i) (list_all is_item items) h in
    (item_lacks byte other marks i w.0, items_lack byte other marks items w.1)

pub joined : (items : List OdeItem) → flat_map (λ i. codes "," ++ item_text i) items ≡ behind_each 44 (map item_text items)
joined [] = refl
joined (i ∷ items) = ap (λ l. codes "," ++ item_text i ++ l) (joined items)

pub items_back : (items : List OdeItem) → list_all is_item items ≡ true → 1 ≤ length items →
    items_of (parts_of 44 (join_by item_text (codes ",") items)) ≡ items
unfolding items_of
items_back [] h some = absurd (omega (arith, some))
items_back (i ∷ items) h some =
    let all = items_lack 44 refl refl (i ∷ items) h in
    ap (λ l. items_of (parts_of 44 (item_text i ++ l))) (joined items)
    ∙ ap items_of (split_back 44 (item_text i) (map item_text items) refl all.0 all.1) ∙ all_items_back (i ∷ items) h
