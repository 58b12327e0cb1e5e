-- What the parts of a detail are, found by cutting its text.
use Rattle.std.proofs.Common.{◌≡◌, ◌≢◌, ℕ, ◌+◌, ◌-◌, ◌<◌, ◌≤◌, nat_le, ◌==◌, Bool, true, false, not, ◌&&◌, ◌||◌, List, [], ◌∷◌, ◌++◌, length, map}
use Rattle.std.proofs.Common.{Option, Some, None, codes, refl, sym, ap, subst, ◌∙◌, append_assoc, arith}
use Rattle.std.specs.Prelude.{IsTrue, is_none, if◌then◌else◌, MatchOption}
use Rattle.std.specs.List.{list_all, join_by}
use Rattle.std.proofs.lemmas.Bool.{and_parts, and_from, leb-true, le-leb, ltb-true, lt-ltb, eqb-true}
use Rattle.std.proofs.lemmas.List.Folds.{list_all-append}
use Rattle.dlk_tree.specs.declared.op.Num.{Num}
use Rattle.dlk_tree.specs.declared.op.Var.{Var}
use Rattle.dlk_tree.specs.declared.op.Kind.TheVariants.{Ode}
use Rattle.dlk_tree.specs.declared.op.OdeItem.{OdeItem}
use Rattle.dlk_tree.specs.declared.op.OdeItem.TheVariants.{Evolve, Const}
use Rattle.dlk_tree.specs.Names.{is_between, is_name}
use Rattle.dlk_tree.specs.Table.{taboo_is_name, is_item, evolved, all_distinct}
use Rattle.dlk_grammar.specs.Shown.{literal}
use Rattle.dlk_grammar.specs.Tokens.{is_digit, literal_number}
use Rattle.dlk_grammar.proofs.Spelled.{digits_all}
use Rattle.dlk_readback.proofs.Numbers.{Literal, whole, parts, literal_is}
use Rattle.dlk_lines.specs.Parts.{CutAt}
use Rattle.dlk_nodes.specs.Words.{unit_text, constant_text, item_text}
use Rattle.dlk_nodes.specs.Fields.{parts_of, Each}
use Rattle.dlk_nodes.specs.Details.{SpellsVariable, SpellsNumber, AreFewDigits, SpellsDot, SpellsUnit, SpellsConstant, SpellsItem, SpellsItems}
use Rattle.dlk_lines.proofs.Cuts.{one_cut}
use Rattle.dlk_nodes.proofs.DotText.{one_digit}
use Rattle.dlk_nodes.proofs.Fields.{lacks, lacks_both, behind_each, split_back}
use Rattle.dlk_nodes.proofs.OpsBack.{lacks_if, name_lacks, symbol_parts, item_of, item_back, items_lack, joined}
use Rattle.dlk_nodes.proofs.Parted.{each_one}
use Rattle.dlk_nodes.proofs.Numbered.{behind_parts}

-- the text has no such byte
abbrev pub Uncut : ℕ → List ℕ → Type 0
Uncut byte text = (front rest : List ℕ) → text ≢ front ++ byte ∷ rest

pub not_lacking : (byte : ℕ) (text front rest : List ℕ) → (byte == byte) ≡ true → CutAt text byte front rest → lacks byte text ≡ true → ⊥
not_lacking byte text front rest same cut h =
    let all : list_all (λ c. not (c == byte)) (front ++ byte ∷ rest) ≡ true = ap (lacks byte) (sym cut.text_is) ∙ h in
    let w = and_parts (lacks byte front) (lacks byte (byte ∷ rest)) (sym (list_all-append (λ c. not (c == byte)) front (byte ∷ rest)) ∙ all) in
    let v = and_parts (not (byte == byte)) (lacks byte rest) w.1 in
    let clash : false ≡ true = sym (ap not same) ∙ v.0 in
    absurd (cc clash)

-- ---- variables

pub record IsPrimed (v : Var) (front behind : List ℕ) : Type 0 where
  pub primed : v.primed ≡ true
  pub name_is : front ≡ v.name
  pub nothing : behind ≡ []
  pub real : is_name front ≡ true

pub primed_parts : (text front behind : List ℕ) (v : Var) → CutAt text 39 front behind → SpellsVariable text v → IsPrimed v front behind
primed_parts text front behind v cut s = by_test v.primed refl s.text_is
  where
    by_test : (b : Bool) → v.primed ≡ b → text ≡ (if b then v.name ++ codes "'" else v.name) → IsPrimed v front behind
    by_test true p e =
        let same = one_cut text 39 front v.name behind [] cut (record { text_is = e; first = name_lacks 39 refl v.name s.real }) in
        record { primed = p; name_is = same.0; nothing = same.1; real = subst (λ x. is_name x ≡ true) (sym same.0) s.real }
    by_test false p e = absurd (not_lacking 39 text front behind refl cut (ap (lacks 39) e ∙ name_lacks 39 refl v.name s.real))

-- a name is that of a variable, and with a prime behind it of a primed one
pub plain_spelled : (text : List ℕ) → IsTrue (is_name text) → (v : Var) × SpellsVariable text v
plain_spelled text real = (record { name = text; primed = false }, record { real = real; text_is = refl })

pub primed_spelled : (text front behind : List ℕ) → CutAt text 39 front behind → behind ≡ [] → IsTrue (is_name front) → (v : Var) × SpellsVariable text v
primed_spelled text front behind cut nothing real =
    (record { name = front; primed = true }, record { real = real; text_is = cut.text_is ∙ ap (λ r. front ++ 39 ∷ r) nothing })

-- ---- unit symbols

no_taboo_part : (x : List ℕ) (y : Option (List ℕ)) → (is_name x && taboo_is_name y) ≡ true → (is_name x ≡ true) × (taboo_is_name y ≡ true)
no_taboo_part x y h = and_parts (is_name x) (taboo_is_name y) h

unit_grouped : (x t : List ℕ) → x ++ codes "|" ++ t ++ codes "|" ≡ x ++ 124 ∷ (t ++ 124 ∷ [])
unit_grouped x t = simp append_assoc

pub record HasTaboo (u : List ℕ × Option (List ℕ)) (front : List ℕ) (text : List ℕ → List ℕ) (behind : List ℕ) : Type 0 where
  pub taboo : List ℕ
  pub behind_is : behind ≡ text taboo
  pub name : is_name front ≡ true
  pub real : is_name taboo ≡ true

pub unit_parts : (text front behind : List ℕ) (u : List ℕ × Option (List ℕ)) → CutAt text 124 front behind → SpellsUnit text u →
    HasTaboo u front (λ t. t ++ 124 ∷ []) behind
unit_parts text front behind u cut s = by_taboo u.1 refl s.text_is
  where
    real : (is_name u.0 ≡ true) × (taboo_is_name u.1 ≡ true)
    real = no_taboo_part u.0 u.1 s.real

    by_taboo : (y : Option (List ℕ)) → u.1 ≡ y → text ≡ unit_text u.0 y → HasTaboo u front (λ t. t ++ 124 ∷ []) behind
    by_taboo None p e = absurd (not_lacking 124 text front behind refl cut (ap (lacks 124) e ∙ name_lacks 124 refl u.0 real.0))
    by_taboo (Some t) p e =
        let same = one_cut text 124 front u.0 behind (t ++ 124 ∷ []) cut (record {
          text_is = e
              ∙ unit_grouped u.0 t;
          first = name_lacks 124 refl u.0 real.0;
        }) in
        record {
          taboo = t;
          behind_is = same.1;
          name = subst (λ x. is_name x ≡ true) (sym same.0) real.0;
          real = subst (λ y. taboo_is_name y ≡ true) p real.1;
        }

-- the taboo, cut behind
pub taboo_cut : (behind taboo end t rest : List ℕ) → CutAt behind 124 taboo end → behind ≡ t ++ 124 ∷ rest → is_name t ≡ true → (taboo ≡ t) × (end ≡ rest)
taboo_cut behind taboo end t rest cut e real = one_cut behind 124 taboo t end rest cut (record { text_is = e; first = name_lacks 124 refl t real })

-- ---- constants of a system

constant_grouped : (x t : List ℕ) → x ++ codes "{|" ++ t ++ codes "|}" ≡ x ++ 123 ∷ (124 ∷ (t ++ 124 ∷ 125 ∷ []))
constant_grouped x t = simp append_assoc

pub constant_parts : (text front behind : List ℕ) (u : List ℕ × Option (List ℕ)) → CutAt text 123 front behind → SpellsConstant text u →
    HasTaboo u front (λ t. 124 ∷ (t ++ 124 ∷ 125 ∷ [])) behind
constant_parts text front behind u cut s = by_taboo u.1 refl s.text_is
  where
    real : (is_name u.0 ≡ true) × (taboo_is_name u.1 ≡ true)
    real = no_taboo_part u.0 u.1 s.real

    by_taboo : (y : Option (List ℕ)) → u.1 ≡ y → text ≡ constant_text u.0 y → HasTaboo u front (λ t. 124 ∷ (t ++ 124 ∷ 125 ∷ [])) behind
    by_taboo None p e = absurd (not_lacking 123 text front behind refl cut (ap (lacks 123) e ∙ name_lacks 123 refl u.0 real.0))
    by_taboo (Some t) p e =
        let same = one_cut text 123 front u.0 behind (124 ∷ (t ++ 124 ∷ 125 ∷ [])) cut (record {
          text_is = e
              ∙ constant_grouped u.0 t;
          first = name_lacks 123 refl u.0 real.0;
        }) in
        record {
          taboo = t;
          behind_is = same.1;
          name = subst (λ x. is_name x ≡ true) (sym same.0) real.0;
          real = subst (λ y. taboo_is_name y ≡ true) p real.1;
        }

-- the bar behind the brace
pub bar_cut : (behind none inner rest : List ℕ) → CutAt behind 124 none inner → behind ≡ 124 ∷ rest → (none ≡ []) × (inner ≡ rest)
bar_cut behind none inner rest cut e = one_cut behind 124 none [] inner rest cut (record { text_is = e; first = refl })

pub constant_again : (front behind none inner taboo end text : List ℕ) → CutAt text 123 front behind → CutAt behind 124 none inner → CutAt inner 124 taboo end →
    none ≡ [] → end ≡ codes "}" → is_name front ≡ true → is_name taboo ≡ true → SpellsConstant text (front, Some taboo)
constant_again front behind none inner taboo end text a b c empty brace x y = record {
  real = and_from (is_name front) (is_name taboo) x y;
  text_is =
      let rest : inner ≡ taboo ++ 124 ∷ 125 ∷ [] = c.text_is ∙ ap (λ l. taboo ++ 124 ∷ l) brace in
      let bars : behind ≡ 124 ∷ (taboo ++ 124 ∷ 125 ∷ []) = b.text_is ∙ (λ i. empty i ++ 124 ∷ rest i) in
      a.text_is ∙ ap (λ l. front ++ 123 ∷ l) bars ∙ sym (constant_grouped front taboo);
}

pub unit_again : (front behind taboo end text : List ℕ) → CutAt text 124 front behind → CutAt behind 124 taboo end → end ≡ [] → is_name front ≡ true →
    is_name taboo ≡ true →
    SpellsUnit text (front, Some taboo)
unit_again front behind taboo end text a b empty x y = record {
  real = and_from (is_name front) (is_name taboo) x y;
  text_is = a.text_is ∙ ap (λ l. front ++ 124 ∷ l) (b.text_is ∙ ap (λ l. taboo ++ 124 ∷ l) empty) ∙ sym (unit_grouped front taboo);
}

-- ---- items

constant_lacks_prime : (x : List ℕ) (y : Option (List ℕ)) → is_name x ≡ true → taboo_is_name y ≡ true → lacks 39 (constant_text x y) ≡ true
constant_lacks_prime x None h g = name_lacks 39 refl x h
constant_lacks_prime x (Some y) h g =
    lacks_both 39 (x ++ codes "{|" ++ y) (codes "|}") (lacks_both 39 (x ++ codes "{|") y (lacks_both 39 x (codes "{|") (name_lacks 39 refl x h) refl)
    (name_lacks 39 refl y g)) refl

pub no_item : (text : List ℕ) → Uncut 39 text → ((u : List ℕ × Option (List ℕ)) → ¬ SpellsConstant text u) → (i : OdeItem) → ¬ SpellsItem text i
no_item text uncut none (Evolve x) s = uncut x [] s.text_is
no_item text uncut none (Const c) s =
    let p = symbol_parts Ode c s.real in
    none (c.name, c.taboo) (record { real = and_from (is_name c.name) (taboo_is_name c.taboo) p.name_is p.taboo_is; text_is = s.text_is })

pub record IsEvolved (i : OdeItem) (front behind : List ℕ) : Type 0 where
  pub item_is : i ≡ Evolve front
  pub nothing : behind ≡ []
  pub real : is_name front ≡ true

pub evolved_parts : (text front behind : List ℕ) (i : OdeItem) → CutAt text 39 front behind → SpellsItem text i → IsEvolved i front behind
evolved_parts text front behind (Evolve x) cut s =
    let same = one_cut text 39 front x behind [] cut (record { text_is = s.text_is; first = name_lacks 39 refl x s.real }) in
    record { item_is = ap Evolve (sym same.0); nothing = same.1; real = subst (λ y. is_name y ≡ true) (sym same.0) s.real }
evolved_parts text front behind (Const c) cut s =
    let p = symbol_parts Ode c s.real in
    absurd (not_lacking 39 text front behind refl cut (ap (lacks 39) s.text_is ∙ constant_lacks_prime c.name c.taboo p.name_is p.taboo_is))

any_taboo : (y : Option (List ℕ)) → (is_none y || true) ≡ true
any_taboo None = refl
any_taboo (Some y) = refl

-- ---- the items of a system

their_texts : (ps : List (List ℕ)) (items : List OdeItem) → Each SpellsItem ps items → (ps ≡ map item_text items) × (list_all is_item items ≡ true)
their_texts [] [] a = (refl, refl)
their_texts [] (i ∷ items) a = absurd a
their_texts (p ∷ ps) [] a = absurd a
their_texts (p ∷ ps) (i ∷ items) a =
    let more = their_texts ps items a.1 in
    let first = a.0.text_is in
    ((λ t. first t ∷ more.0 t), and_from (is_item i) (list_all is_item items) a.0.real more.1)

spelled_each : (items : List OdeItem) → list_all is_item items ≡ true → Each SpellsItem (map item_text items) items
spelled_each [] h = tt
spelled_each (i ∷ items) h =
    let w = and_parts (is_item i) (list_all is_item items) h in
    (record { real = w.0; text_is = refl }, spelled_each items w.1)

-- what is put together of the items is the text
pub items_text : (text : List ℕ) (items : List OdeItem) → Each SpellsItem (parts_of 44 text) items →
    (text ≡ join_by item_text (codes ",") items) × (list_all is_item items ≡ true) × (1 ≤ length items)
items_text text items a = by_items items (their_texts (parts_of 44 text) items a) (behind_parts 44 text refl)
  where
    by_items : (items : List OdeItem) → (parts_of 44 text ≡ map item_text items) × (list_all is_item items ≡ true) →
        behind_each 44 (parts_of 44 text) ≡ 44 ∷ text →
        (text ≡ join_by item_text (codes ",") items) × (list_all is_item items ≡ true) × (1 ≤ length items)
    by_items [] w e = let clash : [] ≡ 44 ∷ text = sym (ap (behind_each 44) w.0) ∙ e in absurd (cc clash)
    by_items (i ∷ items) w e =
        let whole : 44 ∷ (item_text i ++ behind_each 44 (map item_text items)) ≡ 44 ∷ text = sym (ap (behind_each 44) w.0) ∙ e in
        let tail : item_text i ++ behind_each 44 (map item_text items) ≡ text = cc in
        (sym tail ∙ ap (λ l. item_text i ++ l) (sym (joined items)), w.1, omega arith)

-- and where the text is theirs, its parts are the items
pub items_parts : (text : List ℕ) (items : List OdeItem) → SpellsItems text items → Each SpellsItem (parts_of 44 text) items
items_parts text items s =
    let a = and_parts _ _ s.real in
    let b = and_parts _ _ a.0 in
    let c = and_parts _ _ b.0 in
    by_items items b.1 (leb-true 1 (length items) c.0) s.text_is
  where
    by_items : (items : List OdeItem) → list_all is_item items ≡ true → 1 ≤ length items → text ≡ join_by item_text (codes ",") items →
        Each SpellsItem (parts_of 44 text) items
    by_items [] h some e = absurd (omega (arith, some))
    by_items (i ∷ items) h some e =
        let all = items_lack 44 refl refl (i ∷ items) h in
        let parts : parts_of 44 text ≡ item_text i ∷ map item_text items =
        ap (parts_of 44) (e ∙ ap (λ l. item_text i ++ l) (joined items)) ∙ split_back 44 (item_text i) (map item_text items) refl all.0 all.1 in
        subst (λ l. Each SpellsItem l (i ∷ items)) (sym parts) (spelled_each (i ∷ items) h)

pub empty : (l : List ℕ) → length l ≡ 0 → l ≡ []
empty [] e = refl
empty (c ∷ l) e = absurd (omega (arith, e))

-- ---- what a text needs

pub unit_name_needed : (text front behind : List ℕ) → CutAt text 124 front behind → ¬ IsTrue (is_name front) → (u : List ℕ × Option (List ℕ)) →
    ¬ SpellsUnit text u
unit_name_needed text front behind cut none u s = none (unit_parts text front behind u cut s).name

pub unit_taboo_needed : (text front behind taboo end : List ℕ) → CutAt text 124 front behind → CutAt behind 124 taboo end → ¬ IsTrue (is_name taboo) →
    (u : List ℕ × Option (List ℕ)) → ¬ SpellsUnit text u
unit_taboo_needed text front behind taboo end cut next none u s =
    let w = unit_parts text front behind u cut s in
    none (subst (λ x. is_name x ≡ true) (sym (taboo_cut behind taboo end w.taboo [] next w.behind_is w.real).0) w.real)

pub constant_name_needed : (text front behind : List ℕ) → CutAt text 123 front behind → ¬ IsTrue (is_name front) → (u : List ℕ × Option (List ℕ)) →
    ¬ SpellsConstant text u
constant_name_needed text front behind cut none u s = none (constant_parts text front behind u cut s).name

pub constant_taboo_needed : (text front behind bar inner taboo end : List ℕ) → CutAt text 123 front behind → CutAt behind 124 bar inner →
    CutAt inner 124 taboo end → ¬ IsTrue (is_name taboo) →
    (u : List ℕ × Option (List ℕ)) → ¬ SpellsConstant text u
constant_taboo_needed text front behind bar inner taboo end cut next last none u s =
    let w = constant_parts text front behind u cut s in
    let rest = bar_cut behind bar inner (w.taboo ++ 124 ∷ 125 ∷ []) next w.behind_is in
    none (subst (λ x. is_name x ≡ true) (sym (taboo_cut inner taboo end w.taboo (125 ∷ []) last rest.1 w.real).0) w.real)

pub evolved_name_needed : (text front behind : List ℕ) → CutAt text 39 front behind → ¬ IsTrue (is_name front) → (i : OdeItem) → ¬ SpellsItem text i
evolved_name_needed text front behind cut none i s = none (evolved_parts text front behind i cut s).real

pub each_needed : (text : List ℕ) → ((items : List OdeItem) → ¬ Each SpellsItem (parts_of 44 text) items) → (items : List OdeItem) → ¬ SpellsItems text items
each_needed text none items s = none items (items_parts text items s)

-- ---- what is left behind a cut

pub some_left : (l : List ℕ) → false ≡ (length l == 0) → l ≡ [] → ⊥
some_left l e is = let clash : false ≡ true = e ∙ ap (λ (x : List ℕ). length x == 0) is in cc clash

pub none_left : (l : List ℕ) → true ≡ (length l == 0) → l ≡ []
none_left [] e = refl
none_left (c ∷ l) e = let some : 0 < length (c ∷ l) = omega arith in absurd (omega (arith, some, eqb-true (length (c ∷ l)) 0 (sym e)))

-- ---- dots

pub dot_found : (digit : ℕ) → is_between 48 55 digit ≡ true → SpellsDot (digit ∷ []) (digit - 48)
dot_found digit h =
    let w = and_parts (nat_le 48 digit) (nat_le digit 55) h in
    let low : 48 ≤ digit = leb-true 48 digit w.0 in
    let high : digit ≤ 55 = leb-true digit 55 w.1 in
    let less : digit - 48 < 8 = omega (arith, low, high) in
    let again : digit ≡ 48 + (digit - 48) = omega (arith, low) in
    record { real = lt-ltb (digit - 48) 8 less; text_is = ap (λ d. d ∷ []) again ∙ sym (one_digit (digit - 48) less) }

pub dot_parts : (digit : ℕ) (rest : List ℕ) (n : ℕ) → SpellsDot (digit ∷ rest) n → (is_between 48 55 digit ≡ true) × (rest ≡ [])
dot_parts digit rest n s =
    let less : n < 8 = ltb-true n 8 s.real in
    let whole : digit ∷ rest ≡ (48 + n) ∷ [] = s.text_is ∙ one_digit n less in
    let first : digit ≡ 48 + n = cc in
    let none : rest ≡ [] = cc in
    let low : 48 ≤ digit = omega (arith, first) in
    let high : digit ≤ 55 = omega (arith, first, less) in
    (and_from (nat_le 48 digit) (nat_le digit 55) (le-leb 48 digit low) (le-leb digit 55 high), none)

pub no_dot : (n : ℕ) → ¬ SpellsDot [] n
no_dot n s =
    let less : n < 8 = ltb-true n 8 s.real in
    let clash : [] ≡ (48 + n) ∷ [] = s.text_is ∙ one_digit n less in
    cc clash

-- ---- numbers

module _ (text : List ℕ) where
  pub whole_candidate : Uncut 46 text → (r : Option Num) → MatchOption r (¬ AreFewDigits text []) (λ n. n ≡ literal_number text []) →
      MatchOption r ((n : Num) → ¬ SpellsNumber text n) (λ found. (n : Num) → SpellsNumber text n → n ≡ found)
  whole_candidate uncut r is = by_result r is
    where
      its : (n : Num) → text ≡ literal n → Literal n → AreFewDigits text [] × (n ≡ literal_number text [])
      its n e (whole s l d le is) =
          let same : text ≡ s = e ∙ l in (
            record {
              integer_digits = subst (λ x. list_all is_digit x ≡ true) (sym same) (digits_all s d);
              fraction_digits = refl;
              few =
                  omega (arith, ap length same, le);
            },
            sym is ∙ ap (λ x. literal_number x []) (sym same),
          )
      its n e (parts s f l d g le is) = absurd (uncut s f (e ∙ l))

      by_result : (r : Option Num) → MatchOption r (¬ AreFewDigits text []) (λ n. n ≡ literal_number text []) →
          MatchOption r ((n : Num) → ¬ SpellsNumber text n) (λ found. (n : Num) → SpellsNumber text n → n ≡ found)
      by_result None fails = λ n s. fails (its n s.text_is (literal_is n s.real)).0
      by_result (Some m) e = λ n s. (its n s.text_is (literal_is n s.real)).1 ∙ sym e

  pub pointed_candidate : (front behind : List ℕ) → CutAt text 46 front behind → (r : Option Num) →
      MatchOption r (¬ AreFewDigits front behind) (λ n. n ≡ literal_number front behind) →
      MatchOption r ((n : Num) → ¬ SpellsNumber text n) (λ found. (n : Num) → SpellsNumber text n → n ≡ found)
  pointed_candidate front behind cut r is = by_result r is
    where
      its : (n : Num) → text ≡ literal n → Literal n → AreFewDigits front behind × (n ≡ literal_number front behind)
      its n e (whole s l d le is) = absurd (not_lacking 46 text front behind refl cut (ap (lacks 46) (e ∙ l) ∙ lacks_if is_digit 46 refl s (digits_all s d)))
      its n e (parts s f l d g le is) =
          let same = one_cut text 46 front s behind f cut (record { text_is = e ∙ l; first = lacks_if is_digit 46 refl s (digits_all s d) }) in (
            record {
              integer_digits = subst (λ x. list_all is_digit x ≡ true) (sym same.0) (digits_all s d);
              fraction_digits = subst (λ x. list_all is_digit x ≡ true) (sym same.1) (digits_all f g);
              few = omega (arith, ap length same.0, ap length same.1, le);
            },
            sym is ∙ (λ i. literal_number (sym same.0 i) (sym same.1 i)),
          )

      by_result : (r : Option Num) → MatchOption r (¬ AreFewDigits front behind) (λ n. n ≡ literal_number front behind) →
          MatchOption r ((n : Num) → ¬ SpellsNumber text n) (λ found. (n : Num) → SpellsNumber text n → n ≡ found)
      by_result None fails = λ n s. fails (its n s.text_is (literal_is n s.real)).0
      by_result (Some m) e = λ n s. (its n s.text_is (literal_is n s.real)).1 ∙ sym e

-- ---- systems

one_item : (text : List ℕ) (i j : OdeItem) → SpellsItem text i → SpellsItem text j → i ≡ j
one_item text i j a b = sym (item_back i a.real) ∙ ap item_of (sym a.text_is ∙ b.text_is) ∙ item_back j b.real

pub system_found : (text : List ℕ) (items : List OdeItem) → Each SpellsItem (parts_of 44 text) items →
    (nat_le (length items) 64 && all_distinct (evolved items)) ≡ true → SpellsItems text items
system_found text items each h =
    let w = items_text text items each in
    let v = and_parts (nat_le (length items) 64) (all_distinct (evolved items)) h in
    record {
      real = and_from (nat_le 1 (length items) && nat_le (length items) 64 && list_all is_item items) (all_distinct (evolved items))
          (and_from (nat_le 1 (length items) && nat_le (length items) 64) (list_all is_item items) (and_from (nat_le 1 (length items)) (nat_le
          (length items) 64) (le-leb 1 (length items) w.2) v.0) w.1) v.1;
      text_is = w.0;
    }

pub no_system : (text : List ℕ) (items : List OdeItem) → Each SpellsItem (parts_of 44 text) items →
    (nat_le (length items) 64 && all_distinct (evolved items)) ≡ false →
    (others : List OdeItem) → ¬ SpellsItems text others
no_system text items each h others s =
    let same : others ≡ items = each_one SpellsItem one_item (parts_of 44 text) others items (items_parts text others s) each in
    let a = and_parts _ _ s.real in
    let b = and_parts _ _ a.0 in
    let c = and_parts _ _ b.0 in
    let both : (nat_le (length others) 64 && all_distinct (evolved others)) ≡ true = and_from (nat_le (length others) 64) (all_distinct
    (evolved others)) c.1 a.1 in
    let clash : true ≡ false = sym both ∙ ap (λ (l : List OdeItem). nat_le (length l) 64 && all_distinct (evolved l)) same ∙ h in
    cc clash
