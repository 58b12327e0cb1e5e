-- A system of some members of a well-made one is well made.
use Rattle.std.proofs.Common.{◌≡◌, ◌∙◌, refl, sym, ap, ℕ, ◌≤◌, List, [], ◌∷◌, ◌++◌, length, Bool, true, false, not, ◌&&◌}
use Rattle.std.proofs.Common.{arith, suc, le-leb, leb-true}
use Rattle.std.specs.Prelude.{IsTrue}
use Rattle.std.specs.List.{list_all, list_any}
use Rattle.std.specs.Str.{bytes_eq}
use Rattle.std.proofs.lemmas.Bool.{or_parts, or_from, and_parts}
use Rattle.dlk_tree.specs.declared.op.Kind.TheVariants.{Ode}
use Rattle.dlk_tree.specs.declared.op.Sort.TheVariants.{Term}
use Rattle.dlk_tree.specs.declared.op.OdeItem.{OdeItem}
use Rattle.dlk_tree.specs.declared.op.OdeItem.TheVariants as Item
use Rattle.dlk_tree.specs.declared.op.Op.TheVariants as Op'
use Rattle.dlk_tree.specs.Names.{is_name}
use Rattle.dlk_tree.specs.Table.{evolved, all_distinct, is_item, is_sym_of, kid_sorts}
use Rattle.dlk_tree.specs.Trees.{node, Forest, no_kids, kid, sort, sorts, WellMade, AllWellMade}
use Rattle.dlk_calculus.specs.Subst.{Member, Equation, Constant, members, items_of, kids_of}
use Rattle.dlk_match.specs.Matching.{system_of}
use Rattle.dlk_match.proofs.Growing.{and_from}
use Rattle.dlk_match.proofs.SystemsBack.{items_back}

-- members of a system: names that are evolved once, right sides that are well-made terms, and constants
abbrev pub AreMembers : List Member → Type 0
AreMembers [] = Unit {0}
AreMembers (Equation x side ∷ ms) =
    IsTrue (is_name x) × (list_any (bytes_eq x) (evolved (items_of ms)) ≡ false) × (sort side ≡ Term) × WellMade side × AreMembers ms
AreMembers (Constant s ∷ ms) = IsTrue (is_sym_of Ode s) × AreMembers ms

not_any : (b c : Bool) → IsTrue (not b && c) → b ≡ false
not_any true c h = cc
not_any false c h = refl

members_made : (items : List OdeItem) (kids : Forest) → IsTrue (list_all is_item items) → IsTrue (all_distinct (evolved items)) →
    sorts kids ≡ kid_sorts (Op'.System items) → AllWellMade kids → AreMembers (members items kids)
members_made [] kids all once fit made = tt
members_made (Item.Evolve x ∷ items) no_kids all once fit made = cc
members_made (Item.Evolve x ∷ items) (kid t ts) all once fit made =
    let rest : sorts ts ≡ kid_sorts (Op'.System items) = cc in
    let is_term : sort t ≡ Term = cc in
    let parts = and_parts _ _ all in
    let unlike = ap (λ its. list_any (bytes_eq x) (evolved its)) (items_back items ts) ∙ not_any _ _ once in
    (parts.0, unlike, is_term, made.0, members_made items ts parts.1 (and_parts _ _ once).1 rest made.1)
members_made (Item.Const s ∷ items) kids all once fit made =
    let parts = and_parts _ _ all in
    (parts.0, members_made items kids parts.1 once fit made)

-- ---- some of them

none_of_some : (x : List ℕ) (ms ns : List Member) → list_any (bytes_eq x) (evolved (items_of (ms ++ ns))) ≡ false →
    list_any (bytes_eq x) (evolved (items_of ms)) ≡ false
none_of_some x [] ns h = refl
none_of_some x (Equation y side ∷ ms) ns h = let parts = or_parts _ _ h in or_from _ _ parts.0 (none_of_some x ms ns parts.1)
none_of_some x (Constant s ∷ ms) ns h = none_of_some x ms ns h

pub parts_made : (ms ns : List Member) → AreMembers (ms ++ ns) → AreMembers ms × AreMembers ns
parts_made [] ns h = (tt, h)
parts_made (Equation x side ∷ ms) ns h =
    let parts = parts_made ms ns h.4 in
    ((h.0, none_of_some x ms ns h.1, h.2, h.3, parts.0), parts.1)
parts_made (Constant s ∷ ms) ns h = let parts = parts_made ms ns h.1 in ((h.0, parts.0), parts.1)

-- ---- their system

true_and : (a b c d : Bool) → a ≡ true → b ≡ true → c ≡ true → d ≡ true → IsTrue (a && b && c && d)
true_and a b c d p q r s = and_from (a && b && c) d (and_from (a && b) c (and_from a b p q) r) s

as_many : (ms : List Member) → length (items_of ms) ≡ length ms
as_many [] = refl
as_many (Equation x side ∷ ms) = ap (λ n. suc n) (as_many ms)
as_many (Constant s ∷ ms) = ap (λ n. suc n) (as_many ms)

each_item : (ms : List Member) → AreMembers ms → IsTrue (list_all is_item (items_of ms))
each_item [] h = refl
each_item (Equation x side ∷ ms) h = and_from _ _ h.0 (each_item ms h.4)
each_item (Constant s ∷ ms) h = and_from _ _ h.0 (each_item ms h.1)

each_once : (ms : List Member) → AreMembers ms → IsTrue (all_distinct (evolved (items_of ms)))
each_once [] h = refl
each_once (Equation x side ∷ ms) h = and_from _ _ (ap not h.1) (each_once ms h.4)
each_once (Constant s ∷ ms) h = each_once ms h.1

sides_sorts : (ms : List Member) → AreMembers ms → sorts (kids_of ms (node Op'.True no_kids)) ≡ kid_sorts (Op'.System (items_of ms))
sides_sorts [] h = refl
sides_sorts (Equation x side ∷ ms) h = let a = h.2 in let b = sides_sorts ms h.4 in λ i. a i ∷ b i
sides_sorts (Constant s ∷ ms) h = sides_sorts ms h.1

sides_made : (ms : List Member) → AreMembers ms → AllWellMade (kids_of ms (node Op'.True no_kids))
sides_made [] h = ((record { kids_fit = refl; parts_fit = refl }, tt), tt)
sides_made (Equation x side ∷ ms) h = (h.3, sides_made ms h.4)
sides_made (Constant s ∷ ms) h = sides_made ms h.1

pub system_made : (ms : List Member) → AreMembers ms → 1 ≤ length ms → length ms ≤ 64 → WellMade (system_of ms)
system_made ms h some few =
    let count = as_many ms in
    let one_at_least : 1 ≤ length (items_of ms) = omega (arith, count, some) in
    let at_most : length (items_of ms) ≤ 64 = omega (arith, count, few) in (
      record {
        kids_fit = sides_sorts ms h;
        parts_fit = true_and _ _ _ _ (le-leb _ _ one_at_least) (le-leb _ _ at_most) (each_item ms h) (each_once ms h);
      },
      sides_made ms h,
    )

-- the members of a well-made system
pub record HasMembers (ms : List Member) : Type 0 where
  pub members_are : AreMembers ms
  pub some : 1 ≤ length ms
  pub few : length ms ≤ 64

pub system_members : (items : List OdeItem) (kids : Forest) → WellMade (node (Op'.System items) kids) → HasMembers (members items kids)
system_members items kids made =
    let parts = and_parts _ _ made.0.parts_fit in
    let all = and_parts _ _ parts.0 in
    let counts = and_parts _ _ all.0 in
    let same = sym (as_many (members items kids)) ∙ ap length (items_back items kids) in
    let some = leb-true 1 (length items) counts.0 in
    let few = leb-true (length items) 64 counts.1 in
    record {
      members_are = members_made items kids all.1 parts.1 made.0.kids_fit made.1;
      some = omega (arith, same, some);
      few = omega (arith, same, few);
    }
