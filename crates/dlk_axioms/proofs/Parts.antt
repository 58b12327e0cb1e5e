-- Operators and items whose parts are as they must be have names where names are asked for.
use Rattle.std.proofs.Common.{◌≡◌, ℕ, sym, subst, ◌∙◌, ◌&&◌, ◌||◌, true, List, map, length, Option}
use Rattle.std.specs.Prelude.{IsTrue, nat_le, is_none}
use Rattle.std.specs.List.{All, list_all}
use Rattle.std.specs.Option.{option_copied}
use Rattle.std.proofs.lemmas.Bool.{and_parts}
use Rattle.std.proofs.lemmas.List.Folds.{list_all-map}
use Rattle.std.proofs.lemmas.List.Sums.{AllPass-from_list_all}
use denote.Ref.{Bor}
use Rattle.dlk_tree.specs.declared.op.Sym.{Sym}
use Rattle.dlk_tree.specs.declared.op.Kind.TheVariants.{UnitFunc, UnitPred, Ode}
use Rattle.dlk_tree.specs.declared.op.OdeItem.{OdeItem}
use Rattle.dlk_tree.specs.Names.{is_name}
use Rattle.dlk_tree.specs.Table.{kind_row, has_arity, taboo_is_name, is_sym, is_item, evolved, all_distinct, are_items, has_parts}
use Rattle.dlk_axioms.specs.declared.shape.Item.{Item}
use Rattle.dlk_axioms.specs.declared.shape.Item.TheVariants.{Const as Constant}
use Rattle.dlk_axioms.specs.declared.shape.Label.{Label}
use Rattle.dlk_axioms.specs.declared.shape.Label.TheVariants as label
use Rattle.dlk_axioms.specs.Shapes.{symbol, item_of, operator_of}

taboo_named : (s : Sym) → IsTrue (is_sym s) → IsTrue (taboo_is_name s.taboo)
taboo_named s h =
    let all = and_parts (is_name s.name && has_arity s.kind s.arity && taboo_is_name s.taboo) (is_none s.taboo || (kind_row s.kind).taboo) h in
    (and_parts (is_name s.name && has_arity s.kind s.arity) (taboo_is_name s.taboo) all.0).1

items_named : (items : List OdeItem) → IsTrue (are_items items) → list_all is_item items ≡ true
items_named items h =
    let all = and_parts (nat_le 1 (length items) && nat_le (length items) 64 && list_all is_item items) (all_distinct (evolved items)) h in
    (and_parts (nat_le 1 (length items) && nat_le (length items) 64) (list_all is_item items) all.0).1

pub constant_taboo : (i : Item) (c : Bor (List ℕ)) (taboo : Option (Bor (List ℕ))) →
    i ≡ Constant c taboo → IsTrue (is_item (item_of i)) → IsTrue (taboo_is_name (option_copied taboo))
constant_taboo i c taboo is h = taboo_named (symbol Ode c.now 0 (option_copied taboo)) (subst (λ j. IsTrue (is_item (item_of j))) is h)

pub function_taboo : (l : Label) (f : Bor (List ℕ)) (taboo : Option (Bor (List ℕ))) →
    l ≡ label.UnitFun f taboo → IsTrue (has_parts (operator_of l)) → IsTrue (taboo_is_name (option_copied taboo))
function_taboo l f taboo is h = taboo_named (symbol UnitFunc f.now 0 (option_copied taboo)) (subst (λ k. IsTrue (has_parts (operator_of k))) is h)

pub predicate_taboo : (l : Label) (p : Bor (List ℕ)) (taboo : Option (Bor (List ℕ))) →
    l ≡ label.UnitPred p taboo → IsTrue (has_parts (operator_of l)) → IsTrue (taboo_is_name (option_copied taboo))
predicate_taboo l p taboo is h = taboo_named (symbol UnitPred p.now 0 (option_copied taboo)) (subst (λ k. IsTrue (has_parts (operator_of k))) is h)

pub system_items : (l : Label) (items : Bor (List Item)) →
    l ≡ label.System items → IsTrue (has_parts (operator_of l)) → All (λ (i : Item). IsTrue (is_item (item_of i))) items.now
system_items l items is h =
    let named = items_named (map item_of items.now) (subst (λ k. IsTrue (has_parts (operator_of k))) is h) in
    AllPass-from_list_all (λ (i : Item). is_item (item_of i)) items.now (sym (list_all-map is_item item_of items.now) ∙ named)
