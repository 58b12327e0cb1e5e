-- A system is that of its members; the right sides that are left of members are targets where the system is one.
use Rattle.std.proofs.Common.{◌≡◌, ◌∙◌, refl, ap, subst, ℕ, zero, suc, List, [], ◌∷◌, ◌++◌, length, replicate}
use Rattle.std.proofs.lemmas.Bool.{or_from}
use Rattle.dlk_tree.specs.declared.op.Sort.TheVariants.{Term, Formula}
use Rattle.dlk_tree.specs.declared.op.OdeItem.{OdeItem}
use Rattle.dlk_tree.specs.declared.op.OdeItem.TheVariants as Item
use Rattle.dlk_tree.specs.declared.op.Op.TheVariants as Op'
use Rattle.dlk_tree.specs.Table.{evolved, kid_sorts}
use Rattle.dlk_tree.specs.Trees.{Tree, node, Forest, no_kids, kid, forest, sorts}
use Rattle.dlk_calculus.specs.Kids.{later, last}
use Rattle.dlk_calculus.specs.Pairs.{Extra}
use Rattle.dlk_calculus.specs.Subst.{Member, Equation, Constant, members, items_of, kids_of}
use Rattle.dlk_match.specs.Matching.{TakeMembers, constant, equation, equation_first, equation_last, two_constants}
use Rattle.dlk_match.proofs.Targets.{IsTarget, AreTargets, target_first, target_rest}

pub members_back : (ms : List Member) (domain : Tree) → members (items_of ms) (kids_of ms domain) ≡ ms
members_back [] domain = refl
members_back (Equation x side ∷ ms) domain = ap (λ ns. Equation x side ∷ ns) (members_back ms domain)
members_back (Constant s ∷ ms) domain = ap (λ ns. Constant s ∷ ns) (members_back ms domain)

pub items_back : (items : List OdeItem) (kids : Forest) → items_of (members items kids) ≡ items
items_back [] kids = refl
items_back (Item.Evolve x ∷ items) kids = ap (λ is. Item.Evolve x ∷ is) (items_back items (later kids))
items_back (Item.Const s ∷ items) kids = ap (λ is. Item.Const s ∷ is) (items_back items kids)

-- behind a right side the last kid stays
last_later : (n : ℕ) (t : Tree) (ts : Forest) → sorts ts ≡ replicate n Term ++ Formula ∷ [] → last (kid t ts) ≡ last ts
last_later zero t no_kids e = cc
last_later (suc n) t no_kids e = cc
last_later n t (kid u us) e = refl

pub kids_back : (items : List OdeItem) (kids : Forest) → sorts kids ≡ kid_sorts (Op'.System items) → kids_of (members items kids) (last kids) ≡ kids
kids_back [] no_kids e = cc
kids_back [] (kid t no_kids) e = refl
kids_back [] (kid t (kid u us)) e = cc
kids_back (Item.Evolve x ∷ items) no_kids e = cc
kids_back (Item.Evolve x ∷ items) (kid t ts) e =
    let rest : sorts ts ≡ replicate (length (evolved items)) Term ++ Formula ∷ [] = cc in
    ap (kid t) (ap (kids_of (members items ts)) (last_later (length (evolved items)) t ts rest)) ∙ ap (kid t) (kids_back items ts rest)
kids_back (Item.Const s ∷ items) kids e = kids_back items kids e

pub last_side : (sides : List Tree) (domain : Tree) → last (forest (sides ++ domain ∷ [])) ≡ domain
last_side [] domain = refl
last_side (s ∷ []) domain = refl
last_side (s ∷ t ∷ sides) domain = last_side (t ∷ sides) domain

-- ---- targets

abbrev EachSide : List Member → Type 0
EachSide [] = Unit {0}
EachSide (Equation x side ∷ ms) = IsTarget side × EachSide ms
EachSide (Constant s ∷ ms) = EachSide ms

true_target : IsTarget (node Op'.True no_kids)
true_target = ((record { kids_fit = refl; parts_fit = refl }, tt), refl)

members_sides : (items : List OdeItem) (kids : Forest) → AreTargets kids → EachSide (members items kids)
members_sides [] kids h = tt
members_sides (Item.Evolve x ∷ items) no_kids h = (true_target, members_sides items no_kids h)
members_sides (Item.Evolve x ∷ items) (kid t ts) h = (target_first t ts h, members_sides items ts (target_rest t ts h))
members_sides (Item.Const s ∷ items) kids h = members_sides items kids h

last_target : (kids : Forest) → AreTargets kids → IsTarget (last kids)
last_target no_kids h = true_target
last_target (kid t no_kids) h = target_first t no_kids h
last_target (kid t (kid u us)) h = last_target (kid u us) (target_rest t (kid u us) h)

side_of_last : (ms : List Member) (y : List ℕ) (e : Tree) → EachSide (ms ++ Equation y e ∷ []) → IsTarget e
side_of_last [] y e h = h.0
side_of_last (Equation x side ∷ ms) y e h = side_of_last ms y e h.1
side_of_last (Constant s ∷ ms) y e h = side_of_last ms y e h

only_domain : (d : Tree) → IsTarget d → AreTargets (kid d no_kids)
only_domain d h = ((h.0, tt), or_from _ _ h.1 refl)

side_and_domain : (e d : Tree) → IsTarget e → IsTarget d → AreTargets (kid e (kid d no_kids))
side_and_domain e d h k = ((h.0, (k.0, tt)), or_from _ _ h.1 (or_from _ _ k.1 refl))

taken_targets : {items : List OdeItem} {ms : List Member} {old new : Extra} {sides : List Tree} → TakeMembers items ms old new sides → (d : Tree) →
    EachSide ms → IsTarget d → AreTargets (forest (sides ++ d ∷ []))
taken_targets (constant g) d each h = only_domain d h
taken_targets (equation {e = e} g) d each h = side_and_domain e d each.0 h
taken_targets (equation_first {e = e} mid g k) d each h = side_and_domain e d each.0 h
taken_targets (equation_last {e = e} y m ms mid all g k) d each h = side_and_domain e d (side_of_last (m ∷ ms) y e (subst EachSide all each)) h
taken_targets (two_constants mid g k) d each h = only_domain d h

-- what is left of a system that is a target
pub left_targets : {old new : Extra} {sides : List Tree} {items : List OdeItem} (its : List OdeItem) (kids : Forest) → AreTargets kids →
    TakeMembers items (members its kids) old new sides → AreTargets (forest (sides ++ last kids ∷ []))
left_targets its kids h taken = taken_targets taken (last kids) (members_sides its kids h) (last_target kids h)
