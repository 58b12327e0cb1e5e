-- Whether a key matches a tree is decided.
use Rattle.std.proofs.Common.{◌≡◌, refl, sym, ap, subst, ◌∙◌, ℕ, List, [], ◌∷◌, ◌++◌, Option, Some, None, ◌⊎◌, inl, inr}
use Rattle.std.specs.Prelude.{IsTrue}
use Rattle.std.specs.Str.{bytes_eq}
use Rattle.std.proofs.lemmas.Option.{none-some, same_Some}
use Rattle.std.proofs.lemmas.Slice.Eq.{bytes_eq-Decides}
use Rattle.dlk_tree.specs.declared.op.Var.{Var}
use Rattle.dlk_tree.specs.declared.op.Sym.{Sym}
use Rattle.dlk_tree.specs.declared.op.Sort.{Sort}
use Rattle.dlk_tree.specs.declared.op.OdeItem.{OdeItem}
use Rattle.dlk_tree.specs.declared.op.OdeItem.TheVariants as Item
use Rattle.dlk_tree.specs.declared.op.Op.{Op}
use Rattle.dlk_tree.specs.declared.op.Op.TheVariants as Op'
use Rattle.dlk_tree.specs.Table.{kind_row, all_distinct}
use Rattle.dlk_tree.specs.Trees.{Tree, node, Forest, no_kids, kid, forest, sort}
use Rattle.dlk_tree.proofs.Same.{sort_decides}
use Rattle.dlk_tree.proofs.TreeSame.{decided}
use Rattle.dlk_calculus.specs.Kids.{last}
use Rattle.dlk_calculus.specs.Pairs.{Extra, replacement}
use Rattle.dlk_calculus.specs.Subst.{Member, Equation, members}
use Rattle.dlk_calculus.proofs.Decide.{is_true, both, same_op, same_tree}
use Rattle.dlk_calculus.proofs.Decided.{all_decided}
use Rattle.dlk_match.specs.Abstract.{abstracted}
use Rattle.dlk_match.specs.Matching.{renamed_to, NameIs, GetsName, ReplacementIs, GetsReplacement, Over, IsAppliedTo, Application, of_nothing}
use Rattle.dlk_match.specs.Matching.{of_variable, system_of, TakeMembers, constant, equation, equation_first, equation_last, two_constants}
use Rattle.dlk_match.specs.Matching.{SystemMatches, MatchesAt, Matches, MatchesAll, is_own, old_names, new_names, AreGiven, AreApart, Match}
use Rattle.dlk_match.specs.Tried.{name_in}
use Rattle.dlk_match.proofs.OneMatch.{one_name, one_replacement, one_variable, one_taken, one_node, one_matches, last_of, front_of, last_is, front_is}

-- ---- what follows from what is decided

-- by what is decided, where each follows from the other
by_same : {A B : Type 0} → Dec A → (A → B) → (B → A) → Dec B
by_same (yes a) f g = yes (f a)
by_same (no n) f g = no (λ b. n (g b))

same_name : (x y : List ℕ) → Dec (x ≡ y)
same_name x y = decided (bytes_eq x y) (bytes_eq-Decides x y)

same_sort : (a b : Sort) → Dec (a ≡ b)
same_sort a b = decided _ (sort_decides a b)

-- whether it leads to some names and pairs
abbrev Leads : (Extra → Type 0) → Type 0
Leads P = Dec ((new : Extra) × P new)

-- one step behind another that leads to one place at most
in_turn : (P : Extra → Type 0) (Q : Extra → Extra → Type 0) → ((a b : Extra) → P a → P b → a ≡ b) → Leads P → ((mid : Extra) → Leads (Q mid))
    → Leads (λ new. (mid : Extra) × P mid × Q mid new)
in_turn P Q one (no n) next = no (λ h. n (h.1.0, h.1.1))
in_turn P Q one (yes p) next = elim (next p.0) [
  | yes q ↦ yes (q.0, (p.0, p.1, q.1))
  | no n ↦ no (λ h. n (h.0, subst (λ (k : Extra). Q k h.0) (one h.1.0 p.0 h.1.1 p.1) h.1.2))
]

-- ---- names and replacements

name_leads : (o : Option (List ℕ)) (x y : List ℕ) (old : Extra) → Leads (NameIs o x y old)
name_leads (Some z) x y old = by_same (same_name z y) (λ e. (old, (e, refl))) (λ p. p.1.0)
name_leads None x y old = yes (_, refl)

gets_name : (x y : List ℕ) (old : Extra) → Leads (GetsName x y old)
gets_name x y old = name_leads (renamed_to old.renames x) x y old

replacement_leads : (o : Option Tree) (s : Sym) (e : Tree) (old : Extra) → Leads (ReplacementIs o s e old)
replacement_leads (Some r) s e old = by_same (same_tree r e) (λ same. (old, (same, refl))) (λ p. p.1.0)
replacement_leads None s e old = yes (_, refl)

gets_replacement : (s : Sym) (e : Tree) (old : Extra) → Leads (GetsReplacement s e old)
gets_replacement s e old = elim (same_sort (sort e) (kind_row s.kind).sort) [
  | yes is ↦ by_same (replacement_leads (replacement old.pairs s) s e old) (λ p. (p.0, (is, p.1))) (λ q. (q.0, q.1.1))
  | no n ↦ no (λ q. n q.1.0)
]

-- ---- applications

is_variable : (op : Op) → Dec ((v : Var) × (op ≡ Op'.Variable v))
is_variable (Op'.Variable v) = yes (v, refl)
is_variable _ = no (λ p. let e = p.1 in cc)

-- the kids are one variable
argument : (kids : Forest) → Dec ((v : Var) × (kids ≡ kid (node (Op'.Variable v) no_kids) no_kids))
argument no_kids = no (λ p. let e = p.1 in cc)
argument (kid (node op no_kids) no_kids) =
    by_same (is_variable op) (λ p. (p.0, ap (λ (o : Op). kid (node o no_kids) no_kids) p.1)) (λ q. (q.0, let e = q.1 in cc))
argument (kid (node op no_kids) (kid t rest)) = no (λ p. let e = p.1 in cc)
argument (kid (node op (kid u us)) rest) = no (λ p. let e = p.1 in cc)

module _ (s : Sym) (kids : Forest) (e : Tree) (old : Extra) (v : Var) (is : kids ≡ kid (node (Op'.Variable v) no_kids) no_kids) where
  its_name : {new : Extra} (q : IsAppliedTo s kids e old new) → renamed_to old.renames v.name ≡ Some q.y
  its_name q = ap (λ (w : Var). renamed_to old.renames w.name) (one_variable is q.kids_are) ∙ q.name_is

  its_body : (y : List ℕ) → renamed_to old.renames v.name ≡ Some y → {new : Extra} (q : IsAppliedTo s kids e old new)
      → abstracted (record { name = q.y; primed = q.v.primed }) e ≡ abstracted (record { name = y; primed = v.primed }) e
  its_body y found q =
      let v_is = one_variable q.kids_are is in
      let y_is = same_Some q.y y (sym (its_name q) ∙ found) in
      λ i. abstracted (record { name = y_is i; primed = (v_is i).primed }) e

  applied_named : (o : Option (List ℕ)) → renamed_to old.renames v.name ≡ o → Leads (IsAppliedTo s kids e old)
  applied_named None none = no (λ q. none-some q.1.y (sym none ∙ its_name q.1))
  applied_named (Some y) found =
      by_same (gets_replacement s (abstracted (record { name = y; primed = v.primed }) e) old)
      (λ p. (p.0, record { v = v; kids_are = is; y = y; name_is = found; replaced = p.1 }))
      (λ q. (q.0, subst (λ t. GetsReplacement s t old q.0) (its_body y found q.1) q.1.replaced))

applied : (s : Sym) (kids : Forest) (e : Tree) (old : Extra) → Leads (IsAppliedTo s kids e old)
applied s kids e old = elim (argument kids) [
  | yes a ↦ applied_named s kids e old a.0 a.1 (renamed_to old.renames a.0.name) refl
  | no n ↦ no (λ q. n (q.1.v, q.1.kids_are))
]

from_nothing : {s : Sym} {e : Tree} {old new : Extra} → Application s no_kids e old new → GetsReplacement s e old new
from_nothing (of_nothing is q) = q
from_nothing (of_variable q) = let e = q.kids_are in absurd (cc e)

from_variable : {s : Sym} {t : Tree} {rest : Forest} {e : Tree} {old new : Extra} → Application s (kid t rest) e old new → IsAppliedTo s (kid t rest) e old new
from_variable (of_nothing is q) = absurd (cc is)
from_variable (of_variable q) = q

application : (s : Sym) (kids : Forest) (e : Tree) (old : Extra) → Leads (Application s kids e old)
application s no_kids e old = by_same (gets_replacement s e old) (λ p. (p.0, of_nothing refl p.1)) (λ q. (q.0, from_nothing q.1))
application s (kid t rest) e old = by_same (applied s (kid t rest) e old) (λ p. (p.0, of_variable p.1)) (λ q. (q.0, from_variable q.1))

-- ---- systems

-- c takes the members before the last one, at least one, and x'=e the last
abbrev TakenLast : Sym → List ℕ → List Member → Member → Extra → Extra → Type 0
TakenLast s x (m ∷ ms) (Equation y e) old new = (mid : Extra) × GetsReplacement s (system_of (m ∷ ms)) old mid × GetsName x y mid new
TakenLast s x _ _ old new = ⊥

-- what taking all members comes to, by the shape of the items and that of the members
abbrev TakenBy : List OdeItem → List Member → Extra → Extra → Type 0
TakenBy (Item.Const s ∷ []) ms old new = GetsReplacement s (system_of ms) old new
TakenBy (Item.Evolve x ∷ []) (Equation y e ∷ []) old new = GetsName x y old new
TakenBy (Item.Evolve x ∷ Item.Const s ∷ []) (Equation y e ∷ m ∷ ms) old new =
    (mid : Extra) × GetsName x y old mid × GetsReplacement s (system_of (m ∷ ms)) mid new
TakenBy (Item.Const s ∷ Item.Evolve x ∷ []) ms old new = TakenLast s x (front_of ms) (last_of ms) old new
TakenBy (Item.Const s ∷ Item.Const t ∷ []) (m ∷ n ∷ ms) old new =
    (mid : Extra) × GetsReplacement s (system_of (m ∷ [])) old mid × GetsReplacement t (system_of (n ∷ ms)) mid new
TakenBy _ _ old new = ⊥

taken_by : {items : List OdeItem} {ms : List Member} {old new : Extra} {sides : List Tree} → TakeMembers items ms old new sides → TakenBy items ms old new
taken_by (constant p) = p
taken_by (equation p) = p
taken_by (equation_first mid p q) = (mid, p, q)
taken_by {old = old} {new = new} (equation_last {s = s} {x = x} {e = e} {all = all} y m ms mid is p q) =
    let front : front_of all ≡ m ∷ ms = ap front_of is ∙ front_is (m ∷ ms) (Equation y e) in
    let end : last_of all ≡ Equation y e = ap last_of is ∙ last_is (m ∷ ms) (Equation y e) in
    subst (λ f. TakenLast s x f (last_of all) old new) (sym front) (subst (λ l. TakenLast s x (m ∷ ms) l old new) (sym end) (mid, p, q))
taken_by (two_constants mid p q) = (mid, p, q)

-- more than one member: those before the last, and it
split : (m n : Member) (ms : List Member) → m ∷ n ∷ ms ≡ front_of (m ∷ n ∷ ms) ++ last_of (m ∷ n ∷ ms) ∷ []
split m n [] = refl
split m n (k ∷ ms) = ap (λ rest. m ∷ rest) (split n k ms)

module _ (s : Sym) (x : List ℕ) (old : Extra) where
  last_leads : (front : List Member) (l : Member) → Leads (TakenLast s x front l old)
  last_leads (m ∷ ms) (Equation y e) =
      in_turn (GetsReplacement s (system_of (m ∷ ms)) old) (GetsName x y) (one_replacement s (system_of (m ∷ ms)) old)
      (gets_replacement s (system_of (m ∷ ms)) old) (gets_name x y)
  last_leads _ _ = no (λ q. q.1)

  behind_front : (all front : List Member) (l : Member) (new : Extra) → all ≡ front ++ l ∷ [] → TakenLast s x front l old new
      → (sides : List Tree) × TakeMembers (Item.Const s ∷ Item.Evolve x ∷ []) all old new sides
  behind_front all (m ∷ ms) (Equation y e) new is p = (e ∷ [], equation_last y m ms p.0 is p.1 p.2)
  behind_front all _ _ new is p = absurd p

  takes_last : (all : List Member) (new : Extra) → TakenLast s x (front_of all) (last_of all) old new
      → (sides : List Tree) × TakeMembers (Item.Const s ∷ Item.Evolve x ∷ []) all old new sides
  takes_last [] new p = absurd p
  takes_last (m ∷ []) new p = absurd p
  takes_last (m ∷ n ∷ ms) new p = behind_front (m ∷ n ∷ ms) (front_of (m ∷ n ∷ ms)) (last_of (m ∷ n ∷ ms)) new (split m n ms) p

takes : (items : List OdeItem) (ms : List Member) (old new : Extra) → TakenBy items ms old new → (sides : List Tree) × TakeMembers items ms old new sides
takes (Item.Const s ∷ []) ms old new p = ([], constant p)
takes (Item.Evolve x ∷ []) (Equation y e ∷ []) old new p = (e ∷ [], equation p)
takes (Item.Evolve x ∷ Item.Const s ∷ []) (Equation y e ∷ m ∷ ms) old new p = (e ∷ [], equation_first p.0 p.1 p.2)
takes (Item.Const s ∷ Item.Evolve x ∷ []) ms old new p = takes_last s x old ms new p
takes (Item.Const s ∷ Item.Const t ∷ []) (m ∷ n ∷ ms) old new p = ([], two_constants p.0 p.1 p.2)
takes _ _ old new p = absurd p

members_lead : (items : List OdeItem) (ms : List Member) (old : Extra) → Leads (TakenBy items ms old)
members_lead (Item.Const s ∷ []) ms old = gets_replacement s (system_of ms) old
members_lead (Item.Evolve x ∷ []) (Equation y e ∷ []) old = gets_name x y old
members_lead (Item.Evolve x ∷ Item.Const s ∷ []) (Equation y e ∷ m ∷ ms) old =
    in_turn (GetsName x y old) (GetsReplacement s (system_of (m ∷ ms))) (one_name x y old) (gets_name x y old) (gets_replacement s (system_of (m ∷ ms)))
members_lead (Item.Const s ∷ Item.Evolve x ∷ []) ms old = last_leads s x old (front_of ms) (last_of ms)
members_lead (Item.Const s ∷ Item.Const t ∷ []) (m ∷ n ∷ ms) old =
    in_turn (GetsReplacement s (system_of (m ∷ [])) old) (GetsReplacement t (system_of (n ∷ ms))) (one_replacement s (system_of (m ∷ [])) old)
    (gets_replacement s (system_of (m ∷ [])) old) (gets_replacement t (system_of (n ∷ ms)))
members_lead _ _ old = no (λ q. q.1)

-- ---- nodes

-- the operator is one of these, with some name
has_name : (of : List ℕ → Op) → ((y : List ℕ) → name_in (of y) ≡ Some y) → (op : Op) → Dec ((y : List ℕ) × (op ≡ of y))
has_name of its op = at (name_in op) refl
  where
    at : (o : Option (List ℕ)) → name_in op ≡ o → Dec ((y : List ℕ) × (op ≡ of y))
    at None none = no (λ p. none-some p.0 (sym none ∙ ap name_in p.1 ∙ its p.0))
    at (Some y) is =
        by_same (same_op op (of y)) (λ same. (y, same)) (λ p. p.1 ∙ ap of (same_Some p.0 y (sym (its p.0) ∙ sym (ap name_in p.1) ∙ is)))

module _ (Kids : Forest → Extra → Extra → Type 0) (decide : (es : Forest) (old : Extra) → Leads (Kids es old)) where
  over : (op : Op) (e : Tree) (old : Extra) → Leads (Over op e Kids old)
  over op (node other ks) old = elim (same_op other op) [
    | yes same ↦ by_same (decide ks old) (λ p. (p.0, (ks, ap (λ (o : Op). node o ks) same, p.1)))
        (λ q. (q.0, subst (λ es. Kids es old q.0) (one_node q.1.1 refl).1 q.1.2))
    | no n ↦ no (λ q. n (sym (one_node q.1.1 refl).0))
  ]

  -- an operator with a name
  over_named : (of : List ℕ → Op) → ((y : List ℕ) → name_in (of y) ≡ Some y) → (x : List ℕ) (e : Tree) (old : Extra)
      → Leads (λ new. (y : List ℕ) × (mid : Extra) × GetsName x y old mid × Over (of y) e Kids mid new)
  over_named of its x (node other ks) old = elim (has_name of its other) [
    | yes h ↦ by_same (in_turn (GetsName x h.0 old) (Kids ks) (one_name x h.0 old) (gets_name x h.0 old) (decide ks))
        (λ p. (p.0, (h.0, p.1.0, p.1.1, (ks, ap (λ (o : Op). node o ks) h.1, p.1.2))))
        (λ q.
        let nodes = one_node q.1.3.1 refl in
        let name = same_Some q.1.0 h.0 (sym (its q.1.0) ∙ ap name_in (nodes.0 ∙ h.1) ∙ its h.0) in
        (q.0, (q.1.1, subst (λ y. GetsName x y old q.1.1) name q.1.2, subst (λ es. Kids es q.1.1 q.0) nodes.1 q.1.3.2)))
    | no n ↦ no (λ q. n (q.1.0, sym (one_node q.1.3.1 refl).0))
  ]

  module _ (items theirs : List OdeItem) (kids : Forest) (old new : Extra) (q : SystemMatches items (node (Op'.System theirs) kids) Kids old new) where
    items_are : q.target_items ≡ theirs
    items_are = let e = q.target_is in cc

    kids_are : q.target_kids ≡ kids
    kids_are = (one_node q.target_is refl).1

    its_taken : TakeMembers items (members theirs kids) old q.mid q.sides
    its_taken = subst (λ ms. TakeMembers items ms old q.mid q.sides) (λ i. members (items_are i) (kids_are i)) q.taken

    its_kids : (mid : Extra) (sides : List Tree) → TakeMembers items (members theirs kids) old mid sides → Kids (forest (sides ++ last kids ∷ [])) mid new
    its_kids mid sides taken =
        let same = one_taken its_taken taken in
        let left = subst (λ es. Kids es q.mid new) (λ i. forest (same.1 i ++ last (kids_are i) ∷ [])) q.kids in
        subst (λ (k : Extra). Kids (forest (sides ++ last kids ∷ [])) k new) same.0 left

  system : (items : List OdeItem) (e : Tree) (old : Extra) → Leads (SystemMatches items e Kids old)
  system items (node (Op'.System theirs) kids) old = elim (members_lead items (members theirs kids) old) [
    | yes p ↦
        let t = takes items (members theirs kids) old p.0 p.1 in
        by_same (decide (forest (t.0 ++ last kids ∷ [])) p.0)
        (λ r. (r.0, record { target_items = theirs; target_kids = kids; target_is = refl; mid = p.0; sides = t.0; taken = t.1; kids = r.1 }))
        (λ q. (q.0, its_kids items theirs kids old q.0 q.1 p.0 t.0 t.1))
    | no n ↦ no (λ q. n (q.1.mid, taken_by (its_taken items theirs kids old q.0 q.1)))
  ]
  system items (node _ kids) old = no (λ q. let e = q.1.target_is in cc)

  at : (op : Op) (keys : Forest) (e : Tree) (old : Extra) → Leads (MatchesAt op keys e Kids old)
  at (Op'.Variable v) keys e old = over_named (λ y. Op'.Variable (record { name = y; primed = v.primed })) (λ y. refl) v.name e old
  at (Op'.UnitFun s) keys e old = gets_replacement s e old
  at (Op'.Apply s) keys e old = application s keys e old
  at (Op'.UnitPred s) keys e old = gets_replacement s e old
  at (Op'.Holds s) keys e old = application s keys e old
  at (Op'.Predicational s) keys e old = no (λ q. q.1)
  at (Op'.Forall x) keys e old = over_named Op'.Forall (λ y. refl) x e old
  at (Op'.Exists x) keys e old = over_named Op'.Exists (λ y. refl) x e old
  at (Op'.Const s) keys e old = gets_replacement s e old
  at (Op'.Assign v) keys e old = over_named (λ y. Op'.Assign (record { name = y; primed = v.primed })) (λ y. refl) v.name e old
  at (Op'.Any x) keys e old = over_named Op'.Any (λ y. refl) x e old
  at (Op'.System items) keys e old = system items e old
  at _ keys e old = over _ e old

mutual
  matches_lead : (key e : Tree) (old : Extra) → Leads (Matches key e old)
  matches_lead (node op kids) e old = at (MatchesAll kids) (all_lead kids) op kids e old

  all_lead : (keys es : Forest) (old : Extra) → Leads (MatchesAll keys es old)
  all_lead no_kids no_kids old = yes (old, refl)
  all_lead no_kids (kid e es) old = no (λ q. q.1)
  all_lead (kid key keys) no_kids old = no (λ q. q.1)
  all_lead (kid key keys) (kid e es) old = in_turn (Matches key e old) (MatchesAll keys es) (one_matches key e old) (matches_lead key e old) (all_lead keys es)

-- ---- the names of an axiom

given_decided : (own : List (List ℕ)) (renames : List (List ℕ × List ℕ)) → Dec (AreGiven own renames)
given_decided own renames =
    both (λ o d. record { own_ones = o; once = d }) (λ g. g.own_ones) (λ g. g.once)
    (all_decided (λ (r : List ℕ × List ℕ). IsTrue (is_own own r.0)) (λ r. is_true (is_own own r.0)) renames) (is_true (all_distinct (old_names renames)))

kept_decided : (own : List (List ℕ)) (r : List ℕ × List ℕ) → Dec (IsTrue (is_own own r.1) → r.1 ≡ r.0)
kept_decided own r = elim (is_true (is_own own r.1)) [
  | yes h ↦ by_same (same_name r.1 r.0) (λ e _. e) (λ f. f h)
  | no n ↦ yes (λ h. absurd (n h))
]

apart_decided : (own : List (List ℕ)) (renames : List (List ℕ × List ℕ)) → Dec (AreApart own renames)
apart_decided own renames =
    both (λ d k. record { unlike = d; not_onto_own = k }) (λ a. a.unlike) (λ a. a.not_onto_own) (is_true (all_distinct (new_names renames)))
    (all_decided (λ (r : List ℕ × List ℕ). IsTrue (is_own own r.1) → r.1 ≡ r.0) (kept_decided own) renames)

match_leads : (own : List (List ℕ)) (key e : Tree) (given : Extra) → Leads (Match key own e given)
match_leads own key e given = elim (given_decided own given.renames) [
  | no n ↦ no (λ q. n q.1.given_well)
  | yes w ↦ elim (matches_lead key e given) [
    | no n ↦ no (λ q. n (q.1.found, q.1.matches))
    | yes m ↦ by_same (apart_decided own m.0.renames)
        (λ a. (_, record { found = m.0; matches = m.1; given_well = w; apart = a; extra_is = refl }))
        (λ q. subst (λ (f : Extra). AreApart own f.renames) (one_matches key e given q.1.found m.0 q.1.matches m.1) q.1.apart)
  ]
]

pub some_match : (own : List (List ℕ)) (key e : Tree) (given : Extra)
    → ((extra : Extra) × Match key own e given extra) ⊎ ((extra : Extra) → ¬ Match key own e given extra)
some_match own key e given = elim (match_leads own key e given) [
  | yes p ↦ inl p
  | no n ↦ inr (λ extra q. n (extra, q))
]
