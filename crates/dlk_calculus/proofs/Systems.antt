-- The kids of a system whose constants gave way have the sorts that its new items want, and are well made.
use Rattle.std.proofs.Common.{◌≡◌, refl, ap, ℕ, zero, suc, List, [], ◌∷◌, ◌++◌, length, replicate, Option, None, Some}
use Rattle.std.specs.Prelude.{◌↔◌, IsTrue}
use Rattle.std.specs.List.{flat_map}
use Rattle.dlk_tree.specs.declared.op.Sym.{Sym}
use Rattle.dlk_tree.specs.declared.op.Sort.TheVariants.{Term, Formula}
use Rattle.dlk_tree.specs.declared.op.OdeItem.{OdeItem}
use Rattle.dlk_tree.specs.declared.op.OdeItem.TheVariants as Item
use Rattle.dlk_tree.specs.declared.op.Op.TheVariants as Op'
use Rattle.dlk_tree.specs.Table.{evolved, are_items, kid_sorts, Fits}
use Rattle.dlk_tree.specs.Trees.{Tree, node, Forest, no_kids, kid, sort, sorts, WellMade, AllWellMade}
use Rattle.dlk_calculus.specs.Kids.{last}
use Rattle.dlk_calculus.specs.Pairs.{Pair, replacement, AreWellMade}
use Rattle.dlk_calculus.specs.Subst.{Member, Equation, Constant, members, members_for, spliced, new_members, items_of, kids_of}
use Rattle.dlk_calculus.proofs.WellFormed.{replacement_made}
use Rattle.dlk_calculus.proofs.Sorts.{head, tail}

-- this holds of each right side, and that of each constant
abbrev pub Each : (Tree → Type 0) → (Sym → Type 0) → List Member → Type 0
Each P Q [] = Unit {0}
Each P Q (Equation x side ∷ rest) = P side × Each P Q rest
Each P Q (Constant s ∷ rest) = Q s × Each P Q rest

abbrev pub Any : Sym → Type 0
Any s = Unit {0}

each_append : (P : Tree → Type 0) (Q : Sym → Type 0) (ms ns : List Member) → Each P Q ms → Each P Q ns → Each P Q (ms ++ ns)
each_append P Q [] ns p q = q
each_append P Q (Equation x side ∷ ms) ns p q = (p.0, each_append P Q ms ns p.1 q)
each_append P Q (Constant s ∷ ms) ns p q = (p.0, each_append P Q ms ns p.1 q)

-- so it does after splicing, where it does of the members for each constant
pub each_spliced : (P : Tree → Type 0) (Q : Sym → Type 0) (pairs : List Pair) → ((s : Sym) → Q s → Each P Any (members_for s (replacement pairs s)))
    → (ms : List Member) → Each P Q ms → Each P Any (flat_map (spliced pairs) ms)
each_spliced P Q pairs for [] all = tt
each_spliced P Q pairs for (Equation x side ∷ ms) all = (all.0, each_spliced P Q pairs for ms all.1)
each_spliced P Q pairs for (Constant s ∷ ms) all =
    each_append P Any (members_for s (replacement pairs s)) (flat_map (spliced pairs) ms) (for s all.0) (each_spliced P Q pairs for ms all.1)

-- the members for a constant, of the systems that replace it
pub each_for : (P : Tree → Type 0) (s : Sym) (o : Option Tree)
    → ((items : List OdeItem) (kids : Forest) → o ≡ Some (node (Op'.System items) kids) → Each P Any (members items kids)) → Each P Any (members_for s o)
each_for P s (Some (node (Op'.System items) kids)) system = system items kids refl
each_for P s (Some (node _ kids)) system = (tt, tt)
each_for P s None system = (tt, tt)

-- ---- sorts

abbrev IsTerm : Tree → Type 0
IsTerm t = sort t ≡ Term

-- so many terms, and then a formula
last_sort : (n : ℕ) (kids : Forest) → sorts kids ≡ replicate n Term ++ Formula ∷ [] → sort (last kids) ≡ Formula
last_sort zero no_kids e = cc
last_sort (suc n) no_kids e = cc
last_sort zero (kid t no_kids) e = ap head e
last_sort (suc zero) (kid t no_kids) e = let f : [] ≡ Formula ∷ [] = ap tail e in cc
last_sort (suc (suc n)) (kid t no_kids) e = let f : [] ≡ Term ∷ (replicate n Term ++ Formula ∷ []) = ap tail e in cc
last_sort zero (kid t (kid u rest)) e = let f : sort u ∷ sorts rest ≡ [] = ap tail e in cc
last_sort (suc n) (kid t (kid u rest)) e = last_sort n (kid u rest) (ap tail e)

members_terms : (items : List OdeItem) (kids : Forest) → sorts kids ≡ kid_sorts (Op'.System items) → Each IsTerm Any (members items kids)
members_terms [] kids e = tt
members_terms (Item.Evolve x ∷ items) no_kids e = cc
members_terms (Item.Evolve x ∷ items) (kid t ts) e = (ap head e, members_terms items ts (ap tail e))
members_terms (Item.Const s ∷ items) kids e = (tt, members_terms items kids e)

kids_sorts : (ms : List Member) (domain : Tree) → Each IsTerm Any ms → sort domain ≡ Formula → sorts (kids_of ms domain) ≡ kid_sorts (Op'.System (items_of ms))
kids_sorts [] domain all formula = λ i. formula i ∷ []
kids_sorts (Equation x side ∷ ms) domain all formula = let rest = kids_sorts ms domain all.1 formula in λ i. all.0 i ∷ rest i
kids_sorts (Constant s ∷ ms) domain all formula = kids_sorts ms domain all.1 formula

-- ---- well-made trees

true_made : WellMade (node Op'.True no_kids)
true_made = (record { kids_fit = refl; parts_fit = refl }, tt)

last_made : (kids : Forest) → AllWellMade kids → WellMade (last kids)
last_made no_kids made = true_made
last_made (kid t no_kids) made = made.0
last_made (kid t (kid u rest)) made = last_made (kid u rest) made.1

members_made : (items : List OdeItem) (kids : Forest) → AllWellMade kids → Each WellMade Any (members items kids)
members_made [] kids made = tt
members_made (Item.Evolve x ∷ items) no_kids made = (true_made, members_made items no_kids made)
members_made (Item.Evolve x ∷ items) (kid t ts) made = (made.0, members_made items ts made.1)
members_made (Item.Const s ∷ items) kids made = (tt, members_made items kids made)

kids_made : (ms : List Member) (domain : Tree) → Each WellMade Any ms → WellMade domain → AllWellMade (kids_of ms domain)
kids_made [] domain all made = (made, tt)
kids_made (Equation x side ∷ ms) domain all made = (all.0, kids_made ms domain all.1 made)
kids_made (Constant s ∷ ms) domain all made = kids_made ms domain all.1 made

-- ---- the new system

module _ (pairs : List Pair) (made : AreWellMade pairs) where
  found_made : (s : Sym) (r : Tree) → replacement pairs s ≡ Some r → WellMade r
  found_made s r found = replacement_made pairs s r made found

  new_terms : (items : List OdeItem) (new : Forest) → sorts new ≡ kid_sorts (Op'.System items) → Each IsTerm Any (new_members pairs items new)
  new_terms items new e =
      each_spliced IsTerm Any pairs
      (λ s q. each_for IsTerm s (replacement pairs s) (λ others kids found. members_terms others kids (found_made s _ found).0.kids_fit))
      (members items new) (members_terms items new e)

  -- the new items may stand over the new kids exactly where they are items of a system
  pub system_fits : (items : List OdeItem) (new : Forest) → Fits (Op'.System items) (sorts new)
      → Fits (Op'.System (items_of (new_members pairs items new))) (sorts (kids_of (new_members pairs items new) (last new)))
      ↔ IsTrue (are_items (items_of (new_members pairs items new)))
  system_fits items new fits = (
    λ f. f.parts_fit,
    λ good. record {
      kids_fit = kids_sorts (new_members pairs items new) (last new) (new_terms items new fits.kids_fit) (last_sort (length (evolved items)) new fits.kids_fit);
      parts_fit = good;
    },
  )

  pub new_kids_made : (items : List OdeItem) (new : Forest) → AllWellMade new → AllWellMade (kids_of (new_members pairs items new) (last new))
  new_kids_made items new all =
      let each = each_spliced WellMade Any pairs
      (λ s q. each_for WellMade s (replacement pairs s) (λ others kids found. members_made others kids (found_made s _ found).1))
      (members items new) (members_made items new all) in
      kids_made (new_members pairs items new) (last new) each (last_made new all)
