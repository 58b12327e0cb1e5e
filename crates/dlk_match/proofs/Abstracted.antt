-- The kids of a node with `._0` for a variable: the first ones are new, and those in which the operator captures it stay.
use Rattle.std.proofs.Common.{◌≡◌, refl, sym, ap, subst, ◌∙◌, arith, ℕ, suc, zero, ◌+◌, ◌-◌}
use Rattle.std.proofs.Common.{◌<◌, ◌≤◌, List, [], ◌∷◌, ◌++◌, length, get_or, take, drop, Bool, true, false}
use Rattle.std.specs.Prelude.{All, if◌then◌else◌}
use Rattle.dlk_tree.specs.declared.op.Var.{Var}
use Rattle.dlk_tree.specs.declared.op.Op.{Op}
use Rattle.dlk_tree.specs.declared.op.Op.TheVariants as Op'
use Rattle.dlk_tree.specs.declared.op.Sort.{Sort}
use Rattle.dlk_tree.specs.Table.{Fits}
use Rattle.dlk_tree.specs.Trees.{Tree, node, Forest, no_kids, kid, sort, sorts, WellMade}
use Rattle.dlk_store.specs.declared.Id.{Id}
use Rattle.dlk_store.specs.Stores.{IsId, tree, kid_trees, sorts_at, Keeps}
use Rattle.dlk_store.specs.Kids.{sorts-kid_trees, kid_trees-kept}
use Rattle.dlk_store.proofs.Kids.{node_fits}
use Rattle.dlk_store.proofs.Made.{Made, Gives}
use Rattle.dlk_calculus.specs.Kids.{later}
use Rattle.std.proofs.lemmas.List.{take_rest}
use Rattle.std.proofs.lemmas.List.Elements.{All-tail, All-weaker, All-append, All-drop}
use Rattle.dlk_calculus.specs.Captures.{captures}
use Rattle.dlk_match.specs.Abstract.{is_variable, binds_behind, first_alone, abstracted, abstracted_all}
use Rattle.dlk_match.specs.Entered.{count, entered}

pub count_trees : (trees : List Tree) (ks : List Id) → count (kid_trees trees ks) ≡ length ks
count_trees trees [] = refl
count_trees trees (k ∷ ks) = omega (arith, count_trees trees ks)

-- the first n of the kids are new, and then the old ones
abbrev pub mixed : Var → ℕ → Forest → Forest
mixed v zero kids = kids
mixed v (suc n) no_kids = no_kids
mixed v (suc n) (kid t rest) = kid (abstracted v t) (mixed v n rest)

mixed_whole : (v : Var) (kids : Forest) (n : ℕ) → n ≡ count kids → mixed v n kids ≡ abstracted_all v kids
mixed_whole v no_kids zero e = refl
mixed_whole v no_kids (suc n) e = refl
mixed_whole v (kid t rest) zero e = absurd (omega arith)
mixed_whole v (kid t rest) (suc n) e = ap (kid (abstracted v t)) (mixed_whole v rest n (omega arith))

-- where an operator captures in all kids, and in all but the first
in_all : (v : Var) (kids : Forest) (is : Bool) →
    (if is then kids else abstracted_all v kids) ≡ mixed v (if is then count kids - count kids else count kids) kids
in_all v kids true = let none : count kids - count kids ≡ 0 = omega arith in ap (λ n. mixed v n kids) (sym none)
in_all v kids false = sym (mixed_whole v kids (count kids) refl)

behind_first : (v : Var) (kids : Forest) (is : Bool) → (if is then first_alone kids (abstracted_all v kids) else abstracted_all v kids)
    ≡ mixed v (if is then count kids - count (later kids) else count kids) kids
behind_first v no_kids true = refl
behind_first v (kid t rest) true = let one : count (kid t rest) - count rest ≡ 1 = omega arith in ap (λ n. mixed v n (kid t rest)) (sym one)
behind_first v kids false = sym (mixed_whole v kids (count kids) refl)

kept : (v : Var) (op : Op) (kids : Forest)
    → (if (captures op).set kids v then (if binds_behind op then first_alone kids (abstracted_all v kids) else kids) else abstracted_all v kids)
    ≡ mixed v (entered v op kids) kids
kept v Op'.Box kids = behind_first v kids ((captures Op'.Box).set kids v)
kept v Op'.Dia kids = behind_first v kids ((captures Op'.Dia).set kids v)
kept v Op'.Seq kids = behind_first v kids ((captures Op'.Seq).set kids v)
kept v op kids = in_all v kids ((captures op).set kids v)

not_dot : (is : Bool) (x y : Tree) → is ≡ false → (if is then x else y) ≡ y
not_dot false x y e = refl
not_dot true x y e = cc

-- a node that isn't the variable
pub abstracted_node : (v : Var) (op : Op) (kids : Forest) → is_variable v op ≡ false → abstracted v (node op kids) ≡ node op (mixed v (entered v op kids) kids)
abstracted_node v op kids e = not_dot (is_variable v op) _ _ e ∙ ap (node op) (kept v op kids)

dot_if : (is : Bool) (x y : Tree) → is ≡ true → (if is then x else y) ≡ x
dot_if true x y e = refl
dot_if false x y e = cc

-- ---- sorts

sort_if : (is : Bool) (x y : Tree) (s : Sort) → sort x ≡ s → sort y ≡ s → sort (if is then x else y) ≡ s
sort_if true x y s p q = p
sort_if false x y s p q = q

pub sort_abstracted : (v : Var) (t : Tree) → sort (abstracted v t) ≡ sort t
sort_abstracted v (node (Op'.Variable w) kids) = sort_if (is_variable v (Op'.Variable w)) _ _ _ refl refl
sort_abstracted v (node op kids) = refl

sorts_mixed : (v : Var) (n : ℕ) (kids : Forest) → sorts (mixed v n kids) ≡ sorts kids
sorts_mixed v zero kids = refl
sorts_mixed v (suc n) no_kids = refl
sorts_mixed v (suc n) (kid t rest) = let a = sort_abstracted v t in let b = sorts_mixed v n rest in λ i. a i ∷ b i

-- ---- ids

-- the kids of before, of which the first n were made anew as js
module _ (v : Var) {before now : List Tree} (keeps : Keeps before now) where
  pub mixed_made : (ks js : List Id) (n : ℕ) → length js ≡ n → n ≤ length ks → All (IsId before) ks
      → ((i : ℕ) (d : Id) → i < n → tree now (get_or js i d) ≡ abstracted v (tree before (get_or ks i d)))
      → kid_trees now (js ++ drop n ks) ≡ mixed v n (kid_trees before ks)
  mixed_made ks [] zero e le all each = kid_trees-kept keeps ks all
  mixed_made ks (j ∷ js) zero e le all each = absurd (omega arith)
  mixed_made ks [] (suc n) e le all each = absurd (omega arith)
  mixed_made [] (j ∷ js) (suc n) e le all each = absurd (omega arith)
  mixed_made (k ∷ ks) (j ∷ js) (suc n) e le all each =
      let head = each 0 k (omega arith) in
      let tail = mixed_made ks js n (omega arith) (omega arith) (All-tail (IsId before) k ks all) (λ i d h. each (suc i) d (omega arith)) in
      λ i. kid (head i) (tail i)

  pub mixed_known : (ks js : List Id) (n : ℕ) → All (IsId before) ks → All (IsId now) js → All (IsId now) (js ++ drop n ks)
  mixed_known ks js n all known = All-append (IsId now) js (drop n ks) known
      (All-drop (IsId now) n ks (All-weaker (IsId before) (IsId now) (λ id h. omega (arith, keeps.known, h)) ks all))

-- ---- how many are outside

pub one_outside : (trees : List Tree) (ks : List Id) → 1 ≤ length ks → 1 ≡ count (kid_trees trees ks) - count (later (kid_trees trees ks))
one_outside trees [] h = absurd (omega arith)
one_outside trees (k ∷ ks) h = omega arith

pub nothing_captured : (v : Var) (op : Op) (kids : Forest) (is : Bool) → is ≡ false → is ≡ (captures op).set kids v → (n : ℕ) → n ≡ count kids
    → n ≡ entered v op kids
nothing_captured v op kids is free same n e = e ∙ sym (not_of (sym same ∙ free))
  where
    not_of : (captures op).set kids v ≡ false → entered v op kids ≡ count kids
    not_of h = rw h refl

-- ---- a node that is made

module _ (v : Var) {before now : List Tree} {id : Id} {op : Op} {ks js : List Id} {n : ℕ} (m : Made (Gives (abstracted v)) before now id op ks js n)
    (kids : List Id) (is : kids ≡ js ++ drop n ks) (le : n ≤ length ks) where
  pub made_known : All (IsId now) kids
  made_known = subst (All (IsId now)) (sym is) (mixed_known v m.kept ks js n m.kids_known m.known)

  made_is : kid_trees now kids ≡ mixed v n (kid_trees before ks)
  made_is = ap (kid_trees now) is ∙ mixed_made v m.kept ks js n m.long le m.kids_known m.each

  pub made_fits : All WellMade before → IsId before id → Fits op (sorts_at now kids)
  made_fits well known =
      let same = sym (sorts-kid_trees now kids) ∙ ap sorts made_is ∙ sorts_mixed v n (kid_trees before ks) ∙ sorts-kid_trees before ks in
      subst (Fits op) (sym same) (node_fits before id op ks well known m.node_is)

  pub made_abstracted : is_variable v op ≡ false → n ≡ entered v op (kid_trees before ks) → abstracted v (tree before id) ≡ node op (kid_trees now kids)
  made_abstracted other whole =
      ap (abstracted v) m.node_is ∙ abstracted_node v op (kid_trees before ks) other
      ∙ ap (node op) (ap (λ k. mixed v k (kid_trees before ks)) (sym whole) ∙ sym made_is)

pub rest_is : (js ks slice : List Id) (n m : ℕ) → slice ≡ ks → n ≡ m → js ++ take (length slice - n) (drop n slice) ≡ js ++ drop m ks
rest_is js ks slice n m e same = ap (λ rest. js ++ rest) (take_rest slice n ∙ λ i. drop (same i) (e i))
