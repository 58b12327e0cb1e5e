-- The row of a leaf, sequents among others, and leaves that join.
use Rattle.std.proofs.Common.{◌≡◌, ◌≢◌, ℕ, ◌+◌, ◌<◌, ◌≤◌, List, [], ◌∷◌, ◌++◌, map, take, drop, length, get_or}
use Rattle.std.proofs.Common.{inl, inr, add-one, refl, sym, ap, ◌∙◌, append_assoc, arith}
use Rattle.std.specs.Prelude.{◌↔◌, IsTrue, Result, IfOk}
use Rattle.std.proofs.Math.Seq.{drop-cons}
use Rattle.std.proofs.lemmas.List.{map-append, append-nil, take_more, drop_all}
use Rattle.std.proofs.lemmas.Result.{IfOk-weaker}
use Rattle.dlk_tree.specs.Trees.{Tree}
use Rattle.dlk_calculus.specs.Arithmetic.{is_arithmetic_sequent}
use Rattle.dlk_calculus.specs.Sequents.{IsSequent, Sequent as TreeSequent}
use Rattle.dlk_calculus.specs.Provables.{Provable, IsAmong, AreNew, no_more, there, added}
use Rattle.dlk_calculus.specs.Steps.{Leaf, Gives, leaf}
use Rattle.dlk_sequent.specs.declared.sequent.Sequent.{Sequent}
use Rattle.dlk_sequent.specs.Sequents.{sequent_at}
use Rattle.dlk_kernel.specs.declared.row.Row.{Row}
use Rattle.dlk_kernel.specs.Kernel.{provable_at}

-- a sequent of arithmetic
pub leaf_given : (trees : List Tree) (s : Sequent) (row : Row) → IsSequent (sequent_at trees s) →
    IsTrue (is_arithmetic_sequent (sequent_at trees s)) → row ≡ record { conclusion = s; goals = []; leaves = s ∷ [] } →
    (rows : List Provable) → Gives rows (Leaf (sequent_at trees s)) (provable_at trees row)
leaf_given trees s row formulas arithmetic is rows = rw is (leaf (sequent_at trees s) formulas arithmetic)

-- one more behind the others, which is there already, or new
there_last : (old more new : List TreeSequent) (s : TreeSequent) → IsAmong s old → AreNew old more new → AreNew old (more ++ s ∷ []) new
there_last old [] _ s a no_more = there a no_more
there_last old (t ∷ more) new s a (there b j) = there b (there_last old more new s a j)
there_last old (t ∷ more) _ s a (added {new} n j) = added n (there_last old more new s a j)

new_last : (old more new : List TreeSequent) (s : TreeSequent) → (¬ IsAmong s old) → AreNew old more new → AreNew old (more ++ s ∷ []) (new ++ s ∷ [])
new_last old [] _ s a no_more = added a no_more
new_last old (t ∷ more) new s a (there b j) = there b (new_last old more new s a j)
new_last old (t ∷ more) _ s a (added {new} n j) = added n (new_last old more new s a j)

-- the item of a list at which a loop stands, those before it and those behind it
module _ (trees : List Tree) (all : List Sequent) (n : ℕ) (s : Sequent) (lt : n < length all) (item : s ≡ get_or all n s) where
  rest_is : map (sequent_at trees) (drop n all) ≡ sequent_at trees s ∷ map (sequent_at trees) (drop (n + 1) all)
  rest_is = rw (add-one, drop-cons all n s lt, ← item)

  pub is_here : (t : TreeSequent) → t ≡ sequent_at trees s → IsAmong t (map (sequent_at trees) (drop n all))
  is_here t e = rw rest_is (inl e)

  pub is_behind : (t : TreeSequent) → t ≢ sequent_at trees s →
      IsAmong t (map (sequent_at trees) (drop n all)) ↔ IsAmong t (map (sequent_at trees) (drop (n + 1) all))
  is_behind t other = rw rest_is ((λ a. elim a [ inl e ↦ absurd (other e) | inr b ↦ b ]), (λ b. inr b))

  front_is : map (sequent_at trees) (take (n + 1) all) ≡ map (sequent_at trees) (take n all) ++ sequent_at trees s ∷ []
  front_is = rw (take_more all n s lt, ← item) (map-append (sequent_at trees) (take n all) (s ∷ []))

  -- it is there already, or it is new
  pub one_there : (old new : List TreeSequent) → IsAmong (sequent_at trees s) old → AreNew old (map (sequent_at trees) (take n all)) new →
      AreNew old (map (sequent_at trees) (take (n + 1) all)) new
  one_there old new a j = rw front_is (there_last old (map (sequent_at trees) (take n all)) new (sequent_at trees s) a j)

  pub one_new : (old new : List TreeSequent) → (¬ IsAmong (sequent_at trees s) old) → AreNew old (map (sequent_at trees) (take n all)) new →
      AreNew old (map (sequent_at trees) (take (n + 1) all)) (new ++ sequent_at trees s ∷ [])
  one_new old new a j = rw front_is (new_last old (map (sequent_at trees) (take n all)) new (sequent_at trees s) a j)

-- no item is left
pub none_left : (trees : List Tree) (all : List Sequent) (n : ℕ) (t : TreeSequent) → length all ≤ n → IsAmong t (map (sequent_at trees) (drop n all)) → ⊥
none_left trees all n t h a = rw (drop_all n all h) at a

-- one that is new comes last
pub all_pushed : (trees : List Tree) (old all : List Sequent) (new : List TreeSequent) (s : Sequent) →
    map (sequent_at trees) all ≡ map (sequent_at trees) old ++ new →
    map (sequent_at trees) (all ++ s ∷ []) ≡ map (sequent_at trees) old ++ (new ++ sequent_at trees s ∷ [])
all_pushed trees old all new s e =
    map-append (sequent_at trees) all (s ∷ []) ∙ ap (λ l. l ++ sequent_at trees s ∷ []) e
    ∙ append_assoc (map (sequent_at trees) old) new (sequent_at trees s ∷ [])

-- what a list of leaves that join others has
abbrev Joined : List Tree → List Sequent → List Sequent → List Sequent → Type 0
Joined trees old more all =
    (new : List TreeSequent) × AreNew (map (sequent_at trees) old) (map (sequent_at trees) more) new
    × (map (sequent_at trees) all ≡ map (sequent_at trees) old ++ new)

-- among none all are new
all_new : (more : List TreeSequent) → AreNew [] more more
all_new [] = no_more
all_new (s ∷ more) = added (λ a. a) (all_new more)

-- where nothing joins them the old ones are all, and where there are no old ones those that join
joined_by_none : (trees : List Tree) (old more all : List Sequent) → length more ≡ 0 → all ≡ old → Joined trees old more all
joined_by_none trees old [] all none is = rw is ([], no_more, sym (append-nil (map (sequent_at trees) old)))
joined_by_none trees old (s ∷ more) all none is = absurd (omega (arith, none))

none_joined : (trees : List Tree) (old more all : List Sequent) → length old ≡ 0 → all ≡ more → Joined trees old more all
none_joined trees [] more all none is = rw is (map (sequent_at trees) more, all_new (map (sequent_at trees) more), refl)
none_joined trees (s ∷ old) more all none is = absurd (omega (arith, none))

module _ (trees : List Tree) (old more : List Sequent) {E : Type 0} (shared : Result (List Sequent) E) where
  pub old_shared : length more ≡ 0 → IfOk shared (λ all. all ≡ old) → IfOk shared (Joined trees old more)
  old_shared none = IfOk-weaker shared (λ all. all ≡ old) (Joined trees old more) (λ all. joined_by_none trees old more all none)

  pub more_shared : length old ≡ 0 → IfOk shared (λ all. all ≡ more) → IfOk shared (Joined trees old more)
  more_shared none = IfOk-weaker shared (λ all. all ≡ more) (Joined trees old more) (λ all. none_joined trees old more all none)
