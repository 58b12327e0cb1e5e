-- Instances of axioms: an axiom with names and replacements is taken.
use Rattle.std.proofs.Common.{◌≡◌, ℕ, ◌+◌, ◌≤◌, List, [], ◌∷◌, ◌++◌, length, refl, sym, ap, subst, ◌∙◌, arith, Some, true, false, Bool}
use Rattle.std.specs.Prelude.{IsTrue}
use Rattle.std.specs.List.{All}
use Rattle.std.specs.Str.{bytes_eq}
use Rattle.std.proofs.lemmas.Slice.Eq.{bytes_eq-Decides}
use Rattle.std.proofs.lemmas.List.Elements.{All-nil}
use Rattle.dlk_tree.specs.Names.{is_name}
use Rattle.dlk_tree.specs.Trees.{Tree}
use Rattle.dlk_calculus.specs.Axioms.{Axiom, axiom_named}
use Rattle.dlk_calculus.specs.Limits.{most_rows, IsSmall, IsShallow}
use Rattle.dlk_calculus.specs.Limited.{InSequent}
use Rattle.dlk_calculus.specs.Notation.{x_}
use Rattle.dlk_calculus.specs.Pairs.{Pair, Extra, IsWellFormed, AreWellMade}
use Rattle.dlk_calculus.specs.Places.{At}
use Rattle.dlk_calculus.specs.Provables.{Provable, known, renamed}
use Rattle.dlk_calculus.specs.Rename.{swap}
use Rattle.dlk_calculus.specs.Steps.{Step, UseAxiom, Rename, Substitute}
use Rattle.dlk_calculus.specs.Subst.{Subst}
use Rattle.dlk_uses.specs.Uses.{instance, renaming, substituting}
use Rattle.dlk_reach.proofs.Goes.{Goes, goes_nowhere, axiom_goes, rename_goes, substitute_goes}
use Rattle.dlk_reach.proofs.Equivalence.{alone, proof_of}
use Rattle.dlk_reach.proofs.Matches.{with_pairs, with_name}

-- the last of so many rows proves f, and those of before keep their numbers
pub record Proved (rows : List Provable) (k : ℕ) (f : Tree) (between : List Provable) : Type 0 where
  pub counted : k ≡ length between
  pub proof : At between k (proof_of f [])
  pub keeps : (m : ℕ) (p : Provable) → At rows m p → At between m p

-- behind n rows the lines of the instance are taken, at most so many, and it is f
pub record Instanced (rows : List Provable) (n most : ℕ) (name : List ℕ) (extra : Extra) (f : Tree) : Type 0 where
  pub k : ℕ
  pub few : k ≤ n + most
  pub goes : Goes rows (instance n name extra) (Proved rows k f)

-- replacements of an axiom
pub record Fits (pairs : List Pair) (formula made : Tree) : Type 0 where
  pub well : AreWellMade pairs
  pub formed : IsWellFormed pairs
  pub makes : Subst pairs formula made
  pub small : All (λ (p : Pair). IsSmall p.by) pairs
  pub shallow : All (λ (p : Pair). IsShallow p.by) pairs
  pub small_made : IsSmall made
  pub shallow_made : IsShallow made

-- the last row is substituted
substituted : (rows between : List Provable) (k : ℕ) (pairs : List Pair) (formula made : Tree) → k + 1 ≤ most_rows → Proved rows k formula between →
    Fits pairs formula made → Goes between (Substitute k pairs ∷ []) (Proved rows (k + 1) made)
substituted rows between k pairs formula made room is fits =
    substitute_goes between k k pairs (proof_of formula []) (proof_of made []) [] (Proved rows (k + 1) made) is.counted (omega (arith, room)) is.proof
    fits.well fits.formed
    (λ h. absurd h) (record { conclusion = (tt, (fits.makes, tt)); goals = tt; leaves = refl })
    (fits.small, record { conclusion = alone IsSmall made fits.small_made; goals = All-nil (InSequent IsSmall) })
    (fits.shallow, record { conclusion = alone IsShallow made fits.shallow_made; goals = All-nil (InSequent IsShallow) })
    (λ after added.
    goes_nowhere after (Proved rows (k + 1) made)
    (record { counted = added.counted; proof = added.last; keeps = λ m p h. added.keeps m p (is.keeps m p h) }))

-- an axiom and a substitution of it
pub instance_goes : (rows : List Provable) (n : ℕ) (name : List ℕ) (a : Axiom) (first : Pair) (others : List Pair) (made : Tree) → n ≡ length rows →
    n + 2 ≤ most_rows → axiom_named name ≡ Some a → Fits (first ∷ others) a.formula made → Instanced rows n 2 name (with_pairs (first ∷ others)) made
instance_goes rows n name a first others made counted room named fits =
    record {
      k = n + 1 + 1;
      few = omega arith;
      goes = axiom_goes rows n name a (Substitute (n + 1) (first ∷ others) ∷ []) (Proved rows (n + 1 + 1) made) counted (omega (arith, room)) named
          (λ rows1 is1.
          substituted rows rows1 (n + 1) (first ∷ others) a.formula made (omega (arith, room))
          (record { counted = is1.counted; proof = is1.last; keeps = is1.keeps }) fits);
    }

-- With another name for x_: a line renames it, unless it is this name.

abbrev names_of : Bool → ℕ → List ℕ → List Step
names_of true n x = []
names_of false n x = Rename n x_ x ∷ []

abbrev rows_of : Bool → ℕ → ℕ
rows_of true n = n + 1
rows_of false n = n + 2

renaming_is : (n : ℕ) (x : List ℕ) (b : Bool) → bytes_eq x_ x ≡ b → renaming n ((x_, x) ∷ []) ≡ names_of b n x
renaming_is n x true e = rw e refl
renaming_is n x false e = rw e refl

abbrev lines : ℕ → List ℕ → List Step → List Pair → List Step
lines n name names pairs = (UseAxiom name ∷ names) ++ substituting (n + length (UseAxiom name ∷ names)) pairs

instance_is : (n : ℕ) (name x : List ℕ) (pairs : List Pair) (b : Bool) → bytes_eq x_ x ≡ b →
    lines n name (names_of b (n + 1) x) pairs ≡ instance n name (with_name x pairs)
instance_is n name x pairs b e = ap (λ names. lines n name names pairs) (sym (renaming_is (n + 1) x b e))

-- the axiom by the name that its x_ gets
module _ (rows : List Provable) (n : ℕ) (name : List ℕ) (a : Axiom) (of_name : List ℕ → Tree) (x : List ℕ) (counted : n ≡ length rows)
    (room : n + 3 ≤ most_rows)
    (named : axiom_named name ≡ Some a) (its : a.formula ≡ of_name x_) (swapped : swap x_ x a.formula ≡ of_name x) (is : IsTrue (is_name x)) where
  named_goes : (steps : List Step) (P : List Provable → Type 0) (b : Bool) → bytes_eq x_ x ≡ b →
      ((after : List Provable) → Proved rows (rows_of b n) (of_name x) after → Goes after steps P) →
      Goes rows (UseAxiom name ∷ (names_of b (n + 1) x ++ steps)) P
  named_goes steps P true e others =
      let same : a.formula ≡ of_name x = its ∙ ap of_name ((bytes_eq-Decides x_ x).0 e) in
      axiom_goes rows n name a steps P counted (omega (arith, room)) named
      (λ rows1 is1.
      others rows1 (record { counted = is1.counted; proof = subst (λ f. At rows1 (n + 1) (proof_of f [])) same is1.last; keeps = is1.keeps }))
  named_goes steps P false e others =
      axiom_goes rows n name a (Rename (n + 1) x_ x ∷ steps) P counted (omega (arith, room)) named
      (λ rows1 is1.
      rename_goes rows1 (n + 1) (n + 1) x_ x (known a.formula) steps P is1.counted (omega (arith, room)) is1.last refl is
      (λ rows2 is2.
      let two : n + 1 + 1 ≡ n + 2 = omega arith in
      others rows2 (record {
        counted = sym two ∙ is2.counted;
        proof = subst (λ f. At rows2 (n + 2) (proof_of f [])) swapped (subst (λ k. At rows2 k (renamed x_ x (known a.formula))) two is2.last);
        keeps = λ m p h. is2.keeps m p (is1.keeps m p h);
      })))

  -- the axiom alone
  pub name_goes : Instanced rows n 3 name (with_name x []) (of_name x)
  name_goes = by_name (bytes_eq x_ x) refl
    where
      by_name : (b : Bool) → bytes_eq x_ x ≡ b → Instanced rows n 3 name (with_name x []) (of_name x)
      by_name true e = record {
        k = n + 1;
        few = omega arith;
        goes = subst (λ steps. Goes rows steps (Proved rows (n + 1) (of_name x))) (instance_is n name x [] true e)
            (named_goes [] (Proved rows (n + 1) (of_name x)) true e (λ after h. goes_nowhere after (Proved rows (n + 1) (of_name x)) h));
      }
      by_name false e = record {
        k = n + 2;
        few = omega arith;
        goes = subst (λ steps. Goes rows steps (Proved rows (n + 2) (of_name x))) (instance_is n name x [] false e)
            (named_goes [] (Proved rows (n + 2) (of_name x)) false e (λ after h. goes_nowhere after (Proved rows (n + 2) (of_name x)) h));
      }

  -- and a substitution of it
  pub name_and_pairs_go : (first : Pair) (others : List Pair) (made : Tree) → Fits (first ∷ others) (of_name x) made →
      Instanced rows n 3 name (with_name x (first ∷ others)) made
  name_and_pairs_go first others made fits = by_name (bytes_eq x_ x) refl
    where
      by_name : (b : Bool) → bytes_eq x_ x ≡ b → Instanced rows n 3 name (with_name x (first ∷ others)) made
      by_name true e = record {
        k = n + 1 + 1;
        few = omega arith;
        goes = subst (λ steps. Goes rows steps (Proved rows (n + 1 + 1) made)) (instance_is n name x (first ∷ others) true e)
            (named_goes (Substitute (n + 1) (first ∷ others) ∷ []) (Proved rows (n + 1 + 1) made) true e
            (λ after h. substituted rows after (n + 1) (first ∷ others) (of_name x) made (omega (arith, room)) h fits));
      }
      by_name false e = record {
        k = n + 2 + 1;
        few = omega arith;
        goes = subst (λ steps. Goes rows steps (Proved rows (n + 2 + 1) made)) (instance_is n name x (first ∷ others) false e)
            (named_goes (Substitute (n + 2) (first ∷ others) ∷ []) (Proved rows (n + 2 + 1) made) false e
            (λ after h. substituted rows after (n + 2) (first ∷ others) (of_name x) made (omega (arith, room)) h fits));
      }
