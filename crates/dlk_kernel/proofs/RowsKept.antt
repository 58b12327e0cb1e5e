-- Rows that stay first.
use Rattle.std.proofs.Common.{◌≡◌, ℕ, zero, suc, ◌≤◌, List, [], ◌∷◌, map, take, length, length-take, refl, sym, ap, ◌∙◌, arith}
use Rattle.std.proofs.lemmas.List.{take-map, length-map}
use Rattle.std.proofs.Math.Seq.{take-length}
use Rattle.dlk_tree.specs.Trees.{Tree}
use Rattle.dlk_kernel.specs.Kernel.{State, provable_at, facts, SameRows, ExtendsRows}

take_less : {A : Type 0} (m n : ℕ) → m ≤ n → (xs : List A) → take m (take n xs) ≡ take m xs
take_less zero n h xs = refl
take_less (suc m) zero h xs = absurd (omega arith)
take_less (suc m) (suc n) h [] = refl
take_less (suc m) (suc n) h (x ∷ xs) = ap (λ ys. x ∷ ys) (take_less m n (omega arith) xs)

module _ {S : Type 0} (trees : S → List Tree) where
  pub rows_first : (a b : State S) → ExtendsRows trees a b → length a.rows ≤ length b.rows
  rows_first a b e = let n = ap length e.ids in omega (arith, n, length-take (length a.rows) b.rows)

  pub rows_stay : (a : State S) → ExtendsRows trees a a
  rows_stay a = record {
    ids = take-length a.rows;
    provables = ap (λ n. take n (facts trees a)) (sym (length-map a.rows (provable_at (trees a.store)))) ∙ take-length (facts trees a);
  }

  pub rows_same_after : (a b c : State S) → ExtendsRows trees a b → SameRows trees b c → ExtendsRows trees a c
  rows_same_after a b c e s = record {
    ids = ap (take (length a.rows)) s.ids ∙ e.ids;
    provables = ap (take (length a.rows)) s.provables ∙ e.provables;
  }

  pub rows_longer : (a b c : State S) → ExtendsRows trees a b → ExtendsRows trees b c → ExtendsRows trees a c
  rows_longer a b c e f =
      let few : length a.rows ≤ length b.rows = rows_first a b e in
      record {
        ids = sym (take_less (length a.rows) (length b.rows) few c.rows) ∙ ap (take (length a.rows)) f.ids ∙ e.ids;
        provables = sym (take_less (length a.rows) (length b.rows) few (facts trees c)) ∙ ap (take (length a.rows)) f.provables ∙ e.provables;
      }

  -- rows that are cut back are as they were
  pub rows_back : (a b c : State S) → ExtendsRows trees a b → c.rows ≡ take (length a.rows) b.rows → c.store ≡ b.store → SameRows trees a c
  rows_back a b c e cut store = record {
    ids = cut ∙ e.ids;
    provables = (λ i. map (provable_at (trees (store i))) (cut i)) ∙ sym (take-map (provable_at (trees b.store)) (length a.rows) b.rows) ∙ e.provables;
  }
