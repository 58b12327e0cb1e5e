-- What a row more does, and that each tree stands once where each row does.
use Rattle.std.proofs.Common.{◌≡◌, ℕ, suc, zero, ◌+◌, ◌<◌, ◌≤◌, List, [], ◌∷◌, ◌++◌, length, get_or, refl, sym, ap, subst, ◌∙◌, arith, ⊎_elim}
use Rattle.std.specs.Prelude.{All}
use Rattle.std.proofs.lemmas.List.{get_or_append_left, length-append, get_or_default}
use Rattle.std.proofs.Math.Seq.{get_or-append_seam}
use Rattle.std.proofs.lemmas.Bool.{cases_lt}
use Rattle.dlk_tree.specs.declared.op.Op.{Op}
use Rattle.dlk_tree.specs.declared.op.Op.TheVariants.{True}
use Rattle.dlk_tree.specs.Trees.{Tree, node, Forest, no_kids, kid, WellMade}
use Rattle.dlk_tree.specs.Table.{Fits}
use Rattle.dlk_store.specs.declared.Id.{Id}
use Rattle.dlk_store.specs.Stores.{IsId, tree, kid_trees, sorts_at, Keeps, StandsFor, HasOneId}
use Rattle.dlk_store.specs.Kids.{sorts-kid_trees, Keeps-refl, Keeps-trans, kid_trees-kept, sorts_at-kept, push_keeps, kids_made}
use Rattle.dlk_shared.specs.Rows.{Row, tree_of, trees_after, trees_of_rows, AreSoundRows}

after_keeps : (trees : List Tree) (rs : List Row) → Keeps trees (trees_after trees rs)
after_keeps trees [] = Keeps-refl trees
after_keeps trees (r ∷ rs) = Keeps-trans (push_keeps trees (tree_of trees r)) (after_keeps (trees ++ tree_of trees r ∷ []) rs)

after_length : (trees : List Tree) (rs : List Row) → length (trees_after trees rs) ≡ length trees + length rs
after_length trees [] = omega arith
after_length trees (r ∷ rs) = omega (arith, after_length (trees ++ tree_of trees r ∷ []) rs, length-append trees (tree_of trees r ∷ []))

pub rows_length : (rows : List Row) → length (trees_of_rows rows) ≡ length rows
rows_length rows = omega (arith, after_length [] rows)

-- one more row adds its tree
after_push : (trees : List Tree) (rs : List Row) (r : Row) → trees_after trees (rs ++ r ∷ []) ≡ trees_after trees rs ++ tree_of (trees_after trees rs) r ∷ []
after_push trees [] r = refl
after_push trees (q ∷ rs) r = after_push (trees ++ tree_of trees q ∷ []) rs r

-- each row's tree, where its kids stand before it
after_at : (trees : List Tree) (rs : List Row) (j : ℕ) (d : Row) → j < length rs → All (λ id. id.0 < length trees + j) (get_or rs j d).kids
    → get_or (trees_after trees rs) (length trees + j) (node True no_kids) ≡ tree_of (trees_after trees rs) (get_or rs j d)
after_at trees [] j d h all = absurd (omega arith)
after_at trees (r ∷ rs) zero d h all =
    let more = trees ++ tree_of trees r ∷ [] in
    let known : All (IsId trees) r.kids = λ i e lt. let b = all i e lt in omega arith in
    let long = length-append trees (tree_of trees r ∷ []) in
    let here : length trees < length more = omega (arith, long) in
    let at : length trees + 0 ≡ length trees = omega arith in
    rw at ((after_keeps more rs).same (record { 0 = length trees }) here ∙ get_or-append_seam trees (tree_of trees r) [] (node True no_kids)
    ∙ ap (node r.op) (sym (kid_trees-kept (after_keeps trees (r ∷ rs)) r.kids known)))
after_at trees (r ∷ rs) (suc j) d h all =
    let more = trees ++ tree_of trees r ∷ [] in
    let long : length more ≡ suc (length trees) = omega (arith, length-append trees (tree_of trees r ∷ [])) in
    let at : length trees + suc j ≡ length more + j = omega (arith, long) in
    rw at (after_at more rs j d (omega arith) (λ i e lt. let b = all i e lt in omega (arith, b, at)))

module _ (rows : List Row) (sound : AreSoundRows rows) where
  -- what an id stands for
  pub tree_at : (k : ℕ) (d : Row) → k < length rows → get_or (trees_of_rows rows) k (node True no_kids) ≡ tree_of (trees_of_rows rows) (get_or rows k d)
  tree_at k d h =
      let zeroed : 0 + k ≡ k = omega arith in
      rw zeroed at (after_at [] rows k d h (λ i e lt. let b = sound.before k d h i e lt in omega (arith, b)))

  -- a row's kids are ids
  pub kids_known : (k : ℕ) (d : Row) → k < length rows → All (IsId (trees_of_rows rows)) (get_or rows k d).kids
  kids_known k d h i e lt = let b = sound.before k d h i e lt in omega (arith, b, rows_length rows)

  made_below : (b k : ℕ) (d : Row) → k < b → k < length rows → WellMade (get_or (trees_of_rows rows) k (node True no_kids))
  made_below zero k d lt h = absurd (omega arith)
  made_below (suc b) k d lt h =
      let r = get_or rows k d in
      let trees = trees_of_rows rows in
      rw (tree_at k d h) (
        subst (λ ss. Fits r.op ss) (sym (sorts-kid_trees trees r.kids)) (sound.fit k d h),
        kids_made trees r.kids (λ i e less. let under = sound.before k d h i e less in made_below b (get_or r.kids i e).0 d (omega (arith, under))
            (omega (arith, under))),
      )

  -- every tree is well made
  pub rows_made : All WellMade (trees_of_rows rows)
  rows_made k d h =
      let lt : k < length rows = omega (arith, rows_length rows) in
      let r : Row = record { op = True; kids = [] } in
      rw (get_or_default (trees_of_rows rows) k d (node True no_kids) h) (made_below (suc k) k r (omega arith) lt)

pub push_row_keeps : (rows : List Row) (r : Row) → Keeps (trees_of_rows rows) (trees_of_rows (rows ++ r ∷ []))
push_row_keeps rows r = subst (λ new. Keeps (trees_of_rows rows) new) (sym (after_push [] rows r)) (push_keeps (trees_of_rows rows) (tree_of
    (trees_of_rows rows) r))

-- a row whose kids are there and that fits may come next
pub push_row_sound : (rows : List Row) (r : Row) → AreSoundRows rows → All (IsId (trees_of_rows rows)) r.kids → Fits r.op (sorts_at (trees_of_rows rows) r.kids)
    → AreSoundRows (rows ++ r ∷ [])
push_row_sound rows r sound known fits = record {
  before = λ k d h. ⊎_elim
      (λ (lt : k < length rows). rw (get_or_append_left rows (r ∷ []) d k lt) (sound.before k d lt))
      (λ (le : length rows ≤ k). let at : k ≡ length rows = omega (arith, length-append rows (r ∷ [])) in
      rw (at, get_or-append_seam rows r [] d) (λ i e less. let b = known i e less in omega (arith, b, rows_length rows)))
      (cases_lt k (length rows));
  fit = λ k d h. ⊎_elim
      (λ (lt : k < length rows).
      rw (get_or_append_left rows (r ∷ []) d k lt, sorts_at-kept (push_row_keeps rows r) (get_or rows k d).kids (kids_known rows sound k d lt))
      (sound.fit k d lt))
      (λ (le : length rows ≤ k). let at : k ≡ length rows = omega (arith, length-append rows (r ∷ [])) in
      rw (at, get_or-append_seam rows r [] d, sorts_at-kept (push_row_keeps rows r) r.kids known) fits)
      (cases_lt k (length rows));
}

-- and stands for its tree
pub push_row_stands : (rows : List Row) (r : Row) (id : Id) → id.0 ≡ length rows
    → StandsFor (trees_of_rows (rows ++ r ∷ [])) id (tree_of (trees_of_rows rows) r)
push_row_stands rows r id e =
    let at : id.0 ≡ length (trees_of_rows rows) = omega (arith, rows_length rows) in
    record {
      known = omega (arith, rows_length (rows ++ r ∷ []), length-append rows (r ∷ []));
      tree_is = rw (after_push [] rows r, at) (get_or-append_seam (trees_of_rows rows) (tree_of (trees_of_rows rows) r) [] (node True no_kids));
    }

-- ---- one row, one tree

abbrev op_of : Tree → Op
op_of (node op kids) = op

abbrev forest_of : Tree → Forest
forest_of (node op kids) = kids

abbrev first_of : Forest → Tree
first_of no_kids = node True no_kids
first_of (kid t rest) = t

abbrev rest_of : Forest → Forest
rest_of no_kids = no_kids
rest_of (kid t rest) = rest

-- equal kids have equal ids, where equal trees do below n
kids_one : (trees : List Tree) (n : ℕ) → ((i j : Id) → i.0 < n → IsId trees j → tree trees i ≡ tree trees j → i ≡ j)
    → (ks js : List Id) → All (λ id. id.0 < n) ks → All (IsId trees) js → kid_trees trees ks ≡ kid_trees trees js → ks ≡ js
kids_one trees n one [] [] below known e = refl
kids_one trees n one [] (j ∷ js) below known e = cc
kids_one trees n one (k ∷ ks) [] below known e = cc
kids_one trees n one (k ∷ ks) (j ∷ js) below known e =
    let first = one k j (below 0 k (omega arith)) (known 0 j (omega arith)) (ap first_of e) in
    let rest = kids_one trees n one ks js (λ i d h. below (suc i) d (omega arith)) (λ i d h. known (suc i) d (omega arith)) (ap rest_of e) in
    λ i. first i ∷ rest i

-- equal rows stand at one place
abbrev pub AreApart : List Row → Type 0
AreApart rows = (i j : ℕ) (d : Row) → i < length rows → j < length rows → get_or rows i d ≡ get_or rows j d → i ≡ j

module _ (rows : List Row) (sound : AreSoundRows rows) (apart : AreApart rows) where
  one_below : (b : ℕ) (i j : Id) → i.0 < b → i.0 < length rows → j.0 < length rows → tree (trees_of_rows rows) i ≡ tree (trees_of_rows rows) j → i ≡ j
  one_below zero i j h p q e = absurd (omega arith)
  one_below (suc b) i j h p q e =
      let d : Row = record { op = True; kids = [] } in
      let trees = trees_of_rows rows in
      let r = get_or rows i.0 d in
      let s = get_or rows j.0 d in
      let both : tree_of trees r ≡ tree_of trees s = sym (tree_at rows sound i.0 d p) ∙ e ∙ tree_at rows sound j.0 d q in
      let long = rows_length rows in
      let kids = kids_one trees i.0 (λ m n l k. one_below b m n (omega arith) (omega arith) (omega (arith, k, long))) r.kids s.kids
      (sound.before i.0 d p) (kids_known rows sound j.0 d q) (ap forest_of both) in
      let ops = ap op_of both in
      let places = apart i.0 j.0 d p q (λ t. record { op = ops t; kids = kids t }) in
      λ t. record { 0 = places t }

  pub rows_one_id : HasOneId (trees_of_rows rows)
  rows_one_id a b p q e = one_below (suc a.0) a b (omega arith) (omega (arith, p, rows_length rows)) (omega (arith, q, rows_length rows)) e
