-- The formulas of one side of a sequent from one place on.
use Rattle.std.proofs.Common.{◌≡◌, ℕ, ◌+◌, ◌<◌, ◌≤◌, List, [], ◌∷◌, ◌++◌, length, get_or, drop, map, false, refl, sym, ap, ◌∙◌, add-one, drop-cons}
use Rattle.std.specs.Prelude.{sum_by, ◌==◌}
use Rattle.std.proofs.lemmas.List.Sums.{sum_by-cons}
use Rattle.std.proofs.lemmas.List.{drop_all}
use Rattle.dlk_tree.specs.Trees.{Tree, size}
use Rattle.dlk_calculus.specs.Sequents.{Sequent}
use Rattle.dlk_store.specs.declared.Id.{Id}
use Rattle.dlk_store.specs.Stores.{tree}
use Rattle.dlk_grammar.specs.Shown.{Piece, space, mark, spell, shown, formulas, left_side, right_side, shown_sequent}
use Rattle.dlk_grammar.specs.declared.token.Mark.TheVariants.{Turnstile}
use Rattle.dlk_print.specs.Printed.{gap}
use Rattle.dlk_print.proofs.Left.{Left, same_rest, unbegun}
use Rattle.dlk_print.proofs.Joined.{spell-append, pending, pending-next, pending-none}

-- the trees from the i-th on
trees_at : (trees : List Tree) (ids : List Id) (i : ℕ) (d : Id) → i < length ids →
    map (tree trees) (drop i ids) ≡ tree trees (get_or ids i d) ∷ map (tree trees) (drop (i + 1) ids)
trees_at trees ids i d h = rw add-one (ap (λ l. map (tree trees) l) (drop-cons ids i d h))

-- what stands before the i-th formula, its text, and the later ones
pub at_formula : {old text now : List ℕ} (trees : List Tree) (between : List Piece) (ids : List Id) (i : ℕ) (d : Id) → i < length ids →
    Left old text now (spell (pending shown between i (map (tree trees) (drop i ids)))) →
    Left old text now (gap i (spell between)
    ++ (spell (shown (tree trees (get_or ids i d))) ++ spell (pending shown between (i + 1) (map (tree trees) (drop (i + 1) ids)))))
at_formula trees between ids i d h a =
    same_rest (ap (λ ts. spell (pending shown between i ts)) (trees_at trees ids i d h)
    ∙ pending-next shown between i (tree trees (get_or ids i d)) (map (tree trees) (drop (i + 1) ids))) a

-- the sizes from the i-th on
pub sizes_at : (trees : List Tree) (ids : List Id) (i : ℕ) (d : Id) → i < length ids →
    sum_by size (map (tree trees) (drop i ids)) ≡ size (tree trees (get_or ids i d)) + sum_by size (map (tree trees) (drop (i + 1) ids))
sizes_at trees ids i d h = ap (λ ts. sum_by size ts) (trees_at trees ids i d h)
    ∙ sum_by-cons size (tree trees (get_or ids i d)) (map (tree trees) (drop (i + 1) ids))

-- a side that isn't empty, and a sequent, of which nothing was appended yet
pub unbegun_left : (old : List ℕ) (trees : List Tree) (ids : List Id) → false ≡ (length ids == 0) →
    Left old (spell (left_side (map (tree trees) ids))) old (spell (formulas (map (tree trees) ids)) ++ 32 ∷ [])
unbegun_left old trees [] h = absurd (cc)
unbegun_left old trees (id ∷ ids) h = unbegun old (sym (spell-append (formulas (map (tree trees) (id ∷ ids))) (space ∷ [])))

pub unbegun_right : (old : List ℕ) (trees : List Tree) (ids : List Id) → false ≡ (length ids == 0) →
    Left old (spell (right_side (map (tree trees) ids))) old (32 ∷ [] ++ spell (formulas (map (tree trees) ids)))
unbegun_right old trees [] h = absurd (cc)
unbegun_right old trees (id ∷ ids) h = unbegun old refl

pub unbegun_sequent : (old : List ℕ) (s : Sequent) →
    Left old (spell (shown_sequent s)) old (spell (left_side s.ante) ++ (61 ∷ 61 ∷ 62 ∷ [] ++ spell (right_side s.succ)))
unbegun_sequent old s = unbegun old (sym (spell-append (left_side s.ante) (mark Turnstile ∷ right_side s.succ)))
