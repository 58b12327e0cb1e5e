-- The pairs of a substitution from one place on.
use Rattle.std.proofs.Common.{◌≡◌, ℕ, suc, ◌+◌, ◌<◌, ◌≤◌, List, [], ◌∷◌, ◌++◌, length, get_or, drop, map, sym, ap, ◌∙◌, add-one, drop-cons}
use Rattle.std.specs.Prelude.{sum_by}
use Rattle.std.proofs.lemmas.List.Sums.{sum_by-cons}
use Rattle.std.proofs.lemmas.List.{drop_all}
use Rattle.dlk_tree.specs.Trees.{Tree, size}
use Rattle.dlk_calculus.specs.Pairs.{Pair as TreePair}
use Rattle.dlk_sequent.specs.Substitutions.{pair_at, pairs_at}
use Rattle.dlk_sequent.specs.declared.subst.Pair.{Pair}
use Rattle.dlk_grammar.specs.Shown.{Piece, mark, spell, shown}
use Rattle.dlk_grammar.specs.Symbols.{shown_symbol, term_word, shown_pair}
use Rattle.dlk_grammar.specs.declared.token.Mark.TheVariants.{Comma, Becomes}
use Rattle.dlk_print.specs.Printed.{gap}
use Rattle.dlk_print.proofs.Left.{Left, same_rest, unbegun}
use Rattle.dlk_print.proofs.Joined.{spell-append, pending, pending-next, pending-none}

abbrev pub comma : List Piece
comma = mark Comma ∷ []

-- how often the nodes of the replacements are looked at, at most half
abbrev pub sizes : List TreePair → ℕ
sizes pairs = sum_by (λ (p : TreePair). size p.by) pairs

-- the pairs from the i-th on
pairs_from : (trees : List Tree) (pairs : List Pair) (i : ℕ) (p : Pair) → p ≡ get_or pairs i p → i < length pairs →
    pairs_at trees (drop i pairs) ≡ pair_at trees p ∷ pairs_at trees (drop (i + 1) pairs)
pairs_from trees pairs i p e h = rw add-one
    (ap (λ l. map (pair_at trees) l) (drop-cons pairs i p h) ∙ ap (λ q. pair_at trees q ∷ map (pair_at trees) (drop (suc i) pairs)) (sym e))

-- what stands before the i-th pair, its text, and the later ones
pub at_pair : {old text now : List ℕ} (trees : List Tree) (pairs : List Pair) (i : ℕ) (p : Pair) → p ≡ get_or pairs i p → i < length pairs →
    Left old text now (spell (pending shown_pair comma i (pairs_at trees (drop i pairs)))) →
    Left old text now (gap i (44 ∷ []) ++ (spell (shown_pair (pair_at trees p))
    ++ spell (pending shown_pair comma (i + 1) (pairs_at trees (drop (i + 1) pairs)))))
at_pair trees pairs i p e h a =
    same_rest (ap (λ ps. spell (pending shown_pair comma i ps)) (pairs_from trees pairs i p e h)
    ∙ pending-next shown_pair comma i (pair_at trees p) (pairs_at trees (drop (i + 1) pairs))) a

-- the sizes from the i-th on
pub sizes_from : (trees : List Tree) (pairs : List Pair) (i : ℕ) (p : Pair) → p ≡ get_or pairs i p → i < length pairs →
    sizes (pairs_at trees (drop i pairs)) ≡ size (pair_at trees p).by + sizes (pairs_at trees (drop (i + 1) pairs))
sizes_from trees pairs i p e h = ap sizes (pairs_from trees pairs i p e h)
    ∙ sum_by-cons (λ (q : TreePair). size q.by) (pair_at trees p) (pairs_at trees (drop (i + 1) pairs))

-- a pair of which nothing was appended yet
pub unbegun_pair : (old : List ℕ) (p : TreePair) →
    Left old (spell (shown_pair p)) old (spell (term_word p) ++ (spell (shown_symbol p.sym) ++ (126 ∷ 62 ∷ [] ++ spell (shown p.by))))
unbegun_pair old p = unbegun old (sym (spell-append (term_word p) (shown_symbol p.sym ++ mark Becomes ∷ shown p.by)
    ∙ ap (λ l. spell (term_word p) ++ l) (spell-append (shown_symbol p.sym) (mark Becomes ∷ shown p.by))))
