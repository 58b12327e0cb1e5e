-- The written forms of sequents, formulas and pairs are read, where their trees have nodes.
use Rattle.std.proofs.Common.{◌≡◌, ◌≤◌, true, List, [], ◌∷◌, ◌++◌, length, codes}
use Rattle.std.specs.Prelude.{All}
use Rattle.std.specs.List.{flat_map}
use Rattle.std.proofs.lemmas.List.Elements.{All-head, All-tail}
use Rattle.dlk_tree.specs.declared.op.Sort.TheVariants.{Formula as OfFormulas}
use Rattle.dlk_tree.specs.Table.{is_sym}
use Rattle.dlk_tree.specs.Trees.{Tree, sort}
use Rattle.dlk_calculus.specs.Pairs.{Pair, is_of_kind}
use Rattle.dlk_calculus.specs.Sequents.{Sequent}
use Rattle.dlk_lines.specs.Spelled.{ByNodes, NamesEach, none_behind, one_behind, NamesBefore, none_before, one_before, NamesSequent, sides}
use Rattle.dlk_lines.specs.Spelled.{NamesFormula, formula}
use Rattle.dlk_lines.specs.Spelled.{pair, NamesMorePairs, no_more_pairs, one_more_pair, NamesPairs, no_pairs, first_pair}
use Rattle.dlk_lines.specs.Written.{numbers_text, numbers_before, pair_text, sequent_text, pairs_text, formula_text, trees_in, replacements_in}
use Rattle.dlk_nodes.specs.Nodes.{has_node}
use Rattle.dlk_nodes.specs.Follow.{AreThere}
use Rattle.dlk_nodes.proofs.Places.{front_there, behind_there, named}

module _ (nodes : List Tree) (few : length nodes ≤ 999999999) where
  named_each : (ts : List Tree) → AreThere nodes ts → NamesEach nodes (numbers_text nodes ts) ts
  named_each [] h = none_behind
  named_each (t ∷ ts) h = one_behind (named nodes few t h.0) (named_each ts h.1)

  named_before : (ts : List Tree) → AreThere nodes ts → NamesBefore nodes (numbers_before nodes ts) ts
  named_before [] h = none_before
  named_before (t ∷ ts) h = one_before (named nodes few t h.0) (named_before ts h.1)

  pub sequent_read : (s : Sequent) → AreThere nodes (trees_in s) → All (λ t. sort t ≡ OfFormulas) s.ante → All (λ t. sort t ≡ OfFormulas) s.succ →
      NamesSequent nodes (sequent_text (ByNodes nodes) s) s
  sequent_read s h a b =
      sides (named_before s.ante (front_there nodes s.ante s.succ h)) (named_each s.succ (behind_there nodes s.ante s.succ h)) a b

  pub formula_read : (h : Tree) → has_node nodes h ≡ true → sort h ≡ OfFormulas → NamesFormula nodes (formula_text (ByNodes nodes) h) h
  formula_read h there is = formula (named nodes few h there) is

  abbrev IsSymbol : Pair → Type 0
  IsSymbol p = is_sym p.sym ≡ true

  abbrev IsOfKind : Pair → Type 0
  IsOfKind p = is_of_kind p.sym.kind p.by ≡ true

  more_pairs_read : (ps : List Pair) → AreThere nodes (replacements_in ps) → All IsSymbol ps → All IsOfKind ps →
      NamesMorePairs nodes (flat_map (λ p. codes "," ++ pair_text nodes p) ps) ps
  more_pairs_read [] h a b = no_more_pairs
  more_pairs_read (p ∷ ps) h a b =
      one_more_pair (pair (All-head IsSymbol p ps a) (named nodes few p.by h.0) (All-head IsOfKind p ps b))
      (more_pairs_read ps h.1 (All-tail IsSymbol p ps a) (All-tail IsOfKind p ps b))

  pub pairs_read : (ps : List Pair) → AreThere nodes (replacements_in ps) → All IsSymbol ps → All IsOfKind ps →
      NamesPairs nodes (pairs_text (ByNodes nodes) ps) ps
  pairs_read [] h a b = no_pairs
  pairs_read (p ∷ ps) h a b =
      first_pair (pair (All-head IsSymbol p ps a) (named nodes few p.by h.0) (All-head IsOfKind p ps b))
      (more_pairs_read ps h.1 (All-tail IsSymbol p ps a) (All-tail IsOfKind p ps b))
