-- The parts of a strategy over ids stand in its vector.
use Rattle.std.proofs.Common.{◌≡◌, ℕ, List, map, Vec, Global, refl, ap, subst, ◌∙◌}
use Rattle.std.specs.List.{All}
use Rattle.std.proofs.lemmas.List.Elements.{All-nil, All-cons}
use Rattle.dlk_tree.specs.Trees.{Tree}
use Rattle.dlk_tacsyn.specs.declared.tactic.Tactic.{Tactic, Choice, Seq, Branch, Row_of-Tactic, end_of-Tactic, more_of-Tactic}
use Rattle.dlk_tacsyn.specs.declared.tactic.Tactic.{items-the_row-Tactic, items_hidden-the_row-Tactic-0}
use Rattle.dlk_tacsyn.specs.Tactics as the
use Rattle.dlk_tacsyn.specs.Tactics.{Tactics, part, EachAtomOf}
use Rattle.dlk_tacsyn.specs.Rows.{IsOfText, AreOfText}
use Rattle.dlk_tacsyn.specs.Strategies.{parts}
use Rattle.dlk_tacsyn.specs.Ties.{tactic_at, tactics_at, TacticIsKnown, TacticsAreKnown}
use Rattle.dlk_tacsyn.proofs.Kept.{row_in}

module _ (trees : List Tree) where
  abbrev pub parts_at : List Tactic → Tactics
  parts_at ts = parts (map (tactic_at trees) ts)

  abbrev pub IsText : Tactic → Type 0
  IsText t = AreOfText (tactic_at trees t)

  row_is : (n : _) (row : Row_of-Tactic n) → tactics_at trees row ≡ parts_at (items-the_row-Tactic n row)
  row_is n end_of-Tactic = refl
  row_is n (more_of-Tactic t rest) = ap (part (tactic_at trees t)) (row_is _ rest)

  row_known : (n : _) (row : Row_of-Tactic n) → TacticsAreKnown trees row → All (TacticIsKnown trees) (items-the_row-Tactic n row)
  row_known n end_of-Tactic h = All-nil (TacticIsKnown trees)
  row_known n (more_of-Tactic t rest) h = All-cons (TacticIsKnown trees) t (items-the_row-Tactic _ rest) h.0 (row_known _ rest h.1)

  row_of_text : (n : _) (row : Row_of-Tactic n) → EachAtomOf IsOfText (tactics_at trees row) → All IsText (items-the_row-Tactic n row)
  row_of_text n end_of-Tactic h = All-nil IsText
  row_of_text n (more_of-Tactic t rest) h = All-cons IsText t (items-the_row-Tactic _ rest) h.0 (row_of_text _ rest h.1)

  pub choice_at : (ts : Vec Tactic Global) → tactic_at trees (Choice ts) ≡ the.Choice (parts_at ts.items)
  choice_at ts = let row = row_in (Choice ts) in ap (λ xs. the.Choice xs) (row_is row.0 row.1 ∙ ap parts_at (items_hidden-the_row-Tactic-0 ts))

  pub sequence_at : (ts : Vec Tactic Global) → tactic_at trees (Seq ts) ≡ the.Sequence (parts_at ts.items)
  sequence_at ts = let row = row_in (Choice ts) in ap (λ xs. the.Sequence xs) (row_is row.0 row.1 ∙ ap parts_at (items_hidden-the_row-Tactic-0 ts))

  pub branch_at : (at : ℕ) (ts : Vec Tactic Global) → tactic_at trees (Branch at ts) ≡ the.Branch at (parts_at ts.items)
  branch_at at ts = let row = row_in (Choice ts) in ap (λ xs. the.Branch at xs) (row_is row.0 row.1 ∙ ap parts_at (items_hidden-the_row-Tactic-0 ts))

  -- and are known, and of a text, where it is
  pub choice_known : (ts : Vec Tactic Global) → TacticIsKnown trees (Choice ts) → All (TacticIsKnown trees) ts.items
  choice_known ts h = let row = row_in (Choice ts) in subst (All (TacticIsKnown trees)) (items_hidden-the_row-Tactic-0 ts) (row_known row.0 row.1 h)

  pub sequence_known : (ts : Vec Tactic Global) → TacticIsKnown trees (Seq ts) → All (TacticIsKnown trees) ts.items
  sequence_known ts h = let row = row_in (Choice ts) in subst (All (TacticIsKnown trees)) (items_hidden-the_row-Tactic-0 ts) (row_known row.0 row.1 h)

  pub branch_known : (at : ℕ) (ts : Vec Tactic Global) → TacticIsKnown trees (Branch at ts) → All (TacticIsKnown trees) ts.items
  branch_known at ts h = let row = row_in (Choice ts) in subst (All (TacticIsKnown trees)) (items_hidden-the_row-Tactic-0 ts) (row_known row.0 row.1 h)

  pub choice_of_text : (ts : Vec Tactic Global) → IsText (Choice ts) → All IsText ts.items
  choice_of_text ts h = let row = row_in (Choice ts) in subst (All IsText) (items_hidden-the_row-Tactic-0 ts) (row_of_text row.0 row.1 h)

  pub sequence_of_text : (ts : Vec Tactic Global) → IsText (Seq ts) → All IsText ts.items
  sequence_of_text ts h = let row = row_in (Choice ts) in subst (All IsText) (items_hidden-the_row-Tactic-0 ts) (row_of_text row.0 row.1 h)

  pub branch_of_text : (at : ℕ) (ts : Vec Tactic Global) → IsText (Branch at ts) → All IsText ts.items
  branch_of_text at ts h = let row = row_in (Choice ts) in subst (All IsText) (items_hidden-the_row-Tactic-0 ts) (row_of_text row.0 row.1 h)
