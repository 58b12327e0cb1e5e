-- Strategies over ids while the store grows, and their parts.
use Rattle.std.proofs.Common.{◌≡◌, ℕ, List, [], ◌∷◌, length, Vec, Global, refl, sym, ap, subst, ◌∙◌, arith}
use Rattle.std.specs.List.{All}
use Rattle.std.proofs.lemmas.List.Elements.{All-head, All-tail, All-nil, All-cons, All-weaker}
use Rattle.dlk_tree.specs.Trees.{Tree}
use Rattle.dlk_store.specs.Stores.{Keeps}
use Rattle.dlk_tacsyn.specs.declared.tactic.Tactic.{Tactic, Choice, Seq, Branch, One, Choice', Seq', Branch', Repeat', Row_of-Tactic, end_of-Tactic}
use Rattle.dlk_tacsyn.specs.declared.tactic.Tactic.{more_of-Tactic, items-the_row-Tactic, items_hidden-the_row-Tactic-0}
use Rattle.dlk_tacsyn.specs.Tactics as the
use Rattle.dlk_tacsyn.specs.Tactics.{part, count, EachAtomOf}
use Rattle.dlk_tacsyn.specs.Rows.{IsRun, AreRun}
use Rattle.dlk_tacsyn.specs.Ties.{tactic_at, tactics_at, TacticIsKnown, TacticsAreKnown}
use Rattle.dlk_tacsyn.proofs.Kept.{row_in}
use Rattle.dlk_strategy.specs.Ties.{IsRunnable, tactics_of}
use Rattle.dlk_strategy.proofs.Trying.{atom_same, atom_known}

module _ (old new : List Tree) (keeps : Keeps old new) where
  mutual
    pub tactic_same : (t : Tactic) → TacticIsKnown old t → tactic_at new t ≡ tactic_at old t
    tactic_same (Choice' shape all) h = ap (λ ts. the.Choice ts) (row_same _ all h)
    tactic_same (Seq' shape all) h = ap (λ ts. the.Sequence ts) (row_same _ all h)
    tactic_same (Branch' at shape all) h = ap (λ ts. the.Branch at ts) (row_same _ all h)
    tactic_same (Repeat' place body times) h = ap (λ b. the.Repeat b times) (tactic_same body h)
    tactic_same (One atom) h = ap (λ a. the.One a) (atom_same old new keeps atom h)

    row_same : (n : _) (row : Row_of-Tactic n) → TacticsAreKnown old row → tactics_at new row ≡ tactics_at old row
    row_same n end_of-Tactic h = refl
    row_same n (more_of-Tactic t rest) h = λ i. part (tactic_same t h.0 i) (row_same _ rest h.1 i)

  mutual
    pub tactic_known : (t : Tactic) → TacticIsKnown old t → TacticIsKnown new t
    tactic_known (Choice' shape all) h = row_known _ all h
    tactic_known (Seq' shape all) h = row_known _ all h
    tactic_known (Branch' at shape all) h = row_known _ all h
    tactic_known (Repeat' place body times) h = tactic_known body h
    tactic_known (One atom) h = atom_known old new keeps atom h

    row_known : (n : _) (row : Row_of-Tactic n) → TacticsAreKnown old row → TacticsAreKnown new row
    row_known n end_of-Tactic h = tt
    row_known n (more_of-Tactic t rest) h = (tactic_known t h.0, row_known _ rest h.1)

  pub runnable_kept : (t : Tactic) → IsRunnable old t → IsRunnable new t
  runnable_kept t h = record { known = tactic_known t h.known; atoms = subst AreRun (sym (tactic_same t h.known)) h.atoms }

  pub runnables_kept : (ts : List Tactic) → All (IsRunnable old) ts → All (IsRunnable new) ts
  runnables_kept ts h = All-weaker (IsRunnable old) (IsRunnable new) runnable_kept ts h

  pub tactics_same : (ts : List Tactic) → All (IsRunnable old) ts → tactics_of new ts ≡ tactics_of old ts
  tactics_same [] h = refl
  tactics_same (t ∷ rest) h =
      let first : tactic_at new t ≡ tactic_at old t = tactic_same t (All-head (IsRunnable old) t rest h).known in
      let others : tactics_of new rest ≡ tactics_of old rest = tactics_same rest (All-tail (IsRunnable old) t rest h) in
      λ i. part (first i) (others i)

module _ (trees : List Tree) where
  row_is : (n : _) (row : Row_of-Tactic n) → tactics_at trees row ≡ tactics_of trees (items-the_row-Tactic n row)
  row_is n end_of-Tactic = refl
  row_is n (more_of-Tactic t rest) = ap (part (tactic_at trees t)) (row_is _ rest)

  row_runnable : (n : _) (row : Row_of-Tactic n) → TacticsAreKnown trees row → EachAtomOf IsRun (tactics_at trees row) →
      All (IsRunnable trees) (items-the_row-Tactic n row)
  row_runnable n end_of-Tactic known atoms = All-nil (IsRunnable trees)
  row_runnable n (more_of-Tactic t rest) known atoms =
      All-cons (IsRunnable trees) t (items-the_row-Tactic _ rest) (record { known = known.0; atoms = atoms.0 }) (row_runnable _ rest known.1 atoms.1)

  -- the parts of a strategy stand in its vector
  pub choice_at : (ts : Vec Tactic Global) → tactic_at trees (Choice ts) ≡ the.Choice (tactics_of trees ts.items)
  choice_at ts =
      let row = row_in (Choice ts) in
      ap (λ xs. the.Choice xs) (row_is row.0 row.1 ∙ ap (tactics_of trees) (items_hidden-the_row-Tactic-0 ts))

  pub sequence_at : (ts : Vec Tactic Global) → tactic_at trees (Seq ts) ≡ the.Sequence (tactics_of trees ts.items)
  sequence_at ts =
      let row = row_in (Choice ts) in
      ap (λ xs. the.Sequence xs) (row_is row.0 row.1 ∙ ap (tactics_of trees) (items_hidden-the_row-Tactic-0 ts))

  pub branch_at : (at : ℕ) (ts : Vec Tactic Global) → tactic_at trees (Branch at ts) ≡ the.Branch at (tactics_of trees ts.items)
  branch_at at ts =
      let row = row_in (Choice ts) in
      ap (λ xs. the.Branch at xs) (row_is row.0 row.1 ∙ ap (tactics_of trees) (items_hidden-the_row-Tactic-0 ts))

  -- and can be run where it can
  pub choice_parts : (ts : Vec Tactic Global) → IsRunnable trees (Choice ts) → All (IsRunnable trees) ts.items
  choice_parts ts h =
      let row = row_in (Choice ts) in
      subst (All (IsRunnable trees)) (items_hidden-the_row-Tactic-0 ts) (row_runnable row.0 row.1 h.known h.atoms)

  pub sequence_parts : (ts : Vec Tactic Global) → IsRunnable trees (Seq ts) → All (IsRunnable trees) ts.items
  sequence_parts ts h =
      let row = row_in (Choice ts) in
      subst (All (IsRunnable trees)) (items_hidden-the_row-Tactic-0 ts) (row_runnable row.0 row.1 h.known h.atoms)

  pub branch_parts : (at : ℕ) (ts : Vec Tactic Global) → IsRunnable trees (Branch at ts) → All (IsRunnable trees) ts.items
  branch_parts at ts h =
      let row = row_in (Choice ts) in
      subst (All (IsRunnable trees)) (items_hidden-the_row-Tactic-0 ts) (row_runnable row.0 row.1 h.known h.atoms)

  pub count_of : (ts : List Tactic) → count (tactics_of trees ts) ≡ length ts
  count_of [] = refl
  count_of (t ∷ rest) = let others : count (tactics_of trees rest) ≡ length rest = count_of rest in omega (arith, others)
