-- Lines of a script over ids while the store grows.
use Rattle.std.proofs.Common.{◌≡◌, List, [], ◌∷◌, map, refl, sym, ap, subst}
use Rattle.std.specs.List.{All}
use Rattle.std.proofs.lemmas.List.Elements.{All-head, All-tail, All-weaker}
use Rattle.dlk_tree.specs.Trees.{Tree}
use Rattle.dlk_store.specs.Stores.{Keeps}
use Rattle.dlk_tacsyn.specs.Rows.{AreOfText}
use Rattle.dlk_tacsyn.proofs.Kept.{tactic_kept, tactic_known}
use Rattle.dlk_session.specs.Sessions as turn
use Rattle.dlk_jobs_session.specs.declared.script.Line.{Line}
use Rattle.dlk_jobs_session.specs.declared.script.Line.TheVariants as line
use Rattle.dlk_jobs_session.specs.Ties.{line_at, IsKnownLine}

module _ (old new : List Tree) (keeps : Keeps old new) where
  pub line_kept : (x : Line) → IsKnownLine old x → line_at new x ≡ line_at old x
  line_kept (line.Apply goal strategy) k = ap (λ t. turn.Apply goal t) (tactic_kept old new keeps strategy k.known)
  line_kept line.Undo k = refl
  line_kept line.Show k = refl
  line_kept line.Save k = refl

  pub line_known : (x : Line) → IsKnownLine old x → IsKnownLine new x
  line_known (line.Apply goal strategy) k =
      record { known = tactic_known old new keeps strategy k.known; of_text = subst AreOfText (sym (tactic_kept old new keeps strategy k.known)) k.of_text }
  line_known line.Undo k = tt
  line_known line.Show k = tt
  line_known line.Save k = tt

  pub lines_kept : (xs : List Line) → All (IsKnownLine old) xs → map (line_at new) xs ≡ map (line_at old) xs
  lines_kept [] k = refl
  lines_kept (x ∷ xs) k =
      let one : line_at new x ≡ line_at old x = line_kept x (All-head (IsKnownLine old) x xs k) in
      let others : map (line_at new) xs ≡ map (line_at old) xs = lines_kept xs (All-tail (IsKnownLine old) x xs k) in
      λ i. one i ∷ others i

  pub lines_known : (xs : List Line) → All (IsKnownLine old) xs → All (IsKnownLine new) xs
  lines_known xs k = All-weaker (IsKnownLine old) (IsKnownLine new) line_known xs k
