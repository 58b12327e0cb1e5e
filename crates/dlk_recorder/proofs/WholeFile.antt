-- The term file of steps that are taken in turn is accepted.
use Rattle.std.proofs.Common.{◌≡◌, ℕ, ◌≤◌, Bool, true, false, not, cond, List, [], ◌∷◌, ◌++◌, length, codes, refl, sym, ap, subst, ◌∙◌, append-nil, arith}
use Rattle.std.specs.Prelude.{All}
use Rattle.std.specs.List.{list_all}
use Rattle.std.proofs.lemmas.Bool.{and_parts}
use Rattle.std.proofs.lemmas.List.{length_push}
use Rattle.std.proofs.lemmas.List.Elements.{All-head, All-tail, All-push}
use Rattle.dlk_calculus.specs.Limits.{most_rows}
use Rattle.dlk_calculus.specs.Provables.{Provable}
use Rattle.dlk_calculus.specs.Steps.{Step}
use Rattle.dlk_calculus.proofs.LimitLaws.{taken_as_given}
use Rattle.dlk_kernel.specs.Taken.{Takes, none, more}
use Rattle.dlk_nodes.specs.Lines.{Done, done}
use Rattle.dlk_nodes.specs.Recorded.{Records}
use Rattle.dlk_nodes.specs.TermFiles.{all_nodes, first_lines, ended, term_text, AreWritable}
use Rattle.dlk_nodes.proofs.Recordings.{recorded_state, recorded_flat, IsOneLine}
use Rattle.dlk_nodes.proofs.TermRecorded.{term_ends, term_recorded}
use Rattle.dlk_replay.specs.Files.{before_first_line, is_line_feed, file_lines, Becomes, accepted, whole, SaySteps}
use Rattle.dlk_replay.specs.Files.{done as ends_with}
use Rattle.dlk_replay.specs.Formats.{EndsFile, Format, SaysIn, behind_head}
use Rattle.dlk_replay.proofs.RowsGiven.{as_many, begins, in_two, rows_given_at_last, steps_said}

-- ---- the lines of a text

-- a line with its line feed is the first line of a file
first_line : (line rest : List ℕ) → IsOneLine line → file_lines (line ++ 10 ∷ rest) ≡ line ∷ file_lines rest
first_line [] rest h = refl
first_line (b ∷ line) rest h =
    let w = and_parts (not (is_line_feed b)) (list_all (λ c. not (is_line_feed c)) line) h in
    by_test (is_line_feed b) w.0 ∙ ap (before_first_line b) (first_line line rest w.1)
  where
    by_test : (feed : Bool) → not feed ≡ true →
        cond feed ([] ∷ file_lines (line ++ 10 ∷ rest)) (before_first_line b (file_lines (line ++ 10 ∷ rest)))
        ≡ before_first_line b (file_lines (line ++ 10 ∷ rest))
    by_test true other = absurd cc
    by_test false other = refl

pub lines_of_ended : (lines : List (List ℕ)) → All IsOneLine lines → file_lines (ended lines) ≡ lines
lines_of_ended [] h = refl
lines_of_ended (line ∷ lines) h =
    first_line line (ended lines) (All-head IsOneLine line lines h)
    ∙ ap (λ (l : List (List ℕ)). line ∷ l) (lines_of_ended lines (All-tail IsOneLine line lines h))

-- ---- steps that are taken

-- there are no more of them than rows may be
pub few_taken : (steps : List Step) (rows : List Provable) → Takes [] steps rows → length steps ≤ most_rows
few_taken _ _ none = omega arith
few_taken _ _ (more {steps} {mid} {step} {p} before given) =
    let few = ((taken_as_given mid step p).0 given).2 in
    let many = as_many (steps ++ step ∷ []) (mid ++ p ∷ []) (more before given) in
    let long = length_push mid p in
    omega (arith, few, many, long)

module _ (Other : Format) (steps : List Step) (rows : List Provable) (taken : Takes [] steps rows) (writable : AreWritable steps)
    (few : length (all_nodes [] steps) ≤ 999999999) where
  short : length steps ≤ 999999999
  short = let many = few_taken steps rows taken in omega (arith, many)

  written : Records (first_lines steps) (all_nodes [] steps) steps
  written = term_recorded steps writable few short

  done_ends : SaysIn Other (first_lines steps) (codes "done") EndsFile
  done_ends =
      let lines = first_lines steps in
      let nodes = all_nodes [] steps in
      in_two Other lines (codes "done") EndsFile (begins lines nodes steps written (codes "done"))
      (behind_head Done (recorded_state lines nodes steps written) done)

  file_is : file_lines (term_text steps) ≡ first_lines steps ++ codes "done" ∷ []
  file_is =
      let lines = first_lines steps in
      lines_of_ended (lines ++ codes "done" ∷ [])
      (All-push IsOneLine lines (codes "done") (recorded_flat lines (all_nodes [] steps) steps written) refl)

  -- the laws
  pub written_accepted : 1 ≤ length steps → Becomes (SaysIn Other) (file_lines (term_text steps)) (accepted rows (length (first_lines steps)))
  written_accepted some =
      let lines = first_lines steps in
      let given = rows_given_at_last Other lines (all_nodes [] steps) steps rows (term_ends steps writable some few short) taken in
      let rows_some : 1 ≤ length rows = omega (arith, some, as_many steps rows taken) in
      subst (λ ls. Becomes (SaysIn Other) ls (accepted rows (length lines))) (sym file_is) (whole given rows_some done_ends)

  pub written_says : SaySteps (SaysIn Other) [] (file_lines (term_text steps)) steps
  written_says =
      let lines = first_lines steps in
      let all = steps_said Other lines (all_nodes [] steps) steps written (codes "done" ∷ []) [] (ends_with done_ends) in
      subst (λ ls. SaySteps (SaysIn Other) [] ls steps) (sym file_is) (subst (SaySteps (SaysIn Other) [] (lines ++ codes "done" ∷ [])) (append-nil steps) all)
