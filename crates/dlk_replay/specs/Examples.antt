-- The lines of some files, in which 10 is the line feed, and the steps that they say.
use Rattle.std.specs.Prelude.{◌≡◌, true, false, [], ◌∷◌, ◌++◌, codes, refl}
use Rattle.std.proofs.Common.{lit≤}
use Rattle.dlk_calculus.specs.Steps.{UseAxiom, Merge}
use Rattle.dlk_lines.specs.Numbers.{IsNumber, number}
use Rattle.dlk_lines.specs.Spelled.{ByNodes}
use Rattle.dlk_lines.specs.Lines.{use_axiom, merge, IsStepLine, numbered}
use Rattle.dlk_termtext.specs.Lines.{of_step}
use Rattle.dlk_termtext.specs.Lines as line
use Rattle.dlk_nodes.specs.Files.{only_head, one_step}
use Rattle.dlk_nodes.specs.Lines.{Numbered, Done}
use Rattle.dlk_nodes.specs.Lines as by_nodes
use Rattle.dlk_replay.specs.Formats.{begins_two, head, behind_head}
use Rattle.dlk_replay.specs.Files.{file_lines, FileSteps, done, more, none}

nothing : file_lines [] ≡ []
nothing = refl

-- the last line feed may be missing
last_ended : file_lines (65 ∷ 10 ∷ 66 ∷ 10 ∷ []) ≡ (65 ∷ []) ∷ (66 ∷ []) ∷ []
last_ended = refl

last_unended : file_lines (65 ∷ 10 ∷ 66 ∷ []) ≡ (65 ∷ []) ∷ (66 ∷ []) ∷ []
last_unended = refl

-- a line feed alone ends an empty line
empty_lines : file_lines (10 ∷ 65 ∷ 10 ∷ 10 ∷ []) ≡ [] ∷ (65 ∷ []) ∷ [] ∷ []
empty_lines = refl

-- a file of version 2 begins with its head alone
version_two : begins_two (file_lines (codes "dlk 2\n1 axiom DW\ndone\n")) ≡ true
version_two = refl

no_other_head : begins_two (file_lines (codes "dlk 2" ++ 13 ∷ 10 ∷ [])) ≡ false
no_other_head = refl

nothing_begins : begins_two (file_lines []) ≡ false
nothing_begins = refl

-- `done` alone says no steps
no_steps : FileSteps (file_lines (codes "done")) []
no_steps = done line.done

-- each line before it says one
two_steps : FileSteps (file_lines (codes "1 axiom DW" ++ 10 ∷ codes "2 merge 1 3 1" ++ 10 ∷ codes "done" ++ 10 ∷ [])) (UseAxiom (codes "DW") ∷ Merge 1 3 1 ∷ [])
two_steps = more (of_step (numbered one (use_axiom refl))) (more (of_step (numbered two (merge one three one))) (done line.done))
  where
    one : IsNumber (codes "1") 1
    one = number 49 [] refl refl (lit≤ tt)

    two : IsNumber (codes "2") 2
    two = number 50 [] refl refl (lit≤ tt)

    three : IsNumber (codes "3") 3
    three = number 51 [] refl refl (lit≤ tt)

-- the head of version 2 says none
behind_its_head : FileSteps (file_lines (codes "dlk 2\n1 axiom DW\ndone\n")) (UseAxiom (codes "DW") ∷ [])
behind_its_head = none head (more (behind_head (Numbered 1 (UseAxiom (codes "DW"))) only_head (by_nodes.of_step first))
    (done (behind_head Done (one_step only_head first) by_nodes.done)))
  where
    first : IsStepLine (ByNodes []) (codes "1 axiom DW") 1 (UseAxiom (codes "DW"))
    first = numbered (number 49 [] refl refl (lit≤ tt)) (use_axiom refl)
