-- The printed text of a summary.
use Rattle.std.proofs.Common.{◌≡◌, ℕ, Bool, false, List, [], ◌∷◌, ◌++◌, length, map, codes, decimal, sym, ap, ◌∙◌, append_assoc, rules}
use Rattle.std.specs.Prelude.{◌==◌}
use Rattle.dlk_tree.specs.Trees.{Tree}
use Rattle.dlk_calculus.specs.Sequents.{Sequent}
use Rattle.dlk_sequent.specs.declared.sequent.Sequent.{Sequent as IdSequent}
use Rattle.dlk_sequent.specs.Sequents.{sequent_at}
use Rattle.dlk_calculus.specs.Provables.{Provable}
use Rattle.dlk_report.specs.Reports.{is_closed, first_word}
use Rattle.dlk_replies.specs.declared.reply.Status.TheVariants.{Done}
use Rattle.dlk_replies.specs.Replies.{printing}
use Rattle.dlk_jobs_check.specs.Checks.{summed}

-- no goals are left where the list of them by ids is empty
pub closed_if_none : (trees : List Tree) (goals : List IdSequent) (left : List Sequent) (empty : Bool) → left ≡ map (sequent_at trees) goals →
    empty ≡ (length goals == 0) → empty ≡ is_closed left
closed_if_none trees [] left empty same is = is ∙ ap is_closed (sym same)
closed_if_none trees (goal ∷ goals) left empty same is =
    let some : (length (goal ∷ goals) == 0) ≡ false = search rules in
    is ∙ some ∙ ap is_closed (sym same)

-- the parts of a text one after another, and the same parts as four lines
four_lines : (a b c number lines leaves word n : List ℕ) →
    a ++ (number ++ ((n ++ b) ++ (lines ++ ((n ++ c) ++ (leaves ++ (n ++ (word ++ n)))))))
    ≡ ((a ++ number) ++ n) ++ (((b ++ lines) ++ n) ++ (((c ++ leaves) ++ n) ++ (word ++ n)))
four_lines a b c number lines leaves word n = simp append_assoc

pub summary_reply : (count lines leaves : ℕ) (p : Provable) (closed : Bool) (word text : List ℕ) → leaves ≡ length p.leaves → closed ≡ is_closed p.goals →
    word ≡ first_word closed →
    text ≡ codes "generated " ++ (decimal count
    ++ (codes "\nlines " ++ (decimal lines ++ (codes "\nleaves " ++ (decimal leaves ++ (codes "\n" ++ (word ++ codes "\n"))))))) →
    printing Done text ≡ summed count p lines
summary_reply count lines leaves p closed word text leaves_are closed_is word_is text_is =
    ap (printing Done)
    (text_is ∙ four_lines (codes "generated ") (codes "lines ") (codes "leaves ") (decimal count) (decimal lines) (decimal leaves) word (10 ∷ [])
    ∙ (λ i. ((codes "generated " ++ decimal count) ++ 10 ∷ []) ++ (((codes "lines " ++ decimal lines) ++ 10 ∷ [])
    ++ (((codes "leaves " ++ decimal (leaves_are i)) ++ 10 ∷ []) ++ ((word_is ∙ ap first_word closed_is) i ++ 10 ∷ [])))))
