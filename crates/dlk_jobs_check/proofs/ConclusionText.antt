-- The printed text of another conclusion.
use Rattle.std.proofs.Common.{◌≡◌, ℕ, List, [], ◌∷◌, ◌++◌, codes, decimal, ap, ◌∙◌, append_assoc}
use Rattle.dlk_tree.specs.Trees.{Tree}
use Rattle.dlk_store.specs.declared.Id.{Id}
use Rattle.dlk_store.specs.Stores.{tree}
use Rattle.dlk_calculus.specs.Sequents.{Sequent as TreeSequent}
use Rattle.dlk_sequent.specs.declared.sequent.Sequent.{Sequent}
use Rattle.dlk_sequent.specs.Sequents.{sequent_at}
use Rattle.dlk_grammar.specs.Shown.{spell, shown_sequent}
use Rattle.dlk_replies.specs.declared.reply.Status.TheVariants.{Refused}
use Rattle.dlk_replies.specs.Replies.{printing}
use Rattle.dlk_jobs_check.specs.Terms.{proves, other_conclusion}

-- the parts of a text one after another, and the same parts as three lines
three_lines : (a b c number expected found n : List ℕ) →
    ((((a ++ (number ++ (n ++ b))) ++ expected) ++ (n ++ c)) ++ found) ++ n ≡ ((a ++ number) ++ n) ++ ((b ++ expected) ++ n) ++ ((c ++ found) ++ n)
three_lines a b c number expected found n = simp append_assoc

conclusion_text : (a b c number expected found p q r s t : List ℕ) → p ≡ a ++ (number ++ 10 ∷ b) →
    q ≡ p ++ expected → r ≡ q ++ 10 ∷ c → s ≡ r ++ found → t ≡ s ++ 10 ∷ [] →
    t ≡ ((a ++ number) ++ 10 ∷ []) ++ ((b ++ expected) ++ 10 ∷ []) ++ ((c ++ found) ++ 10 ∷ [])
conclusion_text a b c number expected found p q r s t p_is q_is r_is s_is t_is =
    t_is ∙ ap (λ x. x ++ 10 ∷ []) (s_is ∙ ap (λ x. x ++ found) (r_is ∙ ap (λ x. x ++ 10 ∷ c) (q_is ∙ ap (λ x. x ++ expected) p_is)))
    ∙ three_lines a b c number expected found (10 ∷ [])

-- the pieces before the first conclusion
first_pieces : (a number b none one two p : List ℕ) → none ≡ [] → one ≡ none ++ a → two ≡ one ++ number → p ≡ two ++ b → p ≡ a ++ (number ++ b)
first_pieces a number b none one two p none_is one_is two_is p_is =
    p_is ∙ ap (λ x. x ++ b) (two_is ∙ ap (λ x. x ++ number) (one_is ∙ ap (λ x. x ++ a) none_is)) ∙ append_assoc a number b

-- the sequent of one formula on the right, by ids
pub proved_at : (trees : List Tree) (f : Id) (s : Sequent) → s ≡ record { ante = []; succ = f ∷ [] } →
    spell (shown_sequent (sequent_at trees s)) ≡ spell (shown_sequent (proves (tree trees f)))
proved_at trees f s e = ap (λ x. spell (shown_sequent (sequent_at trees x))) e

pub conclusion_reply : (lines : ℕ) (f : Tree) (found : TreeSequent) (expected none one two p q r s t : List ℕ) → expected ≡ spell (shown_sequent (proves f)) →
    none ≡ [] → one ≡ none ++ codes "refused: other-conclusion " → two ≡ one ++ decimal lines → p ≡ two ++ codes "\nexpected " →
    q ≡ p ++ expected → r ≡ q ++ codes "\nfound " → s ≡ r ++ spell (shown_sequent found) → t ≡ s ++ 10 ∷ [] →
    printing Refused t ≡ other_conclusion lines f found
conclusion_reply lines f found expected none one two p q r s t e none_is one_is two_is p_is q_is r_is s_is t_is =
    ap (printing Refused)
    (conclusion_text (codes "refused: other-conclusion ") (codes "expected ") (codes "found ") (decimal lines) (spell (shown_sequent (proves f)))
    (spell (shown_sequent found)) p q r s t
    (first_pieces (codes "refused: other-conclusion ") (decimal lines) (codes "\nexpected ") none one two p none_is one_is two_is p_is)
    (q_is ∙ ap (λ x. p ++ x) e) r_is s_is t_is)
