-- From a read tree to what `print` answers.
use Rattle.std.proofs.Common.{◌≡◌, ℕ, List, sym, ap, ◌∙◌, subst}
use Rattle.dlk_tree.specs.Trees.{Tree}
use Rattle.dlk_grammar.specs.declared.token.Dots.TheVariants.{Allowed}
use Rattle.dlk_replies.specs.Replies.{Reply}
use Rattle.dlk_jobs_text.specs.Prints.{Prints, bad_text, prints, printed, FileText}
use Rattle.dlk_jobs_text.specs.Refused.{RefusesFile}

pub print_refused : (file : List ℕ) (reply : Reply) → RefusesFile Allowed file reply → Prints file reply
print_refused file reply (why, fault, is) = subst (Prints file) (sym is) (bad_text why fault)

pub print_answer : (file : List ℕ) (t u : Tree) (reply : Reply) → FileText file t → u ≡ t → reply ≡ printed u → Prints file reply
print_answer file t u reply reads same is = subst (Prints file) (sym (is ∙ ap printed same)) (prints t reads)
