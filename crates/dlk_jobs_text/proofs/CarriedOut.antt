-- What `print`, `vars` and `subst` answer is carried out.
use Rattle.std.proofs.Common.{ℕ, List, arith}
use Rattle.dlk_replies.specs.declared.form.Role.TheVariants.{File, Substitution}
use Rattle.dlk_replies.specs.Replies.{Reply}
use Rattle.dlk_replies.proofs.CarriedOut.{IsCarriedOut, printed_only, text_carried_out}
use Rattle.dlk_jobs_text.specs.Prints.{Prints, bad_text, prints}
use Rattle.dlk_jobs_text.specs.Lists.{Lists, lists, bad_text as lists_fault}
use Rattle.dlk_jobs_text.specs.Substitutes.{Substitutes, bad_file, bad_subst, bad_pair, not_admissible, too_big, too_deep, prints as prints_result}

pub print_carried_out : (file : List ℕ) (reply : Reply) → Prints file reply → IsCarriedOut reply
print_carried_out file reply (bad_text why fault) = text_carried_out File why
print_carried_out file reply (prints t reads) = printed_only _ _ (omega arith)

pub list_carried_out : (file : List ℕ) (reply : Reply) → Lists file reply → IsCarriedOut reply
list_carried_out file reply (lists_fault why fault) = text_carried_out File why
list_carried_out file reply (lists t reads f b m s wf wb wm ws) = printed_only _ _ (omega arith)

pub substitute_carried_out : (file substitution : List ℕ) (reply : Reply) → Substitutes file substitution reply → IsCarriedOut reply
substitute_carried_out file substitution reply (bad_file why fault) = text_carried_out File why
substitute_carried_out file substitution reply (bad_subst e reads why fault) = text_carried_out Substitution why
substitute_carried_out file substitution reply (bad_pair e pairs read n why is) = printed_only _ _ (omega arith)
substitute_carried_out file substitution reply (not_admissible e pairs read good none) = printed_only _ _ (omega arith)
substitute_carried_out file substitution reply (too_big e pairs read t has past) = printed_only _ _ (omega arith)
substitute_carried_out file substitution reply (too_deep e pairs read t has small past) = printed_only _ _ (omega arith)
substitute_carried_out file substitution reply (prints_result e pairs read t has small shallow) = printed_only _ _ (omega arith)
