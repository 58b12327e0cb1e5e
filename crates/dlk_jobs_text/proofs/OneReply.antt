-- There is one answer to the file of `print`, and to that of `vars`.
use Rattle.std.proofs.Common.{◌≡◌, ℕ, List, Bool, ap, subst}
use Rattle.dlk_tree.specs.Trees.{Tree}
use Rattle.dlk_tree.specs.Statics.{free, bound, must}
use Rattle.dlk_tree.specs.declared.op.Var.{Var}
use Rattle.dlk_tree.proofs.Listing.{one_listing, one_signature}
use Rattle.dlk_grammar.specs.declared.token.Dots.TheVariants.{Allowed}
use Rattle.dlk_grammar.specs.declared.token.Form.TheVariants.{Expression}
use Rattle.dlk_machine.proofs.TextLaws.{one_tree_text, tree_or_fault, one_tree_fault}
use Rattle.dlk_replies.specs.Replies.{Reply}
use Rattle.dlk_replies.specs.declared.form.Role.TheVariants.{File}
use Rattle.dlk_replies.specs.Refusals.{text_refused}
use Rattle.dlk_jobs_text.specs.Prints.{Prints, bad_text, prints, printed}
use Rattle.dlk_jobs_text.specs.Lists.{Lists, lists, bad_text as lists_fault, IsWritten, AreWritten, set_listed, symbols_listed, set_text}
use Rattle.dlk_jobs_text.specs.Lists.{signature_text, four_lines}

pub one_print : (file : List ℕ) (r s : Reply) → Prints file r → Prints file s → r ≡ s
one_print file r s (bad_text why a) (bad_text other b) = ap (text_refused File) (one_tree_fault Expression Allowed file why other a b)
one_print file r s (bad_text why a) (prints u b) = absurd (tree_or_fault Expression Allowed file u why b a)
one_print file r s (prints t a) (bad_text other b) = absurd (tree_or_fault Expression Allowed file t other a b)
one_print file r s (prints t a) (prints u b) = ap printed (one_tree_text Expression Allowed file t u a b)

one_set : (set : Var → Bool) (x y : List ℕ) → IsWritten set x → IsWritten set y → x ≡ y
one_set set x y (set_listed b vs l) (set_listed c ws m) =
    let same = one_listing set b c vs ws l m in
    λ i. set_text (same.0 i) (same.1 i)

one_symbols : (t : Tree) (x y : List ℕ) → AreWritten t x → AreWritten t y → x ≡ y
one_symbols t x y (symbols_listed ss a) (symbols_listed ts b) = ap signature_text (one_signature t ss ts a b)

pub one_list : (file : List ℕ) (r s : Reply) → Lists file r → Lists file s → r ≡ s
one_list file r s (lists_fault why a) (lists_fault other b) = ap (text_refused File) (one_tree_fault Expression Allowed file why other a b)
one_list file r s (lists_fault why a) (lists u b f' b' m' s' wf wb wm ws) = absurd (tree_or_fault Expression Allowed file u why b a)
one_list file r s (lists t a f b m s' wf wb wm ws) (lists_fault other e) = absurd (tree_or_fault Expression Allowed file t other a e)
one_list file r s (lists t a f b m syms wf wb wm ws) (lists u a' f' b' m' syms' wf' wb' wm' ws') =
    let same = one_tree_text Expression Allowed file t u a a' in
    let free_is = one_set (free u) f f' (subst (λ v. IsWritten (free v) f) same wf) wf' in
    let bound_is = one_set (bound u) b b' (subst (λ v. IsWritten (bound v) b) same wb) wb' in
    let must_is = one_set (must u) m m' (subst (λ v. IsWritten (must v) m) same wm) wm' in
    let symbols_are = one_symbols u syms syms' (subst (λ v. AreWritten v syms) same ws) ws' in
    λ i. four_lines (free_is i) (bound_is i) (must_is i) (symbols_are i)
