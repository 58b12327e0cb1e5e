-- From a read tree to what `vars` answers.
use Rattle.std.proofs.Common.{◌≡◌, ℕ, List, [], ◌∷◌, ◌++◌, codes, sym, ap, ◌∙◌, subst, append_assoc}
use Rattle.dlk_tree.specs.Trees.{Tree}
use Rattle.dlk_tree.specs.Statics.{free, bound, must}
use Rattle.dlk_tree.specs.Listed.{IsSignature}
use Rattle.dlk_tree.specs.declared.op.Sym.{Sym}
use Rattle.dlk_grammar.specs.declared.token.Dots.TheVariants.{Allowed}
use Rattle.dlk_store.specs.declared.listing.Listing.{Listing}
use Rattle.dlk_store.specs.Listings.{IsListingOf}
use Rattle.dlk_replies.specs.declared.reply.Status.TheVariants.{Done}
use Rattle.dlk_replies.specs.Replies.{Reply, printing}
use Rattle.dlk_print.specs.Lines.{line}
use Rattle.dlk_jobs_text.specs.Prints.{FileText}
use Rattle.dlk_jobs_text.specs.Refused.{RefusesFile}
use Rattle.dlk_jobs_text.specs.Lists.{Lists, bad_text, lists, set_text, signature_text, IsWritten, AreWritten, set_listed, symbols_listed}

pub list_refused : (file : List ℕ) (reply : Reply) → RefusesFile Allowed file reply → Lists file reply
list_refused file reply (why, fault, is) = subst (Lists file) (sym is) (bad_text why fault)

-- four lines, and what is appended line by line
four_texts : (a b c label d n : List ℕ) → ((((a ++ b) ++ c) ++ label) ++ d) ++ n ≡ a ++ (b ++ (c ++ ((label ++ d) ++ n)))
four_texts a b c label d n = simp append_assoc

abbrev text_of : Listing → List ℕ
text_of l = set_text l.all_but l.vars

-- What is appended one after the other are the four lines of these listings.
pub list_answer : (file : List ℕ) (t u : Tree) (f b m : Listing) (syms : List Sym) (none one two three label four ended : List ℕ) →
    FileText file t → u ≡ t → IsListingOf (free u) f → IsListingOf (bound u) b → IsListingOf (must u) m → IsSignature u syms →
    none ≡ [] → one ≡ none ++ line (codes "free: " ++ text_of f) → two ≡ one ++ line (codes "bound: " ++ text_of b) →
    three ≡ two ++ line (codes "must: " ++ text_of m) → label ≡ three ++ codes "symbols: " → four ≡ label ++ signature_text syms → ended ≡ four ++ 10 ∷ [] →
    Lists file (printing Done ended)
list_answer file t u f b m syms none one two three label four ended reads same is_free is_bound is_must are_symbols none_is one_is two_is three_is label_is
    four_is ended_is =
    let free_line = line (codes "free: " ++ text_of f) in
    let bound_line = line (codes "bound: " ++ text_of b) in
    let must_line = line (codes "must: " ++ text_of m) in
    let symbols = signature_text syms in
    let one_text : one ≡ free_line = one_is ∙ ap (λ l. l ++ free_line) none_is in
    let two_text : two ≡ free_line ++ bound_line = two_is ∙ ap (λ l. l ++ bound_line) one_text in
    let three_text : three ≡ (free_line ++ bound_line) ++ must_line = three_is ∙ ap (λ l. l ++ must_line) two_text in
    let label_text : label ≡ ((free_line ++ bound_line) ++ must_line) ++ codes "symbols: " = label_is ∙ ap (λ l. l ++ codes "symbols: ") three_text in
    let four_text : four ≡ (((free_line ++ bound_line) ++ must_line) ++ codes "symbols: ") ++ symbols = four_is ∙ ap (λ l. l ++ symbols) label_text in
    let printed = ended_is ∙ ap (λ l. l ++ 10 ∷ []) four_text ∙ four_texts free_line bound_line must_line (codes "symbols: ") symbols (10 ∷ []) in
    subst (λ l. Lists file (printing Done l)) (sym printed)
    (lists t reads (text_of f) (text_of b) (text_of m) symbols
    (subst (λ v. IsWritten (free v) (text_of f)) same (set_listed f.all_but f.vars is_free))
    (subst (λ v. IsWritten (bound v) (text_of b)) same (set_listed b.all_but b.vars is_bound))
    (subst (λ v. IsWritten (must v) (text_of m)) same (set_listed m.all_but m.vars is_must))
    (subst (λ v. AreWritten v symbols) same (symbols_listed syms are_symbols)))
