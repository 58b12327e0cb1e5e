use Rattle.std.proofs.Common.{◌≡◌, ◌≢◌, ◌++◌, ℕ, List, None, Some}
use Rattle.std.specs.Prelude.{codes}
use Rattle.std.proofs.lemmas.Bool.Decides.{Decides-eqb}
use Rattle.std.proofs.lemmas.Slice.Eq.{strip_suffix_is}
use Rattle.dlk_lines.proofs.Cuts.{bracketed_cut, cut_bracketed, one_cut}
use Rattle.dlk_lines.proofs.Forms.{if_none}
use Rattle.dlk_lines.proofs.parts.bracketed.Goals as goal

pub returns-in_err-word-clause-none : goal.returns-in_err-word-clause-none
returns-in_err-word-clause-none c =
    if_none c.from_residual.result (λ word arguments is. c.in_err-word.ensures.none word _ (cut_bracketed c.args.text.now word arguments is).text_is)

pub returns-in_err-arguments-clause-none : goal.returns-in_err-arguments-clause-none
returns-in_err-arguments-clause-none c =
    let rest = c.in_ok-word.rest.now in
    let open_end : (front : List ℕ) → rest ≢ front ++ c.as_slice.result.now =
    strip_suffix_is Decides-eqb rest c.as_slice.result.now None c.in_err-arguments.ensures.cases in
    if_none c.from_residual-in_err-arguments.result (λ word arguments is.
    let same =
    one_cut c.args.text.now 40 c.in_ok-word.word.now word rest
    (arguments ++ codes ")") c.in_ok-word.ensures.found (cut_bracketed c.args.text.now word arguments is) in
    open_end arguments (rw c.as_slice.ensures same.1))

pub returns-clause-found : goal.returns-clause-found
returns-clause-found c =
    let rest = c.in_ok-word.rest.now in
    let closed : rest ≡ c.in_ok-arguments.arguments.now ++ c.as_slice.result.now =
    strip_suffix_is Decides-eqb rest c.as_slice.result.now (Some c.in_ok-arguments.arguments) c.in_ok-arguments.ensures.cases in
    bracketed_cut c.args.text.now c.in_ok-word.word.now rest c.in_ok-arguments.arguments.now c.in_ok-word.ensures.found (rw c.as_slice.ensures at closed)
