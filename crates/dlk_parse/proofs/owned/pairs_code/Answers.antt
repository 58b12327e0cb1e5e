use Rattle.std.proofs.lemmas.Result.{err_from_is_err_and}
use Rattle.dlk_grammar.specs.declared.token.Dots.TheVariants.{Allowed}
use Rattle.dlk_grammar.specs.Substitutions.{ReadsSubstitution, replacements, ArePairsFault}
use Rattle.dlk_forms.specs.Said.{SaysPairs}
use Rattle.dlk_machine.proofs.ParseLaws.{one_pairs_read}
use Rattle.dlk_parse.proofs.SaidPairs.{pairs_places, pairs_beyond, pairs_within}
use Rattle.dlk_parse.proofs.FromOrigins.{as_text_fault, refused}
use Rattle.dlk_parse.proofs.Reports.{unruly}
use Rattle.dlk_parse.proofs.owned.pairs_code.Goals as goal

pub returns-in_err-check_tokens-in-Ok-clause-fault : goal.returns-in_err-check_tokens-in-Ok-clause-fault
returns-in_err-check_tokens-in-Ok-clause-fault c =
    let w = err_from_is_err_and c.from_residual.result c.from_residual.ensures.1 in
    let h = rw c.new-source.ensures.origin at c.in-Ok.ensures in
    let past = c.in_err-check_tokens-in-Ok.ensures h.tokens h.noted in
    rw (w.1, w.2) (as_text_fault (ArePairsFault) c.args.origin h.tokens h.gives c.in_err-check_tokens-in-Ok.field-0.0
    (unruly ReadsSubstitution replacements one_pairs_read Allowed h.tokens c.in_err-check_tokens-in-Ok.field-0.0 past))

pub check_code-requires : goal.check_code-requires
check_code-requires c =
    let h = rw c.new-source.ensures.origin at c.in-Ok.ensures in
    rw (c.starts.ensures h.tokens h.noted, c.as_slice.ensures.value) (pairs_places h.tokens c.in-Ok.pairs h.answer.says)

pub returns-in_err-check_code-in-Ok-clause-fault : goal.returns-in_err-check_code-in-Ok-clause-fault
returns-in_err-check_code-in-Ok-clause-fault c =
    let w = err_from_is_err_and c.from_residual-in_err-check_code-in-Ok.result c.from_residual-in_err-check_code-in-Ok.ensures.1 in
    let h = rw c.new-source.ensures.origin at c.in-Ok.ensures in
    let calm = c.in_ok-check_tokens-in-Ok.ensures h.tokens h.noted in
    let past = rw (c.as_slice.ensures.value, c.starts.ensures h.tokens h.noted) at c.in_err-check_code-in-Ok.ensures in
    rw (w.1, w.2) (as_text_fault (ArePairsFault) c.args.origin h.tokens h.gives c.in_err-check_code-in-Ok.field-0.0
    (pairs_beyond h.tokens c.in-Ok.pairs calm h.answer.says c.in_err-check_code-in-Ok.field-0.0 past))

pub returns-in-Ok-clause-read : goal.returns-in-Ok-clause-read
returns-in-Ok-clause-read c =
    let h = rw c.new-source.ensures.origin at c.in-Ok.ensures in
    let calm = c.in_ok-check_tokens-in-Ok.ensures h.tokens h.noted in
    (h.tokens, h.gives, pairs_within h.tokens c.in-Ok.pairs calm h.answer.says (rw c.as_slice.ensures.value at c.in_ok-check_code-in-Ok.ensures))

pub returns-clause-fault : goal.returns-clause-fault
returns-clause-fault c =
    refused ReadsSubstitution replacements one_pairs_read Allowed (SaysPairs) c.args.origin c.read_pairs.new.source _ c.new-source.ensures.origin c.in-Err.stop
    c.refusal.result c.in-Err.ensures c.refusal.ensures
