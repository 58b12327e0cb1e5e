use Rattle.std.specs.Prelude.{List}
use Rattle.std.specs.Global.{Vec}
use Rattle.dlk_grammar.specs.declared.token.Token.{Token}
use Rattle.dlk_reader.specs.declared.code.Code.{Code}
use Rattle.std.proofs.lemmas.Result.{err_from_is_err_and}
use Rattle.dlk_grammar.specs.Readings.{grammar, itself, IsTreeFault}
use Rattle.dlk_forms.specs.Said.{SaysCode}
use Rattle.dlk_machine.proofs.TextLaws.{one_grammar}
use Rattle.dlk_parse.proofs.SaidLaws.{tree_places, tree_beyond, tree_within}
use Rattle.dlk_parse.proofs.FromOrigins.{as_text_fault, refused}
use Rattle.dlk_parse.proofs.Reports.{unruly}
use Rattle.dlk_parse.proofs.owned.tree_code.Goals as goal

pub returns-in_err-check_tokens-in-Ok-clause-fault : goal.returns-in_err-check_tokens-in-Ok-clause-fault
returns-in_err-check_tokens-in-Ok-clause-fault c =
    let w = err_from_is_err_and c.from_residual.result c.from_residual.ensures.1 in
    let h = rw c.new-source.ensures.origin at c.in-Ok.ensures in
    let past = c.in_err-check_tokens-in-Ok.ensures h.tokens h.noted in
    rw (w.1, w.2) (as_text_fault (IsTreeFault c.args.form c.args.dots) c.args.origin h.tokens h.gives c.in_err-check_tokens-in-Ok.field-0.0
    (unruly (grammar c.args.form) itself (one_grammar c.args.form) c.args.dots h.tokens c.in_err-check_tokens-in-Ok.field-0.0 past))

pub check_code-requires : goal.check_code-requires
check_code-requires c =
    let h = rw c.new-source.ensures.origin at c.in-Ok.ensures in
    rw (c.starts.ensures h.tokens h.noted, c.as_slice.ensures.value) (tree_places c.args.form c.args.dots h.tokens c.in-Ok.code.items h.answer.says)

pub returns-in_err-check_code-in-Ok-clause-fault : goal.returns-in_err-check_code-in-Ok-clause-fault
returns-in_err-check_code-in-Ok-clause-fault c =
    let w = err_from_is_err_and c.from_residual-in_err-check_code-in-Ok.result c.from_residual-in_err-check_code-in-Ok.ensures.1 in
    let h = rw c.new-source.ensures.origin at c.in-Ok.ensures in
    let calm = c.in_ok-check_tokens-in-Ok.ensures h.tokens h.noted in
    let past = rw (c.as_slice.ensures.value, c.starts.ensures h.tokens h.noted) at c.in_err-check_code-in-Ok.ensures in
    rw (w.1, w.2) (as_text_fault (IsTreeFault c.args.form c.args.dots) c.args.origin h.tokens h.gives c.in_err-check_code-in-Ok.field-0.0
    (tree_beyond c.args.form c.args.dots h.tokens c.in-Ok.code.items calm h.answer.says c.in_err-check_code-in-Ok.field-0.0 past))

pub returns-in-Ok-clause-read : goal.returns-in-Ok-clause-read
returns-in-Ok-clause-read c =
    let h = rw c.new-source.ensures.origin at c.in-Ok.ensures in
    let calm = c.in_ok-check_tokens-in-Ok.ensures h.tokens h.noted in (
      h.tokens,
      h.gives,
      tree_within c.args.form c.args.dots h.tokens c.in-Ok.code.items calm h.answer.says
          (rw c.as_slice.ensures.value at c.in_ok-check_code-in-Ok.ensures),
    )

pub returns-clause-fault : goal.returns-clause-fault
returns-clause-fault c =
    refused (grammar c.args.form) itself (one_grammar c.args.form) c.args.dots
    (λ (ts : List Token) (v : Vec Code). SaysCode (grammar c.args.form) itself c.args.dots ts v.items) c.args.origin c.read_tree.new.source _
    c.new-source.ensures.origin c.in-Err.stop c.refusal.result c.in-Err.ensures c.refusal.ensures
