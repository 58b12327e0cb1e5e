use Rattle.std.proofs.Common.{refl}
use Rattle.std.proofs.lemmas.Result.{err_from_is_err_and}
use Rattle.dlk_store.specs.Stores.{tree}
use Rattle.dlk_sequent.specs.Substitutions.{pairs_at}
use Rattle.dlk_grammar.specs.declared.token.Dots.TheVariants.{Refused}
use Rattle.dlk_replies.specs.Shown.{reply_of}
use Rattle.dlk_replies.proofs.Ends.{ends_weaker}
use Rattle.dlk_jobs_text.specs.Prints.{printed}
use Rattle.dlk_jobs_text.specs.Substitutes.{Substitutes}
use Rattle.dlk_jobs_text.specs.Refused.{RefusesFile, RefusesPairs, RefusesPair, RefusesUse, RefusesLarge}
use Rattle.dlk_jobs_text.proofs.SubstAnswers.{both_read, has_result, file_refused, pairs_refused, pair_answer, no_result_answer, large_answer, prints_answer}
use Rattle.dlk_jobs_text.proofs.FewLooks.{none_looked, few_looked, printed_looked, pair_looks, pairs_alone}
use Rattle.dlk_jobs_text.proofs.subst.subst_on.Goals as goal

pub returns-in_err-expression-clause-ended : goal.returns-in_err-expression-clause-ended
returns-in_err-expression-clause-ended g c =
    let file = c.args.file.now in
    let substitution = c.args.substitution.now in
    let p = err_from_is_err_and c.from_residual.result c.from_residual.ensures.1 in
    rw (p.1, p.2) (ends_weaker (RefusesFile Refused file) (Substitutes file substitution) (file_refused file substitution) _
    c.in_err-expression.ensures.refused)

pub returns-in_err-pairs-clause-ended : goal.returns-in_err-pairs-clause-ended
returns-in_err-pairs-clause-ended g c =
    let file = c.args.file.now in
    let substitution = c.args.substitution.now in
    let read = c.in_ok-expression.ensures.found in
    let p = err_from_is_err_and c.from_residual-in_err-pairs.result c.from_residual-in_err-pairs.ensures.1 in
    rw (p.1, p.2) (ends_weaker (RefusesPairs substitution) (Substitutes file substitution) (pairs_refused file substitution read.0 read.1) _
    c.in_err-pairs.ensures.refused)

pub returns-in_err-sigma-clause-ended : goal.returns-in_err-sigma-clause-ended
returns-in_err-sigma-clause-ended g c =
    let file = c.args.file.now in
    let substitution = c.args.substitution.now in
    let read = c.in_ok-expression.ensures.found in
    let old = g.S.Store.trees c.read_file.new.store in
    let trees = g.S.Store.trees c.read_pairs.new.store in
    let keeps = g.met.S.Store.grows_keeps c.read_file.new.store c.read_pairs.new.store c.read_pairs.ensures.grows in
    let e = tree trees c.in_ok-expression.expression in
    let said = c.in_ok-pairs.pairs.items in
    let both = both_read file substitution old trees c.in_ok-expression.expression read.0 said said read.1 read.2 keeps c.in_ok-pairs.ensures.found refl in
    let p = err_from_is_err_and c.from_residual-in_err-sigma.result c.from_residual-in_err-sigma.ensures.1 in
    rw (p.1, p.2) (ends_weaker (RefusesPair (pairs_at trees said)) (Substitutes file substitution)
    (pair_answer file substitution e (pairs_at trees said) both) _
    c.in_err-sigma.ensures.refused)

pub returns-in_err-made-clause-ended : goal.returns-in_err-made-clause-ended
returns-in_err-made-clause-ended g c =
    let file = c.args.file.now in
    let substitution = c.args.substitution.now in
    let read = c.in_ok-expression.ensures.found in
    let old = g.S.Store.trees c.read_file.new.store in
    let trees = g.S.Store.trees c.read_pairs.new.store in
    let keeps = g.met.S.Store.grows_keeps c.read_file.new.store c.read_pairs.new.store c.read_pairs.ensures.grows in
    let e = tree trees c.in_ok-expression.expression in
    let said = c.in_ok-pairs.pairs.items in
    let pairs = c.in_ok-sigma.sigma.pairs in
    let both = both_read file substitution old trees c.in_ok-expression.expression read.0 said pairs read.1 read.2 keeps c.in_ok-pairs.ensures.found
    c.in_ok-sigma.ensures.pairs in
    let p = err_from_is_err_and c.from_residual-in_err-made.result c.from_residual-in_err-made.ensures.1 in
    rw (p.1, p.2) (ends_weaker (RefusesUse (pairs_at trees pairs) e) (Substitutes file substitution)
    (no_result_answer file substitution e (pairs_at trees pairs) both c.in_ok-sigma.ensures.made.well_formed) _ c.in_err-made.ensures.refused)

pub returns-in_err-keep_limits-clause-ended : goal.returns-in_err-keep_limits-clause-ended
returns-in_err-keep_limits-clause-ended g c =
    let file = c.args.file.now in
    let substitution = c.args.substitution.now in
    let read = c.in_ok-expression.ensures.found in
    let old = g.S.Store.trees c.read_file.new.store in
    let trees = g.S.Store.trees c.read_pairs.new.store in
    let keeps = g.met.S.Store.grows_keeps c.read_file.new.store c.read_pairs.new.store c.read_pairs.ensures.grows in
    let e = tree trees c.in_ok-expression.expression in
    let said = c.in_ok-pairs.pairs.items in
    let pairs = c.in_ok-sigma.sigma.pairs in
    let both = both_read file substitution old trees c.in_ok-expression.expression read.0 said pairs read.1 read.2 keeps c.in_ok-pairs.ensures.found
    c.in_ok-sigma.ensures.pairs in
    let new = g.S.Store.trees c.result_of.new.store in
    let t = tree new c.in_ok-made.made in
    let has = has_result (pairs_at trees pairs) e new c.in_ok-made.made c.in_ok-sigma.ensures.made.well_formed c.in_ok-made.ensures.ok in
    let p = err_from_is_err_and c.from_residual-in_err-keep_limits.result c.from_residual-in_err-keep_limits.ensures.1 in
    rw (p.1, p.2) (ends_weaker (RefusesLarge t) (Substitutes file substitution) (large_answer file substitution e (pairs_at trees pairs) both t has) _
    c.in_err-keep_limits.ensures.refused)

pub returns-clause-reply : goal.returns-clause-reply
returns-clause-reply g c =
    let file = c.args.file.now in
    let substitution = c.args.substitution.now in
    let read = c.in_ok-expression.ensures.found in
    let old = g.S.Store.trees c.read_file.new.store in
    let trees = g.S.Store.trees c.read_pairs.new.store in
    let keeps = g.met.S.Store.grows_keeps c.read_file.new.store c.read_pairs.new.store c.read_pairs.ensures.grows in
    let e = tree trees c.in_ok-expression.expression in
    let said = c.in_ok-pairs.pairs.items in
    let pairs = c.in_ok-sigma.sigma.pairs in
    let both = both_read file substitution old trees c.in_ok-expression.expression read.0 said pairs read.1 read.2 keeps c.in_ok-pairs.ensures.found
    c.in_ok-sigma.ensures.pairs in
    let new = g.S.Store.trees c.result_of.new.store in
    let t = tree new c.in_ok-made.made in
    let has = has_result (pairs_at trees pairs) e new c.in_ok-made.made c.in_ok-sigma.ensures.made.well_formed c.in_ok-made.ensures.ok in
    prints_answer file substitution e (pairs_at trees pairs) both t has c.in_ok-keep_limits.ensures.small c.in_ok-keep_limits.ensures.shallow
    (reply_of c.in_ok-reply.reply) c.in_ok-reply.ensures

pub returns-in_err-expression-clause-looks : goal.returns-in_err-expression-clause-looks
returns-in_err-expression-clause-looks g c = none_looked c.args.file.now c.args.substitution.now _ _ refl

pub returns-in_err-pairs-clause-looks : goal.returns-in_err-pairs-clause-looks
returns-in_err-pairs-clause-looks g c = none_looked c.args.file.now c.args.substitution.now _ _ refl

pub returns-in_err-sigma-clause-looks : goal.returns-in_err-sigma-clause-looks
returns-in_err-sigma-clause-looks g c =
    let file = c.args.file.now in
    let substitution = c.args.substitution.now in
    let read = c.in_ok-expression.ensures.found in
    let old = g.S.Store.trees c.read_file.new.store in
    let trees = g.S.Store.trees c.read_pairs.new.store in
    let keeps = g.met.S.Store.grows_keeps c.read_file.new.store c.read_pairs.new.store c.read_pairs.ensures.grows in
    let e = tree trees c.in_ok-expression.expression in
    let said = c.in_ok-pairs.pairs.items in
    let both = both_read file substitution old trees c.in_ok-expression.expression read.0 said said read.1 read.2 keeps c.in_ok-pairs.ensures.found refl in
    few_looked file substitution e (pairs_at trees said) both _ _ (pairs_alone trees said e _ _ c.substitution_of.ensures.cost)

pub returns-in_err-made-clause-looks : goal.returns-in_err-made-clause-looks
returns-in_err-made-clause-looks g c =
    let file = c.args.file.now in
    let substitution = c.args.substitution.now in
    let read = c.in_ok-expression.ensures.found in
    let old = g.S.Store.trees c.read_file.new.store in
    let trees = g.S.Store.trees c.read_pairs.new.store in
    let keeps = g.met.S.Store.grows_keeps c.read_file.new.store c.read_pairs.new.store c.read_pairs.ensures.grows in
    let e = tree trees c.in_ok-expression.expression in
    let said = c.in_ok-pairs.pairs.items in
    let pairs = c.in_ok-sigma.sigma.pairs in
    let both = both_read file substitution old trees c.in_ok-expression.expression read.0 said pairs read.1 read.2 keeps c.in_ok-pairs.ensures.found
    c.in_ok-sigma.ensures.pairs in
    few_looked file substitution e (pairs_at trees pairs) both _ _
    (pair_looks trees pairs e _ _ _ (rw (← c.in_ok-sigma.ensures.pairs) at c.substitution_of.ensures.cost) (c.result_of.ensures.cost c.requires))

pub returns-in_err-keep_limits-clause-looks : goal.returns-in_err-keep_limits-clause-looks
returns-in_err-keep_limits-clause-looks g c =
    let file = c.args.file.now in
    let substitution = c.args.substitution.now in
    let read = c.in_ok-expression.ensures.found in
    let old = g.S.Store.trees c.read_file.new.store in
    let trees = g.S.Store.trees c.read_pairs.new.store in
    let keeps = g.met.S.Store.grows_keeps c.read_file.new.store c.read_pairs.new.store c.read_pairs.ensures.grows in
    let e = tree trees c.in_ok-expression.expression in
    let said = c.in_ok-pairs.pairs.items in
    let pairs = c.in_ok-sigma.sigma.pairs in
    let both = both_read file substitution old trees c.in_ok-expression.expression read.0 said pairs read.1 read.2 keeps c.in_ok-pairs.ensures.found
    c.in_ok-sigma.ensures.pairs in
    few_looked file substitution e (pairs_at trees pairs) both _ _
    (pair_looks trees pairs e _ _ _ (rw (← c.in_ok-sigma.ensures.pairs) at c.substitution_of.ensures.cost) (c.result_of.ensures.cost c.requires))

pub returns-in_err-reply-clause-looks : goal.returns-in_err-reply-clause-looks
returns-in_err-reply-clause-looks g c =
    let file = c.args.file.now in
    let substitution = c.args.substitution.now in
    let read = c.in_ok-expression.ensures.found in
    let old = g.S.Store.trees c.read_file.new.store in
    let trees = g.S.Store.trees c.read_pairs.new.store in
    let keeps = g.met.S.Store.grows_keeps c.read_file.new.store c.read_pairs.new.store c.read_pairs.ensures.grows in
    let e = tree trees c.in_ok-expression.expression in
    let said = c.in_ok-pairs.pairs.items in
    let pairs = c.in_ok-sigma.sigma.pairs in
    let both = both_read file substitution old trees c.in_ok-expression.expression read.0 said pairs read.1 read.2 keeps c.in_ok-pairs.ensures.found
    c.in_ok-sigma.ensures.pairs in
    let new = g.S.Store.trees c.result_of.new.store in
    let t = tree new c.in_ok-made.made in
    let has = has_result (pairs_at trees pairs) e new c.in_ok-made.made c.in_ok-sigma.ensures.made.well_formed c.in_ok-made.ensures.ok in
    let answer = prints_answer file substitution e (pairs_at trees pairs) both t has c.in_ok-keep_limits.ensures.small c.in_ok-keep_limits.ensures.shallow
    (printed t) refl in
    printed_looked file substitution (printed t) t answer refl _ _

pub returns-clause-looks : goal.returns-clause-looks
returns-clause-looks g c =
    let file = c.args.file.now in
    let substitution = c.args.substitution.now in
    let read = c.in_ok-expression.ensures.found in
    let old = g.S.Store.trees c.read_file.new.store in
    let trees = g.S.Store.trees c.read_pairs.new.store in
    let keeps = g.met.S.Store.grows_keeps c.read_file.new.store c.read_pairs.new.store c.read_pairs.ensures.grows in
    let e = tree trees c.in_ok-expression.expression in
    let said = c.in_ok-pairs.pairs.items in
    let pairs = c.in_ok-sigma.sigma.pairs in
    let both = both_read file substitution old trees c.in_ok-expression.expression read.0 said pairs read.1 read.2 keeps c.in_ok-pairs.ensures.found
    c.in_ok-sigma.ensures.pairs in
    let new = g.S.Store.trees c.result_of.new.store in
    let t = tree new c.in_ok-made.made in
    let has = has_result (pairs_at trees pairs) e new c.in_ok-made.made c.in_ok-sigma.ensures.made.well_formed c.in_ok-made.ensures.ok in
    let answer = prints_answer file substitution e (pairs_at trees pairs) both t has c.in_ok-keep_limits.ensures.small c.in_ok-keep_limits.ensures.shallow
    (printed t) refl in
    printed_looked file substitution (printed t) t answer refl _ _
