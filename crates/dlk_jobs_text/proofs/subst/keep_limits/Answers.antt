use Rattle.std.proofs.Common.{◌≡◌, codes, inl, inr}
use Rattle.std.proofs.lemmas.Result.{IfOk-weaker}
use Rattle.dlk_tree.specs.Trees.{size, depth}
use Rattle.dlk_store.specs.Stores.{tree}
use Rattle.dlk_replies.specs.Replies.{refusal}
use Rattle.dlk_replies.specs.Shown.{reply_of}
use Rattle.dlk_replies.proofs.Ends.{ends_so}
use Rattle.dlk_jobs_text.specs.Refused.{RefusesLarge}
use Rattle.dlk_jobs_text.proofs.SubstAnswers.{past_nodes, past_depth, within_nodes, within_depth}
use Rattle.dlk_jobs_text.proofs.subst.keep_limits.Goals as goal

pub returns-then-size-gt-MOST_NODES-clause-refused : goal.returns-then-size-gt-MOST_NODES-clause-refused
returns-then-size-gt-MOST_NODES-clause-refused g c =
    let t = tree (g.S.Store.trees c.args.store.now) c.args.made in
    let past = past_nodes c.size.result (size t) c.size.ensures c.if-size-gt-MOST_NODES.true in
    ends_so (RefusesLarge t) c.refused.result c.end_by.result c.end_by.ensures
    (IfOk-weaker c.refused.result (λ r. reply_of r ≡ refusal (codes "result-too-big")) (λ r. RefusesLarge t (reply_of r)) (λ r is. inl (past, is))
    c.refused.ensures)

pub returns-then-depth-gt-GREATEST_DEPTH-clause-refused : goal.returns-then-depth-gt-GREATEST_DEPTH-clause-refused
returns-then-depth-gt-GREATEST_DEPTH-clause-refused g c =
    let t = tree (g.S.Store.trees c.args.store.now) c.args.made in
    let small = within_nodes c.size.result (size t) c.size.ensures c.if-size-gt-MOST_NODES.false in
    let past = past_depth c.depth.result (depth t) c.depth.ensures c.if-depth-gt-GREATEST_DEPTH.true in
    let refused = c.refused-then-depth-gt-GREATEST_DEPTH in
    let end = c.end_by-then-depth-gt-GREATEST_DEPTH in
    ends_so (RefusesLarge t) refused.result end.result end.ensures
    (IfOk-weaker refused.result (λ r. reply_of r ≡ refusal (codes "result-too-deep")) (λ r. RefusesLarge t (reply_of r)) (λ r is. inr (small, past, is))
    refused.ensures)

pub returns-clause-small : goal.returns-clause-small
returns-clause-small g c =
    within_nodes c.size.result (size (tree (g.S.Store.trees c.args.store.now) c.args.made)) c.size.ensures c.if-size-gt-MOST_NODES.false

pub returns-clause-shallow : goal.returns-clause-shallow
returns-clause-shallow g c =
    within_depth c.depth.result (depth (tree (g.S.Store.trees c.args.store.now) c.args.made)) c.depth.ensures c.if-depth-gt-GREATEST_DEPTH.false
