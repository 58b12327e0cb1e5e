use Rattle.std.proofs.Common.{◌≡◌, ◌++◌, [], length, codes, sym, ap, subst, ◌∙◌, arith, length-append}
use Rattle.dlk_rules.specs.Steps.{step_at}
use Rattle.dlk_print.specs.Printed.{Begun}
use Rattle.dlk_print.proofs.Left.{partly, appended}
use Rattle.dlk_lines.specs.Spelled.{ByNodes}
use Rattle.dlk_lines.specs.Written.{line_text, trees_of}
use Rattle.dlk_nodes.specs.Tables.{nodes_at}
use Rattle.dlk_nodes.specs.TermFiles.{node_lines, ended}
use Rattle.dlk_nodes.specs.Terms.{new_in_each}
use Rattle.dlk_nodes.proofs.KidsBefore.{each_follow}
use Rattle.dlk_nodes.proofs.StepLines.{lines_are, follow_are, as_many, its_text_left, whole_text, all_begun, nothing_begun, no_looks}
use Rattle.dlk_nodes.proofs.term.write_step.Goals as goal

pub returns-in_err-add_step-clause-begun : goal.returns-in_err-add_step-clause-begun
returns-in_err-add_step-clause-begun g c =
    nothing_begun _ _

pub append_nodes-requires-clause-from : goal.append_nodes-requires-clause-from
append_nodes-requires-clause-from g c =
    let trees = g.S.Store.trees c.args.store.now in
    let nodes = nodes_at trees c.args.table.now in
    let new = nodes_at trees c.add_step.new.table in
    let step = step_at trees c.args.step.now in
    let more = new_in_each nodes (trees_of step) in
    let long : c.len-from.result ≡ length nodes = c.len-from.ensures ∙ sym (as_many trees c.args.table.now) in
    let added : new ≡ nodes ++ more = c.in_ok-add_step.ensures.added in
    omega (arith, long, ap length added, length-append nodes more, as_many trees c.add_step.new.table)

pub append_nodes-requires-clause-follow : goal.append_nodes-requires-clause-follow
append_nodes-requires-clause-follow g c =
    let trees = g.S.Store.trees c.args.store.now in
    let nodes = nodes_at trees c.args.table.now in
    let new = nodes_at trees c.add_step.new.table in
    let step = step_at trees c.args.step.now in
    let more = new_in_each nodes (trees_of step) in
    let long : c.len-from.result ≡ length nodes = c.len-from.ensures ∙ sym (as_many trees c.args.table.now) in
    let added : new ≡ nodes ++ more = c.in_ok-add_step.ensures.added in
    follow_are c.len-from.result nodes more new long added (each_follow nodes (trees_of step))

pub returns-in_err-append_nodes-clause-begun : goal.returns-in_err-append_nodes-clause-begun
returns-in_err-append_nodes-clause-begun g c =
    let trees = g.S.Store.trees c.args.store.now in
    let nodes = nodes_at trees c.args.table.now in
    let new = nodes_at trees c.add_step.new.table in
    let step = step_at trees c.args.step.now in
    let more = new_in_each nodes (trees_of step) in
    let long : c.len-from.result ≡ length nodes = c.len-from.ensures ∙ sym (as_many trees c.args.table.now) in
    let added : new ≡ nodes ++ more = c.in_ok-add_step.ensures.added in
    let none = its_text_left c.args.out.now.items nodes c.args.number step in
    partly (ended (node_lines nodes more)) _ none
    (subst (λ l. Begun c.args.out.now.items c.append_nodes.new.out.items l) (lines_are c.len-from.result nodes more new long added)
    c.in_err-append_nodes.ensures.text.begun)

pub returns-in_err-write_step_line-clause-begun : goal.returns-in_err-write_step_line-clause-begun
returns-in_err-write_step_line-clause-begun g c =
    let trees = g.S.Store.trees c.args.store.now in
    let nodes = nodes_at trees c.args.table.now in
    let new = nodes_at trees c.add_step.new.table in
    let step = step_at trees c.args.step.now in
    let more = new_in_each nodes (trees_of step) in
    let long : c.len-from.result ≡ length nodes = c.len-from.ensures ∙ sym (as_many trees c.args.table.now) in
    let added : new ≡ nodes ++ more = c.in_ok-add_step.ensures.added in
    let none = its_text_left c.args.out.now.items nodes c.args.number step in
    let lines = appended (ended (node_lines nodes more)) _ none
    (c.in_ok-append_nodes.ensures.text.ok ∙ ap (λ l. c.args.out.now.items ++ l) (lines_are c.len-from.result nodes more new long added)) in
    partly (line_text (ByNodes (nodes ++ more)) c.args.number step) (codes "\n") lines
    (subst (λ n. Begun c.append_nodes.new.out.items c.write_step_line.new.out.items (line_text (ByNodes n) c.args.number step)) added
    c.in_err-write_step_line.ensures.text.begun)

pub returns-in_err-append-clause-begun : goal.returns-in_err-append-clause-begun
returns-in_err-append-clause-begun g c =
    let trees = g.S.Store.trees c.args.store.now in
    let nodes = nodes_at trees c.args.table.now in
    let new = nodes_at trees c.add_step.new.table in
    let step = step_at trees c.args.step.now in
    let more = new_in_each nodes (trees_of step) in
    let long : c.len-from.result ≡ length nodes = c.len-from.ensures ∙ sym (as_many trees c.args.table.now) in
    let added : new ≡ nodes ++ more = c.in_ok-add_step.ensures.added in
    let none = its_text_left c.args.out.now.items nodes c.args.number step in
    let lines = appended (ended (node_lines nodes more)) _ none
    (c.in_ok-append_nodes.ensures.text.ok ∙ ap (λ l. c.args.out.now.items ++ l) (lines_are c.len-from.result nodes more new long added)) in
    let line = appended (line_text (ByNodes (nodes ++ more)) c.args.number step) (codes "\n") lines
    (c.in_ok-write_step_line.ensures.text.ok ∙ ap (λ n. c.append_nodes.new.out.items ++ line_text (ByNodes n) c.args.number step) added) in
    partly (codes "\n") [] line c.in_err-append.ensures.begun

pub returns-clause-text : goal.returns-clause-text
returns-clause-text g c =
    let trees = g.S.Store.trees c.args.store.now in
    let nodes = nodes_at trees c.args.table.now in
    let new = nodes_at trees c.add_step.new.table in
    let step = step_at trees c.args.step.now in
    let more = new_in_each nodes (trees_of step) in
    let long : c.len-from.result ≡ length nodes = c.len-from.ensures ∙ sym (as_many trees c.args.table.now) in
    let added : new ≡ nodes ++ more = c.in_ok-add_step.ensures.added in
    let none = its_text_left c.args.out.now.items nodes c.args.number step in
    let lines = appended (ended (node_lines nodes more)) _ none
    (c.in_ok-append_nodes.ensures.text.ok ∙ ap (λ l. c.args.out.now.items ++ l) (lines_are c.len-from.result nodes more new long added)) in
    let line = appended (line_text (ByNodes (nodes ++ more)) c.args.number step) (codes "\n") lines
    (c.in_ok-write_step_line.ensures.text.ok ∙ ap (λ n. c.append_nodes.new.out.items ++ line_text (ByNodes n) c.args.number step) added) in
    whole_text (appended (codes "\n") [] line c.in_ok-append.ensures.ok)

pub returns-clause-begun : goal.returns-clause-begun
returns-clause-begun g c =
    let trees = g.S.Store.trees c.args.store.now in
    let nodes = nodes_at trees c.args.table.now in
    let new = nodes_at trees c.add_step.new.table in
    let step = step_at trees c.args.step.now in
    let more = new_in_each nodes (trees_of step) in
    let long : c.len-from.result ≡ length nodes = c.len-from.ensures ∙ sym (as_many trees c.args.table.now) in
    let added : new ≡ nodes ++ more = c.in_ok-add_step.ensures.added in
    let none = its_text_left c.args.out.now.items nodes c.args.number step in
    let lines = appended (ended (node_lines nodes more)) _ none
    (c.in_ok-append_nodes.ensures.text.ok ∙ ap (λ l. c.args.out.now.items ++ l) (lines_are c.len-from.result nodes more new long added)) in
    let line = appended (line_text (ByNodes (nodes ++ more)) c.args.number step) (codes "\n") lines
    (c.in_ok-write_step_line.ensures.text.ok ∙ ap (λ n. c.append_nodes.new.out.items ++ line_text (ByNodes n) c.args.number step) added) in
    all_begun (appended (codes "\n") [] line c.in_ok-append.ensures.ok)

pub returns-clause-looks : goal.returns-clause-looks
returns-clause-looks g c =
    let trees = g.S.Store.trees c.args.store.now in
    let nodes = nodes_at trees c.args.table.now in
    let new = nodes_at trees c.add_step.new.table in
    let step = step_at trees c.args.step.now in
    let more = new_in_each nodes (trees_of step) in
    let long : c.len-from.result ≡ length nodes = c.len-from.ensures ∙ sym (as_many trees c.args.table.now) in
    let added : new ≡ nodes ++ more = c.in_ok-add_step.ensures.added in
    omega (
      arith,
      c.in_ok-add_step.ensures.looks,
      c.in_ok-append_nodes.ensures.looks,
      c.in_ok-write_step_line.ensures.cost,
      no_looks new step,
      c.len-from.ensures,
      long,
      ap length added,
      length-append nodes more,
      as_many trees c.add_step.new.table,
    )
