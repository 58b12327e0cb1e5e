use Rattle.dlk_calculus.specs.Axioms.{loop_axioms, first_order_axioms, equality_axioms}
use Rattle.dlk_axioms.proofs.Groups.{assignments, other_boxes, domains, effects, evolutions, solutions, sums, products, comparisons, connectives, to_boxes}
use Rattle.dlk_axioms.proofs.Groups.{to_loops, to_domains, to_effects, to_odes, to_solutions, to_sums, to_products, to_comparisons, to_connectives}
use Rattle.dlk_axioms.proofs.Groups.{to_first_order, found, found_either, found_in_all}
use Rattle.dlk_axioms.proofs.lookup.axiom_row.Goals as goal

pub returns : goal.returns
returns c =
    let name = c.args.name.now in
    let in_assignment = found name c.assignment_rows.result.now assignments c.assignment_rows.ensures c.axiom_among.result c.axiom_among.ensures in
    let in_box = found name c.box_rows.result.now other_boxes c.box_rows.ensures c.axiom_among-2.result c.axiom_among-2.ensures in
    let in_loop = found name c.loop_rows.result.now loop_axioms c.loop_rows.ensures c.axiom_among-3.result c.axiom_among-3.ensures in
    let in_domain = found name c.domain_rows.result.now domains c.domain_rows.ensures c.axiom_among-4.result c.axiom_among-4.ensures in
    let in_effect = found name c.effect_rows.result.now effects c.effect_rows.ensures c.axiom_among-5.result c.axiom_among-5.ensures in
    let in_ode = found name c.ode_rows.result.now evolutions c.ode_rows.ensures c.axiom_among-6.result c.axiom_among-6.ensures in
    let in_solution = found name c.solution_rows.result.now solutions c.solution_rows.ensures c.axiom_among-7.result c.axiom_among-7.ensures in
    let in_sum_differential =
    found name c.sum_differential_rows.result.now sums c.sum_differential_rows.ensures c.axiom_among-8.result c.axiom_among-8.ensures in
    let in_product_differential =
    found name c.product_differential_rows.result.now products c.product_differential_rows.ensures c.axiom_among-9.result c.axiom_among-9.ensures in
    let in_comparison_differential = found name c.comparison_differential_rows.result.now comparisons c.comparison_differential_rows.ensures
    c.axiom_among-10.result c.axiom_among-10.ensures in
    let in_connective_differential = found name c.connective_differential_rows.result.now connectives c.connective_differential_rows.ensures
    c.axiom_among-11.result c.axiom_among-11.ensures in
    let in_first_order =
    found name c.first_order_rows.result.now first_order_axioms c.first_order_rows.ensures c.axiom_among-12.result c.axiom_among-12.ensures in
    let in_equality = found name c.equality_rows.result.now equality_axioms c.equality_rows.ensures c.axiom_among-13.result c.axiom_among-13.ensures in
    let up_to_boxes = found_either name assignments other_boxes c.axiom_among.result c.axiom_among-2.result c.or.result c.or.ensures in_assignment in_box in
    let up_to_loops = found_either name to_boxes loop_axioms c.or.result c.axiom_among-3.result c.or-2.result c.or-2.ensures up_to_boxes in_loop in
    let up_to_domains = found_either name to_loops domains c.or-2.result c.axiom_among-4.result c.or-3.result c.or-3.ensures up_to_loops in_domain in
    let up_to_effects = found_either name to_domains effects c.or-3.result c.axiom_among-5.result c.or-4.result c.or-4.ensures up_to_domains in_effect in
    let up_to_odes = found_either name to_effects evolutions c.or-4.result c.axiom_among-6.result c.or-5.result c.or-5.ensures up_to_effects in_ode in
    let up_to_solutions = found_either name to_odes solutions c.or-5.result c.axiom_among-7.result c.or-6.result c.or-6.ensures up_to_odes in_solution in
    let up_to_sums =
    found_either name to_solutions sums c.or-6.result c.axiom_among-8.result c.or-7.result c.or-7.ensures up_to_solutions in_sum_differential in
    let up_to_products =
    found_either name to_sums products c.or-7.result c.axiom_among-9.result c.or-8.result c.or-8.ensures up_to_sums in_product_differential in
    let up_to_comparisons =
    found_either name to_products comparisons c.or-8.result c.axiom_among-10.result c.or-9.result c.or-9.ensures up_to_products in_comparison_differential in
    let up_to_connectives = found_either name to_comparisons connectives c.or-9.result c.axiom_among-11.result c.or-10.result c.or-10.ensures up_to_comparisons
    in_connective_differential in
    let up_to_first_order = found_either name to_connectives first_order_axioms c.or-10.result c.axiom_among-12.result c.or-11.result c.or-11.ensures
    up_to_connectives in_first_order in
    let all =
    found_either name to_first_order equality_axioms c.or-11.result c.axiom_among-13.result c.or-12.result c.or-12.ensures up_to_first_order in_equality in
    found_in_all name c.or-12.result all
