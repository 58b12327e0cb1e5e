use Rattle.std.proofs.Common.{ap, subst}
use Rattle.dlk_calculus.specs.Axioms.{AxiomaticRule}
use Rattle.dlk_axioms.specs.Answers.{StandsAlone}
use Rattle.dlk_axioms.proofs.RowLaws.{premise_made, conclusion_made}
use Rattle.dlk_axioms.proofs.Alone.{rule_at}
use Rattle.dlk_axioms.proofs.rules.axiomatic_rule.Goals as goal

pub make_alone_right-requires : goal.make_alone_right-requires
make_alone_right-requires g c =
    let h = c.in-Some.ensures in
    premise_made c.args.name.now h.0 c.in-Some.row.now h.1 h.2

pub make_alone_right-requires-2 : goal.make_alone_right-requires-2
make_alone_right-requires-2 g c =
    let h = c.in-Some.ensures in
    conclusion_made c.args.name.now h.0 c.in-Some.row.now h.1 h.2

pub returns-clause-rule : goal.returns-clause-rule
returns-clause-rule g c =
    let h = c.in-Some.ensures in
    let premise = c.in_ok-premise.premise in
    let conclusion = c.in_ok-conclusion.conclusion in
    let old = g.S.Store.trees c.make_alone_right.new.store in
    let new = g.S.Store.trees c.make_alone_right-2.new.store in
    let keeps = g.met.S.Store.grows_keeps c.make_alone_right.new.store c.make_alone_right-2.new.store c.make_alone_right-2.ensures.grows in (
      h.0,
      h.1,
      rule_at h.0 c.in_ok-premises.premises.items premise conclusion c.in_ok-premises.ensures.items keeps
          (subst (StandsAlone old premise) (ap (λ (r : AxiomaticRule). r.premise) h.2) c.in_ok-premise.ensures.made)
          (subst (StandsAlone new conclusion) (ap (λ (r : AxiomaticRule). r.conclusion) h.2) c.in_ok-conclusion.ensures.made),
    )

pub returns-in_err-conclusion-clause-grows : goal.returns-in_err-conclusion-clause-grows
returns-in_err-conclusion-clause-grows g c =
    g.met.S.Store.grows_trans c.args.store.now c.make_alone_right.new.store c.make_alone_right-2.new.store c.make_alone_right.ensures.grows
    c.make_alone_right-2.ensures.grows

pub returns-in_err-premises-clause-grows : goal.returns-in_err-premises-clause-grows
returns-in_err-premises-clause-grows g c =
    g.met.S.Store.grows_trans c.args.store.now c.make_alone_right.new.store c.make_alone_right-2.new.store c.make_alone_right.ensures.grows
    c.make_alone_right-2.ensures.grows

pub returns-clause-grows : goal.returns-clause-grows
returns-clause-grows g c =
    g.met.S.Store.grows_trans c.args.store.now c.make_alone_right.new.store c.make_alone_right-2.new.store c.make_alone_right.ensures.grows
    c.make_alone_right-2.ensures.grows
