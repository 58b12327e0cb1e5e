use Rattle.dlk_kernel.proofs.Growth.{named_kept, formulas_kept, named_rows_kept}
use Rattle.dlk_kernel.proofs.RowLaws.{given_here, refused_here}
use Rattle.dlk_kernel.proofs.steps.give.Goals as goal

pub returns-in-Start-clause-given : goal.returns-in-Start-clause-given
returns-in-Start-clause-given g c = rw c.in-Start.is (given_here _ _ _ c.start.result c.start.ensures.given)

pub returns-in-Start-clause-fault : goal.returns-in-Start-clause-fault
returns-in-Start-clause-fault g c = rw c.in-Start.is (refused_here _ _ c.start.result c.start.ensures.fault)

-- what was named stands for the same over the grown store
pub returns-in-Axiom-clause-named : goal.returns-in-Axiom-clause-named
returns-in-Axiom-clause-named g c =
    record {
      axioms = c.axiom.ensures.named;
      rules = named_rows_kept _ _ (g.met.S.Store.grows_keeps c.args.store.now c.axiom.new.store c.axiom.ensures.grows) _ c.requires.named.rules;
    }

pub returns-in-AxRule-clause-named : goal.returns-in-AxRule-clause-named
returns-in-AxRule-clause-named g c =
    record {
      axioms =
          formulas_kept _ _ (g.met.S.Store.grows_keeps c.args.store.now c.axiomatic_rule.new.store c.axiomatic_rule.ensures.grows) _ c.requires.named.axioms;
      rules = c.axiomatic_rule.ensures.named;
    }

pub returns-in-Apply-clause-named : goal.returns-in-Apply-clause-named
returns-in-Apply-clause-named g c =
    named_kept _ _ (g.met.S.Store.grows_keeps c.args.store.now c.apply.new.store c.apply.ensures.grows) _ c.requires.named

pub returns-in-Subst-clause-named : goal.returns-in-Subst-clause-named
returns-in-Subst-clause-named g c =
    named_kept _ _ (g.met.S.Store.grows_keeps c.args.store.now c.substitute.new.store c.substitute.ensures.grows) _ c.requires.named

pub returns-in-Rename-clause-named : goal.returns-in-Rename-clause-named
returns-in-Rename-clause-named g c =
    named_kept _ _ (g.met.S.Store.grows_keeps c.args.store.now c.rename.new.store c.rename.ensures.grows) _ c.requires.named
