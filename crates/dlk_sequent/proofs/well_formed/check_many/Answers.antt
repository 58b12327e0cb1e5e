use Rattle.std.proofs.Common.{take, arith, ◌∙◌}
use Rattle.dlk_sequent.specs.Substitutions.{pairs_at}
use Rattle.dlk_sequent.proofs.Pairs.{none_before, next_is_bad, next_is_good, all_well, no_symbols, symbols_more}
use Rattle.dlk_sequent.proofs.well_formed.check_many.Goals as goal

pub returns-in-Some-clause-ill : goal.returns-in-Some-clause-ill
returns-in-Some-clause-ill g c =
    let trees = g.S.Store.trees c.args.store.now in
    let pairs = c.args.pairs.now in
    let i = c.loop-i.i in
    let p = c.index-pairs-i.result in
    let reason = c.in_ok-why.ensures.why (pairs_at trees (take i pairs)) (c.has-twice.ensures ∙ c.loop-i.invariant.symbols p.sym) in
    next_is_bad trees pairs i (omega arith) c.loop-i.invariant.good p c.index-pairs-i.is c.in_ok-why.field-0 reason c.in-Some.why c.in-Some.is

pub loop-i-init : goal.loop-i-init
loop-i-init g c =
    let trees = g.S.Store.trees c.args.store.now in
    record {
      good = none_before trees c.args.pairs.now;
      symbols = no_symbols trees c.args.pairs.now c.new-earlier.result c.new-earlier.ensures;
      few = omega arith;
    }

pub loop-i-preserved : goal.loop-i-preserved
loop-i-preserved g c =
    let trees = g.S.Store.trees c.args.store.now in
    let pairs = c.args.pairs.now in
    let i = c.loop-i.i in
    let p = c.index-pairs-i.result in
    let reason = c.in_ok-why.ensures.why (pairs_at trees (take i pairs)) (c.has-twice.ensures ∙ c.loop-i.invariant.symbols p.sym) in
    record {
      good = next_is_good trees pairs i (omega arith) c.loop-i.invariant.good p c.index-pairs-i.is c.in_ok-why.field-0 reason c.in_default.is;
      symbols = symbols_more trees pairs i p c.loop-i.earlier c.insert.new.self (omega arith) c.index-pairs-i.is c.loop-i.invariant.symbols
          c.in_ok-insert.ensures;
      few = omega arith;
    }

pub returns-clause-well_formed : goal.returns-clause-well_formed
returns-clause-well_formed g c = all_well (g.S.Store.trees c.args.store.now) c.args.pairs.now c.loop-i.i (omega arith) c.loop-i.invariant.good
