use Rattle.dlk_print.proofs.Left.{partly, appended, last}
use Rattle.dlk_print.proofs.Symbols.{unbegun_dotted, unbegun_unit, unbegun_ode}
use Rattle.dlk_print.proofs.symbol.symbol_text.Goals as goal

pub returns-in_err-append_name-in-Func-clause-memory : goal.returns-in_err-append_name-in-Func-clause-memory
returns-in_err-append_name-in-Func-clause-memory c =
    partly _ _ (unbegun_dotted c.args.out.now.items c.args.s.now c.in-Func.is) c.in_err-append_name-in-Func.ensures.begun

pub returns-in_err-append_name-in-UnitFunc-clause-memory : goal.returns-in_err-append_name-in-UnitFunc-clause-memory
returns-in_err-append_name-in-UnitFunc-clause-memory c =
    partly _ _ (unbegun_unit c.args.out.now.items c.args.s.now c.in-UnitFunc.is) c.in_err-append_name-in-UnitFunc.ensures.begun

pub returns-in_err-append_between-in-Ode-clause-memory : goal.returns-in_err-append_between-in-Ode-clause-memory
returns-in_err-append_between-in-Ode-clause-memory c =
    partly _ _ (unbegun_ode c.args.out.now.items c.args.s.now c.in-Ode.is) c.in_err-append_between-in-Ode.ensures.begun

pub returns-in_err-ode_brackets-in-Ode-clause-memory : goal.returns-in_err-ode_brackets-in-Ode-clause-memory
returns-in_err-ode_brackets-in-Ode-clause-memory c =
    let name = appended _ _ (unbegun_ode c.args.out.now.items c.args.s.now c.in-Ode.is) c.in_ok-append_between-in-Ode.ensures.ok in
    partly _ _ name c.in_err-ode_brackets-in-Ode.ensures.begun

pub returns-in_ok-ode_brackets-in-Ode-clause-ok : goal.returns-in_ok-ode_brackets-in-Ode-clause-ok
returns-in_ok-ode_brackets-in-Ode-clause-ok c =
    let name = appended _ _ (unbegun_ode c.args.out.now.items c.args.s.now c.in-Ode.is) c.in_ok-append_between-in-Ode.ensures.ok in
    (last (appended _ _ name c.in_ok-ode_brackets-in-Ode.ensures.ok) c.append.ensures).ok

pub returns-in_ok-ode_brackets-in-Ode-clause-memory : goal.returns-in_ok-ode_brackets-in-Ode-clause-memory
returns-in_ok-ode_brackets-in-Ode-clause-memory c =
    let name = appended _ _ (unbegun_ode c.args.out.now.items c.args.s.now c.in-Ode.is) c.in_ok-append_between-in-Ode.ensures.ok in
    (last (appended _ _ name c.in_ok-ode_brackets-in-Ode.ensures.ok) c.append.ensures).begun
