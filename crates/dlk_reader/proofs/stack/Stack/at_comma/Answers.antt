use Rattle.std.proofs.Common.{Some, ap, arith}
use Rattle.std.proofs.lemmas.Result.{err_from_is_err_and}
use Rattle.dlk_grammar.specs.Lexemes.{Comma}
use Rattle.dlk_machine.specs.Machine.{Has, step}
use Rattle.dlk_reader.specs.Shows.{Shows}
use Rattle.dlk_reader.specs.Ends.{GoesTo, ShowsComma}
use Rattle.dlk_reader.specs.declared.ends.Comma.TheVariants.{GoesOn}
use Rattle.dlk_reader.specs.declared.parts.Mode.TheVariants as mode
use Rattle.dlk_reader.proofs.Agree.{agrees_err, ok_maps}
use Rattle.dlk_reader.proofs.Commas.{has_shown, comma_open}
use Rattle.dlk_reader.proofs.stack.Stack.at_comma.Goals as goal

pub returns-in_err-mode : goal.returns-in_err-mode
returns-in_err-mode c = λ x h.
    let g = c.args.goal in
    let s = has_shown c.args.self.now c.args.mode c.in-Has.last x c.in-Has.is h in
    let r = comma_open g s.0 s.1 c.reduce.new.self c.in_ok-last.last (c.in_ok-last.ensures s.0 s.1 s.3) (omega arith) c.if-is_empty.ensures in
    let shown : Shows c.reduce.new.self (mode.Has c.in_ok-last.last) (Has r.0 r.1) =
    record { mode = ap mode.Has r.2.last.same; lone = r.2.last.lone; lists = r.2.lists } in
    let e = err_from_is_err_and c.from_residual-in_err-mode.result c.from_residual-in_err-mode.ensures.1 in
    rw (e.1, e.2, s.2, r.3) (agrees_err (Shows c.step-2.new.self) (ShowsComma c.step-2.new.self) c.in_err-mode.field-0.0 (step g (Has r.0 r.1) Comma)
    (λ y. Some (GoesTo y)) (c.in_err-mode.ensures (Has r.0 r.1) shown))

pub returns : goal.returns
returns c = λ x h.
    let g = c.args.goal in
    let s = has_shown c.args.self.now c.args.mode c.in-Has.last x c.in-Has.is h in
    let r = comma_open g s.0 s.1 c.reduce.new.self c.in_ok-last.last (c.in_ok-last.ensures s.0 s.1 s.3) (omega arith) c.if-is_empty.ensures in
    let shown : Shows c.reduce.new.self (mode.Has c.in_ok-last.last) (Has r.0 r.1) =
    record { mode = ap mode.Has r.2.last.same; lone = r.2.last.lone; lists = r.2.lists } in
    rw (s.2, r.3) (ok_maps (Shows c.step-2.new.self) (ShowsComma c.step-2.new.self) c.in_ok-mode.mode (GoesOn c.in_ok-mode.mode)
    (step g (Has r.0 r.1) Comma) GoesTo (λ y k. k) (c.in_ok-mode.ensures (Has r.0 r.1) shown))
