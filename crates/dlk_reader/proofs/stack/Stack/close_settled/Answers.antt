use Rattle.std.proofs.Common.{sym, ◌∙◌}
use Rattle.std.proofs.lemmas.Result.{err_from_is_err_and}
use Rattle.dlk_machine.specs.Machine.{close}
use Rattle.dlk_reader.specs.Outcomes.{leaving}
use Rattle.dlk_reader.specs.Shows.{closer_lexeme, Shows}
use Rattle.dlk_reader.proofs.HolderSteps.{no_round, no_comma, no_brace, no_square, no_greater, no_semicolon}
use Rattle.dlk_reader.proofs.HolderSteps.{domain_closed, evolves_any_err, evolves_brace, evolves_comma}
use Rattle.dlk_reader.proofs.stack.Stack.close_settled.Goals as goal
use Rattle.dlk_reader.proofs.stack.Stack.close_settled.Goals.{in_default-via-in-Round+in_default, in_default-via-in-Comma+in_default}
use Rattle.dlk_reader.proofs.stack.Stack.close_settled.Goals.{in_default-via-in-Brace+in_default}
use Rattle.dlk_reader.proofs.stack.Stack.close_settled.Goals.{in_default-via-in-Square+in-In+in_default, in_default-via-in-Square+in_default}
use Rattle.dlk_reader.proofs.stack.Stack.close_settled.Goals.{in_default-via-in-Greater+in-In+in_default, in_default-via-in-Greater+in_default}
use Rattle.dlk_reader.proofs.stack.Stack.close_settled.Goals.{in_default-via-in-Semicolon+in_default}

pub returns-in-Brace-Domain : goal.returns-in-Brace-Domain
returns-in-Brace-Domain c = λ S h p t k e b at.
    let i = c.in-Brace-Domain in
    let m = c.made-in-Brace-Domain in
    rw i.is-0 (domain_closed i.equations c.args.self.now m.new.self (leaving m.new.mode m.result) S h p t (sym i.is-1 ∙ k) e at
    (rw c.into_inner-items.ensures at m.ensures))

pub returns-in_err-equations-in-Brace-Evolves : goal.returns-in_err-equations-in-Brace-Evolves
returns-in_err-equations-in-Brace-Evolves c = λ S h p t k e b at.
    let i = c.in-Brace-Evolves in
    let f = c.in_err-equations-in-Brace-Evolves in
    let r = c.from_residual-in_err-equations-in-Brace-Evolves in
    let w = err_from_is_err_and r.result r.ensures.1 in
    rw (w.1, w.2) (evolves_any_err (Shows c.args.self.now) i.equations i.name h f.field-0.0 (close (closer_lexeme c.args.closer) h S p)
    (sym i.is-1 ∙ k) f.ensures)

pub returns-in_err-equations-in-Comma-Evolves : goal.returns-in_err-equations-in-Comma-Evolves
returns-in_err-equations-in-Comma-Evolves c = λ S h p t k e b at.
    let i = c.in-Comma-Evolves in
    let f = c.in_err-equations-in-Comma-Evolves in
    let r = c.from_residual-in_err-equations-in-Comma-Evolves in
    let w = err_from_is_err_and r.result r.ensures.1 in
    rw (w.1, w.2) (evolves_any_err (Shows c.args.self.now) i.equations i.name h f.field-0.0 (close (closer_lexeme c.args.closer) h S p)
    (sym i.is-1 ∙ k) f.ensures)

pub returns-in_ok-equations-in-Brace-Evolves : goal.returns-in_ok-equations-in-Brace-Evolves
returns-in_ok-equations-in-Brace-Evolves c = λ S h p t k e b at.
    let i = c.in-Brace-Evolves in
    let o = c.in_ok-equations-in-Brace-Evolves in
    let n = c.end_system in
    rw i.is-0 (evolves_brace i.equations o.equations i.name c.args.self.now n.new.self (leaving n.new.mode n.result) S h p t (sym i.is-1 ∙ k) e at o.ensures
    n.ensures)

pub returns-in_ok-equations-in-Comma-Evolves : goal.returns-in_ok-equations-in-Comma-Evolves
returns-in_ok-equations-in-Comma-Evolves c = λ S h p t k e b at.
    let i = c.in-Comma-Evolves in
    let o = c.in_ok-equations-in-Comma-Evolves in
    rw (i.is-0, c.set-in-Comma-Evolves.ensures) (evolves_comma i.equations o.equations i.name c.args.self.now S h p t (sym i.is-1 ∙ k) e at o.ensures)

pub returns-in_default : goal.returns-in_default
returns-in_default c = λ S h p t k e b at.
    let x = c.args.holder in
    elim c.in_default.branch [
      | in_default-via-in-Round+in_default w ↦ (let i = w.in_default in rw (i.is-0, no_round x i.not-Args-1 i.not-Notes-1 h S p t k e b) tt)
      | in_default-via-in-Comma+in_default w ↦ (let i = w.in_default in rw (i.is-0, no_comma x i.not-Args-1 i.not-Evolves-1 i.not-Notes-1 h S p t k e b) tt)
      | in_default-via-in-Brace+in_default w ↦ (let i = w.in_default in
          rw (i.is-0, no_brace x i.not-InContext-1 i.not-InBrace-1 i.not-Evolves-1 i.not-Domain-1 h S p t k e b) tt)
      | in_default-via-in-Square+in-In+in_default w ↦ (let i = w.in_default in rw (i.is-0, no_square x (λ q. absurd cc) h S p t k e b) tt)
      | in_default-via-in-Square+in_default w ↦ (let i = w.in_default in rw (i.is-0, no_square x (λ q. i.not-In-1 _ q) h S p t k e b) tt)
      | in_default-via-in-Greater+in-In+in_default w ↦ (let i = w.in_default in rw (i.is-0, no_greater x (λ q. absurd cc) h S p t k e b) tt)
      | in_default-via-in-Greater+in_default w ↦ (let i = w.in_default in rw (i.is-0, no_greater x (λ q. i.not-In-1 _ q) h S p t k e b) tt)
      | in_default-via-in-Semicolon+in_default w ↦ (let i = w.in_default in rw (i.is-0, no_semicolon x i.not-Assigns-1 i.not-Tests-1 h S p t k e b) tt)
    ]
