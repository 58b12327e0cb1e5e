use Rattle.std.proofs.Common.{arith, ◌∙◌}
use Rattle.dlk_machine.proofs.TextLaws.{sequent_formulas}
use Rattle.dlk_sequent.specs.Sequents.{sequent_at}
use Rattle.dlk_parse.proofs.SaidLaws.{sides_made, left_low, sequent_found}
use Rattle.dlk_lex.proofs.Sources.{gives_tokens}
use Rattle.dlk_parse.proofs.owned.sequent_of.Goals as goal

pub make_all-requires : goal.make_all-requires
make_all-requires g c = sides_made c.in_ok-sides.ensures.read.0 c.in_ok-sides.sides c.in_ok-sides.ensures.read.2
    (gives_tokens c.args.origin c.in_ok-sides.ensures.read.0 c.requires c.in_ok-sides.ensures.read.1)

pub split_off-requires : goal.split_off-requires
split_off-requires g c =
    let low = left_low c.in_ok-sides.ensures.read.0 c.in_ok-sides.sides c.in_ok-sides.ensures.read.2 (g.S.Store.trees c.make_all.new.store)
    c.in_ok-ante.ante.items c.in_ok-ante.ensures.made in
    omega (arith, low, c.in_ok-ante.ante.ok.0)

pub returns-clause-found : goal.returns-clause-found
returns-clause-found g c = (
  c.in_ok-sides.ensures.read.0,
  c.in_ok-sides.ensures.read.1,
  sequent_found c.in_ok-sides.ensures.read.0 c.in_ok-sides.sides c.in_ok-sides.ensures.read.2 (g.S.Store.trees c.make_all.new.store) c.in_ok-ante.ante.items
      c.in_ok-ante.ensures.made
      (record { ante = c.from_vec.result; succ = c.from_vec-2.result }) (c.from_vec.ensures ∙ c.in_ok-succ.ensures.items)
      (c.from_vec-2.ensures ∙ c.in_ok-succ.ensures.tail),
)

pub returns-clause-formulas : goal.returns-clause-formulas
returns-clause-formulas g c =
    let found = sequent_found c.in_ok-sides.ensures.read.0 c.in_ok-sides.sides c.in_ok-sides.ensures.read.2 (g.S.Store.trees c.make_all.new.store)
    c.in_ok-ante.ante.items c.in_ok-ante.ensures.made
    (record { ante = c.from_vec.result; succ = c.from_vec-2.result }) (c.from_vec.ensures ∙ c.in_ok-succ.ensures.items)
    (c.from_vec-2.ensures ∙ c.in_ok-succ.ensures.tail) in
    sequent_formulas c.in_ok-sides.ensures.read.0
    (sequent_at (g.S.Store.trees c.make_all.new.store) (record { ante = c.from_vec.result; succ = c.from_vec-2.result }))
    (gives_tokens c.args.origin c.in_ok-sides.ensures.read.0 c.requires c.in_ok-sides.ensures.read.1) found
