use Rattle.std.proofs.Common.{◌≡◌, ◌∙◌, sym, ap, subst, ◌++◌, ◌∷◌, [], get_or, refl}
use Rattle.dlk_sequent.specs.Spines.{start, AreTurns}
use Rattle.dlk_sequent.specs.declared.spine.Turn.{Turn}
use Rattle.dlk_sequent.proofs.Turns.{walked_out, walked_on, kids_more, one_turn, start_stays}
use Rattle.dlk_sequent.proofs.spine.Spine.of.Goals as goal

pub returns-in_default : goal.returns-in_default
returns-in_default g c =
    walked_out (g.S.Store.trees c.args.store.now) c.args.id c.args.path.now c.loop-kid.at c.loop-kid.kid-index 0 c.loop-kid.invariant.walked
    c.loop-kid-test.true c.in_default.ensures.kid

pub loop-kid-preserved : goal.loop-kid-preserved
loop-kid-preserved g c =
    let trees = g.S.Store.trees c.args.store.now in
    let path = c.args.path.now in
    let i = c.loop-kid.kid-index in
    let turns = c.loop-kid.turns.items in
    let turn : Turn = record { node = c.loop-kid.at; kid = get_or path i 0 } in
    let next = c.in-Some.next in
    let more : c.push.new.self.items ≡ turns ++ turn ∷ [] = c.in_ok-push.ensures.items in
    record {
      walked = walked_on trees c.args.id path c.loop-kid.at i 0 c.loop-kid.invariant.walked c.loop-kid-test.true next c.in-Some.ensures.kid;
      starts = ap (λ ts. start ts next) more ∙ start_stays turns turn next ∙ c.loop-kid.invariant.starts;
      goes = kids_more turns c.push.new.self.items turn path i 0 more c.loop-kid.invariant.goes c.loop-kid-test.true refl;
      are = subst (λ ts. AreTurns trees ts next) (sym more) (one_turn trees turns turn next c.loop-kid.invariant.are c.in-Some.ensures.kid);
    }
