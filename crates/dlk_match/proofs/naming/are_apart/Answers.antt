use Rattle.std.proofs.Common.{rules, ◌≡◌, ◌∙◌, true, false, subst}
use Rattle.std.specs.Prelude.{◌↔◌, IsTrue}
use Rattle.dlk_match.specs.Matching.{AreApart}
use Rattle.dlk_match.proofs.NamesTold.{all_apart, name_apart, each_none, apart_is}
use Rattle.dlk_match.proofs.naming.are_apart.Goals as goal

pub returns-then-ne : goal.returns-then-ne
returns-then-ne c =
    let not_all : all_apart c.args.own.now c.args.renames.now ≡ false = search rules in
    subst (λ is. IsTrue is ↔ AreApart c.args.own.now c.args.renames.now) not_all (apart_is c.args.own.now c.args.renames.now)

pub returns : goal.returns
returns c =
    let own = c.args.own.now in
    let renames = c.args.renames.now in
    let all : all_apart own renames ≡ true = c.loop-x.invariant ∙ each_none (name_apart own) (λ r. r.1) c.loop-x.rest.now c.in_default.ensures.cases in
    subst (λ is. IsTrue is ↔ AreApart own renames) all (apart_is own renames)
