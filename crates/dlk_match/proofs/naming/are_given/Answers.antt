use Rattle.std.proofs.Common.{rules, ◌≡◌, ◌∙◌, true, false, subst}
use Rattle.std.specs.Prelude.{◌↔◌, IsTrue}
use Rattle.dlk_match.specs.Matching.{AreGiven}
use Rattle.dlk_match.proofs.NamesTold.{all_given, given_name, each_none, given_is}
use Rattle.dlk_match.proofs.naming.are_given.Goals as goal

pub returns-then-not-is_own : goal.returns-then-not-is_own
returns-then-not-is_own c =
    let not_all : all_given c.args.own.now c.args.renames.now ≡ false = search rules in
    subst (λ is. IsTrue is ↔ AreGiven c.args.own.now c.args.renames.now) not_all (given_is c.args.own.now c.args.renames.now)

pub returns : goal.returns
returns c =
    let own = c.args.own.now in
    let renames = c.args.renames.now in
    let all : all_given own renames ≡ true = c.loop-x.invariant ∙ each_none (given_name own) (λ r. r.0) c.loop-x.rest.now c.in_default.ensures.cases in
    subst (λ is. IsTrue is ↔ AreGiven own renames) all (given_is own renames)
