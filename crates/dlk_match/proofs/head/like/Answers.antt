use Rattle.std.proofs.lemmas.Result.{IfOk-weaker}
use Rattle.dlk_tree.specs.Trees.{Tree}
use Rattle.std.proofs.Common.{List, Bool}
use Rattle.dlk_sequent.specs.Extras.{extra_at}
use Rattle.dlk_match.specs.Matching.{GetsName}
use Rattle.dlk_match.specs.Tried.{Tried, IsLike}
use Rattle.dlk_match.proofs.Heads.{like_unnamed, unlike_unnamed, unlike_named, like_named}
use Rattle.dlk_match.proofs.head.like.Goals as goal

pub returns-in_default-clause-matched : goal.returns-in_default-clause-matched
returns-in_default-clause-matched c = λ trees.
    like_unnamed c.args.key.now c.args.target.now (extra_at trees c.args.extra.now) c.in_default.ensures c.same_op.result c.same_op.ensures

pub returns-in_default-name_in-clause-matched : goal.returns-in_default-name_in-clause-matched
returns-in_default-name_in-clause-matched c = λ trees.
    unlike_unnamed c.args.key.now c.args.target.now (extra_at trees c.args.extra.now) c.in-Some.x.now c.in-Some.ensures c.in_default-name_in.ensures

pub returns-then-not-branch-clause-matched : goal.returns-then-not-branch-clause-matched
returns-then-not-branch-clause-matched c = λ trees.
    unlike_named c.args.key.now c.args.target.now (extra_at trees c.args.extra.now) c.in-Some.x.now c.in-Some.ensures c.in-Some-name_in.y.now
    c.in-Some-name_in.ensures
    c.in_ok-is_with_name.field-0 c.if-not-branch.true c.in_ok-is_with_name.ensures

pub returns-clause-matched : goal.returns-clause-matched
returns-clause-matched c =
    let key = c.args.key.now in
    let target = c.args.target.now in
    let x = c.in-Some.x.now in
    let y = c.in-Some-name_in.y.now in
    let same = c.in_ok-is_with_name.ensures.0 c.if-not-branch.false in
    IfOk-weaker c.rename.result
    (λ (is : Bool). (trees : List Tree) → Tried (GetsName x y) (extra_at trees c.args.extra.now) (extra_at trees c.rename.new.extra) is)
    (λ (is : Bool). (trees : List Tree) → Tried (IsLike key target) (extra_at trees c.args.extra.now) (extra_at trees c.rename.new.extra) is)
    (λ is p trees.
    like_named key target (extra_at trees c.args.extra.now) x c.in-Some.ensures y c.in-Some-name_in.ensures same
    (extra_at trees c.rename.new.extra) is (p trees))
    c.rename.ensures.matched
