use Rattle.std.proofs.Common.{◌<◌, ◌≤◌, length, arith, rules, sym, subst}
use Rattle.dlk_store.specs.Stores.{IsId, tree}
use Rattle.dlk_sequent.specs.Extras.{extra_at}
use Rattle.dlk_match.specs.Rests.{KidsLeft, RestIs}
use Rattle.dlk_match.proofs.LeftKids.{kid_known, kid_less, ids_known, left_first, kid_matches, kid_differs, left_none}
use Rattle.dlk_match.proofs.walk.+match_tree.Goals as goal

pub loop-i-init : goal.loop-i-init
loop-i-init g t c =
    let before = g.S.Store.trees c.args.store.now in
    let now = g.S.Store.trees c.match_roots.new.store in
    let key = tree before c.args.key in
    let target = tree before c.args.target in
    let old = extra_at before c.args.extra.now in
    let new = extra_at now c.match_roots.new.extra in
    let keys = c.in-Kids.keys.items in
    let targets = c.in-Kids.targets.items in
    let left : KidsLeft before now key target old new keys targets = subst (RestIs before now key target old new) c.in-Kids.is c.in_ok-is.ensures.matched in
    let keeps = g.met.S.Store.grows_keeps c.args.store.now c.match_roots.new.store c.in_ok-is.ensures.grows in
    record {
      grows = c.in_ok-is.ensures.grows;
      known = c.in_ok-is.ensures.known;
      keys_known = left.keys_known;
      left_known = left.targets_known;
      as_many = left.as_many;
      node_is = (left.op, left.node_is);
      is_left = left_first key target old new keeps keys targets left.keys_known left.left;
    }

pub loop-i-preserved : goal.loop-i-preserved
loop-i-preserved g t c =
    let before = g.S.Store.trees c.args.store.now in
    let mid = g.S.Store.trees c.loop-i.store in
    let next = g.S.Store.trees c.match_tree.new.store in
    let inv = c.loop-i.invariant in
    let keys = c.in-Kids.keys.items in
    let targets = c.in-Kids.targets.items in
    let upto = g.met.S.Store.grows_keeps c.args.store.now c.loop-i.store inv.grows in
    let keeps = g.met.S.Store.grows_keeps c.loop-i.store c.match_tree.new.store c.in_ok-match_tree.ensures.grows in
    let within : c.loop-i.i < length keys = search rules in
    let beside : c.loop-i.i < length targets = omega (arith, within, inv.as_many) in
    record {
      grows = g.met.S.Store.grows_trans c.args.store.now c.loop-i.store c.match_tree.new.store inv.grows c.in_ok-match_tree.ensures.grows;
      known = c.in_ok-match_tree.ensures.known;
      keys_known = inv.keys_known;
      left_known = ids_known keeps targets inv.left_known;
      as_many = inv.as_many;
      node_is = inv.node_is;
      is_left = kid_matches (tree before c.args.key) (tree before c.args.target) (extra_at before c.args.extra.now)
          (extra_at mid c.loop-i.extra) mid keys targets
          c.loop-i.i c.index.result.now c.index-in-loop-i.result.now within beside c.index.ensures c.index-in-loop-i.ensures inv.is_left keeps
          (ids_known upto keys inv.keys_known) inv.left_known (extra_at next c.match_tree.new.extra) c.in_ok-match_tree.field-0 c.if-not-branch.false
          c.in_ok-match_tree.ensures.matched;
    }

pub match_tree-requires : goal.match_tree-requires
match_tree-requires g t c κs within =
    let before = g.S.Store.trees c.args.store.now in
    let mid = g.S.Store.trees c.loop-i.store in
    let inv = c.loop-i.invariant in
    let keys = c.in-Kids.keys.items in
    let targets = c.in-Kids.targets.items in
    let at : c.loop-i.i < length keys = search rules in
    let beside : c.loop-i.i < length targets = omega (arith, at, inv.as_many) in
    let upto = g.met.S.Store.grows_keeps c.args.store.now c.loop-i.store inv.grows in
    let known = kid_known before mid upto keys c.loop-i.i c.index.result.now at c.index.ensures inv.keys_known in
    let less = kid_less before mid upto keys c.loop-i.i c.index.result.now at c.index.ensures inv.keys_known
    (tree before c.args.key) inv.node_is.0 inv.node_is.1 in
    let target = subst (IsId mid) (sym c.index-in-loop-i.ensures) (inv.left_known c.loop-i.i c.index-in-loop-i.result.now beside) in
    (omega (arith, less, c.decreases), (search rules, (search rules, (inv.known, (known, target)))))

pub returns-then-not-branch-clause-matched : goal.returns-then-not-branch-clause-matched
returns-then-not-branch-clause-matched g t c =
    let before = g.S.Store.trees c.args.store.now in
    let mid = g.S.Store.trees c.loop-i.store in
    let next = g.S.Store.trees c.match_tree.new.store in
    let inv = c.loop-i.invariant in
    let keys = c.in-Kids.keys.items in
    let targets = c.in-Kids.targets.items in
    let within : c.loop-i.i < length keys = search rules in
    let beside : c.loop-i.i < length targets = omega (arith, within, inv.as_many) in
    kid_differs (tree before c.args.key) (tree before c.args.target) (extra_at before c.args.extra.now) (extra_at mid c.loop-i.extra) mid keys targets
    c.loop-i.i c.index.result.now c.index-in-loop-i.result.now within beside c.index.ensures c.index-in-loop-i.ensures inv.is_left
    (extra_at next c.match_tree.new.extra) c.in_ok-match_tree.field-0 c.if-not-branch.true c.in_ok-match_tree.ensures.matched

pub returns-in_err-match_tree-clause-grows : goal.returns-in_err-match_tree-clause-grows
returns-in_err-match_tree-clause-grows g t c =
    g.met.S.Store.grows_trans c.args.store.now c.loop-i.store c.match_tree.new.store c.loop-i.invariant.grows c.match_tree.ensures.grows

pub returns-then-not-branch-clause-grows : goal.returns-then-not-branch-clause-grows
returns-then-not-branch-clause-grows g t c =
    g.met.S.Store.grows_trans c.args.store.now c.loop-i.store c.match_tree.new.store c.loop-i.invariant.grows c.match_tree.ensures.grows

pub returns-clause-matched : goal.returns-clause-matched
returns-clause-matched g t c =
    let before = g.S.Store.trees c.args.store.now in
    let mid = g.S.Store.trees c.loop-i.store in
    let inv = c.loop-i.invariant in
    let keys = c.in-Kids.keys.items in
    let targets = c.in-Kids.targets.items in
    let over : length keys ≤ c.loop-i.i = search rules in
    left_none (tree before c.args.key) (tree before c.args.target) (extra_at before c.args.extra.now) (extra_at mid c.loop-i.extra) mid keys targets
    c.loop-i.i over (omega (arith, over, inv.as_many)) inv.is_left
