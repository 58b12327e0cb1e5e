use Rattle.std.proofs.Common.{◌≡◌, ◌+◌, ◌-◌, sym, subst, drop, arith}
use Rattle.std.proofs.lemmas.Bool.{both_ways}
use Rattle.dlk_tree.specs.Trees.{sort}
use Rattle.dlk_store.specs.Stores.{tree}
use Rattle.dlk_sequent.specs.Spines.{Way, top, path_of, IsSpine, IsPut}
use Rattle.dlk_sequent.proofs.Turns.{found_known, other_sort, next_turn, later_next, PutSoFar, turn_known, turn_fits, turn_put, put_whole}
use Rattle.dlk_sequent.proofs.spine.Spine.put.Goals as goal

pub have_one_sort-requires-clause-second : goal.have_one_sort-requires-clause-second
have_one_sort-requires-clause-second g c =
    let old = g.S.Store.trees c.args.store.now in
    found_known old c.self.inside.turns.items c.self.inside.found (subst (IsSpine old) (sym c.self.view_is) c.requires.spine)

pub returns-then-not-have_one_sort-clause-err : goal.returns-then-not-have_one_sort-clause-err
returns-then-not-have_one_sort-clause-err g c =
    let old = g.S.Store.trees c.args.store.now in
    other_sort old c.args.self.now c.args.new c.requires.spine
    (λ e. both_ways c.have_one_sort.result c.if-not-have_one_sort.true
    (c.have_one_sort.ensures.1 (subst (λ (way : Way). sort (tree old c.args.new) ≡ sort (tree old way.found)) (sym c.self.view_is) e)))

pub with_kid-requires-clause-known : goal.with_kid-requires-clause-known
with_kid-requires-clause-known g c =
    let old = g.S.Store.trees c.args.store.now in
    let keeps = g.met.S.Store.grows_keeps c.args.store.now c.loop-left.store c.loop-left.invariant.grows in
    let way : Way = record { turns = c.self.inside.turns.items; found = c.self.inside.found } in
    let one : c.loop-left.left - 1 + 1 ≡ c.loop-left.left = omega (arith, c.loop-left-test.true) in
    let spine = subst (IsSpine old) (sym c.self.view_is) c.requires.spine in
    let are = later_next old way c.loop-left.left (c.loop-left.left - 1) c.index.result.now spine c.loop-left.invariant.within one c.index.ensures in
    turn_known keeps c.index.result.now (drop c.loop-left.left way.turns) way.found c.args.new c.loop-left.made are c.loop-left.invariant.put

pub with_kid-requires-clause-fits : goal.with_kid-requires-clause-fits
with_kid-requires-clause-fits g c =
    let old = g.S.Store.trees c.args.store.now in
    let keeps = g.met.S.Store.grows_keeps c.args.store.now c.loop-left.store c.loop-left.invariant.grows in
    let way : Way = record { turns = c.self.inside.turns.items; found = c.self.inside.found } in
    let one : c.loop-left.left - 1 + 1 ≡ c.loop-left.left = omega (arith, c.loop-left-test.true) in
    let spine = subst (IsSpine old) (sym c.self.view_is) c.requires.spine in
    let are = later_next old way c.loop-left.left (c.loop-left.left - 1) c.index.result.now spine c.loop-left.invariant.within one c.index.ensures in
    turn_fits keeps c.index.result.now (drop c.loop-left.left way.turns) way.found c.args.new c.loop-left.made are c.loop-left.invariant.put

pub returns-in_err-made-clause-grows : goal.returns-in_err-made-clause-grows
returns-in_err-made-clause-grows g c =
    g.met.S.Store.grows_trans c.args.store.now c.loop-left.store c.with_kid.new.store c.loop-left.invariant.grows c.with_kid.ensures.grows

pub loop-left-preserved : goal.loop-left-preserved
loop-left-preserved g c =
    let old = g.S.Store.trees c.args.store.now in
    let next = g.S.Store.trees c.with_kid.new.store in
    let keeps = g.met.S.Store.grows_keeps c.args.store.now c.loop-left.store c.loop-left.invariant.grows in
    let way : Way = record { turns = c.self.inside.turns.items; found = c.self.inside.found } in
    let turn = c.index.result.now in
    let one : c.loop-left.left - 1 + 1 ≡ c.loop-left.left = omega (arith, c.loop-left-test.true) in
    let within = c.loop-left.invariant.within in
    let spine = subst (IsSpine old) (sym c.self.view_is) c.requires.spine in
    let are = later_next old way c.loop-left.left (c.loop-left.left - 1) turn spine within one c.index.ensures in
    let put = turn_put keeps turn (drop c.loop-left.left way.turns) way.found c.args.new c.loop-left.made are c.loop-left.invariant.put
    next c.in_ok-made.made c.in_ok-made.ensures.ok in
    let turns = next_turn way c.loop-left.left (c.loop-left.left - 1) turn within one c.index.ensures in
    record {
      grows = g.met.S.Store.grows_trans c.args.store.now c.loop-left.store c.with_kid.new.store c.loop-left.invariant.grows c.in_ok-made.ensures.grows;
      within = omega (arith, within);
      put = subst (λ rest. PutSoFar old next rest way.found c.args.new c.in_ok-made.made) (sym turns) put;
    }

pub returns-clause-ok : goal.returns-clause-ok
returns-clause-ok g c =
    let old = g.S.Store.trees c.args.store.now in
    let now = g.S.Store.trees c.loop-left.store in
    let way : Way = record { turns = c.self.inside.turns.items; found = c.self.inside.found } in
    let none : c.loop-left.left ≡ 0 = omega (arith, c.loop-left-test.false) in
    let spine = subst (IsSpine old) (sym c.self.view_is) c.requires.spine in
    let put = subst (λ n. PutSoFar old now (drop n way.turns) way.found c.args.new c.loop-left.made) none c.loop-left.invariant.put in
    let whole = put_whole old now way c.args.new c.loop-left.made spine (c.have_one_sort.ensures.0 c.if-not-have_one_sort.false) put in
    subst (λ (w : Way). IsPut old now (top w) (path_of w) c.args.new c.loop-left.made) c.self.view_is whole
