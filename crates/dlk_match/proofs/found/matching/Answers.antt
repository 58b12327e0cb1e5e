use Rattle.std.proofs.Common.{◌≡◌, subst}
use Rattle.std.specs.Prelude.{◌↔◌, IsTrue}
use Rattle.dlk_store.specs.Stores.{tree}
use Rattle.dlk_sequent.specs.declared.extra.Extra.{Extra}
use Rattle.dlk_sequent.specs.Extras.{extra_at}
use Rattle.dlk_match.specs.Matching.{Matches, AreGiven, AreApart}
use Rattle.dlk_match.specs.Tried.{Tried}
use Rattle.dlk_match.specs.Found.{pairs_renamed}
use Rattle.dlk_match.proofs.FoundMatch.{told_false, not_apart, is_match}
use Rattle.dlk_match.proofs.found.matching.Goals as goal

pub returns-then-not-are_apart-clause-found : goal.returns-then-not-are_apart-clause-found
returns-then-not-are_apart-clause-found g c =
    let before = g.S.Store.trees c.args.store.now in
    let now = g.S.Store.trees c.match_tree.new.store in
    let key = tree before c.args.key in
    let target = tree before c.args.target in
    let own = c.args.own.now in
    let found = extra_at now c.match_tree.new.extra in
    let tried = subst (Tried (Matches key target) (extra_at before c.in_ok-extra.extra) found) c.if-not-branch.false c.in_ok-match_tree.ensures.matched in
    let matches = subst (λ (old : Extra). Matches key target (extra_at before old) found) c.in_ok-extra.ensures tried in
    let told = subst (λ rs. IsTrue c.are_apart.result ↔ AreApart own rs) c.as_slice-2.ensures c.are_apart.ensures in
    not_apart key own target (extra_at before c.args.given.now) found matches (told_false c.if-not-are_apart.true told)

pub returns-clause-found : goal.returns-clause-found
returns-clause-found g c =
    let before = g.S.Store.trees c.args.store.now in
    let now = g.S.Store.trees c.match_tree.new.store in
    let key = tree before c.args.key in
    let target = tree before c.args.target in
    let own = c.args.own.now in
    let found = c.match_tree.new.extra in
    let new = extra_at now found in
    let tried = subst (Tried (Matches key target) (extra_at before c.in_ok-extra.extra) new) c.if-not-branch.false c.in_ok-match_tree.ensures.matched in
    let matches = subst (λ (old : Extra). Matches key target (extra_at before old) new) c.in_ok-extra.ensures tried in
    let given = subst (λ rs. IsTrue c.are_given.result ↔ AreGiven own rs) c.as_slice.ensures c.are_given.ensures in
    let apart = subst (λ rs. IsTrue c.are_apart.result ↔ AreApart own rs) c.as_slice-2.ensures c.are_apart.ensures in
    let pairs_are = subst (λ ps. c.in_ok-extra-2.field-0 ≡ pairs_renamed found.renames ps) c.as_slice-4.ensures
    (subst (λ rs. c.in_ok-extra-2.field-0 ≡ pairs_renamed rs c.as_slice-4.result.now) c.as_slice-3.ensures c.in_ok-extra-2.ensures) in
    is_match key own target (extra_at before c.args.given.now) now found c.in_ok-extra-2.field-0 matches c.in_ok-match_tree.ensures.known
    (given.0 c.if-not-are_given.false) (apart.0 c.if-not-are_apart.false) pairs_are
