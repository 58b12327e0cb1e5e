use Rattle.std.proofs.Common.{◌≡◌, List, Err, ap, subst}
use Rattle.std.specs.Option.{option_copied}
use Rattle.std.proofs.lemmas.Result.{err_from_is_err_and}
use Rattle.dlk_calculus.specs.Pairs.{Extra}
use Rattle.dlk_calculus.specs.Provables.{Provable}
use Rattle.dlk_store.specs.declared.Id.{Id}
use Rattle.dlk_store.specs.Stores.{tree}
use Rattle.dlk_kernel.specs.Kernel.{facts}
use Rattle.dlk_match.specs.Found.{HasNoMatch, IsMatch}
use Rattle.dlk_tacsyn.specs.Ties.{atom_at}
use Rattle.dlk_elab.specs.declared.fault.TacFault.TheVariants.{UnknownName}
use Rattle.dlk_elab.specs.Atoms.{NoPlace, NoMatch}
use Rattle.dlk_elab.specs.Calls.{given_at}
use Rattle.dlk_elab.specs.Ties.{IsTacFault}
use Rattle.dlk_elab.specs.Uses.{IsReached, IsNotThere, wanted, MayBeUsed}
use Rattle.dlk_elab.proofs.UseFound.{given_known, given_kept, unnamed, not_reached, unmatched, found}
use Rattle.dlk_elab.proofs.uses.find.Goals as goal

pub returns-in_err-named-clause-fault : goal.returns-in_err-named-clause-fault
returns-in_err-named-clause-fault g c =
    let trees = g.S.Store.trees c.args.kernel.now.store in
    let p = err_from_is_err_and c.from_residual.result c.from_residual.ensures.1 in
    rw (p.1, p.2) (unnamed (facts g.S.Store.trees c.args.kernel.now) c.args.target (atom_at trees c.args.atom.now) c.args.used
    (given_at trees (option_copied c.args.used.given)) c.requires.call c.requires.goal c.in_err-named.field-0.0 c.in_err-named.ensures.fault)

pub returns-in_err-named-clause-unknown : goal.returns-in_err-named-clause-unknown
returns-in_err-named-clause-unknown g c =
    let p = err_from_is_err_and c.from_residual.result c.from_residual.ensures.1 in
    rw (p.1, p.2) (λ none. let why : c.in_err-named.field-0.0 ≡ UnknownName = cc (c.in_err-named.ensures.unknown none) in ap Err why)

pub returns-in_err-reached-clause-fault : goal.returns-in_err-reached-clause-fault
returns-in_err-reached-clause-fault g c =
    let trees = g.S.Store.trees c.args.kernel.now.store in
    let p = err_from_is_err_and c.from_residual-in_err-reached.result c.from_residual-in_err-reached.ensures.1 in
    rw (p.1, p.2) (not_reached (facts g.S.Store.trees c.args.kernel.now) c.args.target (atom_at trees c.args.atom.now) c.args.used
    (given_at trees (option_copied c.args.used.given)) c.requires.call (g.S.Store.trees c.named_axiom.new.store.store) c.in_ok-named.named
    c.in_ok-named.ensures.found c.in_err-reached.field-0.0
    (subst (λ (r : List Provable). IsTacFault (λ why. (why ≡ NoPlace) × IsNotThere r c.args.target c.args.used.place c.args.used.path.now)
    c.in_err-reached.field-0.0) c.named_axiom.ensures.grows.1.provables c.in_err-reached.ensures.fault))

pub returns-in_err-reached-clause-unknown : goal.returns-in_err-reached-clause-unknown
returns-in_err-reached-clause-unknown g c = λ none. absurd (cc (c.in_ok-named.ensures.unknown none))

pub matched-requires-clause-given : goal.matched-requires-clause-given
matched-requires-clause-given g c =
    given_known (g.S.Store.trees c.args.kernel.now.store) (g.S.Store.trees c.named_axiom.new.store.store)
    (g.met.S.Store.grows_keeps c.args.kernel.now.store c.named_axiom.new.store.store c.named_axiom.ensures.grows.0) (option_copied c.args.used.given)
    c.requires.given

pub returns-in_err-extra-clause-fault : goal.returns-in_err-extra-clause-fault
returns-in_err-extra-clause-fault g c =
    let trees = g.S.Store.trees c.args.kernel.now.store in
    let mid = g.S.Store.trees c.named_axiom.new.store.store in
    let keeps = g.met.S.Store.grows_keeps c.args.kernel.now.store c.named_axiom.new.store.store c.named_axiom.ensures.grows.0 in
    let way = c.in_ok-reached.reached.way in
    let at = subst (λ (r : List Provable). IsReached r c.args.target mid c.args.used.place c.args.used.path.now c.in_ok-reached.reached)
    c.named_axiom.ensures.grows.1.provables c.in_ok-reached.ensures.found in
    let named = c.in_ok-named.named in
    let u = c.args.used in
    let p = err_from_is_err_and c.from_residual-in_err-extra.result c.from_residual-in_err-extra.ensures.1 in
    rw (p.1, p.2) (unmatched (facts g.S.Store.trees c.args.kernel.now) c.args.target (atom_at trees c.args.atom.now) u (given_at trees (option_copied u.given))
    c.requires.call mid named c.in_ok-named.ensures.found c.in_ok-reached.reached at (c.spine_leads.ensures.leads mid way at.spine) c.in_err-extra.field-0.0
    (subst (λ (x : Extra). IsTacFault (λ why. (why ≡ NoMatch) × (MayBeUsed named u → HasNoMatch (wanted mid named u) named.own.items (tree mid way.found) x))
    c.in_err-extra.field-0.0) (given_kept trees mid keeps (option_copied u.given) c.requires.given)
    (subst (λ (x : Id). IsTacFault (λ why. (why ≡ NoMatch) × (MayBeUsed named u → HasNoMatch (wanted mid named u) named.own.items (tree mid x)
    (given_at mid (option_copied u.given)))) c.in_err-extra.field-0.0) c.subtree.ensures c.in_err-extra.ensures.fault)))

pub returns-in_err-extra-clause-unknown : goal.returns-in_err-extra-clause-unknown
returns-in_err-extra-clause-unknown g c = λ none. absurd (cc (c.in_ok-named.ensures.unknown none))

pub returns-in_err-extra-clause-grows : goal.returns-in_err-extra-clause-grows
returns-in_err-extra-clause-grows g c =
    g.met.S.Store.grows_trans c.args.kernel.now.store c.named_axiom.new.store.store c.matched.new.store.store c.named_axiom.ensures.grows.0
    c.matched.ensures.grows.0

pub returns-clause-found : goal.returns-clause-found
returns-clause-found g c =
    let trees = g.S.Store.trees c.args.kernel.now.store in
    let mid = g.S.Store.trees c.named_axiom.new.store.store in
    let new = g.S.Store.trees c.matched.new.store.store in
    let keeps = g.met.S.Store.grows_keeps c.args.kernel.now.store c.named_axiom.new.store.store c.named_axiom.ensures.grows.0 in
    let later = g.met.S.Store.grows_keeps c.named_axiom.new.store.store c.matched.new.store.store c.matched.ensures.grows.0 in
    let way = c.in_ok-reached.reached.way in
    let at = subst (λ (r : List Provable). IsReached r c.args.target mid c.args.used.place c.args.used.path.now c.in_ok-reached.reached)
    c.named_axiom.ensures.grows.1.provables c.in_ok-reached.ensures.found in
    let named = c.in_ok-named.named in
    let u = c.args.used in
    found (facts g.S.Store.trees c.args.kernel.now) c.args.target (atom_at trees c.args.atom.now) u (given_at trees (option_copied u.given)) c.requires.call
    mid named c.in_ok-named.ensures.found c.in_ok-reached.reached at (c.spine_leads.ensures.leads mid way at.spine) new c.in_ok-extra.extra later
    (c.spine_stays.ensures.spine mid new way later at.spine) (c.spine_stays.ensures.top mid new way later at.spine)
    (c.spine_stays.ensures.found mid new way later at.spine) c.in_ok-extra.ensures.may
    (subst (λ (x : Extra). IsMatch (wanted mid named u) named.own.items (tree mid way.found) x new c.in_ok-extra.extra)
    (given_kept trees mid keeps (option_copied u.given) c.requires.given)
    (subst (λ (x : Id). IsMatch (wanted mid named u) named.own.items (tree mid x) (given_at mid (option_copied u.given)) new c.in_ok-extra.extra)
    c.subtree.ensures c.in_ok-extra.ensures.matches))

pub returns-clause-unknown : goal.returns-clause-unknown
returns-clause-unknown g c = λ none. absurd (cc (c.in_ok-named.ensures.unknown none))

pub returns-clause-grows : goal.returns-clause-grows
returns-clause-grows g c =
    g.met.S.Store.grows_trans c.args.kernel.now.store c.named_axiom.new.store.store c.matched.new.store.store c.named_axiom.ensures.grows.0
    c.matched.ensures.grows.0
