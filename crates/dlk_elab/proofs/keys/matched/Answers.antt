use Rattle.std.proofs.Common.{◌≡◌, refl, sym, ap, subst, ◌∙◌, Bor}
use Rattle.std.specs.Prelude.{MatchOption}
use Rattle.std.specs.Option.{option_copied}
use Rattle.dlk_tree.specs.Trees.{Tree}
use Rattle.dlk_calculus.specs.declared.form.AxiomForm.{AxiomForm}
use Rattle.dlk_store.specs.Stores.{tree}
use Rattle.dlk_sequent.specs.Extras.{extra_at}
use Rattle.dlk_sequent.specs.declared.extra.Extra.{Extra}
use Rattle.dlk_elab.specs.Calls.{given_at}
use Rattle.dlk_match.specs.Found.{HasNoMatch, IsMatch}
use Rattle.dlk_elab.specs.Uses.{HasParts}
use Rattle.dlk_elab.proofs.Finding.{has_parts, given_is, no_match_of, match_of}
use Rattle.dlk_elab.proofs.keys.matched.Goals as goal

pub key-key-requires-clause-parts : goal.key-key-requires-clause-parts
key-key-requires-clause-parts g c =
    let is = c.requires.axiom in
    let a = is.its_axiom in
    let shape = c.uses_have_shapes.ensures.axioms c.args.used.name.now a is.is_axiom in
    subst (λ (t : Tree). HasParts c.args.named.now.form t) (sym is.formula.tree_is)
    (subst (λ (x : AxiomForm). HasParts x a.formula) (sym is.form) (has_parts a.form a.formula shape))

pub returns-in_default-clause-fault : goal.returns-in_default-clause-fault
returns-in_default-clause-fault g c =
    let trees = g.S.Store.trees c.args.store.now in
    let given : extra_at trees c.unwrap_or-given.result.now ≡ given_at trees (option_copied c.args.used.given) =
    ap (λ (b : Bor Extra). extra_at trees b.now) c.unwrap_or-given.ensures ∙
    given_is trees c.args.used.given _ (λ i. record { renames = c.new.ensures i; pairs = c.new-2.ensures i }) in
    let none = subst (λ o. MatchOption o (HasNoMatch (tree trees c.key-key.result) c.as_slice.result.now (tree trees c.args.found) (extra_at trees
    c.unwrap_or-given.result.now)) (IsMatch (tree trees c.key-key.result) c.as_slice.result.now (tree trees c.args.found) (extra_at trees
    c.unwrap_or-given.result.now) (g.S.Store.trees c.matching.new.store))) c.in_default.is c.in_ok-extra.ensures.found in
    (refl, λ may. no_match_of _ _ _ _ (tree trees c.args.found) _ _ c.key-key.ensures.tree_is c.as_slice.ensures.value given none)

pub returns-clause-matches : goal.returns-clause-matches
returns-clause-matches g c =
    let trees = g.S.Store.trees c.args.store.now in
    let given : extra_at trees c.unwrap_or-given.result.now ≡ given_at trees (option_copied c.args.used.given) =
    ap (λ (b : Bor Extra). extra_at trees b.now) c.unwrap_or-given.ensures ∙
    given_is trees c.args.used.given _ (λ i. record { renames = c.new.ensures i; pairs = c.new-2.ensures i }) in
    let is = subst (λ o. MatchOption o (HasNoMatch (tree trees c.key-key.result) c.as_slice.result.now (tree trees c.args.found) (extra_at trees
    c.unwrap_or-given.result.now)) (IsMatch (tree trees c.key-key.result) c.as_slice.result.now (tree trees c.args.found) (extra_at trees
    c.unwrap_or-given.result.now) (g.S.Store.trees c.matching.new.store))) c.in-Some.is c.in_ok-extra.ensures.found in
    match_of _ _ _ _ (tree trees c.args.found) _ _ c.key-key.ensures.tree_is c.as_slice.ensures.value given (g.S.Store.trees c.matching.new.store)
    c.in-Some.extra is
