use Rattle.std.proofs.Common.{◌≡◌, ◌<◌, ◌&&◌, not, Bool, Some, true, false, [], length, get_or, slice_get, refl, sym, ap, subst, ◌∙◌, rules}
use Rattle.std.proofs.lemmas.List.{get_or_default}
use Rattle.std.proofs.lemmas.Option.{slice_get-get_or}
use Rattle.dlk_tree.specs.Listed.{is_among}
use Rattle.dlk_tree.specs.Statics.{plain, prime}
use Rattle.dlk_tree.specs.declared.op.Var.{Var}
use Rattle.dlk_vars.specs.Rows.{has_number}
use Rattle.dlk_vars.specs.Sets.{Gains}
use Rattle.dlk_vars.specs.Tables.{number_of, Grows}
use Rattle.dlk_shared.specs.SetTables.{SetTable, row_at, var_at, GainsPrime}
use Rattle.dlk_shared.proofs.PlainToo.{tried_plain_too}
use Rattle.dlk_shared.proofs.Primes.{gained, plain_there}
use Rattle.dlk_shared.proofs.SetLemmas.{mapped}
use Rattle.dlk_shared.proofs.sets.SetTable.with_prime_of.Goals as goal

unprimed : (a b : Bool) → (not a && b) ≡ true → a ≡ false
unprimed false b h = refl
unprimed true b h = absurd cc

pub invariant_of-self-2 : goal.invariant_of-self-2
invariant_of-self-2 c =
    let vars = c.self.inside.vars in
    let n = c.args.n in
    let w = c.index-as_slice-n.result in
    let v = c.primed-prime.result in
    let same : vars ≡ c.args.self.now.vars = ap (λ (t : SetTable). t.vars) c.self.view_is in
    let within : n < length vars = subst (λ l. n < length l) (sym same) c.requires.known in
    let there : slice_get vars n ≡ Some w =
    slice_get-get_or vars n w within ∙ ap Some (sym (c.index-as_slice-n.is ∙ ap (λ l. get_or l n w) c.as_slice.ensures.vars)) in
    let named : v ≡ prime w.name = search rules in
    let own : (not w.primed && has_number (row_at c.args.self.now.sets c.args.a) n) ≡ true = search rules in
    let plain_too = plain_there vars n w there (unprimed w.primed (has_number (row_at c.args.self.now.sets c.args.a) n) own) in
    tried_plain_too vars v c.self.invariant (λ _. subst (λ (u : Var). is_among vars (plain u.name) ≡ true) (sym named) plain_too)
    c.number.result c.number.new.self c.number.ensures.numbered c.number.ensures.unchanged

pub returns-clause-gains : goal.returns-clause-gains
returns-clause-gains c =
    let vars = c.args.self.now.vars in
    let new = c.number.new.self in
    let n = c.args.n in
    let from = row_at c.args.self.now.sets c.args.a in
    let w = c.index-as_slice-n.result in
    let same : c.self.inside.vars ≡ vars = ap (λ (t : SetTable). t.vars) c.self.view_is in
    let at : w ≡ var_at vars n =
    c.index-as_slice-n.is ∙ ap (λ l. get_or l n w) (c.as_slice.ensures.vars ∙ same) ∙ get_or_default vars n w (plain []) c.requires.known in
    let named : c.primed-prime.result ≡ prime w.name = search rules in
    let number : number_of new (prime (var_at vars n).name) ≡ Some c.in_ok-p.p.0 =
    subst (λ v. number_of new v ≡ Some c.in_ok-p.p.0) (named ∙ ap (λ (u : Var). prime u.name) at) c.in_ok-p.ensures.number in
    let own : (not w.primed && has_number from n) ≡ true = search rules in
    let wanted = ap (λ (u : Var). not u.primed && has_number from n) (sym at) ∙ own in
    mapped (Gains c.args.set c.in_ok-p.p.0) (GainsPrime vars c.args.set from n new) c.with.result
    (λ r g. gained vars new c.args.set from r n c.in_ok-p.p.0 wanted (subst (λ vs. Grows vs new) same c.number.ensures.grows) number g c.requires.within)
    c.with.ensures.vars
