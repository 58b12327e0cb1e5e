use Rattle.std.proofs.Common.{◌≡◌, ◌<◌, ◌||◌, ◌&&◌, length, take, ap, subst, ◌∙◌, arith}
use Rattle.std.specs.List.{list_any}
use Rattle.std.proofs.lemmas.List.{take_all}
use Rattle.std.proofs.Math.Bool.{or_assoc}
use Rattle.dlk_tree.specs.Statics.{plain}
use Rattle.dlk_tree.specs.declared.op.Var.{Var}
use Rattle.dlk_vars.specs.Tables.{IsTable}
use Rattle.dlk_vars.specs.Sets.{has}
use Rattle.dlk_shared.specs.SetTables.{SetTable, row_at, var_at, is_prime_of, ArePlainToo}
use Rattle.dlk_shared.proofs.Primes.{primes, primes_more, primes_all}
use Rattle.dlk_shared.proofs.SetLemmas.{Grows-trans, kept_primes}
use Rattle.dlk_shared.proofs.sets.SetTable.and_primes.Goals as goal

pub loop-n-preserved : goal.loop-n-preserved
loop-n-preserved c =
    let vars = c.args.self.now.vars in
    let from = row_at c.args.self.now.sets c.args.a in
    let n = c.loop-n.n in
    let inv = c.loop-n.invariant in
    let now = c.loop-n.self.vars in
    let was = row_at c.loop-n.self.sets c.args.a in
    let gains = c.in_ok-set-2.ensures.gains in
    let same = ap (λ (t : SetTable). t.vars) c.self.view_is in
    let from_same : was ≡ from = ap (λ l. row_at l c.args.a) inv.sets in
    let lt : n < length vars = omega (arith, ap length (c.as_slice-n-end.ensures.vars ∙ same)) in
    let table = subst IsTable same c.as_slice-n-end.ensures.table in
    record {
      grows = Grows-trans inv.grows c.in_ok-set-2.ensures.grows;
      sets = c.in_ok-set-2.ensures.sets ∙ inv.sets;
      within = gains.within;
      members = λ v. gains.members v
          ∙ ap (λ b. b || is_prime_of was n (var_at now n) v) (inv.members v)
          ∙ or_assoc (has vars from v) (list_any (primes vars from v) (take n vars)) (is_prime_of was n (var_at now n) v)
          ∙ ap (λ r. has vars from v || (list_any (primes vars from v) (take n vars) || is_prime_of r n (var_at now n) v)) from_same
          ∙ ap (λ b. has vars from v || b) (primes_more vars now from n v table inv.grows lt);
    }

pub returns-clause-makes : goal.returns-clause-makes
returns-clause-makes c =
    let old = c.args.self.now in
    let vars = old.vars in
    let from = row_at old.sets c.args.a in
    let n = c.loop-n.n in
    let inv = c.loop-n.invariant in
    let same = ap (λ (t : SetTable). t.vars) c.self.view_is in
    let done : take n vars ≡ vars = take_all n vars (omega (arith, ap length (c.as_slice-n-end.ensures.vars ∙ same))) in
    let closed = subst ArePlainToo same c.self.invariant in
    let all = λ (v : Var). inv.members v ∙ ap (λ l. has vars from v || list_any (primes vars from v) l) done ∙ primes_all vars from closed v in
    kept_primes c.keep.result old c.keep.new.self c.args.a c.loop-n.self.vars c.loop-n.set c.keep.ensures.known c.keep.ensures.row c.keep.ensures.vars
    (λ s m. record {
      members = λ v. all v ∙ (λ i. m.holds.members v i || (v.primed && m.holds.members (plain v.name) i));
      within = inv.within;
    })
