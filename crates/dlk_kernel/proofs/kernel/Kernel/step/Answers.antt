use Rattle.std.proofs.Common.{◌∷◌, [], arith, refl}
use Rattle.std.proofs.lemmas.Result.{err_from_is_err_and}
use Rattle.dlk_kernel.proofs.Growth.{all_formulas, still_sound, sound_more, same_rows, extends_rows, adds, rows_full}
use Rattle.dlk_kernel.proofs.kernel.Kernel.step.Goals as goal

pub give-requires-clause-limited : goal.give-requires-clause-limited
give-requires-clause-limited g c = rw c.as_slice.ensures.value c.self.invariant.are_sound.limited

pub give-requires-clause-formulas : goal.give-requires-clause-formulas
give-requires-clause-formulas g c = rw c.as_slice.ensures.value (all_formulas _ _ c.self.invariant.are_sound)

-- a refused step may have made nodes
pub invariant_of-self : goal.invariant_of-self
invariant_of-self g c = still_sound _ _ (g.met.S.Store.grows_keeps c.self.inside.store c.give.new.store c.give.ensures.grows) _ _ _ _ c.self.invariant
    c.give.ensures.named

pub invariant_of-self-then-len-ge-MOST_ROWS : goal.invariant_of-self-then-len-ge-MOST_ROWS
invariant_of-self-then-len-ge-MOST_ROWS g c =
    still_sound _ _ (g.met.S.Store.grows_keeps c.self.inside.store c.give.new.store c.give.ensures.grows) _ _ _ _ c.self.invariant c.give.ensures.named

pub invariant_of-self-in_err-push : goal.invariant_of-self-in_err-push
invariant_of-self-in_err-push g c =
    rw c.in_err-push.ensures.items (still_sound _ _ (g.met.S.Store.grows_keeps c.self.inside.store c.give.new.store c.give.ensures.grows) _ _ _ _
    c.self.invariant c.give.ensures.named)

pub invariant_of-self-2 : goal.invariant_of-self-2
invariant_of-self-2 g c =
    record {
      is_unique = c.self.invariant.is_unique;
      are_sound =
          sound_more _ _ (g.met.S.Store.grows_keeps c.self.inside.store c.give.new.store c.give.ensures.grows) _ _ c.in_ok-row.row c.self.invariant.are_sound _
          (rw c.as_slice.ensures.value at c.in_ok-row.ensures.given) c.in_ok-row.ensures.within (omega (arith, c.if-len-ge-MOST_ROWS.false, c.len.ensures))
          c.in_ok-push.ensures.items c.in_ok-row.ensures.known;
      are_named = c.give.ensures.named;
    }

pub returns-in_err-row-clause-err : goal.returns-in_err-row-clause-err
returns-in_err-row-clause-err g c =
    let p = err_from_is_err_and c.from_residual.result c.from_residual.ensures.1 in
    rw (p.1, ← c.self.view_is)
    (same_rows g.S.Store.trees _ _ (g.met.S.Store.grows_keeps c.self.inside.store c.give.new.store c.give.ensures.grows) c.self.invariant.are_sound refl)

pub returns-then-len-ge-MOST_ROWS-clause-err : goal.returns-then-len-ge-MOST_ROWS-clause-err
returns-then-len-ge-MOST_ROWS-clause-err g c =
    rw (← c.self.view_is)
    (same_rows g.S.Store.trees _ _ (g.met.S.Store.grows_keeps c.self.inside.store c.give.new.store c.give.ensures.grows) c.self.invariant.are_sound refl)

pub returns-then-len-ge-MOST_ROWS-clause-fault : goal.returns-then-len-ge-MOST_ROWS-clause-fault
returns-then-len-ge-MOST_ROWS-clause-fault g c =
    rw (← c.self.view_is) (rows_full _ _ _ _ _ (rw c.as_slice.ensures.value at c.in_ok-row.ensures.given) c.in_ok-row.ensures.within
    (omega (arith, c.if-len-ge-MOST_ROWS.true, c.len.ensures)))

pub returns-in_err-push-clause-err : goal.returns-in_err-push-clause-err
returns-in_err-push-clause-err g c =
    let p = err_from_is_err_and c.from_residual-in_err-push.result c.from_residual-in_err-push.ensures.1 in
    rw (p.1, ← c.self.view_is)
    (same_rows g.S.Store.trees _ _ (g.met.S.Store.grows_keeps c.self.inside.store c.give.new.store c.give.ensures.grows) c.self.invariant.are_sound
    c.in_err-push.ensures.items)

pub returns-clause-ok : goal.returns-clause-ok
returns-clause-ok g c =
    rw (← c.self.view_is) (adds _ _ (g.met.S.Store.grows_keeps c.self.inside.store c.give.new.store c.give.ensures.grows) _ _ c.in_ok-row.row
    c.self.invariant.are_sound _
    (rw c.as_slice.ensures.value at c.in_ok-row.ensures.given) c.in_ok-row.ensures.within (omega (arith, c.if-len-ge-MOST_ROWS.false, c.len.ensures))
    c.in_ok-push.ensures.items)

pub returns-clause-kept : goal.returns-clause-kept
returns-clause-kept g c =
    rw (← c.self.view_is) (extends_rows g.S.Store.trees _ _ (c.in_ok-row.row ∷ [])
    (g.met.S.Store.grows_keeps c.self.inside.store c.give.new.store c.give.ensures.grows) c.self.invariant.are_sound c.in_ok-push.ensures.items)

pub give-requires-clause-named : goal.give-requires-clause-named
give-requires-clause-named g c = c.self.invariant.are_named
