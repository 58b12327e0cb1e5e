-- The uses of a plan in turn, as they are run.
use Rattle.std.proofs.Common.{◌≡◌, ℕ, ◌+◌, ◌<◌, List, [], ◌∷◌, map, Result, Ok, Err, refl, sym, ap, subst, ◌∙◌}
use Rattle.std.specs.List.{All}
use Rattle.std.proofs.lemmas.List.Elements.{All-nil, All-cons}
use Rattle.dlk_calculus.specs.Places.{At}
use Rattle.dlk_calculus.specs.Sequents.{Sequent}
use Rattle.dlk_sequent.specs.declared.sequent.Place.{Place}
use Rattle.dlk_uses.specs.Uses.{formula_at}
use Rattle.dlk_tacsyn.specs.Tactics.{AtPlace, Atom, One}
use Rattle.dlk_tacsyn.specs.Rows.{IsFitting}
use Rattle.dlk_tacsyn.specs.Strategies.{parts}
use Rattle.dlk_derive.specs.Plans.{Call}
use Rattle.dlk_derive.specs.Derives.{Plans, use_of}
use Rattle.dlk_strategy.specs.declared.fault.RunFault.{RunFault}
use Rattle.dlk_strategy.specs.declared.fault.RunFault.TheVariants as fault
use Rattle.dlk_strategy.specs.Runs.{Progress, Outcome, Fate, Then, OnEach, RunAtom, OneByOne, RunDerive, plans, InTurn, main_goals, most_runs}
use Rattle.dlk_strategy.specs.Ties.{at_byte, Becomes}

-- as parts of a sequence they become the same
pub as_sequence : (byte : ℕ) (place : Place) (calls : List Call) (goals goal : ℕ) →
    OneByOne (map (use_of byte place) calls) goals goal ≡ InTurn (parts (map (λ call. One (use_of byte place call)) calls)) goals goal
as_sequence byte place [] goals goal = refl
as_sequence byte place (call ∷ rest) goals goal =
    λ i. Then (OnEach (RunAtom (use_of byte place call)) goals goal) (λ left. as_sequence byte place rest left goal i)

-- the byte of the name is put for that of the plan
put_byte : (byte : ℕ) (place : Place) (calls : List Call) → map (at_byte byte) (map (use_of 0 place) calls) ≡ map (use_of byte place) calls
put_byte byte place [] = refl
put_byte byte place (call ∷ rest) = ap (λ others. use_of byte place call ∷ others) (put_byte byte place rest)

-- where a use is fitting, all are
module _ (use_fits : (byte : ℕ) (place : Place) (call : Call) → IsFitting (use_of byte place call)) where
  uses_fit : (place : Place) (calls : List Call) → All IsFitting (map (use_of 0 place) calls)
  uses_fit place [] = All-nil IsFitting
  uses_fit place (call ∷ rest) = All-cons IsFitting (use_of 0 place call) (map (use_of 0 place) rest) (use_fits 0 place call) (uses_fit place rest)

  pub planned_fit : (atoms : List Atom) (place : Place) (calls : List Call) → atoms ≡ map (use_of 0 place) calls → All IsFitting atoms
  planned_fit atoms place calls are = subst (All IsFitting) (sym are) (uses_fit place calls)

-- at another byte an atom is as fitting
pub moved_fits : (byte : ℕ) (atom : Atom) → IsFitting atom → IsFitting (at_byte byte atom)
moved_fits byte atom h = record { row = h.row; row_is = h.row_is; arguments = h.arguments }

-- what becomes of them is what becomes of `derive`
pub derived : (atom : Atom) (goal : ℕ) (now : Progress) (s : Sequent) (place : Place) (path : List ℕ) (calls : List Call) (atoms : List Atom) →
    now.used < most_runs → At (main_goals now.rows) goal s → atom.arguments ≡ AtPlace place path ∷ [] → Plans (formula_at s place) path calls →
    atoms ≡ map (use_of 0 place) calls →
    (o : Outcome) → OneByOne (map (at_byte atom.at) atoms) 1 goal (record now { used = now.used + 1 }) o → RunDerive atom goal now o
derived atom goal now s place path calls atoms room stands at planned are o runs =
    let uses = ap (map (at_byte atom.at)) are ∙ put_byte atom.at place calls in
    let next : Progress = record now { used = now.used + 1 } in
    plans s place path calls room stands at planned (subst (λ (xs : List Atom). OneByOne xs 1 goal next o) uses runs)

pub becomes_on : (fate other : Fate) (here now after : Progress) → ((o : Outcome) → fate here o → other now o) → (r : Result ℕ RunFault) →
    Becomes fate here after r → Becomes other now after r
becomes_on fate other here now after law (Ok left) h = law _ h
becomes_on fate other here now after law (Err (fault.Fails at why)) h = law _ h
becomes_on fate other here now after law (Err (fault.Budget at)) h = law _ h
becomes_on fate other here now after law (Err fault.Memory) h = tt
