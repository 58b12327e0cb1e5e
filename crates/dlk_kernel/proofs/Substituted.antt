-- What a substitution makes of sequents and rows, one after another, over a store that grows.
use Rattle.std.proofs.Common.{◌≡◌, ℕ, suc, zero, ◌+◌, ◌<◌, List, [], ◌∷◌, ◌++◌, length, map, take, get_or, sym, ap, subst, ◌∙◌, Some, Bool, false, Result}
use Rattle.std.proofs.Common.{Err, arith}
use Rattle.std.specs.Prelude.{IsTrue}
use Rattle.std.specs.List.{All}
use Rattle.std.proofs.lemmas.List.{take_more, map-append, get_or-map, length-map}
use Rattle.std.proofs.lemmas.List.Elements.{All-weaker, All-map}
use Rattle.dlk_tree.specs.declared.op.Op.TheVariants.{True}
use Rattle.dlk_tree.specs.Trees.{Tree, node, no_kids, WellMade}
use Rattle.dlk_store.specs.declared.Id.{Id}
use Rattle.dlk_store.specs.Stores.{IsId, tree, Keeps}
use Rattle.dlk_store.specs.Kids.{Keeps-trans}
use Rattle.dlk_calculus.specs.declared.reason.Reason.TheVariants.{FreeInSubst}
use Rattle.dlk_calculus.specs.declared.reason.Reason.TheVariants as reason
use Rattle.dlk_calculus.specs.Places.{at, At}
use Rattle.dlk_calculus.specs.Pairs.{Pair as TreePair, AreWellMade, IsFreeIn, IsWellFormed}
use Rattle.dlk_calculus.specs.Subst.{Subst}
use Rattle.dlk_calculus.specs.Sequents.{Sequent as TreeSequent}
use Rattle.dlk_calculus.specs.Provables.{Provable, SubstEach, SubstSequent, SubstSequents, Substitutes, HasGoal}
use Rattle.dlk_calculus.specs.Steps.{Substitute, Gives, substitute, Fault}
use Rattle.dlk_calculus.proofs.PlaceLaws.{At-map}
use Rattle.dlk_calculus.proofs.StepLaws.{first_ill_pairs, first_free_over_goals, first_not_admissible}
use Rattle.dlk_sequent.specs.declared.sequent.Sequent.{Sequent}
use Rattle.dlk_sequent.specs.declared.subst.Pair.{Pair}
use Rattle.dlk_sequent.specs.Sequents.{sequent_at, IsKnown}
use Rattle.dlk_sequent.specs.Substitutions.{Checked, pair_at, pairs_at, AreKnownPairs, IsMadeOver}
use Rattle.dlk_sequent.proofs.Kept.{IsKnown-kept, trees-kept, sequent-kept, sequents-kept}
use Rattle.dlk_sequent.specs.Growth.{pairs_at-kept}
use Rattle.dlk_sequent.specs.declared.fault.ApplyFault.{ApplyFault}
use Rattle.dlk_sequent.specs.declared.fault.ApplyFault.TheVariants.{NotAdmissible, Memory}
use Rattle.dlk_subst.specs.Results.{IsResult, HasNone}
use Rattle.dlk_kernel.specs.declared.row.Row.{Row}
use Rattle.dlk_kernel.specs.declared.fault.StepFault.{StepFault}
use Rattle.dlk_kernel.specs.declared.fault.StepFault.TheVariants.{Refused}
use Rattle.dlk_kernel.specs.declared.fault.StepFault.TheVariants as fault
use Rattle.dlk_kernel.specs.Faults.{IsStepFault, apply_fault_of}
use Rattle.dlk_kernel.specs.Kernel.{provable_at, provables_at, IsKnownRow}

-- one more formula
each_more : (pairs : List TreePair) (fs gs : List Tree) (f g : Tree) → SubstEach pairs fs gs → Subst pairs f g → SubstEach pairs (fs ++ f ∷ []) (gs ++ g ∷ [])
each_more pairs [] [] f g h s = (s, tt)
each_more pairs [] (d ∷ gs) f g h s = absurd h
each_more pairs (e ∷ fs) [] f g h s = absurd h
each_more pairs (e ∷ fs) (d ∷ gs) f g h s = (h.0, each_more pairs fs gs f g h.1 s)

-- one of the formulas has no result
each_none : (pairs : List TreePair) (fs : List Tree) (i : ℕ) (d : Tree) → i < length fs → HasNone (Subst pairs (get_or fs i d)) → (gs : List Tree) →
    SubstEach pairs fs gs → ⊥
each_none pairs [] i d lt none gs h = absurd (omega arith)
each_none pairs (f ∷ fs) i d lt none [] h = h
each_none pairs (f ∷ fs) zero d lt none (g ∷ gs) h = none g h.0
each_none pairs (f ∷ fs) (suc i) d lt none (g ∷ gs) h = each_none pairs fs i d (omega arith) none gs h.1

-- one more sequent
sequents_more : (pairs : List TreePair) (ss ts : List TreeSequent) (s t : TreeSequent) → SubstSequents pairs ss ts → SubstSequent pairs s t →
    SubstSequents pairs (ss ++ s ∷ []) (ts ++ t ∷ [])
sequents_more pairs [] [] s t h one = (one, tt)
sequents_more pairs [] (d ∷ ts) s t h one = absurd h
sequents_more pairs (e ∷ ss) [] s t h one = absurd h
sequents_more pairs (e ∷ ss) (d ∷ ts) s t h one = (h.0, sequents_more pairs ss ts s t h.1 one)

-- one of the sequents has no result
sequents_none : (pairs : List TreePair) (ss : List TreeSequent) (i : ℕ) (d : TreeSequent) → i < length ss →
    ((t : TreeSequent) → SubstSequent pairs (get_or ss i d) t → ⊥) → (ts : List TreeSequent) → SubstSequents pairs ss ts → ⊥
sequents_none pairs [] i d lt none ts h = absurd (omega arith)
sequents_none pairs (s ∷ ss) i d lt none [] h = h
sequents_none pairs (s ∷ ss) zero d lt none (t ∷ ts) h = none t h.0
sequents_none pairs (s ∷ ss) (suc i) d lt none (t ∷ ts) h = sequents_none pairs ss i d (omega arith) none ts h.1

module _ (old now : List Tree) (first : Keeps old now) (pairs : List Pair) (are_known : AreKnownPairs old pairs) where
  abbrev same_pairs : pairs_at now pairs ≡ pairs_at old pairs
  same_pairs = pairs_at-kept first pairs are_known

  -- What the substitution over the store as it stands makes of a formula, of formulas and of sequents, it makes over the old one.
  formula_first : (id : Id) → IsId old id → (t : Tree) → Subst (pairs_at now pairs) (tree now id) t ≡ Subst (pairs_at old pairs) (tree old id) t
  formula_first id known t = let same = first.same id known in λ i. Subst (same_pairs i) (same i) t

  formulas_first : (ids : List Id) → All (IsId old) ids → (ts : List Tree) →
      SubstEach (pairs_at now pairs) (map (tree now) ids) ts ≡ SubstEach (pairs_at old pairs) (map (tree old) ids) ts
  formulas_first ids known ts = let same = trees-kept first ids known in λ i. SubstEach (same_pairs i) (same i) ts

  sequent_first : (s : Sequent) → IsKnown old s → (t : TreeSequent) →
      SubstSequent (pairs_at now pairs) (sequent_at now s) t ≡ SubstSequent (pairs_at old pairs) (sequent_at old s) t
  sequent_first s known t = let same = sequent-kept first s known in λ i. SubstSequent (same_pairs i) (same i) t

  sequents_first : (all : List Sequent) → All (IsKnown old) all → (ts : List TreeSequent) →
      SubstSequents (pairs_at now pairs) (map (sequent_at now) all) ts ≡ SubstSequents (pairs_at old pairs) (map (sequent_at old) all) ts
  sequents_first all known ts = let same = sequents-kept first all known in λ i. SubstSequents (same_pairs i) (same i) ts

  -- nothing is made where nothing is made of one
  pub no_id : (ids : List Id) (n : ℕ) (d : Id) → n < length ids → IsId old (get_or ids n d) → HasNone (Subst (pairs_at now pairs) (tree now (get_or ids n d))) →
      (ts : List Tree) → SubstEach (pairs_at old pairs) (map (tree old) ids) ts → ⊥
  no_id ids n d lt known none =
      each_none (pairs_at old pairs) (map (tree old) ids) n (tree old d) (rw length-map lt)
      (λ t h. none t (subst (λ X. X) (sym (formula_first (get_or ids n d) known t))
      (subst (λ w. Subst (pairs_at old pairs) w t) (get_or-map (tree old) ids n d (tree old d) lt) h)))

  pub no_sequent : (all : List Sequent) (n : ℕ) (d : Sequent) → n < length all → IsKnown old (get_or all n d) →
      ((t : TreeSequent) → SubstSequent (pairs_at now pairs) (sequent_at now (get_or all n d)) t → ⊥) →
      (ts : List TreeSequent) → SubstSequents (pairs_at old pairs) (map (sequent_at old) all) ts → ⊥
  no_sequent all n d lt known none =
      sequents_none (pairs_at old pairs) (map (sequent_at old) all) n (sequent_at old d) (rw length-map lt)
      (λ t h. none t (subst (λ X. X) (sym (sequent_first (get_or all n d) known t))
      (subst (λ w. SubstSequent (pairs_at old pairs) w t) (get_or-map (sequent_at old) all n d (sequent_at old d) lt) h)))

  pub no_succ : (s : Sequent) → IsKnown old s → ((ts : List Tree) → SubstEach (pairs_at now pairs) (map (tree now) s.succ) ts → ⊥) →
      (t : TreeSequent) → SubstSequent (pairs_at old pairs) (sequent_at old s) t → ⊥
  no_succ s known none t h = none t.succ (subst (λ X. X) (sym (formulas_first s.succ known.succ t.succ)) h.1)

  pub no_goals : (row : Row) → IsKnownRow old row → ((ts : List TreeSequent) → SubstSequents (pairs_at now pairs) (map (sequent_at now) row.goals) ts → ⊥) →
      (q : Provable) → Substitutes (pairs_at old pairs) (provable_at old row) q → ⊥
  no_goals row known none q h = none q.goals (subst (λ X. X) (sym (sequents_first row.goals known.goals q.goals)) h.goals)

  module _ (next : List Tree) (then : Keeps now next) where
    -- one more is made
    pub one_more_id : (ids made : List Id) (n : ℕ) (d r : Id) → n < length ids → IsId old (get_or ids n d) → All (IsId now) made →
        SubstEach (pairs_at old pairs) (map (tree old) (take n ids)) (map (tree now) made) →
        IsResult (Subst (pairs_at now pairs) (tree now (get_or ids n d))) next r →
        SubstEach (pairs_at old pairs) (map (tree old) (take (n + 1) ids)) (map (tree next) (made ++ r ∷ []))
    one_more_id ids made n d r lt known made_known before is =
        let one = subst (λ X. X) (formula_first (get_or ids n d) known (tree next r))
        (subst (Subst (pairs_at now pairs) (tree now (get_or ids n d))) (sym is.stands.tree_is) is.is_related) in
        rw (
          take_more ids n d lt,
          map-append (tree old) (take n ids) (get_or ids n d ∷ []),
          map-append (tree next) made (r ∷ []),
          trees-kept then made made_known,
        )
        (each_more (pairs_at old pairs) _ _ _ _ before one)

    pub one_more_sequent : (all made : List Sequent) (n : ℕ) (d r : Sequent) → n < length all → IsKnown old (get_or all n d) → All (IsKnown now) made →
        SubstSequents (pairs_at old pairs) (map (sequent_at old) (take n all)) (map (sequent_at now) made) →
        SubstSequent (pairs_at now pairs) (sequent_at now (get_or all n d)) (sequent_at next r) →
        SubstSequents (pairs_at old pairs) (map (sequent_at old) (take (n + 1) all)) (map (sequent_at next) (made ++ r ∷ []))
    one_more_sequent all made n d r lt known made_known before is =
        let one = subst (λ X. X) (sequent_first (get_or all n d) known (sequent_at next r)) is in
        rw (
          take_more all n d lt,
          map-append (sequent_at old) (take n all) (get_or all n d ∷ []),
          map-append (sequent_at next) made (r ∷ []),
          sequents-kept then made made_known,
        )
        (sequents_more (pairs_at old pairs) _ _ _ _ before one)

    -- a sequent, one side after the other
    pub both_sides : (s made : Sequent) → IsKnown old s → SubstEach (pairs_at old pairs) (map (tree old) s.ante) (map (tree now) made.ante) →
        All (IsId now) made.ante →
        SubstEach (pairs_at now pairs) (map (tree now) s.succ) (map (tree next) made.succ) →
        SubstSequent (pairs_at old pairs) (sequent_at old s) (sequent_at next made)
    both_sides s made known ante made_known succ = (
      subst (SubstEach (pairs_at old pairs) (map (tree old) s.ante)) (sym (trees-kept then made.ante made_known)) ante,
      subst (λ X. X) (formulas_first s.succ known.succ (map (tree next) made.succ)) succ,
    )

    -- a row, whose leaves stay
    pub whole_row : (row made : Row) → IsKnownRow old row →
        SubstSequent (pairs_at old pairs) (sequent_at old row.conclusion) (sequent_at now made.conclusion) → IsKnown now made.conclusion →
        SubstSequents (pairs_at now pairs) (map (sequent_at now) row.goals) (map (sequent_at next) made.goals) → made.leaves ≡ row.leaves →
        Substitutes (pairs_at old pairs) (provable_at old row) (provable_at next made)
    whole_row row made known conclusion made_known goals leaves = record {
      conclusion = subst (SubstSequent (pairs_at old pairs) (sequent_at old row.conclusion)) (sym (sequent-kept then made.conclusion made_known)) conclusion;
      goals = subst (λ X. X) (sequents_first row.goals known.goals (map (sequent_at next) made.goals)) goals;
      leaves = ap (map (sequent_at next)) leaves ∙ sequents-kept (Keeps-trans first then) row.leaves known.leaves;
    }

-- and its ids are known
pub whole_known : (old now next : List Tree) → Keeps old now → Keeps now next → (row made : Row) → IsKnownRow old row → IsKnown now made.conclusion →
    All (IsKnown next) made.goals → made.leaves ≡ row.leaves → IsKnownRow next made
whole_known old now next first then row made known conclusion goals leaves = record {
  conclusion = IsKnown-kept then made.conclusion conclusion;
  goals = goals;
  leaves = rw leaves (All-weaker (IsKnown old) (IsKnown next) (IsKnown-kept (Keeps-trans first then)) row.leaves known.leaves);
}

-- what replaces a symbol is well made
pub are_made : (trees : List Tree) (pairs : List Pair) → All WellMade trees → AreKnownPairs trees pairs → AreWellMade (pairs_at trees pairs)
are_made trees pairs made known =
    All-map (λ (p : TreePair). WellMade p.by) (pair_at trees) pairs (λ i d h. made (get_or pairs i d).by.0 (node True no_kids) (known i d h))

pub not_true : (b : Bool) → b ≡ false → IsTrue b → ⊥
not_true b is true_too = cc (is, true_too)

-- a row has a goal where it has more than none
some_goal : (trees : List Tree) (goals : List Sequent) → 0 < length goals → HasGoal (map (sequent_at trees) goals)
some_goal trees [] more = absurd (omega arith)
some_goal trees (s ∷ goals) more = tt

more_than_none : (trees : List Tree) (goals : List Sequent) → HasGoal (map (sequent_at trees) goals) → 0 < length goals
more_than_none trees [] h = absurd h
more_than_none trees (s ∷ goals) h = omega arith

-- pairs that aren't well formed
pub ill_refused : (trees : List Tree) (rows : List Row) (fact : ℕ) (row : Row) (pairs : List TreePair) → at rows fact ≡ Some row → (fault : StepFault) →
    IsStepFault (λ why. (why ≡ reason.IllSubst) × (¬ IsWellFormed pairs)) fault → IsStepFault (Fault (provables_at trees rows) (Substitute fact pairs)) fault
ill_refused trees rows fact row pairs there (Refused why) ill =
    subst (Fault (provables_at trees rows) (Substitute fact pairs)) (sym ill.0)
    (first_ill_pairs (provables_at trees rows) fact pairs (provable_at trees row) (At-map (provable_at trees) rows fact row there) ill.1)
ill_refused trees rows fact row pairs there fault.Memory ill = tt

-- a substitution of these pairs, on a fact that is there
module _ (old : List Tree) (well_made : All WellMade old) (rows : List Row) (fact : ℕ) (row : Row) (there : at rows fact ≡ Some row)
    (pairs : List Pair) (sigma : Checked) (same : sigma.pairs ≡ pairs) (over : IsMadeOver old sigma) where
  abbrev p : Provable
  p = provable_at old row

  abbrev is_fact : At (provables_at old rows) fact p
  is_fact = At-map (provable_at old) rows fact row there

  abbrev made : AreWellMade (pairs_at old sigma.pairs)
  made = are_made old sigma.pairs well_made over.known

  pub free_refused : IsFreeIn (pairs_at old sigma.pairs) → 0 < length row.goals →
      Fault (provables_at old rows) (Substitute fact (pairs_at old pairs)) FreeInSubst
  free_refused free more =
      subst (λ (ps : List Pair). Fault (provables_at old rows) (Substitute fact (pairs_at old ps)) FreeInSubst) same
      (first_free_over_goals (provables_at old rows) fact (pairs_at old sigma.pairs) p is_fact over.well_formed (some_goal old row.goals more) free)

  module _ (allowed : IsFreeIn (pairs_at old sigma.pairs) × (0 < length row.goals) → ⊥) where
    abbrev none_free : HasGoal p.goals → IsFreeIn (pairs_at old sigma.pairs) → ⊥
    none_free goal free = allowed (free, more_than_none old row.goals goal)

    pub substituted_given : (q : Provable) → Substitutes (pairs_at old sigma.pairs) p q → Gives (provables_at old rows) (Substitute fact (pairs_at old pairs)) q
    substituted_given q is =
        subst (λ (ps : List Pair). Gives (provables_at old rows) (Substitute fact (pairs_at old ps)) q) same
        (substitute fact (pairs_at old sigma.pairs) p q is_fact made over.well_formed none_free is)

    pub none_refused : (result : Result Row ApplyFault) (f : ApplyFault) → result ≡ Err f →
        (result ≡ Err NotAdmissible → (q : Provable) → Substitutes (pairs_at old sigma.pairs) p q → ⊥) →
        IsStepFault (Fault (provables_at old rows) (Substitute fact (pairs_at old pairs))) (apply_fault_of f)
    none_refused result NotAdmissible is none =
        subst (λ (ps : List Pair). Fault (provables_at old rows) (Substitute fact (pairs_at old ps)) reason.NotAdmissible) same
        (first_not_admissible (provables_at old rows) fact (pairs_at old sigma.pairs) p is_fact over.well_formed none_free (none is))
    none_refused result Memory is none = tt
