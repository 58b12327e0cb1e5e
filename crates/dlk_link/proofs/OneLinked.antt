-- There is one list of linked steps.
use Rattle.std.proofs.Common.{◌≡◌, refl, sym, ap, subst, ◌∙◌, ℕ, zero, suc, ◌+◌, List, [], ◌∷◌, ◌++◌, length, map, arith, length-append}
use Rattle.dlk_calculus.specs.Sequents.{Sequent}
use Rattle.dlk_calculus.specs.Steps.{Step, Merge}
use Rattle.dlk_calculus.proofs.Decide.{same_sequent}
use Rattle.dlk_rules.specs.Facts.{renumbered}
use Rattle.dlk_link.specs.Linked.{Joins, no_goals, another, the_same, Linked}
use Rattle.dlk_link.proofs.Kept.{snoc_parts}
use Rattle.dlk_link.proofs.OneTrimmed.{not_none}

one_joins : (c : Sequent) (by main n : ℕ) (goals others : List Sequent) (steps left : List Step) → goals ≡ others → Joins c by main n goals steps →
    Joins c by main n others left → steps ≡ left
one_joins c by main n _ _ _ _ e no_goals no_goals = refl
one_joins c by main n _ _ _ _ e no_goals (another {goals = o} {s = t} ne joins) = absurd (not_none o t e)
one_joins c by main n _ _ _ _ e no_goals (the_same {goals = o} joins) = absurd (not_none o c e)
one_joins c by main n _ _ _ _ e (another {goals = g} {s = s} ne joins) no_goals = absurd (not_none g s (sym e))
one_joins c by main n _ _ _ _ e (the_same {goals = g} joins) no_goals = absurd (not_none g c (sym e))
one_joins c by main n _ _ steps left e (another {goals = g} {s = s} ne joins) (another {goals = o} {s = t} other more) =
    one_joins c by main n g o steps left (snoc_parts g o s t e).0 joins more
one_joins c by main n _ _ _ _ e (another {goals = g} {s = s} ne joins) (the_same {goals = o} more) = absurd (ne (snoc_parts g o s c e).1)
one_joins c by main n _ _ _ _ e (the_same {goals = g} joins) (another {goals = o} {s = t} ne more) = absurd (ne (sym (snoc_parts g o c t e).1))
one_joins c by main n _ _ _ _ e (the_same {goals = g} {steps = steps} joins) (the_same {goals = o} {steps = left} more) =
    let same = (snoc_parts g o c c e).0 in
    let rest = one_joins c by (n + 1) (n + 1) g o steps left same joins more in
    λ i. Merge main (length (same i) + 1) by ∷ rest i

pub one_linked : (term lemma : List Step) (goals : List Sequent) (c : Sequent) (steps others : List Step) → Linked term goals lemma c steps →
    Linked term goals lemma c others → steps ≡ others
one_linked term lemma goals c steps others a b =
    let joins = one_joins c (length term + length lemma) (length term) (length term + length lemma) goals goals a.joins b.joins refl a.joined b.joined in
    a.steps_are ∙ ap (λ l. term ++ map (renumbered (λ fact. fact + length term)) lemma ++ l) joins ∙ sym b.steps_are

-- the last of some goals
last_of : (s : Sequent) (goals : List Sequent) → (front : List Sequent) × (t : Sequent) × (s ∷ goals ≡ front ++ t ∷ [])
last_of s [] = ([], s, refl)
last_of s (t ∷ goals) = let l = last_of t goals in (s ∷ l.0, l.1, ap (λ x. s ∷ x) l.2)

some_joins : (c : Sequent) (by main n count : ℕ) (goals : List Sequent) → length goals ≡ count → (steps : List Step) × Joins c by main n goals steps
some_joins c by main n zero [] e = ([], no_goals)
some_joins c by main n zero (s ∷ goals) e = absurd (omega (arith, e))
some_joins c by main n (suc count) [] e = absurd (omega (arith, e))
some_joins c by main n (suc count) (s ∷ goals) e =
    let l = last_of s goals in
    let size : length l.0 ≡ count = let whole = ap (λ x. length x) l.2 in omega (arith, whole, e, length-append l.0 (l.1 ∷ [])) in
    elim (same_sequent l.1 c) [
      | yes is ↦
          let rest = some_joins c by (n + 1) (n + 1) count l.0 size in (
            Merge main (length l.0 + 1) by ∷ rest.0,
            subst (λ g. Joins c by main n g (Merge main (length l.0 + 1) by ∷ rest.0)) (ap (λ x. l.0 ++ x ∷ []) (sym is) ∙ sym l.2)
                (the_same rest.1),
          )
      | no other ↦
          let rest = some_joins c by main n count l.0 size in
          (rest.0, subst (λ g. Joins c by main n g rest.0) (sym l.2) (another other rest.1))
    ]

pub some_linked : (term lemma : List Step) (goals : List Sequent) (c : Sequent) → (steps : List Step) × Linked term goals lemma c steps
some_linked term lemma goals c =
    let joins = some_joins c (length term + length lemma) (length term) (length term + length lemma) (length goals) goals refl in
    (term ++ map (renumbered (λ fact. fact + length term)) lemma ++ joins.0, record { joins = joins.0; joined = joins.1; steps_are = refl })
