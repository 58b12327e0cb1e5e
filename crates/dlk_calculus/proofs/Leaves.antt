-- The leaves of what is derived are sequents of arithmetic, and none stands twice.
use Rattle.std.proofs.Common.{List, [], ◌∷◌, ◌++◌, refl, subst, ◌⊎◌, inl, inr}
use Rattle.std.specs.Prelude.{IsTrue}
use Rattle.std.proofs.lemmas.List.Elements.{All-cons, All-nil}
use Rattle.dlk_calculus.specs.Arithmetic.{is_arithmetic_sequent}
use Rattle.dlk_calculus.specs.Sequents.{Sequent}
use Rattle.dlk_calculus.specs.Provables.{Provable, IsAmong, AreDistinct, HasLeaves, AreNew, no_more, there, added}
use Rattle.dlk_calculus.specs.Steps.{Derives, by_itself, by_axiom, by_axiomatic_rule, by_arithmetic, by_rule, by_fact, by_substitution, by_renaming}
use Rattle.dlk_calculus.proofs.Formulas.{all_joined}

abbrev IsArithmetic : Sequent → Type 0
IsArithmetic s = IsTrue (is_arithmetic_sequent s)

-- a sequent is new where it is one of the others and not an old one
new_is : (old more new : List Sequent) (s : Sequent) → AreNew old more new → IsAmong s new → IsAmong s more × (¬ IsAmong s old)
new_is old [] _ s no_more a = absurd a
new_is old (r ∷ more) new s (there b j) a = let is = new_is old more new s j a in (inr is.0, is.1)
new_is old (r ∷ more) _ s (added {new} n j) a = elim a [
  | inl e ↦ (inl e, λ b. n (subst (λ t. IsAmong t old) e b))
  | inr b ↦ let is = new_is old more new s j b in (inr is.0, is.1)
]

new_distinct : (old more new : List Sequent) → AreDistinct more → AreNew old more new → AreDistinct new
new_distinct old [] _ h no_more = tt
new_distinct old (s ∷ more) new h (there a j) = new_distinct old more new h.1 j
new_distinct old (s ∷ more) _ h (added {new} n j) = ((λ a. h.0 (new_is old more new s j a).0), new_distinct old more new h.1 j)

-- one of two lists
among_either : (s : Sequent) (old new : List Sequent) → IsAmong s (old ++ new) → IsAmong s old ⊎ IsAmong s new
among_either s [] new a = inr a
among_either s (r ∷ old) new a = elim a [ inl e ↦ inl (inl e) | inr b ↦ elim (among_either s old new b) [ inl c ↦ inl (inr c) | inr c ↦ inr c ] ]

apart_distinct : (old new : List Sequent) → AreDistinct old → AreDistinct new → ((s : Sequent) → IsAmong s new → ¬ IsAmong s old) → AreDistinct (old ++ new)
apart_distinct [] new h k apart = k
apart_distinct (s ∷ old) new h k apart = (
  λ a. elim (among_either s old new a) [ inl b ↦ h.0 b | inr b ↦ apart s b (inl refl) ],
  apart_distinct old new h.1 k (λ r b c. apart r b (inr c)),
)

-- where none of the old leaves stands twice and none of the others, none of the joined ones does
joined_distinct : (old more new : List Sequent) → AreDistinct old → AreDistinct more → AreNew old more new → AreDistinct (old ++ new)
joined_distinct old more new h k j = apart_distinct old new h (new_distinct old more new k j) (λ s a. (new_is old more new s j a).1)

pub Derives-leaves : (p : Provable) → Derives p → HasLeaves p
Derives-leaves _ (by_itself {s} h) = record { arithmetic = All-nil IsArithmetic; distinct = tt }
Derives-leaves _ (by_axiom name a e) = record { arithmetic = All-nil IsArithmetic; distinct = tt }
Derives-leaves _ (by_axiomatic_rule name r e) = record { arithmetic = All-nil IsArithmetic; distinct = tt }
Derives-leaves _ (by_arithmetic {s} h k) = record { arithmetic = All-cons IsArithmetic s [] k (All-nil IsArithmetic); distinct = ((λ a. a), tt) }
Derives-leaves _ (by_rule {c} {s} {premises} {leaves} {rule} before after d real made) =
    let h = Derives-leaves (record { conclusion = c; goals = before ++ s ∷ after; leaves = leaves }) d in
    record { arithmetic = h.arithmetic; distinct = h.distinct }
Derives-leaves _ (by_fact {c} {leaves} {new} {p} before after d e joined) =
    let h = Derives-leaves (record { conclusion = c; goals = before ++ p.conclusion ∷ after; leaves = leaves }) d in
    let k = Derives-leaves p e in
    record {
      arithmetic = all_joined IsArithmetic leaves p.leaves new h.arithmetic k.arithmetic joined;
      distinct = joined_distinct leaves p.leaves new h.distinct k.distinct joined;
    }
Derives-leaves _ (by_substitution {p} {q} {pairs} d made well free is) =
    let h = Derives-leaves p d in
    record { arithmetic = rw is.leaves h.arithmetic; distinct = rw is.leaves h.distinct }
Derives-leaves _ (by_renaming {p} x y d a b) = let h = Derives-leaves p d in record { arithmetic = h.arithmetic; distinct = h.distinct }
