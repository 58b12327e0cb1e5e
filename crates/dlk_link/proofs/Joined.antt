-- Goals that are replaced, and leaves that join.
use Rattle.std.proofs.Common.{◌≡◌, ◌≢◌, refl, sym, subst, List, [], ◌∷◌, ◌++◌, ◌⊎◌, inl, inr, append_assoc, append-nil}
use Rattle.dlk_calculus.specs.Provables.{IsAmong, AreNew, no_more, there, added}
use Rattle.dlk_calculus.specs.Sequents.{Sequent}
use Rattle.dlk_link.specs.Linked.{Replaces, no_more as none, stays, proved}

pub replaces_stays : (c s : Sequent) (new old goals : List Sequent) → s ≢ c → Replaces c new old goals → Replaces c new (old ++ s ∷ []) (goals ++ s ∷ [])
replaces_stays c s new _ _ ne none = stays ne none
replaces_stays c s new _ _ ne (stays {old = old} {goals = goals} other r) = stays other (replaces_stays c s new old goals ne r)
replaces_stays c s new _ _ ne (proved {old = old} {goals = goals} r) =
    subst (Replaces c new (c ∷ (old ++ s ∷ []))) (sym (append_assoc new goals (s ∷ []))) (proved (replaces_stays c s new old goals ne r))

pub replaces_proved : (c : Sequent) (new old goals : List Sequent) → Replaces c new old goals → Replaces c new (old ++ c ∷ []) (goals ++ new)
replaces_proved c new _ _ none = subst (Replaces c new (c ∷ [])) (append-nil new) (proved none)
replaces_proved c new _ _ (stays {old = old} {goals = goals} other r) = stays other (replaces_proved c new old goals r)
replaces_proved c new _ _ (proved {old = old} {goals = goals} r) =
    subst (Replaces c new (c ∷ (old ++ c ∷ []))) (sym (append_assoc new goals new)) (proved (replaces_proved c new old goals r))

among_left : (s : Sequent) (xs ys : List Sequent) → IsAmong s xs → IsAmong s (xs ++ ys)
among_left s [] ys a = absurd a
among_left s (x ∷ xs) ys (inl e) = inl e
among_left s (x ∷ xs) ys (inr a) = inr (among_left s xs ys a)

among_right : (s : Sequent) (xs ys : List Sequent) → IsAmong s ys → IsAmong s (xs ++ ys)
among_right s [] ys a = a
among_right s (x ∷ xs) ys a = inr (among_right s xs ys a)

pub among_either : (s : Sequent) (xs ys : List Sequent) → IsAmong s (xs ++ ys) → IsAmong s xs ⊎ IsAmong s ys
among_either s [] ys a = inr a
among_either s (x ∷ xs) ys (inl e) = inl (inl e)
among_either s (x ∷ xs) ys (inr a) = elim (among_either s xs ys a) [ inl b ↦ inl (inr b) | inr b ↦ inr b ]

-- those that join are all there
all_joined : (old more new : List Sequent) → AreNew old more new → (s : Sequent) → IsAmong s more → IsAmong s (old ++ new)
all_joined old _ _ no_more s a = absurd a
all_joined old _ new (there {s = t} {more = more} known are) s (inl e) = among_left s old new (subst (λ z. IsAmong z old) (sym e) known)
all_joined old _ new (there {s = t} {more = more} known are) s (inr a) = all_joined old more new are s a
all_joined old _ _ (added {s = t} {more = more} {new = new} fresh are) s (inl e) = among_right s old (t ∷ new) (inl e)
all_joined old _ _ (added {s = t} {more = more} {new = new} fresh are) s (inr a) =
    elim (among_either s old new (all_joined old more new are s a)) [
      | inl b ↦ among_left s old (t ∷ new) b
      | inr b ↦ among_right s old (t ∷ new) (inr b)
    ]

none_left : (old more new : List Sequent) → AreNew old more new → ((s : Sequent) → IsAmong s more → IsAmong s old) → new ≡ []
none_left old _ _ no_more all = refl
none_left old _ new (there {s = t} {more = more} known are) all = none_left old more new are (λ s a. all s (inr a))
none_left old _ _ (added {s = t} {more = more} {new = new} fresh are) all = absurd (fresh (all t (inl refl)))

-- so none of them is new again
pub nothing_new : (old more new again : List Sequent) → AreNew old more new → AreNew (old ++ new) more again → again ≡ []
nothing_new old more new again are more_are = none_left (old ++ new) more again more_are (all_joined old more new are)
