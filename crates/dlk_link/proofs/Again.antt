-- Steps of which no two are equal, and each but the last is named by a later one, are kept as they are.
use Rattle.std.proofs.Common.{◌≡◌, refl, sym, subst, ◌∙◌, ℕ, zero, suc, ◌+◌, ◌≤◌, List, [], ◌∷◌, ◌++◌, inl, inr, length, take, drop, arith, length-append}
use Rattle.std.proofs.Common.{get_or}
use Rattle.std.specs.List.{Contains}
use Rattle.std.proofs.Math.Seq.{take-suc, take-length}
use Rattle.std.proofs.lemmas.List.{length-take-le, take-append-drop}
use Rattle.std.proofs.lemmas.Bool.{cases_order}
use Rattle.dlk_calculus.specs.Places.{At}
use Rattle.dlk_calculus.specs.Provables.{Provable}
use Rattle.dlk_calculus.specs.Steps.{Step, UseAxiom}
use Rattle.dlk_calculus.proofs.PlaceLaws.{at_suc}
use Rattle.dlk_kernel.specs.Taken.{Takes}
use Rattle.dlk_link.specs.Neat.{AreUnlike, AreNamed}
use Rattle.dlk_link.specs.Trimmed.{IsNeeded, the_last, is_named, new_number, moved, Trims, Trimmed, nothing_read, is_kept}
use Rattle.dlk_link.proofs.Kept.{at_more, at_some, old_number, last_number, same_step}
use Rattle.dlk_link.proofs.Named.{same_moved, facts_before, place_of}
use Rattle.dlk_link.proofs.Names.{IsIn, in_from_contains}

-- 1 to n
abbrev count : ℕ → List ℕ
count zero = []
count (suc n) = count n ++ (n + 1) ∷ []

count_length : (n : ℕ) → length (count n) ≡ n
count_length zero = refl
count_length (suc n) = let e = count_length n in omega (arith, e, length-append (count n) ((n + 1) ∷ []))

count_at : (n fact : ℕ) → 1 ≤ fact → fact ≤ n → new_number (count n) fact ≡ fact
count_at n zero a b = absurd (omega (arith, a))
count_at zero (suc f) a b = absurd (omega (arith, b))
count_at (suc n) (suc f) a b = elim (cases_order (suc f) (n + 1)) [
  | inl e ↦
      let place : length (count n) + 1 ≡ suc f = let l = count_length n in omega (arith, l, e) in
      subst (λ k. new_number (count n ++ (n + 1) ∷ []) k ≡ suc f) place (last_number (count n) (n + 1) ∙ sym e)
  | inr (inl lt) ↦
      let l = count_length n in
      old_number (count n) (n + 1) (suc f) (count n) (get_or (count n) f 0) refl (at_some (count n) f 0 (omega (arith, lt, l)))
      ∙ count_at n (suc f) a (omega (arith, lt))
  | inr (inr gt) ↦ absurd (omega (arith, gt, b))
]

pub at_later : {A : Type 0} (y : A) (rest : List A) (place : ℕ) (x : A) → At rest place x → At (y ∷ rest) (suc place) x
at_later y rest zero x e = absurd (cc e)
at_later y rest (suc place) x e = at_suc (y ∷ rest) (suc place) ∙ sym (at_suc rest place) ∙ e

pub get_in : {A : Type 0} (items : List A) (x : A) → IsIn x items → (place : ℕ) × At items place x
get_in [] x h = absurd h
get_in (y ∷ items) x (inl e) = (1, cc)
get_in (y ∷ items) x (inr h) = let f = get_in items x h in (suc f.0, at_later y items f.0 x f.1)

module _ (steps : List Step) (rows : List Provable) (takes : Takes [] steps rows) (some : 1 ≤ length steps) (unlike : AreUnlike steps) (named : AreNamed steps)
  where
    -- each row is needed
    needed : (more n : ℕ) → 1 ≤ n → n ≤ length steps → length steps ≤ n + more → IsNeeded steps n
    needed zero n a b c = subst (IsNeeded steps) (omega (arith, b, c)) the_last
    needed (suc more) n a b c = elim (cases_order n (length steps)) [
      | inl e ↦ subst (IsNeeded steps) (sym e) the_last
      | inr (inl lt) ↦
          let f = named n a lt in
          let within = (place_of steps f.0 f.1 f.2).1 in
          let after = f.4 in
          is_named (needed more f.0 (omega (arith, after)) within (omega (arith, after, c))) f.2 f.3
      | inr (inr gt) ↦ absurd (omega (arith, gt, b))
    ]

    stays : (n : ℕ) (step : Step) → At steps (n + 1) step → moved (count n) step ≡ step
    stays n step h =
        same_moved (new_number (count n)) (λ fact. fact) step (λ fact has. let b = facts_before steps rows (n + 1) step fact takes h has in
        let low = b.0 in let high = b.1 in count_at n fact low (omega (arith, high))) ∙ same_step step

    -- no earlier one is equal
    is_new : (n : ℕ) (step : Step) → n ≤ length steps → At steps (n + 1) step → ¬ Contains (take n steps) step
    is_new n step le h c =
        let f = get_in (take n steps) step (in_from_contains (take n steps) step c) in
        let short = (place_of (take n steps) f.0 step f.1).1 in
        let there : At steps f.0 step = subst (λ l. At l f.0 step) (take-append-drop n steps) (at_more (take n steps) (drop n steps) f.0 step f.1) in
        let same = unlike f.0 (n + 1) step there h in
        omega (arith, short, same, length-take-le n steps le)

    so_far : (n : ℕ) → n ≤ length steps → Trims steps (take n steps) (take n steps) (count n)
    so_far zero le = nothing_read
    so_far (suc n) le =
        let d = UseAxiom [] in
        let step = get_or steps n d in
        let l : length (take n steps) ≡ n = length-take-le n steps (omega (arith, le)) in
        let place : suc n ≡ n + 1 = omega arith in
        let at : At steps (n + 1) step = subst (λ k. At steps k step) place (at_some steps n d (omega (arith, le))) in
        let e : moved (count n) step ≡ step = stays n step at in
        let need : IsNeeded steps (length (take n steps) + 1) =
        subst (λ k. IsNeeded steps (k + 1)) (sym l) (needed (length steps) (n + 1) (omega arith) (omega (arith, le)) (omega arith)) in
        let new : ¬ Contains (take n steps) (moved (count n) step) = subst (λ z. ¬ Contains (take n steps) z) (sym e) (is_new n step (omega (arith, le)) at) in
        let made : Trims steps (take n steps ++ step ∷ []) (take n steps ++ moved (count n) step ∷ []) (count n ++ (length (take n steps) + 1) ∷ []) =
        is_kept {read = take n steps} {kept = take n steps} {numbers = count n} step (so_far n (omega (arith, le))) need new in
        let whole : take n steps ++ step ∷ [] ≡ take (suc n) steps = sym (take-suc steps n d (omega (arith, le))) in
        subst (λ z. Trims steps z z (count (suc n))) whole
        (subst (λ k. Trims steps (take n steps ++ step ∷ []) (take n steps ++ step ∷ []) (count n ++ (k + 1) ∷ [])) l
        (subst (λ z. Trims steps (take n steps ++ step ∷ []) (take n steps ++ z ∷ []) (count n ++ (length (take n steps) + 1) ∷ [])) e made))

pub neat_is_trimmed : (steps : List Step) (rows : List Provable) → Takes [] steps rows → 1 ≤ length steps → AreUnlike steps → AreNamed steps →
    Trimmed steps steps
neat_is_trimmed steps rows takes some unlike named = (
  count (length steps),
  subst (λ z. Trims steps z z (count (length steps))) (take-length steps)
      (so_far steps rows takes some unlike named (length steps) (omega arith)),
)
