-- The first rows of a term, which stay as they are where they have the numbers that they had.
use Rattle.std.proofs.Common.{◌≡◌, refl, sym, ap, subst, ◌∙◌, ℕ, zero, suc, ◌+◌, ◌-◌, ◌<◌, ◌≤◌, List, [], ◌∷◌, ◌++◌, inl, inr, length, take, drop, arith}
use Rattle.std.proofs.Common.{map, get_or, length-append}
use Rattle.std.proofs.lemmas.Bool.{cases_order}
use Rattle.std.proofs.lemmas.List.{take-append-drop, take-append-le, take_all, take_rest, take-map, drop-map}
use Rattle.dlk_tree.specs.Trees.{Tree}
use Rattle.dlk_calculus.specs.Places.{At}
use Rattle.dlk_calculus.specs.Provables.{Provable}
use Rattle.dlk_calculus.specs.Steps.{Step as TreeStep}
use Rattle.dlk_rules.specs.declared.step.Step.{Step}
use Rattle.dlk_rules.specs.Steps.{step_at}
use Rattle.dlk_kernel.specs.Kernel.{State, facts, provable_at}
use Rattle.dlk_kernel.specs.Taken.{Takes, none, more}
use Rattle.dlk_link.specs.Trimmed.{new_number, moved, Trims, nothing_read, not_needed, kept_before, is_kept}
use Rattle.dlk_link.specs.Unmoved.{HaveOldNumbers, TrimmedFrom}
use Rattle.dlk_link.proofs.Kept.{at_some, at_more, at_last, at_either, take_length, same_step}
use Rattle.dlk_link.proofs.Linked.{takes_on}
use Rattle.dlk_link.proofs.LinkedSteps.{takes_join}
use Rattle.dlk_link.proofs.Named.{same_moved, facts_before, place_of}
use Rattle.dlk_link.proofs.Names.{HasFact}

-- ---- numbers from the first row on

pub none_old : (numbers : List ℕ) → HaveOldNumbers numbers 0
none_old numbers row a b = absurd (omega (arith, a, b))

pub one_more_old : (numbers : List ℕ) (row : ℕ) → row < length numbers → get_or numbers row 0 ≡ row + 1 → HaveOldNumbers numbers row →
    HaveOldNumbers numbers (row + 1)
one_more_old numbers row lt same so_far k a b = elim (cases_order k (row + 1)) [
  | inl e ↦ subst (λ j. At numbers j j) (sym e) here
  | inr (inl less) ↦ so_far k a (omega (arith, less))
  | inr (inr gt) ↦ absurd (omega (arith, gt, b))
]
  where
    here : At numbers (row + 1) (row + 1)
    here =
        let place : suc row ≡ row + 1 = omega arith in
        subst (λ j. At numbers j (row + 1)) place (subst (At numbers (suc row)) same (at_some numbers row 0 lt))

-- without the last number
old_before : (numbers : List ℕ) (x same : ℕ) → HaveOldNumbers (numbers ++ x ∷ []) same → same ≤ length numbers → HaveOldNumbers numbers same
old_before numbers x same old le row a b = elim (at_either numbers x row row (old row a b)) [
  | inl e ↦ e
  | inr e ↦ let place = e.0 in absurd (omega (arith, place, b, le))
]

-- the last number
old_last : (numbers : List ℕ) (x same : ℕ) → HaveOldNumbers (numbers ++ x ∷ []) same → length numbers < same → x ≡ length numbers + 1
old_last numbers x same old lt = elim (at_either numbers x (length numbers + 1) (length numbers + 1)
    (old (length numbers + 1) (omega arith) (omega (arith, lt)))) [
      | inl e ↦ let within = (place_of numbers (length numbers + 1) (length numbers + 1) e).1 in absurd (omega (arith, within))
      | inr e ↦ sym e.1
    ]

fewer : (numbers : List ℕ) (few same : ℕ) → HaveOldNumbers numbers same → few ≤ same → HaveOldNumbers numbers few
fewer numbers few same old le row a b = old row a (omega (arith, b, le))

-- no more have than there are
old_within : (numbers : List ℕ) (same : ℕ) → HaveOldNumbers numbers same → same ≤ length numbers
old_within numbers zero old = omega arith
old_within numbers (suc same) old = (place_of numbers (suc same) (suc same) (old (suc same) (omega arith) (omega arith))).1

-- ---- the first kept steps

-- each step names rows before its own
abbrev NamesBefore : List TreeStep → Type 0
NamesBefore read = (row : ℕ) (step : TreeStep) (fact : ℕ) → At read row step → HasFact step fact → (1 ≤ fact) × (fact < row)

record Begins (read kept : List TreeStep) (numbers : List ℕ) : Type 0 where
  numbered : length numbers ≡ length read
  few : length kept ≤ length read
  same : (many : ℕ) → HaveOldNumbers numbers many → (many ≤ length kept) × (take many kept ≡ take many read)

-- where each row has its number the last step stays
stays : (read : List TreeStep) (step : TreeStep) (numbers : List ℕ) → NamesBefore (read ++ step ∷ []) → HaveOldNumbers numbers (length read) →
    moved numbers step ≡ step
stays read step numbers before old =
    same_moved (new_number numbers) (λ fact. fact) step (λ fact named. let b = before (length read + 1) step fact (at_last read step) named in
    let low = b.0 in let high = b.1 in its fact (old fact low (omega (arith, high)))) ∙ same_step step
  where
    its : (fact : ℕ) → At numbers fact fact → new_number numbers fact ≡ fact
    its fact h = rw h refl

-- the last step that is read gets a number that isn't its old one
left_out : (read kept : List TreeStep) (numbers : List ℕ) (step : TreeStep) (n many : ℕ) → length numbers ≡ length read →
    ((many : ℕ) → HaveOldNumbers numbers many → (many ≤ length kept) × (take many kept ≡ take many read)) →
    HaveOldNumbers (numbers ++ n ∷ []) many → (length numbers < many → ⊥) → (many ≤ length kept) × (take many kept ≡ take many (read ++ step ∷ []))
left_out read kept numbers step n many size same old not_all = elim (cases_order many (length numbers)) [
  | inl e ↦ here (omega (arith, e))
  | inr (inl lt) ↦ here (omega (arith, lt))
  | inr (inr gt) ↦ absurd (not_all gt)
]
  where
    here : many ≤ length numbers → (many ≤ length kept) × (take many kept ≡ take many (read ++ step ∷ []))
    here le =
        let was = same many (old_before numbers n many old le) in
        (was.0, was.1 ∙ sym (take-append-le many read (step ∷ []) (omega (arith, le, size))))

-- it is kept
kept_too : (read kept : List TreeStep) (numbers : List ℕ) (step : TreeStep) (many : ℕ) → NamesBefore (read ++ step ∷ []) → length numbers ≡ length read →
    ((many : ℕ) → HaveOldNumbers numbers many → (many ≤ length kept) × (take many kept ≡ take many read)) →
    HaveOldNumbers (numbers ++ (length kept + 1) ∷ []) many →
    (many ≤ length (kept ++ moved numbers step ∷ [])) × (take many (kept ++ moved numbers step ∷ []) ≡ take many (read ++ step ∷ []))
kept_too read kept numbers step many before size same old = elim (cases_order many (length numbers)) [
  | inl e ↦ here (omega (arith, e))
  | inr (inl lt) ↦ here (omega (arith, lt))
  | inr (inr gt) ↦ all gt
]
  where
    longer : length (kept ++ moved numbers step ∷ []) ≡ length kept + 1
    longer = length-append kept (moved numbers step ∷ [])

    here : many ≤ length numbers →
        (many ≤ length (kept ++ moved numbers step ∷ [])) × (take many (kept ++ moved numbers step ∷ []) ≡ take many (read ++ step ∷ []))
    here le =
        let was = same many (old_before numbers (length kept + 1) many old le) in
        let short = was.0 in (
          omega (arith, short, longer),
          take-append-le many kept (moved numbers step ∷ []) short ∙ was.1 ∙ sym (take-append-le many read (step ∷ []) (omega (arith, le, size))),
        )

    all : length numbers < many →
        (many ≤ length (kept ++ moved numbers step ∷ [])) × (take many (kept ++ moved numbers step ∷ []) ≡ take many (read ++ step ∷ []))
    all gt =
        let e = old_last numbers (length kept + 1) many old gt in
        let reach = old_within (numbers ++ (length kept + 1) ∷ []) many old in
        let first : HaveOldNumbers numbers (length numbers) =
        old_before numbers (length kept + 1) (length numbers) (fewer (numbers ++ (length kept + 1) ∷ []) (length numbers) many old (omega (arith, gt)))
        (omega arith) in
        let was = (same (length numbers) first).1 in
        let equal : kept ≡ read =
        sym (take_all (length numbers) kept (omega (arith, e))) ∙ was ∙ take_all (length numbers) read (omega (arith, size)) in
        let stay : moved numbers step ≡ step = stays read step numbers before (subst (HaveOldNumbers numbers) size first) in (
          omega (arith, e, reach, longer, length-append numbers ((length kept + 1) ∷ [])),
          λ i. take many (equal i ++ stay i ∷ []),
        )

begins : (term read kept : List TreeStep) (numbers : List ℕ) → NamesBefore read → Trims term read kept numbers → Begins read kept numbers
begins term _ _ _ before nothing_read = record {
  numbered = refl;
  few = omega arith;
  same = λ many old. (old_within [] many old, refl);
}
begins term _ kept _ before (not_needed {read = read} {numbers = numbers} step trims needless) =
    let was = begins term read kept numbers (λ row s fact h named. before row s fact (at_more read (step ∷ []) row s h) named) trims in
    let size = was.numbered in
    let few = was.few in
    record {
      numbered = omega (arith, size, length-append numbers (0 ∷ []), length-append read (step ∷ []));
      few = omega (arith, few, length-append read (step ∷ []));
      same = λ many old. left_out read kept numbers step 0 many size was.same old (λ lt. let e = old_last numbers 0 many old lt in omega (arith, e));
    }
begins term _ kept _ before (kept_before {read = read} {numbers = numbers} step n trims need stands) =
    let was = begins term read kept numbers (λ row s fact h named. before row s fact (at_more read (step ∷ []) row s h) named) trims in
    let size = was.numbered in
    let few = was.few in
    let within = (place_of kept n (moved numbers step) stands).1 in
    record {
      numbered = omega (arith, size, length-append numbers (n ∷ []), length-append read (step ∷ []));
      few = omega (arith, few, length-append read (step ∷ []));
      same = λ many old. left_out read kept numbers step n many size was.same old
          (λ lt. let e = old_last numbers n many old lt in omega (arith, e, within, few, size));
    }
begins term _ _ _ before (is_kept {read = read} {kept = kept} {numbers = numbers} step trims need new) =
    let was = begins term read kept numbers (λ row s fact h named. before row s fact (at_more read (step ∷ []) row s h) named) trims in
    let size = was.numbered in
    let few = was.few in
    record {
      numbered = omega (arith, size, length-append numbers ((length kept + 1) ∷ []), length-append read (step ∷ []));
      few = omega (arith, few, length-append kept (moved numbers step ∷ []), length-append read (step ∷ []));
      same = λ many old. kept_too read kept numbers step many before size was.same old;
    }

-- ---- their rows

-- the first steps give the first rows
takes_take : (n : ℕ) (steps : List TreeStep) (rows : List Provable) → Takes [] steps rows → Takes [] (take n steps) (take n rows)
takes_take zero steps rows takes = none
takes_take (suc n) _ _ none = none
takes_take (suc n) _ _ (more {steps = steps} {mid = mid} {step = step} {p = p} takes is) = elim (cases_order (suc n) (length steps + 1)) [
  | inl e ↦ whole (omega (arith, e))
  | inr (inl lt) ↦ part (takes_take (suc n) steps mid takes) (omega (arith, lt))
  | inr (inr gt) ↦ whole (omega (arith, gt))
]
  where
    long : length mid ≡ length steps
    long = take_length steps mid takes

    whole : length steps + 1 ≤ suc n → Takes [] (take (suc n) (steps ++ step ∷ [])) (take (suc n) (mid ++ p ∷ []))
    whole le =
        subst (λ l. Takes [] l (take (suc n) (mid ++ p ∷ [])))
        (sym (take_all (suc n) (steps ++ step ∷ []) (omega (arith, le, length-append steps (step ∷ [])))))
        (subst (Takes [] (steps ++ step ∷ [])) (sym (take_all (suc n) (mid ++ p ∷ []) (omega (arith, le, long, length-append mid (p ∷ []))))) (more takes is))

    part : Takes [] (take (suc n) steps) (take (suc n) mid) → suc n ≤ length steps →
        Takes [] (take (suc n) (steps ++ step ∷ [])) (take (suc n) (mid ++ p ∷ []))
    part first le =
        subst (λ l. Takes [] l (take (suc n) (mid ++ p ∷ []))) (sym (take-append-le (suc n) steps (step ∷ []) le))
        (subst (Takes [] (take (suc n) steps)) (sym (take-append-le (suc n) mid (p ∷ []) (omega (arith, le, long)))) first)

-- the first kept steps have the first rows
pub record Front (kept : List TreeStep) (rows : List Provable) (same : ℕ) : Type 0 where
  pub few : same ≤ length rows
  pub short : same ≤ length kept
  pub takes : Takes [] (take same kept) (take same rows)

pub front : (term kept : List TreeStep) (rows : List Provable) (same : ℕ) → Takes [] term rows → TrimmedFrom term kept same → Front kept rows same
front term kept rows same takes (numbers, trims, old) =
    let begin = begins term term kept numbers (λ row step fact h named. facts_before term rows row step fact takes h named) trims in
    let its = begin.same same old in
    let long = take_length term rows takes in
    let within = old_within numbers same old in
    let size = begin.numbered in
    record {
      few = omega (arith, within, size, long);
      short = its.0;
      takes = subst (λ l. Takes [] l (take same rows)) (sym its.1) (takes_take same term rows takes);
    }

-- so the others are taken behind these rows, as the whole is taken from nothing
pub others_taken : (kept : List TreeStep) (rows all : List Provable) (same : ℕ) → Front kept rows same → Takes [] kept all →
    Takes (take same rows) (drop same kept) all
others_taken kept rows all same f takes =
    takes_on [] (take same rows) all (take same kept) (drop same kept) f.takes (subst (λ l. Takes [] l all) (sym (take-append-drop same kept)) takes)

-- and then the whole is
pub whole_taken : (kept : List TreeStep) (rows after : List Provable) (same : ℕ) → Front kept rows same → Takes (take same rows) (drop same kept) after →
    Takes [] kept after
whole_taken kept rows after same f takes =
    subst (λ l. Takes [] l after) (take-append-drop same kept) (takes_join [] (take same rows) after (take same kept) (drop same kept) f.takes takes)

-- ---- on a kernel

-- what is left after going back to so many rows
pub released : {S : Type 0} (trees : S → List Tree) (old new : State S) (n : ℕ) → new.store ≡ old.store → new.rows ≡ take n old.rows →
    facts trees new ≡ take n (facts trees old)
released trees old new n store rows =
    (λ i. map (provable_at (trees (store i))) (rows i)) ∙ sym (take-map (provable_at (trees old.store)) n old.rows)

-- the others as they are handed on
pub others_are : (a b : List Tree) (kept slice : List Step) (n : ℕ) → a ≡ b → slice ≡ kept →
    map (step_at a) (take (length slice - n) (drop n slice)) ≡ drop n (map (step_at b) kept)
others_are a b kept slice n same e =
    ap (map (step_at a)) (take_rest slice n) ∙ (λ i. map (step_at (same i)) (drop n (e i))) ∙ sym (drop-map (step_at b) n kept)
