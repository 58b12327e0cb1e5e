-- Linked steps as they are made.
use Rattle.std.proofs.Common.{◌≡◌, ◌≢◌, refl, sym, ap, subst, ◌∙◌, ℕ, zero, suc, ◌+◌, ◌-◌, ◌<◌, ◌≤◌, List, [], ◌∷◌, ◌++◌, inl, inr, length, map, take}
use Rattle.std.proofs.Common.{arith}
use Rattle.std.proofs.Common.{append_assoc, append-nil, get_or}
use Rattle.std.specs.List.{All}
use Rattle.std.proofs.Math.Seq.{take-suc, take-length}
use Rattle.std.proofs.lemmas.List.{length-map, length-take-le, map-append}
use Rattle.std.proofs.lemmas.List.Elements.{All-head, All-tail}
use Rattle.dlk_tree.specs.Trees.{Tree}
use Rattle.dlk_calculus.specs.declared.reason.Reason.{Reason}
use Rattle.dlk_calculus.specs.Limits.{most_rows}
use Rattle.dlk_calculus.specs.Places.{At}
use Rattle.dlk_calculus.specs.Provables.{Provable, IsAmong}
use Rattle.dlk_calculus.specs.Sequents.{Sequent}
use Rattle.dlk_calculus.specs.Steps.{Step as TreeStep, Merge, StepOf}
use Rattle.dlk_calculus.proofs.PlaceLaws.{at_one}
use Rattle.dlk_calculus.proofs.StepLaws.{one_given}
use Rattle.dlk_kernel.specs.declared.fault.StepFault.{StepFault}
use Rattle.dlk_kernel.specs.declared.fault.StepFault.TheVariants as step_fault
use Rattle.dlk_kernel.specs.Faults.{IsStepFault}
use Rattle.dlk_kernel.specs.Taken.{Takes, none, more}
use Rattle.dlk_rules.specs.declared.step.Step.{Step}
use Rattle.dlk_rules.specs.declared.step.Step.TheVariants as step
use Rattle.dlk_rules.specs.Facts.{renumbered}
use Rattle.dlk_rules.specs.Steps.{step_at, HasKnownIds}
use Rattle.dlk_uses.specs.Taking.{FirstFault}
use Rattle.dlk_link.specs.Ends.{EndsIn}
use Rattle.dlk_link.specs.Faults.{link_fault_of, IsLinkFault}
use Rattle.dlk_link.specs.Linked.{Joins, no_goals, another, the_same}
use Rattle.dlk_link.specs.Marks.{NameEarlier, NamesFew}
use Rattle.dlk_link.specs.Links.{Links, LacksGoal, LinksUpTo}
use Rattle.dlk_link.proofs.Kept.{snoc_parts, at_some, take_length}
use Rattle.dlk_link.proofs.OneTrimmed.{not_none}
use Rattle.dlk_link.proofs.Joined.{among_either}

-- ---- merges, from the last goal down

-- what is left to join of the first goals gives the rest of the merges
abbrev pub MergesSoFar : Sequent → (by main : ℕ) → List Sequent → List Tree → (goal fact rows : ℕ) → List Step → Type 0
MergesSoFar c by main goals trees goal fact rows made = (rest : List TreeStep) → Joins c by fact rows (take goal goals) rest →
    Joins c by main by goals (map (step_at trees) made ++ rest)

module _ (c : Sequent) (by main : ℕ) (goals : List Sequent) (trees : List Tree) where
  pub merges_begin : (made : List Step) → made ≡ [] → MergesSoFar c by main goals trees (length goals) main by made
  merges_begin made e rest j =
      subst (λ m. Joins c by main by goals (map (step_at trees) m ++ rest)) (sym e) (subst (λ g. Joins c by main by g rest) (take-length goals) j)

  goal_last : (k : ℕ) → k < length goals → take (suc k) goals ≡ take k goals ++ get_or goals k c ∷ []
  goal_last k lt = take-suc goals k c lt

  pub merges_same : (goal fact rows : ℕ) (made : List Step) → 0 < goal → goal ≤ length goals → get_or goals (goal - 1) c ≡ c →
      MergesSoFar c by main goals trees goal fact rows made →
      MergesSoFar c by main goals trees (goal - 1) (rows + 1) (rows + 1) (made ++ step.Merge fact goal by ∷ [])
  merges_same zero fact rows made some within is so_far rest j = absurd (omega (arith, some))
  merges_same (suc k) fact rows made some within is so_far rest j =
      let one : suc k - 1 ≡ k = omega arith in
      let here : get_or goals k c ≡ c = ap (λ n. get_or goals n c) (sym one) ∙ is in
      let size : length (take k goals) + 1 ≡ suc k = let l = length-take-le k goals (omega (arith, within)) in omega (arith, l) in
      let joined : Joins c by fact rows (take k goals ++ c ∷ []) (Merge fact (length (take k goals) + 1) by ∷ rest) =
      the_same (subst (λ n. Joins c by (rows + 1) (rows + 1) (take n goals) rest) one j) in
      let all : take (suc k) goals ≡ take k goals ++ c ∷ [] = goal_last k (omega (arith, within)) ∙ ap (λ g. take k goals ++ g ∷ []) here in
      let at : Joins c by fact rows (take (suc k) goals) (Merge fact (suc k) by ∷ rest) =
      subst (λ g. Joins c by fact rows g (Merge fact (suc k) by ∷ rest)) (sym all)
      (subst (λ n. Joins c by fact rows (take k goals ++ c ∷ []) (Merge fact n by ∷ rest)) size joined) in
      let shape : map (step_at trees) made ++ (Merge fact (suc k) by ∷ rest) ≡ map (step_at trees) (made ++ step.Merge fact (suc k) by ∷ []) ++ rest =
      sym (append_assoc (map (step_at trees) made) (Merge fact (suc k) by ∷ []) rest)
      ∙ ap (λ l. l ++ rest) (sym (map-append (step_at trees) made (step.Merge fact (suc k) by ∷ []))) in
      subst (Joins c by main by goals) shape (so_far (Merge fact (suc k) by ∷ rest) at)

  pub merges_other : (goal fact rows : ℕ) (made : List Step) → 0 < goal → goal ≤ length goals → get_or goals (goal - 1) c ≢ c →
      MergesSoFar c by main goals trees goal fact rows made → MergesSoFar c by main goals trees (goal - 1) fact rows made
  merges_other zero fact rows made some within is so_far rest j = absurd (omega (arith, some))
  merges_other (suc k) fact rows made some within is so_far rest j =
      let one : suc k - 1 ≡ k = omega arith in
      let other : get_or goals k c ≢ c = λ e. is (ap (λ n. get_or goals n c) one ∙ e) in
      so_far rest (subst (λ g. Joins c by fact rows g rest) (sym (goal_last k (omega (arith, within))))
      (another other (subst (λ n. Joins c by fact rows (take n goals) rest) one j)))

  pub merges_done : (fact rows : ℕ) (made : List Step) → MergesSoFar c by main goals trees 0 fact rows made →
      Joins c by main by goals (map (step_at trees) made)
  merges_done fact rows made so_far = subst (Joins c by main by goals) (append-nil (map (step_at trees) made)) (so_far [] no_goals)

-- some goal is the lemma's conclusion exactly where there is a merge
joins_none : (c : Sequent) (by main rows : ℕ) (goals : List Sequent) (steps : List TreeStep) → steps ≡ [] → Joins c by main rows goals steps → ¬ IsAmong c goals
joins_none c by main rows _ steps e no_goals a = a
joins_none c by main rows _ steps e (another {goals = goals} {s = s} ne j) a = elim (among_either c goals (s ∷ []) a) [
  | inl b ↦ joins_none c by main rows goals steps e j b
  | inr b ↦ elim b [ inl same ↦ ne (sym same) | inr empty ↦ empty ]
]
joins_none c by main rows _ steps e (the_same {goals = goals} j) a = cc

joins_some : (c : Sequent) (by main rows : ℕ) (goals : List Sequent) (steps : List TreeStep) → 0 < length steps → Joins c by main rows goals steps →
    IsAmong c goals
joins_some c by main rows _ steps lt no_goals = absurd (omega (arith, lt))
joins_some c by main rows _ steps lt (another {goals = goals} {s = s} ne j) = front goals s (joins_some c by main rows goals steps lt j)
  where
    front : (goals : List Sequent) (s : Sequent) → IsAmong c goals → IsAmong c (goals ++ s ∷ [])
    front [] s a = absurd a
    front (x ∷ goals) s (inl e) = inl e
    front (x ∷ goals) s (inr a) = inr (front goals s a)
joins_some c by main rows _ steps lt (the_same {goals = goals} j) = last goals
  where
    last : (goals : List Sequent) → IsAmong c (goals ++ c ∷ [])
    last [] = inl refl
    last (x ∷ goals) = inr (last goals)

-- ---- steps behind others

-- one more of what is left is made
pub one_behind : (trees : List Tree) (to : ℕ → ℕ) (made new : List Step) (copy step : Step) (left rest : List Step) (all : List TreeStep) →
    new ≡ made ++ copy ∷ [] → left ≡ step ∷ rest → step_at trees copy ≡ renumbered to (step_at trees step) →
    map (step_at trees) made ++ map (renumbered to) (map (step_at trees) left) ≡ all →
    map (step_at trees) new ++ map (renumbered to) (map (step_at trees) rest) ≡ all
one_behind trees to made new copy step left rest all pushed next same e =
    ap (λ l. map (step_at trees) l ++ map (renumbered to) (map (step_at trees) rest)) pushed
    ∙ ap (λ l. l ++ map (renumbered to) (map (step_at trees) rest)) (map-append (step_at trees) made (copy ∷ []))
    ∙ append_assoc (map (step_at trees) made) (step_at trees copy ∷ []) (map (renumbered to) (map (step_at trees) rest))
    ∙ ap (λ x. map (step_at trees) made ++ x ∷ map (renumbered to) (map (step_at trees) rest)) same
    ∙ ap (λ l. map (step_at trees) made ++ map (renumbered to) (map (step_at trees) l)) (sym next)
    ∙ e

pub none_left : (trees : List Tree) (to : ℕ → ℕ) (made left : List Step) (all : List TreeStep) → length left ≡ 0 →
    map (step_at trees) made ++ map (renumbered to) (map (step_at trees) left) ≡ all → map (step_at trees) made ≡ all
none_left trees to made [] all ended e = sym (append-nil (map (step_at trees) made)) ∙ e
none_left trees to made (x ∷ left) all ended e = absurd (omega (arith, ended))

-- steps that name earlier rows name few
pub all_few : (steps : List Step) → NameEarlier steps → length steps ≤ most_rows → All NamesFew steps
all_few steps earlier few k d lt fact has =
    let b = (earlier (suc k) (get_or steps k d) (at_some steps k d lt) fact has).1 in omega (arith, b, lt, few)

-- some rows have a last one
pub last_item : {A : Type 0} (items : List A) → 1 ≤ length items → (x : A) × At items (length items) x
last_item [] some = absurd (omega (arith, some))
last_item (x ∷ items) some = (get_or (x ∷ items) (length items) x, at_some (x ∷ items) (length items) x (omega arith))

-- ---- what is the same over a store that has grown

pub maps_stay : (old new : List Tree) → ((s : Step) → HasKnownIds old s → step_at new s ≡ step_at old s) → (steps : List Step) → All (HasKnownIds old) steps →
    map (step_at new) steps ≡ map (step_at old) steps
maps_stay old new same [] known = refl
maps_stay old new same (s ∷ steps) known =
    let first = same s (All-head (HasKnownIds old) s steps known) in
    let rest = maps_stay old new same steps (All-tail (HasKnownIds old) s steps known) in
    λ i. first i ∷ rest i

-- ---- steps that are taken once and again

pub one_taken : (base a b : List Provable) (xs ys : List TreeStep) → xs ≡ ys → Takes base xs a → Takes base ys b → a ≡ b
one_taken base _ _ _ _ e none none = refl
one_taken base _ _ _ _ e none (more {steps = ys} {step = t} takes is) = absurd (not_none ys t e)
one_taken base _ _ _ _ e (more {steps = xs} {step = s} takes is) none = absurd (not_none xs s (sym e))
one_taken base _ _ _ _ e (more {steps = xs} {mid = m} {step = s} {p = p} takes is) (more {steps = ys} {mid = n} {step = t} {p = q} others has) =
    let same = snoc_parts xs ys s t e in
    let mids = one_taken base m n xs ys same.0 takes others in
    let row : p ≡ q = one_given n t p q (subst (λ z. StepOf n z p) same.1 (subst (λ r. StepOf r s p) mids is)).given has.given in
    λ i. mids i ++ row i ∷ []

pub takes_join : (base mid after : List Provable) (xs ys : List TreeStep) → Takes base xs mid → Takes mid ys after → Takes base (xs ++ ys) after
takes_join base mid _ xs _ takes none = subst (λ l. Takes base l mid) (sym (append-nil xs)) takes
takes_join base mid _ xs _ takes (more {steps = ys} {mid = m} {step = s} {p = p} others is) =
    subst (λ l. Takes base l (m ++ p ∷ [])) (append_assoc xs ys (s ∷ [])) (more (takes_join base mid m xs ys takes others) is)

pub fault_join : (base mid : List Provable) (xs ys : List TreeStep) (why : Reason) → Takes base xs mid → FirstFault mid ys why → FirstFault base (xs ++ ys) why
fault_join base mid xs ys why takes f = record {
  before = xs ++ f.before;
  step = f.step;
  behind = f.behind;
  steps_are = ap (λ l. xs ++ l) f.steps_are ∙ sym (append_assoc xs f.before (f.step ∷ f.behind));
  between = f.between;
  takes = takes_join base mid f.between xs f.before takes f.takes;
  fault = f.fault;
}

-- the last row is one
pub one_end : (steps : List TreeStep) (p : Provable) (ends : EndsIn steps p) (rows : List Provable) → Takes [] steps rows → At rows (length rows) p
one_end steps p ends rows takes = let same = one_taken [] ends.rows rows steps steps refl ends.takes takes in subst (λ r. At r (length r) p) same ends.last

-- ---- the whole

module _ (term lemma merges : List TreeStep) (p : Provable) (c : Sequent) (rows : List Provable) (takes : Takes [] term rows) (last : At rows (length rows) p)
    (concludes : (q : Provable) → EndsIn lemma q → q.conclusion ≡ c)
    (joined : Joins c (length term + length lemma) (length term) (length term + length lemma) p.goals merges) where
  its_last : (other : Provable) → EndsIn term other → other ≡ p
  its_last other ends = at_one rows (length rows) other p (one_end term other ends rows takes) last

  pub lacks : merges ≡ [] → LacksGoal term lemma
  lacks no_merges other q ends ends_lemma a =
      joins_none c (length term + length lemma) (length term) (length term + length lemma) p.goals merges no_merges joined
      (subst (λ s. IsAmong s p.goals) (concludes q ends_lemma) (subst (λ (x : Provable). IsAmong q.conclusion x.goals) (its_last other ends) a))

  pub links : 0 < length merges → Links term lemma (term ++ map (renumbered (λ fact. fact + length term)) lemma ++ merges)
  links some other q ends ends_lemma =
      let is = its_last other ends in
      let e = concludes q ends_lemma in (
        subst (λ (x : Provable). IsAmong q.conclusion x.goals) (sym is) (subst (λ s. IsAmong s p.goals) (sym e)
            (joins_some c (length term + length lemma) (length term) (length term + length lemma) p.goals merges some joined)),
        record {
          joins = merges;
          joined = subst (λ (x : Provable). Joins q.conclusion (length term + length lemma) (length term) (length term + length lemma) x.goals merges) (sym is)
              (subst (λ s. Joins s (length term + length lemma) (length term) (length term + length lemma) p.goals merges) (sym e) joined);
          steps_are = refl;
        },
      )

-- ---- on a kernel that has the rows of the term

module _ (trees : List Tree) (term lemma merges : List Step) (c : Sequent) (rows : List Provable) (takes : Takes [] (map (step_at trees) term) rows)
    (joined : (p : Provable) → At rows (length rows) p →
    Joins c (length rows + length lemma) (length rows) (length rows + length lemma) p.goals (map (step_at trees) merges))
    (concludes : (q : Provable) → EndsIn (map (step_at trees) lemma) q → q.conclusion ≡ c) (p : Provable) (ends : EndsIn (map (step_at trees) term) p) where
  last_there : At rows (length rows) p
  last_there = one_end (map (step_at trees) term) p ends rows takes

  joined_there : Joins c (length (map (step_at trees) term) + length (map (step_at trees) lemma)) (length (map (step_at trees) term))
      (length (map (step_at trees) term) + length (map (step_at trees) lemma)) p.goals (map (step_at trees) merges)
  joined_there =
      let n = take_length (map (step_at trees) term) rows takes in
      let m = sym (length-map lemma (step_at trees)) in
      subst (λ a. Joins c (a + length (map (step_at trees) lemma)) a (a + length (map (step_at trees) lemma)) p.goals (map (step_at trees) merges)) n
      (subst (λ b. Joins c (length rows + b) (length rows) (length rows + b) p.goals (map (step_at trees) merges)) m (joined p last_there))

  pub lacks_goal : merges ≡ [] → LacksGoal (map (step_at trees) term) (map (step_at trees) lemma)
  lacks_goal e =
      lacks (map (step_at trees) term) (map (step_at trees) lemma) (map (step_at trees) merges) p c rows takes last_there concludes joined_there
      (ap (map (step_at trees)) e)

  links_whole : 0 < length merges → Links (map (step_at trees) term) (map (step_at trees) lemma)
      (map (step_at trees) term ++ map (renumbered (λ fact. fact + length term)) (map (step_at trees) lemma) ++ map (step_at trees) merges)
  links_whole some =
      let whole = links (map (step_at trees) term) (map (step_at trees) lemma) (map (step_at trees) merges) p c rows takes last_there concludes joined_there
      (let m = length-map merges (step_at trees) in omega (arith, some, m)) in
      subst (λ k. Links (map (step_at trees) term) (map (step_at trees) lemma)
      (map (step_at trees) term ++ map (renumbered (λ fact. fact + k)) (map (step_at trees) lemma) ++ map (step_at trees) merges))
      (length-map term (step_at trees)) whole

  module _ (rest : List Step)
      (rest_is : map (step_at trees) rest ≡ map (renumbered (λ fact. fact + length term)) (map (step_at trees) lemma) ++ map (step_at trees) merges)
      (made : List Step) (made_is : made ≡ term ++ rest) where
    split : map (step_at trees) term ++ map (renumbered (λ fact. fact + length term)) (map (step_at trees) lemma) ++ map (step_at trees) merges
        ≡ map (step_at trees) term ++ map (step_at trees) rest
    split =
        append_assoc (map (step_at trees) term) (map (renumbered (λ fact. fact + length term)) (map (step_at trees) lemma)) (map (step_at trees) merges)
        ∙ ap (λ l. map (step_at trees) term ++ l) (sym rest_is)

    whole_is : map (step_at trees) made ≡ map (step_at trees) term ++ map (step_at trees) rest
    whole_is = ap (map (step_at trees)) made_is ∙ map-append (step_at trees) term rest

    pub links_made : 0 < length merges → Links (map (step_at trees) term) (map (step_at trees) lemma) (map (step_at trees) made)
    links_made some = subst (Links (map (step_at trees) term) (map (step_at trees) lemma)) (split ∙ sym whole_is) (links_whole some)

    pub takes_made : (after : List Provable) → Takes rows (map (step_at trees) rest) after → Takes [] (map (step_at trees) made) after
    takes_made after t =
        subst (λ l. Takes [] l after) (sym whole_is) (takes_join [] rows after (map (step_at trees) term) (map (step_at trees) rest) takes t)

    pub fault_made : 0 < length merges → (why : Reason) → FirstFault rows (map (step_at trees) rest) why →
        LinksUpTo (map (step_at trees) term) (map (step_at trees) lemma) why
    fault_made some why f = (
      map (step_at trees) made,
      links_made some,
      subst (λ l. FirstFault [] l why) (sym whole_is) (fault_join [] rows (map (step_at trees) term) (map (step_at trees) rest) why takes f),
    )

-- what is made, by counts that are equal
pub joins_as : (trees : List Tree) (rows : List Provable) (c : Sequent) (merges : List Step) (m n : ℕ) → m ≡ n →
    ((p : Provable) → At rows (length rows) p → Joins c (length rows + m) (length rows) (length rows + m) p.goals (map (step_at trees) merges)) →
    (p : Provable) → At rows (length rows) p → Joins c (length rows + n) (length rows) (length rows + n) p.goals (map (step_at trees) merges)
joins_as trees rows c merges m n e h p last =
    subst (λ k. Joins c (length rows + k) (length rows) (length rows + k) p.goals (map (step_at trees) merges)) e (h p last)

pub rest_as : (trees : List Tree) (lemma merges rest : List Step) (m n : ℕ) → m ≡ n →
    map (step_at trees) rest ≡ map (renumbered (λ fact. fact + m)) (map (step_at trees) lemma) ++ map (step_at trees) merges →
    map (step_at trees) rest ≡ map (renumbered (λ fact. fact + n)) (map (step_at trees) lemma) ++ map (step_at trees) merges
rest_as trees lemma merges rest m n e h =
    h ∙ ap (λ k. map (renumbered (λ fact. fact + k)) (map (step_at trees) lemma) ++ map (step_at trees) merges) e

pub nothing : {A : Type 0} (xs : List A) → length xs ≡ 0 → xs ≡ []
nothing [] e = refl
nothing (x ∷ xs) e = absurd (omega (arith, e))

-- a fault of steps behind others as that of a link
pub link_fault : (Q : Type 0) (P R : Reason → Type 0) → ((why : Reason) → P why → R why) → (fault : StepFault) → IsStepFault P fault →
    IsLinkFault Q R (link_fault_of fault)
link_fault Q P R weaker (step_fault.Refused why) h = weaker why h
link_fault Q P R weaker step_fault.Memory h = tt

pub so_far_as : (c : Sequent) (by main : ℕ) (goals : List Sequent) (trees : List Tree) (goal fact rows f r : ℕ) (made m : List Step) → fact ≡ f → rows ≡ r →
    made ≡ m →
    MergesSoFar c by main goals trees goal f r m → MergesSoFar c by main goals trees goal fact rows made
so_far_as c by main goals trees goal fact rows f r made m a b d h =
    subst (λ x. MergesSoFar c by main goals trees goal x rows made) (sym a)
    (subst (λ x. MergesSoFar c by main goals trees goal f x made) (sym b) (subst (λ x. MergesSoFar c by main goals trees goal f r x) (sym d) h))
