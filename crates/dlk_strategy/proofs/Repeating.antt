-- Goals that wait for their turns.
use Rattle.std.proofs.Common.{◌≡◌, ◌≢◌, ℕ, zero, suc, ◌+◌, ◌-◌, ◌≤◌, take, Option, None, Ok, Err, List, [], ◌∷◌, ◌++◌, length, reverse, replicate}
use Rattle.std.proofs.Common.{refl, sym, ap, subst, ◌∙◌, arith, length-append}
use Rattle.std.proofs.lemmas.List.{reverse-append, length-replicate}
use Rattle.std.proofs.lemmas.List.{length-reverse}
use Rattle.dlk_tree.specs.Trees.{Tree}
use Rattle.dlk_store.specs.Stores.{Keeps}
use Rattle.dlk_calculus.specs.Provables.{Provable}
use Rattle.dlk_calculus.specs.Limits.{most_goals}
use Rattle.std.proofs.Math.Seq.{take-length}
use Rattle.dlk_kernel.specs.Kernel.{State, facts}
use Rattle.dlk_tacsyn.specs.Tactics.{Tactic}
use Rattle.dlk_elab.specs.declared.fault.FailWhy.{FailWhy}
use Rattle.dlk_strategy.specs.declared.fault.RunFault.{RunFault}
use Rattle.dlk_strategy.specs.declared.fault.RunFault.TheVariants as fault
use Rattle.dlk_strategy.specs.declared.trace.Trace.{Trace}
use Rattle.dlk_strategy.specs.Runs.{Progress, Outcome, Done, Fails, Budget, Fate, Run, Follow, done, fails, spent, Ends, FailsAt, Then, Each, Again}
use Rattle.dlk_strategy.specs.Runs.{Runs, main_goals}
use Rattle.dlk_strategy.specs.Ties.{now, goals_of, IsReady, Extends, IsBack, HasLeft, Becomes, BecomesTried, IsBackOnNone}
use Rattle.dlk_strategy.proofs.Trying.{back_now, back_extends}
use Rattle.dlk_strategy.proofs.Counted.{still}
use Rattle.dlk_strategy.proofs.Reached.{Leads, Reached, reached_on, extends_on, extends_same, leads_end, facts_length}

-- what becomes of the goals that wait with so many turns, the first of them behind the `left` goals that stand from `goal` on
abbrev pub Waits : Run → List ℕ → ℕ → ℕ → Fate
Waits run [] goal left = Ends left
Waits run (turns ∷ rest) goal left = Then (Again run turns (goal + left)) (λ new. Waits run rest goal (left + new))

then_ends : (fate : Fate) (now : Progress) (o : Outcome) → Then fate (λ new. Ends (0 + new)) now o → fate now o
then_ends fate now _ (done {left} {made} {outcome = o} p q) =
    let e : 0 + left ≡ left = omega arith in
    let is : o ≡ Done made left = q ∙ ap (Done made) e in
    subst (λ (x : Outcome). fate now x) (sym is) p
then_ends fate now _ (fails {at} {why} {used} {outcome = o} p q) = subst (λ (x : Outcome). fate now x) (sym q) p
then_ends fate now _ (spent p) = p

pub waits_first : (run : Run) (times goal : ℕ) (first : Progress) → Leads (Again run times goal) (Waits run (times ∷ []) goal 0) first first
waits_first run times goal first o p =
    let e : goal + 0 ≡ goal = omega arith in
    then_ends (Again run times goal) first o (subst (λ n. Then (Again run times n) (λ new. Ends (0 + new)) first o) e p)

then_in : (fate : Fate) (mid next : ℕ → Fate) (else_on : ℕ → FailWhy → Fate) (now made : Progress) (new : ℕ) (o : Outcome) → fate now (Done made new) →
    Then (mid new) next made o →
    Then (Follow fate mid else_on) next now o
then_in fate mid next else_on now made new _ f (done p q) = done (done f p) q
then_in fate mid next else_on now made new _ f (fails p q) = fails (done f p) q
then_in fate mid next else_on now made new _ f (spent p) = spent (done f p)

each_waits : (run : Run) (n : ℕ) (rest : List ℕ) (goal left k m : ℕ) (now : Progress) (o : Outcome) → Waits run (replicate k n ++ rest) goal (left + m) now o →
    Then (Each (Again run n) k (goal + left) m) (λ new. Waits run rest goal (left + new)) now o
each_waits run n rest goal left zero m now o p = done refl p
each_waits run n rest goal left (suc k) m now _ (done {left = new} {made} {outcome = o} p q) =
    let e : goal + (left + m) ≡ goal + left + m = omega arith in
    let e' : left + m + new ≡ left + (m + new) = omega arith in
    let p' = subst (λ g. Again run n g now (Done made new)) e p in
    let q' = subst (λ l. Waits run (replicate k n ++ rest) goal l made o) e' q in
    then_in (Again run n (goal + left + m)) (λ x. Each (Again run n) k (goal + left) (m + x)) (λ x. Waits run rest goal (left + x)) FailsAt now made new o p'
    (each_waits run n rest goal left k (m + new) made o q')
each_waits run n rest goal left (suc k) m now _ (fails {at} {why} {used} {outcome = o} p q) =
    let e : goal + (left + m) ≡ goal + left + m = omega arith in
    fails (fails (subst (λ g. Again run n g now (Fails at why used)) e p) refl) q
each_waits run n rest goal left (suc k) m now _ (spent {at} p) =
    let e : goal + (left + m) ≡ goal + left + m = omega arith in
    spent (spent (subst (λ g. Again run n g now (Budget at)) e p))

-- a turn that is done: each goal that it leaves waits with a turn less
pub waits_on : (run : Run) (n : ℕ) (rest : List ℕ) (goal left new : ℕ) (all : Fate) (first here made : Progress) →
    Leads all (Waits run (suc n ∷ rest) goal left) first here →
    run (goal + left) here (Done made new) → Leads all (Waits run (replicate new n ++ rest) goal left) first made
waits_on run n rest goal left new all first here made leads r o p =
    let e : left ≡ left + 0 = omega arith in
    let p' = subst (λ l. Waits run (replicate new n ++ rest) goal l made o) e p in
    leads o (then_in (run (goal + left)) (λ x. Each (Again run n) x (goal + left) 0) (λ x. Waits run rest goal (left + x)) (λ at why. Ends 1) here made new o r
    (each_waits run n rest goal left new 0 made o p'))

-- a turn that fails is the last one there
pub again_fails : (run : Run) (n goal at used : ℕ) (why : FailWhy) (here next : Progress) → run goal here (Fails at why used) →
    next ≡ record { steps = here.steps; rows = here.rows; used = used } → Again run (suc n) goal here (Done next 1)
again_fails run n goal at used why here next r same = fails r (ap (λ (m : Progress). Done m 1) same)

-- a turn that changes nothing, and so do those that follow
pub again_still : (run : Run) (goal : ℕ) (here : Progress) → run goal here (Done here 1) → (n : ℕ) → Again run n goal here (Done here 1)
again_still run goal here r zero = refl
again_still run goal here r (suc n) =
    let e : goal ≡ goal + 0 = omega arith in
    done r (done (subst (λ g. Again run n g here (Done here 1)) e (again_still run goal here r n)) refl)

turned : (waiting rest : List ℕ) (turns : ℕ) → waiting ≡ rest ++ turns ∷ [] → reverse waiting ≡ turns ∷ reverse rest
turned waiting rest turns e = ap reverse e ∙ reverse-append rest (turns ∷ [])

one_longer : (waiting rest : List ℕ) (turns : ℕ) → waiting ≡ rest ++ turns ∷ [] → length waiting ≡ length rest + 1
one_longer waiting rest turns e = ap length e ∙ length-append rest (turns ∷ [])

module _ {S : Type 0} (trees : S → List Tree) (old : State S) (before : Trace) where
  -- the goals that wait stand behind those that are done with
  abbrev pub Waiting : State S → Trace → List ℕ → Fate → Run → ℕ → ℕ → Type 0
  Waiting k t waiting all run goal left = Reached trees old before k t 1 (left + length waiting) all (Waits run (reverse waiting) goal left)

  -- the last turn of a goal
  pub turn_over : (k : State S) (t : Trace) (k' : State S) (t' : Trace) (waiting rest : List ℕ) (turns goal left : ℕ) (all : Fate) (run : Run) →
      Waiting k t waiting all run goal left →
      waiting ≡ rest ++ turns ∷ [] → Again run turns (goal + left) (now trees k t) (Done (now trees k' t') 1) → Extends trees k t k' t' →
      goals_of trees k' ≡ goals_of trees k →
      Waiting k' t' rest all run goal (left + 1)
  turn_over k t k' t' waiting rest turns goal left all run r is made extends same =
      let longer = one_longer waiting rest turns is in
      let next : ℕ → Fate = λ new. Waits run (reverse rest) goal (left + new) in
      let shape : Waits run (reverse waiting) goal left ≡ Then (Again run turns (goal + left)) next =
      ap (λ xs. Waits run xs goal left) (turned waiting rest turns is) in
      reached_on trees old before k t k' t' 1 (left + length waiting) 1 (left + 1 + length rest) 1 1 all (Waits run (reverse waiting) goal left)
      (Again run turns (goal + left)) next
      r shape made extends (omega (arith, same)) (omega (arith, r.few, same)) (omega (arith, longer))

  -- a turn after which goals wait with a turn less
  pub turn_on : (k : State S) (t : Trace) (k' : State S) (t' : Trace) (waiting rest new_waiting : List ℕ) (turns n goal left new : ℕ) (all : Fate) (run : Run) →
      Waiting k t waiting all run goal left → waiting ≡ rest ++ turns ∷ [] → suc n ≡ turns → run (goal + left) (now trees k t) (Done (now trees k' t') new) →
      Extends trees k t k' t' →
      HasLeft (goals_of trees k) 1 (goals_of trees k') new → goals_of trees k' ≤ most_goals → reverse new_waiting ≡ replicate new n ++ reverse rest →
      Waiting k' t' new_waiting all run goal left
  turn_on k t k' t' waiting rest new_waiting turns n goal left new all run r is one_less made extends has few pushed =
      let longer = one_longer waiting rest turns is in
      let long = sym (length-reverse new_waiting) ∙ ap length pushed ∙ length-append (replicate new n) (reverse rest) in
      let here = length-replicate new n in
      let behind = length-reverse rest in
      let shape : Waits run (reverse waiting) goal left ≡ Waits run (suc n ∷ reverse rest) goal left =
      ap (λ xs. Waits run xs goal left) (turned waiting rest turns is) ∙ ap (λ m. Waits run (m ∷ reverse rest) goal left) (sym one_less) in
      let leads : Leads all (Waits run (suc n ∷ reverse rest) goal left) (now trees old before) (now trees k t) =
      subst (λ (f : Fate). Leads all f (now trees old before) (now trees k t)) shape r.leads in
      let on = waits_on run n (reverse rest) goal left new all (now trees old before) (now trees k t) (now trees k' t') leads made in
      record {
        extends = extends_on trees old before k t k' t' r.extends extends;
        counted = omega (arith, r.counted, has, longer, long, here, behind);
        few = few;
        leads = subst (λ xs. Leads all (Waits run xs goal left) (now trees old before) (now trees k' t')) (sym pushed) on;
      }

  pub waits_spent : (k : State S) (t : Trace) (waiting rest : List ℕ) (turns n goal left at : ℕ) (all : Fate) (run : Run) →
      Waiting k t waiting all run goal left →
      waiting ≡ rest ++ turns ∷ [] → suc n ≡ turns → run (goal + left) (now trees k t) (Budget at) → all (now trees old before) (Budget at)
  waits_spent k t waiting rest turns n goal left at all run r is one_less over =
      let shape : Waits run (reverse waiting) goal left ≡ Waits run (suc n ∷ reverse rest) goal left =
      ap (λ xs. Waits run xs goal left) (turned waiting rest turns is) ∙ ap (λ m. Waits run (m ∷ reverse rest) goal left) (sym one_less) in
      let leads : Leads all (Waits run (suc n ∷ reverse rest) goal left) (now trees old before) (now trees k t) =
      subst (λ (f : Fate). Leads all f (now trees old before) (now trees k t)) shape r.leads in
      leads (Budget at) (spent (spent over))

  pub waits_end : (k : State S) (t : Trace) (waiting : List ℕ) (goal left : ℕ) (all : Fate) (run : Run) → Waiting k t waiting all run goal left → waiting ≡ [] →
      all (now trees old before) (Done (now trees k t) left)
  waits_end k t waiting goal left all run r none =
      leads_end all (now trees old before) (now trees k t) left
      (subst (λ xs. Leads all (Waits run (reverse xs) goal left) (now trees old before) (now trees k t)) none r.leads)

  one_less : (n : ℕ) → n ≢ 0 → suc (n - 1) ≡ n
  one_less zero h = absurd (h refl)
  one_less (suc n) h = omega arith

  pub waits_init : (goal times : ℕ) (waiting : List ℕ) (run : Run) → IsReady trees old before goal 1 → waiting ≡ times ∷ [] →
      Waiting old before waiting (Again run times goal) run goal 0
  waits_init goal times waiting run ready is =
      let one : length waiting ≡ 1 = ap length is in
      record {
        extends = extends_same trees old before goal 1 ready;
        counted = omega (arith, one);
        few = ready.few;
        leads = subst (λ xs. Leads (Again run times goal) (Waits run (reverse xs) goal 0) (now trees old before) (now trees old before)) (sym is)
            (waits_first run times goal (now trees old before));
      }

  pub turn_none : (k : State S) (t : Trace) (k' : State S) (t' : Trace) (waiting rest : List ℕ) (turns goal left : ℕ) (all : Fate) (run : Run)
      (found : Option ℕ) →
      Keeps (trees k.store) (trees k'.store) → Waiting k t waiting all run goal left → waiting ≡ rest ++ turns ∷ [] → turns ≢ 0 → found ≡ None →
      BecomesTried (run (goal + left)) (now trees k t) (now trees k' t') (Ok found) → IsBackOnNone (IsBack trees k t k' t') (Ok found) →
      Waiting k' t' rest all run goal (left + 1)
  turn_none k t k' t' waiting rest turns goal left all run found keeps r is some none fate backs =
      let f = subst (λ (o : Option ℕ). BecomesTried (run (goal + left)) (now trees k t) (now trees k' t') (Ok o)) none fate in
      let back = subst (λ (o : Option ℕ). IsBackOnNone (IsBack trees k t k' t') (Ok o)) none backs in
      let same = back_now trees k t k' t' keeps r.extends.known back in
      let ends = again_fails run (turns - 1) (goal + left) f.0 t'.used f.1 (now trees k t) (now trees k' t') f.2 same in
      let made = subst (λ n. Again run n (goal + left) (now trees k t) (Done (now trees k' t') 1)) (one_less turns some) ends in
      let goals = ap (λ (rows : List Provable). length (main_goals rows)) back.rows.provables in
      turn_over k t k' t' waiting rest turns goal left all run r is made (back_extends trees k t k' t' keeps r.extends.known back) goals

  -- a run that counts nothing changes nothing
  pub turn_still : (k : State S) (t : Trace) (k' : State S) (t' : Trace) (waiting rest : List ℕ) (turns goal left new : ℕ) (all : Fate) (tactic : Tactic) →
      Waiting k t waiting all (Runs tactic 1) goal left → waiting ≡ rest ++ turns ∷ [] →
      Runs tactic 1 (goal + left) (now trees k t) (Done (now trees k' t') new) → Extends trees k t k' t' →
      HasLeft (goals_of trees k) 1 (goals_of trees k') new → t'.used ≡ t.used → Waiting k' t' rest all (Runs tactic 1) goal (left + 1)
  turn_still k t k' t' waiting rest turns goal left new all tactic r is run extends has used =
      let here = now trees k t in
      let made = now trees k' t' in
      let same = still tactic (goal + left) new here made run used in
      let one : new ≡ 1 = same.1 in
      let to_here = subst (λ (m : Progress). Runs tactic 1 (goal + left) here (Done m new)) same.0 run in
      let to_one = subst (λ n. Runs tactic 1 (goal + left) here (Done here n)) one to_here in
      let ends = again_still (Runs tactic 1) (goal + left) here to_one turns in
      let back = subst (λ (m : Progress). Again (Runs tactic 1) turns (goal + left) here (Done m 1)) (sym same.0) ends in
      turn_over k t k' t' waiting rest turns goal left all (Runs tactic 1) r is back extends (omega (arith, has, one))

  pub turn_some : (k : State S) (t : Trace) (k' : State S) (t' : Trace) (waiting rest new_waiting : List ℕ) (turns goal left new : ℕ) (all : Fate) (run : Run) →
      Waiting k t waiting all run goal left → waiting ≡ rest ++ turns ∷ [] → turns ≢ 0 → run (goal + left) (now trees k t) (Done (now trees k' t') new) →
      Extends trees k t k' t' →
      HasLeft (goals_of trees k) 1 (goals_of trees k') new → goals_of trees k' ≤ most_goals → reverse new_waiting ≡ replicate new (turns - 1) ++ reverse rest →
      Waiting k' t' new_waiting all run goal left
  turn_some k t k' t' waiting rest new_waiting turns goal left new all run r is some made extends has few pushed =
      turn_on k t k' t' waiting rest new_waiting turns (turns - 1) goal left new all run r is (one_less turns some) made extends has few pushed

  pub turn_err : (k : State S) (t : Trace) (k' : State S) (t' : Trace) (waiting rest : List ℕ) (turns goal left : ℕ) (all : Fate) (run : Run) (e : RunFault) →
      Waiting k t waiting all run goal left → waiting ≡ rest ++ turns ∷ [] → turns ≢ 0 →
      BecomesTried (run (goal + left)) (now trees k t) (now trees k' t') (Err e) →
      Becomes all (now trees old before) (now trees k' t') (Err e)
  turn_err k t k' t' waiting rest turns goal left all run (fault.Fails at why) r is some fate = absurd fate
  turn_err k t k' t' waiting rest turns goal left all run (fault.Budget at) r is some fate =
      waits_spent k t waiting rest turns (turns - 1) goal left at all run r is (one_less turns some) fate
  turn_err k t k' t' waiting rest turns goal left all run fault.Memory r is some fate = tt

  pub extends_here : (k : State S) (t : Trace) → Extends trees old before k t → Extends trees k t k t
  extends_here k t extends = record {
    rows = record { ids = take-length k.rows; provables = ap (λ n. take n (facts trees k)) (sym (facts_length trees k)) ∙ take-length (facts trees k) };
    steps = take-length t.steps.items;
    known = extends.known;
    counted = omega arith;
    within = extends.within;
  }

  pub waits_ready : (k : State S) (t : Trace) (waiting rest : List ℕ) (turns goal left : ℕ) (all : Fate) (run : Run) → IsReady trees old before goal 1 →
      Waiting k t waiting all run goal left →
      waiting ≡ rest ++ turns ∷ [] → IsReady trees k t (goal + left) 1
  waits_ready k t waiting rest turns goal left all run ready r is =
      let longer = one_longer waiting rest turns is in
      record {
        known = r.extends.known;
        first = omega (arith, ready.first);
        room = omega (arith, ready.room, r.counted, longer);
        few = r.few;
        used = r.extends.within;
      }
