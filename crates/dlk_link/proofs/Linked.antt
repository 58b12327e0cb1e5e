-- Linked steps: what they end in, and what may speak against one.
use Rattle.std.proofs.Common.{◌≡◌, refl, sym, ap, subst, ◌∙◌, ℕ, ◌+◌, List, [], ◌∷◌, ◌++◌, ◌⊎◌, inl, inr, length, map, arith, append_assoc, append-nil}
use Rattle.std.proofs.Common.{length-append}
use Rattle.std.proofs.lemmas.Bool.{cases_lt}
use Rattle.std.proofs.lemmas.List.{map-append}
use Rattle.dlk_calculus.specs.declared.reason.Reason.{Reason}
use Rattle.dlk_calculus.specs.declared.reason.Reason.TheVariants.{LinesFull}
use Rattle.dlk_calculus.specs.Limits.{most_rows}
use Rattle.dlk_calculus.specs.Places.{At, put_all}
use Rattle.dlk_calculus.specs.Provables.{Provable, IsAmong, AreNew, merged}
use Rattle.dlk_calculus.specs.Sequents.{Sequent}
use Rattle.dlk_calculus.specs.Steps.{Step, Merge, Gives, Fault, Against, IsWithin, too_big, too_deep, goals_merged, leaves_merged}
use Rattle.dlk_calculus.specs.Steps.{no_fact_to_merge, no_goal_to_merge, other_goal, past_limit, rows_full}
use Rattle.dlk_calculus.proofs.LimitLaws.{StepOf-taken, StepOf-within, rows_fault}
use Rattle.dlk_calculus.proofs.PlaceLaws.{at_one, At_place, At-more, At-behind, At-between, put_between}
use Rattle.dlk_calculus.proofs.StepLaws.{given_by, one_given}
use Rattle.dlk_kernel.specs.Taken.{Takes, none, more}
use Rattle.dlk_rules.specs.Facts.{renumbered}
use Rattle.dlk_uses.specs.Taking.{FirstFault}
use Rattle.dlk_uses.proofs.Taking.{takes_none, takes_first, at_once, later, fault_from, no_fault}
use Rattle.dlk_link.specs.Linked.{Joins, no_goals, another, the_same, Linked, Replaces, Joined, IsLinkLimit}
use Rattle.dlk_link.specs.Linked.{no_more as nothing_old}
use Rattle.dlk_link.proofs.Joined.{replaces_stays, replaces_proved, among_either, nothing_new}
use Rattle.dlk_link.proofs.Kept.{take_length}
use Rattle.dlk_link.proofs.Moved.{gives_moved, within_moved}

-- ---- steps behind others

pub takes_on : (base rows after : List Provable) (term rest : List Step) → Takes base term rows → Takes base (term ++ rest) after → Takes rows rest after
takes_on base _ after _ rest none t = t
takes_on base _ after _ rest (more {steps = steps} {mid = mid} {step = step} {p = p} takes is) t =
    let u = takes_on base mid after steps (step ∷ rest) takes (subst (λ l. Takes base l after) (append_assoc steps (step ∷ []) rest) t) in
    let f = takes_first mid after step rest u in
    subst (λ r. Takes (mid ++ r ∷ []) rest after) (one_given mid step f.row p f.is_its.given is.given) f.others

pub fault_on : (base rows : List Provable) (term rest : List Step) (why : Reason) → Takes base term rows → FirstFault base (term ++ rest) why →
    FirstFault rows rest why
fault_on base _ _ rest why none f = f
fault_on base _ _ rest why (more {steps = steps} {mid = mid} {step = step} {p = p} takes is) f =
    let g = fault_on base mid steps (step ∷ rest) why takes (subst (λ l. FirstFault base l why) (append_assoc steps (step ∷ []) rest) f) in
    elim (fault_from mid step rest why g) [
      | at_once fault ↦ absurd (is.allowed why fault.against)
      | later row taken behind ↦ subst (λ r. FirstFault (mid ++ r ∷ []) rest why) (one_given mid step row p taken.given is.given) behind
    ]

-- ---- a lemma's steps behind rows

abbrev pub behind : ℕ → Step → Step
behind n step = renumbered (λ fact. fact + n) step

behind_gives : (rows mid : List Provable) (n : ℕ) (step : Step) (p : Provable) → length rows ≡ n → Gives mid step p → Gives (rows ++ mid) (behind n step) p
behind_gives rows mid n step p e g = gives_moved mid (rows ++ mid) (λ fact. fact + n) step p (λ fact q names h. shifted fact q h) g
  where
    shifted : (fact : ℕ) (q : Provable) → At mid fact q → At (rows ++ mid) (fact + n) q
    shifted fact q h = let place : length rows + fact ≡ fact + n = omega (arith, e) in subst (λ k. At (rows ++ mid) k q) place (At-behind rows mid fact q h)

parts : (n : ℕ) (steps : List Step) (step : Step) (rest : List Step) →
    map (behind n) (steps ++ step ∷ []) ++ rest ≡ map (behind n) steps ++ (behind n step ∷ rest)
parts n steps step rest = ap (λ l. l ++ rest) (map-append (behind n) steps (step ∷ [])) ∙ append_assoc (map (behind n) steps) (behind n step ∷ []) rest

pub lemma_on : (rows others after : List Provable) (lemma rest : List Step) (n : ℕ) → length rows ≡ n → Takes [] lemma others →
    Takes rows (map (behind n) lemma ++ rest) after → Takes (rows ++ others) rest after
lemma_on rows _ after _ rest n e none t = subst (λ r. Takes r rest after) (sym (append-nil rows)) t
lemma_on rows _ after _ rest n e (more {steps = steps} {mid = mid} {step = step} {p = p} takes is) t =
    let u = lemma_on rows mid after steps (behind n step ∷ rest) n e takes (subst (λ l. Takes rows l after) (parts n steps step rest) t) in
    let f = takes_first (rows ++ mid) after (behind n step) rest u in
    let same : f.row ≡ p = one_given (rows ++ mid) (behind n step) f.row p f.is_its.given (behind_gives rows mid n step p e is.given) in
    subst (λ r. Takes r rest after) (append_assoc rows mid (p ∷ [])) (subst (λ r. Takes ((rows ++ mid) ++ r ∷ []) rest after) same f.others)

module _ (one_fault : (rows : List Provable) (step : Step) (why other : Reason) → Fault rows step why → Fault rows step other → why ≡ other) where
  -- what gives something within the limits can be one row too many alone
  full : (rows : List Provable) (step : Step) (p : Provable) (why : Reason) → Gives rows step p → IsWithin step p → Fault rows step why → why ≡ LinesFull
  full rows step p why g w fault = elim (cases_lt (length rows) most_rows) [
    | inl room ↦ absurd ((StepOf-within rows step p g w room).allowed why fault.against)
    | inr many ↦ one_fault rows step why LinesFull fault (rows_fault rows step p g w many)
  ]

  pub lemma_fault_on : (rows others : List Provable) (lemma rest : List Step) (n : ℕ) (why : Reason) → length rows ≡ n → Takes [] lemma others →
      FirstFault rows (map (behind n) lemma ++ rest) why → (why ≡ LinesFull) ⊎ FirstFault (rows ++ others) rest why
  lemma_fault_on rows _ _ rest n why e none f = inr (subst (λ r. FirstFault r rest why) (sym (append-nil rows)) f)
  lemma_fault_on rows _ _ rest n why e (more {steps = steps} {mid = mid} {step = step} {p = p} takes is) f =
      elim (lemma_fault_on rows mid steps (behind n step ∷ rest) n why e takes (subst (λ l. FirstFault rows l why) (parts n steps step rest) f)) [
        | inl lines ↦ inl lines
        | inr g ↦
            let gives = behind_gives rows mid n step p e is.given in
            elim (fault_from (rows ++ mid) (behind n step) rest why g) [
              | at_once fault ↦
                  inl (full (rows ++ mid) (behind n step) p why gives (within_moved (λ fact. fact + n) step p (StepOf-taken mid step p is.given is).1) fault)
              | later row taken further ↦
                  inr (subst (λ r. FirstFault r rest why) (append_assoc rows mid (p ∷ []))
                  (subst (λ r. FirstFault ((rows ++ mid) ++ r ∷ []) rest why) (one_given (rows ++ mid) (behind n step) row p taken.given gives) further))
            ]
      ]

-- ---- a lemma into goals

-- the last of the first goals, and those behind it
goals_split : (p : Provable) (goals tail : List Sequent) (s : Sequent) → p.goals ≡ (goals ++ s ∷ []) ++ tail → p.goals ≡ goals ++ (s ∷ tail)
goals_split p goals tail s e = e ∙ append_assoc goals (s ∷ []) tail

-- the row of a merge into the goal behind these
record Merges (p q : Provable) (goals tail : List Sequent) (row : Provable) : Type 0 where
  new : List Sequent
  are_new : AreNew p.leaves q.leaves new
  conclusion : row.conclusion ≡ p.conclusion
  goals_are : row.goals ≡ goals ++ (q.goals ++ tail)
  leaves : row.leaves ≡ p.leaves ++ new

merge_row : (rows : List Provable) (main by : ℕ) (p q : Provable) (goals tail : List Sequent) (row : Provable) → At rows main p → At rows by q →
    p.goals ≡ goals ++ (q.conclusion ∷ tail) → Gives rows (Merge main (length goals + 1) by) row → Merges p q goals tail row
merge_row rows main by p q goals tail row at_main at_by e g =
    let b = given_by rows (Merge main (length goals + 1) by) row g in
    let first : b.0 ≡ p = at_one rows main b.0 p b.3 at_main in
    let second : b.1 ≡ q = at_one rows by b.1 q b.4 at_by in
    let is : row ≡ merged p (length goals + 1) q b.2 = b.7 ∙ (λ i. merged (first i) (length goals + 1) (second i) b.2) in
    record {
      new = b.2;
      are_new = subst (λ (x : Provable). AreNew x.leaves q.leaves b.2) first (subst (λ (x : Provable). AreNew b.0.leaves x.leaves b.2) second b.6);
      conclusion = ap (λ (x : Provable). x.conclusion) is;
      goals_are =
          ap (λ (x : Provable). x.goals) is ∙ ap (λ l. put_all l (length goals + 1) q.goals) e ∙ put_between goals tail q.goals q.conclusion
          ∙ append_assoc goals q.goals tail;
      leaves = ap (λ (x : Provable). x.leaves) is;
    }

-- nothing speaks against it but a limit
merge_limit : (rows : List Provable) (main by : ℕ) (p q : Provable) (goals tail : List Sequent) (why : Reason) → At rows main p → At rows by q →
    p.goals ≡ goals ++ (q.conclusion ∷ tail) → Against rows (Merge main (length goals + 1) by) why → IsLinkLimit why
merge_limit rows main by p q goals tail _ at_main at_by e (no_fact_to_merge n) = absurd (n (At_place rows main p at_main, At_place rows by q at_by))
merge_limit rows main by p q goals tail _ at_main at_by e (no_goal_to_merge r at n) =
    let same : r ≡ p = at_one rows main r p at at_main in
    let here : At r.goals (length goals + 1) q.conclusion =
    subst (λ l. At l (length goals + 1) q.conclusion) (sym (ap (λ (x : Provable). x.goals) same ∙ e)) (At-between goals q.conclusion tail) in
    absurd (n (At_place r.goals (length goals + 1) q.conclusion here))
merge_limit rows main by p q goals tail _ at_main at_by e (other_goal s r goal at n) =
    let same : goal.0 ≡ p = at_one rows main goal.0 p goal.1 at_main in
    let here : At goal.0.goals (length goals + 1) q.conclusion =
    subst (λ l. At l (length goals + 1) q.conclusion) (sym (ap (λ (x : Provable). x.goals) same ∙ e)) (At-between goals q.conclusion tail) in
    let is : s ≡ q.conclusion = at_one goal.0.goals (length goals + 1) s q.conclusion goal.2 here in
    absurd (n (is ∙ ap (λ (x : Provable). x.conclusion) (at_one rows by q r at_by at)))
merge_limit rows main by p q goals tail _ at_main at_by e (past_limit r g (too_big n)) = absurd (n tt)
merge_limit rows main by p q goals tail _ at_main at_by e (past_limit r g (too_deep n)) = absurd (n tt)
merge_limit rows main by p q goals tail _ at_main at_by e (past_limit r g (goals_merged n)) = tt
merge_limit rows main by p q goals tail _ at_main at_by e (past_limit r g (leaves_merged n)) = tt
merge_limit rows main by p q goals tail _ at_main at_by e (rows_full n) = tt

-- what the joins end in: the lemma's leaves join where there is one
record Ends (p q : Provable) (goals tail : List Sequent) (after : List Provable) : Type 0 where
  r : Provable
  conclusion : r.conclusion ≡ p.conclusion
  between : List Sequent
  replaces : Replaces q.conclusion q.goals goals between
  goals_are : r.goals ≡ between ++ tail
  last : ((¬ IsAmong q.conclusion goals) × (r ≡ p)) ⊎ (At after (length after) r × (new : List Sequent) × AreNew p.leaves q.leaves new × (r.leaves ≡ p.leaves
      ++ new))

last_row : (rows : List Provable) (p : Provable) → At (rows ++ p ∷ []) (length rows + 1) p
last_row rows p = At-between rows p []

module _ (q : Provable) (by : ℕ) where
  joins_end : (rows after : List Provable) (main n : ℕ) (goals tail : List Sequent) (steps : List Step) (p : Provable) → At rows main p → At rows by q →
      length rows ≡ n → p.goals ≡ goals ++ tail → Joins q.conclusion by main n goals steps → Takes rows steps after →
      Ends p q goals tail after × ((¬ IsAmong q.conclusion goals) → after ≡ rows)
  joins_end rows after main n _ tail _ p at_main at_by e g no_goals t = (
    record {
      r = p;
      conclusion = refl;
      between = [];
      replaces = nothing_old;
      goals_are = g;
      last = inl (λ a. a, refl);
    },
    λ no. takes_none rows after t,
  )
  joins_end rows after main n _ tail _ p at_main at_by e g (another {goals = goals} {s = s} {steps = steps} ne joins) t =
      let both = joins_end rows after main n goals (s ∷ tail) steps p at_main at_by e (goals_split p goals tail s g) joins t in
      let was = both.0 in (
        record {
          r = was.r;
          conclusion = was.conclusion;
          between = was.between ++ s ∷ [];
          replaces = replaces_stays q.conclusion s q.goals goals was.between ne was.replaces;
          goals_are = was.goals_are ∙ sym (append_assoc was.between (s ∷ []) tail);
          last = elim was.last [
            | inl w ↦ inl (
              λ a. elim (among_either q.conclusion goals (s ∷ []) a) [
                | inl b ↦ w.0 b
                | inr b ↦ elim b [
                  | inl same ↦ ne (sym same)
                  | inr empty ↦
                      empty
                ]
              ],
              w.1,
            )
            | inr w ↦ inr w
          ];
        },
        λ no. both.1 (λ a. no (among_front goals s a)),
      )
    where
      among_front : (goals : List Sequent) (s : Sequent) → IsAmong q.conclusion goals → IsAmong q.conclusion (goals ++ s ∷ [])
      among_front [] s a = absurd a
      among_front (x ∷ goals) s (inl same) = inl same
      among_front (x ∷ goals) s (inr a) = inr (among_front goals s a)
  joins_end rows after main n _ tail _ p at_main at_by e g (the_same {goals = goals} {steps = steps} joins) t =
      let f = takes_first rows after (Merge main (length goals + 1) by) steps t in
      let split = goals_split p goals tail q.conclusion g in
      let m = merge_row rows main by p q goals tail f.row at_main at_by split f.is_its.given in
      let now = rows ++ f.row ∷ [] in
      let long : length now ≡ n + 1 = omega (arith, e, length-append rows (f.row ∷ [])) in
      let place : length rows + 1 ≡ n + 1 = omega (arith, e) in
      let at_row : At now (n + 1) f.row = subst (λ k. At now k f.row) place (last_row rows f.row) in
      let both = joins_end now after (n + 1) (n + 1) goals (q.goals ++ tail) steps f.row at_row (At-more rows (f.row ∷ []) by q at_by) long m.goals_are joins
      f.others in
      let was = both.0 in (
        record {
          r = was.r;
          conclusion = was.conclusion ∙ m.conclusion;
          between = was.between ++ q.goals;
          replaces = replaces_proved q.conclusion q.goals goals was.between was.replaces;
          goals_are = was.goals_are ∙ sym (append_assoc was.between q.goals tail);
          last = elim was.last [
            | inl w ↦ inr (
                let done : after ≡ now = both.1 w.0 in
                let size : n + 1 ≡ length after = sym long ∙ ap (λ l. length l) (sym done) in (
                  subst (λ k. At after k was.r) size (subst (λ l. At l (n + 1) was.r) (sym done) (subst (λ x. At now (n + 1) x) (sym w.1) at_row)),
                  m.new,
                  m.are_new,
                  ap (λ (x : Provable). x.leaves) w.1 ∙ m.leaves,
                ))
            | inr w ↦ inr (
                let none_new : w.1 ≡ [] = nothing_new p.leaves q.leaves m.new w.1 m.are_new (subst (λ l. AreNew l q.leaves w.1) m.leaves w.2) in
                (w.0, m.new, m.are_new, w.3 ∙ (λ i. m.leaves i ++ none_new i) ∙ append-nil (p.leaves ++ m.new)))
          ];
        },
        λ no. absurd (no (among_last goals)),
      )
    where
      among_last : (goals : List Sequent) → IsAmong q.conclusion (goals ++ q.conclusion ∷ [])
      among_last [] = inl refl
      among_last (x ∷ goals) = inr (among_last goals)

  joins_fault : (rows : List Provable) (main n : ℕ) (goals tail : List Sequent) (steps : List Step) (p : Provable) (why : Reason) → At rows main p →
      At rows by q →
      length rows ≡ n → p.goals ≡ goals ++ tail → Joins q.conclusion by main n goals steps → FirstFault rows steps why → IsLinkLimit why
  joins_fault rows main n _ tail _ p why at_main at_by e g no_goals fault = absurd (no_fault rows why fault)
  joins_fault rows main n _ tail _ p why at_main at_by e g (another {goals = goals} {s = s} {steps = steps} ne joins) fault =
      joins_fault rows main n goals (s ∷ tail) steps p why at_main at_by e (goals_split p goals tail s g) joins fault
  joins_fault rows main n _ tail _ p why at_main at_by e g (the_same {goals = goals} {steps = steps} joins) fault =
      let split = goals_split p goals tail q.conclusion g in
      elim (fault_from rows (Merge main (length goals + 1) by) steps why fault) [
        | at_once here ↦ merge_limit rows main by p q goals tail why at_main at_by split here.against
        | later row taken further ↦
            let m = merge_row rows main by p q goals tail row at_main at_by split taken.given in
            let now = rows ++ row ∷ [] in
            let long : length now ≡ n + 1 = omega (arith, e, length-append rows (row ∷ [])) in
            let place : length rows + 1 ≡ n + 1 = omega (arith, e) in
            let at_row : At now (n + 1) row = subst (λ k. At now k row) place (last_row rows row) in
            joins_fault now (n + 1) (n + 1) goals (q.goals ++ tail) steps row why at_row (At-more rows (row ∷ []) by q at_by) long m.goals_are joins further
      ]

-- ---- linked steps

module _ (term lemma steps : List Step) (rows others : List Provable) (p q : Provable) (takes_term : Takes [] term rows) (takes_lemma : Takes [] lemma others)
    (last : At rows (length rows) p) (concludes : At others (length others) q) (linked : Linked term p.goals lemma q.conclusion steps) where
  term_count : length rows ≡ length term
  term_count = take_length term rows takes_term

  lemma_count : length others ≡ length lemma
  lemma_count = take_length lemma others takes_lemma

  all_steps : steps ≡ term ++ (map (behind (length term)) lemma ++ linked.joins)
  all_steps = linked.steps_are ∙ append_assoc term (map (behind (length term)) lemma) linked.joins

  main_there : At (rows ++ others) (length term) p
  main_there = At-more rows others (length term) p (subst (λ k. At rows k p) term_count last)

  by_there : At (rows ++ others) (length term + length lemma) q
  by_there =
      let place : length rows + length others ≡ length term + length lemma = let a = term_count in let b = lemma_count in omega (arith, a, b) in
      subst (λ k. At (rows ++ others) k q) place (At-behind rows others (length others) q concludes)

  count : length (rows ++ others) ≡ length term + length lemma
  count = let a = term_count in let b = lemma_count in omega (arith, a, b, length-append rows others)

  pub linked_row : (after : List Provable) → IsAmong q.conclusion p.goals → Takes [] steps after → (r : Provable) × At after (length after) r × Joined p q r
  linked_row after some takes =
      let behind_term = takes_on [] rows after term (map (behind (length term)) lemma ++ linked.joins) takes_term (subst (λ l. Takes [] l after) all_steps
      takes) in
      let behind_lemma = lemma_on rows others after lemma linked.joins (length term) term_count takes_lemma behind_term in
      let ends =
      (joins_end q (length term + length lemma) (rows ++ others) after (length term) (length term + length lemma) p.goals [] linked.joins p main_there by_there
      count
      (sym (append-nil p.goals)) linked.joined behind_lemma).0 in
      elim ends.last [
        | inl w ↦ absurd (w.0 some)
        | inr w ↦ (
          ends.r,
          w.0,
          record {
            conclusion = ends.conclusion;
            goals = subst (Replaces q.conclusion q.goals p.goals) (sym (ends.goals_are ∙ append-nil ends.between)) ends.replaces;
            new = w.1;
            are_new = w.2;
            leaves = w.3;
          },
        )
      ]

  pub linked_fault : ((rows : List Provable) (step : Step) (why other : Reason) → Fault rows step why → Fault rows step other → why ≡ other) →
      (why : Reason) → FirstFault [] steps why → IsLinkLimit why
  linked_fault one_fault why fault =
      let behind_term = fault_on [] rows term (map (behind (length term)) lemma ++ linked.joins) why takes_term (subst (λ l. FirstFault [] l why) all_steps
      fault) in
      elim (lemma_fault_on one_fault rows others lemma linked.joins (length term) why term_count takes_lemma behind_term) [
        | inl lines ↦ subst IsLinkLimit (sym lines) tt
        | inr further ↦
            joins_fault q (length term + length lemma) (rows ++ others) (length term) (length term + length lemma) p.goals [] linked.joins p why main_there
            by_there count
            (sym (append-nil p.goals)) linked.joined further
      ]
