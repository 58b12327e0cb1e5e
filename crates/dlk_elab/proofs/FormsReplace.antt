-- Each use of an axiom, and each atom for a box, leaves the fact's row but for goals in the goal's place.
use Rattle.std.proofs.Common.{◌≡◌, ℕ, suc, ◌+◌, ◌-◌, ◌<◌, List, [], ◌∷◌, ◌++◌, length, refl, sym, ap, subst, ◌∙◌, arith, length-append}
use Rattle.std.specs.Prelude.{codes}
use Rattle.dlk_tree.specs.Trees.{Tree}
use Rattle.dlk_calculus.specs.Notation.{box}
use Rattle.dlk_calculus.specs.Places.{At, IsPlace}
use Rattle.dlk_calculus.specs.Sequents.{Sequent}
use Rattle.dlk_calculus.specs.Provables.{Provable, SubstSequents}
use Rattle.dlk_calculus.specs.Pairs.{Pair}
use Rattle.dlk_calculus.specs.Rules.{Rule, Close, Cut, CutL, CutR, CoHideR, ImplyL, ImplyR, EquivifyR, CommuteEquivR, imply, equiv}
use Rattle.dlk_calculus.specs.Steps.{Step, Apply, Merge, UseRule, Substitute, Gives, substitute, use_rule}
use Rattle.dlk_calculus.proofs.PlaceLaws.{at_one, At-more, At-between}
use Rattle.dlk_sequent.specs.declared.sequent.Place.{Place}
use Rattle.dlk_sequent.specs.declared.sequent.Place.TheVariants.{Ante, Succ}
use Rattle.dlk_kernel.specs.Taken.{Takes}
use Rattle.dlk_uses.specs.Uses.{Direction, Forwards, Backwards, Use, Spot, closed_by, exchange, by_equivalence, by_equation, by_conditional_equation}
use Rattle.dlk_uses.specs.Uses.{by_conditional_equivalence, by_implication, by_fact, generalizing, cutting_box, ◌~>◌, program_a, any_p, Finishes}
use Rattle.dlk_uses.specs.Uses.{equivalence, equation, conditional_equivalence, conditional_equation, implication, fact}
use Rattle.dlk_uses.proofs.Taking.{takes_none, takes_first}
use Rattle.dlk_elab.proofs.Replacing.{Behind, Makes, Turns, no_more, turn, Ends, closed, last_at, behind_rule, behind_merge, From, pass, makes_close}
use Rattle.dlk_elab.proofs.Replacing.{makes_cut, makes_cut_left, makes_cut_right, makes_hide, makes_imply_left, makes_imply_right, makes_equivify}
use Rattle.dlk_elab.proofs.Replacing.{makes_commute}

module _ (p : Provable) (goal : ℕ) (there : IsPlace p.goals goal) (after : List Provable) (main : ℕ) (s : Sequent) (b : Behind p goal 1 p) where
  abbrev spot : Spot
  spot = record { fact = main; goal = goal; s = s }

  -- rules in turn from the goal on, and a merge
  ended : (n count z k by at m : ℕ) (rule : Rule) (rules : List (ℕ × Rule)) → Makes rule m → Turns p goal there m rules z → k < z → at ≡ goal + k → n ≡ count →
      From after main n p (closed_by by main count ((goal, rule) ∷ rules) at) → Ends p goal there after
  ended n count z k by at m rule rules makes others less e same h =
      closed p goal there rules h.rows after main count 1 z k by at goal 0 m rule p (sym same ∙ h.count) h.stands b (omega arith) (omega arith) makes
      (subst (λ j. Turns p goal there j rules z) (omega arith) others) less e h.taken

  second : (k m : ℕ) (rule : Rule) (rest : List (ℕ × Rule)) (n z : ℕ) → k < n → Makes rule m → Turns p goal there (n - 1 + m) rest z →
      Turns p goal there n ((goal + k, rule) ∷ rest) z
  second k m rule rest n z less makes others = turn (goal + k) k m rule refl less makes others

  two_after : (rules : List (ℕ × Rule)) → Turns p goal there 2 rules 2 → Turns p goal there 2 rules 2
  two_after rules h = h

  one_more : (rule : Rule) (rest : List (ℕ × Rule)) → Makes rule 1 → Turns p goal there 2 rest 2 → Turns p goal there 2 ((goal + 1, rule) ∷ rest) 2
  one_more rule rest makes others = turn (goal + 1) 1 1 rule refl (omega arith) makes (subst (λ j. Turns p goal there j rest 2) (omega arith) others)

  exchanged : (by n count : ℕ) (place : Place) (direction : Direction) (new : Tree) → n ≡ count →
      From after main n p (exchange by count spot place direction new) → Ends p goal there after
  exchanged by n count (Succ j) Forwards new e h =
      ended n count 2 1 by (goal + 1) 2 (CutR j new) ((goal + 1, CoHideR j) ∷ (goal + 1, EquivifyR 1) ∷ (goal + 1, CommuteEquivR 1) ∷ [])
      (makes_cut_right j new)
      (one_more (CoHideR j) ((goal + 1, EquivifyR 1) ∷ (goal + 1, CommuteEquivR 1) ∷ []) (makes_hide j)
      (one_more (EquivifyR 1) ((goal + 1, CommuteEquivR 1) ∷ []) (makes_equivify 1) (one_more (CommuteEquivR 1) [] (makes_commute 1) no_more)))
      (omega arith) refl e h
  exchanged by n count (Succ j) Backwards new e h =
      ended n count 2 1 by (goal + 1) 2 (CutR j new) ((goal + 1, CoHideR j) ∷ (goal + 1, EquivifyR 1) ∷ []) (makes_cut_right j new)
      (one_more (CoHideR j) ((goal + 1, EquivifyR 1) ∷ []) (makes_hide j) (one_more (EquivifyR 1) [] (makes_equivify 1) no_more)) (omega arith) refl e h
  exchanged by n count (Ante i) Forwards new e h =
      let k = length s.succ + 1 in
      ended n count 2 1 by (goal + 1) 2 (CutL i new) ((goal + 1, CoHideR k) ∷ (goal + 1, EquivifyR 1) ∷ []) (makes_cut_left i new)
      (one_more (CoHideR k) ((goal + 1, EquivifyR 1) ∷ []) (makes_hide k) (one_more (EquivifyR 1) [] (makes_equivify 1) no_more)) (omega arith) refl e h
  exchanged by n count (Ante i) Backwards new e h =
      let k = length s.succ + 1 in
      ended n count 2 1 by (goal + 1) 2 (CutL i new) ((goal + 1, CoHideR k) ∷ (goal + 1, EquivifyR 1) ∷ (goal + 1, CommuteEquivR 1) ∷ []) (makes_cut_left i new)
      (one_more (CoHideR k) ((goal + 1, EquivifyR 1) ∷ (goal + 1, CommuteEquivR 1) ∷ []) (makes_hide k)
      (one_more (EquivifyR 1) ((goal + 1, CommuteEquivR 1) ∷ []) (makes_equivify 1) (one_more (CommuteEquivR 1) [] (makes_commute 1) no_more)))
      (omega arith) refl e h

  by_equivalence_ends : (now n : ℕ) (place : Place) (direction : Direction) (e : Tree) (path : List ℕ) (l r : Tree) → n ≡ now →
      From after main n p (by_equivalence now spot place direction e path l r) → Ends p goal there after
  by_equivalence_ends now n place Forwards e path l r same h =
      exchanged (now + 3) (n + 1 + 1 + 1) (now + 3) place Forwards _ (omega (arith, same))
      (pass after main (n + 1 + 1) p _ _ (pass after main (n + 1) p _ _ (pass after main n p _ _ h)))
  by_equivalence_ends now n place Backwards e path l r same h =
      exchanged (now + 3) (n + 1 + 1 + 1) (now + 3) place Backwards _ (omega (arith, same))
      (pass after main (n + 1 + 1) p _ _ (pass after main (n + 1) p _ _ (pass after main n p _ _ h)))

  by_equation_ends : (now n : ℕ) (place : Place) (direction : Direction) (e : Tree) (outer inner : List ℕ) (d l r : Tree) → n ≡ now →
      From after main n p (by_equation now spot place direction e outer inner d l r) → Ends p goal there after
  by_equation_ends now n place direction e outer inner d l r same h =
      by_equivalence_ends (now + 4) (n + 1 + 1 + 1 + 1) place direction e outer _ _ (omega (arith, same))
      (pass after main (n + 1 + 1 + 1) p _ _ (pass after main (n + 1 + 1) p _ _ (pass after main (n + 1) p _ _ (pass after main n p _ _ h))))

  by_conditional_equation_ends : (now n : ℕ) (place : Place) (direction : Direction) (e : Tree) (outer inner : List ℕ) (d c l r : Tree) → n ≡ now →
      From after main n p (by_conditional_equation now spot place direction e outer inner d c l r) → Ends p goal there after
  by_conditional_equation_ends now n place direction e outer inner d c l r same h =
      by_equation_ends (now + 5) (n + 1 + 1 + 1 + 1 + 1) place direction e outer inner d l r (omega (arith, same))
      (pass after main (n + 1 + 1 + 1 + 1) p _ _ (pass after main (n + 1 + 1 + 1) p _ _ (pass after main (n + 1 + 1) p _ _ (pass after main (n + 1) p _ _ (pass
      after main n p _ _ h)))))

  by_implication_ends : (now n : ℕ) (place : Place) (c h : Tree) → n ≡ now → From after main n p (by_implication now spot place c h) → Ends p goal there after
  by_implication_ends now n (Succ j) c h same from =
      ended n now 2 1 now (goal + 1) 2 (CutR j c) ((goal + 1, CoHideR j) ∷ []) (makes_cut_right j c) (one_more (CoHideR j) [] (makes_hide j) no_more)
      (omega arith)
      refl same from
  by_implication_ends now n (Ante i) c h same from =
      let k = length s.succ + 1 in
      ended n now 2 1 now (goal + 1) 2 (CutL i h) ((goal + 1, CoHideR k) ∷ []) (makes_cut_left i h) (one_more (CoHideR k) [] (makes_hide k) no_more)
      (omega arith)
      refl same from

  by_fact_ends : (now n j : ℕ) → n ≡ now → From after main n p (by_fact now spot j) → Ends p goal there after
  by_fact_ends now n j same from = ended n now 1 0 now goal 1 (CoHideR j) [] (makes_hide j) no_more (omega arith) (omega arith) same from

  third : (k m n z : ℕ) (rule : Rule) (rest : List (ℕ × Rule)) → k < n → Makes rule m → n - 1 + m ≡ z → (w : ℕ) → Turns p goal there z rest w →
      Turns p goal there n ((goal + k, rule) ∷ rest) w
  third k m n z rule rest less makes e w others = turn (goal + k) k m rule refl less makes (subst (λ j. Turns p goal there j rest w) (sym e) others)

  by_conditional_equivalence_ends : (now n j : ℕ) (c l r : Tree) → n ≡ now → From after main n p (by_conditional_equivalence now spot j c l r) →
      Ends p goal there after
  by_conditional_equivalence_ends now n j c l r same from =
      let cut = imply c (equiv l r) in
      ended n now 3 2 now (goal + 2) 2 (CutR j r)
      ((goal + 1, CutR j c) ∷ (goal + 2, CoHideR j) ∷ (goal + 2, ImplyR 1) ∷ (goal + 2, EquivifyR 1) ∷ (goal + 2, CommuteEquivR 1) ∷ (goal + 2, Cut cut) ∷
      (goal + 2, ImplyL 2) ∷ (goal + 2, Close 1 2) ∷ (goal + 2, Close 2 1) ∷ (goal + 2, CoHideR 2) ∷ []) (makes_cut_right j r)
      (third 1 2 2 3 (CutR j c) _ (omega arith) (makes_cut_right j c) (omega arith) 3
      (third 2 1 3 3 (CoHideR j) _ (omega arith) (makes_hide j) (omega arith) 3
      (third 2 1 3 3 (ImplyR 1) _ (omega arith) (makes_imply_right 1) (omega arith) 3
      (third 2 1 3 3 (EquivifyR 1) _ (omega arith) (makes_equivify 1) (omega arith) 3
      (third 2 1 3 3 (CommuteEquivR 1) _ (omega arith) (makes_commute 1) (omega arith) 3
      (third 2 2 3 4 (Cut cut) _ (omega arith) (makes_cut cut) (omega arith) 3
      (third 2 2 4 5 (ImplyL 2) _ (omega arith) (makes_imply_left 2) (omega arith) 3
      (third 2 0 5 4 (Close 1 2) _ (omega arith) (makes_close 1 2) (omega arith) 3
      (third 2 0 4 3 (Close 2 1) _ (omega arith) (makes_close 2 1) (omega arith) 3
      (third 2 1 3 3 (CoHideR 2) [] (omega arith) (makes_hide 2) (omega arith) 3 no_more)))))))))) (omega arith) refl same from

  pub finishes_ends : (now n : ℕ) (used : Use) (e f : Tree) (steps : List Step) → n ≡ now → Finishes now spot used e f steps → From after main n p steps →
      Ends p goal there after
  finishes_ends now n used e f _ same (equivalence is) from = by_equivalence_ends now n used.place used.direction e used.path _ _ same from
  finishes_ends now n used e f _ same (equation outer inner d is around) from =
      by_equation_ends now n used.place used.direction e outer inner d _ _ same from
  finishes_ends now n used e f _ same (conditional_equivalence j is at) from = by_conditional_equivalence_ends now n j _ _ _ same from
  finishes_ends now n used e f _ same (conditional_equation outer inner d is around) from =
      by_conditional_equation_ends now n used.place used.direction e outer inner d _ _ _ same from
  finishes_ends now n used e f _ same (implication is) from = by_implication_ends now n used.place _ _ same from
  finishes_ends now n used e f _ same (fact j is at) from = by_fact_ends now n j same from

  pub generalizing_ends : (now n j : ℕ) (c f : Tree) → n ≡ now → From after main n p (generalizing now spot j c f) → Ends p goal there after
  generalizing_ends now n j c f same from =
      let h = pass after main (n + 1) p _ _ (pass after main n p _ _ from) in
      let far : now + 3 ≡ n + 1 + 1 + 1 = omega (arith, same) in
      ended (n + 1 + 1) (n + 1 + 1) 1 0 (now + 2) goal 1 (CoHideR j) [] (makes_hide j) no_more (omega arith) (omega arith) refl
      (subst (λ k. From after main (n + 1 + 1) p (Apply main goal (CoHideR j) ∷ Merge k goal (now + 2) ∷ [])) far h)

-- the row of a step that is taken, by its number
record Next (rows after : List Provable) (m : ℕ) (step : Step) (steps : List Step) : Type 0 where
  row : Provable
  gives : Gives rows step row
  at : At (rows ++ row ∷ []) m row
  count : m ≡ length (rows ++ row ∷ [])
  others : Takes (rows ++ row ∷ []) steps after

next : (rows after : List Provable) (n m : ℕ) (step : Step) (steps : List Step) → n ≡ length rows → m ≡ n + 1 → Takes rows (step ∷ steps) after →
    Next rows after m step steps
next rows after n m step steps counted e taken =
    let f = takes_first rows after step steps taken in
    let k : length rows + 1 ≡ m = omega (arith, counted, e) in
    record {
      row = f.row;
      gives = f.is_its.given;
      at = subst (λ j. At (rows ++ f.row ∷ []) j f.row) k (At-between rows f.row []);
      count = omega (arith, k, length-append rows (f.row ∷ []));
      others = f.others;
    }

one_goal : (rows : List Provable) (name : List ℕ) (r : Provable) → Gives rows (UseRule name) r → length r.goals ≡ 1
one_goal rows name _ (use_rule _ r h) = refl

as_many : (pairs : List Pair) (old new : List Sequent) → SubstSequents pairs old new → length new ≡ length old
as_many pairs [] [] h = refl
as_many pairs [] (t ∷ ts) h = absurd h
as_many pairs (s ∷ ss) [] h = absurd h
as_many pairs (s ∷ ss) (t ∷ ts) h = ap suc (as_many pairs ss ts h.1)

goals_kept : (rows : List Provable) (main : ℕ) (pairs : List Pair) (q r : Provable) → At rows main q → Gives rows (Substitute main pairs) r →
    length r.goals ≡ length q.goals
goals_kept rows main pairs q _ stands (substitute _ _ x r at made well free gives) =
    as_many pairs x.goals r.goals gives.goals ∙ ap (λ (y : Provable). length y.goals) (at_one rows main x q at stands)

-- Behind the four first steps of `boxCut`: a row of so many goals is left, and the other rows are taken one after another.
module _ (p : Provable) (goal : ℕ) (there : IsPlace p.goals goal) (after : List Provable) where
  -- the last rule, on a goal that is left
  cut_last : (rows : List Provable) (m n : ℕ) (q : Provable) (rule : Rule) → At rows m q → Behind p goal n q → 1 < n → Makes rule 1 →
      Takes rows (Apply m (goal + 1) rule ∷ []) after → Ends p goal there after
  cut_last rows m n q rule stands behind less makes taken =
      let f = takes_first rows after (Apply m (goal + 1) rule) [] taken in
      let ends : after ≡ rows ++ f.row ∷ [] = takes_none (rows ++ f.row ∷ []) after f.others in
      record {
        last = f.row;
        is_last = subst (λ (t : List Provable). At t (length t) f.row) (sym ends) (last_at p goal there rows f.row);
        n = n - 1 + 1;
        behind = behind_rule p goal there rows m n 1 1 rule q f.row stands behind less makes f.is_its.given;
      }

  -- the merge of a row with one goal, and what follows
  cut_second : (rows : List Provable) (m by n : ℕ) (q d : Provable) (rule : Rule) → m ≡ length rows → At rows m q → At rows by d → length d.goals ≡ 1 →
      Behind p goal n q → 1 < n → Makes rule 1 → Takes rows (Merge m (goal + 1) by ∷ Apply (m + 1) (goal + 1) rule ∷ []) after → Ends p goal there after
  cut_second rows m by n q d rule counted stands by_at one behind less makes taken =
      let o = next rows after m (m + 1) (Merge m (goal + 1) by) (Apply (m + 1) (goal + 1) rule ∷ []) counted refl taken in
      let h = behind_merge p goal there rows m n 1 by q o.row stands behind less o.gives in
      let only : length h.0.goals ≡ 1 = ap (λ (y : Provable). length y.goals) (at_one rows by h.0 d h.1 by_at) ∙ one in
      cut_last (rows ++ o.row ∷ []) (m + 1) (n - 1 + length h.0.goals) o.row rule o.at h.2 (omega (arith, only, less)) makes o.others

  -- the merge of a row with any goals, and what follows
  cut_first : (rows : List Provable) (m instance by n : ℕ) (q d : Provable) (rule : Rule) → m ≡ length rows → At rows m q → At rows by d → length d.goals ≡ 1 →
      Behind p goal n q → n ≡ 3 → Makes rule 1 →
      Takes rows (Merge m (goal + 2) instance ∷ Merge (m + 1) (goal + 1) by ∷ Apply (m + 1 + 1) (goal + 1) rule ∷ []) after → Ends p goal there after
  cut_first rows m instance by n q d rule counted stands by_at one behind three makes taken =
      let o = next rows after m (m + 1) (Merge m (goal + 2) instance) (Merge (m + 1) (goal + 1) by ∷ Apply (m + 1 + 1) (goal + 1) rule ∷ []) counted refl
      taken in
      let h = behind_merge p goal there rows m n 2 instance q o.row stands behind (omega (arith, three)) o.gives in
      cut_second (rows ++ o.row ∷ []) (m + 1) by (n - 1 + length h.0.goals) o.row d rule o.count o.at (At-more rows (o.row ∷ []) by d by_at) one h.2
      (omega (arith, three)) makes o.others

  -- three rules, and what follows
  cut_rules : (rows : List Provable) (main m instance by : ℕ) (d : Provable) (one two three four : Rule) → m ≡ length rows → At rows main p → At rows by d →
      length d.goals ≡ 1 → Behind p goal 1 p → Makes one 2 → Makes two 1 → Makes three 2 → Makes four 1 →
      Takes rows (Apply main goal one ∷ Apply (m + 1) (goal + 1) two ∷ Apply (m + 1 + 1) (goal + 1) three ∷ Merge (m + 1 + 1 + 1) (goal + 2) instance ∷
      Merge (m + 1 + 1 + 1 + 1) (goal + 1) by ∷ Apply (m + 1 + 1 + 1 + 1 + 1) (goal + 1) four ∷ []) after → Ends p goal there after
  cut_rules rows main m instance by d one two three four counted stands by_at single behind m1 m2 m3 m4 taken =
      let zero_more : goal ≡ goal + 0 = omega arith in
      let a = next rows after m (m + 1) (Apply main goal one) _ counted refl taken in
      let ba : Behind p goal 2 a.row = behind_rule p goal there rows main 1 0 2 one p a.row stands behind (omega arith) m1
      (subst (λ k. Gives rows (Apply main k one)
      a.row) zero_more a.gives) in
      let rows_a = rows ++ a.row ∷ [] in
      let e = next rows_a after (m + 1) (m + 1 + 1) (Apply (m + 1) (goal + 1) two) _ a.count refl a.others in
      let be : Behind p goal 2 e.row = behind_rule p goal there rows_a (m + 1) 2 1 1 two a.row e.row a.at ba (omega arith) m2 e.gives in
      let rows_e = rows_a ++ e.row ∷ [] in
      let k = next rows_e after (m + 1 + 1) (m + 1 + 1 + 1) (Apply (m + 1 + 1) (goal + 1) three) _ e.count refl e.others in
      let bk : Behind p goal 3 k.row = behind_rule p goal there rows_e (m + 1 + 1) 2 1 2 three e.row k.row e.at be (omega arith) m3 k.gives in
      cut_first (rows_e ++ k.row ∷ []) (m + 1 + 1 + 1) instance by 3 k.row d four k.count k.at
      (At-more rows_e (k.row ∷ []) by d (At-more rows_a (e.row ∷ []) by d (At-more rows (a.row ∷ []) by d by_at))) single bk refl m4 k.others

  -- the rule, its instance, and what follows
  cut_rule : (rows : List Provable) (main m instance : ℕ) (name : List ℕ) (pairs : List Pair) (one two three four : Rule) → m ≡ length rows → At rows main p →
      Behind p goal 1 p → Makes one 2 → Makes two 1 → Makes three 2 → Makes four 1 →
      Takes rows (UseRule name ∷ Substitute (m + 1) pairs ∷ Apply main goal one ∷ Apply (m + 1 + 1 + 1) (goal + 1) two ∷
      Apply (m + 1 + 1 + 1 + 1) (goal + 1) three ∷ Merge (m + 1 + 1 + 1 + 1 + 1) (goal + 2) instance ∷
      Merge (m + 1 + 1 + 1 + 1 + 1 + 1) (goal + 1) (m + 1 + 1) ∷ Apply (m + 1 + 1 + 1 + 1 + 1 + 1 + 1) (goal + 1) four ∷ []) after → Ends p goal there after
  cut_rule rows main m instance name pairs one two three four counted stands behind m1 m2 m3 m4 taken =
      let a = next rows after m (m + 1) (UseRule name) _ counted refl taken in
      let rows_a = rows ++ a.row ∷ [] in
      let d = next rows_a after (m + 1) (m + 1 + 1) (Substitute (m + 1) pairs) _ a.count refl a.others in
      let single : length d.row.goals ≡ 1 = goals_kept rows_a (m + 1) pairs a.row d.row a.at d.gives ∙ one_goal rows name a.row a.gives in
      cut_rules (rows_a ++ d.row ∷ []) main (m + 1 + 1) instance (m + 1 + 1) d.row one two three four d.count
      (At-more rows_a (d.row ∷ []) main p (At-more rows (a.row ∷ []) main p stands)) d.at single behind m1 m2 m3 m4 d.others

-- the numbers of rows one after another
record Numbers (n : ℕ) : Type 0 where
  three : n + 3 ≡ n + 1 + 1 + 1
  four : n + 4 ≡ n + 1 + 1 + 1 + 1
  five : n + 5 ≡ n + 1 + 1 + 1 + 1 + 1
  six : n + 6 ≡ n + 1 + 1 + 1 + 1 + 1 + 1
  seven : n + 7 ≡ n + 1 + 1 + 1 + 1 + 1 + 1 + 1
  eight : n + 8 ≡ n + 1 + 1 + 1 + 1 + 1 + 1 + 1 + 1
  nine : n + 9 ≡ n + 1 + 1 + 1 + 1 + 1 + 1 + 1 + 1 + 1

numbers : (n : ℕ) → Numbers n
numbers n = record {
  three = omega arith;
  four = omega arith;
  five = omega arith;
  six = omega arith;
  seven = omega arith;
  eight = omega arith;
  nine = omega arith;
}

-- the steps behind the instance of the axiom, by the numbers of their rows
abbrev CutSteps : (main goal instance : ℕ) (pairs : List Pair) (j : ℕ) (h g : Tree) → (three four five six seven eight nine : ℕ) → List Step
CutSteps main goal instance pairs j h g three four five six seven eight nine =
    UseRule (codes "G") ∷ Substitute three pairs ∷ Apply main goal (CutR j h) ∷ Apply five (goal + 1) (CoHideR j) ∷ Apply six (goal + 1) (CutR 1 g) ∷
    Merge seven (goal + 2) instance ∷ Merge eight (goal + 1) four ∷ Apply nine (goal + 1) (ImplyR 1) ∷ []

pub cutting_box_ends : (p : Provable) (goal : ℕ) (there : IsPlace p.goals goal) (after : List Provable) (main : ℕ) (s : Sequent) → Behind p goal 1 p →
    (now j : ℕ) (c f h : Tree) → From after main now p (cutting_box now (record { fact = main; goal = goal; s = s }) j c f h) → Ends p goal there after
cutting_box_ends p goal there after main s b now j c f h from =
    let w = pass after main (now + 1) p _ _ (pass after main now p _ _ from) in
    let k = numbers now in
    cut_rule p goal there after w.rows main (now + 1 + 1) (now + 2) (codes "G") ((program_a ~> c) ∷ (any_p ~> imply h f) ∷ []) (CutR j (box c h)) (CoHideR j)
    (CutR 1 (box c (imply h f))) (ImplyR 1) w.count w.stands b (makes_cut_right j (box c h)) (makes_hide j) (makes_cut_right 1 (box c (imply h f)))
    (makes_imply_right 1)
    (subst (λ xs. Takes w.rows xs after)
    (λ i. CutSteps main goal (now + 2) ((program_a ~> c) ∷ (any_p ~> imply h f) ∷ []) j (box c h) (box c (imply h f)) (k.three i) (k.four i) (k.five i)
    (k.six i)
    (k.seven i) (k.eight i) (k.nine i)) w.taken)
