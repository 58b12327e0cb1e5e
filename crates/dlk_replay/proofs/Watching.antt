-- The state of a replay that is watched: the lines so far, what the watcher has seen of them, and the steps that are kept.
use Rattle.std.proofs.Common.{◌≡◌, ◌∙◌, refl, sym, subst, ap, ℕ, ◌+◌, ◌-◌, ◌≤◌, Bool, true, false, List, [], ◌∷◌, ◌++◌, length, map, take, arith, inl, inr}
use Rattle.std.specs.Prelude.{All}
use Rattle.std.proofs.lemmas.Grind.{fold-append}
use Rattle.std.proofs.lemmas.List.{length_push, map-append}
use Rattle.std.proofs.lemmas.List.Elements.{All-nil, All-append, All-push, All-head, All-tail, All-weaker}
use Rattle.dlk_tree.specs.Trees.{Tree}
use Rattle.dlk_calculus.specs.Places.{At}
use Rattle.dlk_calculus.specs.Sequents.{Sequent}
use Rattle.dlk_calculus.specs.Provables.{Provable}
use Rattle.dlk_calculus.specs.Steps.{Step}
use Rattle.dlk_calculus.proofs.PlaceLaws.{At-between}
use Rattle.dlk_store.specs.Stores.{IsId, tree, Keeps}
use Rattle.dlk_rules.specs.declared.step.Step.{Step as IdStep}
use Rattle.dlk_rules.specs.Steps.{step_at, HasKnownIds}
use Rattle.dlk_nodes.specs.Files.{head_line, only_head}
use Rattle.dlk_nodes.specs.Lines.{OfNode, Numbered, Done}
use Rattle.dlk_guard.specs.Guarded.{Line, lines}
use Rattle.dlk_guard.specs.Watched.{after_all}
use Rattle.dlk_replay.specs.declared.fault.LineWhy.TheVariants as why
use Rattle.dlk_replay.specs.declared.fault.ReplayFault.{ReplayFault}
use Rattle.dlk_replay.specs.declared.fault.ReplayFault.TheVariants.{Bad, Memory}
use Rattle.dlk_replay.specs.Files.{file_lines, FileRows, Verdict, accepted, bad}
use Rattle.dlk_replay.specs.Formats.{TakesStep, TakesNone, EndsFile, head, SaysInFile}
use Rattle.dlk_replay.specs.declared.version.Version.{Version}
use Rattle.dlk_replay.specs.declared.version.Version.TheVariants as v
use Rattle.dlk_replay.specs.Replay.{IsReplayFaultOf, LeavesRows, IsLineOf, nodes_of, AreKnownNodes, IsLineFault, IsNextStep, IsNextNode, Begins}
use Rattle.dlk_replay.specs.Replay.{SeesLast, kept_of, Shows, EndsWrong}
use Rattle.dlk_replay.proofs.SaidSteps.{front_many}
use Rattle.dlk_replay.proofs.FileLines.{some_line}
use Rattle.dlk_replay.proofs.Reached.{Reached, reached_none, reached_more, reached_skip, front_rows, bad_line, all_accepted, all_said, no_end}
use Rattle.dlk_replay.proofs.Reached.{goes_on, begins_done, done_left}
use Rattle.dlk_replay.proofs.Standing.{Tells, Stands, tells, stands_step, stands_kept, stands_node, says_step, says_node, says_end, is_wrong}

-- the line of a step and its row
abbrev line_of : Step → Provable → Line
line_of step p = record { step = step; conclusion = p.conclusion }

lines_snoc : (steps : List Step) (rows : List Provable) (step : Step) (p : Provable) → length steps ≡ length rows →
    lines (steps ++ step ∷ []) (rows ++ p ∷ []) ≡ lines steps rows ++ line_of step p ∷ []
lines_snoc [] [] step p e = refl
lines_snoc [] (q ∷ rows) step p e = absurd (omega (arith, e))
lines_snoc (s ∷ steps) [] step p e = absurd (omega (arith, e))
lines_snoc (s ∷ steps) (q ∷ rows) step p e = ap (λ ls. line_of s q ∷ ls) (lines_snoc steps rows step p (omega (arith, e)))

-- the last row is that of its number
pub sees_last : {V : Type 0} (after : V → Line → V) (rows : List Provable) (step : Step) (old new : V) (n : ℕ) (conclusion : Sequent) →
    n ≡ length rows → ((p : Provable) → At rows n p → p.conclusion ≡ conclusion) → new ≡ after old (record { step = step; conclusion = conclusion }) →
    SeesLast after rows step old new
sees_last after rows step old new n conclusion last shows is = record {
  seen = λ p there.
      let same : conclusion ≡ p.conclusion = sym (shows p (subst (λ k. At rows k p) (sym last) there)) in
      is ∙ (λ i. after old (record { step = step; conclusion = same i }));
}

-- ---- steps that are kept

kept_none : {A : Type 0} (keep : Bool) → [] ≡ kept_of {A = A} keep []
kept_none true = refl
kept_none false = refl

kept_more : {A : Type 0} (keep : Bool) (xs ys : List A) → kept_of keep xs ++ kept_of keep ys ≡ kept_of keep (xs ++ ys)
kept_more true xs ys = refl
kept_more false xs ys = refl

kept_map : {A : Type 0} {B : Type 0} (f : A → B) (keep : Bool) (xs : List A) → map f (kept_of keep xs) ≡ kept_of keep (map f xs)
kept_map f true xs = refl
kept_map f false xs = refl

kept_known : (trees : List Tree) (keep : Bool) (step : IdStep) → HasKnownIds trees step → All (HasKnownIds trees) (kept_of keep (step ∷ []))
kept_known trees true step known = All-push (HasKnownIds trees) [] step (All-nil (HasKnownIds trees)) known
kept_known trees false step known = All-nil (HasKnownIds trees)

module _ (old new : List Tree) (keeps : Keeps old new) (known_stays : (step : IdStep) → Keeps old new → HasKnownIds old step → HasKnownIds new step)
    (same_stays : (step : IdStep) → Keeps old new → HasKnownIds old step → step_at new step ≡ step_at old step) where
  pub steps_same : (xs : List IdStep) → All (HasKnownIds old) xs → map (step_at new) xs ≡ map (step_at old) xs
  steps_same [] h = refl
  steps_same (x ∷ xs) h =
      let one : step_at new x ≡ step_at old x = same_stays x keeps (All-head (HasKnownIds old) x xs h) in
      let others : map (step_at new) xs ≡ map (step_at old) xs = steps_same xs (All-tail (HasKnownIds old) x xs h) in
      λ i. one i ∷ others i

  -- one more is kept, or none
  pub kept_step : (keep : Bool) (kept all : List IdStep) (step : IdStep) → All (HasKnownIds old) kept → all ≡ kept ++ kept_of keep (step ∷ []) →
      map (step_at new) all ≡ map (step_at old) kept ++ kept_of keep (step_at new step ∷ [])
  kept_step keep kept all step known is =
      ap (map (step_at new)) is ∙ map-append (step_at new) kept (kept_of keep (step ∷ []))
      ∙ (λ i. steps_same kept known i ++ kept_map (step_at new) keep (step ∷ []) i)

  pub kept_ids : (keep : Bool) (kept all : List IdStep) (step : IdStep) → All (HasKnownIds old) kept → HasKnownIds new step →
      all ≡ kept ++ kept_of keep (step ∷ []) → All (HasKnownIds new) all
  kept_ids keep kept all step known its is =
      subst (All (HasKnownIds new)) (sym is)
      (All-append (HasKnownIds new) kept (kept_of keep (step ∷ [])) (All-weaker (HasKnownIds old) (HasKnownIds new) (λ x. known_stays x keeps) kept known)
      (kept_known new keep step its))

-- ---- the state

pub record SoFar {V : Type 0} (after : V → Line → V) (all left : List (List ℕ)) (place last : ℕ) (trees : List Tree) (version : Version)
    (rows : List Provable) (keep : Bool) (kept : List Step) (before now : V) : Type 0 where
  pub taken : List Step
  pub reached : Reached SaysInFile all left place last taken rows
  pub stands : Stands trees version all reached.front (length rows)
  pub seen : now ≡ after_all after before (lines taken rows)
  pub kept_are : kept ≡ kept_of keep taken

-- at first there are no nodes
pub begins_known : (trees : List Tree) (all left : List (List ℕ)) (place : ℕ) (version : Version) → Begins all version left place → AreKnownNodes trees version
begins_known trees all left place v.One begins = tt
begins_known trees all left place (v.Two ids) begins = subst (All (IsId trees)) (sym begins.0) (All-nil (IsId trees))

-- before the first line, or behind the head
pub so_far_none : {V : Type 0} (after : V → Line → V) (all left : List (List ℕ)) (place : ℕ) (trees : List Tree) (version : Version) (keep : Bool)
    (before : V) → Begins all version left place → SoFar after all left place 0 trees version [] keep [] before before
unfolding reached_none reached_skip
so_far_none after all left place trees v.One keep before (one, left_is, none) =
    let start : SoFar after all all 0 0 trees v.One [] keep [] before before =
    record { taken = []; reached = reached_none SaysInFile all; stands = (refl, one); seen = refl; kept_are = kept_none keep } in
    subst (λ l. SoFar after all l place 0 trees v.One [] keep [] before before) (sym left_is)
    (subst (λ n. SoFar after all all n 0 trees v.One [] keep [] before before) (sym none) start)
so_far_none after all left place trees (v.Two ids) keep before (none, lines_are, one) =
    let whole = head_line ∷ left in
    let first = reached_skip SaysInFile whole left head_line 0 0 [] [] (reached_none SaysInFile whole) head in
    let start : SoFar after whole left (0 + 1) 0 trees (v.Two []) [] keep [] before before =
    record { taken = []; reached = first; stands = only_head; seen = refl; kept_are = kept_none keep } in
    let place_is : 0 + 1 ≡ place = omega (arith, one) in
    subst (λ l. SoFar after l left place 0 trees (v.Two ids) [] keep [] before before) (sym lines_are)
    (subst (λ i. SoFar after whole left place 0 trees (v.Two i) [] keep [] before before) (sym none)
    (subst (λ n. SoFar after whole left n 0 trees (v.Two []) [] keep [] before before) place_is start))

module _ {V : Type 0} {after : V → Line → V} {all left : List (List ℕ)} {line : List ℕ} {place last : ℕ} {trees : List Tree} {version : Version}
    {rows : List Provable} {keep : Bool} {kept : List Step} {before now : V}
    (s : SoFar after all (line ∷ left) place last trees version rows keep kept before now) where
  -- what the next line tells
  told : Tells (IsLineOf trees version) (nodes_of version) (length rows) s.reached.front line
  told = tells trees all s.reached.front line (length rows) version left s.reached.all_is s.stands

  its_step : (step : Step) → IsLineOf trees version line (Numbered (length rows + 1) step) → SaysInFile s.reached.front line (TakesStep step)
  its_step step is = says_step (IsLineOf trees version) (nodes_of version) s.reached.front rows line told step is

  pub its_end : IsLineOf trees version line Done → SaysInFile s.reached.front line EndsFile
  its_end is = says_end (IsLineOf trees version) (nodes_of version) s.reached.front rows line told is

  its_node : (new : List Tree) (next : Version) → IsNextNode trees new version next line → SaysInFile s.reached.front line TakesNone
  its_node new next is =
      says_node (IsLineOf trees version) (nodes_of version) s.reached.front rows line told (tree new is.id)
      (subst (λ v. IsLineOf trees v line (OfNode (nodes_of v + 1) (tree new is.id))) (sym is.before_is) is.its_line)

  -- the next line was a step that was taken
  pub so_far_more : (grown : List Tree) (still : Version) (new : List Provable) (step : Step) (more : List Step) (next : V) →
      Keeps trees grown → AreKnownNodes trees version → IsNextStep (IsLineOf trees version) rows line step new → still ≡ version →
      SeesLast after new step now next → more ≡ kept ++ kept_of keep (step ∷ []) →
      SoFar after all left (place + 1) (place + 1) grown still new keep more before next
  unfolding reached_more
  so_far_more grown still new step more next keeps known is same sees more_is =
      let p = is.adds.provable in
      let r = s.reached in
      let last_is : length rows + 1 ≡ length new = sym (ap length is.adds.after_is ∙ length_push rows p) in
      let at_end : At new (length rows + 1) p = subst (λ ps. At ps (length rows + 1) p) (sym is.adds.after_is) (At-between rows p []) in
      let there : At new (length new) p = subst (λ k. At new k p) last_is at_end in
      let e : next ≡ after now (line_of step p) = sees.seen p there in
      let steps = s.taken ++ step ∷ [] in
      let shown : lines s.taken rows ++ line_of step p ∷ [] ≡ lines steps new =
      sym (lines_snoc s.taken rows step p (front_many SaysInFile r.front s.taken rows r.said)) ∙ ap (lines steps) (sym is.adds.after_is) in
      let stands = stands_step trees all r.front line (length rows) version step is.its_line s.stands in
      record {
        taken = steps;
        reached = reached_more SaysInFile all left line place last s.taken rows step new r (its_step step is.its_line) is.adds;
        stands = subst (λ u. Stands grown u all (r.front ++ line ∷ []) (length new)) (sym same)
            (stands_kept trees grown keeps all (r.front ++ line ∷ []) (length new) version known
            (subst (Stands trees version all (r.front ++ line ∷ [])) last_is stands));
        seen = e ∙ ap (λ v. after v (line_of step p)) s.seen ∙ sym (fold-append after before (lines s.taken rows) (line_of step p ∷ []))
            ∙ ap (after_all after before) shown;
        kept_are = more_is ∙ ap (λ ks. ks ++ kept_of keep (step ∷ [])) s.kept_are ∙ kept_more keep s.taken (step ∷ []);
      }

  -- it was a node
  pub so_far_node : (grown : List Tree) (next : Version) (new : List Provable) (same : List Step) → Keeps trees grown → AreKnownNodes trees version →
      IsNextNode trees grown version next line → new ≡ rows → same ≡ kept → SoFar after all left (place + 1) last grown next new keep same before now
  unfolding reached_skip
  so_far_node grown next new same keeps known is rows_are kept_is =
      let r = s.reached in
      let one : SoFar after all left (place + 1) last grown next rows keep kept before now =
      record {
        taken = s.taken;
        reached = reached_skip SaysInFile all left line place last s.taken rows r (its_node grown next is);
        stands = stands_node trees grown keeps all r.front (length rows) version next line known is s.stands;
        seen = s.seen;
        kept_are = s.kept_are;
      } in
      subst (λ ps. SoFar after all left (place + 1) last grown next ps keep same before now) (sym rows_are)
      (subst (λ ks. SoFar after all left (place + 1) last grown next rows keep ks before now) (sym kept_is) one)

  pub rows_more : (new : List Provable) (step : Step) → IsNextStep (IsLineOf trees version) rows line step new → FileRows (take (place + 1) all) new
  rows_more new step is =
      let r = s.reached in
      let next = reached_more SaysInFile all left line place last s.taken rows step new r (its_step step is.its_line) is.adds in
      front_rows SaysInFile all left (place + 1) (place + 1) (s.taken ++ step ∷ []) new next

  -- a fault of the line, and the rows that it leaves
  pub line_fault : (fault : ReplayFault) → IsLineFault (IsLineOf trees version) (nodes_of version) (place + 1) rows line fault → IsReplayFaultOf all fault
  line_fault (Bad at reason) is =
      let r = s.reached in
      subst (λ n. Verdict all (bad n reason)) (sym is.0)
      (bad_line SaysInFile all left line place last s.taken rows reason r
      (is_wrong (IsLineOf trees version) (nodes_of version) r.front rows line told reason is.1))
  line_fault Memory is = tt

  pub line_left : (new : List Provable) (fault : ReplayFault) → new ≡ rows →
      IsLineFault (IsLineOf trees version) (nodes_of version) (place + 1) rows line fault →
      LeavesRows all new fault
  line_left new (Bad at reason) same is =
      let before_it : at - 1 ≡ place = omega (arith, is.0) in
      rw (before_it, same) (front_rows SaysInFile all (line ∷ left) place last s.taken rows s.reached)
  line_left new Memory same is = (place, rw same (front_rows SaysInFile all (line ∷ left) place last s.taken rows s.reached))

-- ---- the end of the file

module _ {V : Type 0} {after : V → Line → V} {all : List (List ℕ)} {place last : ℕ} {trees : List Tree} {version : Version} {rows : List Provable}
    {keep : Bool} {kept : List Step} {before now : V} where
  -- no line is left
  pub ends_short : SoFar after all [] place last trees version rows keep kept before now → Verdict all (bad (place + 1) why.NoEnd)
  ends_short s = no_end SaysInFile all place last s.taken rows s.reached

  pub short_left : SoFar after all [] place last trees version rows keep kept before now → FileRows (take place all) rows
  short_left s = front_rows SaysInFile all [] place last s.taken rows s.reached

  -- the last line was `done`
  pub ends_well : (line : List ℕ) → SoFar after all (line ∷ []) place last trees version rows keep kept before now → IsLineOf trees version line Done →
      1 ≤ length rows →
      (at : ℕ) → at ≡ last → Verdict all (accepted rows at)
  ends_well line s is_done some at is =
      subst (λ n. Verdict all (accepted rows n)) (sym is) (all_accepted SaysInFile all place last s.taken rows line s.reached some (its_end s is_done))

  pub ends_shown : (line : List ℕ) → SoFar after all (line ∷ []) place last trees version rows keep kept before now → IsLineOf trees version line Done →
      (same : List Step) → same ≡ kept → Shows after all rows keep same before now
  ends_shown line s is_done same is = record {
    taken = s.taken;
    says = all_said SaysInFile all place last s.taken rows line s.reached (its_end s is_done);
    seen = s.seen;
    kept_are = is ∙ s.kept_are;
  }

  module _ (line behind : List ℕ) (s : SoFar after all (line ∷ file_lines behind) place last trees version rows keep kept before now)
      (is_done : IsLineOf trees version line Done) (count : ℕ) (count_is : count ≡ length rows) where
    -- `done` stands before any step, or before another line
    pub end_fault : (fault : ReplayFault) → EndsWrong count (place + 1) behind fault → IsReplayFaultOf all fault
    end_fault (Bad at why.Malformed) (inl (none, is)) =
        subst (λ n. Verdict all (bad n why.Malformed)) (sym is)
        (begins_done SaysInFile all (file_lines behind) line place last s.taken rows s.reached (sym count_is ∙ none) (its_end s is_done))
    end_fault (Bad at why.Malformed) (inr (some, more, is)) =
        let over = some_line behind more in
        let more : SoFar after all (line ∷ over.first ∷ over.others) place last trees version rows keep kept before now =
        subst (λ ls. SoFar after all (line ∷ ls) place last trees version rows keep kept before now) over.lines_are s in
        subst (λ n. Verdict all (bad n why.Malformed)) (sym is)
        (goes_on SaysInFile all place last more.taken rows over.others line over.first more.reached (omega (arith, some, count_is)) (its_end more is_done))
    end_fault (Bad at why.WrongNumber) wrong = absurd wrong
    end_fault (Bad at why.NoEnd) wrong = absurd wrong
    end_fault (Bad at (why.Step reason)) wrong = absurd wrong
    end_fault Memory wrong = absurd wrong

    pub end_left : (new : List Provable) (fault : ReplayFault) → new ≡ rows → EndsWrong count (place + 1) behind fault → LeavesRows all new fault
    end_left new (Bad at why.Malformed) same (inl (none, is)) =
        let before_it : at - 1 ≡ place = omega (arith, is) in
        rw (before_it, same) (front_rows SaysInFile all (line ∷ file_lines behind) place last s.taken rows s.reached)
    end_left new (Bad at why.Malformed) same (inr (some, more, is)) =
        let before_it : at - 1 ≡ place + 1 = omega (arith, is) in
        rw (before_it, same) (done_left SaysInFile all (file_lines behind) line place last s.taken rows s.reached (its_end s is_done))
    end_left new (Bad at why.WrongNumber) same wrong = absurd wrong
    end_left new (Bad at why.NoEnd) same wrong = absurd wrong
    end_left new (Bad at (why.Step reason)) same wrong = absurd wrong
    end_left new Memory same wrong = absurd wrong
