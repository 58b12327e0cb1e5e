-- The machine answers what the definition says of the parts of a script.
use Rattle.std.proofs.Common.{◌≡◌, ℕ, ◌+◌, List, [], ◌∷◌, ◌++◌, refl, sym, ap, ◌∙◌, append_assoc}
use Rattle.dlk_scripts.specs.declared.part.Part.{Part}
use Rattle.dlk_scripts.specs.declared.part.PartKind.{PartKind}
use Rattle.dlk_scripts.specs.declared.part.PartKind.TheVariants as kind
use Rattle.dlk_scripts.specs.Parts.{part}
use Rattle.dlk_scripts.specs.Scripts as script
use Rattle.dlk_scripts.specs.Scripts.{place_parts, argument_parts, arguments_parts, script_parts, sequence_parts, scripts_parts, repeat_parts, primary_parts}
use Rattle.dlk_tacsyn.specs.declared.argument.Written.{Written}
use Rattle.dlk_tacsyn.specs.declared.argument.Written.TheVariants as written
use Rattle.dlk_tacsyn.specs.declared.argument.Current.{Current}
use Rattle.dlk_tacsyn.specs.declared.argument.Current.TheVariants as current
use Rattle.dlk_tacsyn.specs.declared.frame.Opened.{Opened}
use Rattle.dlk_tacsyn.specs.declared.frame.Opened.TheVariants.{Group, Fork}
use Rattle.dlk_tacsyn.specs.Tactics.{Tactic, Choice, Sequence, Branch}
use Rattle.dlk_tacsyn.specs.Faults.{Fault}
use Rattle.dlk_tacsyn.specs.Strategies.{Outcome, Reading, Says, Fails, ◌>>=◌, side_of, path_of, written_of, all_written, parts, whole, opened}
use Rattle.dlk_tacsyn.specs.Strategies.{repeated, atom_of, choices_of, sequence_of, branches_of, repeat_of, primary_of, strategy_of}
use Rattle.dlk_tacsyn.specs.Steps.{Frame, Stack, bottom, within, Nothing, Named, Called, Whole, State, state, empty_frame, start, after_whole}
use Rattle.dlk_tacsyn.specs.Steps.{after_name, step, run, finish}
use Rattle.dlk_tacsyn.proofs.Chains.{bind_assoc, bind_same, bind_says, bind_at, bind_opened}

abbrev frame : Opened → ℕ → List Tactic → List Tactic → List Tactic → Frame
frame by level bs cs ss = record { opened = by; level = level; branches = bs; choices = cs; steps = ss }

abbrev in_call : Stack → Frame → ℕ → List ℕ → List Written → Current → State
in_call outer f at x ws now = state outer f (Called (record { at = at; name = x; before = ws; current = now }))

module _ (read : Reading) where
  pub run_append : (s : State) (a b : List Part) → run read s (a ++ b) ≡ (run read s a >>= (λ t. run read t b))
  run_append s [] b = refl
  run_append s (p ∷ a) b =
      bind_same (step read s p) (λ t. run read t (a ++ b)) (λ t. run read t a >>= (λ u. run read u b)) (λ t. run_append t a b)
      ∙ sym (bind_assoc (step read s p) (λ t. run read t a) (λ u. run read u b))

  -- the parts of arguments
  place_run : (p : script.Place) (outer : Stack) (f : Frame) (at : ℕ) (x : List ℕ) (ws : List Written) →
      run read (in_call outer f at x ws current.Nothing) (place_parts p) ≡ Says (in_call outer f at x ws (current.Given (written.At (side_of p) (path_of p))))
  place_run (script.Right place n) outer f at x ws = refl
  place_run (script.Left minus place n) outer f at x ws = refl
  place_run (script.Below p point place n) outer f at x ws =
      run_append (in_call outer f at x ws current.Nothing) (place_parts p) (part point kind.Point ∷ part place (kind.Number n) ∷ [])
      ∙ bind_at _ (Says (in_call outer f at x ws (current.Given (written.At (side_of p) (path_of p)))))
      (λ t. run read t (part point kind.Point ∷ part place (kind.Number n) ∷ [])) (place_run p outer f at x ws)

  argument_run : (a : script.Argument) (outer : Stack) (f : Frame) (at : ℕ) (x : List ℕ) (ws : List Written) →
      run read (in_call outer f at x ws current.Nothing) (argument_parts a) ≡ Says (in_call outer f at x ws (current.Given (written_of a)))
  argument_run (script.At p) outer f at x ws = place_run p outer f at x ws
  argument_run (script.AnyLeft place) outer f at x ws = refl
  argument_run (script.AnyRight place) outer f at x ws = refl
  argument_run (script.Word' place y) outer f at x ws = refl
  argument_run (script.Quoted place s) outer f at x ws = refl

  record Collects (l : script.Arguments) (outer : Stack) (f : Frame) (at : ℕ) (x : List ℕ) : Type 0 where
    front : List Written
    last : Written
    runs : run read (in_call outer f at x [] current.Nothing) (arguments_parts l) ≡ Says (in_call outer f at x front (current.Given last))
    all : all_written l ≡ front ++ last ∷ []

  arguments_run : (l : script.Arguments) (outer : Stack) (f : Frame) (at : ℕ) (x : List ℕ) → Collects l outer f at x
  arguments_run (script.OneArgument a) outer f at x = record { front = []; last = written_of a; runs = argument_run a outer f at x []; all = refl }
  arguments_run (script.ThenArgument l comma a) outer f at x =
      let before = arguments_run l outer f at x in
      record {
        front = before.front ++ before.last ∷ [];
        last = written_of a;
        runs = run_append (in_call outer f at x [] current.Nothing) (arguments_parts l) (part comma kind.Comma ∷ argument_parts a)
            ∙ bind_at _ (Says (in_call outer f at x before.front (current.Given before.last))) (λ t. run read t (part comma kind.Comma ∷ argument_parts a))
            before.runs
            ∙ argument_run a outer f at x (before.front ++ before.last ∷ []);
        all = ap (λ ws. ws ++ written_of a ∷ []) before.all;
      }

  -- What the machine has read, with a strategy last that is still open to `*`, or to `(` behind its name; and what the definition says.
  data Comes {A B : Type 0} (outer : Stack) (G : B → Frame) (add : B → Tactic → A) (R : Outcome State) (o : Outcome A) : Type 0 where
    named : (b : B) (at : ℕ) (x : List ℕ) → R ≡ Says (state outer (G b) (Named at x)) → o ≡ (atom_of read at x [] >>= (λ t. Says (add b t))) →
        Comes outer G add R o
    ended : (b : B) (t : Tactic) → R ≡ Says (state outer (G b) (Whole t)) → o ≡ Says (add b t) → Comes outer G add R o
    failed : (e : Fault) → R ≡ Fails e → o ≡ Fails e → Comes outer G add R o

  comes_at : {A B : Type 0} (outer : Stack) (G : B → Frame) (add : B → Tactic → A) (R Q : Outcome State) (o p : Outcome A) →
      R ≡ Q → o ≡ p → Comes outer G add Q p → Comes outer G add R o
  comes_at outer G add R Q o p r e (named b at x q w) = named b at x (r ∙ q) (e ∙ w)
  comes_at outer G add R Q o p r e (ended b t q w) = ended b t (r ∙ q) (e ∙ w)
  comes_at outer G add R Q o p r e (failed f q w) = failed f (r ∙ q) (e ∙ w)

  -- a part that ends the strategy that stands last
  next : {A B : Type 0} (outer : Stack) (G : B → Frame) (add : B → Tactic → A) (R : Outcome State) (o : Outcome A) → Comes outer G add R o →
      (at : ℕ) (k : PartKind) → ((f : Frame) (a : ℕ) (x : List ℕ) →
      after_name read at k outer f a x ≡ (atom_of read a x [] >>= (λ t. after_whole at k outer f t))) →
      (E : A → Outcome State) → ((b : B) (t : Tactic) → after_whole at k outer (G b) t ≡ E (add b t)) →
      (R >>= (λ s. step read s (part at k))) ≡ (o >>= E)
  next outer G add R o (named b a x q w) at k same E h =
      bind_at R (Says (state outer (G b) (Named a x))) (λ s. step read s (part at k)) q
      ∙ same (G b) a x
      ∙ bind_same (atom_of read a x []) (λ t. after_whole at k outer (G b) t) (λ t. E (add b t)) (λ t. h b t)
      ∙ sym (bind_assoc (atom_of read a x []) (λ t. Says (add b t)) E)
      ∙ sym (bind_at o (atom_of read a x [] >>= (λ t. Says (add b t))) E w)
  next outer G add R o (ended b t q w) at k same E h =
      bind_at R (Says (state outer (G b) (Whole t))) (λ s. step read s (part at k)) q ∙ h b t ∙ sym (bind_at o (Says (add b t)) E w)
  next outer G add R o (failed e q w) at k same E h =
      bind_at R (Fails e) (λ s. step read s (part at k)) q ∙ sym (bind_at o (Fails e) E w)

  -- the same with more parts behind it
  next_run : {A B : Type 0} (outer : Stack) (G : B → Frame) (add : B → Tactic → A) (s : State) (ps : List Part) (o : Outcome A) →
      Comes outer G add (run read s ps) o →
      (at : ℕ) (k : PartKind) (qs : List Part) →
      ((f : Frame) (a : ℕ) (x : List ℕ) → after_name read at k outer f a x ≡ (atom_of read a x [] >>= (λ t. after_whole at k outer f t))) →
      (E : A → Outcome State) → ((b : B) (t : Tactic) → after_whole at k outer (G b) t ≡ E (add b t)) →
      run read s (ps ++ part at k ∷ qs) ≡ (o >>= (λ a. E a >>= (λ u. run read u qs)))
  next_run outer G add s ps o comes at k qs same E h =
      run_append s ps (part at k ∷ qs)
      ∙ sym (bind_assoc (run read s ps) (λ t. step read t (part at k)) (λ u. run read u qs))
      ∙ bind_at (run read s ps >>= (λ t. step read t (part at k))) (o >>= E) (λ u. run read u qs) (next outer G add (run read s ps) o comes at k same E h)
      ∙ bind_assoc o E (λ u. run read u qs)

  lift : {A B C D : Type 0} (outer : Stack) (G : B → Frame) (add : B → Tactic → A) (H : D → Frame) (put : D → Tactic → C) (i : B → D) (h : A → C) →
      ((b : B) → G b ≡ H (i b)) → ((b : B) (t : Tactic) → h (add b t) ≡ put (i b) t) →
      (R : Outcome State) (o : Outcome A) → Comes outer G add R o → Comes outer H put R (o >>= (λ a. Says (h a)))
  lift outer G add H put i h frames adds R o (named b at x q w) =
      named (i b) at x (q ∙ ap (λ f. Says (state outer f (Named at x))) (frames b)) (
      bind_at o (atom_of read at x [] >>= (λ t. Says (add b t))) (λ a. Says (h a)) w
      ∙ bind_assoc (atom_of read at x []) (λ t. Says (add b t)) (λ a. Says (h a))
      ∙ bind_same (atom_of read at x []) (λ t. Says (h (add b t))) (λ t. Says (put (i b) t)) (λ t. ap (λ z. Says z) (adds b t))
      )
  lift outer G add H put i h frames adds R o (ended b t q w) =
      ended (i b) t (q ∙ ap (λ f. Says (state outer f (Whole t))) (frames b)) (bind_at o (Says (add b t)) (λ a. Says (h a)) w ∙ ap (λ z. Says z) (adds b t))
  lift outer G add H put i h frames adds R o (failed e q w) = failed e q (bind_at o (Fails e) (λ a. Says (h a)) w)

  -- what comes behind an outcome
  then_comes : {A B C : Type 0} (outer : Stack) (G : B → Frame) (add : B → Tactic → A) (o : Outcome C) (E : C → Outcome State) (rest : C → Outcome A) →
      ((c : C) → Comes outer G add (E c) (rest c)) → Comes outer G add (o >>= E) (o >>= rest)
  then_comes outer G add (Says c) E rest h = h c
  then_comes outer G add (Fails e) E rest h = failed e refl refl

  ends_as : {A B C : Type 0} (outer : Stack) (G : B → Frame) (add : B → Tactic → A) (b : B) (o : Outcome C) (make : C → Tactic) →
      Comes outer G add (o >>= (λ c. Says (state outer (G b) (Whole (make c))))) (o >>= (λ c. Says (add b (make c))))
  ends_as outer G add b (Says c) make = ended b (make c) refl refl
  ends_as outer G add b (Fails e) make = failed e refl refl

  -- what one strategy adds: itself
  abbrev alone : Unit {0} → Tactic → Tactic
  alone u t = t

  abbrev behind_steps : List Tactic → Tactic → List Tactic
  behind_steps ss t = ss ++ t ∷ []

  abbrev behind_choices : (List Tactic × List Tactic) → Tactic → List Tactic
  behind_choices b t = b.0 ++ whole Sequence (b.1 ++ t ∷ []) ∷ []

  abbrev behind_branches : (List Tactic × List Tactic × List Tactic) → Tactic → List Tactic
  behind_branches b t = b.0 ++ whole Choice (b.1 ++ whole Sequence (b.2 ++ t ∷ []) ∷ []) ∷ []

  -- a bracket, given what stands in it
  bracket_run : {A B : Type 0} (outer : Stack) (f : Frame) (by : Opened) (at : ℕ) (G : B → Frame) (add : B → Tactic → A) (ps : List Part) (o : Outcome A)
      (place : ℕ) (make : A → Tactic) →
      ((b : B) (t : Tactic) → after_whole place kind.Close (within outer f) (G b) t ≡ Says (state outer f (Whole (make (add b t))))) →
      Comes (within outer f) G add (run read (state (within outer f) (empty_frame by (f.level + 1)) Nothing) ps) o →
      (opened f.level at (Says (state (within outer f) (empty_frame by (f.level + 1)) Nothing)) >>= (λ s. run read s (ps ++ part place kind.Close ∷ [])))
      ≡ (opened f.level at o >>= (λ a. Says (state outer f (Whole (make a)))))
  bracket_run outer f by at G add ps o place make h comes =
      let inner = state (within outer f) (empty_frame by (f.level + 1)) Nothing in
      bind_opened f.level at (Says inner) (λ s. run read s (ps ++ part place kind.Close ∷ []))
      ∙ ap (opened f.level at) (
      next_run (within outer f) G add inner ps o comes place kind.Close [] (λ g a x. refl) (λ a. Says (state outer f (Whole (make a)))) h
      )
      ∙ sym (bind_opened f.level at o (λ a. Says (state outer f (Whole (make a)))))

  -- a repeat behind steps
  step_comes : (ts : List Tactic) (r : script.Repeat) (outer : Stack) (by : Opened) (level : ℕ) (bs cs : List Tactic) →
      Comes outer (λ (u : Unit {0}). frame by level bs cs ts) alone (run read (state outer (frame by level bs cs ts) Nothing) (repeat_parts r))
      (repeat_of read level r) →
      Comes outer (λ (ss : List Tactic). frame by level bs cs ss) behind_steps (run read (state outer (frame by level bs cs ts) Nothing) (repeat_parts r))
      (repeat_of read level r >>= (λ t. Says (ts ++ t ∷ [])))
  step_comes ts r outer by level bs cs comes =
      lift outer (λ (u : Unit {0}). frame by level bs cs ts) alone (λ (ss : List Tactic). frame by level bs cs ss) behind_steps (λ u. ts) (λ t. ts ++ t ∷ [])
      (λ u. refl) (λ u t. refl)
      (run read (state outer (frame by level bs cs ts) Nothing) (repeat_parts r)) (repeat_of read level r) comes

  -- a sequence behind choices
  choice_comes : (us : List Tactic) (q : script.Sequence) (outer : Stack) (by : Opened) (level : ℕ) (bs : List Tactic) →
      Comes outer (λ (ss : List Tactic). frame by level bs us ss) behind_steps (run read (state outer (frame by level bs us []) Nothing) (sequence_parts q))
      (sequence_of read level q) →
      Comes outer (λ (b : List Tactic × List Tactic). frame by level bs b.0 b.1) behind_choices
      (run read (state outer (frame by level bs us []) Nothing) (sequence_parts q))
      (sequence_of read level q >>= (λ ts. Says (us ++ whole Sequence ts ∷ [])))
  choice_comes us q outer by level bs comes =
      lift outer (λ (ss : List Tactic). frame by level bs us ss) behind_steps (λ (b : List Tactic × List Tactic). frame by level bs b.0 b.1) behind_choices
      (λ ss. (us, ss)) (λ ts. us ++ whole Sequence ts ∷ []) (λ ss. refl) (λ ss t. refl)
      (run read (state outer (frame by level bs us []) Nothing) (sequence_parts q)) (sequence_of read level q) comes

  -- a strategy behind others of a branch
  branch_comes : (us : List Tactic) (s : script.Script) (outer : Stack) (by : Opened) (level : ℕ) →
      Comes outer (λ (b : List Tactic × List Tactic). frame by level us b.0 b.1) behind_choices
      (run read (state outer (frame by level us [] []) Nothing) (script_parts s)) (choices_of read level s) →
      Comes outer (λ (b : List Tactic × List Tactic × List Tactic). frame by level b.0 b.1 b.2) behind_branches
      (run read (state outer (frame by level us [] []) Nothing) (script_parts s)) (choices_of read level s >>= (λ ts. Says (us ++ whole Choice ts ∷ [])))
  branch_comes us s outer by level comes =
      lift outer (λ (b : List Tactic × List Tactic). frame by level us b.0 b.1) behind_choices
      (λ (b : List Tactic × List Tactic × List Tactic). frame by level b.0 b.1 b.2) behind_branches (λ b. (us, b.0, b.1))
      (λ ts. us ++ whole Choice ts ∷ []) (λ b. refl) (λ b t. refl)
      (run read (state outer (frame by level us [] []) Nothing) (script_parts s)) (choices_of read level s) comes

  mutual
    primary_comes : (p : script.Primary) (outer : Stack) (f : Frame) →
        Comes outer (λ (u : Unit {0}). f) alone (run read (state outer f Nothing) (primary_parts p)) (primary_of read f.level p)
    primary_comes (script.Atom at x) outer f = named tt at x refl (sym (bind_says (atom_of read at x [])))
    primary_comes (script.Call at x opens l close) outer f =
        let inside = arguments_run l outer f at x in
        comes_at outer (λ (u : Unit {0}). f) alone
        (run read (in_call outer f at x [] current.Nothing) (arguments_parts l ++ part close kind.Close ∷ []))
        (atom_of read at x (inside.front ++ inside.last ∷ []) >>= (λ t. Says (state outer f (Whole t))))
        (atom_of read at x (all_written l))
        (atom_of read at x (inside.front ++ inside.last ∷ []) >>= (λ t. Says t))
        (
        run_append (in_call outer f at x [] current.Nothing) (arguments_parts l) (part close kind.Close ∷ [])
        ∙ bind_at _ (Says (in_call outer f at x inside.front (current.Given inside.last))) (λ t. run read t (part close kind.Close ∷ [])) inside.runs
        ∙ bind_says (atom_of read at x (inside.front ++ inside.last ∷ []) >>= (λ t. Says (state outer f (Whole t))))
        )
        (ap (atom_of read at x) inside.all ∙ sym (bind_says (atom_of read at x (inside.front ++ inside.last ∷ []))))
        (ends_as outer (λ (u : Unit {0}). f) alone tt (atom_of read at x (inside.front ++ inside.last ∷ [])) (λ t. t))
    primary_comes (script.Group opens s close) outer f =
        let inside = opened f.level opens (choices_of read (f.level + 1) s) in
        comes_at outer (λ (u : Unit {0}). f) alone
        (run read (state outer f Nothing) (primary_parts (script.Group opens s close)))
        (inside >>= (λ ts. Says (state outer f (Whole (whole Choice ts)))))
        (primary_of read f.level (script.Group opens s close))
        (inside >>= (λ ts. Says (whole Choice ts)))
        (bracket_run outer f Group opens (λ (b : List Tactic × List Tactic). frame Group (f.level + 1) [] b.0 b.1) behind_choices (script_parts s)
        (choices_of read (f.level + 1) s) close (λ ts. whole Choice ts) (λ b t. refl)
        (script_comes s (within outer f) Group (f.level + 1) []))
        refl
        (ends_as outer (λ (u : Unit {0}). f) alone tt inside (λ ts. whole Choice ts))

    repeat_comes : (r : script.Repeat) (outer : Stack) (f : Frame) →
        Comes outer (λ (u : Unit {0}). f) alone (run read (state outer f Nothing) (repeat_parts r)) (repeat_of read f.level r)
    repeat_comes (script.Once p) outer f = primary_comes p outer f
    repeat_comes (script.Times r star at n) outer f =
        let before = repeat_of read f.level r in
        comes_at outer (λ (u : Unit {0}). f) alone
        (run read (state outer f Nothing) (repeat_parts (script.Times r star at n)))
        ((before >>= (λ t. repeated at n t)) >>= (λ t. Says (state outer f (Whole t))))
        (before >>= (λ t. repeated at n t))
        ((before >>= (λ t. repeated at n t)) >>= (λ t. Says t))
        (
        next_run outer (λ (u : Unit {0}). f) alone (state outer f Nothing) (repeat_parts r) before (repeat_comes r outer f) star kind.Star
        (part at (kind.Number n) ∷ [])
        (λ g a x. refl) (λ t. Says (state outer f (Whole t))) (λ b t. refl)
        ∙ bind_same before (λ t. (repeated at n t >>= (λ u. Says (state outer f (Whole u)))) >>= (λ u. Says u))
        (λ t. repeated at n t >>= (λ u. Says (state outer f (Whole u))))
        (λ t. bind_says (repeated at n t >>= (λ u. Says (state outer f (Whole u)))))
        ∙ sym (bind_assoc before (λ t. repeated at n t) (λ t. Says (state outer f (Whole t))))
        )
        (sym (bind_says (before >>= (λ t. repeated at n t))))
        (ends_as outer (λ (u : Unit {0}). f) alone tt (before >>= (λ t. repeated at n t)) (λ t. t))

    sequence_comes : (q : script.Sequence) (outer : Stack) (by : Opened) (level : ℕ) (bs cs : List Tactic) →
        Comes outer (λ (ss : List Tactic). frame by level bs cs ss) behind_steps (run read (state outer (frame by level bs cs []) Nothing) (sequence_parts q))
        (sequence_of read level q)
    sequence_comes (script.OneRepeat r) outer by level bs cs =
        step_comes [] r outer by level bs cs (repeat_comes r outer (frame by level bs cs []))
    sequence_comes (script.ThenRepeat q semicolon r) outer by level bs cs =
        let G = λ (ss : List Tactic). frame by level bs cs ss in
        comes_at outer G behind_steps
        (run read (state outer (G []) Nothing) (sequence_parts (script.ThenRepeat q semicolon r)))
        (sequence_of read level q >>= (λ ts. run read (state outer (G ts) Nothing) (repeat_parts r)))
        (sequence_of read level (script.ThenRepeat q semicolon r))
        (sequence_of read level (script.ThenRepeat q semicolon r))
        (next_run outer G behind_steps (state outer (G []) Nothing) (sequence_parts q) (sequence_of read level q) (sequence_comes q outer by level bs cs)
        semicolon kind.Semicolon (repeat_parts r)
        (λ g a x. refl) (λ ts. Says (state outer (G ts) Nothing)) (λ b t. refl))
        refl
        (then_comes outer G behind_steps (sequence_of read level q) (λ ts. run read (state outer (G ts) Nothing) (repeat_parts r))
        (λ ts. repeat_of read level r >>= (λ t. Says (ts ++ t ∷ [])))
        (λ ts. step_comes ts r outer by level bs cs (repeat_comes r outer (frame by level bs cs ts))))
    sequence_comes (script.ThenBranch q semicolon fork l close) outer by level bs cs =
        let G = λ (ss : List Tactic). frame by level bs cs ss in
        let inside = opened level fork (branches_of read (level + 1) l) in
        let rest = part fork kind.Fork ∷ (scripts_parts l ++ part close kind.Close ∷ []) in
        comes_at outer G behind_steps
        (run read (state outer (G []) Nothing) (sequence_parts (script.ThenBranch q semicolon fork l close)))
        (sequence_of read level q >>= (λ ts. run read (state outer (G ts) Nothing) rest))
        (sequence_of read level (script.ThenBranch q semicolon fork l close))
        (sequence_of read level (script.ThenBranch q semicolon fork l close))
        (
        ap (run read (state outer (G []) Nothing))
        (append_assoc (sequence_parts q) (part semicolon kind.Semicolon ∷ part fork kind.Fork ∷ scripts_parts l) (part close kind.Close ∷ []))
        ∙ next_run outer G behind_steps (state outer (G []) Nothing) (sequence_parts q) (sequence_of read level q) (sequence_comes q outer by level bs cs)
        semicolon kind.Semicolon rest
        (λ g a x. refl) (λ ts. Says (state outer (G ts) Nothing)) (λ b t. refl)
        )
        refl
        (then_comes outer G behind_steps (sequence_of read level q) (λ ts. run read (state outer (G ts) Nothing) rest)
        (λ ts. inside >>= (λ us. Says (ts ++ Branch fork (parts us) ∷ [])))
        (λ ts. comes_at outer G behind_steps
        (run read (state outer (G ts) Nothing) rest)
        (inside >>= (λ us. Says (state outer (G ts) (Whole (Branch fork (parts us))))))
        (inside >>= (λ us. Says (ts ++ Branch fork (parts us) ∷ [])))
        (inside >>= (λ us. Says (ts ++ Branch fork (parts us) ∷ [])))
        (bracket_run outer (G ts) (Fork fork) fork (λ (b : List Tactic × List Tactic × List Tactic). frame (Fork fork) (level + 1) b.0 b.1 b.2) behind_branches
        (scripts_parts l) (branches_of read (level + 1) l) close (λ us. Branch fork (parts us)) (λ b t. refl)
        (scripts_comes l (within outer (G ts)) (Fork fork) (level + 1)))
        refl
        (ends_as outer G behind_steps ts inside (λ us. Branch fork (parts us)))))

    script_comes : (s : script.Script) (outer : Stack) (by : Opened) (level : ℕ) (bs : List Tactic) →
        Comes outer (λ (b : List Tactic × List Tactic). frame by level bs b.0 b.1) behind_choices
        (run read (state outer (frame by level bs [] []) Nothing) (script_parts s)) (choices_of read level s)
    script_comes (script.OneSequence q) outer by level bs = choice_comes [] q outer by level bs (sequence_comes q outer by level bs [])
    script_comes (script.OrSequence s bar q) outer by level bs =
        let G = λ (b : List Tactic × List Tactic). frame by level bs b.0 b.1 in
        comes_at outer G behind_choices
        (run read (state outer (frame by level bs [] []) Nothing) (script_parts (script.OrSequence s bar q)))
        (choices_of read level s >>= (λ us. run read (state outer (frame by level bs us []) Nothing) (sequence_parts q)))
        (choices_of read level (script.OrSequence s bar q))
        (choices_of read level (script.OrSequence s bar q))
        (next_run outer G behind_choices (state outer (frame by level bs [] []) Nothing) (script_parts s) (choices_of read level s)
        (script_comes s outer by level bs) bar kind.Bar (sequence_parts q)
        (λ g a x. refl) (λ us. Says (state outer (frame by level bs us []) Nothing)) (λ b t. refl))
        refl
        (then_comes outer G behind_choices (choices_of read level s) (λ us. run read (state outer (frame by level bs us []) Nothing) (sequence_parts q))
        (λ us. sequence_of read level q >>= (λ ts. Says (us ++ whole Sequence ts ∷ [])))
        (λ us. choice_comes us q outer by level bs (sequence_comes q outer by level bs us)))

    scripts_comes : (l : script.Scripts) (outer : Stack) (by : Opened) (level : ℕ) →
        Comes outer (λ (b : List Tactic × List Tactic × List Tactic). frame by level b.0 b.1 b.2) behind_branches
        (run read (state outer (frame by level [] [] []) Nothing) (scripts_parts l)) (branches_of read level l)
    scripts_comes (script.OneScript s) outer by level = branch_comes [] s outer by level (script_comes s outer by level [])
    scripts_comes (script.ThenScript l comma s) outer by level =
        let G = λ (b : List Tactic × List Tactic × List Tactic). frame by level b.0 b.1 b.2 in
        comes_at outer G behind_branches
        (run read (state outer (frame by level [] [] []) Nothing) (scripts_parts (script.ThenScript l comma s)))
        (branches_of read level l >>= (λ us. run read (state outer (frame by level us [] []) Nothing) (script_parts s)))
        (branches_of read level (script.ThenScript l comma s))
        (branches_of read level (script.ThenScript l comma s))
        (next_run outer G behind_branches (state outer (frame by level [] [] []) Nothing) (scripts_parts l) (branches_of read level l)
        (scripts_comes l outer by level) comma kind.Comma (script_parts s)
        (λ g a x. refl) (λ us. Says (state outer (frame by level us [] []) Nothing)) (λ b t. refl))
        refl
        (then_comes outer G behind_branches (branches_of read level l) (λ us. run read (state outer (frame by level us [] []) Nothing) (script_parts s))
        (λ us. choices_of read level s >>= (λ ts. Says (us ++ whole Choice ts ∷ [])))
        (λ us. branch_comes us s outer by level (script_comes s outer by level us)))

  -- the parts of a script, to their end
  finished : {B : Type 0} (G : B → Frame) (add : B → Tactic → List Tactic) (R : Outcome State) (o : Outcome (List Tactic)) →
      ((b : B) (t : Tactic) → finish read (state bottom (G b) (Whole t)) ≡ Says (whole Choice (add b t))) →
      ((b : B) (at : ℕ) (x : List ℕ) → finish read
      (state bottom (G b) (Named at x)) ≡ (atom_of read at x [] >>= (λ t. finish read (state bottom (G b) (Whole t))))) →
      Comes bottom G add R o → (R >>= (λ s. finish read s)) ≡ (o >>= (λ ts. Says (whole Choice ts)))
  finished G add R o h same (named b at x q w) =
      bind_at R (Says (state bottom (G b) (Named at x))) (λ s. finish read s) q
      ∙ same b at x
      ∙ bind_same (atom_of read at x []) (λ t. finish read (state bottom (G b) (Whole t))) (λ t. Says (whole Choice (add b t))) (λ t. h b t)
      ∙ sym (bind_assoc (atom_of read at x []) (λ t. Says (add b t)) (λ ts. Says (whole Choice ts)))
      ∙ sym (bind_at o (atom_of read at x [] >>= (λ t. Says (add b t))) (λ ts. Says (whole Choice ts)) w)
  finished G add R o h same (ended b t q w) =
      bind_at R (Says (state bottom (G b) (Whole t))) (λ s. finish read s) q ∙ h b t ∙ sym (bind_at o (Says (add b t)) (λ ts. Says (whole Choice ts)) w)
  finished G add R o h same (failed e q w) =
      bind_at R (Fails e) (λ s. finish read s) q ∙ sym (bind_at o (Fails e) (λ ts. Says (whole Choice ts)) w)

  pub machine_answers : (s : script.Script) → (run read start (script_parts s) >>= (λ t. finish read t)) ≡ strategy_of read s
  machine_answers s =
      finished (λ (b : List Tactic × List Tactic). frame Group 0 [] b.0 b.1) behind_choices (run read start (script_parts s)) (choices_of read 0 s)
      (λ b t. refl) (λ b at x. refl)
      (script_comes s bottom Group 0 [])
