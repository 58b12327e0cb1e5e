-- A text says one line or none, and a file one script or has one first wrong line.
use Rattle.std.proofs.Common.{◌≡◌, ◌≢◌, ◌⊎◌, ℕ, ◌+◌, drop, get_or, arith, List, [], ◌∷◌, ◌++◌, refl, sym, ap, subst, ◌∙◌, inl, inr, append_assoc}
use Rattle.std.specs.Prelude.{codes}
use Rattle.dlk_lines.specs.Numbers.{IsNumber}
use Rattle.dlk_lines.specs.Parts.{NumberThen}
use Rattle.dlk_lines.proofs.Numbers.{one_number_then}
use Rattle.dlk_lines.proofs.SomeParts.{same_bytes, number_then_decided}
use Rattle.dlk_lines.proofs.StepForms.{before_space}
use Rattle.dlk_tacsyn.specs.Tactics.{Tactic}
use Rattle.dlk_tacsyn.specs.Faults.{Fault}
use Rattle.dlk_tacsyn.specs.Strategies.{StrategyText, StrategyFault}
use Rattle.dlk_session.specs.Sessions.{Line, Apply, Undo, Show, Save}
use Rattle.dlk_jobs_session.specs.Parts.{GoalThen}
use Rattle.dlk_jobs_session.specs.Scripts.{ScriptLine, apply, undo, show, save, SayLines, none, more, FirstWrong, here, later}

-- ---- one line

-- what a text says, by its form
pub data Form (text : List ℕ) : Line → Type 0 where
  runs : {goal : ℕ} {strategy : Tactic} (rest : List ℕ) → GoalThen text goal rest → StrategyText rest strategy → Form text (Apply goal strategy)
  undoes : text ≡ codes "undo" → Form text Undo
  shows : text ≡ codes "show" → Form text Show
  saves : text ≡ codes "save" → Form text Save

goal_then : (n rest : List ℕ) (goal : ℕ) → IsNumber n goal → GoalThen (codes "apply " ++ n ++ codes " " ++ rest) goal rest
goal_then n rest goal is = record {
  behind = n ++ codes " " ++ rest;
  word_is =
      let all : codes "apply " ++ n ++ codes " " ++ rest ≡ codes "apply " ++ (n ++ 32 ∷ rest) =
      append_assoc (codes "apply " ++ n) (codes " ") rest ∙ append_assoc (codes "apply ") n (32 ∷ rest) in
      all ∙ ap (λ l. codes "apply " ++ l) (sym (append_assoc n (codes " ") rest));
  number = before_space n rest goal is;
}

pub form_of : (text : List ℕ) (line : Line) → ScriptLine text line → Form text line
form_of _ _ (apply {n} {goal} {strategy} rest is says) = runs rest (goal_then n rest goal is) says
form_of _ _ undo = undoes refl
form_of _ _ show = shows refl
form_of _ _ save = saves refl

-- and from its parts
pub goal_text : (text rest : List ℕ) (goal : ℕ) (h : GoalThen text goal rest) → text ≡ codes "apply " ++ h.number.digits ++ codes " " ++ rest
goal_text text rest goal h =
    let digits = h.number.digits in
    let all : codes "apply " ++ digits ++ codes " " ++ rest ≡ codes "apply " ++ (digits ++ 32 ∷ rest) =
    append_assoc (codes "apply " ++ digits) (codes " ") rest ∙ append_assoc (codes "apply ") digits (32 ∷ rest) in
    h.word_is ∙ ap (λ l. codes "apply " ++ l) h.number.text_is ∙ sym all

pub said_apply : (text rest : List ℕ) (goal : ℕ) (strategy : Tactic) → GoalThen text goal rest → StrategyText rest strategy →
    ScriptLine text (Apply goal strategy)
said_apply text rest goal strategy h says =
    subst (λ l. ScriptLine l (Apply goal strategy)) (sym (goal_text text rest goal h)) (apply rest h.number.is_number says)

-- the words are unlike
abbrev first_byte : List ℕ → ℕ
first_byte l = get_or l 0 0

abbrev second_byte : List ℕ → ℕ
second_byte l = get_or l 1 0

-- the goal and the strategy's text are those of the text
pub behind_word : (a b : List ℕ) → codes "apply " ++ a ≡ codes "apply " ++ b → a ≡ b
behind_word a b e = ap (drop 6) e

pub one_goal : (text rest behind : List ℕ) (m n : ℕ) → GoalThen text m rest → GoalThen text n behind → (m ≡ n) × (rest ≡ behind)
one_goal text rest behind m n g h =
    let same = behind_word g.behind h.behind (sym g.word_is ∙ h.word_is) in
    one_number_then h.behind 32 m n rest behind refl (subst (λ l. NumberThen l 32 m rest) same g.number) h.number

no_other : (text : List ℕ) (goal : ℕ) (rest : List ℕ) → GoalThen text goal rest → (text ≢ codes "undo") × ((text ≢ codes "show") × (text ≢ codes "save"))
no_other text goal rest h =
    (λ e. not_undo h.behind (sym h.word_is ∙ e), (λ e. not_show h.behind (sym h.word_is ∙ e), λ e. not_save h.behind (sym h.word_is ∙ e)))
  where
    not_undo : (l : List ℕ) → codes "apply " ++ l ≡ codes "undo" → ⊥
    not_undo l e = let h : 97 ≡ 117 = ap first_byte e in absurd (omega (arith, h))

    not_show : (l : List ℕ) → codes "apply " ++ l ≡ codes "show" → ⊥
    not_show l e = let h : 97 ≡ 115 = ap first_byte e in absurd (omega (arith, h))

    not_save : (l : List ℕ) → codes "apply " ++ l ≡ codes "save" → ⊥
    not_save l e = let h : 97 ≡ 115 = ap first_byte e in absurd (omega (arith, h))

abbrev pub OneText : Type 0
OneText = (bytes : List ℕ) (t u : Tactic) → StrategyText bytes t → StrategyText bytes u → t ≡ u

one_form : OneText → (text : List ℕ) (a b : Line) → Form text a → Form text b → a ≡ b
one_form one text _ _ (runs {goal} {strategy} rest h says) (runs {goal = other} {strategy = another} behind k also) =
    let same = one_goal text rest behind goal other h k in
    let t = one behind strategy another (subst (λ l. StrategyText l strategy) same.1 says) also in
    let n = same.0 in
    λ i. Apply (n i) (t i)
one_form one text _ _ (runs {goal} rest h says) (undoes e) = absurd ((no_other text goal rest h).0 e)
one_form one text _ _ (runs {goal} rest h says) (shows e) = absurd ((no_other text goal rest h).1.0 e)
one_form one text _ _ (runs {goal} rest h says) (saves e) = absurd ((no_other text goal rest h).1.1 e)
one_form one text _ _ (undoes e) (runs {goal} rest h says) = absurd ((no_other text goal rest h).0 e)
one_form one text _ _ (shows e) (runs {goal} rest h says) = absurd ((no_other text goal rest h).1.0 e)
one_form one text _ _ (saves e) (runs {goal} rest h says) = absurd ((no_other text goal rest h).1.1 e)
one_form one text _ _ (undoes e) (undoes f) = refl
one_form one text _ _ (undoes e) (shows f) = let h : 117 ≡ 115 = ap first_byte (sym e ∙ f) in absurd (omega (arith, h))
one_form one text _ _ (undoes e) (saves f) = let h : 117 ≡ 115 = ap first_byte (sym e ∙ f) in absurd (omega (arith, h))
one_form one text _ _ (shows e) (undoes f) = let h : 115 ≡ 117 = ap first_byte (sym e ∙ f) in absurd (omega (arith, h))
one_form one text _ _ (shows e) (shows f) = refl
one_form one text _ _ (shows e) (saves f) = let h : 104 ≡ 97 = ap second_byte (sym e ∙ f) in absurd (omega (arith, h))
one_form one text _ _ (saves e) (undoes f) = let h : 115 ≡ 117 = ap first_byte (sym e ∙ f) in absurd (omega (arith, h))
one_form one text _ _ (saves e) (shows f) = let h : 97 ≡ 104 = ap second_byte (sym e ∙ f) in absurd (omega (arith, h))
one_form one text _ _ (saves e) (saves f) = refl

pub one_line : OneText → (text : List ℕ) (a b : Line) → ScriptLine text a → ScriptLine text b → a ≡ b
one_line one text a b p q = one_form one text a b (form_of text a p) (form_of text b q)

-- ---- some line, or none

abbrev pub SomeText : Type 0
SomeText = (bytes : List ℕ) → ((t : Tactic) × StrategyText bytes t) ⊎ ((f : Fault) × StrategyFault bytes f)

abbrev pub TextOrFault : Type 0
TextOrFault = (bytes : List ℕ) (t : Tactic) (f : Fault) → StrategyText bytes t → StrategyFault bytes f → ⊥

-- whether the text begins with the word
prefix_decided : (word text : List ℕ) → Dec ((behind : List ℕ) × (text ≡ word ++ behind))
prefix_decided [] text = yes (text, refl)
prefix_decided (b ∷ word) [] = no (λ h. let e = h.1 in cc)
prefix_decided (b ∷ word) (c ∷ text) = elim (same_bytes (b ∷ []) (c ∷ [])) [
  | no n ↦ no (λ h. n (let e : c ∷ text ≡ b ∷ (word ++ h.0) = h.1 in cc))
  | yes same ↦ elim (prefix_decided word text) [
    | yes h ↦ yes (h.0, let first : b ≡ c = cc in let e = h.1 in cc)
    | no n ↦ no (λ h. n (h.0, let e : c ∷ text ≡ b ∷ (word ++ h.0) = h.1 in cc))
  ]
]

goal_decided : (text : List ℕ) → Dec ((goal : ℕ) × (rest : List ℕ) × GoalThen text goal rest)
goal_decided text = elim (prefix_decided (codes "apply ") text) [
  | no n ↦ no (λ h. n (h.2.behind, h.2.word_is))
  | yes word ↦ elim (number_then_decided word.0 32 refl) [
    | yes h ↦ yes (h.0, h.1, record { behind = word.0; word_is = word.1; number = h.2 })
    | no n ↦ no (λ h. n (h.0, h.1, subst (λ l. NumberThen l 32 h.0 h.1) (behind_word h.2.behind word.0 (sym h.2.word_is ∙ word.1)) h.2.number))
  ]
]

no_form : (text : List ℕ) → (text ≢ codes "undo") → (text ≢ codes "show") → (text ≢ codes "save") →
    ((goal : ℕ) (strategy : Tactic) → ¬ ScriptLine text (Apply goal strategy)) →
    (line : Line) → ¬ ScriptLine text line
no_form text undo' show' save' apply' (Apply goal strategy) is = apply' goal strategy is
no_form text undo' show' save' apply' Undo is = go (form_of text Undo is)
  where
    go : Form text Undo → ⊥
    go (undoes e) = undo' e
no_form text undo' show' save' apply' Show is = go (form_of text Show is)
  where
    go : Form text Show → ⊥
    go (shows e) = show' e
no_form text undo' show' save' apply' Save is = go (form_of text Save is)
  where
    go : Form text Save → ⊥
    go (saves e) = save' e

pub no_line : (text : List ℕ) → (text ≢ codes "undo") → (text ≢ codes "show") → (text ≢ codes "save") →
    ((goal : ℕ) (strategy : Tactic) → ¬ ScriptLine text (Apply goal strategy)) → (line : Line) → ¬ ScriptLine text line
no_line = no_form

-- no goal, or no strategy behind it
applied : (text : List ℕ) (goal : ℕ) (strategy : Tactic) → Form text (Apply goal strategy) →
    (rest : List ℕ) × GoalThen text goal rest × StrategyText rest strategy
applied text goal strategy (runs rest h says) = (rest, h, says)

pub no_goal : (text : List ℕ) → ((goal : ℕ) (rest : List ℕ) → ¬ GoalThen text goal rest) → (goal : ℕ) (strategy : Tactic) →
    ¬ ScriptLine text (Apply goal strategy)
no_goal text out goal strategy is = let h = applied text goal strategy (form_of text (Apply goal strategy) is) in out goal h.0 h.1

pub no_strategy : TextOrFault → (text rest : List ℕ) (goal : ℕ) (f : Fault) → GoalThen text goal rest → StrategyFault rest f →
    (other : ℕ) (strategy : Tactic) → ¬ ScriptLine text (Apply other strategy)
no_strategy not_both text rest goal f h fault other strategy is =
    let k = applied text other strategy (form_of text (Apply other strategy) is) in
    let same = one_goal text k.0 rest other goal k.1 h in
    not_both rest strategy f (subst (λ l. StrategyText l strategy) same.1 k.2) fault

module _ (some_text : SomeText) (not_both : TextOrFault) where
  apply_decided : (text : List ℕ) → ((line : Line) × ScriptLine text line) ⊎ ((goal : ℕ) (strategy : Tactic) → ¬ ScriptLine text (Apply goal strategy))
  apply_decided text = elim (goal_decided text) [
    | no n ↦ inr (no_goal text (λ goal rest h. n (goal, rest, h)))
    | yes h ↦ elim (some_text h.1) [
      | inl says ↦ inl (Apply h.0 says.0, said_apply text h.1 h.0 says.0 h.2 says.1)
      | inr fault ↦ inr (no_strategy not_both text h.1 h.0 fault.0 h.2 fault.1)
    ]
  ]

  pub some_line : (text : List ℕ) → ((line : Line) × ScriptLine text line) ⊎ ((line : Line) → ¬ ScriptLine text line)
  some_line text = elim (same_bytes text (codes "undo")) [
    | yes e ↦ inl (Undo, subst (λ l. ScriptLine l Undo) (sym e) undo)
    | no n ↦ elim (same_bytes text (codes "show")) [
      | yes e ↦ inl (Show, subst (λ l. ScriptLine l Show) (sym e) show)
      | no m ↦ elim (same_bytes text (codes "save")) [
        | yes e ↦ inl (Save, subst (λ l. ScriptLine l Save) (sym e) save)
        | no k ↦ elim (apply_decided text) [
          | inl said ↦ inl said
          | inr out ↦ inr (no_form text n m k out)
        ]
      ]
    ]
  ]

  pub some_lines : (texts : List (List ℕ)) → ((lines : List Line) × SayLines texts lines) ⊎ ((n : ℕ) × FirstWrong texts n)
  some_lines [] = inl ([], none)
  some_lines (text ∷ texts) = elim (some_line text) [
    | inr n ↦ inr (1, here n)
    | inl said ↦ elim (some_lines texts) [
      | inl rest ↦ inl (said.0 ∷ rest.0, more said.1 rest.1)
      | inr wrong ↦ inr (wrong.0 + 1, later said.1 wrong.1)
    ]
  ]

-- ---- one script

pub one_lines : OneText → (texts : List (List ℕ)) (a b : List Line) → SayLines texts a → SayLines texts b → a ≡ b
one_lines one _ _ _ none none = refl
one_lines one _ _ _ (more {text} {texts} {line} {lines} p ps) (more {line = other} {lines = others} q qs) =
    let first = one_line one text line other p q in
    let rest = one_lines one texts lines others ps qs in
    λ i. first i ∷ rest i

pub one_wrong : (texts : List (List ℕ)) (m n : ℕ) → FirstWrong texts m → FirstWrong texts n → m ≡ n
one_wrong _ _ _ (here p) (here q) = refl
one_wrong _ _ _ (here p) (later {line} q qs) = absurd (p line q)
one_wrong _ _ _ (later {line} p ps) (here q) = absurd (q line p)
one_wrong _ _ _ (later {texts} {n} p ps) (later {n = m} q qs) = ap (λ k. k + 1) (one_wrong texts n m ps qs)

pub not_wrong : (texts : List (List ℕ)) (lines : List Line) (n : ℕ) → SayLines texts lines → FirstWrong texts n → ⊥
not_wrong _ _ n none wrong = elim wrong [ ]
not_wrong _ _ _ (more {line} p ps) (here q) = q line p
not_wrong _ _ _ (more {texts} {lines} p ps) (later {n} q qs) = not_wrong texts lines n ps qs
