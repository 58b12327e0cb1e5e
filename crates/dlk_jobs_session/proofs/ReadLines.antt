-- From what reading a line answers to what a script says.
use Rattle.std.proofs.Common.{◌≡◌, ◌≢◌, ℕ, ◌+◌, List, [], ◌∷◌, ◌++◌, true, false, sym, ap, subst, ◌∙◌, arith, append_assoc}
use Rattle.std.specs.Prelude.{codes}
use Rattle.std.specs.Str.{bytes_eq}
use Rattle.std.proofs.lemmas.Bool.{both_ways}
use Rattle.std.proofs.lemmas.List.{append-nil}
use Rattle.std.proofs.lemmas.Slice.Eq.{bytes_eq-Decides}
use Rattle.dlk_tacsyn.specs.Tactics.{Tactic}
use Rattle.dlk_tacsyn.specs.Faults as why
use Rattle.dlk_tacsyn.specs.Faults.{IsTacSyntaxOf}
use Rattle.dlk_tacsyn.specs.Strategies.{StrategyFault}
use Rattle.dlk_tacsyn.specs.declared.fault.TacSyntax.{TacSyntax}
use Rattle.dlk_tacsyn.specs.declared.fault.TacSyntax.TheVariants as syntax
use Rattle.dlk_lines.specs.Read.{IsLineFaultOf}
use Rattle.dlk_session.specs.Sessions.{Line, Apply, Undo, Show, Save}
use Rattle.dlk_jobs_session.specs.Parts.{GoalThen}
use Rattle.dlk_jobs_session.specs.Scripts.{ScriptLine, undo, show, save, SayLines, none, more, FirstWrong, here, later}
use Rattle.dlk_jobs_session.specs.Ties.{of_syntax}
use Rattle.dlk_jobs_session.proofs.ScriptLaws.{TextOrFault, no_strategy}

-- a word alone
pub is_word : (text word : List ℕ) → bytes_eq text word ≡ true → text ≡ word
is_word text word same = (bytes_eq-Decides text word).0 same

pub is_other : (text word : List ℕ) → bytes_eq text word ≡ false → text ≢ word
is_other text word other e = both_ways (bytes_eq text word) other ((bytes_eq-Decides text word).1 e)

pub said_undo : (text : List ℕ) → bytes_eq text (codes "undo") ≡ true → ScriptLine text Undo
said_undo text same = subst (λ l. ScriptLine l Undo) (sym (is_word text (codes "undo") same)) undo

pub said_show : (text : List ℕ) → bytes_eq text (codes "show") ≡ true → ScriptLine text Show
said_show text same = subst (λ l. ScriptLine l Show) (sym (is_word text (codes "show") same)) show

pub said_save : (text : List ℕ) → bytes_eq text (codes "save") ≡ true → ScriptLine text Save
said_save text same = subst (λ l. ScriptLine l Save) (sym (is_word text (codes "save") same)) save

-- a text that isn't read as a strategy
pub no_apply : TextOrFault → (text rest : List ℕ) (goal : ℕ) → GoalThen text goal rest → (e : TacSyntax) → IsTacSyntaxOf (StrategyFault rest) e →
    IsLineFaultOf ((other : ℕ) (t : Tactic) → ¬ ScriptLine text (Apply other t)) (of_syntax e)
no_apply not_both text rest goal g (syntax.Syntax at) h = no_strategy not_both text rest goal (why.Syntax at) g h
no_apply not_both text rest goal g (syntax.Nesting at) h = no_strategy not_both text rest goal (why.Nesting at) g h
no_apply not_both text rest goal g (syntax.Repeat at) h = no_strategy not_both text rest goal (why.Repeat at) g h
no_apply not_both text rest goal g (syntax.UnknownAtom at) h = no_strategy not_both text rest goal (why.UnknownAtom at) g h
no_apply not_both text rest goal g (syntax.Arguments at) h = no_strategy not_both text rest goal (why.Arguments at) g h
no_apply not_both text rest goal g syntax.Memory h = tt

-- ---- the lines so far

-- what is said of the rest, with the lines so far, is said of all
pub record Begun (all left : List (List ℕ)) (lines : List Line) (count : ℕ) : Type 0 where
  pub said : (rest : List Line) → SayLines left rest → SayLines all (lines ++ rest)
  pub wrong : (n : ℕ) → FirstWrong left n → FirstWrong all (count + n)

pub none_begun : (all : List (List ℕ)) → Begun all all [] 0
none_begun all = record {
  said = λ rest h. h;
  wrong = λ n h. let e : n ≡ 0 + n = omega arith in subst (FirstWrong all) e h;
}

pub more_begun : (all left behind : List (List ℕ)) (text : List ℕ) (lines more_lines : List Line) (line : Line) (count : ℕ) → left ≡ text ∷ behind →
    more_lines ≡ lines ++ line ∷ [] → ScriptLine text line → Begun all left lines count → Begun all behind more_lines (count + 1)
more_begun all left behind text lines more_lines line count is are says b = record {
  said = λ rest h.
      let first = b.said (line ∷ rest) (subst (λ (ls : List (List ℕ)). SayLines ls (line ∷ rest)) (sym is) (more says h)) in
      subst (λ ls. SayLines all ls) (sym (append_assoc lines (line ∷ []) rest) ∙ ap (λ ls. ls ++ rest) (sym are)) first;
  wrong = λ n h.
      let first = b.wrong (n + 1) (subst (λ (ls : List (List ℕ)). FirstWrong ls (n + 1)) (sym is) (later says h)) in
      let e : count + (n + 1) ≡ count + 1 + n = omega arith in
      subst (FirstWrong all) e first;
}

-- with the lines so far over ids of a store that has grown
pub begun_as : (all left : List (List ℕ)) (lines others : List Line) (count : ℕ) → others ≡ lines → Begun all left lines count → Begun all left others count
begun_as all left lines others count e b = subst (λ (ls : List Line). Begun all left ls count) (sym e) b

pub first_wrong : (all left behind : List (List ℕ)) (text : List ℕ) (lines : List Line) (count : ℕ) → left ≡ text ∷ behind →
    ((line : Line) → ¬ ScriptLine text line) →
    Begun all left lines count → FirstWrong all (count + 1)
first_wrong all left behind text lines count is out b = b.wrong 1 (subst (λ (ls : List (List ℕ)). FirstWrong ls 1) (sym is) (here out))

pub all_said : (all left : List (List ℕ)) (lines : List Line) (count : ℕ) → left ≡ [] → Begun all left lines count → SayLines all lines
all_said all left lines count is b =
    let whole = b.said [] (subst (λ (ls : List (List ℕ)). SayLines ls []) (sym is) none) in
    subst (λ ls. SayLines all ls) (append-nil lines) whole
