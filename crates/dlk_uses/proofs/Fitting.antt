-- Steps of which none is refused for unlike formulas.
use Rattle.std.proofs.Common.{◌≡◌, ℕ, suc, ◌+◌, List, [], ◌∷◌, ◌++◌, length, refl, sym, ap, subst, ◌∙◌, arith, length-append, Some}
use Rattle.dlk_calculus.specs.declared.reason.Reason.TheVariants.{NotEqual}
use Rattle.dlk_calculus.specs.Axioms.{Axiom, AxiomaticRule, axiom_named, rule_named}
use Rattle.dlk_calculus.specs.Pairs.{Pair, IsWellFormed}
use Rattle.dlk_calculus.specs.Places.{At}
use Rattle.dlk_calculus.specs.Sequents.{Sequent}
use Rattle.dlk_calculus.specs.Provables.{Provable, started, known, assumed, inferred, applied, merged, Substitutes}
use Rattle.dlk_calculus.specs.Rules.{Rule, RuleAgainst, Premises}
use Rattle.dlk_calculus.specs.Steps.{Step, Start, UseAxiom, UseRule, Leaf, Apply, Merge, Substitute, IsGoal, Gives}
use Rattle.dlk_calculus.specs.Steps.{start as by_start, use_axiom as by_axiom, use_rule as by_rule, leaf as by_leaf, apply as by_apply}
use Rattle.dlk_calculus.specs.Steps.{merge as by_merge, substitute as by_substitution}
use Rattle.dlk_uses.specs.Taking.{FirstFault}
use Rattle.dlk_calculus.proofs.PlaceLaws.{at_one, At-more, At-between}
use Rattle.dlk_uses.proofs.Places.{put_first, put_second, put_later}
use Rattle.dlk_uses.proofs.Taking.{at_once, later, fault_from, no_fault}
use Rattle.dlk_uses.proofs.Unequal.{Unlike, unlike_fault}

-- none of the steps is refused for unlike formulas
abbrev pub Fit : List Provable → List Step → Type 0
Fit rows steps = ¬ FirstFault rows steps NotEqual

-- a row behind n others, which keep their numbers
pub record Added (rows : List Provable) (n : ℕ) (row : Provable) (after : List Provable) : Type 0 where
  pub counted : n + 1 ≡ length after
  pub last : At after (n + 1) row
  pub keeps : (k : ℕ) (p : Provable) → At rows k p → At after k p

pub added : (rows : List Provable) (n : ℕ) (row : Provable) → n ≡ length rows → Added rows n row (rows ++ row ∷ [])
added rows n row e = record {
  counted = omega (arith, e, length-append rows (row ∷ []));
  last = subst (λ k. At (rows ++ row ∷ []) (k + 1) row) (sym e) (At-between rows row []);
  keeps = λ k p h. At-more rows (row ∷ []) k p h;
}

pub goal_kept : (rows after : List Provable) (n m goal : ℕ) (row : Provable) (s : Sequent) → Added rows n row after → IsGoal rows m goal s →
    IsGoal after m goal s
goal_kept rows after n m goal row s is g = (g.0, is.keeps m g.0 g.1, g.2)

-- a goal that stands so many places behind another, and one more
abbrev pub IsBehind : List Provable → ℕ → ℕ → ℕ → Sequent → Type 0
IsBehind rows m goal k z = IsGoal rows m (goal + suc k) z

pub no_steps : (rows : List Provable) → Fit rows []
no_steps rows = no_fault rows NotEqual

pub step_fits : (rows : List Provable) (n : ℕ) (step : Step) (steps : List Step) → n ≡ length rows → ¬ Unlike rows step →
    ((row : Provable) (after : List Provable) → Gives rows step row → Added rows n row after → Fit after steps) → Fit rows (step ∷ steps)
step_fits rows n step steps e like others fault =
    elim (fault_from rows step steps NotEqual fault) [
      | at_once here ↦ like (unlike_fault rows step here)
      | later row is behind ↦ others row (rows ++ row ∷ []) is.given (added rows n row e) behind
    ]

gives_rule : (rows : List Provable) (name : List ℕ) (r : AxiomaticRule) (p : Provable) → rule_named name ≡ Some r → Gives rows (UseRule name) p →
    p ≡ inferred r.premise r.conclusion
gives_rule rows name r _ e (by_rule _ other is) = let same : other ≡ r = cc in ap (λ (x : AxiomaticRule). inferred x.premise x.conclusion) same

pub rule_fits : (rows : List Provable) (n : ℕ) (name : List ℕ) (r : AxiomaticRule) (steps : List Step) → n ≡ length rows → rule_named name ≡ Some r →
    ((after : List Provable) → Added rows n (inferred r.premise r.conclusion) after → Fit after steps) → Fit rows (UseRule name ∷ steps)
rule_fits rows n name r steps e is others =
    step_fits rows n (UseRule name) steps e (λ u. u)
    (λ row after gives added. others after (subst (λ x. Added rows n x after) (gives_rule rows name r row is gives) added))

pub gives_axiom : (rows : List Provable) (name : List ℕ) (a : Axiom) (p : Provable) → axiom_named name ≡ Some a → Gives rows (UseAxiom name) p →
    p ≡ known a.formula
gives_axiom rows name a _ e (by_axiom _ other is) = let same : other ≡ a = cc in ap (λ (x : Axiom). known x.formula) same

pub axiom_fits : (rows : List Provable) (n : ℕ) (name : List ℕ) (a : Axiom) (steps : List Step) → n ≡ length rows → axiom_named name ≡ Some a →
    ((after : List Provable) → Added rows n (known a.formula) after → Fit after steps) → Fit rows (UseAxiom name ∷ steps)
axiom_fits rows n name a steps e is others =
    step_fits rows n (UseAxiom name) steps e (λ u. u)
    (λ row after gives added. others after (subst (λ x. Added rows n x after) (gives_axiom rows name a row is gives) added))

gives_start : (rows : List Provable) (s : Sequent) (p : Provable) → Gives rows (Start s) p → p ≡ started s
gives_start rows s _ (by_start _ is) = refl

pub start_fits : (rows : List Provable) (n : ℕ) (s : Sequent) (steps : List Step) → n ≡ length rows →
    ((after : List Provable) → Added rows n (started s) after → Fit after steps) → Fit rows (Start s ∷ steps)
start_fits rows n s steps e others =
    step_fits rows n (Start s) steps e (λ u. u) (λ row after gives added. others after (subst (λ x. Added rows n x after) (gives_start rows s row gives) added))

gives_leaf : (rows : List Provable) (s : Sequent) (p : Provable) → Gives rows (Leaf s) p → p ≡ assumed s
gives_leaf rows s _ (by_leaf _ is arithmetic) = refl

pub leaf_fits : (rows : List Provable) (n : ℕ) (s : Sequent) (steps : List Step) → n ≡ length rows →
    ((after : List Provable) → Added rows n (assumed s) after → Fit after steps) → Fit rows (Leaf s ∷ steps)
leaf_fits rows n s steps e others =
    step_fits rows n (Leaf s) steps e (λ u. u) (λ row after gives added. others after (subst (λ x. Added rows n x after) (gives_leaf rows s row gives) added))

-- what a substitution gives of a row
pub record OfRow (pairs : List Pair) (p q : Provable) : Type 0 where
  pub formed : IsWellFormed pairs
  pub makes : Substitutes pairs p q

pub gives_substituted : (rows : List Provable) (m : ℕ) (pairs : List Pair) (p q : Provable) → At rows m p → Gives rows (Substitute m pairs) q → OfRow pairs p q
gives_substituted rows m pairs p _ row (by_substitution _ _ other q there made formed bound makes) =
    let same : other ≡ p = at_one rows m other p there row in record { formed = formed; makes = subst (λ x. Substitutes pairs x q) same makes }

pub substitute_fits : (rows : List Provable) (n m : ℕ) (pairs : List Pair) (p : Provable) (steps : List Step) → n ≡ length rows → At rows m p →
    ((q : Provable) (after : List Provable) → IsWellFormed pairs → Substitutes pairs p q → Added rows n q after → Fit after steps) →
    Fit rows (Substitute m pairs ∷ steps)
substitute_fits rows n m pairs p steps e row others =
    step_fits rows n (Substitute m pairs) steps e (λ u. u)
    (λ q after gives added. let of = gives_substituted rows m pairs p q row gives in others q after of.formed of.makes added)

same_goal : (rows : List Provable) (m goal : ℕ) (s t : Sequent) → IsGoal rows m goal s → IsGoal rows m goal t → s ≡ t
same_goal rows m goal s t g h =
    let same : g.0 ≡ h.0 = at_one rows m g.0 h.0 g.1 h.1 in at_one h.0.goals goal s t (subst (λ (p : Provable). At p.goals goal s) same g.2) h.2

-- what a rule gives on a goal of a row
record OnGoal (p : Provable) (goal : ℕ) (rule : Rule) (s : Sequent) (q : Provable) : Type 0 where
  premises : List Sequent
  makes : Premises rule s premises
  is : q ≡ applied p goal premises

gives_applied : (rows : List Provable) (m goal : ℕ) (rule : Rule) (p q : Provable) (s : Sequent) → At rows m p → At p.goals goal s →
    Gives rows (Apply m goal rule) q → OnGoal p goal rule s q
gives_applied rows m goal rule p _ s row here (by_apply _ _ _ other t premises there its proper makes) =
    let same : other ≡ p = at_one rows m other p there row in
    let like : t ≡ s = at_one p.goals goal t s (subst (λ (x : Provable). At x.goals goal t) same its) here in
    record {
      premises = premises;
      makes = subst (λ x. Premises rule x premises) like makes;
      is = ap (λ (x : Provable). applied x goal premises) same;
    }

pub apply_fits : (rows : List Provable) (n m goal : ℕ) (rule : Rule) (p : Provable) (s : Sequent) (steps : List Step) → n ≡ length rows →
    At rows m p → At p.goals goal s → ¬ RuleAgainst NotEqual rule s →
    ((premises : List Sequent) (after : List Provable) → Premises rule s premises → Added rows n (applied p goal premises) after → Fit after steps) →
    Fit rows (Apply m goal rule ∷ steps)
apply_fits rows n m goal rule p s steps e row here like others =
    step_fits rows n (Apply m goal rule) steps e
    (λ u. like (subst (RuleAgainst NotEqual rule) (same_goal rows m goal u.0 s u.1 (p, row, here)) u.2))
    (λ q after gives added.
    let on = gives_applied rows m goal rule p q s row here gives in others on.premises after on.makes (subst (λ x. Added rows n x after) on.is added))

gives_merged : (rows : List Provable) (m goal by : ℕ) (p q r : Provable) → At rows m p → At rows by q → Gives rows (Merge m goal by) r →
    (new : List Sequent) × (r ≡ merged p goal q new)
gives_merged rows m goal by p q _ row other (by_merge _ _ _ p' q' new row' other' its are) =
    let same : p' ≡ p = at_one rows m p' p row' row in
    let like : q' ≡ q = at_one rows by q' q other' other in
    (new, ap (λ (x : Provable). merged x goal q' new) same ∙ ap (λ (x : Provable). merged p goal x new) like)

pub merge_fits : (rows : List Provable) (n m goal by : ℕ) (p q : Provable) (s : Sequent) (steps : List Step) → n ≡ length rows →
    At rows m p → At p.goals goal s → At rows by q → s ≡ q.conclusion →
    ((new : List Sequent) (after : List Provable) → Added rows n (merged p goal q new) after → Fit after steps) →
    Fit rows (Merge m goal by ∷ steps)
merge_fits rows n m goal by p q s steps e row here other equal others =
    step_fits rows n (Merge m goal by) steps e
    (λ u. u.4 (same_goal rows m goal u.0 s u.2 (p, row, here) ∙ equal ∙ ap (λ (x : Provable). x.conclusion) (at_one rows by q u.1 other u.3)))
    (λ r after gives added.
    let made = gives_merged rows m goal by p q r row other gives in others made.0 after (subst (λ x. Added rows n x after) made.1 added))

-- rules with one premise and with two
pub premise_fits : (rows : List Provable) (n m goal : ℕ) (rule : Rule) (s a : Sequent) (steps : List Step) → n ≡ length rows → IsGoal rows m goal s →
    ¬ RuleAgainst NotEqual rule s → ((premises : List Sequent) → Premises rule s premises → premises ≡ a ∷ []) →
    ((row : Provable) (after : List Provable) → Added rows n row after → IsGoal after (n + 1) goal a → Fit after steps) →
    Fit rows (Apply m goal rule ∷ steps)
premise_fits rows n m goal rule s a steps e g like are others =
    apply_fits rows n m goal rule g.0 s steps e g.1 g.2 like
    (λ premises after makes added.
    let now = subst (λ x. Added rows n (applied g.0 goal x) after) (are premises makes) added in
    others (applied g.0 goal (a ∷ [])) after now (applied g.0 goal (a ∷ []), now.last, put_first g.0.goals goal s a [] g.2))

pub premises_fit : (rows : List Provable) (n m goal : ℕ) (rule : Rule) (s a b : Sequent) (steps : List Step) → n ≡ length rows → IsGoal rows m goal s →
    ¬ RuleAgainst NotEqual rule s → ((premises : List Sequent) → Premises rule s premises → premises ≡ a ∷ b ∷ []) →
    ((row : Provable) (after : List Provable) → Added rows n row after → IsGoal after (n + 1) goal a → IsGoal after (n + 1) (goal + 1) b → Fit after steps) →
    Fit rows (Apply m goal rule ∷ steps)
premises_fit rows n m goal rule s a b steps e g like are others =
    apply_fits rows n m goal rule g.0 s steps e g.1 g.2 like
    (λ premises after makes added.
    let now = subst (λ x. Added rows n (applied g.0 goal x) after) (are premises makes) added in
    let row = applied g.0 goal (a ∷ b ∷ []) in
    others row after now (row, now.last, put_first g.0.goals goal s a (b ∷ []) g.2) (row, now.last, put_second g.0.goals goal s a b [] g.2))

-- two premises, with what stands behind the goal
pub premises_fit_before : (rows : List Provable) (n m goal k : ℕ) (rule : Rule) (s a b z : Sequent) (steps : List Step) → n ≡ length rows →
    IsGoal rows m goal s → IsBehind rows m goal k z → ¬ RuleAgainst NotEqual rule s →
    ((premises : List Sequent) → Premises rule s premises → premises ≡ a ∷ b ∷ []) →
    ((row : Provable) (after : List Provable) → Added rows n row after → IsGoal after (n + 1) goal a → IsGoal after (n + 1) (goal + 1) b →
    IsBehind after (n + 1) goal (suc k) z → Fit after steps) →
    Fit rows (Apply m goal rule ∷ steps)
premises_fit_before rows n m goal k rule s a b z steps e g behind like are others =
    apply_fits rows n m goal rule g.0 s steps e g.1 g.2 like
    (λ premises after makes added.
    let now = subst (λ x. Added rows n (applied g.0 goal x) after) (are premises makes) added in
    let row = applied g.0 goal (a ∷ b ∷ []) in
    let same : behind.0 ≡ g.0 = at_one rows m behind.0 g.0 behind.1 g.1 in
    let later : At g.0.goals (goal + suc k) z = subst (λ (p : Provable). At p.goals (goal + suc k) z) same behind.2 in
    others row after now (row, now.last, put_first g.0.goals goal s a (b ∷ []) g.2) (row, now.last, put_second g.0.goals goal s a b [] g.2)
    (row, now.last, put_later g.0.goals goal s (a ∷ b ∷ []) k (goal + suc (suc k)) z g.2 later (omega arith)))

-- no premises: what stands behind the goal comes one place nearer
pub closing_fits : (rows : List Provable) (n m goal : ℕ) (rule : Rule) (s : Sequent) (steps : List Step) → n ≡ length rows →
    IsGoal rows m goal s → ¬ RuleAgainst NotEqual rule s → ((premises : List Sequent) → Premises rule s premises → premises ≡ []) →
    ((after : List Provable) (row : Provable) → Added rows n row after →
    ((k : ℕ) (z : Sequent) → IsBehind rows m goal k z → IsGoal after (n + 1) (goal + k) z) → Fit after steps) →
    Fit rows (Apply m goal rule ∷ steps)
closing_fits rows n m goal rule s steps e g like are others =
    apply_fits rows n m goal rule g.0 s steps e g.1 g.2 like
    (λ premises after makes added.
    let now = subst (λ x. Added rows n (applied g.0 goal x) after) (are premises makes) added in
    others after (applied g.0 goal []) now
    (λ k z behind.
    let same : behind.0 ≡ g.0 = at_one rows m behind.0 g.0 behind.1 g.1 in
    let later : At g.0.goals (goal + suc k) z = subst (λ (p : Provable). At p.goals (goal + suc k) z) same behind.2 in
    (applied g.0 goal [], now.last, put_later g.0.goals goal s [] k (goal + k) z g.2 later (omega arith))))
