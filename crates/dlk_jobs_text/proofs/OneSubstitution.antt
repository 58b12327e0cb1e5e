-- There is one answer to an expression and a substitution.
use Rattle.std.proofs.Common.{◌≡◌, ℕ, ◌<◌, ◌≤◌, List, refl, sym, ap, ◌∙◌, subst, codes, arith}
use Rattle.dlk_tree.specs.Trees.{Tree, size, depth}
use Rattle.dlk_calculus.specs.Pairs.{Pair, FirstIll, IsWellFormed}
use Rattle.dlk_calculus.specs.Subst.{Subst}
use Rattle.dlk_calculus.specs.declared.why.Why.{Why}
use Rattle.dlk_calculus.specs.OneResult.{one_subst}
use Rattle.dlk_calculus.proofs.WellFormed.{one_first_ill}
use Rattle.dlk_grammar.specs.declared.token.Dots.TheVariants.{Refused}
use Rattle.dlk_grammar.specs.declared.token.Form.TheVariants.{Expression}
use Rattle.dlk_calculus.specs.Limits.{most_nodes, greatest_depth}
use Rattle.dlk_grammar.specs.Texts.{TreeTextFault, PairsText, PairsTextFault}
use Rattle.dlk_machine.proofs.TextLaws.{one_tree_text, tree_or_fault, one_tree_fault, one_pairs_text, pairs_or_fault, one_pairs_fault}
use Rattle.dlk_replies.specs.declared.form.Role.TheVariants.{File, Substitution}
use Rattle.dlk_replies.specs.Replies.{Reply, refusal}
use Rattle.dlk_replies.specs.Refusals.{text_refused}
use Rattle.dlk_jobs_text.specs.Prints.{printed}
use Rattle.dlk_jobs_text.specs.Substitutes.{Substitutes, bad_file, bad_subst, bad_pair, not_admissible, too_big, too_deep, prints, pair_refused, PlainText}

-- Either this stops with a reason, of which the answer comes, or it goes on with a value.
data Fork {W V : Type 0} (Stops : W → Type 0) (Is : V → Type 0) (answer : W → Reply) (Next : V → Reply → Type 0) : Reply → Type 0 where
  stops : (why : W) → Stops why → Fork Stops Is answer Next (answer why)
  goes : (v : V) → Is v → (reply : Reply) → Next v reply → Fork Stops Is answer Next reply

-- where there is one reason or one value, and one answer behind it, there is one answer
record IsOne {W V : Type 0} (Stops : W → Type 0) (Is : V → Type 0) (Next : V → Reply → Type 0) : Type 0 where
  reason : (why other : W) → Stops why → Stops other → why ≡ other
  either : (why : W) (v : V) → Stops why → Is v → ⊥
  value : (v u : V) → Is v → Is u → v ≡ u
  next : (v : V) (r s : Reply) → Next v r → Next v s → r ≡ s

one_fork : {W V : Type 0} (Stops : W → Type 0) (Is : V → Type 0) (answer : W → Reply) (Next : V → Reply → Type 0) → IsOne Stops Is Next →
    (r s : Reply) → Fork Stops Is answer Next r → Fork Stops Is answer Next s → r ≡ s
one_fork Stops Is answer Next one r s (stops why a) (stops other b) = ap answer (one.reason why other a b)
one_fork Stops Is answer Next one r s (stops why a) (goes u b s' next) = absurd (one.either why u a b)
one_fork Stops Is answer Next one r s (goes v a r' next) (stops other b) = absurd (one.either other v b a)
one_fork Stops Is answer Next one r s (goes v a r' n) (goes u b s' m) = one.next u r s (subst (λ x. Next x r) (one.value v u a b) n) m

-- A result is too big, or too deep, or printed.
abbrev Deep : Tree → Reply → Type 0
Deep t = Fork {W = Unit {0}} {V = Unit {0}} (λ u. greatest_depth < depth t) (λ u. depth t ≤ greatest_depth) (λ u. refusal (codes "result-too-deep"))
    (λ u reply. reply ≡ printed t)

abbrev Sized : Tree → Reply → Type 0
Sized t = Fork {W = Unit {0}} {V = Unit {0}} (λ u. most_nodes < size t) (λ u. size t ≤ most_nodes) (λ u. refusal (codes "result-too-big")) (λ u. Deep t)

-- There is no result, or one.
abbrev Made : Tree → List Pair → Reply → Type 0
Made e pairs = Fork {W = Unit {0}} (λ u. (t : Tree) → ¬ Subst pairs e t) (Subst pairs e) (λ u. refusal (codes "not-admissible")) Sized

-- A pair is bad, or all are good.
abbrev Formed : Tree → List Pair → Reply → Type 0
Formed e pairs =
    Fork {W = ℕ × Why} {V = Unit {0}} (λ ill. FirstIll pairs ill.0 ill.1) (λ u. IsWellFormed pairs) (λ ill. pair_refused ill.0 ill.1) (λ u. Made e pairs)

-- The two files have a fault, or are read.
abbrev Paired : List ℕ → Tree → Reply → Type 0
Paired substitution e = Fork (PairsTextFault substitution) (PairsText substitution) (text_refused Substitution) (Formed e)

abbrev Staged : List ℕ → List ℕ → Reply → Type 0
Staged file substitution = Fork (TreeTextFault Expression Refused file) (PlainText file) (text_refused File) (Paired substitution)

staged : (file substitution : List ℕ) (r : Reply) → Substitutes file substitution r → Staged file substitution r
staged file substitution r (bad_file why a) = stops why a
staged file substitution r (bad_subst e a why b) = goes e a r (stops why b)
staged file substitution r (bad_pair e pairs read n why a) = goes e read.expression r (goes pairs read.substitution r (stops (n, why) a))
staged file substitution r (not_admissible e pairs read good none) = goes e read.expression r (goes pairs read.substitution r (goes tt good r (stops tt none)))
staged file substitution r (too_big e pairs read t has past) =
    goes e read.expression r (goes pairs read.substitution r (goes tt has.well_formed r (goes t has.result r (stops tt past))))
staged file substitution r (too_deep e pairs read t has small past) =
    goes e read.expression r (goes pairs read.substitution r (goes tt has.well_formed r (goes t has.result r (goes tt small r (stops tt past)))))
staged file substitution r (prints e pairs read t has small shallow) =
    goes e read.expression r (goes pairs read.substitution r (goes tt has.well_formed r (goes t has.result r (goes tt small r (goes tt shallow r refl)))))

one_deep : (t : Tree) (r s : Reply) → Deep t r → Deep t s → r ≡ s
one_deep t = one_fork _ _ _ _ (record { reason = λ u v a b. refl; either = λ u v a b. omega arith; value = λ u v a b. refl; next = λ u r s a b. a ∙ sym b })

one_sized : (t : Tree) (r s : Reply) → Sized t r → Sized t s → r ≡ s
one_sized t = one_fork _ _ _ _ (record { reason = λ u v a b. refl; either = λ u v a b. omega arith; value = λ u v a b. refl; next = λ u. one_deep t })

one_made : (e : Tree) (pairs : List Pair) (r s : Reply) → Made e pairs r → Made e pairs s → r ≡ s
one_made e pairs = one_fork _ _ _ _ (record { reason = λ u v a b. refl; either = λ u t none a. none t a; value = one_subst pairs e; next = one_sized })

one_ill : (pairs : List Pair) (ill other : ℕ × Why) → FirstIll pairs ill.0 ill.1 → FirstIll pairs other.0 other.1 → ill ≡ other
one_ill pairs ill other a b = let one = one_first_ill pairs ill.0 other.0 ill.1 other.1 a b in λ i. (one.0 i, one.1 i)

one_formed : (e : Tree) (pairs : List Pair) (r s : Reply) → Formed e pairs r → Formed e pairs s → r ≡ s
one_formed e pairs =
    one_fork _ _ _ _ (record { reason = one_ill pairs; either = λ ill u a b. b.none ill.0 ill.1 a.ill; value = λ u v a b. refl; next = λ u. one_made e pairs })

one_paired : (substitution : List ℕ) (e : Tree) (r s : Reply) → Paired substitution e r → Paired substitution e s → r ≡ s
one_paired substitution e =
    one_fork _ _ _ _ (record {
      reason = one_pairs_fault substitution;
      either = λ why pairs a b. pairs_or_fault substitution pairs why b a;
      value =
          one_pairs_text substitution;
      next = one_formed e;
    })

one_staged : (file substitution : List ℕ) (r s : Reply) → Staged file substitution r → Staged file substitution s → r ≡ s
one_staged file substitution =
    one_fork _ _ _ _
    (record {
      reason = one_tree_fault Expression Refused file;
      either = λ why e a b. tree_or_fault Expression Refused file e why b a;
      value = one_tree_text Expression Refused file;
      next = one_paired substitution;
    })

pub one_substitution : (file substitution : List ℕ) (r s : Reply) → Substitutes file substitution r → Substitutes file substitution s → r ≡ s
one_substitution file substitution r s a b = one_staged file substitution r s (staged file substitution r a) (staged file substitution s b)
