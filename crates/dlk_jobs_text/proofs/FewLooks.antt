-- How many nodes `subst` looks at where it refuses what a substitution makes.
use Rattle.std.proofs.Common.{◌≡◌, ℕ, ◌+◌, ◌*◌, ◌≤◌, inl, inr, List, length, sym, ap, subst, ◌∙◌, arith}
use Rattle.std.proofs.lemmas.List.{length-map}
use Rattle.dlk_tree.specs.Trees.{Tree}
use Rattle.dlk_calculus.specs.Pairs.{Pair}
use Rattle.dlk_grammar.specs.declared.token.Dots.TheVariants.{Refused}
use Rattle.dlk_grammar.specs.declared.token.Form.TheVariants.{Expression}
use Rattle.dlk_machine.proofs.TextLaws.{one_tree_text, one_pairs_text}
use Rattle.dlk_sequent.specs.declared.subst.Pair.{Pair as IdPair}
use Rattle.dlk_sequent.specs.Substitutions.{pair_at, pairs_at}
use Rattle.dlk_memo.specs.Looks.{most_looks}
use Rattle.dlk_replies.specs.Replies.{Reply, code_of}
use Rattle.dlk_jobs_text.specs.Prints.{printed}
use Rattle.dlk_jobs_text.specs.Substitutes.{AreRead, Substitutes}
use Rattle.dlk_jobs_text.specs.Looks.{RefusesResult, subst_looks, LooksAtFew}
use Rattle.dlk_jobs_text.proofs.OneSubstitution.{one_substitution}

-- without a look
pub none_looked : (file substitution : List ℕ) (old new : ℕ) → new ≡ old → LooksAtFew file substitution old new
none_looked file substitution old new is = λ e pairs reply read answer refused. omega (arith, is)

pub is_refused : (reply : Reply) → RefusesResult reply → code_of reply.status ≡ 2
is_refused reply (inl e) = ap (λ (r : Reply). code_of r.status) e
is_refused reply (inr (inl e)) = ap (λ (r : Reply). code_of r.status) e
is_refused reply (inr (inr e)) = ap (λ (r : Reply). code_of r.status) e

not_two : (n : ℕ) → n ≡ 2 → n ≡ 0 → ⊥
not_two n two zero = absurd (omega (arith, two, zero))

-- a result that is printed is not refused
pub printed_looked : (file substitution : List ℕ) (reply : Reply) (t : Tree) → Substitutes file substitution reply → reply ≡ printed t → (old new : ℕ) →
    LooksAtFew file substitution old new
printed_looked file substitution reply t answer is old new = λ f others other same second refused.
    let one : reply ≡ other = one_substitution file substitution reply other answer second in
    let status : code_of other.status ≡ 0 = ap (λ (r : Reply). code_of r.status) (sym one ∙ is) in
    absurd (not_two (code_of other.status) (is_refused other refused) status)

module _ (file substitution : List ℕ) (e : Tree) (pairs : List Pair) (read : AreRead file substitution e pairs) where
  -- the texts are of one expression and of the same pairs
  pub few_looked : (old new : ℕ) → new ≤ old + subst_looks pairs e → LooksAtFew file substitution old new
  few_looked old new few = λ f others reply same answer refused.
      let one : e ≡ f = one_tree_text Expression Refused file e f read.expression same.expression in
      let all : pairs ≡ others = one_pairs_text substitution pairs others read.substitution same.substitution in
      subst (λ n. new ≤ old + n) (λ i. subst_looks (all i) (one i)) few

-- two looks a pair, by ids
pub pair_looks : (trees : List Tree) (pairs : List IdPair) (e : Tree) (old mid new : ℕ) → mid ≤ old + 2 * length pairs →
    new ≤ mid + most_looks (pairs_at trees pairs) e → new ≤ old + subst_looks (pairs_at trees pairs) e
pair_looks trees pairs e old mid new first then = omega (arith, first, then, length-map pairs (pair_at trees))

pub pairs_alone : (trees : List Tree) (pairs : List IdPair) (e : Tree) (old new : ℕ) → new ≤ old + 2 * length pairs →
    new ≤ old + subst_looks (pairs_at trees pairs) e
pairs_alone trees pairs e old new first = omega (arith, first, length-map pairs (pair_at trees))
