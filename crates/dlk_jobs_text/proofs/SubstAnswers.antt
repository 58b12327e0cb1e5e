-- From what was read and made to what `subst` answers.
use Rattle.std.proofs.Common.{◌≡◌, ℕ, ◌<◌, ◌≤◌, ◌-◌, ◌^◌, min, List, sym, subst, ◌∙◌, inl, inr, arith}
use Rattle.dlk_tree.specs.Trees.{Tree}
use Rattle.dlk_calculus.specs.Pairs.{Pair, IsWellFormed}
use Rattle.dlk_calculus.specs.Subst.{Subst}
use Rattle.dlk_calculus.specs.Limits.{most_nodes, greatest_depth, IsSmall, IsShallow}
use Rattle.dlk_grammar.specs.declared.token.Dots.TheVariants.{Refused}
use Rattle.dlk_grammar.specs.Texts.{PairsText}
use Rattle.dlk_store.specs.Stores.{tree, StandsFor, Keeps}
use Rattle.dlk_store.specs.declared.Id.{Id}
use Rattle.dlk_sequent.specs.declared.subst.Pair.{Pair as IdPair}
use Rattle.dlk_sequent.specs.Substitutions.{pairs_at}
use Rattle.dlk_subst.specs.Results.{IsResult}
use Rattle.dlk_replies.specs.Replies.{Reply}
use Rattle.dlk_jobs_text.specs.Prints.{printed}
use Rattle.dlk_jobs_text.specs.Substitutes.{Substitutes, bad_file, bad_subst, bad_pair, not_admissible, too_big, too_deep, prints, PlainText, AreRead}
use Rattle.dlk_jobs_text.specs.Substitutes.{HasResult}
use Rattle.dlk_jobs_text.specs.Refused.{RefusesFile, RefusesPairs, RefusesPair, RefusesUse, RefusesLarge}

-- an expression that was read into fewer trees, and pairs, are read
pub both_read : (file substitution : List ℕ) (old new : List Tree) (id : Id) (e : Tree) (pairs same : List IdPair) →
    PlainText file e → StandsFor old id e → Keeps old new → PairsText substitution (pairs_at new pairs) → same ≡ pairs →
    AreRead file substitution (tree new id) (pairs_at new same)
both_read file substitution old new id e pairs same reads stands keeps text is =
    record {
      expression = subst (PlainText file) (sym (keeps.same id stands.known ∙ stands.tree_is)) reads;
      substitution = subst (λ ps. PairsText substitution (pairs_at new ps)) (sym is) text;
    }

module _ (file substitution : List ℕ) where
  pub file_refused : (reply : Reply) → RefusesFile Refused file reply → Substitutes file substitution reply
  file_refused reply (why, fault, is) = subst (Substitutes file substitution) (sym is) (bad_file why fault)

  pub pairs_refused : (e : Tree) → PlainText file e → (reply : Reply) → RefusesPairs substitution reply → Substitutes file substitution reply
  pairs_refused e reads reply (why, fault, is) = subst (Substitutes file substitution) (sym is) (bad_subst e reads why fault)

module _ (file substitution : List ℕ) (e : Tree) (pairs : List Pair) (read : AreRead file substitution e pairs) where
  pub pair_answer : (reply : Reply) → RefusesPair pairs reply → Substitutes file substitution reply
  pair_answer reply (n, why, ill, is) = subst (Substitutes file substitution) (sym is) (bad_pair e pairs read n why ill)

  pub no_result_answer : IsWellFormed pairs → (reply : Reply) → RefusesUse pairs e reply → Substitutes file substitution reply
  no_result_answer good reply (none, is) = subst (Substitutes file substitution) (sym is) (not_admissible e pairs read good none)

  pub large_answer : (t : Tree) → HasResult pairs e t → (reply : Reply) → RefusesLarge t reply → Substitutes file substitution reply
  large_answer t has reply (inl h) = subst (Substitutes file substitution) (sym h.1) (too_big e pairs read t has h.0)
  large_answer t has reply (inr h) = subst (Substitutes file substitution) (sym h.2) (too_deep e pairs read t has h.0 h.1)

  pub prints_answer : (t : Tree) → HasResult pairs e t → IsSmall t → IsShallow t → (reply : Reply) → reply ≡ printed t → Substitutes file substitution reply
  prints_answer t has small shallow reply is = subst (Substitutes file substitution) (sym is) (prints e pairs read t has small shallow)

-- the result that an id stands for
pub has_result : (pairs : List Pair) (e : Tree) (trees : List Tree) (id : Id) → IsWellFormed pairs → IsResult (Subst pairs e) trees id →
    HasResult pairs e (tree trees id)
has_result pairs e trees id good made = record { well_formed = good; result = subst (Subst pairs e) (sym made.stands.tree_is) made.is_related }

-- what a store answers of sizes and depths past its greatest number
pub past_nodes : (n m : ℕ) → n ≡ min m (2 ^ 32 - 1) → most_nodes < n → most_nodes < m
past_nodes n m is past = omega arith

pub past_depth : (n m : ℕ) → n ≡ min m (2 ^ 32 - 1) → greatest_depth < n → greatest_depth < m
past_depth n m is past = omega arith

pub within_nodes : (n m : ℕ) → n ≡ min m (2 ^ 32 - 1) → n ≤ most_nodes → m ≤ most_nodes
within_nodes n m is within = omega arith

pub within_depth : (n m : ℕ) → n ≡ min m (2 ^ 32 - 1) → n ≤ greatest_depth → m ≤ greatest_depth
within_depth n m is within = omega arith
