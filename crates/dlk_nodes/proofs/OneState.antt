-- First lines of a file have one state.
use Rattle.std.proofs.Common.{◌≡◌, ℕ, ◌+◌, ◌≤◌, true, List, [], ◌∷◌, ◌++◌, length, codes, refl, sym, subst, ◌∙◌, append_assoc, append-nil, arith, ◌⊎◌, inl, inr}
use Rattle.std.specs.List.{list_all}
use Rattle.std.proofs.lemmas.Bool.{and_parts}
use Rattle.dlk_tree.specs.Trees.{Tree}
use Rattle.dlk_calculus.specs.Steps.{Step}
use Rattle.dlk_grammar.specs.Tokens.{is_digit}
use Rattle.dlk_lines.specs.Spelled.{ByNodes}
use Rattle.dlk_lines.specs.Laws.{SaysOne}
use Rattle.dlk_lines.specs.Lines.{IsStepLine}
use Rattle.dlk_lines.proofs.Numbers.{number_parts}
use Rattle.dlk_lines.proofs.LineForms as forms
use Rattle.dlk_nodes.specs.Nodes.{IsNodeLine}
use Rattle.dlk_nodes.specs.Files.{head_line, Has, only_head, one_node, one_step}
use Rattle.dlk_nodes.proofs.OneNode.{one_node_line, line_parts}
use Rattle.dlk_nodes.proofs.OneSequent.{one_sequent, one_formula}
use Rattle.dlk_nodes.proofs.OnePairs.{one_list_of_pairs}

-- by the numbers of nodes a text says at most one thing
pub says_one : (nodes : List Tree) → SaysOne (ByNodes nodes)
says_one nodes = record { one_sequent = one_sequent nodes; one_formula = one_formula nodes; one_list = one_list_of_pairs nodes }

pub one_step_by_nodes : (nodes : List Tree) (text : List ℕ) (m n : ℕ) (s t : Step) → IsStepLine (ByNodes nodes) text m s →
    IsStepLine (ByNodes nodes) text n t → (m ≡ n) × (s ≡ t)
one_step_by_nodes nodes = forms.one_step_line (ByNodes nodes) (says_one nodes)

-- ---- a line is of one kind

no_digits : (digits rest behind : List ℕ) → 1 ≤ length digits → list_all is_digit digits ≡ true → digits ++ rest ≡ codes "node " ++ behind → ⊥
no_digits [] rest behind some all e = absurd (omega (arith, some))
no_digits (b ∷ digits) rest behind some all e =
    let first : b ≡ 110 = cc in
    let digit : is_digit 110 ≡ true = subst (λ c. is_digit c ≡ true) first (and_parts (is_digit b) (list_all is_digit digits) all).0 in
    cc digit

-- a line that begins with the word of a node is no step
pub step_is_other : (nodes : List Tree) (line behind : List ℕ) → line ≡ codes "node " ++ behind → (n : ℕ) (s : Step) → ¬ IsStepLine (ByNodes nodes) line n s
step_is_other nodes line behind e n s b =
    let q = (forms.line_parts (ByNodes nodes) line n s b).number_is in
    let d = number_parts q.digits n q.is_number in
    no_digits q.digits (32 ∷ (forms.line_parts (ByNodes nodes) line n s b).rest) behind d.some d.digits (sym q.text_is ∙ e)

pub node_or_step : (nodes : List Tree) (line : List ℕ) (m n : ℕ) (t : Tree) (s : Step) → IsNodeLine nodes line m t → IsStepLine (ByNodes nodes) line n s → ⊥
node_or_step nodes line m n t s a b =
    let p = line_parts nodes line m t a in
    let q = (forms.line_parts (ByNodes nodes) line n s b).number_is in
    let d = number_parts q.digits n q.is_number in
    no_digits q.digits (32 ∷ (forms.line_parts (ByNodes nodes) line n s b).rest) p.behind d.some d.digits (sym q.text_is ∙ p.line_is)

pub done_is_no_node : (nodes : List Tree) (m : ℕ) (t : Tree) → ¬ IsNodeLine nodes (codes "done") m t
done_is_no_node nodes m t is = let p = line_parts nodes (codes "done") m t is in let clash : codes "done" ≡ codes "node " ++ p.behind = p.line_is in cc clash

-- ---- states

-- what further lines make of a state
abbrev Reads : List (List ℕ) → List Tree → ℕ → List Tree → ℕ → Type 0
Reads [] nodes steps after count = (nodes ≡ after) × (steps ≡ count)
Reads (line ∷ lines) nodes steps after count =
    ((t : Tree) × IsNodeLine nodes line (length nodes + 1) t × Reads lines (nodes ++ t ∷ []) steps after count)
    ⊎ ((s : Step) × IsStepLine (ByNodes nodes) line (steps + 1) s × Reads lines nodes (steps + 1) after count)

one_reads : (lines : List (List ℕ)) (nodes : List Tree) (steps : ℕ) (m n : List Tree) (j k : ℕ) → Reads lines nodes steps m j →
    Reads lines nodes steps n k → (m ≡ n) × (j ≡ k)
one_reads [] nodes steps m n j k a b = (sym a.0 ∙ b.0, sym a.1 ∙ b.1)
one_reads (line ∷ lines) nodes steps m n j k (inl a) (inl b) =
    let same = one_node_line nodes line (length nodes + 1) (length nodes + 1) a.0 b.0 a.1 b.1 in
    one_reads lines (nodes ++ b.0 ∷ []) steps m n j k (subst (λ t. Reads lines (nodes ++ t ∷ []) steps m j) same.1 a.2) b.2
one_reads (line ∷ lines) nodes steps m n j k (inl a) (inr b) = absurd (node_or_step nodes line (length nodes + 1) (steps + 1) a.0 b.0 a.1 b.1)
one_reads (line ∷ lines) nodes steps m n j k (inr a) (inl b) = absurd (node_or_step nodes line (length nodes + 1) (steps + 1) b.0 a.0 b.1 a.1)
one_reads (line ∷ lines) nodes steps m n j k (inr a) (inr b) = one_reads lines nodes (steps + 1) m n j k a.2 b.2

-- a state, seen from the first line on
record FromHead (all : List (List ℕ)) (after : List Tree) (count : ℕ) : Type 0 where
  pub tail : List (List ℕ)
  pub all_is : all ≡ head_line ∷ tail
  pub reads : Reads tail [] 0 after count

from_head : (before : List (List ℕ)) (nodes : List Tree) (steps : ℕ) → Has before nodes steps → (rest : List (List ℕ)) (after : List Tree) (count : ℕ) →
    Reads rest nodes steps after count → FromHead (before ++ rest) after count
from_head _ _ _ only_head rest after count reads = record { tail = rest; all_is = refl; reads = reads }
from_head _ _ _ (one_node {before} {nodes} {steps} {line} {t} has is) rest after count reads =
    subst (λ l. FromHead l after count) (sym (append_assoc before (line ∷ []) rest)) (from_head before nodes steps has (line ∷ rest) after count (inl
    (t, is, reads)))
from_head _ _ _ (one_step {before} {nodes} {steps} {line} {s} has is) rest after count reads =
    subst (λ l. FromHead l after count) (sym (append_assoc before (line ∷ []) rest)) (from_head before nodes steps has (line ∷ rest) after count (inr
    (s, is, reads)))

whole : (before : List (List ℕ)) (nodes : List Tree) (steps : ℕ) → Has before nodes steps → FromHead before nodes steps
whole before nodes steps has = subst (λ l. FromHead l nodes steps) (append-nil before) (from_head before nodes steps has [] nodes steps (refl, refl))

pub one_state : (before : List (List ℕ)) (m n : List Tree) (j k : ℕ) → Has before m j → Has before n k → (m ≡ n) × (j ≡ k)
one_state before m n j k a b =
    let p = whole before m j a in
    let q = whole before n k b in
    let same : head_line ∷ p.tail ≡ head_line ∷ q.tail = sym p.all_is ∙ q.all_is in
    let tails : p.tail ≡ q.tail = cc in
    one_reads q.tail [] 0 m n j k (subst (λ l. Reads l [] 0 m j) tails p.reads) q.reads
