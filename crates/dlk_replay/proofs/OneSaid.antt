-- A line says at most one thing.
use Rattle.std.proofs.Common.{◌≡◌, ℕ, ◌+◌, ◌≤◌, Bool, true, false, List, [], ◌∷◌, ◌++◌, length, refl, sym, ap, subst, ◌∙◌, ◌⊎◌, inl, inr, arith, eq-eqb}
use Rattle.std.specs.Prelude.{MatchBool, if◌then◌else◌}
use Rattle.std.proofs.lemmas.List.{length_push}
use Rattle.dlk_tree.specs.Trees.{Tree}
use Rattle.dlk_calculus.specs.Steps.{Step}
use Rattle.dlk_nodes.specs.Files.{head_line, Has, only_head, one_node, one_step}
use Rattle.dlk_nodes.specs.Lines.{Line, OfNode, Numbered, IsLine}
use Rattle.dlk_nodes.proofs.OneState.{one_state}
use Rattle.dlk_nodes.proofs.OneLine.{one_line}
use Rattle.dlk_replay.specs.Formats.{Said, TakesStep, HasOtherNumber, TakesNone, SaysLine, said_of, SaysNodeOrStep, head, behind_head, begins_two, SaysInFile}
use Rattle.dlk_replay.proofs.VersionOne as version_one

-- a line behind a state
pub record Behind (before : List (List ℕ)) (text : List ℕ) (s : Said) : Type 0 where
  pub nodes : List Tree
  pub steps : ℕ
  pub line : Line
  pub has : Has before nodes steps
  pub is : IsLine nodes text line
  pub said_is : s ≡ said_of (length nodes) steps line

pub said_parts : (before : List (List ℕ)) (text : List ℕ) (s : Said) → SaysNodeOrStep before text s →
    ((before ≡ []) × (s ≡ TakesNone) × (text ≡ head_line)) ⊎ Behind before text s
said_parts _ _ _ head = inl (refl, refl, refl)
said_parts _ _ _ (behind_head {before} {nodes} {steps} {text} line has is) =
    inr (record { nodes = nodes; steps = steps; line = line; has = has; is = is; said_is = refl })

-- what has a state has a line
pub has_some : (before : List (List ℕ)) (nodes : List Tree) (steps : ℕ) → Has before nodes steps → 1 ≤ length before
has_some _ _ _ only_head = omega arith
has_some _ _ _ (one_node {before} {line = line} first is) = let long = length_push before line in omega (arith, long)
has_some _ _ _ (one_step {before} {line = line} first is) = let long = length_push before line in omega (arith, long)

pub not_first : (before : List (List ℕ)) (text : List ℕ) (s : Said) → before ≡ [] → Behind before text s → ⊥
not_first before text s e b =
    let some = has_some before b.nodes b.steps b.has in
    let none : length before ≡ 0 = ap length e in
    absurd (omega (arith, some, none))

one_behind : (before : List (List ℕ)) (text : List ℕ) (s t : Said) → Behind before text s → Behind before text t → s ≡ t
one_behind before text s t a b =
    let same = one_state before a.nodes b.nodes a.steps b.steps a.has b.has in
    let lines : a.line ≡ b.line = one_line b.nodes text a.line b.line (subst (λ n. IsLine n text a.line) same.0 a.is) b.is in
    a.said_is ∙ (λ i. said_of (length (same.0 i)) (same.1 i) (lines i)) ∙ sym b.said_is

pub one_said_in_two : (before : List (List ℕ)) (text : List ℕ) (s t : Said) → SaysNodeOrStep before text s → SaysNodeOrStep before text t → s ≡ t
one_said_in_two before text s t a b = by_cases (said_parts before text s a) (said_parts before text t b)
  where
    by_cases : ((before ≡ []) × (s ≡ TakesNone) × (text ≡ head_line)) ⊎ Behind before text s →
        ((before ≡ []) × (t ≡ TakesNone) × (text ≡ head_line)) ⊎ Behind before text t → s ≡ t
    by_cases (inl a) (inl b) = a.1 ∙ sym b.1
    by_cases (inl a) (inr b) = absurd (not_first before text t a.0 b)
    by_cases (inr a) (inl b) = absurd (not_first before text s b.0 a)
    by_cases (inr a) (inr b) = one_behind before text s t a b

pub one_said_in_file : (before : List (List ℕ)) (text : List ℕ) (s t : Said) → SaysInFile before text s → SaysInFile before text t → s ≡ t
one_said_in_file before text s t a b = by_head (begins_two (before ++ text ∷ [])) a b
  where
    by_head : (h : Bool) → MatchBool h (SaysNodeOrStep before text s) (SaysLine before text s) →
        MatchBool h (SaysNodeOrStep before text t) (SaysLine before text t) → s ≡ t
    by_head true a b = one_said_in_two before text s t a b
    by_head false a b = version_one.one_said before text s t a b

-- ---- lines with their own numbers

pub node_said : (before : List (List ℕ)) (nodes : List Tree) (steps : ℕ) (text : List ℕ) (t : Tree) → Has before nodes steps →
    IsLine nodes text (OfNode (length nodes + 1) t) → SaysNodeOrStep before text TakesNone
node_said before nodes steps text t has is =
    let own : said_of (length nodes) steps (OfNode (length nodes + 1) t) ≡ TakesNone =
    ap (λ b. if b then TakesNone else HasOtherNumber) (eq-eqb (length nodes + 1) (length nodes + 1) refl) in
    subst (SaysNodeOrStep before text) own (behind_head (OfNode (length nodes + 1) t) has is)

pub step_said : (before : List (List ℕ)) (nodes : List Tree) (steps : ℕ) (text : List ℕ) (s : Step) → Has before nodes steps →
    IsLine nodes text (Numbered (steps + 1) s) → SaysNodeOrStep before text (TakesStep s)
step_said before nodes steps text s has is =
    let own : said_of (length nodes) steps (Numbered (steps + 1) s) ≡ TakesStep s =
    ap (λ b. if b then TakesStep s else HasOtherNumber) (eq-eqb (steps + 1) (steps + 1) refl) in
    subst (SaysNodeOrStep before text) own (behind_head (Numbered (steps + 1) s) has is)
