-- A line says something, or nothing.
use Rattle.std.proofs.Common.{◌≡◌, ℕ, ◌+◌, ◌≤◌, Bool, true, false, List, [], ◌∷◌, ◌++◌, length, refl, sym, subst, ◌⊎◌, inl, inr, append_assoc}
use Rattle.std.proofs.Common.{append-nil, arith}
use Rattle.std.specs.Prelude.{MatchBool}
use Rattle.std.specs.Str.{bytes_eq}
use Rattle.std.proofs.lemmas.Bool.{cases_Bool, cases_eq}
use Rattle.std.proofs.lemmas.Slice.Eq.{bytes_eq-Decides}
use Rattle.dlk_tree.specs.Trees.{Tree}
use Rattle.dlk_nodes.specs.Files.{head_line, Has, only_head, one_node, one_step}
use Rattle.dlk_nodes.specs.Lines.{Line, OfNode, Numbered, Done, IsLine, of_node, of_step}
use Rattle.dlk_nodes.proofs.OneState.{one_state}
use Rattle.dlk_nodes.proofs.OneLine.{one_line, some_line, line_says}
use Rattle.dlk_nodes.proofs.SomeTrees.{says_or_not}
use Rattle.dlk_replay.specs.Formats.{Said, TakesNone, SaysLine, said_of, SaysNodeOrStep, head, behind_head, begins_two, SaysInFile}
use Rattle.dlk_replay.proofs.VersionOne as version_one
use Rattle.dlk_replay.proofs.OneSaid.{said_parts, has_some}

-- lines that go on from a state

abbrev GoesBy : (List Tree → ℕ → Type 0) → List Tree → ℕ → Line → Type 0
GoesBy again nodes steps (OfNode n t) = (n ≡ length nodes + 1) × again (nodes ++ t ∷ []) steps
GoesBy again nodes steps (Numbered n s) = (n ≡ steps + 1) × again nodes (steps + 1)
GoesBy again nodes steps Done = ⊥

abbrev Goes : List (List ℕ) → List Tree → ℕ → Type 0
Goes [] nodes steps = Unit {0}
Goes (line ∷ lines) nodes steps = (l : Line) × IsLine nodes line l × GoesBy (λ n k. Goes lines n k) nodes steps l

both_decided : (A B : Type 0) → A ⊎ (¬ A) → B ⊎ (¬ B) → (A × B) ⊎ (¬ (A × B))
both_decided A B (inl a) (inl b) = inl (a, b)
both_decided A B (inl a) (inr not_so) = inr (λ p. not_so p.1)
both_decided A B (inr not_so) b = inr (λ p. not_so p.0)

goes_by_decided : (again : List Tree → ℕ → Type 0) → ((n : List Tree) (k : ℕ) → again n k ⊎ (¬ again n k)) → (nodes : List Tree) (steps : ℕ) (l : Line) →
    GoesBy again nodes steps l ⊎ (¬ GoesBy again nodes steps l)
goes_by_decided again known nodes steps (OfNode n t) =
    both_decided (n ≡ length nodes + 1) (again (nodes ++ t ∷ []) steps) (cases_eq n (length nodes + 1)) (known (nodes ++ t ∷ []) steps)
goes_by_decided again known nodes steps (Numbered n s) =
    both_decided (n ≡ steps + 1) (again nodes (steps + 1)) (cases_eq n (steps + 1)) (known nodes (steps + 1))
goes_by_decided again known nodes steps Done = inr (λ none. none)

-- where such lines stand behind others, those have a state
has_behind : (rest front : List (List ℕ)) (nodes : List Tree) (steps : ℕ) → Has front nodes steps → Goes rest nodes steps →
    (n : List Tree) × (k : ℕ) × Has (front ++ rest) n k
has_behind [] front nodes steps has g = (nodes, steps, subst (λ l. Has l nodes steps) (sym (append-nil front)) has)
has_behind (line ∷ rest) front nodes steps has (OfNode n t, is, (e, g)) =
    let own = subst (λ m. IsLine nodes line (OfNode m t)) e is in
    let more = has_behind rest (front ++ line ∷ []) (nodes ++ t ∷ []) steps (one_node has (line_says nodes line (OfNode (length nodes + 1) t) own)) g in
    (more.0, more.1, subst (λ l. Has l more.0 more.1) (append_assoc front (line ∷ []) rest) more.2)
has_behind (line ∷ rest) front nodes steps has (Numbered n s, is, (e, g)) =
    let own = subst (λ m. IsLine nodes line (Numbered m s)) e is in
    let more = has_behind rest (front ++ line ∷ []) nodes (steps + 1) (one_step has (line_says nodes line (Numbered (steps + 1) s) own)) g in
    (more.0, more.1, subst (λ l. Has l more.0 more.1) (append_assoc front (line ∷ []) rest) more.2)
has_behind (line ∷ rest) front nodes steps has (Done, is, g) = absurd g

record FromHead (all : List (List ℕ)) : Type 0 where
  pub tail : List (List ℕ)
  pub all_is : all ≡ head_line ∷ tail
  pub goes : Goes tail [] 0

from_head : (before : List (List ℕ)) (nodes : List Tree) (steps : ℕ) → Has before nodes steps → (rest : List (List ℕ)) → Goes rest nodes steps →
    FromHead (before ++ rest)
from_head _ _ _ only_head rest g = record { tail = rest; all_is = refl; goes = g }
from_head _ _ _ (one_node {before} {nodes} {steps} {line} {t} has is) rest g =
    subst FromHead (sym (append_assoc before (line ∷ []) rest))
    (from_head before nodes steps has (line ∷ rest) (OfNode (length nodes + 1) t, of_node is, (refl, g)))
from_head _ _ _ (one_step {before} {nodes} {steps} {line} {s} has is) rest g =
    subst FromHead (sym (append_assoc before (line ∷ []) rest))
    (from_head before nodes steps has (line ∷ rest) (Numbered (steps + 1) s, of_step is, (refl, g)))

goes_decided : (lines : List (List ℕ)) (nodes : List Tree) (steps : ℕ) → Goes lines nodes steps ⊎ (¬ Goes lines nodes steps)
goes_decided [] nodes steps = inl tt
goes_decided (line ∷ lines) nodes steps = elim (some_line nodes (says_or_not nodes) line) [
  | inl f ↦ elim (goes_by_decided (λ n k. Goes lines n k) (goes_decided lines) nodes steps f.0) [
    | inl g ↦ inl (f.0, f.1, g)
    | inr not_so ↦ inr (λ g. not_so (subst (GoesBy (λ n k. Goes lines n k) nodes steps) (one_line nodes line g.0 f.0 g.1 f.1) g.2))
  ]
  | inr none ↦ inr (λ g. none g.0 g.1)
]

state_decided : (before : List (List ℕ)) → ((n : List Tree) × (k : ℕ) × Has before n k) ⊎ ((n : List Tree) (k : ℕ) → ¬ Has before n k)
state_decided [] = inr (λ n k has. let some = has_some [] n k has in absurd (omega (arith, some)))
state_decided (first ∷ tail) = by_cases (cases_Bool (bytes_eq first head_line)) (goes_decided tail [] 0)
  where
    by_cases : (bytes_eq first head_line ≡ true) ⊎ (bytes_eq first head_line ≡ false) → Goes tail [] 0 ⊎ (¬ Goes tail [] 0) →
        ((n : List Tree) × (k : ℕ) × Has (first ∷ tail) n k) ⊎ ((n : List Tree) (k : ℕ) → ¬ Has (first ∷ tail) n k)
    by_cases (inl e) (inl g) =
        let h = has_behind tail (head_line ∷ []) [] 0 only_head g in
        inl (h.0, h.1, subst (λ l. Has (l ∷ tail) h.0 h.1) (sym ((bytes_eq-Decides first head_line).0 e)) h.2)
    by_cases (inr e) g = inr (λ n k has.
        let p = subst FromHead (append-nil (first ∷ tail)) (from_head (first ∷ tail) n k has [] tt) in
        let is : first ∷ tail ≡ head_line ∷ p.tail = p.all_is in
        let same : first ≡ head_line = cc in
        cc (e, (bytes_eq-Decides first head_line).1 same))
    by_cases (inl e) (inr not_so) = inr (λ n k has.
        let p = subst FromHead (append-nil (first ∷ tail)) (from_head (first ∷ tail) n k has [] tt) in
        let is : first ∷ tail ≡ head_line ∷ p.tail = p.all_is in
        let same : p.tail ≡ tail = cc in
        not_so (subst (λ l. Goes l [] 0) same p.goes))

-- the law
pub some_said_in_two : (before : List (List ℕ)) (text : List ℕ) → ((s : Said) × SaysNodeOrStep before text s) ⊎ ((s : Said) → ¬ SaysNodeOrStep before text s)
some_said_in_two before text = elim (state_decided before) [
  | inl st ↦ elim (some_line st.0 (says_or_not st.0) text) [
    | inl l ↦ inl (said_of (length st.0) st.1 l.0, behind_head l.0 st.2 l.1)
    | inr none ↦ inr (λ s is. elim (said_parts before text s is) [
      | inl first ↦ (let some = subst (λ b. 1 ≤ length b) first.0 (has_some before st.0 st.1 st.2) in absurd (omega (arith, some)))
      | inr b ↦ none b.line (subst (λ n. IsLine n text b.line) (one_state before b.nodes st.0 b.steps st.1 b.has st.2).0 b.is)
    ])
  ]
  | inr not_so ↦ by_first before not_so (cases_Bool (bytes_eq text head_line))
]
  where
    by_first : (lines : List (List ℕ)) → ((n : List Tree) (k : ℕ) → ¬ Has lines n k) → (bytes_eq text head_line ≡ true) ⊎ (bytes_eq text head_line ≡ false) →
        ((s : Said) × SaysNodeOrStep lines text s) ⊎ ((s : Said) → ¬ SaysNodeOrStep lines text s)
    by_first [] not_so (inl e) = inl (TakesNone, subst (λ l. SaysNodeOrStep [] l TakesNone) (sym ((bytes_eq-Decides text head_line).0 e)) head)
    by_first [] not_so (inr e) = inr (λ s is. elim (said_parts [] text s is) [
      | inl first ↦ cc (e, (bytes_eq-Decides text head_line).1 first.2)
      | inr b ↦ not_so b.nodes b.steps b.has
    ])
    by_first (line ∷ lines) not_so e = inr (λ s is. elim (said_parts (line ∷ lines) text s is) [
      | inl first ↦ absurd (cc first.0)
      | inr b ↦ not_so b.nodes b.steps b.has
    ])

-- and so does one of both versions
pub some_said_in_file : (before : List (List ℕ)) (text : List ℕ) →
    ((s : Said) × SaysInFile before text s) ⊎ ((s : Said) → ¬ SaysInFile before text s)
some_said_in_file before text = by_head (begins_two (before ++ text ∷ [])) (some_said_in_two before text) (version_one.some_said before text)
  where
    by_head : (h : Bool) → ((s : Said) × SaysNodeOrStep before text s) ⊎ ((s : Said) → ¬ SaysNodeOrStep before text s) →
        ((s : Said) × SaysLine before text s) ⊎ ((s : Said) → ¬ SaysLine before text s) →
        ((s : Said) × MatchBool h (SaysNodeOrStep before text s) (SaysLine before text s))
        ⊎ ((s : Said) → ¬ MatchBool h (SaysNodeOrStep before text s) (SaysLine before text s))
    by_head true two one = two
    by_head false two one = one
