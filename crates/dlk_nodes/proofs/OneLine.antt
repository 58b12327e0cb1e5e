-- A text says one line, or it says none.
use Rattle.std.proofs.Common.{◌≡◌, ℕ, true, false, List, codes, refl, sym, subst, ◌⊎◌, inl, inr}
use Rattle.std.specs.Str.{bytes_eq}
use Rattle.std.proofs.lemmas.Bool.{cases_Bool}
use Rattle.std.proofs.lemmas.Slice.Eq.{bytes_eq-Decides}
use Rattle.dlk_tree.specs.Trees.{Tree}
use Rattle.dlk_calculus.specs.Steps.{Step}
use Rattle.dlk_lines.specs.Lines.{IsStepLine}
use Rattle.dlk_lines.specs.Spelled.{ByNodes}
use Rattle.dlk_lines.specs.Laws.{SaysOrNot}
use Rattle.dlk_lines.proofs.LineForms.{done_is_none}
use Rattle.dlk_lines.proofs.SomeLine.{some_step_line}
use Rattle.dlk_nodes.specs.Nodes.{IsNodeLine}
use Rattle.dlk_nodes.specs.Lines.{Line, OfNode, Numbered, Done, IsLine, of_node, of_step, done}
use Rattle.dlk_nodes.proofs.OneNode.{one_node_line}
use Rattle.dlk_nodes.proofs.OneState.{one_step_by_nodes, node_or_step, done_is_no_node}
use Rattle.dlk_nodes.proofs.SomeNode.{some_node_line}

module _ (nodes : List Tree) where
  -- what a line is, by what it says
  abbrev pub Says : List ℕ → Line → Type 0
  Says text (OfNode number t) = IsNodeLine nodes text number t
  Says text (Numbered number step) = IsStepLine (ByNodes nodes) text number step
  Says text Done = text ≡ codes "done"

  pub line_says : (text : List ℕ) (line : Line) → IsLine nodes text line → Says text line
  line_says _ _ (of_node is) = is
  line_says _ _ (of_step is) = is
  line_says _ _ done = refl

  node_or_done : (text : List ℕ) (m : ℕ) (t : Tree) → IsNodeLine nodes text m t → text ≡ codes "done" → ⊥
  node_or_done text m t is e = done_is_no_node nodes m t (subst (λ l. IsNodeLine nodes l m t) e is)

  step_or_done : (text : List ℕ) (m : ℕ) (s : Step) → IsStepLine (ByNodes nodes) text m s → text ≡ codes "done" → ⊥
  step_or_done text m s is e = done_is_none (ByNodes nodes) m s (subst (λ l. IsStepLine (ByNodes nodes) l m s) e is)

  one_says : (text : List ℕ) (a b : Line) → Says text a → Says text b → a ≡ b
  one_says text (OfNode m s) (OfNode n t) a b = let same = one_node_line nodes text m n s t a b in λ i. OfNode (same.0 i) (same.1 i)
  one_says text (OfNode m t) (Numbered n s) a b = absurd (node_or_step nodes text m n t s a b)
  one_says text (OfNode m t) Done a b = absurd (node_or_done text m t a b)
  one_says text (Numbered n s) (OfNode m t) a b = absurd (node_or_step nodes text m n t s b a)
  one_says text (Numbered m s) (Numbered n t) a b = let same = one_step_by_nodes nodes text m n s t a b in λ i. Numbered (same.0 i) (same.1 i)
  one_says text (Numbered m s) Done a b = absurd (step_or_done text m s a b)
  one_says text Done (OfNode m t) a b = absurd (node_or_done text m t b a)
  one_says text Done (Numbered m s) a b = absurd (step_or_done text m s b a)
  one_says text Done Done a b = refl

  -- the laws
  pub one_line : (text : List ℕ) (a b : Line) → IsLine nodes text a → IsLine nodes text b → a ≡ b
  one_line text a b x y = one_says text a b (line_says text a x) (line_says text b y)

  pub none_says : (text : List ℕ) → ((m : ℕ) (t : Tree) → ¬ IsNodeLine nodes text m t) → ((m : ℕ) (s : Step) → ¬ IsStepLine (ByNodes nodes) text m s) →
      ¬ (text ≡ codes "done") → (line : Line) → ¬ Says text line
  none_says text no_node no_step not_done (OfNode m t) is = no_node m t is
  none_says text no_node no_step not_done (Numbered m s) is = no_step m s is
  none_says text no_node no_step not_done Done is = not_done is

  pub some_line : SaysOrNot (ByNodes nodes) → (text : List ℕ) → ((line : Line) × IsLine nodes text line) ⊎ ((line : Line) → ¬ IsLine nodes text line)
  some_line or_not text = by_cases (some_node_line nodes text) (some_step_line (ByNodes nodes) or_not text) (cases_Bool (bytes_eq text (codes "done")))
    where
      by_cases : ((m : ℕ) × (t : Tree) × IsNodeLine nodes text m t) ⊎ ((m : ℕ) (t : Tree) → ¬ IsNodeLine nodes text m t) →
          ((m : ℕ) × (s : Step) × IsStepLine (ByNodes nodes) text m s) ⊎ ((m : ℕ) (s : Step) → ¬ IsStepLine (ByNodes nodes) text m s) →
          (bytes_eq text (codes "done") ≡ true) ⊎ (bytes_eq text (codes "done") ≡ false) →
          ((line : Line) × IsLine nodes text line) ⊎ ((line : Line) → ¬ IsLine nodes text line)
      by_cases (inl n) s d = inl (OfNode n.0 n.1, of_node n.2)
      by_cases (inr n) (inl s) d = inl (Numbered s.0 s.1, of_step s.2)
      by_cases (inr n) (inr s) (inl d) = inl (Done, subst (λ l. IsLine nodes l Done) (sym ((bytes_eq-Decides text (codes "done")).0 d)) done)
      by_cases (inr n) (inr s) (inr d) =
          inr (λ line is. none_says text n s (λ e. cc (d, (bytes_eq-Decides text (codes "done")).1 e)) line (line_says text line is))
