-- The step that a line says is a proper one, and what its pairs replace are symbols.
use Rattle.std.proofs.Common.{◌≡◌, ℕ, ◌+◌, Bool, true, false, List, [], ◌∷◌, ◌++◌, length, ap, subst, inl, inr}
use Rattle.std.specs.Prelude.{◌==◌, All, MatchBool, if◌then◌else◌}
use Rattle.std.proofs.lemmas.List.Elements.{All-nil, All-cons, All-push, All-weaker}
use Rattle.dlk_tree.specs.declared.op.Op.{Op}
use Rattle.dlk_tree.specs.Trees.{Tree, forest, WellMade, AllWellMade}
use Rattle.dlk_calculus.specs.Pairs.{Pair, AreWellMade}
use Rattle.dlk_calculus.specs.Steps.{Step, IsProper}
use Rattle.dlk_calculus.proofs.PlaceLaws.{At_All}
use Rattle.dlk_machine.specs.Symbols.{ReplacesSymbol}
use Rattle.dlk_machine.proofs.PairSymbols.{pairs_text_symbols}
use Rattle.dlk_lines.specs.Spelled.{Spelling, InFull, ByNodes, ArePairsText, NamesEach, none_behind, one_behind, NamesPair, pair, NamesMorePairs}
use Rattle.dlk_lines.specs.Spelled.{no_more_pairs, one_more_pair, NamesPairs, no_pairs, first_pair}
use Rattle.dlk_lines.specs.Lines.{IsStep, start, use_axiom, use_rule, leaf, apply, merge, substitute, rename, IsStepLine, numbered}
use Rattle.dlk_lines.proofs.Proper.{line_proper}
use Rattle.dlk_termtext.specs.Lines as full
use Rattle.dlk_termtext.proofs.LineLaws as in_full
use Rattle.dlk_nodes.specs.Files.{Has, only_head, one_node, one_step}
use Rattle.dlk_nodes.specs.Lines.{Line, OfNode, Numbered, Done, IsLine}
use Rattle.dlk_nodes.specs.Nodes.{NamesNode, op_and_kids, IsNode, new_node, IsNodeLine, node_line}
use Rattle.dlk_nodes.proofs.OneLine.{line_says}
use Rattle.dlk_replay.specs.Files.{SaySteps, done, more, none, FileSteps}
use Rattle.dlk_replay.specs.Formats.{TakesStep, HasOtherNumber, TakesNone, SaysLine, said_of, SaysNodeOrStep, begins_two, SaysInFile}
use Rattle.dlk_replay.specs.Symbols.{HasSymbols}
use Rattle.dlk_replay.proofs.OneSaid.{said_parts}

-- ---- nodes are well made

kids_made : (nodes : List Tree) (text : List ℕ) (kids : List Tree) → All WellMade nodes → NamesEach nodes text kids → AllWellMade (forest kids)
kids_made nodes _ _ all none_behind = tt
kids_made nodes _ _ all (one_behind {text = text} {x = x} {xs = xs} name others) =
    (At_All WellMade nodes name.number x all name.there, kids_made nodes text xs all others)

named_made : (nodes : List Tree) (text : List ℕ) (op : Op) (kids : List Tree) → All WellMade nodes → NamesNode nodes text op kids → AllWellMade (forest kids)
named_made nodes _ _ _ all (op_and_kids {text = text} {kids = kids} op each) = kids_made nodes text kids all each

node_made : (nodes : List Tree) (text : List ℕ) (t : Tree) → All WellMade nodes → IsNode nodes text t → WellMade t
node_made nodes _ _ all (new_node {text = text} {op = op} {kids = kids} names new) = (new.fits, named_made nodes text op kids all names)

line_made : (nodes : List Tree) (line : List ℕ) (n : ℕ) (t : Tree) → All WellMade nodes → IsNodeLine nodes line n t → WellMade t
line_made nodes _ _ _ all (node_line {text = text} {t = t} counted is) = node_made nodes text t all is

pub nodes_made : (before : List (List ℕ)) (nodes : List Tree) (steps : ℕ) → Has before nodes steps → All WellMade nodes
nodes_made _ _ _ only_head = All-nil WellMade
nodes_made _ _ _ (one_node {before} {nodes} {steps} {line} {t} has is) =
    let all = nodes_made before nodes steps has in
    All-push WellMade nodes t all (line_made nodes line (length nodes + 1) t all is)
nodes_made _ _ _ (one_step {before} {nodes} {steps} {line} {s} has is) = nodes_made before nodes steps has

-- ---- pairs by nodes

module _ (nodes : List Tree) (all : All WellMade nodes) where
  record IsFine (p : Pair) : Type 0 where
    pub made : WellMade p.by
    pub symbol : ReplacesSymbol p

  pair_fine : (text : List ℕ) (p : Pair) → NamesPair nodes text p → IsFine p
  pair_fine _ _ (pair {p = p} symbol name kind) = record { made = At_All WellMade nodes name.number p.by all name.there; symbol = symbol }

  more_fine : (text : List ℕ) (pairs : List Pair) → NamesMorePairs nodes text pairs → All IsFine pairs
  more_fine _ _ no_more_pairs = All-nil IsFine
  more_fine _ _ (one_more_pair {text = text} {rest = rest} {p = p} {pairs = pairs} first others) =
      All-cons IsFine p pairs (pair_fine text p first) (more_fine rest pairs others)

  pairs_fine : (text : List ℕ) (pairs : List Pair) → NamesPairs nodes text pairs → All IsFine pairs
  pairs_fine _ _ no_pairs = All-nil IsFine
  pairs_fine _ _ (first_pair {text = text} {rest = rest} {p = p} {pairs = pairs} first others) =
      All-cons IsFine p pairs (pair_fine text p first) (more_fine rest pairs others)

  pairs_made : (text : List ℕ) (pairs : List Pair) → ArePairsText (ByNodes nodes) text pairs → AreWellMade pairs
  pairs_made text pairs are = All-weaker IsFine (λ (p : Pair). WellMade p.by) (λ p h. h.made) pairs (pairs_fine text pairs are)

  pairs_symbols : (text : List ℕ) (pairs : List Pair) → ArePairsText (ByNodes nodes) text pairs → All ReplacesSymbol pairs
  pairs_symbols text pairs are = All-weaker IsFine ReplacesSymbol (λ p h. h.symbol) pairs (pairs_fine text pairs are)

-- ---- step lines

module _ (w : Spelling) (symbols : (text : List ℕ) (pairs : List Pair) → ArePairsText w text pairs → All ReplacesSymbol pairs) where
  step_symbols : (text : List ℕ) (step : Step) → IsStep w text step → HasSymbols step
  step_symbols _ _ (start text s) = tt
  step_symbols _ _ (use_axiom name) = tt
  step_symbols _ _ (use_rule name) = tt
  step_symbols _ _ (leaf text s) = tt
  step_symbols _ _ (apply f g is) = tt
  step_symbols _ _ (merge f g b) = tt
  step_symbols _ _ (substitute {pairs} text f t) = symbols text pairs t
  step_symbols _ _ (rename f x y) = tt

  line_symbols : (text : List ℕ) (number : ℕ) (step : Step) → IsStepLine w text number step → HasSymbols step
  line_symbols _ _ _ (numbered {text} {step} n s) = step_symbols text step s

record IsFineStep (step : Step) : Type 0 where
  pub proper : IsProper step
  pub symbols : HasSymbols step

fine_in_full : (text : List ℕ) (n : ℕ) (step : Step) → full.IsLine text (full.Numbered n step) → IsFineStep step
fine_in_full text n step is = record {
  proper = in_full.line_proper text n step is;
  symbols = line_symbols InFull pairs_text_symbols text n step (in_full.line_parts text (full.Numbered n step) is);
}

fine_by_nodes : (nodes : List Tree) (text : List ℕ) (n : ℕ) (step : Step) → All WellMade nodes → IsLine nodes text (Numbered n step) → IsFineStep step
fine_by_nodes nodes text n step all is =
    let parts = line_says nodes text (Numbered n step) is in
    record {
      proper = line_proper (ByNodes nodes) (pairs_made nodes all) text n step parts;
      symbols = line_symbols (ByNodes nodes) (pairs_symbols nodes all) text n step parts;
    }

-- ---- lines of files

-- the line that says a step
step_of : (nodes steps : ℕ) (line : Line) (step : Step) → TakesStep step ≡ said_of nodes steps line → (n : ℕ) × (line ≡ Numbered n step)
step_of nodes steps (OfNode n t) step e = by_test (n == nodes + 1) e
  where
    by_test : (b : Bool) → TakesStep step ≡ (if b then TakesNone else HasOtherNumber) → (m : ℕ) × (OfNode n t ≡ Numbered m step)
    by_test true e = absurd (cc e)
    by_test false e = absurd (cc e)
step_of nodes steps (Numbered n s) step e = by_test (n == steps + 1) e
  where
    by_test : (b : Bool) → TakesStep step ≡ (if b then TakesStep s else HasOtherNumber) → (m : ℕ) × (Numbered n s ≡ Numbered m step)
    by_test true e = let same : s ≡ step = cc e in (n, ap (Numbered n) same)
    by_test false e = absurd (cc e)
step_of nodes steps Done step e = absurd (cc e)

fine_in_two : (before : List (List ℕ)) (text : List ℕ) (step : Step) → SaysNodeOrStep before text (TakesStep step) → IsFineStep step
fine_in_two before text step is = elim (said_parts before text (TakesStep step) is) [
  | inl first ↦ absurd (cc first.1)
  | inr b ↦
      let line = step_of (length b.nodes) b.steps b.line step b.said_is in
      fine_by_nodes b.nodes text line.0 step (nodes_made before b.nodes b.steps b.has) (subst (IsLine b.nodes text) line.1 b.is)
]

fine_in_file : (before : List (List ℕ)) (text : List ℕ) (step : Step) → SaysInFile before text (TakesStep step) → IsFineStep step
fine_in_file before text step is = by_head (begins_two (before ++ text ∷ [])) is
  where
    by_head : (h : Bool) → MatchBool h (SaysNodeOrStep before text (TakesStep step)) (SaysLine before text (TakesStep step)) → IsFineStep step
    by_head true is = fine_in_two before text step is
    by_head false is = fine_in_full text (length before + 1) step is

pub said_proper_in_file : (before : List (List ℕ)) (text : List ℕ) (step : Step) → SaysInFile before text (TakesStep step) → IsProper step
said_proper_in_file before text step is = (fine_in_file before text step is).proper

-- the steps of a file
steps_symbols : (before lines : List (List ℕ)) (steps : List Step) → SaySteps SaysInFile before lines steps → All HasSymbols steps
steps_symbols _ _ _ (done is) = All-nil HasSymbols
steps_symbols _ _ _ (more {before} {lines} {line} {step} {steps} is others) =
    All-cons HasSymbols step steps (fine_in_file before line step is).symbols (steps_symbols (before ++ line ∷ []) lines steps others)
steps_symbols _ _ _ (none {before} {lines} {line} {steps} is others) = steps_symbols (before ++ line ∷ []) lines steps others

-- the law
pub file_steps_symbols : (lines : List (List ℕ)) (steps : List Step) → FileSteps lines steps → All HasSymbols steps
file_steps_symbols lines steps says = steps_symbols [] lines steps says
