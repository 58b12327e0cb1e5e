-- No line feed stands in a line.
use Rattle.std.proofs.Common.{◌≡◌, ℕ, true, List, ◌++◌, codes, refl}
use Rattle.dlk_tree.specs.declared.op.Op.{Op}
use Rattle.dlk_tree.specs.declared.op.Op.TheVariants as op
use Rattle.dlk_tree.specs.Table.{has_parts}
use Rattle.dlk_tree.specs.Trees.{Tree}
use Rattle.dlk_calculus.specs.Pairs.{Pair}
use Rattle.dlk_calculus.specs.Rules.{Rule, Close, Arguments, word_of}
use Rattle.dlk_calculus.specs.Sequents.{Sequent}
use Rattle.dlk_calculus.specs.Steps.{Step}
use Rattle.dlk_grammar.specs.Shown.{spell}
use Rattle.dlk_grammar.specs.Symbols.{shown_symbol}
use Rattle.dlk_grammar.specs.Tokens.{is_digit}
use Rattle.dlk_lines.specs.Numbers.{IsNumber}
use Rattle.dlk_lines.specs.Spelled.{ByNodes, Names, NamesEach, none_behind, one_behind, NamesBefore, none_before, one_before, NamesSequent, sides}
use Rattle.dlk_lines.specs.Spelled.{NamesFormula, formula}
use Rattle.dlk_lines.specs.Spelled.{NamesPair, pair, NamesMorePairs, no_more_pairs, one_more_pair, NamesPairs, no_pairs, first_pair}
use Rattle.dlk_lines.specs.Lines.{IsArguments, one_place, two_places, place_and_formula, one_formula, place_and_name, IsRule, rule}
use Rattle.dlk_lines.specs.Lines.{IsStep, start, use_axiom, use_rule, leaf, apply, merge, substitute, rename, IsStepLine, numbered}
use Rattle.dlk_lines.proofs.Numbers.{number_parts}
use Rattle.dlk_nodes.specs.Words.{Detail, NoDetail, Named, OfVariable, OfNumber, OfDot, OfUnit, OfItems, detail_text, call_of, op_text}
use Rattle.dlk_nodes.specs.Nodes.{NamesNode, op_and_kids, IsNode, new_node, IsNodeLine, node_line}
use Rattle.dlk_nodes.specs.Lines.{Line, IsLine, of_node, of_step, done}
use Rattle.dlk_nodes.proofs.Fields.{lacks, lacks_both, all_lack}
use Rattle.dlk_nodes.proofs.OpsBack.{lacks_if, name_lacks}
use Rattle.dlk_nodes.proofs.OpsRead.{detail_fields}
use Rattle.dlk_nodes.proofs.Readings.{details_lack}
use Rattle.dlk_nodes.proofs.SymbolBack.{symbol_feed}

abbrev Flat : List ℕ → Type 0
Flat text = lacks 10 text ≡ true

both_flat : (a b : List ℕ) → Flat a → Flat b → Flat (a ++ b)
both_flat a b h g = lacks_both 10 a b h g

-- two texts with a mark between
around : (a mark b : List ℕ) → Flat a → Flat mark → Flat b → Flat (a ++ mark ++ b)
around a mark b h m g = both_flat (a ++ mark) b (both_flat a mark h m) g

-- ---- numbers

number_flat : (text : List ℕ) (n : ℕ) → IsNumber text n → Flat text
number_flat text n is = lacks_if is_digit 10 refl text (number_parts text n is).digits

module _ {A : Type 0} (items : List A) where
  name_flat : (text : List ℕ) (x : A) → Names items text x → Flat text
  name_flat text x name = number_flat text name.number name.is_number

  each_flat : (text : List ℕ) (xs : List A) → NamesEach items text xs → Flat text
  each_flat _ _ none_behind = refl
  each_flat _ _ (one_behind {i} {text} {x} {xs} name others) =
      both_flat (codes " " ++ i) text (both_flat (codes " ") i refl (name_flat i x name)) (each_flat text xs others)

  before_flat : (text : List ℕ) (xs : List A) → NamesBefore items text xs → Flat text
  before_flat _ _ none_before = refl
  before_flat _ _ (one_before {i} {text} {x} {xs} name others) = around i (codes " ") text (name_flat i x name) refl (before_flat text xs others)

-- ---- nodes

word_flat : (o : Op) → Flat (call_of o).0
word_flat (op.Variable v) = refl
word_flat _ = refl

detail_flat : (d : Detail) → all_lack 10 (detail_fields d) → Flat (detail_text d)
detail_flat NoDetail h = refl
detail_flat (Named x) h = h.0
detail_flat (OfVariable v) h = h.0
detail_flat (OfNumber n) h = h.0
detail_flat (OfDot n) h = h.0
detail_flat (OfUnit x y) h = h.0
detail_flat (OfItems items) h = h.0

op_flat : (o : Op) → has_parts o ≡ true → Flat (op_text o)
op_flat o h =
    both_flat (call_of o).0 (detail_text (call_of o).1) (word_flat o)
    (detail_flat (call_of o).1 (details_lack 10 refl refl refl refl refl refl refl o h))

names_flat : (nodes : List Tree) (text : List ℕ) (o : Op) (kids : List Tree) → has_parts o ≡ true → NamesNode nodes text o kids → Flat text
names_flat nodes _ _ _ h (op_and_kids {text} {kids} o names) = both_flat (op_text o) text (op_flat o h) (each_flat nodes text kids names)

node_flat : (nodes : List Tree) (text : List ℕ) (t : Tree) → IsNode nodes text t → Flat text
node_flat nodes _ _ (new_node {text} {op = o} {kids} names new) = names_flat nodes text o kids new.fits.parts_fit names

pub node_line_flat : (nodes : List Tree) (line : List ℕ) (number : ℕ) (t : Tree) → IsNodeLine nodes line number t → Flat line
node_line_flat nodes _ _ _ (node_line {n} {text} {number} {t} is of) =
    around (codes "node " ++ n) (codes " ") text (both_flat (codes "node ") n refl (number_flat n number is)) refl (node_flat nodes text t of)

-- ---- steps

module _ (nodes : List Tree) where
  sequent_flat : (text : List ℕ) (s : Sequent) → NamesSequent nodes text s → Flat text
  sequent_flat _ _ (sides {left} {right} {s} before each a b) =
      around left (codes "==>") right (before_flat nodes left s.ante before) refl (each_flat nodes right s.succ each)

  formula_flat : (text : List ℕ) (h : Tree) → NamesFormula nodes text h → Flat text
  formula_flat _ _ (formula {i} {h} name sort_is) = both_flat (codes "#") i refl (name_flat nodes i h name)

  pair_flat : (text : List ℕ) (p : Pair) → NamesPair nodes text p → Flat text
  pair_flat _ _ (pair {i} {p} symbol name kind) =
      around (spell (shown_symbol p.sym)) (codes "~>") i (symbol_feed p.sym symbol) refl (name_flat nodes i p.by name)

  more_flat : (text : List ℕ) (ps : List Pair) → NamesMorePairs nodes text ps → Flat text
  more_flat _ _ no_more_pairs = refl
  more_flat _ _ (one_more_pair {text} {rest} {p} {pairs} first others) =
      both_flat (codes "," ++ text) rest (both_flat (codes ",") text refl (pair_flat text p first)) (more_flat rest pairs others)

  pairs_flat : (text : List ℕ) (ps : List Pair) → NamesPairs nodes text ps → Flat text
  pairs_flat _ _ no_pairs = refl
  pairs_flat _ _ (first_pair {text} {rest} {p} {pairs} first others) = both_flat text rest (pair_flat text p first) (more_flat rest pairs others)

  arguments_flat : (text : List ℕ) (a : Arguments) → IsArguments (ByNodes nodes) text a → Flat text
  arguments_flat _ _ (one_place {i} {at} is) = number_flat i at is
  arguments_flat _ _ (two_places {i} {k} {first} {second} is also) = around i (codes ",") k (number_flat i first is) refl (number_flat k second also)
  arguments_flat _ _ (place_and_formula {i} {at} {h} text is of) = around i (codes ",") text (number_flat i at is) refl (formula_flat text h of)
  arguments_flat _ _ (one_formula {text} {h} of) = formula_flat text h of
  arguments_flat _ _ (place_and_name {i} {at} y is name) = around i (codes ",") y (number_flat i at is) refl (name_lacks 10 refl y name)

  rule_word_flat : (r : Rule) → Flat (word_of r)
  rule_word_flat (Close i j) = refl
  rule_word_flat _ = refl

  rule_flat : (text : List ℕ) (r : Rule) → IsRule (ByNodes nodes) text r → Flat text
  rule_flat _ _ (rule {arguments} made of) =
      let opened = around (word_of made) (codes "(") arguments (rule_word_flat made) refl (arguments_flat arguments _ of) in
      both_flat (word_of made ++ codes "(" ++ arguments) (codes ")") opened refl

  -- a word that ends in a space, and a number
  fact_flat : (word f : List ℕ) (fact : ℕ) → Flat word → IsNumber f fact → Flat (word ++ f)
  fact_flat word f fact h is = both_flat word f h (number_flat f fact is)

  step_flat : (text : List ℕ) (s : Step) → IsStep (ByNodes nodes) text s → Flat text
  step_flat _ _ (start {s} text of) = both_flat (codes "start ") text refl (sequent_flat text s of)
  step_flat _ _ (use_axiom {name} is) = both_flat (codes "axiom ") name refl (name_lacks 10 refl name is)
  step_flat _ _ (use_rule {name} is) = both_flat (codes "rule ") name refl (name_lacks 10 refl name is)
  step_flat _ _ (leaf {s} text of) = both_flat (codes "leaf ") text refl (sequent_flat text s of)
  step_flat _ _ (apply {f} {g} {r} {fact} {goal} {rule = made} a b of) =
      around (codes "apply " ++ f ++ codes " " ++ g) (codes " ") r
      (around (codes "apply " ++ f) (codes " ") g (fact_flat (codes "apply ") f fact refl a) refl (number_flat g goal b)) refl (rule_flat r made of)
  step_flat _ _ (merge {f} {g} {b = last} {fact} {goal} {by} a b c) =
      around (codes "merge " ++ f ++ codes " " ++ g) (codes " ") last
      (around (codes "merge " ++ f) (codes " ") g (fact_flat (codes "merge ") f fact refl a) refl (number_flat g goal b)) refl (number_flat last by c)
  step_flat _ _ (substitute {f} {fact} {pairs} text a of) =
      around (codes "subst " ++ f) (codes " ") text (fact_flat (codes "subst ") f fact refl a) refl (pairs_flat text pairs of)
  step_flat _ _ (rename {f} {x} {y} {fact} a b c) =
      around (codes "rename " ++ f ++ codes " " ++ x) (codes " ") y
      (around (codes "rename " ++ f) (codes " ") x (fact_flat (codes "rename ") f fact refl a) refl (name_lacks 10 refl x b)) refl (name_lacks 10 refl y c)

  pub step_line_flat : (line : List ℕ) (number : ℕ) (s : Step) → IsStepLine (ByNodes nodes) line number s → Flat line
  step_line_flat _ _ _ (numbered {n} {text} {number} {step} is of) = around n (codes " ") text (number_flat n number is) refl (step_flat text step of)

-- the law
pub line_flat : (nodes : List Tree) (text : List ℕ) (line : Line) → IsLine nodes text line → Flat text
line_flat nodes _ _ (of_node {text} {number} {t} is) = node_line_flat nodes text number t is
line_flat nodes _ _ (of_step {text} {number} {step} is) = step_line_flat nodes text number step is
line_flat nodes _ _ done = refl
