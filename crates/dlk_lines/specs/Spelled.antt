-- How the trees of a step are spelled: in full, or by the numbers of nodes.
use Rattle.std.specs.Prelude.{◌≡◌, ℕ, List, [], ◌∷◌, ◌++◌, IsTrue, All, codes}
use Rattle.dlk_tree.specs.declared.op.Sort.TheVariants.{Formula as OfFormulas}
use Rattle.dlk_tree.specs.Table.{is_sym}
use Rattle.dlk_tree.specs.Trees.{Tree, sort}
use Rattle.dlk_calculus.specs.Pairs.{Pair, is_of_kind}
use Rattle.dlk_calculus.specs.Places.{At}
use Rattle.dlk_calculus.specs.Sequents.{Sequent}
use Rattle.dlk_grammar.specs.declared.token.Form.TheVariants.{Formula}
use Rattle.dlk_grammar.specs.declared.token.Dots.TheVariants.{Refused}
use Rattle.dlk_grammar.specs.Shown.{spell}
use Rattle.dlk_grammar.specs.Symbols.{shown_symbol}
use Rattle.dlk_grammar.specs.Texts.{TreeText, SequentText, PairsText}
use Rattle.dlk_lines.specs.Numbers.{IsNumber}

-- in full, as texts of trees, or by the numbers of these nodes
pub data Spelling : Type 0 where
  InFull : Spelling
  ByNodes : List Tree → Spelling

-- Names items text x: the text is the number of the item, as of a tree's node
pub record Names {A : Type 0} (items : List A) (text : List ℕ) (x : A) : Type 0 where
  pub number : ℕ
  pub is_number : IsNumber text number
  pub there : At items number x

-- numbers one after another, each behind a space
pub data NamesEach {A : Type 0} (items : List A) : List ℕ → List A → Type 0 where
  none_behind : NamesEach items [] []
  one_behind : {i text : List ℕ} {x : A} {xs : List A} → Names items i x → NamesEach items text xs → NamesEach items (codes " " ++ i ++ text) (x ∷ xs)

-- and each before a space
pub data NamesBefore {A : Type 0} (items : List A) : List ℕ → List A → Type 0 where
  none_before : NamesBefore items [] []
  one_before : {i text : List ℕ} {x : A} {xs : List A} → Names items i x → NamesBefore items text xs → NamesBefore items (i ++ codes " " ++ text) (x ∷ xs)

-- the nodes on the left, `==>`, and those on the right, all of them formulas
pub data NamesSequent (nodes : List Tree) : List ℕ → Sequent → Type 0 where
  sides : {left right : List ℕ} {s : Sequent} → NamesBefore nodes left s.ante → NamesEach nodes right s.succ →
      All (λ t. sort t ≡ OfFormulas) s.ante → All (λ t. sort t ≡ OfFormulas) s.succ → NamesSequent nodes (left ++ codes "==>" ++ right) s

-- `#` and the node of a formula
pub data NamesFormula (nodes : List Tree) : List ℕ → Tree → Type 0 where
  formula : {i : List ℕ} {h : Tree} → Names nodes i h → sort h ≡ OfFormulas → NamesFormula nodes (codes "#" ++ i) h

-- A symbol in its canonical text, `~>`, and a node that the symbol's kind allows. That a function's node is a term, and a predicate's a
-- formula, tells one from the other.
pub data NamesPair (nodes : List Tree) : List ℕ → Pair → Type 0 where
  pair : {i : List ℕ} {p : Pair} → IsTrue (is_sym p.sym) → Names nodes i p.by → IsTrue (is_of_kind p.sym.kind p.by) →
      NamesPair nodes (spell (shown_symbol p.sym) ++ codes "~>" ++ i) p

-- pairs, each behind a `,`
pub data NamesMorePairs (nodes : List Tree) : List ℕ → List Pair → Type 0 where
  no_more_pairs : NamesMorePairs nodes [] []
  one_more_pair : {text rest : List ℕ} {p : Pair} {pairs : List Pair} → NamesPair nodes text p → NamesMorePairs nodes rest pairs →
      NamesMorePairs nodes (codes "," ++ text ++ rest) (p ∷ pairs)

-- pairs with `,` between
pub data NamesPairs (nodes : List Tree) : List ℕ → List Pair → Type 0 where
  no_pairs : NamesPairs nodes [] []
  first_pair : {text rest : List ℕ} {p : Pair} {pairs : List Pair} → NamesPair nodes text p → NamesMorePairs nodes rest pairs →
      NamesPairs nodes (text ++ rest) (p ∷ pairs)

-- what is the text of a sequent
abbrev pub IsSequentText : Spelling → List ℕ → Sequent → Type 0
IsSequentText InFull text s = SequentText text s
IsSequentText (ByNodes nodes) text s = NamesSequent nodes text s

-- of the pairs of a substitution
abbrev pub ArePairsText : Spelling → List ℕ → List Pair → Type 0
ArePairsText InFull text pairs = PairsText text pairs
ArePairsText (ByNodes nodes) text pairs = NamesPairs nodes text pairs

-- and of the formula that a rule is given, in which no argument dot and no `_` stands where it is spelled in full
abbrev pub IsFormulaText : Spelling → List ℕ → Tree → Type 0
IsFormulaText InFull text h = TreeText Formula Refused text h
IsFormulaText (ByNodes nodes) text h = NamesFormula nodes text h
