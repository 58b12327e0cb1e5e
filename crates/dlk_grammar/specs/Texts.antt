-- What texts of trees, sequents, substitutions and extras say, and why a text is none.
use Rattle.std.specs.Prelude.{ℕ, List}
use Rattle.dlk_tree.specs.Trees.{Tree}
use Rattle.dlk_calculus.specs.Pairs.{Pair, Extra}
use Rattle.dlk_calculus.specs.Sequents.{Sequent as TreeSequent}
use Rattle.dlk_grammar.specs.declared.token.Token.{Token}
use Rattle.dlk_grammar.specs.declared.token.Dots.{Dots}
use Rattle.dlk_grammar.specs.declared.token.Form.{Form}
use Rattle.dlk_grammar.specs.Splits.{Splits, BadAt}
use Rattle.dlk_grammar.specs.Readings.{ReadFault, IsTree, IsTreeFault, IsSequentOf, IsSequentFault}
use Rattle.dlk_grammar.specs.Substitutions.{ArePairs, ArePairsFault}
use Rattle.dlk_grammar.specs.Extras.{AreExtra, AreExtraFault}

-- the bytes are a text of the tree
pub record TreeText (form : Form) (d : Dots) (bytes : List ℕ) (t : Tree) : Type 0 where
  pub tokens : List Token
  pub splits : Splits 0 bytes tokens
  pub reads : IsTree form d tokens t

-- the bytes are a text of the sequent
pub record SequentText (bytes : List ℕ) (s : TreeSequent) : Type 0 where
  pub tokens : List Token
  pub splits : Splits 0 bytes tokens
  pub reads : IsSequentOf tokens s

-- the bytes are a text of the pairs
pub record PairsText (bytes : List ℕ) (pairs : List Pair) : Type 0 where
  pub tokens : List Token
  pub splits : Splits 0 bytes tokens
  pub reads : ArePairs tokens pairs

-- the bytes are a text of the renames and the pairs
pub record ExtraText (bytes : List ℕ) (extra : Extra) : Type 0 where
  pub tokens : List Token
  pub splits : Splits 0 bytes tokens
  pub reads : AreExtra tokens extra

-- why bytes are no text
pub data TextFault : Type 0 where
  -- no token, space or whole comment begins at this byte
  BadByte : ℕ → TextFault
  -- the tokens aren't read
  Unread : ReadFault → TextFault

-- why the bytes are no text of a tree; by a law at most one fault applies
abbrev pub TreeTextFault : Form → Dots → List ℕ → TextFault → Type 0
TreeTextFault form d bytes (BadByte at) = BadAt 0 bytes at
TreeTextFault form d bytes (Unread why) = (tokens : List Token) × Splits 0 bytes tokens × IsTreeFault form d tokens why

abbrev pub SequentTextFault : List ℕ → TextFault → Type 0
SequentTextFault bytes (BadByte at) = BadAt 0 bytes at
SequentTextFault bytes (Unread why) = (tokens : List Token) × Splits 0 bytes tokens × IsSequentFault tokens why

abbrev pub PairsTextFault : List ℕ → TextFault → Type 0
PairsTextFault bytes (BadByte at) = BadAt 0 bytes at
PairsTextFault bytes (Unread why) = (tokens : List Token) × Splits 0 bytes tokens × ArePairsFault tokens why

abbrev pub ExtraTextFault : List ℕ → TextFault → Type 0
ExtraTextFault bytes (BadByte at) = BadAt 0 bytes at
ExtraTextFault bytes (Unread why) = (tokens : List Token) × Splits 0 bytes tokens × AreExtraFault tokens why
