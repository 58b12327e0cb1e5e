-- The grammar of what a use of an axiom is given beside its name, one case a production, and what its tokens say.
use Rattle.std.specs.Prelude.{List, [], ◌∷◌, ◌++◌, ℕ}
use Rattle.dlk_calculus.specs.Pairs.{Extra}
use Rattle.dlk_grammar.specs.declared.token.Token.{Token}
use Rattle.dlk_grammar.specs.declared.token.Dots.TheVariants.{Allowed}
use Rattle.dlk_grammar.specs.Lexemes.{Word, Lexeme, Name, Comma, Swaps}
use Rattle.dlk_grammar.specs.Phrases.{Phrase}
use Rattle.dlk_grammar.specs.Readings.{ReadFault, IsRead, IsReadFault}
use Rattle.dlk_grammar.specs.Substitutions.{PairPhrase, ReadsPairs, ReadsSubstitution, replacements, erase_pairs}

-- a name, and the one that it gets
abbrev pub Rename : Type 0
Rename = Word × Word

-- names with the names that they get, and pairs as they are written
pub record ExtraPhrase : Type 0 where
  pub renames : List Rename
  pub pairs : List PairPhrase

-- ren = name "~~" name
pub data ReadsRename : List Lexeme → Rename → Type 0 where
  rename-names : {n m : ℕ} {x y : Word} → ReadsRename (Name n x ∷ Swaps ∷ Name m y ∷ []) (x, y)

-- ren-list = ren | ren-list "," ren
pub data ReadsRenames : List Lexeme → List Rename → Type 0 where
  renames-one : {s : List Lexeme} {q : Rename} → ReadsRename s q → ReadsRenames s (q ∷ [])
  renames-more : {s r : List Lexeme} {l : List Rename} {q : Rename} → ReadsRenames s l → ReadsRename r q → ReadsRenames (s ++ Comma ∷ r) (l ++ q ∷ [])

-- extra = subst | ren-list | ren-list "," pair-list
pub data ReadsExtra : List Lexeme → ExtraPhrase → Type 0 where
  extra-subst : {s : List Lexeme} {l : List PairPhrase} → ReadsSubstitution s l → ReadsExtra s (record { renames = []; pairs = l })
  extra-renames : {s : List Lexeme} {n : List Rename} → ReadsRenames s n → ReadsExtra s (record { renames = n; pairs = [] })
  extra-both : {s r : List Lexeme} {n : List Rename} {l : List PairPhrase} → ReadsRenames s n → ReadsPairs r l
      → ReadsExtra (s ++ Comma ∷ r) (record { renames = n; pairs = l })

-- the read trees are the replacements
abbrev pub extra_replacements : ExtraPhrase → List Phrase
extra_replacements e = replacements e.pairs

abbrev pub erase_extra : ExtraPhrase → Extra
erase_extra e = record { renames = e.renames; pairs = erase_pairs e.pairs }

-- the tokens are those of the renames and the pairs; dots are allowed
abbrev pub AreExtra : List Token → Extra → Type 0
AreExtra tokens extra = IsRead ReadsExtra extra_replacements Allowed tokens erase_extra extra

abbrev pub AreExtraFault : List Token → ReadFault → Type 0
AreExtraFault tokens why = IsReadFault ReadsExtra extra_replacements Allowed tokens why
