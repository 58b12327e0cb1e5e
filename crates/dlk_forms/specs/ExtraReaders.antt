-- How the reader of renames and pairs shows the machine's states, and what comes of it.
use Rattle.std.specs.Prelude.{◌≡◌, List, [], Option, Some}
use Rattle.dlk_grammar.specs.declared.token.Dots.TheVariants.{Allowed}
use Rattle.dlk_grammar.specs.Lexemes.{Lexeme}
use Rattle.dlk_grammar.specs.Extras.{Rename}
use Rattle.dlk_machine.specs.Machine.{◌>>=◌}
use Rattle.dlk_machine.specs.Pairs.{PairsState, pairs_step}
use Rattle.dlk_machine.specs.Extras.{ExtraState, InPairs, NewWanted, Renamed, extra_reader}
use Rattle.dlk_reader.specs.Outcomes.{Outcome}
use Rattle.dlk_forms.specs.Parsing.{Comes}
use Rattle.dlk_forms.specs.PairReaders.{Rests, ShowsPairsAt}
use Rattle.dlk_forms.specs.Said.{IsCodeOfExtra}
use Rattle.dlk_forms.specs.declared.pairs.PairMode.{PairMode}
use Rattle.dlk_forms.specs.declared.extras.ExtraMode.{ExtraMode}
use Rattle.dlk_forms.specs.declared.extras.ExtraMode.TheVariants as mode
use Rattle.dlk_forms.specs.declared.extras.ExtraSoFar.{ExtraSoFar}
use Rattle.dlk_forms.specs.declared.extras.ExtraReader.{ExtraReader}
use Rattle.dlk_forms.specs.declared.extras.ExtraCode.{ExtraCode}

-- a lexeme that is the pairs'
abbrev pub pairs_go_on : List Rename → PairsState → Lexeme → Option ExtraState
pairs_go_on l x k = pairs_step x k >>= λ y. Some (InPairs l y)

-- the renames so far, and what is read of the pairs
pub record ShowsInPairs (r : ExtraSoFar) (m : Option PairMode) (x : ExtraState) : Type 0 where
  pub inner : PairsState
  pub state : x ≡ InPairs r.renames.items inner
  pub shows : ShowsPairsAt r.pairs m inner

-- a state in which nothing is read of the pairs
pub record ShowsRenames (r : ExtraSoFar) (x y : ExtraState) : Type 0 where
  pub state : x ≡ y
  pub rests : Rests r.pairs []

abbrev pub ShowsExtraAt : ExtraSoFar → ExtraMode → ExtraState → Type 0
ShowsExtraAt r (mode.InPairs m) x = ShowsInPairs r m x
ShowsExtraAt r (mode.NewWanted y) x = ShowsRenames r x (NewWanted r.renames.items y)
ShowsExtraAt r mode.Renamed x = ShowsRenames r x (Renamed r.renames.items)

abbrev pub ShowsExtra : ExtraReader → ExtraState → Type 0
ShowsExtra r x = ShowsExtraAt r.extra r.mode x

-- What comes of the reader.
abbrev pub ExtraComes : ExtraReader → List Lexeme → Outcome ExtraCode → Type 0
ExtraComes r s o = Comes Allowed extra_reader ShowsExtra IsCodeOfExtra r s o
