-- The words that a step is known by.
use Rattle.std.specs.Prelude.{◌≡◌, ℕ, List, [], ◌∷◌, ◌++◌, length, map, flat_map, Option, Some, None}
use Rattle.dlk_tree.specs.declared.op.Sym.{Sym}
use Rattle.dlk_tree.specs.Tests.{kind_rank}
use Rattle.dlk_tree.specs.Trees.{Tree}
use Rattle.dlk_store.specs.declared.Id.{Id}
use Rattle.dlk_store.specs.Stores.{IsId, tree}
use Rattle.dlk_calculus.specs.Rules.{Arguments as TreeArguments, OnePlace, TwoPlaces, PlaceAndFormula, OneFormula, PlaceAndName, word_of, arguments_of}
use Rattle.dlk_calculus.specs.Steps.{Step, Start, UseAxiom, UseRule, Leaf, Apply, Merge, Substitute, Rename}
use Rattle.dlk_sequent.specs.declared.sequent.Sequent.{Sequent}
use Rattle.dlk_sequent.specs.declared.subst.Pair.{Pair}
use Rattle.dlk_sequent.specs.Sequents.{sequent_at, IsKnown}
use Rattle.dlk_sequent.specs.Substitutions.{pairs_at, AreKnownPairs}

-- items behind their number
abbrev pub counted : List ℕ → List ℕ
counted items = length items ∷ items

abbrev pub index : Id → ℕ
index id = id.0

abbrev pub sequent_words : Sequent → List ℕ
sequent_words s = counted (map index s.ante) ++ counted (map index s.succ)

abbrev pub taboo_words : Option (List ℕ) → List ℕ
taboo_words None = 0 ∷ []
taboo_words (Some y) = 1 ∷ counted y

abbrev pub sym_words : Sym → List ℕ
sym_words s = kind_rank s.kind ∷ s.arity ∷ (counted s.name ++ taboo_words s.taboo)

abbrev pub pair_words : Pair → List ℕ
pair_words pair = index pair.by ∷ sym_words pair.sym

abbrev pub pairs_words : List Pair → List ℕ
pairs_words pairs = length pairs ∷ flat_map pair_words pairs

-- the words of the arguments of a rule
abbrev pub AreArguments : List Tree → TreeArguments → List ℕ → Type 0
AreArguments trees (OnePlace i) words = words ≡ 0 ∷ i ∷ []
AreArguments trees (TwoPlaces i k) words = words ≡ 1 ∷ i ∷ k ∷ []
AreArguments trees (PlaceAndFormula i h) words = (id : Id) × IsId trees id × (tree trees id ≡ h) × (words ≡ 2 ∷ i ∷ index id ∷ [])
AreArguments trees (OneFormula h) words = (id : Id) × IsId trees id × (tree trees id ≡ h) × (words ≡ 3 ∷ index id ∷ [])
AreArguments trees (PlaceAndName i y) words = words ≡ 4 ∷ i ∷ counted y

-- IsKey trees step words: these are the words of the step over the trees of a store; one row a step
abbrev pub IsKey : List Tree → Step → List ℕ → Type 0
IsKey trees (Start s) words = (ids : Sequent) × IsKnown trees ids × (sequent_at trees ids ≡ s) × (words ≡ 0 ∷ sequent_words ids)
IsKey trees (UseAxiom name) words = words ≡ 1 ∷ counted name
IsKey trees (UseRule name) words = words ≡ 2 ∷ counted name
IsKey trees (Leaf s) words = (ids : Sequent) × IsKnown trees ids × (sequent_at trees ids ≡ s) × (words ≡ 3 ∷ sequent_words ids)
IsKey trees (Apply fact goal rule) words =
    (arguments : List ℕ) × AreArguments trees (arguments_of rule) arguments × (words ≡ 4 ∷ fact ∷ goal ∷ (counted (word_of rule) ++ arguments))
IsKey trees (Merge fact goal by) words = words ≡ 5 ∷ fact ∷ goal ∷ by ∷ []
IsKey trees (Substitute fact pairs) words = (ids : List Pair) × AreKnownPairs trees ids × (pairs_at trees ids ≡ pairs) × (words ≡ 6 ∷ fact ∷ pairs_words ids)
IsKey trees (Rename fact x y) words = words ≡ 7 ∷ fact ∷ (counted x ++ counted y)
