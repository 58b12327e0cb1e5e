-- From what the tokens of a substitution say to its pairs.
use Rattle.std.proofs.Common.{◌≡◌, List, [], ◌∷◌, length, map, refl, sym, ap, subst, ◌∙◌}
use Rattle.std.specs.Prelude.{All, flat_map}
use Rattle.std.proofs.lemmas.List.Elements.{All-map}
use Rattle.dlk_tree.specs.Trees.{Tree, WellMade}
use Rattle.dlk_calculus.specs.Pairs.{Pair as TreePair}
use Rattle.dlk_store.specs.declared.Id.{Id}
use Rattle.dlk_store.specs.Stores.{IsId, tree}
use Rattle.dlk_sequent.specs.Substitutions.{pairs_at, AreKnownPairs}
use Rattle.dlk_sequent.specs.declared.subst.Pair.{Pair}
use Rattle.dlk_grammar.specs.declared.token.Token.{Token}
use Rattle.dlk_grammar.specs.declared.token.Dots.TheVariants.{Allowed}
use Rattle.dlk_grammar.specs.RealTokens.{AreTokens}
use Rattle.dlk_grammar.specs.Erased.{erase, ills}
use Rattle.dlk_grammar.specs.Substitutions.{PairPhrase, ReadsSubstitution, replacements, erase_pairs, ArePairs, ArePairsFault}
use Rattle.dlk_machine.proofs.ParseLaws.{one_pairs_read}
use Rattle.dlk_machine.proofs.TextLaws.{pairs_ills_below, pairs_well_made}
use Rattle.dlk_parse.specs.Faults.{IsParseFaultOf}
use Rattle.dlk_lex.specs.Noted.{starts_of}
use Rattle.dlk_parse.specs.Limits.{AreWithinTokenLimits}
use Rattle.dlk_parse.specs.Made.{IsWellMade, AreMade}
use Rattle.dlk_forms.specs.Said.{SaysPairs}
use Rattle.dlk_parse.specs.Said.{AreReadPairs, HasPlaces, IsWithin, IsCodeBeyond}
use Rattle.dlk_parse.specs.declared.fault.ParseFault.{ParseFault}
use Rattle.dlk_forms.specs.declared.pairs.PairsCode.{PairsCode}
use Rattle.dlk_parse.proofs.Reports.{beyond, faultless}
use Rattle.dlk_parse.proofs.SaidLaws.{least_among, among_starts, All-from_map}

-- pairs with the symbols and the replacements of those that were read
pub same_pairs : (trees : List Tree) (l : List PairPhrase) (pairs : List Pair) → map (λ p. p.sym) pairs ≡ map (λ p. p.sym) l
    → map (tree trees) (map (λ p. p.by) pairs) ≡ map erase (replacements l) → pairs_at trees pairs ≡ erase_pairs l
same_pairs trees [] [] e f = refl
same_pairs trees [] (p ∷ pairs) e f = absurd cc
same_pairs trees (q ∷ l) [] e f = absurd cc
same_pairs trees (q ∷ l) (p ∷ pairs) e f =
    let s : p.sym ≡ q.sym = cc in
    let t : tree trees p.by ≡ erase q.by = cc in
    let r : pairs_at trees pairs ≡ erase_pairs l = same_pairs trees l pairs (cc) (cc) in
    λ i. record { sym = s i; by = t i } ∷ r i

module _ (tokens : List Token) where
  module _ (c : PairsCode) where
    pub pairs_places : SaysPairs tokens c → HasPlaces c.code.items (starts_of tokens)
    pairs_places h = record {
      phrases = replacements h.said;
      code_is = h.shown.code;
      below = λ place e. among_starts tokens place
          (least_among (length tokens) place (flat_map ills (replacements h.said)) (pairs_ills_below tokens h.said h.says.reads) e);
    }

    pub pairs_beyond : AreWithinTokenLimits tokens → SaysPairs tokens c → (e : ParseFault) → IsCodeBeyond c.code.items (starts_of tokens) e →
        IsParseFaultOf (ArePairsFault tokens) e
    pairs_beyond calm h e b = beyond ReadsSubstitution replacements one_pairs_read Allowed tokens calm h.said h.says e
        (b.of_phrases (replacements h.said) h.shown.code)

    pub pairs_within : AreWithinTokenLimits tokens → SaysPairs tokens c → IsWithin c.code.items → AreReadPairs tokens c
    pairs_within calm h w = record {
      said = h.said;
      says = h.says;
      shown = h.shown;
      no_fault = faultless ReadsSubstitution replacements one_pairs_read Allowed tokens calm h.said h.says (w.of_phrases (replacements h.said) h.shown.code);
    }

    module _ (h : AreReadPairs tokens c) where
      are_pairs : ArePairs tokens (erase_pairs h.said)
      are_pairs = record { phrase = h.said; says = h.says; value_is = refl; no_fault = h.no_fault }

      pub pairs_code_made : AreTokens tokens → IsWellMade c.code.items
      pairs_code_made real =
          let made = All-from_map (λ (p : TreePair). WellMade p.by) (λ (p : PairPhrase). record { sym = p.sym; by = erase p.by }) h.said
          (pairs_well_made tokens (erase_pairs h.said) real are_pairs) in
          record { phrases = replacements h.said; code_is = h.shown.code; well_made = All-map (λ p. WellMade (erase p)) (λ (p : PairPhrase). p.by) h.said made }

      module _ (trees : List Tree) (ids : List Id) (made : AreMade c.code.items trees ids) where
        made_are : map (tree trees) ids ≡ map erase (replacements h.said)
        made_are = made.of_phrases (replacements h.said) h.shown.code

        pub pairs_found : (pairs : List Pair) → map (λ p. p.sym) pairs ≡ c.symbols.items → map (λ p. p.by) pairs ≡ ids → ArePairs tokens (pairs_at trees pairs)
        pairs_found pairs e f =
            subst (ArePairs tokens) (sym (same_pairs trees h.said pairs (e ∙ h.shown.symbols) (ap (map (tree trees)) f ∙ made_are))) are_pairs

pub pairs_known : (trees : List Tree) (ids : List Id) (pairs : List Pair) → map (λ p. p.by) pairs ≡ ids → All (IsId trees) ids → AreKnownPairs trees pairs
pairs_known trees ids pairs e all = All-from_map (IsId trees) (λ (p : Pair). p.by) pairs (subst (All (IsId trees)) (sym e) all)
