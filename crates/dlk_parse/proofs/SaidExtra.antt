-- From what the tokens of renames and pairs say to what is read of them.
use Rattle.std.proofs.Common.{◌≡◌, List, length, map, refl, sym, ap, subst, ◌∙◌}
use Rattle.std.specs.Prelude.{flat_map}
use Rattle.std.proofs.lemmas.List.Elements.{All-map}
use Rattle.dlk_tree.specs.Trees.{Tree, WellMade}
use Rattle.dlk_calculus.specs.Pairs.{Pair as TreePair}
use Rattle.dlk_store.specs.declared.Id.{Id}
use Rattle.dlk_store.specs.Stores.{tree}
use Rattle.dlk_sequent.specs.Substitutions.{pairs_at}
use Rattle.dlk_sequent.specs.Extras.{extra_at}
use Rattle.dlk_sequent.specs.declared.extra.Extra.{Extra}
use Rattle.dlk_grammar.specs.declared.token.Token.{Token}
use Rattle.dlk_grammar.specs.declared.token.Dots.TheVariants.{Allowed}
use Rattle.dlk_grammar.specs.RealTokens.{AreTokens}
use Rattle.dlk_grammar.specs.Erased.{erase, ills}
use Rattle.dlk_grammar.specs.Substitutions.{PairPhrase, erase_pairs}
use Rattle.dlk_grammar.specs.Extras.{ReadsExtra, extra_replacements, erase_extra, AreExtra, AreExtraFault}
use Rattle.dlk_machine.proofs.ParseLaws.{one_extra_read}
use Rattle.dlk_machine.proofs.TextLaws.{extra_ills_below, extra_well_made}
use Rattle.dlk_parse.specs.Faults.{IsParseFaultOf}
use Rattle.dlk_lex.specs.Noted.{starts_of}
use Rattle.dlk_parse.specs.Limits.{AreWithinTokenLimits}
use Rattle.dlk_parse.specs.Made.{IsWellMade, AreMade}
use Rattle.dlk_forms.specs.Said.{SaysExtra}
use Rattle.dlk_parse.specs.Said.{IsReadExtra, HasPlaces, IsWithin, IsCodeBeyond}
use Rattle.dlk_parse.specs.declared.fault.ParseFault.{ParseFault}
use Rattle.dlk_forms.specs.declared.extras.ExtraCode.{ExtraCode}
use Rattle.dlk_parse.proofs.Reports.{beyond, faultless}
use Rattle.dlk_parse.proofs.SaidLaws.{least_among, among_starts, All-from_map}
use Rattle.dlk_parse.proofs.SaidPairs.{same_pairs}

module _ (tokens : List Token) (c : ExtraCode) where
  pub extra_places : SaysExtra tokens c → HasPlaces c.pairs.code.items (starts_of tokens)
  extra_places h = record {
    phrases = extra_replacements h.said;
    code_is = h.shown.pairs.code;
    below = λ place e. among_starts tokens place
        (least_among (length tokens) place (flat_map ills (extra_replacements h.said)) (extra_ills_below tokens h.said h.says.reads) e);
  }

  pub extra_beyond : AreWithinTokenLimits tokens → SaysExtra tokens c → (e : ParseFault) → IsCodeBeyond c.pairs.code.items (starts_of tokens) e
      → IsParseFaultOf (AreExtraFault tokens) e
  extra_beyond calm h e b =
      beyond ReadsExtra extra_replacements one_extra_read Allowed tokens calm h.said h.says e (b.of_phrases (extra_replacements h.said) h.shown.pairs.code)

  pub extra_within : AreWithinTokenLimits tokens → SaysExtra tokens c → IsWithin c.pairs.code.items → IsReadExtra tokens c
  extra_within calm h w = record {
    said = h.said;
    says = h.says;
    shown = h.shown;
    no_fault =
        faultless ReadsExtra extra_replacements one_extra_read Allowed tokens calm h.said h.says (w.of_phrases (extra_replacements h.said) h.shown.pairs.code);
  }

  module _ (h : IsReadExtra tokens c) where
    extra_read : AreExtra tokens (erase_extra h.said)
    extra_read = record { phrase = h.said; says = h.says; value_is = refl; no_fault = h.no_fault }

    pub extra_code_made : AreTokens tokens → IsWellMade c.pairs.code.items
    extra_code_made real =
        let made = All-from_map (λ (p : TreePair). WellMade p.by) (λ (p : PairPhrase). record { sym = p.sym; by = erase p.by }) h.said.pairs
        (extra_well_made tokens (erase_extra h.said) real extra_read) in
        record {
          phrases = extra_replacements h.said;
          code_is = h.shown.pairs.code;
          well_made = All-map (λ p. WellMade (erase p)) (λ (p : PairPhrase). p.by) h.said.pairs made;
        }

    pub extra_found : (trees : List Tree) (ids : List Id) → AreMade c.pairs.code.items trees ids → (extra : Extra) → extra.renames ≡ c.renames.items
        → map (λ p. p.sym) extra.pairs ≡ c.pairs.symbols.items → map (λ p. p.by) extra.pairs ≡ ids → AreExtra tokens (extra_at trees extra)
    extra_found trees ids made extra n e f =
        let renames : extra.renames ≡ h.said.renames = n ∙ h.shown.renames in
        let pairs : pairs_at trees extra.pairs ≡ erase_pairs h.said.pairs =
        same_pairs trees h.said.pairs extra.pairs (e ∙ h.shown.pairs.symbols)
        (ap (map (tree trees)) f ∙ made.of_phrases (extra_replacements h.said) h.shown.pairs.code) in
        let same : extra_at trees extra ≡ erase_extra h.said = λ i. record { renames = renames i; pairs = pairs i } in
        subst (AreExtra tokens) (sym same) extra_read
