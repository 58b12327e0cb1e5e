-- What reading answers, as what the tokens say.
use Rattle.std.proofs.Common.{◌≡◌, ℕ, List, [], ◌∷◌, ◌++◌, Result, Ok, Err, refl, sym, ap, ◌∙◌}
use Rattle.std.specs.Prelude.{flat_map, IfOk, IfErr}
use Rattle.std.specs.Global.{Vec}
use Rattle.std.proofs.lemmas.Grind.{flat_map-append}
use Rattle.std.proofs.lemmas.List.{append-nil}
use Rattle.dlk_grammar.specs.declared.token.Dots.{Dots}
use Rattle.dlk_grammar.specs.declared.token.Dots.TheVariants.{Allowed, Refused}
use Rattle.dlk_grammar.specs.declared.token.Form.{Form}
use Rattle.dlk_grammar.specs.declared.token.Token.{Token}
use Rattle.dlk_grammar.specs.Lexemes.{Lexeme, lexemes}
use Rattle.dlk_grammar.specs.Phrases.{Phrase, Phrases, none, snoc}
use Rattle.dlk_grammar.specs.Grammar.{Sides, Turned, ReadsSequent}
use Rattle.dlk_grammar.specs.Readings.{Stops, grammar, itself, phrases_in, both_sides}
use Rattle.dlk_grammar.specs.Substitutions.{ReadsSubstitution, replacements}
use Rattle.dlk_grammar.specs.Extras.{ReadsExtra, extra_replacements}
use Rattle.dlk_machine.specs.Parse.{Machine, parse}
use Rattle.dlk_machine.specs.Forms.{machine_of}
use Rattle.dlk_machine.specs.Sequents.{sequent_reader}
use Rattle.dlk_machine.specs.Pairs.{pairs_reader}
use Rattle.dlk_machine.specs.Extras.{extra_reader}
use Rattle.dlk_machine.proofs.ParseLaws.{form_read_says, form_fault_stops, sequent_read_says, sequent_fault_stops, pairs_read_says, pairs_fault_stops}
use Rattle.dlk_machine.proofs.ParseLaws.{extra_read_says, extra_fault_stops}
use Rattle.dlk_reader.specs.Codes.{postfix, postfix_all}
use Rattle.dlk_reader.specs.declared.code.Code.{Code}
use Rattle.dlk_reader.specs.declared.stop.Stop.{Stop}
use Rattle.dlk_reader.specs.declared.stop.Stop.TheVariants.{Memory, BadByte, Syntax}
use Rattle.dlk_reader.specs.Outcomes.{ReadsTokens}
use Rattle.dlk_forms.specs.Parsing.{IsParsed, Comes, ReadsAs}
use Rattle.dlk_forms.specs.Readers.{ShowsTree, IsTreeCode, IsCodeOf, TreeComes, tree_start}
use Rattle.dlk_forms.specs.Said.{SaysCode, SaysSides, SaysPairs, IsCodeOfPairs, SaysExtra, IsCodeOfExtra, IsStop}
use Rattle.dlk_forms.specs.declared.pairs.PairsCode.{PairsCode}
use Rattle.dlk_forms.specs.declared.extras.ExtraCode.{ExtraCode}
use Rattle.dlk_forms.specs.declared.sides.SidesCode.{SidesCode}
use Rattle.dlk_forms.specs.declared.trees.TreeReader.{TreeReader}
use Rattle.dlk_forms.proofs.Parsing.{each, reads, reads_each}

module _ {X P V : Type 0} (d : Dots) (m : Machine X P) (is_code : V → P → Type 0) (tokens : List Token) where
  says : (Q : V → Type 0) → ((v : V) → IsParsed is_code v (parse d m (lexemes tokens)) → Q v) → (result : Result V Stop)
      → ReadsAs d m is_code tokens result → IfOk result Q
  says Q f (Ok v) h = f v h
  says Q f (Err why) h = tt

  module _ (G : List Lexeme → P → Type 0) (parts : P → List Phrase) (law : (s : List Lexeme) (n : ℕ) → parse d m s ≡ Err n → Stops d G s n) where
    stop : (why : Stop) → ReadsAs {V = V} d m is_code tokens (Err why) → IsStop G parts d tokens why
    stop Memory h = tt
    stop (BadByte at) h = absurd h
    stop (Syntax at) h = (h.0, law (lexemes tokens) h.0 h.1, h.2)

    stops : (result : Result V Stop) → ReadsAs d m is_code tokens result → IfErr result (IsStop G parts d tokens)
    stops (Ok v) h = tt
    stops (Err why) h = stop why h

-- the operators of formulas are those of each
pub postfix_all_is : (l : Phrases) → postfix_all l ≡ flat_map postfix (phrases_in l)
postfix_all_is none = refl
postfix_all_is (snoc l a) =
    ap (λ (c : List Code). c ++ postfix a) (postfix_all_is l)
    ∙ ap (λ (c : List Code). flat_map postfix (phrases_in l) ++ c) (sym (append-nil (postfix a)))
    ∙ sym (flat_map-append postfix (phrases_in l) (a ∷ []))

both : (l m : Phrases) → postfix_all l ++ postfix_all m ≡ flat_map postfix (phrases_in l ++ phrases_in m)
both l m =
    ap (λ (c : List Code). c ++ postfix_all m) (postfix_all_is l)
    ∙ ap (λ (c : List Code). flat_map postfix (phrases_in l) ++ c) (postfix_all_is m)
    ∙ sym (flat_map-append postfix (phrases_in l) (phrases_in m))

-- what comes of the readers where they start
pub tree_reads : (d : Dots) (wanted : Form) (r : TreeReader) (tokens : List Token) (result : Result (Vec Code) Stop)
    → ShowsTree d wanted r (tree_start wanted) → ReadsTokens TreeComes r tokens result → ReadsAs d (machine_of wanted) IsTreeCode tokens result
tree_reads d wanted r tokens result w h =
    let comes = λ (d : Dots) (wanted : Form). Comes d (machine_of wanted) (ShowsTree d wanted) IsTreeCode in
    let all = reads_each (λ (d : Dots). each (comes d)) r tokens result d h in
    reads d (machine_of wanted) (ShowsTree d wanted) IsTreeCode r tokens result w (reads_each (comes d) r tokens result wanted all)

-- a tree
module _ (d : Dots) (wanted : Form) (tokens : List Token) (result : Result (Vec Code) Stop) (h : ReadsAs d (machine_of wanted) IsTreeCode tokens result) where
  pub tree_says : IfOk result (λ v. SaysCode (grammar wanted) itself d tokens v.items)
  tree_says = says d (machine_of wanted) IsTreeCode tokens (λ v. SaysCode (grammar wanted) itself d tokens v.items) said result h
    where
      said : (v : Vec Code) → IsParsed IsTreeCode v (parse d (machine_of wanted) (lexemes tokens)) → SaysCode (grammar wanted) itself d tokens v.items
      said v p = record { said = p.said; says = form_read_says d wanted (lexemes tokens) p.said p.parsed; code_is = p.code ∙ sym (append-nil (postfix p.said)) }

  pub tree_stops : IfErr result (IsStop (grammar wanted) itself d tokens)
  tree_stops = stops d (machine_of wanted) IsTreeCode tokens (grammar wanted) itself (form_fault_stops d wanted) result h

-- a sequent
module _ (tokens : List Token) (result : Result SidesCode Stop) (h : ReadsAs Refused sequent_reader IsCodeOf tokens result) where
  sides_of : (c : SidesCode) (s : Sides) → parse Refused sequent_reader (lexemes tokens) ≡ Ok s → IsCodeOf c s → SaysSides tokens c
  sides_of c (Turned l m) e w = record {
    said = Turned l m;
    says = sequent_read_says Refused (lexemes tokens) (Turned l m) e;
    code_is = w.code
        ∙ both l m;
    left_is = w.left;
  }

  pub sides_says : IfOk result (SaysSides tokens)
  sides_says = says Refused sequent_reader IsCodeOf tokens (SaysSides tokens) (λ c p. sides_of c p.said p.parsed p.code) result h

  pub sides_stops : IfErr result (IsStop ReadsSequent both_sides Refused tokens)
  sides_stops = stops Refused sequent_reader IsCodeOf tokens ReadsSequent both_sides (sequent_fault_stops Refused) result h

-- a substitution
module _ (tokens : List Token) (result : Result PairsCode Stop) (h : ReadsAs Allowed pairs_reader IsCodeOfPairs tokens result) where
  pub pairs_says : IfOk result (SaysPairs tokens)
  pairs_says = says Allowed pairs_reader IsCodeOfPairs tokens (SaysPairs tokens)
      (λ c p. record { said = p.said; says = pairs_read_says (lexemes tokens) p.said p.parsed; shown = p.code }) result h

  pub pairs_stops : IfErr result (IsStop ReadsSubstitution replacements Allowed tokens)
  pairs_stops = stops Allowed pairs_reader IsCodeOfPairs tokens ReadsSubstitution replacements pairs_fault_stops result h

-- renames and pairs
module _ (tokens : List Token) (result : Result ExtraCode Stop) (h : ReadsAs Allowed extra_reader IsCodeOfExtra tokens result) where
  pub extra_says : IfOk result (SaysExtra tokens)
  extra_says = says Allowed extra_reader IsCodeOfExtra tokens (SaysExtra tokens)
      (λ c p. record { said = p.said; says = extra_read_says (lexemes tokens) p.said p.parsed; shown = p.code }) result h

  pub extra_stops : IfErr result (IsStop ReadsExtra extra_replacements Allowed tokens)
  extra_stops = stops Allowed extra_reader IsCodeOfExtra tokens ReadsExtra extra_replacements extra_fault_stops result h
