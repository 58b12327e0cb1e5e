-- The laws of reading: what is parsed is what the lexemes say, what they say is parsed, and a fault is where they stop.
use Rattle.std.proofs.Common.{◌≡◌, ℕ, List, Result, Ok, Err, sym, ◌∙◌}
use Rattle.dlk_tree.specs.declared.op.Sort.{Sort}
use Rattle.dlk_tree.specs.declared.op.Sort.TheVariants.{Term, Formula, Program}
use Rattle.dlk_grammar.specs.declared.token.Dots.{Dots}
use Rattle.dlk_grammar.specs.declared.token.Dots.TheVariants.{Allowed}
use Rattle.dlk_grammar.specs.declared.token.Form.{Form}
use Rattle.dlk_grammar.specs.declared.token.Form.TheVariants as form
use Rattle.dlk_grammar.specs.Lexemes.{Lexeme}
use Rattle.dlk_grammar.specs.Phrases.{Phrase}
use Rattle.dlk_grammar.specs.Grammar.{Nonterminal, Reads, Sides, ReadsSequent, ReadsExpression}
use Rattle.dlk_grammar.specs.Readings.{Says, Stops, grammar}
use Rattle.dlk_grammar.specs.Substitutions.{PairPhrase, ReadsSubstitution}
use Rattle.dlk_grammar.specs.Extras.{ExtraPhrase, ReadsExtra}
use Rattle.dlk_machine.specs.Levels.{form_sort, top}
use Rattle.dlk_machine.specs.Parse.{Machine, parse, reader}
use Rattle.dlk_machine.specs.Forms.{machine_of}
use Rattle.dlk_machine.specs.Expressions.{expression_reader}
use Rattle.dlk_machine.specs.Sequents.{sequent_reader}
use Rattle.dlk_machine.specs.Pairs.{pairs_reader}
use Rattle.dlk_machine.specs.Extras.{extra_reader}
use Rattle.dlk_machine.proofs.Climb.{stands}
use Rattle.dlk_machine.proofs.Opening.{all_permitted}
use Rattle.dlk_machine.proofs.Only.{top_sort}
use Rattle.dlk_machine.proofs.Live.{top_need}
use Rattle.dlk_machine.proofs.Parsing.{Reader, only_text, found_text, stops_text}
use Rattle.dlk_machine.proofs.Reading.{reads_all}
use Rattle.dlk_machine.proofs.ExpressionLaws.{expressions_all}
use Rattle.dlk_machine.proofs.SequentLaws.{sequents_all}
use Rattle.dlk_machine.proofs.PairLaws.{pairs_all}
use Rattle.dlk_machine.proofs.ExtraLaws.{extra_all}

abbrev parsed : {P : Type 0} → P → Result P ℕ
parsed p = Ok p

abbrev fault : {P : Type 0} → ℕ → Result P ℕ
fault n = Err n

no_fault : {P : Type 0} (p : P) (n : ℕ) → parsed p ≡ fault n → ⊥
no_fault p n e = absurd cc

one_parsed : {P : Type 0} (p q : P) → parsed p ≡ parsed q → p ≡ q
one_parsed p q e = cc

-- lexemes say one thing
one : {X P : Type 0} (m : Machine X P) (G : List Lexeme → P → Type 0) → Reader Allowed m G → (s : List Lexeme) (p q : P) → G s p → G s q → p ≡ q
one {X} {P} m G c s p q d e =
    let says : (r : P) → G s r → parse Allowed m s ≡ Ok r = λ r f. only_text m G Allowed c s r (record { reads = f; permitted = all_permitted s }) in
    one_parsed p q (sym (says p d) ∙ says q e)

-- terms, formulas and programs
pub read_says : (d : Dots) (g : Sort) (s : List Lexeme) (p : Phrase) → parse d (reader g) s ≡ Ok p → Says d (Reads (top g)) s p
read_says d g s p e = found_text (reader g) (Reads (top g)) d (reads_all d g) s p e

pub says_read : (d : Dots) (g : Sort) (s : List Lexeme) (p : Phrase) → Says d (Reads (top g)) s p → parse d (reader g) s ≡ Ok p
says_read d g s p h = only_text (reader g) (Reads (top g)) d (reads_all d g) s p h

pub fault_stops : (d : Dots) (g : Sort) (s : List Lexeme) (n : ℕ) → parse d (reader g) s ≡ Err n → Stops d (Reads (top g)) s n
fault_stops d g s n e = stops_text (reader g) (Reads (top g)) d (reads_all d g) s n e

pub one_read : (form : Nonterminal) (s : List Lexeme) (p q : Phrase) → Reads form s p → Reads form s q → p ≡ q
one_read form s p q d e =
    let g = form_sort form in
    let risen : (r : Phrase) → Reads form s r → Reads (top g) s r = λ r f. stands form (top g) s r (top_need g form) (sym (top_sort g)) f in
    one (reader g) (Reads (top g)) (reads_all Allowed g) s p q (risen p d) (risen q e)

-- expressions
pub expression_read_says : (d : Dots) (s : List Lexeme) (p : Phrase) → parse d expression_reader s ≡ Ok p → Says d ReadsExpression s p
expression_read_says d s p e = found_text expression_reader ReadsExpression d (expressions_all d) s p e

pub expression_says_read : (d : Dots) (s : List Lexeme) (p : Phrase) → Says d ReadsExpression s p → parse d expression_reader s ≡ Ok p
expression_says_read d s p h = only_text expression_reader ReadsExpression d (expressions_all d) s p h

pub expression_fault_stops : (d : Dots) (s : List Lexeme) (n : ℕ) → parse d expression_reader s ≡ Err n → Stops d ReadsExpression s n
expression_fault_stops d s n e = stops_text expression_reader ReadsExpression d (expressions_all d) s n e

pub one_expression_read : (s : List Lexeme) (p q : Phrase) → ReadsExpression s p → ReadsExpression s q → p ≡ q
one_expression_read s p q d e = one expression_reader ReadsExpression (expressions_all Allowed) s p q d e

-- sequents
pub sequent_read_says : (d : Dots) (s : List Lexeme) (p : Sides) → parse d sequent_reader s ≡ Ok p → Says d ReadsSequent s p
sequent_read_says d s p e = found_text sequent_reader ReadsSequent d (sequents_all d) s p e

pub sequent_says_read : (d : Dots) (s : List Lexeme) (p : Sides) → Says d ReadsSequent s p → parse d sequent_reader s ≡ Ok p
sequent_says_read d s p h = only_text sequent_reader ReadsSequent d (sequents_all d) s p h

pub sequent_fault_stops : (d : Dots) (s : List Lexeme) (n : ℕ) → parse d sequent_reader s ≡ Err n → Stops d ReadsSequent s n
sequent_fault_stops d s n e = stops_text sequent_reader ReadsSequent d (sequents_all d) s n e

pub one_sides_read : (s : List Lexeme) (p q : Sides) → ReadsSequent s p → ReadsSequent s q → p ≡ q
one_sides_read s p q d e = one sequent_reader ReadsSequent (sequents_all Allowed) s p q d e

-- substitutions, where dots and the hole are allowed, since they are part of their grammar
pub pairs_read_says : (s : List Lexeme) (p : List PairPhrase) → parse Allowed pairs_reader s ≡ Ok p → Says Allowed ReadsSubstitution s p
pairs_read_says s p e = found_text pairs_reader ReadsSubstitution Allowed pairs_all s p e

pub pairs_says_read : (s : List Lexeme) (p : List PairPhrase) → Says Allowed ReadsSubstitution s p → parse Allowed pairs_reader s ≡ Ok p
pairs_says_read s p h = only_text pairs_reader ReadsSubstitution Allowed pairs_all s p h

pub pairs_fault_stops : (s : List Lexeme) (n : ℕ) → parse Allowed pairs_reader s ≡ Err n → Stops Allowed ReadsSubstitution s n
pairs_fault_stops s n e = stops_text pairs_reader ReadsSubstitution Allowed pairs_all s n e

pub one_pairs_read : (s : List Lexeme) (p q : List PairPhrase) → ReadsSubstitution s p → ReadsSubstitution s q → p ≡ q
one_pairs_read s p q d e = one pairs_reader ReadsSubstitution pairs_all s p q d e

-- renames and pairs, likewise
pub extra_read_says : (s : List Lexeme) (e : ExtraPhrase) → parse Allowed extra_reader s ≡ Ok e → Says Allowed ReadsExtra s e
extra_read_says s e h = found_text extra_reader ReadsExtra Allowed extra_all s e h

pub extra_says_read : (s : List Lexeme) (e : ExtraPhrase) → Says Allowed ReadsExtra s e → parse Allowed extra_reader s ≡ Ok e
extra_says_read s e h = only_text extra_reader ReadsExtra Allowed extra_all s e h

pub extra_fault_stops : (s : List Lexeme) (n : ℕ) → parse Allowed extra_reader s ≡ Err n → Stops Allowed ReadsExtra s n
extra_fault_stops s n e = stops_text extra_reader ReadsExtra Allowed extra_all s n e

pub one_extra_read : (s : List Lexeme) (p q : ExtraPhrase) → ReadsExtra s p → ReadsExtra s q → p ≡ q
one_extra_read s p q d e = one extra_reader ReadsExtra extra_all s p q d e

forms_all : (d : Dots) (wanted : Form) → Reader d (machine_of wanted) (grammar wanted)
forms_all d form.Formula = reads_all d Formula
forms_all d form.Term = reads_all d Term
forms_all d form.Program = reads_all d Program
forms_all d form.Expression = expressions_all d

pub form_read_says : (d : Dots) (wanted : Form) (s : List Lexeme) (p : Phrase) → parse d (machine_of wanted) s ≡ Ok p → Says d (grammar wanted) s p
form_read_says d wanted s p e = found_text (machine_of wanted) (grammar wanted) d (forms_all d wanted) s p e

pub form_says_read : (d : Dots) (wanted : Form) (s : List Lexeme) (p : Phrase) → Says d (grammar wanted) s p → parse d (machine_of wanted) s ≡ Ok p
form_says_read d wanted s p h = only_text (machine_of wanted) (grammar wanted) d (forms_all d wanted) s p h

pub form_fault_stops : (d : Dots) (wanted : Form) (s : List Lexeme) (n : ℕ) → parse d (machine_of wanted) s ≡ Err n → Stops d (grammar wanted) s n
form_fault_stops d wanted s n e = stops_text (machine_of wanted) (grammar wanted) d (forms_all d wanted) s n e
