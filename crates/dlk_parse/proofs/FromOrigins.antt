-- From what an origin gives to what its tokens are, and its faults.
use Rattle.std.proofs.Common.{◌≡◌, ℕ, List, Err, sym, subst}
use Rattle.dlk_grammar.specs.declared.token.Token.{Token}
use Rattle.dlk_grammar.specs.declared.token.Dots.{Dots}
use Rattle.dlk_grammar.specs.Lexemes.{Lexeme}
use Rattle.dlk_grammar.specs.Phrases.{Phrase}
use Rattle.dlk_grammar.specs.Readings.{ReadFault, IsReadFault}
use Rattle.dlk_lex.specs.declared.source.Origin.{Origin}
use Rattle.dlk_lex.specs.declared.source.Source.{Source}
use Rattle.dlk_lex.specs.Taken.{Gives}
use Rattle.dlk_reader.specs.declared.stop.Stop.{Stop}
use Rattle.dlk_reader.specs.declared.stop.Stop.TheVariants as stop
use Rattle.dlk_reader.specs.Outcomes.{OverAll, ReadsAll}
use Rattle.dlk_forms.specs.Said.{Answers}
use Rattle.dlk_parse.specs.Faults.{IsParseFaultOf, IsTextFaultOf, IsFaultFrom, IsRefusalAt, IsRefusal, of_parse}
use Rattle.dlk_parse.specs.declared.fault.ParseFault.{ParseFault}
use Rattle.dlk_parse.specs.declared.fault.ParseFault.TheVariants as parse
use Rattle.dlk_parse.specs.declared.fault.TextFault.{TextFault}
use Rattle.dlk_parse.specs.declared.fault.TextFault.TheVariants as text
use Rattle.dlk_parse.proofs.Reports.{unruly, unread}

-- a fault of the tokens that an origin gives
pub as_text_fault : (is_fault : List Token → ReadFault → Type 0) (origin : Origin) (tokens : List Token) → Gives origin tokens → (e : ParseFault)
    → IsParseFaultOf (is_fault tokens) e → IsTextFaultOf (IsFaultFrom origin is_fault) (of_parse e)
as_text_fault is_fault origin tokens g (parse.Literal at) h = (tokens, g, h)
as_text_fault is_fault origin tokens g (parse.Nesting at) h = (tokens, g, h)
as_text_fault is_fault origin tokens g (parse.Syntax at) h = (tokens, g, h)
as_text_fault is_fault origin tokens g (parse.Shape at) h = (tokens, g, h)
as_text_fault is_fault origin tokens g (parse.TooBig size) h = (tokens, g, h)
as_text_fault is_fault origin tokens g (parse.TooDeep depth) h = (tokens, g, h)
as_text_fault is_fault origin tokens g parse.Memory h = tt

-- a form of text, in which lexemes say one thing at most
module _ {P V : Type 0} (G : List Lexeme → P → Type 0) (parts : P → List Phrase) (one : (s : List Lexeme) (p q : P) → G s p → G s q → p ≡ q) (d : Dots)
    (IsCode : List Token → V → Type 0) (origin : Origin) (s : Source) where
  refused_at : (at : ℕ) (fault : TextFault) (h : OverAll (Answers IsCode G parts d) origin s (Err (stop.Syntax at))) → IsRefusalAt h.tokens at fault
      → IsTextFaultOf (IsFaultFrom origin (IsReadFault G parts d)) fault
  refused_at at (text.BadByte byte) h r = absurd r
  refused_at at (text.Unread (parse.Literal byte)) h r = (h.tokens, h.gives, unruly G parts one d h.tokens (parse.Literal byte) r)
  refused_at at (text.Unread (parse.Nesting byte)) h r = (h.tokens, h.gives, unruly G parts one d h.tokens (parse.Nesting byte) r)
  refused_at at (text.Unread (parse.Syntax byte)) h r =
      let stops = unread G parts one d h.tokens r.0 at h.answer.stops in
      (h.tokens, h.gives, subst (λ (k : ℕ). IsParseFaultOf (IsReadFault G parts d h.tokens) (parse.Syntax k)) (sym r.1) stops)
  refused_at at (text.Unread (parse.Shape byte)) h r = absurd r
  refused_at at (text.Unread (parse.TooBig size)) h r = absurd r
  refused_at at (text.Unread (parse.TooDeep depth)) h r = absurd r
  refused_at at (text.Unread parse.Memory) h r = absurd r
  refused_at at text.Memory h r = absurd r

  stopped : (why : Stop) (fault : TextFault) → ReadsAll (Answers IsCode G parts d) origin s (Err why) → IsRefusal s.noted why fault
      → IsTextFaultOf (IsFaultFrom origin (IsReadFault G parts d)) fault
  stopped stop.Memory fault h r = subst (IsTextFaultOf (IsFaultFrom origin (IsReadFault G parts d))) (sym r) tt
  stopped (stop.BadByte at) fault h r = subst (IsTextFaultOf (IsFaultFrom origin (IsReadFault G parts d))) (sym r) h
  stopped (stop.Syntax at) fault h r = refused_at at fault h (r h.tokens h.noted)

  -- what stops, as it comes from the origin that a source was made of
  pub refused : (from : Origin) → from ≡ origin → (why : Stop) (fault : TextFault) → ReadsAll (Answers IsCode G parts d) from s (Err why) →
      IsRefusal s.noted why fault
      → IsTextFaultOf (IsFaultFrom origin (IsReadFault G parts d)) fault
  refused from e why fault h r = stopped why fault (subst (λ (o : Origin). ReadsAll (Answers IsCode G parts d) o s (Err why)) e h) r
