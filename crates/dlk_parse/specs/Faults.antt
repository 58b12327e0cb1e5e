-- Which faults of a text the errors are.
use Rattle.std.specs.Prelude.{◌≡◌, ℕ, List}
use Rattle.dlk_grammar.specs.declared.token.Token.{Token}
use Rattle.dlk_grammar.specs.Readings.{ReadFault, Literal, Nesting, Syntax, Shape, TooBig, TooDeep}
use Rattle.dlk_grammar.specs.Texts.{BadByte, Unread}
use Rattle.dlk_grammar.specs.Texts.{TextFault as WhyNoText}
use Rattle.dlk_lex.specs.declared.source.Origin.{Origin}
use Rattle.dlk_lex.specs.declared.noted.Noted.{Noted}
use Rattle.dlk_lex.specs.Noted.{AreNoted}
use Rattle.dlk_lex.specs.Taken.{Gives, Refuses}
use Rattle.dlk_reader.specs.declared.stop.Stop.{Stop}
use Rattle.dlk_reader.specs.declared.stop.Stop.TheVariants as stop
use Rattle.dlk_parse.specs.Limits.{AreWithinTokenLimits, IsPastTokenLimit}
use Rattle.dlk_parse.specs.declared.fault.ParseFault.{ParseFault}
use Rattle.dlk_parse.specs.declared.fault.ParseFault.TheVariants as parse
use Rattle.dlk_parse.specs.declared.fault.TextFault.{TextFault}
use Rattle.dlk_parse.specs.declared.fault.TextFault.TheVariants as text

-- the fault of the tokens; want of memory is free
abbrev pub IsParseFaultOf : (ReadFault → Type 0) → ParseFault → Type 0
IsParseFaultOf is_fault (parse.Literal at) = is_fault (Literal at)
IsParseFaultOf is_fault (parse.Nesting at) = is_fault (Nesting at)
IsParseFaultOf is_fault (parse.Syntax at) = is_fault (Syntax at)
IsParseFaultOf is_fault (parse.Shape at) = is_fault (Shape at)
IsParseFaultOf is_fault (parse.TooBig size) = is_fault (TooBig size)
IsParseFaultOf is_fault (parse.TooDeep depth) = is_fault (TooDeep depth)
IsParseFaultOf is_fault parse.Memory = Unit {0}

-- the fault of the tokens, for which memory sufficed
abbrev pub IsUnreadBy : (ReadFault → Type 0) → ParseFault → Type 0
IsUnreadBy is_fault (parse.Literal at) = is_fault (Literal at)
IsUnreadBy is_fault (parse.Nesting at) = is_fault (Nesting at)
IsUnreadBy is_fault (parse.Syntax at) = is_fault (Syntax at)
IsUnreadBy is_fault (parse.Shape at) = is_fault (Shape at)
IsUnreadBy is_fault (parse.TooBig size) = is_fault (TooBig size)
IsUnreadBy is_fault (parse.TooDeep depth) = is_fault (TooDeep depth)
IsUnreadBy is_fault parse.Memory = ⊥

-- the fault of the text; want of memory is free
abbrev pub IsTextFaultOf : (WhyNoText → Type 0) → TextFault → Type 0
IsTextFaultOf is_fault (text.BadByte at) = is_fault (BadByte at)
IsTextFaultOf is_fault (text.Unread why) = IsUnreadBy (λ fault. is_fault (Unread fault)) why
IsTextFaultOf is_fault text.Memory = Unit {0}

-- a fault of tokens as one of a text
abbrev pub of_parse : ParseFault → TextFault
of_parse (parse.Literal at) = text.Unread (parse.Literal at)
of_parse (parse.Nesting at) = text.Unread (parse.Nesting at)
of_parse (parse.Syntax at) = text.Unread (parse.Syntax at)
of_parse (parse.Shape at) = text.Unread (parse.Shape at)
of_parse (parse.TooBig size) = text.Unread (parse.TooBig size)
of_parse (parse.TooDeep depth) = text.Unread (parse.TooDeep depth)
of_parse parse.Memory = text.Memory

-- a fault of a text as one of its tokens, where each byte belongs to one
abbrev pub of_text : TextFault → ParseFault
of_text (text.BadByte at) = parse.Syntax at
of_text (text.Unread why) = why
of_text text.Memory = parse.Memory

-- the fault of what an origin gives, of which the tokens have this fault
abbrev pub IsFaultFrom : Origin → (List Token → ReadFault → Type 0) → WhyNoText → Type 0
IsFaultFrom origin is_fault (BadByte at) = Refuses origin at
IsFaultFrom origin is_fault (Unread why) = (tokens : List Token) × Gives origin tokens × is_fault tokens why

-- Why tokens are refused that stop at this byte. The first that applies is said: a literal, a bracket, the stop.
abbrev pub IsRefusalAt : List Token → ℕ → TextFault → Type 0
IsRefusalAt tokens at (text.BadByte byte) = ⊥
IsRefusalAt tokens at (text.Unread (parse.Literal byte)) = IsPastTokenLimit tokens (parse.Literal byte)
IsRefusalAt tokens at (text.Unread (parse.Nesting byte)) = IsPastTokenLimit tokens (parse.Nesting byte)
IsRefusalAt tokens at (text.Unread (parse.Syntax byte)) = AreWithinTokenLimits tokens × (byte ≡ at)
IsRefusalAt tokens at (text.Unread (parse.Shape byte)) = ⊥
IsRefusalAt tokens at (text.Unread (parse.TooBig size)) = ⊥
IsRefusalAt tokens at (text.Unread (parse.TooDeep depth)) = ⊥
IsRefusalAt tokens at (text.Unread parse.Memory) = ⊥
IsRefusalAt tokens at text.Memory = ⊥

-- why what stops so is refused, by what its tokens have shown
abbrev pub IsRefusal : Noted → Stop → TextFault → Type 0
IsRefusal noted stop.Memory fault = fault ≡ text.Memory
IsRefusal noted (stop.BadByte at) fault = fault ≡ text.BadByte at
IsRefusal noted (stop.Syntax at) fault = (tokens : List Token) → AreNoted tokens noted → IsRefusalAt tokens at fault

-- what holds of a fault, unless memory ran out
abbrev pub UnlessMemory : Type 0 → ParseFault → Type 0
UnlessMemory holds (parse.Literal at) = holds
UnlessMemory holds (parse.Nesting at) = holds
UnlessMemory holds (parse.Syntax at) = holds
UnlessMemory holds (parse.Shape at) = holds
UnlessMemory holds (parse.TooBig size) = holds
UnlessMemory holds (parse.TooDeep depth) = holds
UnlessMemory holds parse.Memory = Unit {0}

abbrev pub UnlessTextMemory : Type 0 → TextFault → Type 0
UnlessTextMemory holds (text.BadByte at) = holds
UnlessTextMemory holds (text.Unread why) = holds
UnlessTextMemory holds text.Memory = Unit {0}
