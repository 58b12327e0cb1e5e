-- Lines that are refused for one of their parts.
use Rattle.dlk_grammar.specs.Readings.{Literal, Nesting, Syntax, Shape, TooBig, TooDeep}
use Rattle.dlk_grammar.specs.Texts.{BadByte, Unread}
use Rattle.dlk_grammar.specs.Texts.{TextFault as WhyNoText}
use Rattle.dlk_parse.specs.declared.fault.ParseFault.TheVariants as parse
use Rattle.dlk_parse.specs.declared.fault.TextFault.{TextFault}
use Rattle.dlk_parse.specs.declared.fault.TextFault.TheVariants as text_fault
use Rattle.dlk_parse.specs.Faults.{IsTextFaultOf}
use Rattle.dlk_lines.specs.Read.{IsLineFaultOf}
use Rattle.dlk_termtext.specs.Read.{of_text}

-- A text that isn't read makes its line Malformed, where each fault of the text speaks against the line.
pub text_refused : {holds : Type 0} (is_fault : WhyNoText → Type 0) → ((why : WhyNoText) → is_fault why → holds) → (why : TextFault) →
    IsTextFaultOf is_fault why → IsLineFaultOf holds (of_text why)
text_refused is_fault against (text_fault.BadByte at) f = against (BadByte at) f
text_refused is_fault against (text_fault.Unread (parse.Literal at)) f = against (Unread (Literal at)) f
text_refused is_fault against (text_fault.Unread (parse.Nesting at)) f = against (Unread (Nesting at)) f
text_refused is_fault against (text_fault.Unread (parse.Syntax at)) f = against (Unread (Syntax at)) f
text_refused is_fault against (text_fault.Unread (parse.Shape at)) f = against (Unread (Shape at)) f
text_refused is_fault against (text_fault.Unread (parse.TooBig size)) f = against (Unread (TooBig size)) f
text_refused is_fault against (text_fault.Unread (parse.TooDeep depth)) f = against (Unread (TooDeep depth)) f
text_refused is_fault against (text_fault.Unread parse.Memory) f = absurd f
text_refused is_fault against text_fault.Memory f = tt
