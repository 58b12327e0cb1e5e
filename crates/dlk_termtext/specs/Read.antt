-- What the read lines say.
use Rattle.std.specs.Prelude.{List}
use Rattle.dlk_tree.specs.Trees.{Tree}
use Rattle.dlk_rules.specs.Steps.{step_at, HasKnownIds}
use Rattle.dlk_lines.specs.declared.fault.LineFault.{LineFault}
use Rattle.dlk_lines.specs.declared.fault.LineFault.TheVariants as fault
use Rattle.dlk_parse.specs.declared.fault.ParseFault.{ParseFault}
use Rattle.dlk_parse.specs.declared.fault.ParseFault.TheVariants as parse
use Rattle.dlk_parse.specs.declared.fault.TextFault.{TextFault}
use Rattle.dlk_parse.specs.declared.fault.TextFault.TheVariants as text_fault
use Rattle.dlk_termtext.specs.Lines.{Line as TreeLine, Numbered, Done}
use Rattle.dlk_termtext.specs.declared.line.Line.{Line}
use Rattle.dlk_termtext.specs.declared.line.Line.TheVariants as line

-- the line over the trees of its ids
abbrev pub line_at : List Tree → Line → TreeLine
line_at trees (line.Step number step) = Numbered number (step_at trees step)
line_at trees line.Done = Done

-- the ids of a line are those of the store
abbrev pub LineIsKnown : List Tree → Line → Type 0
LineIsKnown trees (line.Step number step) = HasKnownIds trees step
LineIsKnown trees line.Done = Unit {0}

-- tokens that are not read make their line Malformed
abbrev pub of_parse : ParseFault → LineFault
of_parse (parse.Literal at) = fault.Malformed
of_parse (parse.Nesting at) = fault.Malformed
of_parse (parse.Syntax at) = fault.Malformed
of_parse (parse.Shape at) = fault.Malformed
of_parse (parse.TooBig size) = fault.Malformed
of_parse (parse.TooDeep depth) = fault.Malformed
of_parse parse.Memory = fault.Memory

-- and so does a bad byte
abbrev pub of_text : TextFault → LineFault
of_text (text_fault.BadByte at) = fault.Malformed
of_text (text_fault.Unread why) = of_parse why
of_text text_fault.Memory = fault.Memory
