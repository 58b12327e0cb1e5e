-- The answer to an input that is not read, by the error of reading it.
use Rattle.std.specs.Prelude.{◌≡◌}
use Rattle.dlk_grammar.specs.Readings.{Literal, Nesting, Syntax, Shape, TooBig, TooDeep}
use Rattle.dlk_grammar.specs.Texts.{BadByte, Unread}
use Rattle.dlk_parse.specs.declared.fault.ParseFault.{ParseFault}
use Rattle.dlk_parse.specs.declared.fault.ParseFault.TheVariants as parse
use Rattle.dlk_parse.specs.declared.fault.TextFault.{TextFault as FaultOfText}
use Rattle.dlk_parse.specs.declared.fault.TextFault.TheVariants as text
use Rattle.dlk_replies.specs.declared.form.Role.{Role}
use Rattle.dlk_replies.specs.Replies.{Reply}
use Rattle.dlk_replies.specs.Refusals.{text_refused}

-- the answer to an input with this fault of its tokens; there is none for want of memory
abbrev pub IsUnreadRefused : Role → ParseFault → Reply → Type 0
IsUnreadRefused role (parse.Literal at) reply = reply ≡ text_refused role (Unread (Literal at))
IsUnreadRefused role (parse.Nesting at) reply = reply ≡ text_refused role (Unread (Nesting at))
IsUnreadRefused role (parse.Syntax at) reply = reply ≡ text_refused role (Unread (Syntax at))
IsUnreadRefused role (parse.Shape at) reply = reply ≡ text_refused role (Unread (Shape at))
IsUnreadRefused role (parse.TooBig size) reply = reply ≡ text_refused role (Unread (TooBig size))
IsUnreadRefused role (parse.TooDeep depth) reply = reply ≡ text_refused role (Unread (TooDeep depth))
IsUnreadRefused role parse.Memory reply = ⊥

-- the same of a fault of its bytes
abbrev pub IsTextRefused : Role → FaultOfText → Reply → Type 0
IsTextRefused role (text.BadByte at) reply = reply ≡ text_refused role (BadByte at)
IsTextRefused role (text.Unread why) reply = IsUnreadRefused role why reply
IsTextRefused role text.Memory reply = ⊥
