-- What is answered to an input that is no text of what it is to be.
use Rattle.std.specs.Prelude.{ℕ, List, ◌++◌, codes, decimal}
use Rattle.dlk_grammar.specs.Readings.{Literal, Nesting, Syntax, Shape, TooBig, TooDeep}
use Rattle.dlk_grammar.specs.Texts.{TextFault, BadByte, Unread}
use Rattle.dlk_replies.specs.declared.form.Role.{Role}
use Rattle.dlk_replies.specs.Forms.{word_of}
use Rattle.dlk_replies.specs.Replies.{Reply, refusal}

-- refused: model at B: WHY
abbrev pub refused_at : Role → ℕ → List ℕ → Reply
refused_at role at why = refusal (word_of role ++ (codes " at " ++ (decimal at ++ (codes ": " ++ why))))

-- refused: model: size N
abbrev pub refused_past : Role → List ℕ → ℕ → Reply
refused_past role measure n = refusal (word_of role ++ (codes ": " ++ (measure ++ (codes " " ++ decimal n))))

-- One row a fault.
abbrev pub text_refused : Role → TextFault → Reply
text_refused role (BadByte at) = refused_at role at (codes "byte")
text_refused role (Unread (Literal at)) = refused_at role at (codes "literal")
text_refused role (Unread (Nesting at)) = refused_at role at (codes "nesting")
text_refused role (Unread (Syntax at)) = refused_at role at (codes "syntax")
text_refused role (Unread (Shape at)) = refused_at role at (codes "shape")
text_refused role (Unread (TooBig size)) = refused_past role (codes "size") size
text_refused role (Unread (TooDeep depth)) = refused_past role (codes "depth") depth
