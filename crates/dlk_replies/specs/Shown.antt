-- What the code's values stand for.
use Rattle.std.specs.Prelude.{ℕ, List, map, Vec, option_map}
use Rattle.std.specs.declared.alloc.Global.{Global}
use Rattle.dlk_replies.specs.Forms.{Form as TheForm}
use Rattle.dlk_replies.specs.declared.form.Form.{Form}
use Rattle.dlk_replies.specs.Replies.{Reply as TheReply}
use Rattle.dlk_replies.specs.declared.reply.Reply.{Reply}

-- the bytes of each
abbrev pub texts_of : List (Vec ℕ Global) → List (List ℕ)
texts_of inputs = map (λ v. v.items) inputs

abbrev pub reply_of : Reply → TheReply
reply_of r = record { status = r.status; printed = r.printed.items; written = option_map (λ v. v.items) r.written }

abbrev pub form_shown : Form → TheForm
form_shown f = record { verb = f.verb.now; inputs = f.inputs.now; last = f.last }
