-- The end of a job that goes step by step, and the answer that comes of it.
use Rattle.std.specs.Prelude.{Result, Ok, Err}
use Rattle.dlk_replies.specs.declared.ended.Ended.{Ended}
use Rattle.dlk_replies.specs.declared.ended.Ended.TheVariants.{Refused, Memory}
use Rattle.dlk_replies.specs.declared.fault.NoReply.{NoReply}
use Rattle.dlk_replies.specs.declared.fault.NoReply.TheVariants as none
use Rattle.dlk_replies.specs.declared.reply.Reply.{Reply}
use Rattle.dlk_replies.specs.Replies.{Reply as TheReply}
use Rattle.dlk_replies.specs.Shown.{reply_of}

-- an early end with one of these replies; want of memory is free
abbrev pub EndsIn : (TheReply → Type 0) → Ended → Type 0
EndsIn IsRefusal (Refused reply) = IsRefusal (reply_of reply)
EndsIn IsRefusal Memory = Unit {0}

-- the end with a refusal
abbrev pub end_of : Result Reply NoReply → Ended
end_of (Ok reply) = Refused reply
end_of (Err none.Memory) = Memory

-- the answer of a job that ended so
abbrev pub answer_of : Result Reply Ended → Result Reply NoReply
answer_of (Ok reply) = Ok reply
answer_of (Err (Refused reply)) = Ok reply
answer_of (Err Memory) = Err none.Memory
