-- The answer to a lemma that isn't linked into a term, by the error.
use Rattle.std.specs.Prelude.{◌≡◌}
use Rattle.dlk_link.specs.declared.fault.LinkFault.{LinkFault}
use Rattle.dlk_link.specs.declared.fault.LinkFault.TheVariants.{NoGoal, Step, Memory}
use Rattle.dlk_replies.specs.Replies.{Reply}
use Rattle.dlk_jobs_terms.specs.Links.{no_goal_refused, link_refused}

-- there is none for want of memory
abbrev pub IsLinkRefused : LinkFault → Reply → Type 0
IsLinkRefused NoGoal reply = reply ≡ no_goal_refused
IsLinkRefused (Step why) reply = reply ≡ link_refused why
IsLinkRefused Memory reply = ⊥
