-- There is one answer to words and texts.
use Rattle.std.proofs.Common.{◌≡◌, ℕ, List, [], ◌∷◌, None, Some, sym, ap, ◌∙◌}
use Rattle.dlk_grammar.specs.Tokens.{value}
use Rattle.dlk_replies.specs.declared.command.Command.{Command}
use Rattle.dlk_replies.specs.declared.command.Command.TheVariants.{Check, Print, Vars, Subst, Report, Smt, Guard, Prove, Gen, Convert, Link, Trim, Session}
use Rattle.dlk_replies.specs.declared.reply.Showing.TheVariants.{Reported, Exported}
use Rattle.dlk_replies.specs.declared.reply.Layout.TheVariants.{Text, Json}
use Rattle.dlk_replies.specs.Forms.{Word}
use Rattle.dlk_replies.specs.Replies.{Reply}
use Rattle.dlk_answers.specs.Answers.{Does, Responds, refuses, does, too_long}
use Rattle.dlk_answers.proofs.JobLaws.{OneEach}

one_name : {name other : Word} → Some name ≡ Some other → name ≡ other
one_name e = cc

pub none_or_some : {A : Type 0} {x : A} → None ≡ Some x → ⊥
none_or_some e = cc

module _ (one : OneEach) where
  one_job : (c : Command) (others : List Word) (texts : List (List ℕ)) (r s : Reply) → Does c others texts r → Does c others texts s → r ≡ s
  one_job Check [] (model ∷ term ∷ []) r s a b = one.checks (Reported Text) model term r s a b
  one_job Print [] (file ∷ []) r s a b = one.prints file r s a b
  one_job Vars [] (file ∷ []) r s a b = one.lists file r s a b
  one_job Subst [] (file ∷ substitution ∷ []) r s a b = one.substitutes file substitution r s a b
  one_job Report [] (model ∷ term ∷ []) r s a b = one.checks (Reported Json) model term r s a b
  one_job Smt [] (model ∷ term ∷ []) r s a b = one.checks Exported model term r s a b
  one_job Guard [] (model ∷ term ∷ []) r s a b = one.guards model term r s a b
  one_job Prove (term ∷ []) (model ∷ strategy ∷ []) r s a b = one.proves model strategy r s a b
  one_job Gen (word ∷ []) [] r s a b = one.generates (value word) r s a b
  one_job Convert (out ∷ []) (term ∷ []) r s a b = one.converts term r s a b
  one_job Link (out ∷ []) (model ∷ term ∷ lemma ∷ []) r s a b = one.links model term lemma r s a b
  one_job Trim (out ∷ []) (model ∷ term ∷ []) r s a b = one.trims model term r s a b
  one_job Session (term ∷ []) (model ∷ script ∷ []) r s a b = one.sessions model script r s a b
  one_job _ _ _ r s a b = absurd a

  pub one_response : (c : Command) (words : List Word) (texts : List (List ℕ)) (r s : Reply) → Responds c words texts r → Responds c words texts s → r ≡ s
  one_response c words texts r s (refuses name a) (refuses other b) = ap too_long (one_name (sym a ∙ b))
  one_response c words texts r s (refuses name a) (does b s' job) = absurd (none_or_some (sym b ∙ a))
  one_response c words texts r s (does a r' job) (refuses other b) = absurd (none_or_some (sym a ∙ b))
  one_response c words texts r s (does a r' job) (does b s' other) = one_job c _ texts r s job other
