-- A command answers something to the texts of its inputs.
use Rattle.std.proofs.Common.{◌≡◌, ℕ, List, [], ◌∷◌, length, Option, None, Some, IsTrue, refl, sym, subst, arith}
use Rattle.dlk_grammar.specs.Tokens.{value}
use Rattle.dlk_replies.specs.declared.command.Command.{Command}
use Rattle.dlk_replies.specs.declared.command.Command.TheVariants.{Check, Print, Vars, Subst, Report, Smt, Guard, Prove, Gen, Convert, Link, Trim, Session}
use Rattle.dlk_replies.specs.declared.form.LastWord.{LastWord}
use Rattle.dlk_replies.specs.declared.form.LastWord.TheVariants.{Output, Number}
use Rattle.dlk_replies.specs.declared.reply.Showing.TheVariants.{Reported, Exported}
use Rattle.dlk_replies.specs.declared.reply.Layout.TheVariants.{Text, Json}
use Rattle.dlk_replies.specs.Forms.{Word, form_of, command_of, inputs_of, others_of, limits_of, ends_in}
use Rattle.dlk_replies.specs.Inputs.{first_too_long}
use Rattle.dlk_replies.specs.Replies.{Reply}
use Rattle.dlk_replies.proofs.Fits.{others_end}
use Rattle.dlk_answers.specs.Answers.{Does, Responds, refuses, does, too_long}
use Rattle.dlk_answers.proofs.JobLaws.{SomeEach}

no_others : (others : List Word) → IsTrue (ends_in None others) → others ≡ []
no_others [] ends = refl
no_others (word ∷ words) ends = cc

no_texts : (texts : List (List ℕ)) → length texts ≡ 0 → texts ≡ []
no_texts [] count = refl
no_texts (a ∷ texts) count = absurd (omega (arith, count))

one_text : (texts : List (List ℕ)) → length texts ≡ 1 → (a : List ℕ) × (texts ≡ a ∷ [])
one_text [] count = absurd (omega (arith, count))
one_text (a ∷ []) count = (a, refl)
one_text (a ∷ b ∷ texts) count = absurd (omega (arith, count))

two_texts : (texts : List (List ℕ)) → length texts ≡ 2 → (a : List ℕ) × (b : List ℕ) × (texts ≡ a ∷ b ∷ [])
two_texts [] count = absurd (omega (arith, count))
two_texts (a ∷ []) count = absurd (omega (arith, count))
two_texts (a ∷ b ∷ []) count = (a, b, refl)
two_texts (a ∷ b ∷ c ∷ texts) count = absurd (omega (arith, count))

three_texts : (texts : List (List ℕ)) → length texts ≡ 3 → (a : List ℕ) × (b : List ℕ) × (c : List ℕ) × (texts ≡ a ∷ b ∷ c ∷ [])
three_texts [] count = absurd (omega (arith, count))
three_texts (a ∷ []) count = absurd (omega (arith, count))
three_texts (a ∷ b ∷ []) count = absurd (omega (arith, count))
three_texts (a ∷ b ∷ c ∷ []) count = (a, b, c, refl)
three_texts (a ∷ b ∷ c ∷ d ∷ texts) count = absurd (omega (arith, count))

one_other : (last : LastWord) (others : List Word) → IsTrue (ends_in (Some last) others) → (word : Word) × (others ≡ word ∷ [])
one_other last [] ends = absurd cc
one_other last (word ∷ []) ends = (word, refl)
one_other last (word ∷ other ∷ words) ends = absurd cc

-- the same words and texts
done_of : (command : Command) (others words : List Word) (texts same : List (List ℕ)) → others ≡ words → texts ≡ same →
    (reply : Reply) × Does command words same reply → (reply : Reply) × Does command others texts reply
done_of command others words texts same words_are is done =
    (done.0, subst (λ os. Does command os texts done.0) (sym words_are) (subst (λ ts. Does command words ts done.0) (sym is) done.1))

module _ (some : SomeEach) where
  some_job : (command : Command) (others : List Word) (texts : List (List ℕ)) → IsTrue (ends_in (form_of command).last others) →
      length texts ≡ length (form_of command).inputs →
      (reply : Reply) × Does command others texts reply
  some_job Check others texts ends count =
      let t = two_texts texts count in
      done_of Check others [] texts (t.0 ∷ t.1 ∷ []) (no_others others ends) t.2 (some.checks (Reported Text) t.0 t.1)
  some_job Print others texts ends count =
      let t = one_text texts count in
      done_of Print others [] texts (t.0 ∷ []) (no_others others ends) t.1 (some.prints t.0)
  some_job Vars others texts ends count =
      let t = one_text texts count in
      done_of Vars others [] texts (t.0 ∷ []) (no_others others ends) t.1 (some.lists t.0)
  some_job Subst others texts ends count =
      let t = two_texts texts count in
      done_of Subst others [] texts (t.0 ∷ t.1 ∷ []) (no_others others ends) t.2 (some.substitutes t.0 t.1)
  some_job Report others texts ends count =
      let t = two_texts texts count in
      done_of Report others [] texts (t.0 ∷ t.1 ∷ []) (no_others others ends) t.2 (some.checks (Reported Json) t.0 t.1)
  some_job Smt others texts ends count =
      let t = two_texts texts count in
      done_of Smt others [] texts (t.0 ∷ t.1 ∷ []) (no_others others ends) t.2 (some.checks Exported t.0 t.1)
  some_job Guard others texts ends count =
      let t = two_texts texts count in
      done_of Guard others [] texts (t.0 ∷ t.1 ∷ []) (no_others others ends) t.2 (some.guards t.0 t.1)
  some_job Prove others texts ends count =
      let t = two_texts texts count in
      let w = one_other Output others ends in
      done_of Prove others (w.0 ∷ []) texts (t.0 ∷ t.1 ∷ []) w.1 t.2 (some.proves t.0 t.1)
  some_job Gen others texts ends count =
      let w = one_other Number others ends in
      done_of Gen others (w.0 ∷ []) texts [] w.1 (no_texts texts count) (some.generates (value w.0))
  some_job Convert others texts ends count =
      let t = one_text texts count in
      let w = one_other Output others ends in
      done_of Convert others (w.0 ∷ []) texts (t.0 ∷ []) w.1 t.1 (some.converts t.0)
  some_job Link others texts ends count =
      let t = three_texts texts count in
      let w = one_other Output others ends in
      done_of Link others (w.0 ∷ []) texts (t.0 ∷ t.1 ∷ t.2 ∷ []) w.1 t.3 (some.links t.0 t.1 t.2)
  some_job Trim others texts ends count =
      let t = two_texts texts count in
      let w = one_other Output others ends in
      done_of Trim others (w.0 ∷ []) texts (t.0 ∷ t.1 ∷ []) w.1 t.2 (some.trims t.0 t.1)
  some_job Session others texts ends count =
      let t = two_texts texts count in
      let w = one_other Output others ends in
      done_of Session others (w.0 ∷ []) texts (t.0 ∷ t.1 ∷ []) w.1 t.2 (some.sessions t.0 t.1)

  pub some_response : (command : Command) (words : List Word) (texts : List (List ℕ)) → command_of words ≡ Some command →
      length texts ≡ length (form_of command).inputs →
      (reply : Reply) × Responds command words texts reply
  some_response command words texts form count = by_length (first_too_long (inputs_of command words) (limits_of command) texts) refl
    where
      by_length : (long : Option Word) → first_too_long (inputs_of command words) (limits_of command) texts ≡ long →
          (reply : Reply) × Responds command words texts reply
      by_length (Some name) is = (too_long name, refuses name is)
      by_length None is =
          let job = some_job command (others_of command words) texts (others_end words command form) count in
          (job.0, does is job.0 job.1)
