-- Quoted texts and arguments, however the texts are read.
use Rattle.std.proofs.Common.{◌≡◌, ℕ, List, [], ◌∷◌, ◌++◌, Option, Some, None, refl, sym, ap, ◌∙◌, append_assoc, length, arith, ◌<◌}
use Rattle.std.specs.Prelude.{option_map, option_and_then}
use Rattle.dlk_grammar.specs.Texts.{BadByte, Unread}
use Rattle.dlk_grammar.specs.Texts.{TextFault as WhyNoText}
use Rattle.dlk_grammar.specs.Readings as why
use Rattle.dlk_parse.specs.Faults.{IsTextFaultOf}
use Rattle.dlk_parse.specs.declared.fault.TextFault.{TextFault}
use Rattle.dlk_parse.specs.declared.fault.TextFault.TheVariants as text
use Rattle.dlk_parse.specs.declared.fault.ParseFault.TheVariants as parse
use Rattle.dlk_tacsyn.specs.declared.argument.Written.{Written}
use Rattle.dlk_tacsyn.specs.declared.kind.Kind.{Kind}
use Rattle.dlk_tacsyn.specs.declared.fault.TacSyntax.{TacSyntax}
use Rattle.dlk_tacsyn.specs.declared.fault.TacSyntax.TheVariants as fault
use Rattle.dlk_tacsyn.specs.Tactics.{Argument, One}
use Rattle.dlk_tacsyn.specs.Rows.{Row, text_row_of}
use Rattle.dlk_tacsyn.specs.Faults.{Fault, Arguments, UnknownAtom, IsTacSyntaxOf, of_text}
use Rattle.dlk_tacsyn.specs.Strategies.{Reading, IsSaid, Says, Fails, argument_of, followed, arguments_of, atom_given, atom_by, atom_of}

module _ {A : Type 0} (Says : A → Type 0) where
  pub text_read : ((t u : A) → Says t → Says u → t ≡ u) → (found : Option A) → IsSaid Says found → (t : A) → Says t → found ≡ Some t
  text_read one None m t r = absurd (m t r)
  text_read one (Some h) m t r = ap (λ z. Some z) (one h t m r)

  pub text_unread : ((t : A) → Says t → ⊥) → (found : Option A) → IsSaid Says found → found ≡ None
  text_unread none None m = refl
  text_unread none (Some h) m = absurd (none h m)

pub unread_fault : (at : ℕ) (Is : WhyNoText → Type 0) (P : Type 0) → ((w : WhyNoText) → Is w → P) →
    (e : TextFault) → IsTextFaultOf Is e → IsTacSyntaxOf (λ f. (f ≡ Arguments at) × P) (of_text at e)
unread_fault at Is P h (text.BadByte b) is = (refl, h (BadByte b) is)
unread_fault at Is P h (text.Unread (parse.Literal n)) is = (refl, h (Unread (why.Literal n)) is)
unread_fault at Is P h (text.Unread (parse.Nesting n)) is = (refl, h (Unread (why.Nesting n)) is)
unread_fault at Is P h (text.Unread (parse.Syntax n)) is = (refl, h (Unread (why.Syntax n)) is)
unread_fault at Is P h (text.Unread (parse.Shape n)) is = (refl, h (Unread (why.Shape n)) is)
unread_fault at Is P h (text.Unread (parse.TooBig n)) is = (refl, h (Unread (why.TooBig n)) is)
unread_fault at Is P h (text.Unread (parse.TooDeep n)) is = (refl, h (Unread (why.TooDeep n)) is)
unread_fault at Is P h (text.Unread parse.Memory) is = absurd is
unread_fault at Is P h text.Memory is = tt

pub weaken : (P Q : Fault → Type 0) → ((f : Fault) → P f → Q f) → (e : TacSyntax) → IsTacSyntaxOf P e → IsTacSyntaxOf Q e
weaken P Q h (fault.Syntax at) p = h _ p
weaken P Q h (fault.Nesting at) p = h _ p
weaken P Q h (fault.Repeat at) p = h _ p
weaken P Q h (fault.UnknownAtom at) p = h _ p
weaken P Q h (fault.Arguments at) p = h _ p
weaken P Q h fault.Memory p = tt

-- arguments behind others
abbrev pub behind : List Argument → Option (List Argument) → Option (List Argument)
behind before more = option_map (λ rest. before ++ rest) more

behind_next : (before : List Argument) (a : Argument) (more : Option (List Argument)) →
    behind before (option_map (λ rest. a ∷ rest) more) ≡ behind (before ++ a ∷ []) more
behind_next before a None = refl
behind_next before a (Some rest) = ap (λ z. Some z) (sym (append_assoc before (a ∷ []) rest))

module _ (read : Reading) where
  -- One argument more is read, where this is left to read, and then that.
  pub arguments_step : (whole : Option (List Argument)) (rest others : List Written → Option (List Argument)) (its : List Written)
      (old before : List Argument) (kind : Kind) (w : Written) (after : List Written) (a : Argument) (final : List Argument) →
      whole ≡ behind old (rest its) → old ≡ before → its ≡ w ∷ after → rest (w ∷ after) ≡ followed read kind w (others after) →
      argument_of read kind w ≡ Some a → before ++ a ∷ [] ≡ final → whole ≡ behind final (others after)
  arguments_step whole rest others its old before kind w after a final goes kept items_are split found ends =
      goes ∙ (λ i. behind (kept i) (rest (items_are i))) ∙ ap (behind before) split
      ∙ ap (λ o. behind before (option_and_then (λ x. option_map (λ all. x ∷ all) (others after)) o)) found
      ∙ behind_next before a (others after) ∙ ap (λ z. behind z (others after)) ends

  pub atom_found : (at : ℕ) (name : List ℕ) (ws : List Written) (row : Row) (all : List Argument) →
      text_row_of name ≡ Some row → arguments_of read row.wanted row.optional ws ≡ Some all →
      atom_of read at name ws ≡ Says (One (record { name = name; arguments = all; at = at }))
  atom_found at name ws row all row_is found = ap (atom_by read at name ws) row_is ∙ ap (atom_given read at name) found

  pub atom_unknown : (at : ℕ) (name : List ℕ) (ws : List Written) → text_row_of name ≡ None → atom_of read at name ws ≡ Fails (UnknownAtom at)
  atom_unknown at name ws row = ap (atom_by read at name ws) row

  pub atom_unfit : (at : ℕ) (name : List ℕ) (ws : List Written) (row : Row) →
      text_row_of name ≡ Some row → arguments_of read row.wanted row.optional ws ≡ None → atom_of read at name ws ≡ Fails (Arguments at)
  atom_unfit at name ws row row_is found = ap (atom_by read at name ws) row_is ∙ ap (atom_given read at name) found

  pub arguments_left : (before : List Argument) (kinds : List Kind) (optional : Option Kind) (its : List Written) → length its ≡ 0 → 0 < length kinds →
      behind before (arguments_of read kinds optional its) ≡ None
  arguments_left before [] optional its none some = absurd (omega arith)
  arguments_left before (k ∷ ks) optional [] none some = refl
  arguments_left before (k ∷ ks) optional (w ∷ ws) none some = absurd (omega arith)
