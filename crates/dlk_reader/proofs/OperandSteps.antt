-- Operands, over plain variables.
use Rattle.std.proofs.Common.{◌≡◌, ℕ, true, false, List, [], ◌∷◌, ◌++◌, Some, Ok, refl, sym, ap, ◌∙◌}
use Rattle.std.proofs.lemmas.List.{append-nil}
use Rattle.dlk_tree.specs.declared.op.Sort.{Sort}
use Rattle.dlk_grammar.specs.declared.token.Infix.{Infix}
use Rattle.dlk_grammar.specs.declared.token.Infix.TheVariants.{And, Mul}
use Rattle.dlk_grammar.specs.Lexemes.{Word}
use Rattle.dlk_grammar.specs.Phrases.{Phrase, none}
use Rattle.dlk_machine.specs.Machine.{◌>>=◌, By, Wants, after_operand, infix_after, Part, Inside, Args, Piece, as_sort, operand_sort, result_sort}
use Rattle.dlk_machine.specs.Machine.{fits, Assigns, StartsStar, start_operand, call_step, statement_gets_step}
use Rattle.dlk_reader.specs.Codes.{postfix}
use Rattle.dlk_reader.specs.Shows.{seen, is_star, said, shape, shapes, part_code, stack_code, left_opened, IsOpen, Agrees}
use Rattle.dlk_reader.specs.declared.lexeme.Lexeme.{Lexeme as SeenLexeme}
use Rattle.dlk_reader.specs.declared.lexeme.Lexeme.TheVariants as lexeme
use Rattle.dlk_reader.specs.declared.parts.Between.{Between as BetweenPart}
use Rattle.dlk_reader.specs.declared.parts.Part.{Part as OpenPart}
use Rattle.dlk_reader.specs.declared.parts.Part.TheVariants as part
use Rattle.dlk_reader.specs.declared.stack.Stack.{Stack}
use Rattle.dlk_reader.proofs.Agree.{of_said}

pub left_done : (g : Sort) (b : BetweenPart) (S : List Part) (p : Piece) (t : Phrase) (k : Stack) → as_sort (operand_sort (said b)) p ≡ Some t →
    fits g (result_sort (said b)) S ≡ true → k.parts.items ≡ shapes S ++ part.Left b ∷ [] → k.out.items ≡ stack_code S ++ postfix t →
    Agrees {X = Unit {0}} (λ _ T. IsOpen k T []) (Ok tt) (left_opened g (said b) S p)
left_done g b S p t k e f parts out = rw (e, f) (record {
  parts = parts ∙ ap (λ (x : BetweenPart). shapes S ++ part.Left x ∷ []) (sym (of_said b));
  out = out ∙ sym (append-nil (stack_code S ++ postfix t));
})

pub call_other : (g : Sort) (S : List Part) (n : ℕ) (x : Word) (k : SeenLexeme) → (k ≡ lexeme.Close → ⊥) →
    call_step g S n x (seen k) ≡ start_operand g (Inside (Args n x none) ∷ S) (seen k)
call_other g S n x lexeme.Close h = absurd (h refl)
call_other g S n x _ h = refl

pub gets_star : (g : Sort) (S : List Part) (x : Word) (k : SeenLexeme) → is_star k ≡ true → statement_gets_step g S x (seen k) ≡ Some (StartsStar S x)
gets_star g S x (lexeme.Op Mul) h = refl
gets_star g S x _ h = absurd cc

pub gets_other : (g : Sort) (S : List Part) (x : Word) (k : SeenLexeme) → is_star k ≡ false →
    statement_gets_step g S x (seen k) ≡ start_operand g (Inside (Assigns x false) ∷ S) (seen k)
gets_other g S x (lexeme.Op Mul) h = absurd cc
gets_other g S x _ h = refl

-- a part was opened
pub opened : (S : List Part) (e : Part) (k m : Stack) → IsOpen k S (part_code e) → m.parts.items ≡ k.parts.items ++ shape e ∷ [] → m.out.items ≡ k.out.items →
    IsOpen m (e ∷ S) []
opened S e k m h parts out = record {
  parts = parts ∙ ap (λ (l : List OpenPart). l ++ shape e ∷ []) h.parts;
  out = out ∙ h.out ∙ sym (append-nil (stack_code S ++ part_code e));
}

pub infix_other : (g : Sort) (o : Infix) (S : List Part) (p : Piece) → (o ≡ And → ⊥) →
    infix_after g o S p ≡ (after_operand g (By o) S p >>= λ T. Some (Wants T))
infix_other g And S p h = absurd (h refl)
infix_other g _ S p h = refl
