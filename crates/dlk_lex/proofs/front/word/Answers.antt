use Rattle.std.proofs.Common.{◌≡◌, true, false, List, ℕ, refl, ap, sym, ◌∙◌, codes, Err}
use Rattle.std.specs.Str.{bytes_eq}
use Rattle.std.proofs.lemmas.Bool.{true_from_ne_false, true≢false}
use Rattle.std.proofs.lemmas.Slice.Eq.{bytes_eq-Decides}
use Rattle.dlk_tree.specs.Names.{is_word, is_name}
use Rattle.dlk_grammar.specs.Tokens.{word, true_word, false_word}
use Rattle.dlk_lex.proofs.front.word.Goals as goal
use Rattle.dlk_lex.proofs.front.word.Goals.{then-eq, else-eq}

-- a word that is no name is `false` where it isn't `true`
other_word : (s : List ℕ) → is_word s ≡ true → is_name s ≡ false → bytes_eq s (codes "true") ≡ false → s ≡ codes "false"
other_word s w h no_true =
    let same = true_from_ne_false (bytes_eq s (codes "false")) (λ no_false. true≢false (sym (rw (w, no_true, no_false) refl) ∙ h)) in
    (bytes_eq-Decides s (codes "false")).0 same

pub returns-in-Ok : goal.returns-in-Ok
returns-in-Ok c =
    let name = true_from_ne_false (is_name c.args.bytes.now) (λ e. let w = c.in-Ok.ensures.not_a_name.1 e in cc) in
    rw c.in-Ok.ensures.ok (word c.args.bytes.now name)

pub returns-after-eq : goal.returns-after-eq
returns-after-eq c = elim c.if-eq.branch [
  | then-eq w ↦ rw (w.result-is, (bytes_eq-Decides c.args.bytes.now (codes "true")).0 (sym is ∙ w.if-eq.true)) true_word
  | else-eq w ↦ rw (w.result-is, other_word c.args.bytes.now c.requires no_name (sym is ∙ w.if-eq.false)) false_word
]
  where
    no_name : is_name c.args.bytes.now ≡ false
    no_name = c.in-Err-NotAName.ensures.not_a_name.0 (ap Err c.in-Err-NotAName.field-0-is)

    is : c.eq.result ≡ bytes_eq c.args.bytes.now (codes "true")
    is = c.eq.ensures ∙ ap (bytes_eq c.args.bytes.now) c.as_slice.ensures
