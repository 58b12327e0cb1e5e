-- The names in a text of names and pairs are names, and what its pairs replace are symbols.
use Rattle.std.proofs.Common.{ℕ, List, [], All, subst}
use Rattle.std.proofs.lemmas.List.Elements.{All-nil, All-cons, All-push}
use Rattle.dlk_calculus.specs.Pairs.{Extra}
use Rattle.dlk_grammar.specs.Lexemes.{Lexeme}
use Rattle.dlk_grammar.specs.Extras.{Rename, ExtraPhrase, rename-names, ReadsRenames, renames-one, renames-more, ReadsExtra, extra-subst}
use Rattle.dlk_grammar.specs.Extras.{extra-renames, extra-both}
use Rattle.dlk_grammar.specs.Texts.{ExtraText}
use Rattle.dlk_machine.proofs.PairSymbols.{AreNamedLexemes, front, behind, lexemes_named, extra_text_symbols}
use Rattle.dlk_tacsyn.specs.Rows.{IsRename, IsNamedExtra}

renames_named : (s : List Lexeme) (l : List Rename) → ReadsRenames s l → AreNamedLexemes s → All IsRename l
renames_named s l (renames-one rename-names) h = All-cons IsRename _ [] (h.0, h.1.1.0) (All-nil IsRename)
renames_named s l (renames-more {s = t} {l = others} before rename-names) h =
    let last = behind t _ h in All-push IsRename others _ (renames_named t others before (front t _ h)) (last.1.0, last.1.1.1.0)

extra_named : (s : List Lexeme) (e : ExtraPhrase) → ReadsExtra s e → AreNamedLexemes s → All IsRename e.renames
extra_named s e (extra-subst d) h = All-nil IsRename
extra_named s e (extra-renames {n = l} d) h = renames_named s l d h
extra_named s e (extra-both {s = t} {n = l} d ds) h = renames_named t l d (front t _ h)

pub extra_text_named : (bytes : List ℕ) (e : Extra) → ExtraText bytes e → IsNamedExtra e
extra_text_named bytes e text =
    let phrase = text.reads.phrase in
    let named = extra_named _ phrase text.reads.says.reads (lexemes_named 0 bytes text.tokens text.splits 0) in
    (subst (λ (extra : Extra). All IsRename extra.renames) text.reads.value_is named, extra_text_symbols bytes e text)
