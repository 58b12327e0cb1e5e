-- What holds of each mark.
use Rattle.std.proofs.Common.{◌≡◌, ℕ, Bool, true, List, get_or, refl, lit<}
use Rattle.std.specs.List.{list_all, position_or_len, Contains}
use Rattle.std.specs.Str.{bytes_eq}
use Rattle.std.proofs.lemmas.List.Elements.{All-contains}
use Rattle.std.proofs.lemmas.List.Sums.{AllPass-from_list_all}
use Rattle.dlk_grammar.specs.declared.token.Mark.{Mark}
use Rattle.dlk_grammar.specs.declared.token.Mark.TheVariants as mark
use Rattle.dlk_grammar.specs.Tokens.{spelling}
use Rattle.dlk_grammar.specs.Marks.{marks}

-- the place of the mark that bytes spell, and that mark
abbrev place_of : List ℕ → ℕ
place_of s = position_or_len (λ m. bytes_eq s (spelling m)) marks

abbrev pub mark_of : List ℕ → Mark
mark_of s = get_or marks (place_of s) mark.Forall

pub mark_of_spelling : (m : Mark) → mark_of (spelling m) ≡ m
mark_of_spelling mark.Forall = refl
mark_of_spelling _ = refl

-- each mark is one of them
pub listed : (m : Mark) → Contains marks m
listed mark.Forall = (place_of (spelling mark.Forall), lit< tt, refl)
listed m = (place_of (spelling m), lit< tt, refl)

-- a test that each of the list passes is passed by each mark
pub each_mark : (p : Mark → Bool) → list_all p marks ≡ true → (m : Mark) → p m ≡ true
each_mark p h m = All-contains (λ n. p n ≡ true) marks m (AllPass-from_list_all p marks h) (listed m)
