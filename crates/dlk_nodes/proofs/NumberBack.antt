-- A number is found again by its text.
use Rattle.std.proofs.Common.{◌≡◌, ℕ, ◌==◌, true, false, not, List, [], ◌∷◌, ◌++◌, codes, refl, ap, ◌∙◌}
use Rattle.std.proofs.lemmas.Bool.{and_from}
use Rattle.dlk_tree.specs.declared.op.Num.{Num}
use Rattle.dlk_tree.specs.Table.{is_num}
use Rattle.dlk_grammar.specs.Shown.{literal}
use Rattle.dlk_grammar.specs.Tokens.{is_digit, are_digits, literal_number}
use Rattle.dlk_grammar.proofs.Spelled.{digits_all}
use Rattle.dlk_readback.proofs.Numbers.{Literal, whole, parts, literal_is}
use Rattle.dlk_nodes.specs.Fields.{parts_of}
use Rattle.dlk_nodes.proofs.Fields.{lacks, lacks_both, one_part, next_part}
use Rattle.dlk_nodes.proofs.OpsBack.{lacks_if}

-- the number of these parts of a text
abbrev pub number_in : List (List ℕ) → Num
number_in [] = literal_number [] []
number_in (s ∷ []) = literal_number s []
number_in (s ∷ f ∷ more) = literal_number s f

pub number_of : List ℕ → Num
number_of text = number_in (parts_of 46 text)

digits_lack : (byte : ℕ) → is_digit byte ≡ false → (s : List ℕ) → are_digits s ≡ true → lacks byte s ≡ true
digits_lack byte other s h = lacks_if is_digit byte other s (digits_all s h)

back : (n : Num) → Literal n → number_of (literal n) ≡ n
unfolding number_of
back n (whole s e h le is) = ap number_of e ∙ ap number_in (one_part 46 s (digits_lack 46 refl s h)) ∙ is
back n (parts s f e h g le is) =
    ap number_of e ∙ ap number_in (next_part 46 s f refl (digits_lack 46 refl s h) ∙ ap (λ l. s ∷ l) (one_part 46 f (digits_lack 46 refl f g))) ∙ is

pub number_back : (n : Num) → is_num n ≡ true → number_of (literal n) ≡ n
number_back n h = back n (literal_is n h)

flat : (byte : ℕ) → is_digit byte ≡ false → not (46 == byte) ≡ true → (n : Num) → Literal n → lacks byte (literal n) ≡ true
flat byte other point n (whole s e h le is) = ap (lacks byte) e ∙ digits_lack byte other s h
flat byte other point n (parts s f e h g le is) =
    ap (lacks byte) e ∙ lacks_both byte s (codes "." ++ f) (digits_lack byte other s h) (and_from (not (46 == byte)) (lacks byte f) point
    (digits_lack byte other f g))

-- a byte that is no digit and no point stands in no number
pub number_lacks : (byte : ℕ) → is_digit byte ≡ false → not (46 == byte) ≡ true → (n : Num) → is_num n ≡ true → lacks byte (literal n) ≡ true
number_lacks byte other point n h = flat byte other point n (literal_is n h)
