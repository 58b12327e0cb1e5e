-- Texts that are split at a byte.
use Rattle.std.proofs.Common.{◌≡◌, ℕ, ◌==◌, Bool, true, false, not, List, [], ◌∷◌, ◌++◌, refl, ap, ◌∙◌, append-nil}
use Rattle.std.specs.Prelude.{if◌then◌else◌}
use Rattle.std.specs.List.{list_all}
use Rattle.std.proofs.lemmas.Bool.{and_parts, and_from}
use Rattle.std.proofs.lemmas.List.Folds.{list_all-append}
use Rattle.dlk_nodes.specs.Fields.{before_first, parts_of}

-- no byte of the text is this one
abbrev pub lacks : ℕ → List ℕ → Bool
lacks byte text = list_all (λ c. not (c == byte)) text

pub lacks_both : (byte : ℕ) (a b : List ℕ) → lacks byte a ≡ true → lacks byte b ≡ true → lacks byte (a ++ b) ≡ true
lacks_both byte a b h g = list_all-append (λ c. not (c == byte)) a b ∙ and_from (lacks byte a) (lacks byte b) h g

-- a text without the byte is one part
pub one_part : (byte : ℕ) (text : List ℕ) → lacks byte text ≡ true → parts_of byte text ≡ text ∷ []
one_part byte [] h = refl
one_part byte (c ∷ text) h =
    let w = and_parts (not (c == byte)) (lacks byte text) h in
    by_test (c == byte) w.0 ∙ ap (before_first c) (one_part byte text w.1)
  where
    by_test : (b : Bool) → not b ≡ true → (if b then [] ∷ parts_of byte text else before_first c (parts_of byte text)) ≡ before_first c (parts_of byte text)
    by_test true other = absurd (cc other)
    by_test false other = refl

-- a part, the byte, and what comes behind it
pub next_part : (byte : ℕ) (front rest : List ℕ) → (byte == byte) ≡ true → lacks byte front ≡ true →
    parts_of byte (front ++ byte ∷ rest) ≡ front ∷ parts_of byte rest
next_part byte [] rest same h = ap (λ b. if b then [] ∷ parts_of byte rest else before_first byte (parts_of byte rest)) same
next_part byte (c ∷ front) rest same h =
    let w = and_parts (not (c == byte)) (lacks byte front) h in
    by_test (c == byte) w.0 ∙ ap (before_first c) (next_part byte front rest same w.1)
  where
    by_test : (b : Bool) → not b ≡ true →
        (if b then [] ∷ parts_of byte (front ++ byte ∷ rest) else before_first c (parts_of byte (front ++ byte ∷ rest))) ≡ before_first c
        (parts_of byte (front ++ byte ∷ rest))
    by_test true other = absurd (cc other)
    by_test false other = refl

-- parts, each behind the byte
abbrev pub behind_each : ℕ → List (List ℕ) → List ℕ
behind_each byte [] = []
behind_each byte (part ∷ parts) = byte ∷ [] ++ part ++ behind_each byte parts

abbrev pub all_lack : ℕ → List (List ℕ) → Type 0
all_lack byte [] = Unit {0}
all_lack byte (part ∷ parts) = (lacks byte part ≡ true) × all_lack byte parts

-- what is put together of parts is split into them
pub split_back : (byte : ℕ) (first : List ℕ) (parts : List (List ℕ)) → (byte == byte) ≡ true → lacks byte first ≡ true → all_lack byte parts →
    parts_of byte (first ++ behind_each byte parts) ≡ first ∷ parts
split_back byte first [] same h all = ap (parts_of byte) (append-nil first) ∙ one_part byte first h
split_back byte first (part ∷ parts) same h all =
    next_part byte first (part ++ behind_each byte parts) same h ∙ ap (λ l. first ∷ l) (split_back byte part parts same all.0 all.1)
