-- An input that is read past its limit only by one byte is as good as the whole.
use Rattle.std.proofs.Common.{◌≡◌, ℕ, ◌+◌, ◌<◌, ◌≤◌, Bool, true, false, cond, nat_lt, List, [], ◌∷◌, ◌++◌, length, take, drop, map, get_or, String}
use Rattle.std.proofs.Common.{string_bytes, Option, None, Some, option_map, refl, sym, ap, subst, ◌∙◌, arith, append_assoc}
use Rattle.std.specs.Prelude.{option_and_then}
use Rattle.std.proofs.lemmas.List.{length-take, take_all, drop_more}
use Rattle.std.specs.declared.alloc.Global.{Global}
use Rattle.std.proofs.lemmas.Bool.Decides.{nat_tests}
use Rattle.dlk_desk.specs.Outside.{Files}
use Rattle.dlk_replies.specs.Forms.{Word, limit_of}
use Rattle.dlk_replies.specs.declared.form.Role.{Role}
use Rattle.dlk_replies.specs.Inputs.{first_too_long}
use Rattle.dlk.specs.Answers.{bytes_of}
use Rattle.dlk.specs.Cuts.{cut_bytes_of}

-- the same inputs are too long, and where none is, they are the same
pub record Alike (names : List Word) (limits : List ℕ) (cuts whole : List (List ℕ)) : Type 0 where
  pub first : first_too_long names limits whole ≡ first_too_long names limits cuts
  pub same : first_too_long names limits cuts ≡ None → cuts ≡ whole

-- the files are there, and are as good as what was read
abbrev pub AreRead : Files → List Word → List ℕ → List (List ℕ) → Type 0
AreRead files names limits cuts = (whole : List (List ℕ)) × (bytes_of files names ≡ Some whole) × Alike names limits cuts whole

test_cut : (limit : ℕ) (bytes : List ℕ) → nat_lt limit (length bytes) ≡ nat_lt limit (length (take (limit + 1) bytes))
test_cut limit bytes = let e = length-take (limit + 1) bytes in grind (arith, nat_tests, e)

pub none_else : (b : Bool) (name : Word) (other : Option Word) → cond b (Some name) other ≡ None → (b ≡ false) × (other ≡ None)
none_else true name other h = absurd (cc)
none_else false name other h = (refl, h)

cut_fits : (limit : ℕ) (bytes : List ℕ) → nat_lt limit (length bytes) ≡ false → take (limit + 1) bytes ≡ bytes
cut_fits limit bytes h = let short : length bytes ≤ limit + 1 = grind (arith, nat_tests, h) in take_all (limit + 1) bytes short

more_alike : (name : Word) (names : List Word) (limit : ℕ) (limits bytes : List ℕ) (cuts whole : List (List ℕ)) → Alike names limits cuts whole →
    Alike (name ∷ names) (limit ∷ limits) (take (limit + 1) bytes ∷ cuts) (bytes ∷ whole)
more_alike name names limit limits bytes cuts whole h =
    record {
      first = ap (λ (b : Bool). cond b (Some name) (first_too_long names limits whole)) (test_cut limit bytes)
          ∙ ap (λ (o : Option Word). cond (nat_lt limit (length (take (limit + 1) bytes))) (Some name) o) h.first;
      same = λ none.
          let both = none_else (nat_lt limit (length (take (limit + 1) bytes))) name (first_too_long names limits cuts) none in
          ap (λ (xs : List ℕ). xs ∷ cuts) (cut_fits limit bytes (test_cut limit bytes ∙ both.0)) ∙ ap (λ (xss : List (List ℕ)). bytes ∷ xss) (h.same both.1);
    }

-- no names, no inputs
h_nil : (files : Files) (limits : List ℕ) (cuts : List (List ℕ)) → cut_bytes_of files [] limits ≡ Some cuts → cuts ≡ []
h_nil files [] cuts h = cc
h_nil files (limit ∷ limits) cuts h = cc

pub are_read : (files : Files) (names : List Word) (limits : List ℕ) → length names ≡ length limits → (cuts : List (List ℕ)) →
    cut_bytes_of files names limits ≡ Some cuts → AreRead files names limits cuts
are_read files [] limits count cuts h = ([], refl, record { first = refl; same = λ _. h_nil files limits cuts h })
are_read files (name ∷ names) [] count cuts h = absurd (omega arith)
are_read files (name ∷ names) (limit ∷ limits) count cuts h = by_file (are_read files names limits (omega arith)) (files name) h
  where
    P : List (List ℕ) → Option (List ℕ) → Type 0
    P all file = (whole : List (List ℕ)) × (option_and_then (λ bytes. option_map (λ others. bytes ∷ others) (bytes_of files names)) file ≡ Some whole)
        × Alike (name ∷ names) (limit ∷ limits) all whole

    Rest : Type 0
    Rest = (others : List (List ℕ)) → cut_bytes_of files names limits ≡ Some others → AreRead files names limits others

    by_rest : Rest → (bytes : List ℕ) (rest : Option (List (List ℕ))) → cut_bytes_of files names limits ≡ rest →
        option_map (λ others. take (limit + 1) bytes ∷ others) rest ≡ Some cuts → P cuts (Some bytes)
    by_rest rec bytes None e h = absurd (cc)
    by_rest rec bytes (Some others) e h =
        let ih = rec others e in
        let is : take (limit + 1) bytes ∷ others ≡ cuts = cc in
        subst (λ (all : List (List ℕ)). P all (Some bytes)) is (
          bytes ∷ ih.0,
          ap (λ (o : Option (List (List ℕ))). option_map (λ others. bytes ∷ others) o) ih.1,
          more_alike name names limit limits bytes others ih.0 ih.2,
        )

    by_file : Rest → (file : Option (List ℕ)) →
        option_and_then (λ bytes. option_map (λ others. take (limit + 1) bytes ∷ others) (cut_bytes_of files names limits)) file ≡ Some cuts → P cuts file
    by_file rec None h = absurd (cc)
    by_file rec (Some bytes) h = by_rest rec bytes (cut_bytes_of files names limits) refl h

-- one input more was read, cut past its limit
cut_with : (files : Files) (name : Word) (names : List Word) (limit : ℕ) (limits bytes : List ℕ) → (file : Option (List ℕ)) → files name ≡ file →
    option_map (take (limit + 1)) file ≡ Some bytes →
    cut_bytes_of files (name ∷ names) (limit ∷ limits) ≡ option_map (λ others. bytes ∷ others) (cut_bytes_of files names limits)
cut_with files name names limit limits bytes None is read = absurd cc
cut_with files name names limit limits bytes (Some all) is read =
    let same : take (limit + 1) all ≡ bytes = cc in
    ap (option_and_then (λ bytes. option_map (λ others. take (limit + 1) bytes ∷ others) (cut_bytes_of files names limits))) is
    ∙ ap (λ x. option_map (λ others. x ∷ others) (cut_bytes_of files names limits)) same

one_behind : (so_far : List (List ℕ)) (bytes : List ℕ) (o : Option (List (List ℕ))) →
    option_map (λ others. so_far ++ others) (option_map (λ others. bytes ∷ others) o) ≡ option_map (λ others. (so_far ++ bytes ∷ []) ++ others) o
one_behind so_far bytes None = refl
one_behind so_far bytes (Some others) = ap (λ l. Some l) (sym (append_assoc so_far (bytes ∷ []) others))

pub cut_more : (files : Files) (names : List (String Global)) (roles : List Role) (name : String Global) (role other : Role) (i : ℕ) (so_far : List (List ℕ))
    (bytes : List ℕ) (whole : Option (List (List ℕ))) →
    i < length names → i < length roles → name ≡ get_or names i name → role ≡ get_or roles i other →
    whole ≡ option_map (λ others. so_far ++ others) (cut_bytes_of files (map string_bytes (drop i names)) (map limit_of (drop i roles))) →
    option_map (take (limit_of role + 1)) (files (string_bytes name)) ≡ Some bytes →
    whole ≡ option_map (λ others. (so_far ++ bytes ∷ []) ++ others)
    (cut_bytes_of files (map string_bytes (drop (i + 1) names)) (map limit_of (drop (i + 1) roles)))
cut_more files names roles name role other i so_far bytes whole lt less name_is role_is is read =
    let rest = cut_bytes_of files (map string_bytes (drop (i + 1) names)) (map limit_of (drop (i + 1) roles)) in
    let names_are : drop i names ≡ name ∷ drop (i + 1) names = drop_more names i name lt ∙ ap (λ n. n ∷ drop (i + 1) names) (sym name_is) in
    let roles_are : drop i roles ≡ role ∷ drop (i + 1) roles = drop_more roles i other less ∙ ap (λ r. r ∷ drop (i + 1) roles) (sym role_is) in
    let next : cut_bytes_of files (map string_bytes (drop i names)) (map limit_of (drop i roles)) ≡ option_map (λ others. bytes ∷ others) rest =
    (λ j. cut_bytes_of files (map string_bytes (names_are j)) (map limit_of (roles_are j)))
    ∙ cut_with files (string_bytes name) (map string_bytes (drop (i + 1) names)) (limit_of role) (map limit_of (drop (i + 1) roles)) bytes
    (files (string_bytes name)) refl read in
    is ∙ ap (option_map (λ others. so_far ++ others)) next ∙ one_behind so_far bytes rest
