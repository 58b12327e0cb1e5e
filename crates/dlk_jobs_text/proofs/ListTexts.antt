-- Texts one after another with commas between.
use Rattle.std.proofs.Common.{◌≡◌, ℕ, ◌+◌, ◌-◌, ◌<◌, ◌≤◌, List, [], ◌∷◌, ◌++◌, length, get_or, take, drop, codes, refl, sym, ap, ◌∙◌, arith, append_assoc}
use Rattle.std.specs.List.{flat_map, join_by}
use Rattle.std.proofs.lemmas.List.{take_more, take_all, take_rest, append-nil}
use Rattle.std.proofs.lemmas.Grind.{flat_map-append}
use Rattle.dlk_tree.specs.declared.op.Sym.{Sym}
use Rattle.dlk_jobs_text.specs.Lists.{kind_and_symbol, signature_text}

-- the items behind the first, as a pattern takes them
abbrev pub others : {X : Type 0} → List X → List X
others xs = take (length xs - 1) (drop 1 xs)

-- the texts of items, each with a comma before it
abbrev pub behind : {X : Type 0} → (X → List ℕ) → List X → List ℕ
behind text xs = flat_map (λ x. codes ", " ++ text x) xs

-- one text more
pub behind-more : {X : Type 0} (text : X → List ℕ) (xs : List X) (i : ℕ) (x : X) (old now comma new : List ℕ) → i < length xs → x ≡ get_or xs i x →
    now ≡ old ++ behind text (take i xs) → comma ≡ now ++ codes ", " → new ≡ comma ++ text x → new ≡ old ++ behind text (take (i + 1) xs)
behind-more text xs i x old now comma new h at now_is comma_is new_is =
    let before = behind text (take i xs) in
    let more : behind text (take (i + 1) xs) ≡ before ++ (codes ", " ++ text x) =
    ap (behind text) (take_more xs i x h)
    ∙ flat_map-append (λ y. codes ", " ++ text y) (take i xs) (get_or xs i x ∷ [])
    ∙ ap (λ l. before ++ l) (append-nil (codes ", " ++ text (get_or xs i x)) ∙ ap (λ y. codes ", " ++ text y) (sym at)) in
    new_is ∙ ap (λ l. l ++ text x) (comma_is ∙ ap (λ l. l ++ codes ", ") now_is)
    ∙ append_assoc (old ++ before) (codes ", ") (text x) ∙ append_assoc old before (codes ", " ++ text x) ∙ ap (λ l. old ++ l) (sym more)

-- the first item and the others
first_behind : {X : Type 0} (xs : List X) (first : X) → 1 ≤ length xs → first ≡ get_or xs 0 first → xs ≡ first ∷ others xs
first_behind [] first h at = absurd (omega arith)
first_behind (x ∷ xs) first h at = λ i. sym at i ∷ sym (take_rest (x ∷ xs) 1) i

-- all texts
pub all_behind : {X : Type 0} (text : X → List ℕ) (xs : List X) (first : X) (i : ℕ) (old one now : List ℕ) → 1 ≤ length xs → first ≡ get_or xs 0 first →
    length (others xs) ≤ i →
    one ≡ old ++ text first → now ≡ one ++ behind text (take i (others xs)) → now ≡ old ++ join_by text (codes ", ") xs
all_behind text xs first i old one now some at past one_is now_is =
    now_is ∙ ap (λ l. one ++ behind text l) (take_all i (others xs) past) ∙ ap (λ l. l ++ behind text (others xs)) one_is
    ∙ append_assoc old (text first) (behind text (others xs)) ∙ ap (λ ys. old ++ join_by text (codes ", ") ys) (sym (first_behind xs first some at))

-- symbols of which there are some
pub some_symbols : (syms : List Sym) → 1 ≤ length syms → join_by kind_and_symbol (codes ", ") syms ≡ signature_text syms
some_symbols [] h = absurd (omega arith)
some_symbols (s ∷ syms) h = refl
