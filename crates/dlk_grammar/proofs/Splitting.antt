-- Bytes are split in one way, or come to one bad place.
use Rattle.std.proofs.Common.{◌≡◌, ℕ, ◌+◌, ◌<◌, ◌≤◌, true, false, List, [], ◌∷◌, ◌++◌, length, take, drop, get_or, ◌==◌, refl, sym, ap, subst, ◌∙◌}
use Rattle.std.proofs.Common.{arith, codes, length-append}
use Rattle.std.proofs.Math.Seq.{take-append_seam, drop-append_seam}
use Rattle.std.proofs.lemmas.Bool.{true≢false, eq-eqb}
use Rattle.dlk_grammar.specs.declared.token.Token.{Token}
use Rattle.dlk_grammar.specs.declared.token.TokenKind.{TokenKind}
use Rattle.dlk_grammar.specs.declared.token.TokenKind.TheVariants.{End}
use Rattle.dlk_grammar.specs.Tokens.{is_space, Spells}
use Rattle.dlk_grammar.specs.Splits.{Longest, BeginsComment, EndsLine, at_end, at_feed, IsComment, token, Splits, ended, space, comment, one, BadAt}
use Rattle.dlk_grammar.specs.Splits.{here, after_space, after_comment, after_one}
use Rattle.dlk_grammar.specs.Fronts.{Piece, Ended, Gap, One, Bad, AtFront, front-ended, front-space, front-comment, front-one, front-bad}
use Rattle.dlk_grammar.proofs.Spelled.{one_kind, spelled_some, space_no_token}

-- two longest tokens are one
pub one_longest : {bytes s t : List ℕ} {j k : TokenKind} → Longest bytes s j → Longest bytes t k → (s ≡ t) × (j ≡ k)
one_longest {bytes} {s} {t} {j} {k} a b =
    let le : length t ≤ length s = a.longest t b.rest k b.front b.spells in
    let ge : length s ≤ length t = b.longest s a.rest j a.front a.spells in
    let size : length s ≡ length t = omega arith in
    let s-is : take (length s) bytes ≡ s = ap (take (length s)) a.front ∙ take-append_seam s a.rest in
    let t-is : take (length t) bytes ≡ t = ap (take (length t)) b.front ∙ take-append_seam t b.rest in
    let same : s ≡ t = sym s-is ∙ ap (λ (n : ℕ). take n bytes) size ∙ t-is in
    (same, one_kind a.spells (subst (λ (x : List ℕ). Spells x k) (sym same) b.spells))

pub same_rest : (s r t : List ℕ) → s ++ r ≡ s ++ t → r ≡ t
same_rest s r t e = sym (drop-append_seam s r) ∙ (ap (drop (length s)) e ∙ drop-append_seam s t)

-- the end of a comment isn't inside it
abbrev pub NoEnd : List ℕ → Type 0
NoEnd inside = (sooner after : List ℕ) → ¬ (inside ++ codes "*" ≡ sooner ++ (codes "*/" ++ after))

pub later_no_end : (c : ℕ) (i : List ℕ) → NoEnd (c ∷ i) → NoEnd i
later_no_end c i n = λ sooner after e. n (c ∷ sooner) after (ap (λ l. c ∷ l) e)

-- two numbers
pub apart : (a b : ℕ) → (a == b) ≡ false → a ≡ b → ⊥
apart a b h e = true≢false (sym (eq-eqb a b e) ∙ h)

end_before : (j : List ℕ) (c : ℕ) (r t : List ℕ) → codes "*/" ++ r ≡ (c ∷ j) ++ (codes "*/" ++ t) → NoEnd (c ∷ j) → ⊥
end_before [] c r t e m = apart 47 42 refl (ap (λ (l : List ℕ). get_or l 1 0) e)
end_before (d ∷ j) c r t e m =
    let first : 42 ≡ c = ap (λ (l : List ℕ). get_or l 0 0) e in
    let second : 47 ≡ d = ap (λ (l : List ℕ). get_or l 1 0) e in
    m [] (j ++ codes "*") (rw (first, second) refl)

one_inside : (i j r t : List ℕ) → i ++ (codes "*/" ++ r) ≡ j ++ (codes "*/" ++ t) → NoEnd i → NoEnd j → i ≡ j
one_inside [] [] r t e n m = refl
one_inside [] (c ∷ j) r t e n m = absurd (end_before j c r t e m)
one_inside (c ∷ i) [] r t e n m = absurd (end_before i c t r (sym e) n)
one_inside (c ∷ i) (d ∷ j) r t e n m =
    let head : c ≡ d = cc in
    let tail : i ++ (codes "*/" ++ r) ≡ j ++ (codes "*/" ++ t) = cc in
    let same = one_inside i j r t tail (later_no_end c i n) (later_no_end d j m) in
    cc

-- nor is a line feed in a line
abbrev pub NoFeed : List ℕ → Type 0
NoFeed inside = (sooner after : List ℕ) → ¬ (inside ≡ sooner ++ 10 ∷ after)

later_no_feed : (c : ℕ) (i : List ℕ) → NoFeed (c ∷ i) → NoFeed i
later_no_feed c i n = λ sooner after e. n (c ∷ sooner) after (ap (λ l. c ∷ l) e)

line_before : (c : ℕ) (j r t : List ℕ) → EndsLine r → r ≡ (c ∷ j) ++ t → NoFeed (c ∷ j) → ⊥
line_before c j r t at_end e m = cc
line_before c j r t (at_feed l) e m = m [] j (cc)

one_line : (i j r t : List ℕ) → i ++ r ≡ j ++ t → EndsLine r → EndsLine t → NoFeed i → NoFeed j → i ≡ j
one_line [] [] r t e x y n m = refl
one_line [] (c ∷ j) r t e x y n m = absurd (line_before c j r t x e m)
one_line (c ∷ i) [] r t e x y n m = absurd (line_before c i t r y (sym e) n)
one_line (c ∷ i) (d ∷ j) r t e x y n m =
    let head : c ≡ d = cc in
    let tail : i ++ r ≡ j ++ t = cc in
    let same = one_line i j r t tail x y (later_no_feed c i n) (later_no_feed d j m) in
    cc

-- a comment is one
pub one_comment : {bytes s t r q : List ℕ} → IsComment bytes s r → IsComment bytes t q → (s ≡ t) × (r ≡ q)
one_comment (IsComment.block i r e n) (IsComment.block j q f m) =
    let inner : i ++ (codes "*/" ++ r) ≡ j ++ (codes "*/" ++ q) = same_rest (codes "/*") (i ++ (codes "*/" ++ r)) (j ++ (codes "*/" ++ q)) (sym e ∙ f) in
    let same = one_inside i j r q inner n m in
    let outer : codes "*/" ++ r ≡ codes "*/" ++ q =
    same_rest i (codes "*/" ++ r) (codes "*/" ++ q) (inner ∙ ap (λ (l : List ℕ). l ++ (codes "*/" ++ q)) (sym same)) in
    (ap (λ (l : List ℕ). codes "/*" ++ (l ++ codes "*/")) same, cc)
one_comment (IsComment.block i r e n) (IsComment.line j q f m y) = absurd (apart 42 47 refl (ap (λ (l : List ℕ). get_or l 1 0) (sym e ∙ f)))
one_comment (IsComment.line i r e n x) (IsComment.block j q f m) = absurd (apart 47 42 refl (ap (λ (l : List ℕ). get_or l 1 0) (sym e ∙ f)))
one_comment (IsComment.line i r e n x) (IsComment.line j q f m y) =
    let inner : i ++ r ≡ j ++ q = same_rest (codes "//") (i ++ r) (j ++ q) (sym e ∙ f) in
    let same = one_line i j r q inner x y n m in
    (ap (λ (l : List ℕ). codes "//" ++ l) same, same_rest i r q (inner ∙ ap (λ (l : List ℕ). l ++ q) (sym same)))

pub comment_begins : {bytes s r : List ℕ} → IsComment bytes s r → BeginsComment bytes
comment_begins (IsComment.block i r e n) = subst BeginsComment (sym e) (BeginsComment.block (i ++ (codes "*/" ++ r)))
comment_begins (IsComment.line i r e n x) = subst BeginsComment (sym e) (BeginsComment.line (i ++ r))

comment_some : {bytes : List ℕ} → BeginsComment bytes → bytes ≡ [] → ⊥
comment_some (BeginsComment.block r) e = cc
comment_some (BeginsComment.line r) e = cc

comment_no_space : {bytes : List ℕ} → BeginsComment bytes → (b : ℕ) (rest : List ℕ) → bytes ≡ b ∷ rest → is_space b ≡ true → ⊥
comment_no_space (BeginsComment.block r) b rest e h = let same : b ≡ 47 = cc in true≢false (sym h ∙ ap is_space same)
comment_no_space (BeginsComment.line r) b rest e h = let same : b ≡ 47 = cc in true≢false (sym h ∙ ap is_space same)

token_no_space : {bytes s : List ℕ} {k : TokenKind} → Longest bytes s k → (b : ℕ) (rest : List ℕ) → bytes ≡ b ∷ rest → is_space b ≡ true → ⊥
token_no_space {bytes} {s} l b rest e h = go s l.front l.spells
  where
    go : (s : List ℕ) {k : TokenKind} → bytes ≡ s ++ l.rest → Spells s k → ⊥
    go [] f p = spelled_some p refl
    go (c ∷ s) f p = let same : b ≡ c = cc in space_no_token p (ap is_space (sym same) ∙ h)

token_some : {bytes s : List ℕ} {k : TokenKind} → Longest bytes s k → bytes ≡ [] → ⊥
token_some {bytes} {s} l e = go s l.front l.spells
  where
    go : (s : List ℕ) {k : TokenKind} → bytes ≡ s ++ l.rest → Spells s k → ⊥
    go [] f p = spelled_some p refl
    go (c ∷ s) f p = cc

both_tests : {b c : ℕ} {l r bytes : List ℕ} → bytes ≡ b ∷ l → bytes ≡ c ∷ r → is_space b ≡ true → is_space c ≡ false → ⊥
both_tests {b} {c} e f x y = let same : b ≡ c = cc in true≢false (sym x ∙ ap is_space same ∙ y)

-- it is one thing
pub one_front : {bytes : List ℕ} {p q : Piece} → AtFront bytes p → AtFront bytes q → p ≡ q
one_front (front-ended e) (front-ended f) = refl
one_front (front-ended e) (front-space b r f h) = absurd cc
one_front (front-ended e) (front-comment s r c) = absurd (comment_some (comment_begins c) e)
one_front (front-ended e) (front-one s r k f n l) = absurd (token_some l e)
one_front (front-ended e) (front-bad b r n) = let f = n.bytes_are in absurd cc
one_front (front-space b r e h) (front-ended f) = absurd cc
one_front (front-space b r e h) (front-space c t f g) = let same : r ≡ t = cc in ap (Gap 1) same
one_front (front-space b r e h) (front-comment s t c) = absurd (comment_no_space (comment_begins c) b r e h)
one_front (front-space b r e h) (front-one s t k f n l) = absurd (token_no_space l b r e h)
one_front (front-space b r e h) (front-bad c t n) = absurd (both_tests e n.bytes_are h n.no_space)
one_front (front-comment s r c) (front-ended f) = absurd (comment_some (comment_begins c) f)
one_front (front-comment s r c) (front-space b t e h) = absurd (comment_no_space (comment_begins c) b t e h)
one_front (front-comment s r c) (front-comment z t d) = let w = one_comment c d in ap (λ (x : List ℕ). Gap (length x) r) w.0 ∙ ap (Gap (length z)) w.1
one_front (front-comment s r c) (front-one z t k f n l) = absurd (n (comment_begins c))
one_front (front-comment s r c) (front-bad b t n) = absurd (n.no_comment s r c)
one_front (front-one s r k e n l) (front-ended f) = absurd (token_some l f)
one_front (front-one s r k e n l) (front-space b t f h) = absurd (token_no_space l b t f h)
one_front (front-one s r k e n l) (front-comment z t c) = absurd (n (comment_begins c))
one_front {bytes} (front-one s r k e n l) (front-one z t j f o m) =
    let w = one_longest l m in
    let same : r ≡ t = same_rest s r t (sym e ∙ (f ∙ ap (λ (x : List ℕ). x ++ t) (sym w.0))) in
    ap (λ (x : List ℕ). One x k r) w.0 ∙ (ap (λ (x : TokenKind). One z x r) w.1 ∙ ap (One z j) same)
one_front (front-one s r k e n l) (front-bad b t o) = absurd (n (o.no_token s k l))
one_front (front-bad b r n) (front-ended f) = let e = n.bytes_are in absurd cc
one_front (front-bad b r n) (front-space c t f h) = absurd (both_tests f n.bytes_are h n.no_space)
one_front (front-bad b r n) (front-comment s t c) = absurd (n.no_comment s t c)
one_front (front-bad b r n) (front-one s t k f o l) = absurd (o (n.no_token s k l))
one_front (front-bad b r n) (front-bad c t o) = refl

-- how a split goes on behind it, and how a way to a bad place does
abbrev pub SplitsBehind : ℕ → List Token → Piece → Type 0
SplitsBehind at ts Ended = ts ≡ token End at at ∷ []
SplitsBehind at ts (Gap n rest) = Splits (at + n) rest ts
SplitsBehind at ts (One s k rest) = (us : List Token) × (ts ≡ token k at (at + length s) ∷ us) × Splits (at + length s) rest us
SplitsBehind at ts Bad = ⊥

abbrev pub BadBehind : ℕ → ℕ → Piece → Type 0
BadBehind at bad Ended = ⊥
BadBehind at bad (Gap n rest) = BadAt (at + n) rest bad
BadBehind at bad (One s k rest) = BadAt (at + length s) rest bad
BadBehind at bad Bad = bad ≡ at

pub splits_behind : {at : ℕ} {bytes : List ℕ} {ts : List Token} {p : Piece} → Splits at bytes ts → AtFront bytes p → SplitsBehind at ts p
splits_behind {at} {bytes} {ts} (ended e) f = subst (SplitsBehind at ts) (one_front (front-ended e) f) refl
splits_behind {at} {bytes} {ts} (space b rest e h s) f = subst (SplitsBehind at ts) (one_front (front-space b rest e h) f) s
splits_behind {at} {bytes} {ts} (comment c rest e s) f = subst (SplitsBehind at ts) (one_front (front-comment c rest e) f) s
splits_behind {at} (one {ts = ts} s rest k e n l p) f =
    subst (SplitsBehind at (token k at (at + length s) ∷ ts)) (one_front (front-one s rest k e n l) f) (ts, refl, p)

pub bad_behind : {at bad : ℕ} {bytes : List ℕ} {p : Piece} → BadAt at bytes bad → AtFront bytes p → BadBehind at bad p
bad_behind {at} {bad} (here b rest n) f = subst (BadBehind at bad) (one_front (front-bad b rest n) f) refl
bad_behind {at} {bad} (after_space b rest e h s) f = subst (BadBehind at bad) (one_front (front-space b rest e h) f) s
bad_behind {at} {bad} (after_comment c rest e s) f = subst (BadBehind at bad) (one_front (front-comment c rest e) f) s
bad_behind {at} {bad} (after_one s rest k e n l p) f = subst (BadBehind at bad) (one_front (front-one s rest k e n l) f) p

-- a split goes on over what is at the front, and so does the way to a bad place
pub go_on : {at : ℕ} {bytes : List ℕ} {ts : List Token} {p : Piece} → AtFront bytes p → SplitsBehind at ts p → Splits at bytes ts
go_on {at} {bytes} (front-ended e) s = subst (Splits at bytes) (sym s) (ended e)
go_on (front-space b rest e h) s = space b rest e h s
go_on (front-comment c rest e) s = comment c rest e s
go_on {at} {bytes} (front-one w rest k e n l) s = subst (Splits at bytes) (sym s.1) (one w rest k e n l s.2)
go_on (front-bad b rest n) s = absurd s

pub go_bad : {at bad : ℕ} {bytes : List ℕ} {p : Piece} → AtFront bytes p → BadBehind at bad p → BadAt at bytes bad
go_bad (front-ended e) s = absurd s
go_bad (front-space b rest e h) s = after_space b rest e h s
go_bad (front-comment c rest e) s = after_comment c rest e s
go_bad (front-one w rest k e n l) s = after_one w rest k e n l s
go_bad {at} {bad} {bytes} (front-bad b rest n) s = subst (BadAt at bytes) (sym s) (here b rest n)

-- each step goes forward
abbrev pub Forward : Piece → List ℕ → Type 0
Forward Ended bytes = Unit {0}
Forward (Gap n rest) bytes = (0 < n) × (length rest + n ≡ length bytes)
Forward (One s k rest) bytes = (0 < length s) × (length rest + length s ≡ length bytes)
Forward Bad bytes = Unit {0}

comment_forward : {bytes s rest : List ℕ} → IsComment bytes s rest → (0 < length s) × (length rest + length s ≡ length bytes)
comment_forward (IsComment.block inside rest e n) =
    (omega arith, omega (arith, ap length e, length-append inside (codes "*/" ++ rest), length-append inside (codes "*/")))
comment_forward (IsComment.line inside rest e n x) = (omega arith, omega (arith, ap length e, length-append inside rest))

pub forward : {bytes : List ℕ} {p : Piece} → AtFront bytes p → Forward p bytes
forward (front-ended e) = tt
forward (front-space b rest e h) = (omega arith, omega (arith, ap length e))
forward (front-comment s rest c) = comment_forward c
forward (front-one [] rest k e n l) = absurd (spelled_some l.spells refl)
forward (front-one (b ∷ s) rest k e n l) = (omega arith, omega (arith, ap length e, length-append (b ∷ s) rest))
forward (front-bad b rest n) = tt

-- the laws
pub one_split : {at : ℕ} {bytes : List ℕ} {ts us : List Token} → Splits at bytes ts → Splits at bytes us → ts ≡ us
one_split (ended e) q = sym (splits_behind q (front-ended e))
one_split (space b rest e h p) q = one_split p (splits_behind q (front-space b rest e h))
one_split (comment s rest c p) q = one_split p (splits_behind q (front-comment s rest c))
one_split {at = at} (one s rest k e n l p) q =
    let w = splits_behind q (front-one s rest k e n l) in
    ap (λ (x : List Token). token k at (at + length s) ∷ x) (one_split p w.2) ∙ sym w.1

pub bad_is_no_split : {at : ℕ} {bytes : List ℕ} {ts : List Token} {bad : ℕ} → BadAt at bytes bad → Splits at bytes ts → ⊥
bad_is_no_split (here b rest n) q = splits_behind q (front-bad b rest n)
bad_is_no_split (after_space b rest e h p) q = bad_is_no_split p (splits_behind q (front-space b rest e h))
bad_is_no_split (after_comment s rest c p) q = bad_is_no_split p (splits_behind q (front-comment s rest c))
bad_is_no_split (after_one s rest k e n l p) q = bad_is_no_split p (splits_behind q (front-one s rest k e n l)).2

pub one_bad : {at : ℕ} {bytes : List ℕ} {bad other : ℕ} → BadAt at bytes bad → BadAt at bytes other → bad ≡ other
one_bad (here b rest n) q = sym (bad_behind q (front-bad b rest n))
one_bad (after_space b rest e h p) q = one_bad p (bad_behind q (front-space b rest e h))
one_bad (after_comment s rest c p) q = one_bad p (bad_behind q (front-comment s rest c))
one_bad (after_one s rest k e n l p) q = one_bad p (bad_behind q (front-one s rest k e n l))
