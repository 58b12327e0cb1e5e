-- The comment at the front.
use Rattle.std.proofs.Common.{◌≡◌, ℕ, suc, ◌+◌, ◌-◌, ◌<◌, ◌≤◌, Bool, true, false, ◌==◌, eqb, List, [], ◌∷◌, ◌++◌, length, take, drop, get_or, cond}
use Rattle.std.proofs.Common.{refl, sym, ap, subst, ◌∙◌, append_assoc, add-one, arith, codes, length-append}
use Rattle.std.specs.List.{list_all, starts_with, prefix_len}
use Rattle.std.specs.Prelude.{not}
use Rattle.std.proofs.Math.Seq.{drop-cons, drop-append_seam, get_or-append_seam}
use Rattle.std.proofs.lemmas.Bool.{eqb-true, and_parts}
use Rattle.std.proofs.lemmas.List.{take-append-drop, take_all, length-drop, length-take-le, get_or-append-add}
use Rattle.std.proofs.lemmas.List.Sums.{prefix_len-le-length}
use Rattle.dlk_grammar.specs.Splits.{BeginsComment, EndsLine, at_end, at_feed, IsComment}
use Rattle.dlk_grammar.specs.Fronts.{Piece, AtFront, front-comment, front-bad}
use Rattle.dlk_grammar.proofs.Splitting.{same_rest, apart}
use Rattle.dlk_lex.proofs.Fronts.{prefix_all}
use Rattle.dlk_lex.proofs.Texts.{at_front, not_at_front}
use Rattle.dlk_lex.specs.Fronts.{EndsBlock, HasNoEnd, is_no_feed}

-- no comment begins
pub no_comment : (bytes : List ℕ) → starts_with eqb bytes (codes "/*") ≡ false → starts_with eqb bytes (codes "//") ≡ false → ¬ BeginsComment bytes
no_comment _ h i (BeginsComment.block rest) = not_at_front (codes "/*" ++ rest) (codes "/*") rest h refl
no_comment _ h i (BeginsComment.line rest) = not_at_front (codes "//" ++ rest) (codes "//") rest i refl

-- what `&bytes[n..]` is behind a word of n bytes
pub behind : (bytes w : List ℕ) (n : ℕ) → starts_with eqb bytes w ≡ true → n ≡ length w → bytes ≡ w ++ take (length bytes - n) (drop n bytes)
behind bytes w n h e =
    let all : take (length bytes - n) (drop n bytes) ≡ drop n bytes = take_all (length bytes - n) (drop n bytes) (omega (arith, length-drop n bytes)) in
    at_front bytes w h ∙ ap (λ (l : List ℕ). w ++ l) (ap (λ (k : ℕ). drop k bytes) (sym e) ∙ sym all)

-- a comment and the rest are the bytes
comment_parts : {bytes s rest : List ℕ} → IsComment bytes s rest → bytes ≡ s ++ rest
comment_parts (IsComment.block inside rest e n) = e ∙ ap (λ (l : List ℕ). codes "/*" ++ l) (sym (append_assoc inside (codes "*/") rest))
comment_parts (IsComment.line inside rest e n x) = e

gap_is : {bytes s rest : List ℕ} (n : ℕ) → IsComment bytes s rest → length s ≡ n → (n ≤ length bytes) × AtFront bytes (Piece.Gap n (drop n bytes))
gap_is {bytes} {s} {rest} n c size =
    let parts = comment_parts c in
    let behind : drop n bytes ≡ rest = ap (λ (m : ℕ). drop m bytes) (sym size) ∙ (ap (drop (length s)) parts ∙ drop-append_seam s rest) in
    let le : n ≤ length bytes = omega (arith, ap length parts, length-append s rest) in
    (le, subst (λ (x : List ℕ). AtFront bytes (Piece.Gap n x)) (sym behind) (subst (λ (m : ℕ). AtFront bytes (Piece.Gap m rest)) size (front-comment s rest c)))

-- where an end stands
record EndAt (tail : List ℕ) (k : ℕ) : Type 0 where
  within : k + 1 < length tail
  star : get_or tail k 0 ≡ 42
  slash : get_or tail (k + 1) 0 ≡ 47

end_at : (sooner after : List ℕ) → EndAt (sooner ++ (codes "*/" ++ after)) (length sooner)
end_at sooner after = record {
  within = omega (arith, length-append sooner (codes "*/" ++ after));
  star = get_or-append_seam sooner 42 (47 ∷ after) 0;
  slash = get_or-append-add sooner (codes "*/" ++ after) 1 0;
}

module _ (bytes tail : List ℕ) where
  pub block_found : (n : ℕ) → bytes ≡ codes "/*" ++ tail → EndsBlock tail n → (n + 4 ≤ length bytes) × AtFront bytes (Piece.Gap (n + 4) (drop (n + 4) bytes))
  block_found n e b =
      let inside = take n tail in
      let rest = drop (n + 2) tail in
      let lt : n + 1 < length tail = b.within in
      let first : drop n tail ≡ 42 ∷ drop (n + 1) tail = drop-cons tail n 0 (omega arith) ∙ rw (b.star, add-one) refl in
      let second : drop (n + 1) tail ≡ 47 ∷ drop (n + 2) tail =
      drop-cons tail (n + 1) 0 lt ∙ (let two : suc (n + 1) ≡ n + 2 = omega arith in rw (b.slash, two) refl) in
      let parts : tail ≡ take n tail ++ (codes "*/" ++ drop (n + 2) tail) =
      sym (take-append-drop n tail) ∙ ap (λ (l : List ℕ). take n tail ++ l) (first ∙ ap (λ (l : List ℕ). 42 ∷ l) second) in
      let size : length (take n tail) ≡ n = length-take-le n tail (omega arith) in
      let none : (sooner after : List ℕ) → ¬ (take n tail ++ codes "*" ≡ sooner ++ (codes "*/" ++ after)) = λ sooner after f.
      let w = end_at sooner (after ++ (codes "/" ++ drop (n + 2) tail)) in
      let whole : tail ≡ sooner ++ (codes "*/" ++ (after ++ (codes "/" ++ drop (n + 2) tail))) =
      parts ∙ sym (append_assoc (take n tail) (codes "*") (codes "/" ++ drop (n + 2) tail)) ∙ ap (λ (l : List ℕ). l ++ (codes "/" ++ drop (n + 2) tail)) f
      ∙ append_assoc sooner (codes "*/" ++ after) (codes "/" ++ drop (n + 2) tail) in
      let k : length sooner < n = omega (arith, ap length f, length-append (take n tail) (codes "*"), length-append sooner (codes "*/" ++ after), size) in
      b.first (length sooner) k (ap (λ (l : List ℕ). get_or l (length sooner) 0) whole ∙ w.star)
      (ap (λ (l : List ℕ). get_or l (length sooner + 1) 0) whole ∙ w.slash) in
      gap_is (n + 4) (IsComment.block (take n tail) (drop (n + 2) tail) (e ∙ ap (λ (l : List ℕ). codes "/*" ++ l) parts) none)
      (omega (arith, length-append (take n tail) (codes "*/"), size))

  pub block_missing : bytes ≡ codes "/*" ++ tail → HasNoEnd tail → AtFront bytes Piece.Bad
  block_missing e none = front-bad 47 (42 ∷ tail) (record {
    bytes_are = e;
    no_space = refl;
    no_comment = λ s after c. go c;
    no_token = λ s k l. subst BeginsComment (sym e) (BeginsComment.block tail);
  })
    where
      go : {s after : List ℕ} → IsComment bytes s after → ⊥
      go (IsComment.block inside rest f n) =
          let w = end_at inside rest in
          let same : tail ≡ inside ++ (codes "*/" ++ rest) = same_rest (codes "/*") tail (inside ++ (codes "*/" ++ rest)) (sym e ∙ f) in
          none (length inside) (omega (arith, w.within, ap length same)) (ap (λ (l : List ℕ). get_or l (length inside) 0) same ∙ w.star)
          (ap (λ (l : List ℕ). get_or l (length inside + 1) 0) same ∙ w.slash)
      go (IsComment.line inside rest f n x) = apart 42 47 refl (ap (λ (l : List ℕ). get_or l 1 0) (sym e ∙ f))

ends_line : (l : List ℕ) → EndsLine (drop (prefix_len is_no_feed l) l)
ends_line [] = at_end
ends_line (b ∷ bs) = go (b == 10) refl (ends_line bs)
  where
    go : (c : Bool) → (b == 10) ≡ c → EndsLine (drop (prefix_len is_no_feed bs) bs) → EndsLine (drop (cond (not c) (1 + prefix_len is_no_feed bs) 0) (b ∷ bs))
    go true e x = rw (eqb-true b 10 e) (at_feed bs)
    go false e x = let n : 1 + prefix_len is_no_feed bs ≡ suc (prefix_len is_no_feed bs) = omega arith in rw n x

no_feed : (sooner after : List ℕ) → list_all is_no_feed (sooner ++ 10 ∷ after) ≡ true → ⊥
no_feed [] after h = cc
no_feed (b ∷ l) after h = no_feed l after (and_parts (is_no_feed b) (list_all is_no_feed (l ++ 10 ∷ after)) h).1

pub line_found : (bytes tail : List ℕ) (n : ℕ) → bytes ≡ codes "//" ++ tail → n ≡ prefix_len is_no_feed tail
    → (2 + n ≤ length bytes) × AtFront bytes (Piece.Gap (2 + n) (drop (2 + n) bytes))
line_found bytes tail n e same =
    let run = prefix_len is_no_feed tail in
    let le = prefix_len-le-length is_no_feed tail in
    let size : length (take run tail) ≡ run = length-take-le run tail le in
    let none : (sooner after : List ℕ) → ¬ (take run tail ≡ sooner ++ 10 ∷ after) = λ sooner after f.
    absurd (no_feed sooner after (ap (list_all is_no_feed) (sym f) ∙ prefix_all is_no_feed tail)) in
    let parts = e ∙ ap (λ (l : List ℕ). codes "//" ++ l) (sym (take-append-drop run tail)) in
    gap_is (2 + n) (IsComment.line (take run tail) (drop run tail) parts none (ends_line tail)) (omega (arith, size, same))
