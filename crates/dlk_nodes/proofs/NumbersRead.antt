-- Numbers between spaces, read one by one.
use Rattle.std.proofs.Common.{◌≡◌, ◌==◌, ℕ, ◌+◌, List, [], ◌∷◌, ◌++◌, Option, Some, None, take, drop, refl, sym, ap, subst, ◌∙◌}
use Rattle.std.specs.Prelude.{position}
use Rattle.dlk_calculus.specs.Places.{at}
use Rattle.dlk_lines.specs.Parts.{NumberThen}
use Rattle.dlk_lines.specs.Spelled.{Names}
use Rattle.dlk_lines.proofs.Cuts.{cut_there, cut_nowhere}
use Rattle.dlk_lines.proofs.Numbers.{number_cut}
use Rattle.dlk_nodes.specs.Fields.{parts_of, Each}
use Rattle.dlk_nodes.proofs.Fields.{one_part}
use Rattle.dlk_nodes.proofs.Numbered.{numbered, number_lacks_space}
use Rattle.dlk_nodes.proofs.Parted.{SoFar, each_both, one_more, none_in_cut, none_in_last}

module _ {A : Type 0} (items : List A) (text left : List ℕ) (xs : List A) (s : SoFar (Names items) 32 text left xs) where
  -- a number with a space behind it, which is one of an item
  pub one_number_more : (n : ℕ) (behind : List ℕ) (x : A) → NumberThen left 32 n behind → Some x ≡ at items n →
      SoFar (Names items) 32 text behind (xs ++ x ∷ [])
  one_number_more n behind x h is =
      one_more (Names items) 32 refl text left h.digits behind x xs (number_cut left 32 n behind refl h) (numbered items h.digits n (Some x) h.is_number is) s

  -- and which is one of none
  pub of_no_item : (n : ℕ) (behind : List ℕ) → NumberThen left 32 n behind → None ≡ at items n → (ys : List A) → ¬ Each (Names items) (parts_of 32 text) ys
  of_no_item n behind h is =
      none_in_cut (Names items) 32 refl text left h.digits behind xs (number_cut left 32 n behind refl h) s (numbered items h.digits n None h.is_number is)

  -- no number has a space behind it, and what is left is none
  pub no_number_left : ((n : ℕ) (rest : List ℕ) → ¬ NumberThen left 32 n rest) → ((x : A) → ¬ Names items left x) → (ys : List A) →
      ¬ Each (Names items) (parts_of 32 text) ys
  no_number_left none last = by_place (position (λ b. b == 32) left) refl
    where
      by_place : (r : Option ℕ) → position (λ b. b == 32) left ≡ r → (ys : List A) → ¬ Each (Names items) (parts_of 32 text) ys
      by_place (Some place) e =
          let cut = cut_there left 32 place e in
          none_in_cut (Names items) 32 refl text left (take place left) (drop (place + 1) left) xs cut s
          (λ x name. none name.number (drop (place + 1) left) (record { digits = take place left; is_number = name.is_number; text_is = cut.text_is }))
      by_place None e = none_in_last (Names items) 32 refl text left xs (cut_nowhere left 32 e) s last

  -- what is left is the last number
  pub last_number : (x : A) → Names items left x → Each (Names items) (parts_of 32 text) (xs ++ x ∷ [])
  last_number x says =
      subst (λ l. Each (Names items) l (xs ++ x ∷ []))
      (sym (s.parts_are ∙ ap (λ l. s.done ++ l) (one_part 32 left (number_lacks_space left says.number says.is_number))))
      (each_both (Names items) s.done (left ∷ []) xs (x ∷ []) s.each (says, tt))
