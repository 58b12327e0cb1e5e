-- What the parts of a text say, one by one.
use Rattle.std.proofs.Common.{◌≡◌, ◌≢◌, ℕ, ◌==◌, true, List, [], ◌∷◌, ◌++◌, length, suc, refl, sym, ap, subst, ◌∙◌, append_assoc}
use Rattle.dlk_lines.specs.Parts.{CutAt}
use Rattle.dlk_nodes.specs.Fields.{parts_of, Each}
use Rattle.dlk_nodes.proofs.Fronts.{uncut_lacks}
use Rattle.dlk_nodes.proofs.Fields.{one_part, next_part}

pub lone_part : (byte : ℕ) (text : List ℕ) → ((front rest : List ℕ) → text ≢ front ++ byte ∷ rest) → parts_of byte text ≡ text ∷ []
lone_part byte text none = one_part byte text (uncut_lacks byte text none)

pub cut_parts : (byte : ℕ) (text front rest : List ℕ) → (byte == byte) ≡ true → CutAt text byte front rest → parts_of byte text ≡ front ∷ parts_of byte rest
cut_parts byte text front rest same cut = ap (parts_of byte) cut.text_is ∙ next_part byte front rest same cut.first

module _ {A : Type 0} (Says : List ℕ → A → Type 0) where
  pub each_both : (fs gs : List (List ℕ)) (xs ys : List A) → Each Says fs xs → Each Says gs ys → Each Says (fs ++ gs) (xs ++ ys)
  each_both [] gs [] ys a b = b
  each_both [] gs (x ∷ xs) ys a b = absurd a
  each_both (f ∷ fs) gs [] ys a b = absurd a
  each_both (f ∷ fs) gs (x ∷ xs) ys a b = (a.0, each_both fs gs xs ys a.1 b)

  pub each_long : (fs : List (List ℕ)) (xs : List A) → Each Says fs xs → length fs ≡ length xs
  each_long [] [] a = refl
  each_long [] (x ∷ xs) a = absurd a
  each_long (f ∷ fs) [] a = absurd a
  each_long (f ∷ fs) (x ∷ xs) a = ap suc (each_long fs xs a.1)

  -- where each part says one thing, parts say one list
  pub each_one : ((text : List ℕ) (x y : A) → Says text x → Says text y → x ≡ y) → (fs : List (List ℕ)) (xs ys : List A) → Each Says fs xs →
      Each Says fs ys → xs ≡ ys
  each_one one [] [] [] a b = refl
  each_one one [] [] (y ∷ ys) a b = absurd b
  each_one one [] (x ∷ xs) ys a b = absurd a
  each_one one (f ∷ fs) [] ys a b = absurd a
  each_one one (f ∷ fs) (x ∷ xs) [] a b = absurd b
  each_one one (f ∷ fs) (x ∷ xs) (y ∷ ys) a b =
      let first = one f x y a.0 b.0 in
      let rest = each_one one fs xs ys a.1 b.1 in
      λ i. first i ∷ rest i

  -- one among them
  among : (before : List (List ℕ)) (field : List ℕ) (after : List (List ℕ)) (xs : List A) → Each Says (before ++ field ∷ after) xs → (x : A) × Says field x
  among [] field after [] a = absurd a
  among [] field after (x ∷ xs) a = (x, a.0)
  among (f ∷ before) field after [] a = absurd a
  among (f ∷ before) field after (x ∷ xs) a = among before field after xs a.1

-- the items of the parts so far
pub record SoFar {A : Type 0} (Says : List ℕ → A → Type 0) (byte : ℕ) (text left : List ℕ) (xs : List A) : Type 0 where
  pub done : List (List ℕ)
  pub parts_are : parts_of byte text ≡ done ++ parts_of byte left
  pub each : Each Says done xs

pub none_yet : {A : Type 0} (Says : List ℕ → A → Type 0) (byte : ℕ) (text : List ℕ) → SoFar Says byte text text []
none_yet Says byte text = record { done = []; parts_are = refl; each = tt }

module _ {A : Type 0} (Says : List ℕ → A → Type 0) (byte : ℕ) (same : (byte == byte) ≡ true) (text left : List ℕ) where
  pub one_more : (part behind : List ℕ) (x : A) (xs : List A) → CutAt left byte part behind → Says part x → SoFar Says byte text left xs →
      SoFar Says byte text behind (xs ++ x ∷ [])
  one_more part behind x xs cut says s = record {
    done = s.done ++ part ∷ [];
    parts_are = s.parts_are ∙ ap (λ l. s.done ++ l) (cut_parts byte left part behind same cut) ∙ sym (append_assoc s.done (part ∷ []) (parts_of byte behind));
    each = each_both Says s.done (part ∷ []) xs (x ∷ []) s.each (says, tt);
  }

  none_next : (part : List ℕ) (after : List (List ℕ)) (xs : List A) → parts_of byte left ≡ part ∷ after → ((x : A) → ¬ Says part x) →
      SoFar Says byte text left xs →
      (ys : List A) → ¬ Each Says (parts_of byte text) ys
  none_next part after xs e none s ys is =
      let whole : parts_of byte text ≡ s.done ++ part ∷ after = s.parts_are ∙ ap (λ l. s.done ++ l) e in
      let found = among Says s.done part after ys (subst (λ l. Each Says l ys) whole is) in
      none found.0 found.1

  pub none_in_cut : (part behind : List ℕ) (xs : List A) → CutAt left byte part behind → SoFar Says byte text left xs → ((x : A) → ¬ Says part x) →
      (ys : List A) → ¬ Each Says (parts_of byte text) ys
  none_in_cut part behind xs cut s none ys is = none_next part (parts_of byte behind) xs (cut_parts byte left part behind same cut) none s ys is

  pub none_in_last : (xs : List A) → ((front rest : List ℕ) → left ≢ front ++ byte ∷ rest) → SoFar Says byte text left xs → ((x : A) → ¬ Says left x) →
      (ys : List A) → ¬ Each Says (parts_of byte text) ys
  none_in_last xs alone s none ys is = none_next left [] xs (lone_part byte left alone) none s ys is

  pub all_parts : (x : A) (xs : List A) → ((front rest : List ℕ) → left ≢ front ++ byte ∷ rest) → Says left x → SoFar Says byte text left xs →
      Each Says (parts_of byte text) (xs ++ x ∷ [])
  all_parts x xs alone says s =
      subst (λ l. Each Says l (xs ++ x ∷ [])) (sym (s.parts_are ∙ ap (λ l. s.done ++ l) (lone_part byte left alone)))
      (each_both Says s.done (left ∷ []) xs (x ∷ []) s.each (says, tt))
