-- A text says at most one sequent, and at most one formula, by the numbers of nodes.
use Rattle.std.proofs.Common.{◌≡◌, ℕ, List, [], ◌∷◌, ◌++◌, codes, refl, sym, ap, subst, ◌∙◌, append_assoc}
use Rattle.dlk_tree.specs.Trees.{Tree}
use Rattle.dlk_calculus.specs.Sequents.{Sequent}
use Rattle.dlk_lines.specs.Spelled.{Names, NamesBefore, none_before, one_before, NamesSequent, sides, NamesFormula, formula}
use Rattle.dlk_lines.proofs.Numbers.{number_parts}
use Rattle.dlk_nodes.specs.Fields.{parts_of, Each}
use Rattle.dlk_nodes.proofs.Fields.{next_part}
use Rattle.dlk_nodes.proofs.Parted.{each_one}
use Rattle.dlk_nodes.proofs.Numbered.{number_lacks_space, one_name, fields_behind, each_field}
use Rattle.dlk_nodes.proofs.OpsCut.{behind_all, not_fields}

record Before {A : Type 0} (items : List A) (left : List ℕ) (xs : List A) : Type 0 where
  pub fields : List (List ℕ)
  pub numbers : Each (Names items) fields xs
  pub then_rest : (rest : List ℕ) → parts_of 32 (left ++ rest) ≡ fields ++ parts_of 32 rest

before_fields : {A : Type 0} (items : List A) (left : List ℕ) (xs : List A) → NamesBefore items left xs → Before items left xs
before_fields items _ _ none_before = record { fields = []; numbers = tt; then_rest = λ rest. refl }
before_fields items _ _ (one_before {i} {text} {x} {xs} name others) =
    let more = before_fields items text xs others in
    record {
      fields = i ∷ more.fields;
      numbers = (name, more.numbers);
      then_rest = λ rest.
          let grouped : (i ++ codes " " ++ text) ++ rest ≡ i ++ 32 ∷ (text ++ rest) = simp append_assoc in
          ap (parts_of 32) grouped ∙ next_part 32 i (text ++ rest) refl (number_lacks_space i name.number name.is_number)
          ∙ ap (λ l. i ∷ l) (more.then_rest rest);
    }

module _ (nodes : List Tree) where
  record SequentFields (text : List ℕ) (s : Sequent) : Type 0 where
    pub left : List (List ℕ)
    pub right : List (List ℕ)
    pub fields_are : parts_of 32 text ≡ left ++ codes "==>" ∷ right
    pub ante : Each (Names nodes) left s.ante
    pub succ : Each (Names nodes) right s.succ

  sequent_fields : (text : List ℕ) (s : Sequent) → NamesSequent nodes text s → SequentFields text s
  sequent_fields _ _ (sides {left} {right} {s} before each a b) =
      let front = before_fields nodes left s.ante before in
      let grouped : left ++ codes "==>" ++ right ≡ left ++ (codes "==>" ++ right) = append_assoc left (codes "==>") right in
      let behind = behind_all (codes "==>") right (not_fields nodes right s.succ each) refl in
      record {
        left = front.fields;
        right = fields_behind right;
        fields_are = ap (parts_of 32) grouped ∙ front.then_rest (codes "==>" ++ right) ∙ ap (λ l. front.fields ++ l) behind;
        ante = front.numbers;
        succ = each_field nodes right s.succ each;
      }

  -- the arrow is no number
  no_arrow : (x : Tree) → ¬ Names nodes (codes "==>") x
  no_arrow x name = absurd (cc ((number_parts (codes "==>") name.number name.is_number).digits))

  one_split : (ls rs ms ns : List (List ℕ)) (xs ys : List Tree) → Each (Names nodes) ls xs → Each (Names nodes) ms ys →
      ls ++ codes "==>" ∷ rs ≡ ms ++ codes "==>" ∷ ns → (ls ≡ ms) × (rs ≡ ns)
  one_split [] rs [] ns xs ys a b e = (refl, cc)
  one_split [] rs (m ∷ ms) ns xs [] a b e = absurd b
  one_split [] rs (m ∷ ms) ns xs (y ∷ ys) a b e = let same : codes "==>" ≡ m = cc in absurd (no_arrow y (subst (λ l. Names nodes l y) (sym same) b.0))
  one_split (l ∷ ls) rs [] ns [] ys a b e = absurd a
  one_split (l ∷ ls) rs [] ns (x ∷ xs) ys a b e = let same : l ≡ codes "==>" = cc in absurd (no_arrow x (subst (λ m. Names nodes m x) same a.0))
  one_split (l ∷ ls) rs (m ∷ ms) ns [] ys a b e = absurd a
  one_split (l ∷ ls) rs (m ∷ ms) ns (x ∷ xs) [] a b e = absurd b
  one_split (l ∷ ls) rs (m ∷ ms) ns (x ∷ xs) (y ∷ ys) a b e =
      let head : l ≡ m = cc in
      let tail : ls ++ codes "==>" ∷ rs ≡ ms ++ codes "==>" ∷ ns = cc in
      let more = one_split ls rs ms ns xs ys a.1 b.1 tail in
      (λ i. head i ∷ more.0 i, more.1)

  -- a text says one sequent
  pub one_sequent : (text : List ℕ) (s t : Sequent) → NamesSequent nodes text s → NamesSequent nodes text t → s ≡ t
  one_sequent text s t a b =
      let p = sequent_fields text s a in
      let q = sequent_fields text t b in
      let same = one_split p.left p.right q.left q.right s.ante t.ante p.ante q.ante (sym p.fields_are ∙ q.fields_are) in
      let ante = each_one (Names nodes) (one_name nodes) q.left s.ante t.ante (subst (λ l. Each (Names nodes) l s.ante) same.0 p.ante) q.ante in
      let succ = each_one (Names nodes) (one_name nodes) q.right s.succ t.succ (subst (λ l. Each (Names nodes) l s.succ) same.1 p.succ) q.succ in
      λ i. record { ante = ante i; succ = succ i }

  -- and one formula
  formula_parts : (text : List ℕ) (h : Tree) → NamesFormula nodes text h → (i : List ℕ) × (text ≡ codes "#" ++ i) × Names nodes i h
  formula_parts _ _ (formula {i} name sort_is) = (i, refl, name)

  pub one_formula : (text : List ℕ) (g h : Tree) → NamesFormula nodes text g → NamesFormula nodes text h → g ≡ h
  one_formula text g h a b =
      let p = formula_parts text g a in
      let q = formula_parts text h b in
      let both : codes "#" ++ p.0 ≡ codes "#" ++ q.0 = sym p.1 ∙ q.1 in
      let same : p.0 ≡ q.0 = cc in
      one_name nodes q.0 g h (subst (λ i. Names nodes i g) same p.2) q.2
