-- It is known whether a text is a node line: the one candidate is found by its parts, and written back.
use Rattle.std.proofs.Common.{◌≡◌, ◌≢◌, ℕ, ◌==◌, ◌≤◌, Bool, true, false, List, [], ◌∷◌, ◌++◌, length, Option, Some, None, codes, refl, sym, ap, subst}
use Rattle.std.proofs.Common.{◌∙◌, append_assoc, arith, ◌⊎◌, inl, inr}
use Rattle.std.specs.Bool.{Decides}
use Rattle.std.specs.List.{list_all, position}
use Rattle.std.specs.Str.{bytes_eq}
use Rattle.std.specs.Cmp.Lexicographic.{pointwise}
use Rattle.std.proofs.lemmas.Bool.{cases_lt}
use Rattle.std.proofs.lemmas.Bool.Decides.{Decides-eqb}
use Rattle.std.proofs.lemmas.Slice.Eq.{bytes_eq-Decides}
use Rattle.dlk_tree.specs.contracts.op.SortPartialEq.TheImpl as SortEq
use Rattle.dlk_tree.specs.declared.op.Op.{Op}
use Rattle.dlk_tree.specs.declared.op.Op.TheVariants as op
use Rattle.dlk_tree.specs.Names.{is_between}
use Rattle.dlk_tree.specs.Table.{kid_sorts, has_parts}
use Rattle.dlk_tree.specs.Trees.{Tree, node, forest, sorts, size, depth}
use Rattle.dlk_tree.proofs.Same.{sorts_decides}
use Rattle.dlk_calculus.specs.Limits.{most_nodes, greatest_depth}
use Rattle.dlk_calculus.specs.Places.{at}
use Rattle.dlk_grammar.specs.Tokens.{is_digit, value}
use Rattle.dlk_lines.specs.Numbers.{IsNumber, number}
use Rattle.dlk_lines.specs.Parts.{CutAt}
use Rattle.dlk_nodes.specs.Words.{call_of, op_text}
use Rattle.dlk_nodes.specs.Fields.{parts_of, Each}
use Rattle.dlk_lines.specs.Spelled.{Names}
use Rattle.dlk_nodes.specs.Nodes.{has_node, NamesNode, op_and_kids, IsNew, IsNode, new_node, IsNodeLine, node_line, TakesKids, IsRead}
use Rattle.dlk_lines.proofs.Numbers.{one_number}
use Rattle.dlk_lines.proofs.Cuts.{cut_there, cut_nowhere}
use Rattle.dlk_nodes.proofs.Fields.{behind_each}
use Rattle.dlk_nodes.proofs.Parted.{each_one}
use Rattle.dlk_nodes.proofs.Numbered.{one_name, named_each}
use Rattle.dlk_nodes.proofs.OpsRead.{detail_fields, read_op}
use Rattle.dlk_nodes.proofs.Readings.{Reading, reading, one_found, one_reading}
use Rattle.dlk_nodes.proofs.OneNode.{node_parts, line_parts, same_behind, same_parts}

-- ---- what is decided

abbrev pub Known : Type 0 → Type 0
Known A = A ⊎ (¬ A)

pub both : {A B : Type 0} → Known A → Known B → Known (A × B)
both (inl a) (inl b) = inl (a, b)
both (inl a) (inr no_b) = inr (λ p. no_b p.1)
both (inr no_a) b = inr (λ p. no_a p.0)

pub by_test : {A : Type 0} (b : Bool) → Decides b A → Known A
by_test true d = inl (d.0 refl)
by_test false d = inr (λ a. let e : false ≡ true = d.1 a in absurd (cc e))

pub is_equal : (b c : Bool) → Known (b ≡ c)
is_equal true true = inl refl
is_equal true false = inr (λ e. cc e)
is_equal false true = inr (λ e. cc e)
is_equal false false = inl refl

pub at_most : (m n : ℕ) → Known (m ≤ n)
at_most m n = elim (cases_lt n m) [ inl less ↦ inr (λ le. omega (arith, less, le)) | inr le ↦ inl le ]

pub known_number : (text : List ℕ) → ((n : ℕ) × IsNumber text n) ⊎ ((n : ℕ) → ¬ IsNumber text n)
known_number [] = inr none
  where
    none : (n : ℕ) → ¬ IsNumber [] n
    none n is = elim is [ ]
known_number (b ∷ bs) = elim (both (is_equal (is_between 49 57 b) true) (both (is_equal (list_all is_digit bs) true) (at_most (length bs) 8))) [
  | inl ok ↦ inl (value (b ∷ bs), number b bs ok.0 ok.1.0 ok.1.1)
  | inr not_ok ↦ inr (none not_ok)
]
  where
    none : ¬ ((is_between 49 57 b ≡ true) × ((list_all is_digit bs ≡ true) × (length bs ≤ 8))) → (n : ℕ) → ¬ IsNumber (b ∷ bs) n
    none not_ok _ (number _ _ high rest few) = not_ok (high, (rest, few))

known_takes : (o : Op) (n : ℕ) → Known (TakesKids o n)
known_takes (op.Apply s) n = by_test (s.arity == n) (Decides-eqb s.arity n)
known_takes (op.Holds s) n = by_test (s.arity == n) (Decides-eqb s.arity n)
known_takes (op.Variable v) n = inl tt
known_takes _ n = inl tt

-- a cut at the first of these bytes
pub known_cut : (byte : ℕ) (text : List ℕ) → ((front : List ℕ) × (rest : List ℕ) × CutAt text byte front rest) ⊎ ((front rest : List ℕ) →
    text ≢ front ++ byte ∷ rest)
known_cut byte text = by_place (position (λ b. b == byte) text) refl
  where
    by_place : (r : Option ℕ) → position (λ b. b == byte) text ≡ r → ((front : List ℕ) × (rest : List ℕ) × CutAt text byte front rest) ⊎
        ((front rest : List ℕ) → text ≢ front ++ byte ∷ rest)
    by_place (Some i) e = inl (_, _, cut_there text byte i e)
    by_place None e = inr (cut_nowhere text byte e)

-- a word at the front
pub known_front : (word text : List ℕ) → Known ((rest : List ℕ) × (text ≡ word ++ rest))
known_front [] text = inl (text, refl)
known_front (b ∷ word) [] = inr (λ w. let none : [] ≡ b ∷ (word ++ w.0) = w.1 in cc none)
known_front (b ∷ word) (c ∷ text) = elim (by_test (c == b) (Decides-eqb c b)) [
  | inl same ↦ elim (known_front word text) [
    | inl w ↦ inl (w.0, (λ i. same i ∷ w.1 i))
    | inr none ↦ inr (λ w. let tail : text ≡ word ++ w.0 = let all : c ∷ text ≡ b ∷ (word ++ w.0) = w.1 in cc in none (w.0, tail))
  ]
  | inr other ↦ inr (λ w. let head : c ≡ b = let all : c ∷ text ≡ b ∷ (word ++ w.0) = w.1 in cc in other head)
]

module _ (nodes : List Tree) where
  -- ---- kids

  pub known_name : (text : List ℕ) → ((t : Tree) × Names nodes text t) ⊎ ((t : Tree) → ¬ Names nodes text t)
  known_name text = elim (known_number text) [
    | inl is ↦ by_item is.0 is.1 (at nodes is.0) refl
    | inr none ↦ inr (λ t name. none name.number name.is_number)
  ]
    where
      by_item : (n : ℕ) → IsNumber text n → (item : Option Tree) → at nodes n ≡ item → ((t : Tree) × Names nodes text t) ⊎ ((t : Tree) → ¬ Names nodes text t)
      by_item n is (Some t) e = inl (t, record { number = n; is_number = is; there = e })
      by_item n is None e = inr (λ t name.
          let same = one_number text name.number n name.is_number is in
          let clash : None ≡ Some t = sym e ∙ sym (ap (at nodes) same) ∙ name.there in
          absurd (cc clash))

  pub known_names : (fs : List (List ℕ)) → ((ts : List Tree) × Each (Names nodes) fs ts) ⊎ ((ts : List Tree) → ¬ Each (Names nodes) fs ts)
  known_names [] = inl ([], tt)
  known_names (f ∷ fs) = elim (known_name f) [
    | inl first ↦ elim (known_names fs) [
      | inl others ↦ inl (first.0 ∷ others.0, (first.1, others.1))
      | inr none ↦ inr (no_others none)
    ]
    | inr none ↦ inr (no_first none)
  ]
    where
      no_others : ((ts : List Tree) → ¬ Each (Names nodes) fs ts) → (ts : List Tree) → ¬ Each (Names nodes) (f ∷ fs) ts
      no_others none [] a = a
      no_others none (t ∷ ts) a = none ts a.1

      no_first : ((t : Tree) → ¬ Names nodes f t) → (ts : List Tree) → ¬ Each (Names nodes) (f ∷ fs) ts
      no_first none [] a = a
      no_first none (t ∷ ts) a = none t a.0

  -- ---- readings

  abbrev Reads : List ℕ → Type 0
  Reads text = (o : Op) × (ts : List Tree) × IsRead nodes text o ts

  -- what the candidate is tested for
  abbrev Passes : List ℕ → Op → List (List ℕ) → List Tree → Type 0
  Passes text o fs ts = (text ≡ op_text o ++ behind_each 32 fs) × ((has_parts o ≡ true) × TakesKids o (length ts))

  known_passes : (text : List ℕ) (o : Op) (fs : List (List ℕ)) (ts : List Tree) → Known (Passes text o fs ts)
  known_passes text o fs ts =
      both (by_test (bytes_eq text (op_text o ++ behind_each 32 fs)) (bytes_eq-Decides text (op_text o ++ behind_each 32 fs)))
      (both (is_equal (has_parts o) true) (known_takes o (length ts)))

  -- each reading of the text is the candidate
  is_candidate : (text word : List ℕ) (rest : List (List ℕ)) (r : Option (Op × List (List ℕ))) (p : Op) (us : List Tree) (s : Reading nodes text p us) →
      parts_of 32 text ≡ word ∷ rest → read_op word rest ≡ r → Some (p, s.fields) ≡ r
  is_candidate text word rest r p us s e found =
      let same = sym s.parts_are ∙ e in
      let words : (call_of p).0 ≡ word = cc in
      let fields : detail_fields (call_of p).1 ++ s.fields ≡ rest = cc in
      sym s.back ∙ (λ i. read_op (words i) (fields i)) ∙ found

  by_candidate : (text word : List ℕ) (rest : List (List ℕ)) → parts_of 32 text ≡ word ∷ rest → (r : Option (Op × List (List ℕ))) →
      read_op word rest ≡ r → Known (Reads text)
  by_candidate text word rest e None found = inr (λ l.
      let s = reading nodes text l.0 l.1 l.2 in
      let clash = is_candidate text word rest None l.0 l.1 s e found in
      cc clash)
  by_candidate text word rest e (Some (o, fs)) found = elim (known_names fs) [
    | inl names ↦ elim (known_passes text o fs names.0) [
      | inl p ↦ inl (
        o,
        names.0,
        record {
          names = subst (λ l. NamesNode nodes l o names.0) (sym p.0) (op_and_kids o
              (named_each nodes fs names.0 names.1));
          parts = p.1.0;
          arity = p.1.1;
        },
      )
      | inr fails ↦ inr (λ l.
          let s = reading nodes text l.0 l.1 l.2 in
          let c = one_found nodes l.0 o s.fields fs (is_candidate text word rest (Some (o, fs)) l.0 l.1 s e found) in
          let kids : l.1 ≡ names.0 = each_one (Names nodes) (one_name nodes) fs l.1 names.0 (subst (λ f. Each (Names nodes) f l.1) c.1 s.each) names.1 in
          fails (
            s.text_is ∙ (λ i. op_text (c.0 i) ++ behind_each 32 (c.1 i)),
            (
              subst (λ o. has_parts o ≡ true) c.0 l.2.parts,
              subst (λ o. TakesKids o
                  (length names.0)) c.0 (subst (λ ts. TakesKids l.0 (length ts)) kids l.2.arity),
            ),
          ))
    ]
    | inr none ↦ inr (λ l.
        let s = reading nodes text l.0 l.1 l.2 in
        let c = one_found nodes l.0 o s.fields fs (is_candidate text word rest (Some (o, fs)) l.0 l.1 s e found) in
        none l.1 (subst (λ f. Each (Names nodes) f l.1) c.1 s.each))
  ]

  known_reading : (text : List ℕ) → Known (Reads text)
  known_reading text = by_parts (parts_of 32 text) refl
    where
      by_parts : (fields : List (List ℕ)) → parts_of 32 text ≡ fields → Known (Reads text)
      by_parts [] e = inr (λ l. let clash = sym e ∙ (reading nodes text l.0 l.1 l.2).parts_are in cc clash)
      by_parts (word ∷ rest) e = by_candidate text word rest e (read_op word rest) refl

  -- ---- nodes

  abbrev Fresh : Op → List Tree → Type 0
  Fresh o ts = (sorts (forest ts) ≡ kid_sorts o) × ((size (node o (forest ts)) ≤ most_nodes) × ((depth (node o (forest ts)) ≤ greatest_depth) ×
      (has_node nodes (node o (forest ts)) ≡ false)))

  known_fresh : (o : Op) (ts : List Tree) → Known (Fresh o ts)
  known_fresh o ts =
      both (by_test (pointwise SortEq.ghosts.eq (sorts (forest ts)) (kid_sorts o)) (sorts_decides (sorts (forest ts)) (kid_sorts o)))
      (both (at_most (size (node o (forest ts))) most_nodes) (both (at_most (depth (node o (forest ts))) greatest_depth) (is_equal (has_node nodes
      (node o (forest ts))) false)))

  known_node : (text : List ℕ) → ((t : Tree) × IsNode nodes text t) ⊎ ((t : Tree) → ¬ IsNode nodes text t)
  known_node text = elim (known_reading text) [
    | inl r ↦ elim (known_fresh r.0 r.1) [
      | inl f ↦ inl (
        node r.0 (forest r.1),
        new_node r.2.names (record {
          fits = record { kids_fit = f.0; parts_fit = r.2.parts };
          small =
              f.1.0;
          shallow = f.1.1.0;
          new = f.1.1.1;
        }),
      )
      | inr fails ↦ inr (λ t is.
          let p = node_parts nodes text t is in
          let same = one_reading nodes text p.its_op r.0 p.kids r.1 p.read r.2 in
          let new : IsNew nodes r.0 r.1 = subst (λ o. IsNew nodes o r.1) same.0 (subst (λ ts. IsNew nodes p.its_op ts) same.1 p.new) in
          fails (new.fits.kids_fit, (new.small, (new.shallow, new.new))))
    ]
    | inr none ↦ inr (λ t is. let p = node_parts nodes text t is in none (p.its_op, p.kids, p.read))
  ]

  -- ---- lines

  by_number : (line behind digits text : List ℕ) → line ≡ codes "node " ++ behind → CutAt behind 32 digits text →
      ((m : ℕ) × IsNumber digits m) ⊎ ((m : ℕ) → ¬ IsNumber digits m) →
      ((t : Tree) × IsNode nodes text t) ⊎ ((t : Tree) → ¬ IsNode nodes text t) →
      ((m : ℕ) × (t : Tree) × IsNodeLine nodes line m t) ⊎ ((m : ℕ) (t : Tree) → ¬ IsNodeLine nodes line m t)
  by_number line behind digits text e cut (inr none) n = inr (λ m t is.
      let q = line_parts nodes line m t is in
      none m (subst (λ d. IsNumber d m) (same_parts nodes line behind digits text m t e cut q).0 q.number_is))
  by_number line behind digits text e cut (inl num) (inr none) = inr (λ m t is.
      let q = line_parts nodes line m t is in
      none t (subst (λ l. IsNode nodes l t) (same_parts nodes line behind digits text m t e cut q).1 q.node_is))
  by_number line behind digits text e cut (inl num) (inl made) =
      let whole : codes "node " ++ digits ++ codes " " ++ text ≡ line = regroup digits text ∙ sym (e ∙ ap (λ l. codes "node " ++ l) cut.text_is) in
      inl (num.0, made.0, subst (λ l. IsNodeLine nodes l num.0 made.0) whole (node_line num.1 made.1))
    where
      regroup : (n k : List ℕ) → codes "node " ++ n ++ codes " " ++ k ≡ codes "node " ++ (n ++ 32 ∷ k)
      regroup n k = simp append_assoc

  -- a text is a node line, or it is none
  pub some_node_line : (line : List ℕ) → ((m : ℕ) × (t : Tree) × IsNodeLine nodes line m t) ⊎ ((m : ℕ) (t : Tree) → ¬ IsNodeLine nodes line m t)
  some_node_line line = elim (known_front (codes "node ") line) [
    | inr none ↦ inr (λ m t is. let q = line_parts nodes line m t is in none (q.behind, q.line_is))
    | inl w ↦ elim (known_cut 32 w.0) [
      | inl cut ↦ by_number line w.0 cut.0 cut.1 w.1 cut.2 (known_number cut.0) (known_node cut.1)
      | inr none ↦ inr (λ m t is.
          let q = line_parts nodes line m t is in
          let same : q.behind ≡ w.0 = same_behind nodes q.behind w.0 (sym q.line_is ∙ w.1) in
          none q.digits q.text (sym same ∙ q.cut.text_is))
    ]
  ]
