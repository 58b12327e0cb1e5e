-- Words tell a step from others.
use Rattle.std.proofs.Common.{◌≡◌, refl, sym, ap, subst, ◌∙◌, ℕ, List, [], ◌∷◌, ◌++◌, length, map, append_assoc, Option, Some, None, arith}
use Rattle.std.specs.List.{All}
use Rattle.std.specs.Prelude.{flat_map}
use Rattle.std.proofs.lemmas.List.Elements.{All-head, All-tail}
use Rattle.dlk_tree.specs.declared.op.Kind.{Kind}
use Rattle.dlk_tree.specs.declared.op.Kind.TheVariants.{Func, UnitFunc, Pred, UnitPred, Quant, Prog, Ode}
use Rattle.dlk_tree.specs.declared.op.Sym.{Sym}
use Rattle.dlk_tree.specs.Tests.{kind_rank}
use Rattle.dlk_tree.specs.Trees.{Tree}
use Rattle.dlk_store.specs.declared.Id.{Id}
use Rattle.dlk_store.specs.Stores.{IsId, tree, HasOneId}
use Rattle.dlk_calculus.specs.Pairs.{Pair as TreePair}
use Rattle.dlk_calculus.specs.Rules.{Arguments as TreeArguments, OnePlace, TwoPlaces, PlaceAndFormula, OneFormula, PlaceAndName, Rule, word_of, arguments_of}
use Rattle.dlk_calculus.specs.Sequents.{Sequent as TreeSequent}
use Rattle.dlk_calculus.specs.Steps.{Step, Start, UseAxiom, UseRule, Leaf, Apply, Merge, Substitute, Rename}
use Rattle.dlk_sequent.specs.declared.sequent.Sequent.{Sequent}
use Rattle.dlk_sequent.specs.declared.subst.Pair.{Pair}
use Rattle.dlk_sequent.specs.Sequents.{sequent_at, IsKnown}
use Rattle.dlk_sequent.specs.Substitutions.{pair_at, pairs_at, AreKnownPairs}
use Rattle.dlk_link.specs.Keys.{counted, index, sequent_words, taboo_words, sym_words, pair_words, pairs_words, AreArguments, IsKey}

-- ---- words that say where they end

split : (xs ys r s : List ℕ) → length xs ≡ length ys → xs ++ r ≡ ys ++ s → (xs ≡ ys) × (r ≡ s)
split [] [] r s e h = (refl, h)
split [] (y ∷ ys) r s e h = absurd (omega (arith, e))
split (x ∷ xs) [] r s e h = absurd (omega (arith, e))
split (x ∷ xs) (y ∷ ys) r s e h =
    let first : x ≡ y = cc in
    let rest : xs ++ r ≡ ys ++ s = cc in
    let below = split xs ys r s (omega (arith, e)) rest in
    let same = below.0 in
    ((λ i. first i ∷ same i), below.1)

counted_split : (xs ys r s : List ℕ) → counted xs ++ r ≡ counted ys ++ s → (xs ≡ ys) × (r ≡ s)
counted_split xs ys r s h =
    let size : length xs ≡ length ys = cc in
    let rest : xs ++ r ≡ ys ++ s = cc in
    split xs ys r s size rest

counted_same : (xs ys : List ℕ) → counted xs ≡ counted ys → xs ≡ ys
counted_same xs ys h = cc

same_id : (a b : Id) → index a ≡ index b → a ≡ b
same_id a b e = λ i. record { 0 = e i }

same_ids : (a b : List Id) → map index a ≡ map index b → a ≡ b
same_ids [] [] e = refl
same_ids [] (y ∷ b) e = absurd (cc e)
same_ids (x ∷ a) [] e = absurd (cc e)
same_ids (x ∷ a) (y ∷ b) e =
    let first : index x ≡ index y = cc in
    let rest : map index a ≡ map index b = cc in
    let id = same_id x y first in
    let below = same_ids a b rest in
    λ i. id i ∷ below i

same_sequent : (a b : Sequent) → sequent_words a ≡ sequent_words b → a ≡ b
same_sequent a b h =
    let parts = counted_split (map index a.ante) (map index b.ante) (counted (map index a.succ)) (counted (map index b.succ)) h in
    let ante = same_ids a.ante b.ante parts.0 in
    let succ = same_ids a.succ b.succ (counted_same (map index a.succ) (map index b.succ) parts.1) in
    λ i. record { ante = ante i; succ = succ i }

same_kind : (j k : Kind) → kind_rank j ≡ kind_rank k → j ≡ k
same_kind Func Func e = refl
same_kind UnitFunc UnitFunc e = refl
same_kind Pred Pred e = refl
same_kind UnitPred UnitPred e = refl
same_kind Quant Quant e = refl
same_kind Prog Prog e = refl
same_kind Ode Ode e = refl
same_kind _ _ e = absurd (omega (arith, e))

taboo_split : (t u : Option (List ℕ)) (r s : List ℕ) → taboo_words t ++ r ≡ taboo_words u ++ s → (t ≡ u) × (r ≡ s)
taboo_split None None r s h = (refl, cc)
taboo_split None (Some y) r s h = absurd (cc h)
taboo_split (Some x) None r s h = absurd (cc h)
taboo_split (Some x) (Some y) r s h =
    let rest : counted x ++ r ≡ counted y ++ s = cc in
    let below = counted_split x y r s rest in
    (ap Some below.0, below.1)

sym_split : (a b : Sym) (r s : List ℕ) → sym_words a ++ r ≡ sym_words b ++ s → (a ≡ b) × (r ≡ s)
sym_split a b r s h =
    let kind : kind_rank a.kind ≡ kind_rank b.kind = cc in
    let arity : a.arity ≡ b.arity = cc in
    let rest : (counted a.name ++ taboo_words a.taboo) ++ r ≡ (counted b.name ++ taboo_words b.taboo) ++ s = cc in
    let names = counted_split a.name b.name (taboo_words a.taboo ++ r) (taboo_words b.taboo ++ s)
    (sym (append_assoc (counted a.name) (taboo_words a.taboo) r) ∙ rest ∙ append_assoc (counted b.name) (taboo_words b.taboo) s) in
    let taboos = taboo_split a.taboo b.taboo r s names.1 in
    let k = same_kind a.kind b.kind kind in
    let name = names.0 in let taboo = taboos.0 in
    ((λ i. record { kind = k i; name = name i; arity = arity i; taboo = taboo i }), taboos.1)

same_pairs : (ps qs : List Pair) → length ps ≡ length qs → flat_map pair_words ps ≡ flat_map pair_words qs → ps ≡ qs
same_pairs [] [] e h = refl
same_pairs [] (q ∷ qs) e h = absurd (omega (arith, e))
same_pairs (p ∷ ps) [] e h = absurd (omega (arith, e))
same_pairs (p ∷ ps) (q ∷ qs) e h =
    let by : index p.by ≡ index q.by = cc in
    let rest : sym_words p.sym ++ flat_map pair_words ps ≡ sym_words q.sym ++ flat_map pair_words qs = cc in
    let syms = sym_split p.sym q.sym (flat_map pair_words ps) (flat_map pair_words qs) rest in
    let id = same_id p.by q.by by in
    let below = same_pairs ps qs (omega (arith, e)) syms.1 in
    let s = syms.0 in
    λ i. record { sym = s i; by = id i } ∷ below i

-- ---- the same words, the same step

argument_tag : TreeArguments → ℕ
argument_tag (OnePlace i) = 0
argument_tag (TwoPlaces i k) = 1
argument_tag (PlaceAndFormula i h) = 2
argument_tag (OneFormula h) = 3
argument_tag (PlaceAndName i y) = 4

step_tag : Step → ℕ
step_tag (Start s) = 0
step_tag (UseAxiom name) = 1
step_tag (UseRule name) = 2
step_tag (Leaf s) = 3
step_tag (Apply fact goal rule) = 4
step_tag (Merge fact goal by) = 5
step_tag (Substitute fact pairs) = 6
step_tag (Rename fact x y) = 7

first_same : (m n : ℕ) (xs ys words : List ℕ) → words ≡ m ∷ xs → words ≡ n ∷ ys → m ≡ n
first_same m n xs ys words a b = cc

module _ (trees : List Tree) where
  tagged_arguments : (a : TreeArguments) (words : List ℕ) → AreArguments trees a words → (rest : List ℕ) × (words ≡ argument_tag a ∷ rest)
  unfolding argument_tag
  tagged_arguments (OnePlace i) w h = (_, h)
  tagged_arguments (TwoPlaces i k) w h = (_, h)
  tagged_arguments (PlaceAndFormula i f) w h = (_, h.3)
  tagged_arguments (OneFormula f) w h = (_, h.3)
  tagged_arguments (PlaceAndName i y) w h = (_, h)

  one_of : (a b : TreeArguments) (words : List ℕ) → argument_tag a ≡ argument_tag b → AreArguments trees a words → AreArguments trees b words → a ≡ b
  unfolding argument_tag
  one_of (OnePlace i) (OnePlace j) w t h k = let e : i ≡ j = cc in ap OnePlace e
  one_of (TwoPlaces i l) (TwoPlaces j m) w t h k = let e : i ≡ j = cc in let f : l ≡ m = cc in λ x. TwoPlaces (e x) (f x)
  one_of (PlaceAndFormula i f) (PlaceAndFormula j g) w t h k =
      let said : 2 ∷ i ∷ index h.0 ∷ [] ≡ 2 ∷ j ∷ index k.0 ∷ [] = sym h.3 ∙ k.3 in
      let e : i ≡ j = cc in
      let n : index h.0 ≡ index k.0 = cc in
      let same : f ≡ g = sym h.2 ∙ ap (tree trees) (same_id h.0 k.0 n) ∙ k.2 in
      λ x. PlaceAndFormula (e x) (same x)
  one_of (OneFormula f) (OneFormula g) w t h k =
      let said : 3 ∷ index h.0 ∷ [] ≡ 3 ∷ index k.0 ∷ [] = sym h.3 ∙ k.3 in
      let n : index h.0 ≡ index k.0 = cc in
      ap OneFormula (sym h.2 ∙ ap (tree trees) (same_id h.0 k.0 n) ∙ k.2)
  one_of (PlaceAndName i x) (PlaceAndName j y) w t h k =
      let said : 4 ∷ i ∷ counted x ≡ 4 ∷ j ∷ counted y = sym h ∙ k in
      let e : i ≡ j = cc in
      let n : x ≡ y = cc in
      λ z. PlaceAndName (e z) (n z)
  one_of _ _ w t h k = absurd (omega (arith, t))

  one_arguments : (a b : TreeArguments) (words : List ℕ) → AreArguments trees a words → AreArguments trees b words → a ≡ b
  one_arguments a b w h k =
      let x = tagged_arguments a w h in let y = tagged_arguments b w k in
      one_of a b w (first_same (argument_tag a) (argument_tag b) x.0 y.0 w x.1 y.1) h k

  tagged_step : (s : Step) (words : List ℕ) → IsKey trees s words → (rest : List ℕ) × (words ≡ step_tag s ∷ rest)
  unfolding step_tag
  tagged_step (Start s) w h = (_, h.3)
  tagged_step (UseAxiom name) w h = (_, h)
  tagged_step (UseRule name) w h = (_, h)
  tagged_step (Leaf s) w h = (_, h.3)
  tagged_step (Apply fact goal rule) w h = (_, h.2)
  tagged_step (Merge fact goal by) w h = (_, h)
  tagged_step (Substitute fact pairs) w h = (_, h.3)
  tagged_step (Rename fact x y) w h = (_, h)

  same_sequents : (s t : TreeSequent) (a b : Sequent) (n : ℕ) (words : List ℕ) → sequent_at trees a ≡ s → sequent_at trees b ≡ t →
      words ≡ n ∷ sequent_words a → words ≡ n ∷ sequent_words b → s ≡ t
  same_sequents s t a b n words p q h k =
      let said : sequent_words a ≡ sequent_words b = cc in sym p ∙ ap (sequent_at trees) (same_sequent a b said) ∙ q

  module _ (one_rule : (r s : Rule) → word_of r ≡ word_of s → arguments_of r ≡ arguments_of s → r ≡ s) where
    step_of : (s t : Step) (words : List ℕ) → step_tag s ≡ step_tag t → IsKey trees s words → IsKey trees t words → s ≡ t
    unfolding step_tag
    step_of (Start s) (Start t) w e h k = ap Start (same_sequents s t h.0 k.0 0 w h.2 k.2 h.3 k.3)
    step_of (UseAxiom m) (UseAxiom n) w e h k =
        let said : counted m ≡ counted n = cc in ap UseAxiom (counted_same m n said)
    step_of (UseRule m) (UseRule n) w e h k =
        let said : counted m ≡ counted n = cc in ap UseRule (counted_same m n said)
    step_of (Leaf s) (Leaf t) w e h k = ap Leaf (same_sequents s t h.0 k.0 3 w h.2 k.2 h.3 k.3)
    step_of (Apply f g r) (Apply f' g' r') w e h k =
        let said : 4 ∷ f ∷ g ∷ (counted (word_of r) ++ h.0) ≡ 4 ∷ f' ∷ g' ∷ (counted (word_of r') ++ k.0) = sym h.2 ∙ k.2 in
        let fact : f ≡ f' = cc in
        let goal : g ≡ g' = cc in
        let rest : counted (word_of r) ++ h.0 ≡ counted (word_of r') ++ k.0 = cc in
        let parts = counted_split (word_of r) (word_of r') h.0 k.0 rest in
        let args = one_arguments (arguments_of r) (arguments_of r') k.0 (subst (AreArguments trees (arguments_of r)) parts.1 h.1) k.1 in
        let rule = one_rule r r' parts.0 args in
        λ i. Apply (fact i) (goal i) (rule i)
    step_of (Merge f g b) (Merge f' g' b') w e h k =
        let said : 5 ∷ f ∷ g ∷ b ∷ [] ≡ 5 ∷ f' ∷ g' ∷ b' ∷ [] = sym h ∙ k in
        let fact : f ≡ f' = cc in
        let goal : g ≡ g' = cc in
        let by : b ≡ b' = cc in
        λ i. Merge (fact i) (goal i) (by i)
    step_of (Substitute f ps) (Substitute f' qs) w e h k =
        let said : 6 ∷ f ∷ pairs_words h.0 ≡ 6 ∷ f' ∷ pairs_words k.0 = sym h.3 ∙ k.3 in
        let fact : f ≡ f' = cc in
        let size : length h.0 ≡ length k.0 = cc in
        let rest : flat_map pair_words h.0 ≡ flat_map pair_words k.0 = cc in
        let pairs = sym h.2 ∙ ap (pairs_at trees) (same_pairs h.0 k.0 size rest) ∙ k.2 in
        λ i. Substitute (fact i) (pairs i)
    step_of (Rename f x y) (Rename f' x' y') w e h k =
        let said : 7 ∷ f ∷ (counted x ++ counted y) ≡ 7 ∷ f' ∷ (counted x' ++ counted y') = sym h ∙ k in
        let fact : f ≡ f' = cc in
        let rest : counted x ++ counted y ≡ counted x' ++ counted y' = cc in
        let parts = counted_split x x' (counted y) (counted y') rest in
        let first = parts.0 in
        let second = counted_same y y' parts.1 in
        λ i. Rename (fact i) (first i) (second i)
    step_of _ _ w e h k = absurd (omega (arith, e))

    pub one_step : (s t : Step) (words : List ℕ) → IsKey trees s words → IsKey trees t words → s ≡ t
    one_step s t w h k =
        let x = tagged_step s w h in let y = tagged_step t w k in
        step_of s t w (first_same (step_tag s) (step_tag t) x.0 y.0 w x.1 y.1) h k

  -- ---- over ids of which a tree has one, a step has one list of words

  module _ (one : HasOneId trees) where
    ids_of : (a b : List Id) → All (IsId trees) a → All (IsId trees) b → map (tree trees) a ≡ map (tree trees) b → a ≡ b
    ids_of [] [] h k e = refl
    ids_of [] (y ∷ b) h k e = absurd (cc e)
    ids_of (x ∷ a) [] h k e = absurd (cc e)
    ids_of (x ∷ a) (y ∷ b) h k e =
        let first : tree trees x ≡ tree trees y = cc in
        let rest : map (tree trees) a ≡ map (tree trees) b = cc in
        let id = one x y (All-head (IsId trees) x a h) (All-head (IsId trees) y b k) first in
        let below = ids_of a b (All-tail (IsId trees) x a h) (All-tail (IsId trees) y b k) rest in
        λ i. id i ∷ below i

    sequent_of : (a b : Sequent) → IsKnown trees a → IsKnown trees b → sequent_at trees a ≡ sequent_at trees b → a ≡ b
    sequent_of a b h k e =
        let ante = ids_of a.ante b.ante h.ante k.ante (ap (λ (s : TreeSequent). s.ante) e) in
        let succ = ids_of a.succ b.succ h.succ k.succ (ap (λ (s : TreeSequent). s.succ) e) in
        λ i. record { ante = ante i; succ = succ i }

    pairs_of : (ps qs : List Pair) → AreKnownPairs trees ps → AreKnownPairs trees qs → pairs_at trees ps ≡ pairs_at trees qs → ps ≡ qs
    pairs_of [] [] h k e = refl
    pairs_of [] (q ∷ qs) h k e = absurd (cc e)
    pairs_of (p ∷ ps) [] h k e = absurd (cc e)
    pairs_of (p ∷ ps) (q ∷ qs) h k e =
        let first : pair_at trees p ≡ pair_at trees q = cc in
        let rest : pairs_at trees ps ≡ pairs_at trees qs = cc in
        let s = ap (λ (x : TreePair). x.sym) first in
        let id = one p.by q.by (All-head (λ (x : Pair). IsId trees x.by) p ps h) (All-head (λ (x : Pair). IsId trees x.by) q qs k) (ap (λ (x : TreePair). x.by)
        first) in
        let below = pairs_of ps qs (All-tail (λ (x : Pair). IsId trees x.by) p ps h) (All-tail (λ (x : Pair). IsId trees x.by) q qs k) rest in
        λ i. record { sym = s i; by = id i } ∷ below i

    arguments_words : (a : TreeArguments) (v w : List ℕ) → AreArguments trees a v → AreArguments trees a w → v ≡ w
    arguments_words (OnePlace i) v w h k = h ∙ sym k
    arguments_words (TwoPlaces i l) v w h k = h ∙ sym k
    arguments_words (PlaceAndFormula i f) v w h k = h.3 ∙ ap (λ (id : Id). 2 ∷ i ∷ index id ∷ []) (one h.0 k.0 h.1 k.1 (h.2 ∙ sym k.2)) ∙ sym k.3
    arguments_words (OneFormula f) v w h k = h.3 ∙ ap (λ (id : Id). 3 ∷ index id ∷ []) (one h.0 k.0 h.1 k.1 (h.2 ∙ sym k.2)) ∙ sym k.3
    arguments_words (PlaceAndName i y) v w h k = h ∙ sym k

    pub one_key : (s : Step) (v w : List ℕ) → IsKey trees s v → IsKey trees s w → v ≡ w
    one_key (Start s) v w h k = h.3 ∙ ap (λ a. 0 ∷ sequent_words a) (sequent_of h.0 k.0 h.1 k.1 (h.2 ∙ sym k.2)) ∙ sym k.3
    one_key (UseAxiom name) v w h k = h ∙ sym k
    one_key (UseRule name) v w h k = h ∙ sym k
    one_key (Leaf s) v w h k = h.3 ∙ ap (λ a. 3 ∷ sequent_words a) (sequent_of h.0 k.0 h.1 k.1 (h.2 ∙ sym k.2)) ∙ sym k.3
    one_key (Apply fact goal rule) v w h k =
        h.2 ∙ ap (λ a. 4 ∷ fact ∷ goal ∷ (counted (word_of rule) ++ a)) (arguments_words (arguments_of rule) h.0 k.0 h.1 k.1) ∙ sym k.2
    one_key (Merge fact goal by) v w h k = h ∙ sym k
    one_key (Substitute fact pairs) v w h k = h.3 ∙ ap (λ a. 6 ∷ fact ∷ pairs_words a) (pairs_of h.0 k.0 h.1 k.1 (h.2 ∙ sym k.2)) ∙ sym k.3
    one_key (Rename fact x y) v w h k = h ∙ sym k
