-- What substitutions make of the axiomatic rules that uses of axioms name.
use Rattle.std.proofs.Common.{◌≡◌, List, [], ◌∷◌, refl, ap, ◌∙◌}
use Rattle.std.specs.Prelude.{codes}
use Rattle.dlk_tree.specs.declared.op.Op.{Op}
use Rattle.dlk_tree.specs.declared.op.Op.TheVariants as Op'
use Rattle.dlk_tree.specs.Trees.{Tree, node, Forest, no_kids, kid, WellMade}
use Rattle.dlk_calculus.specs.Axioms.{AxiomaticRule}
use Rattle.dlk_calculus.specs.Kids.{first}
use Rattle.dlk_calculus.specs.Notation.{two, eq, box, a, p, q, f, g, p_of, c_of}
use Rattle.dlk_calculus.specs.Pairs.{Pair}
use Rattle.dlk_calculus.specs.Plug.{filled}
use Rattle.dlk_calculus.specs.Provables.{Provable, inferred, SubstEach, SubstSequent, SubstSequents, Substitutes}
use Rattle.dlk_calculus.specs.Rules.{imply, equiv}
use Rattle.dlk_calculus.specs.Sequents.{Sequent, alone_right}
use Rattle.dlk_calculus.specs.Subst.{Subst, SubstAll, SubstAt}
use Rattle.dlk_uses.specs.Uses.{◌~>◌, program_a, any_p, any_q, any_f, any_g, p_of_one, context_c}

-- Sequents of one formula on the right:

none_of_none : (pairs : List Pair) (gs : List Tree) → SubstEach pairs [] gs → gs ≡ []
none_of_none pairs [] h = refl
none_of_none pairs (g ∷ gs) h = absurd h

record One (pairs : List Pair) (f : Tree) (gs : List Tree) : Type 0 where
  new : Tree
  made : Subst pairs f new
  are : gs ≡ new ∷ []

one_of_one : (pairs : List Pair) (f : Tree) (gs : List Tree) → SubstEach pairs (f ∷ []) gs → One pairs f gs
one_of_one pairs f [] h = absurd h
one_of_one pairs f (g ∷ gs) h = record { new = g; made = h.0; are = ap (λ l. g ∷ l) (none_of_none pairs gs h.1) }

pub record Alone (pairs : List Pair) (f : Tree) (s : Sequent) : Type 0 where
  pub new : Tree
  pub made : Subst pairs f new
  pub is : s ≡ alone_right new

pub alone_of_alone : (pairs : List Pair) (f : Tree) (s : Sequent) → SubstSequent pairs (alone_right f) s → Alone pairs f s
alone_of_alone pairs f s h =
    let left : s.ante ≡ [] = none_of_none pairs s.ante h.0 in
    let right = one_of_one pairs f s.succ h.1 in
    record { new = right.new; made = right.made; is = λ i. record { ante = left i; succ = right.are i } }

no_sequents : (pairs : List Pair) (ts : List Sequent) → SubstSequents pairs [] ts → ts ≡ []
no_sequents pairs [] h = refl
no_sequents pairs (t ∷ ts) h = absurd h

one_sequent : (pairs : List Pair) (f : Tree) (ts : List Sequent) → SubstSequents pairs (alone_right f ∷ []) ts →
    (t : Tree) × Subst pairs f t × (ts ≡ alone_right t ∷ [])
one_sequent pairs f [] h = absurd h
one_sequent pairs f (s ∷ ts) h =
    let a = alone_of_alone pairs f s h.0 in (a.new, a.made, ap (λ x. x ∷ ts) a.is ∙ ap (λ l. alone_right a.new ∷ l) (no_sequents pairs ts h.1))

-- Trees:

pub record Parts (pairs : List Pair) (op : Op) (kids : Forest) (t : Tree) : Type 0 where
  pub new : Forest
  pub all : SubstAll pairs kids new
  pub at : SubstAt pairs op kids new t
  pub made : WellMade t

pub parts : (pairs : List Pair) (op : Op) (kids : Forest) (t : Tree) → Subst pairs (node op kids) t → Parts pairs op kids t
parts pairs op kids t h = record { new = h.0; all = h.1; at = h.2; made = h.3 }

no_kids_of_none : (pairs : List Pair) (new : Forest) → SubstAll pairs no_kids new → new ≡ no_kids
no_kids_of_none pairs no_kids h = refl
no_kids_of_none pairs (kid t ts) h = absurd h

pub record OneKid (pairs : List Pair) (e : Tree) (new : Forest) : Type 0 where
  pub one : Tree
  pub made : Subst pairs e one
  pub are : new ≡ kid one no_kids

pub one_kid : (pairs : List Pair) (e : Tree) (new : Forest) → SubstAll pairs (kid e no_kids) new → OneKid pairs e new
one_kid pairs e no_kids h = absurd h
one_kid pairs e (kid t ts) h = record { one = t; made = h.0; are = ap (λ l. kid t l) (no_kids_of_none pairs ts h.1) }

two_kids : (pairs : List Pair) (l r : Tree) (new : Forest) → SubstAll pairs (kid l (kid r no_kids)) new →
    (m : Tree) × (s : Tree) × Subst pairs l m × Subst pairs r s × (new ≡ kid m (kid s no_kids))
two_kids pairs l r no_kids h = absurd h
two_kids pairs l r (kid t ts) h = let o = one_kid pairs r ts h.1 in (t, o.one, h.0, o.made, ap (λ k. kid t k) o.are)

-- Makes pairs e f: the substitution makes of e nothing but f.
abbrev pub Makes : List Pair → Tree → Tree → Type 0
Makes pairs e f = (t : Tree) → Subst pairs e t → t ≡ f

-- of an operator over two kids that stays
makes_two : (pairs : List Pair) (op : Op) (l r m s : Tree) → ((old new : Forest) (u : Tree) → SubstAt pairs op old new u → u ≡ node op new) →
    Makes pairs l m → Makes pairs r s → Makes pairs (two op l r) (two op m s)
makes_two pairs op l r m s stays left right t h =
    let x = parts pairs op (kid l (kid r no_kids)) t h in
    let k = two_kids pairs l r x.new x.all in
    let same : kid k.0 (kid k.1 no_kids) ≡ kid m (kid s no_kids) = λ i. kid (left k.0 k.2 i) (kid (right k.1 k.3 i) no_kids) in
    stays (kid l (kid r no_kids)) x.new t x.at ∙ ap (λ n. node op n) (k.4 ∙ same)

pub makes_equiv : (pairs : List Pair) (l r m s : Tree) → Makes pairs l m → Makes pairs r s → Makes pairs (equiv l r) (equiv m s)
makes_equiv pairs l r m s = makes_two pairs Op'.Equiv l r m s (λ old new u at. at.1)

pub makes_imply : (pairs : List Pair) (l r m s : Tree) → Makes pairs l m → Makes pairs r s → Makes pairs (imply l r) (imply m s)
makes_imply pairs l r m s = makes_two pairs Op'.Imply l r m s (λ old new u at. at.1)

pub makes_eq : (pairs : List Pair) (l r m s : Tree) → Makes pairs l m → Makes pairs r s → Makes pairs (eq l r) (eq m s)
makes_eq pairs l r m s = makes_two pairs Op'.Eq l r m s (λ old new u at. at.1)

pub makes_box : (pairs : List Pair) (l r m s : Tree) → Makes pairs l m → Makes pairs r s → Makes pairs (box l r) (box m s)
makes_box pairs l r m s = makes_two pairs Op'.Box l r m s (λ old new u at. at.1)

-- of rules and facts
pub of_rule : (pairs : List Pair) (a b f g : Tree) (row : Provable) → Makes pairs a f → Makes pairs b g → Substitutes pairs (inferred a b) row →
    (row.conclusion ≡ alone_right g) × (row.goals ≡ alone_right f ∷ [])
of_rule pairs a b f g row premise conclusion h =
    let c = alone_of_alone pairs b row.conclusion h.conclusion in
    let o = one_sequent pairs a row.goals h.goals in (
      c.is ∙ ap alone_right (conclusion c.new c.made),
      o.2 ∙ ap (λ x. alone_right x ∷ []) (premise o.0 o.1),
    )

pub of_fact : (pairs : List Pair) (a f : Tree) (s : Sequent) → Makes pairs a f → SubstSequent pairs (alone_right a) s → s ≡ alone_right f
of_fact pairs a f s makes h = let c = alone_of_alone pairs a s h in c.is ∙ ap alone_right (makes c.new c.made)

-- The replacements of CE, and what they make of it: both sides stand in the place of the hole of k.
abbrev pub ce : AxiomaticRule
ce = record { name = codes "CE"; premise = equiv p q; conclusion = equiv (c_of p) (c_of q) }

abbrev pub pairs_of_ce : (l r k : Tree) → List Pair
pairs_of_ce l r k = (any_p ~> l) ∷ (any_q ~> r) ∷ (context_c ~> k) ∷ []

module _ (l r k : Tree) where
  p_is : Makes (pairs_of_ce l r k) p l
  p_is t h = (parts (pairs_of_ce l r k) (Op'.UnitPred any_p) no_kids t h).at

  q_is : Makes (pairs_of_ce l r k) q r
  q_is t h = (parts (pairs_of_ce l r k) (Op'.UnitPred any_q) no_kids t h).at

  c_is : (e f : Tree) → Makes (pairs_of_ce l r k) e f → Makes (pairs_of_ce l r k) (c_of e) (filled f k)
  c_is e f its t h =
      let x = parts (pairs_of_ce l r k) (Op'.Predicational context_c) (kid e no_kids) t h in
      let o = one_kid (pairs_of_ce l r k) e x.new x.all in
      x.at.1 ∙ ap (λ n. filled (first n) k) o.are ∙ ap (λ f'. filled f' k) (its o.one o.made)

  pub of_ce : (row : Provable) → Substitutes (pairs_of_ce l r k) (inferred (equiv p q) (equiv (c_of p) (c_of q))) row →
      (row.conclusion ≡ alone_right (equiv (filled l k) (filled r k))) × (row.goals ≡ alone_right (equiv l r) ∷ [])
  of_ce row h =
      let pairs = pairs_of_ce l r k in
      of_rule pairs (equiv p q) (equiv (c_of p) (c_of q)) (equiv l r) (equiv (filled l k) (filled r k)) row
      (makes_equiv pairs p q l r p_is q_is) (makes_equiv pairs (c_of p) (c_of q) (filled l k) (filled r k) (c_is p l p_is) (c_is q r q_is)) h

-- of CQ: first both terms, and then the context of one argument
abbrev pub cq : AxiomaticRule
cq = record { name = codes "CQ"; premise = eq f g; conclusion = equiv (p_of f) (p_of g) }

abbrev pub pairs_of_cq : (l r : Tree) → List Pair
pairs_of_cq l r = (any_f ~> l) ∷ (any_g ~> r) ∷ []

module _ (l r : Tree) where
  f_is : Makes (pairs_of_cq l r) f l
  f_is t h = (parts (pairs_of_cq l r) (Op'.UnitFun any_f) no_kids t h).at

  g_is : Makes (pairs_of_cq l r) g r
  g_is t h = (parts (pairs_of_cq l r) (Op'.UnitFun any_g) no_kids t h).at

  holds_is : (e m : Tree) → Makes (pairs_of_cq l r) e m → Makes (pairs_of_cq l r) (p_of e) (p_of m)
  holds_is e m its t h =
      let x = parts (pairs_of_cq l r) (Op'.Holds p_of_one) (kid e no_kids) t h in
      let o = one_kid (pairs_of_cq l r) e x.new x.all in
      x.at.1 ∙ ap (λ n. node (Op'.Holds p_of_one) n) (o.are ∙ ap (λ u. kid u no_kids) (its o.one o.made))

  pub of_cq : (row : Provable) → Substitutes (pairs_of_cq l r) (inferred (eq f g) (equiv (p_of f) (p_of g))) row →
      (row.conclusion ≡ alone_right (equiv (p_of l) (p_of r))) × (row.goals ≡ alone_right (eq l r) ∷ [])
  of_cq row h =
      let pairs = pairs_of_cq l r in
      of_rule pairs (eq f g) (equiv (p_of f) (p_of g)) (eq l r) (equiv (p_of l) (p_of r)) row
      (makes_eq pairs f g l r f_is g_is) (makes_equiv pairs (p_of f) (p_of g) (p_of l) (p_of r) (holds_is f l f_is) (holds_is g r g_is)) h

-- of boxes
abbrev pub pairs_of_g : (b f : Tree) → List Pair
pairs_of_g b f = (program_a ~> b) ∷ (any_p ~> f) ∷ []

module _ (b h : Tree) where
  pub of_g : (row : Provable) → Substitutes (pairs_of_g b h) (inferred p (box a p)) row →
      (row.conclusion ≡ alone_right (box b h)) × (row.goals ≡ alone_right h ∷ [])
  of_g row made =
      let pairs = pairs_of_g b h in
      let p_made : Makes pairs p h = λ t m. (parts pairs (Op'.UnitPred any_p) no_kids t m).at in
      let a_made : Makes pairs a b = λ t m. (parts pairs (Op'.Const program_a) no_kids t m).at in
      of_rule pairs p (box a p) h (box b h) row p_made (makes_box pairs a p b h a_made p_made) made

abbrev pub pairs_of_k : (b h f : Tree) → List Pair
pairs_of_k b h f = (program_a ~> b) ∷ (any_p ~> h) ∷ (any_q ~> f) ∷ []

pub of_k : (b h e : Tree) (s : Sequent) → SubstSequent (pairs_of_k b h e) (alone_right (imply (box a (imply p q)) (imply (box a p) (box a q)))) s →
    s ≡ alone_right (imply (box b (imply h e)) (imply (box b h) (box b e)))
of_k b h e s made =
    let pairs = pairs_of_k b h e in
    let p_made : Makes pairs p h = λ t m. (parts pairs (Op'.UnitPred any_p) no_kids t m).at in
    let q_made : Makes pairs q e = λ t m. (parts pairs (Op'.UnitPred any_q) no_kids t m).at in
    let a_made : Makes pairs a b = λ t m. (parts pairs (Op'.Const program_a) no_kids t m).at in
    of_fact pairs (imply (box a (imply p q)) (imply (box a p) (box a q))) (imply (box b (imply h e)) (imply (box b h) (box b e))) s
    (makes_imply pairs (box a (imply p q)) (imply (box a p) (box a q)) (box b (imply h e)) (imply (box b h) (box b e))
    (makes_box pairs a (imply p q) b (imply h e) a_made (makes_imply pairs p q h e p_made q_made))
    (makes_imply pairs (box a p) (box a q) (box b h) (box b e) (makes_box pairs a p b h a_made p_made) (makes_box pairs a q b e a_made q_made)))
    made
