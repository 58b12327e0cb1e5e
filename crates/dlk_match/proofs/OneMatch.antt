-- A key matches a tree in at most one way.
use Rattle.std.proofs.Common.{◌≡◌, refl, sym, ap, subst, ◌∙◌, ℕ, List, [], ◌∷◌, ◌++◌, Option, Some, None, Bool}
use Rattle.dlk_tree.specs.declared.op.Var.{Var}
use Rattle.dlk_tree.specs.declared.op.Sym.{Sym}
use Rattle.dlk_tree.specs.declared.op.OdeItem.{OdeItem}
use Rattle.dlk_tree.specs.declared.op.OdeItem.TheVariants as Item
use Rattle.dlk_tree.specs.declared.op.Op.{Op}
use Rattle.dlk_tree.specs.declared.op.Op.TheVariants as Op'
use Rattle.dlk_tree.specs.Trees.{Tree, node, Forest, no_kids, kid, forest}
use Rattle.dlk_calculus.specs.Kids.{last}
use Rattle.dlk_calculus.specs.Pairs.{Extra, replacement}
use Rattle.dlk_calculus.specs.Subst.{Member, Equation, members}
use Rattle.dlk_calculus.proofs.Innermost.{one_of}
use Rattle.dlk_match.specs.Abstract.{abstracted}
use Rattle.dlk_match.specs.Matching.{renamed_to, NameIs, GetsName, ReplacementIs, GetsReplacement, Over, IsAppliedTo, Application, of_nothing}
use Rattle.dlk_match.specs.Matching.{of_variable, system_of, TakeMembers, constant, equation, equation_first, equation_last, two_constants}
use Rattle.dlk_match.specs.Matching.{SystemMatches, MatchesAt, Matches, MatchesAll, renamed_pairs, Match}

-- ---- names and replacements

one_name_is : (o : Option (List ℕ)) (x y : List ℕ) (old a b : Extra) → NameIs o x y old a → NameIs o x y old b → a ≡ b
one_name_is (Some z) x y old a b p q = p.1 ∙ sym q.1
one_name_is None x y old a b p q = p ∙ sym q

pub one_name : (x y : List ℕ) (old a b : Extra) → GetsName x y old a → GetsName x y old b → a ≡ b
one_name x y old a b p q = one_name_is (renamed_to old.renames x) x y old a b p q

one_replacement_is : (o : Option Tree) (s : Sym) (e : Tree) (old a b : Extra) → ReplacementIs o s e old a → ReplacementIs o s e old b → a ≡ b
one_replacement_is (Some r) s e old a b p q = p.1 ∙ sym q.1
one_replacement_is None s e old a b p q = p ∙ sym q

pub one_replacement : (s : Sym) (e : Tree) (old a b : Extra) → GetsReplacement s e old a → GetsReplacement s e old b → a ≡ b
one_replacement s e old a b p q = one_replacement_is (replacement old.pairs s) s e old a b p.1 q.1

-- ---- applications

pub no_kid : {t : Tree} {rest ks : Forest} → ks ≡ no_kids → ks ≡ kid t rest → ⊥
no_kid p q = cc

pub one_variable : {v w : Var} {ks : Forest} → ks ≡ kid (node (Op'.Variable v) no_kids) no_kids → ks ≡ kid (node (Op'.Variable w) no_kids) no_kids → v ≡ w
one_variable p q = cc

one_applied : (s : Sym) (kids : Forest) (e : Tree) (old a b : Extra) → IsAppliedTo s kids e old a → IsAppliedTo s kids e old b → a ≡ b
one_applied s kids e old a b p q =
    let v_is : q.v ≡ p.v = one_variable q.kids_are p.kids_are in
    let named : renamed_to old.renames p.v.name ≡ Some q.y = subst (λ (v : Var). renamed_to old.renames v.name ≡ Some q.y) v_is q.name_is in
    let y_is : q.y ≡ p.y = one_of named p.name_is in
    one_replacement s (abstracted (record { name = p.y; primed = p.v.primed }) e) old a b p.replaced
    (subst (λ (t : Tree). GetsReplacement s t old b) (λ i. abstracted (record { name = y_is i; primed = (v_is i).primed }) e) q.replaced)

pub one_application : (s : Sym) (kids : Forest) (e : Tree) (old a b : Extra) → Application s kids e old a → Application s kids e old b → a ≡ b
one_application s kids e old a b (of_nothing is p) (of_nothing js q) = one_replacement s e old a b p q
one_application s kids e old a b (of_nothing is p) (of_variable q) = absurd (no_kid is q.kids_are)
one_application s kids e old a b (of_variable p) (of_nothing js q) = absurd (no_kid js p.kids_are)
one_application s kids e old a b (of_variable p) (of_variable q) = one_applied s kids e old a b p q

-- ---- systems

abbrev pub last_of : List Member → Member
last_of [] = Equation [] (node Op'.True no_kids)
last_of (m ∷ []) = m
last_of (m ∷ n ∷ ms) = last_of (n ∷ ms)

abbrev pub front_of : List Member → List Member
front_of [] = []
front_of (m ∷ []) = []
front_of (m ∷ n ∷ ms) = m ∷ front_of (n ∷ ms)

pub last_is : (ms : List Member) (m : Member) → last_of (ms ++ m ∷ []) ≡ m
last_is [] m = refl
last_is (n ∷ []) m = refl
last_is (n ∷ k ∷ ms) m = last_is (k ∷ ms) m

pub front_is : (ms : List Member) (m : Member) → front_of (ms ++ m ∷ []) ≡ ms
front_is [] m = refl
front_is (n ∷ []) m = refl
front_is (n ∷ k ∷ ms) m = ap (λ rest. n ∷ rest) (front_is (k ∷ ms) m)

pub one_equation : {y z : List ℕ} {s t : Tree} → Equation y s ≡ Equation z t → (y ≡ z) × (s ≡ t)
one_equation e = (cc, cc)

pub one_taken : {items : List OdeItem} {ms : List Member} {old a b : Extra} {s t : List Tree} → TakeMembers items ms old a s → TakeMembers items ms old b t →
    (a ≡ b) × (s ≡ t)
one_taken {old = old} {a = a} {b = b} (constant {s = c} {ms = ms} p) (constant q) = (one_replacement c (system_of ms) old a b p q, refl)
one_taken {old = old} {a = a} {b = b} (equation {x = x} {y = y} p) (equation q) = (one_name x y old a b p q, refl)
one_taken {old = old} {a = a} {b = b} (equation_first {x = x} {y = y} {s = c} {m = m} {ms = ms} mid p r) (equation_first nid q s) =
    let same = one_name x y old nid mid q p in
    (one_replacement c (system_of (m ∷ ms)) mid a b r (subst (λ (k : Extra). GetsReplacement c (system_of (m ∷ ms)) k b) same s), refl)
one_taken {old = old} {a = a} {b = b} (equation_last {s = c} {x = x} {e = e} y m ms mid is p r) (equation_last {e = f} z n ns nid js q s) =
    let both = sym is ∙ js in
    let last = one_equation (sym (last_is (m ∷ ms) (Equation y e)) ∙ ap last_of both ∙ last_is (n ∷ ns) (Equation z f)) in
    let front : m ∷ ms ≡ n ∷ ns = sym (front_is (m ∷ ms) (Equation y e)) ∙ ap front_of both ∙ front_is (n ∷ ns) (Equation z f) in
    let same : mid ≡ nid = one_replacement c (system_of (n ∷ ns)) old mid nid
    (subst (λ (all : List Member). GetsReplacement c (system_of all) old mid) front p) q in
    let moved : GetsName x z nid a = subst (λ (w : List ℕ). GetsName x w nid a) last.0 (subst (λ (k : Extra). GetsName x y k a) same r) in
    (one_name x z nid a b moved s, ap (λ t. t ∷ []) last.1)
one_taken {old = old} {a = a} {b = b} (two_constants {s = c} {t = d} {m = m} {n = n} {ms = ms} mid p r) (two_constants nid q s) =
    let same = one_replacement c (system_of (m ∷ [])) old nid mid q p in
    (one_replacement d (system_of (n ∷ ms)) mid a b r (subst (λ (k : Extra). GetsReplacement d (system_of (n ∷ ms)) k b) same s), refl)

-- ---- nodes

name_of : (primed : Bool) (y z : List ℕ) → Op'.Variable (record { name = y; primed = primed }) ≡ Op'.Variable (record { name = z; primed = primed }) → y ≡ z
name_of primed y z e =
    let vars : record { name = y; primed = primed } ≡ record { name = z; primed = primed } = cc in
    ap (λ (v : Var). v.name) vars

assigned_of : (primed : Bool) (y z : List ℕ) → Op'.Assign (record { name = y; primed = primed }) ≡ Op'.Assign (record { name = z; primed = primed }) → y ≡ z
assigned_of primed y z e =
    let vars : record { name = y; primed = primed } ≡ record { name = z; primed = primed } = cc in
    ap (λ (v : Var). v.name) vars

pub one_node : {op other : Op} {ks ls : Forest} {e : Tree} → e ≡ node op ks → e ≡ node other ls → (op ≡ other) × (ks ≡ ls)
one_node p q = (cc, cc)

module _ (keys : Forest) (e : Tree) (Kids : Forest → Extra → Extra → Type 0)
    (one : (es : Forest) (old a b : Extra) → Kids es old a → Kids es old b → a ≡ b) where
  one_over : (op : Op) (old a b : Extra) → Over op e Kids old a → Over op e Kids old b → a ≡ b
  one_over op old a b p q =
      let same = (one_node q.1 p.1).1 in
      one p.0 old a b p.2 (subst (λ es. Kids es old b) same q.2)

  -- an operator with a name
  one_named : (of : List ℕ → Op) → ((y z : List ℕ) → of y ≡ of z → y ≡ z) → (x y z : List ℕ) (old mid nid a b : Extra)
      → GetsName x y old mid → Over (of y) e Kids mid a → GetsName x z old nid → Over (of z) e Kids nid b → a ≡ b
  one_named of same x y z old mid nid a b p r q s =
      let name = same z y (one_node s.1 r.1).0 in
      let mids = one_name x y old nid mid (subst (λ w. GetsName x w old nid) name q) p in
      one_over (of y) mid a b r (subst (λ (k : Extra). Over (of y) e Kids k b) mids (subst (λ w. Over (of w) e Kids nid b) name s))

  one_system : (items : List OdeItem) (old a b : Extra) → SystemMatches items e Kids old a → SystemMatches items e Kids old b → a ≡ b
  one_system items old a b p q =
      let nodes = one_node q.target_is p.target_is in
      let items_are : q.target_items ≡ p.target_items = cc in
      let moved = subst (λ ms. TakeMembers items ms old q.mid q.sides) (λ i. members (items_are i) (nodes.1 i)) q.taken in
      let same = one_taken moved p.taken in
      let kids = subst (λ es. Kids es q.mid b) (λ i. forest (same.1 i ++ last (nodes.1 i) ∷ [])) q.kids in
      one (forest (p.sides ++ last p.target_kids ∷ [])) p.mid a b p.kids
      (subst (λ (k : Extra). Kids (forest (p.sides ++ last p.target_kids ∷ [])) k b) same.0 kids)

  one_at : (op : Op) (old a b : Extra) → MatchesAt op keys e Kids old a → MatchesAt op keys e Kids old b → a ≡ b
  one_at (Op'.Variable v) old a b p q = one_named (λ y. Op'.Variable (record { name = y; primed = v.primed })) (name_of v.primed) v.name p.0 q.0 old p.1 q.1 a
      b p.2 p.3 q.2 q.3
  one_at (Op'.UnitFun s) old a b p q = one_replacement s e old a b p q
  one_at (Op'.Apply s) old a b p q = one_application s keys e old a b p q
  one_at (Op'.UnitPred s) old a b p q = one_replacement s e old a b p q
  one_at (Op'.Holds s) old a b p q = one_application s keys e old a b p q
  one_at (Op'.Predicational s) old a b p q = absurd p
  one_at (Op'.Forall x) old a b p q = one_named Op'.Forall (λ y z same. cc) x p.0 q.0 old p.1 q.1 a b p.2 p.3 q.2 q.3
  one_at (Op'.Exists x) old a b p q = one_named Op'.Exists (λ y z same. cc) x p.0 q.0 old p.1 q.1 a b p.2 p.3 q.2 q.3
  one_at (Op'.Const s) old a b p q = one_replacement s e old a b p q
  one_at (Op'.Assign v) old a b p q = one_named (λ y. Op'.Assign (record { name = y; primed = v.primed })) (assigned_of v.primed) v.name p.0 q.0 old p.1 q.1 a
      b p.2 p.3 q.2 q.3
  one_at (Op'.Any x) old a b p q = one_named Op'.Any (λ y z same. cc) x p.0 q.0 old p.1 q.1 a b p.2 p.3 q.2 q.3
  one_at (Op'.System items) old a b p q = one_system items old a b p q
  one_at _ old a b p q = one_over _ old a b p q

mutual
  pub one_matches : (key e : Tree) (old a b : Extra) → Matches key e old a → Matches key e old b → a ≡ b
  one_matches (node op kids) e old a b p q = one_at kids e (MatchesAll kids) (one_matches_all kids) op old a b p q

  pub one_matches_all : (keys es : Forest) (old a b : Extra) → MatchesAll keys es old a → MatchesAll keys es old b → a ≡ b
  one_matches_all no_kids no_kids old a b p q = p ∙ sym q
  one_matches_all no_kids (kid e es) old a b p q = absurd p
  one_matches_all (kid key keys) no_kids old a b p q = absurd p
  one_matches_all (kid key keys) (kid e es) old a b p q =
      let same = one_matches key e old q.0 p.0 q.1 p.1 in
      one_matches_all keys es p.0 a b p.2 (subst (λ (k : Extra). MatchesAll keys es k b) same q.2)

pub one_match : (key : Tree) (own : List (List ℕ)) (e : Tree) (given a b : Extra) → Match key own e given a → Match key own e given b → a ≡ b
one_match key own e given a b p q =
    let same = one_matches key e given p.found q.found p.matches q.matches in
    p.extra_is ∙ ap (λ (f : Extra). record { renames = f.renames; pairs = renamed_pairs f.renames f.pairs }) same ∙ sym q.extra_is
