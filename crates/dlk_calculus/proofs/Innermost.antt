-- The smallest formula round a subtree.
use Rattle.std.proofs.Common.{◌≡◌, ◌≢◌, refl, sym, ap, ◌∙◌, ℕ, List, [], ◌∷◌, ◌++◌, Option, Some, ◌⊎◌, inl, inr, ⊎_elim}
use Rattle.dlk_tree.specs.declared.op.Sort.{Sort}
use Rattle.dlk_tree.specs.declared.op.Sort.TheVariants.{Term, Formula, Program}
use Rattle.dlk_tree.specs.Trees.{Tree, sort}
use Rattle.dlk_calculus.specs.Paths.{subtree, IsInnermost}
use Rattle.dlk_calculus.proofs.PathLaws.{subtree_nil, subtree_join, subtree_before}

-- on the way below the tree there is no formula
abbrev pub NoneBelow : Tree → List ℕ → Type 0
NoneBelow e path = (n : ℕ) (front back : List ℕ) (t : Tree) → path ≡ (n ∷ front) ++ back → subtree e (n ∷ front) ≡ Some t → sort t ≢ Formula

pub one_of : {A : Type 0} {o : Option A} {s t : A} → o ≡ Some s → o ≡ Some t → s ≡ t
one_of p q = cc

cons_none : {A : Type 0} {x : A} {xs : List A} → [] ≡ x ∷ xs → ⊥
cons_none e = cc

head_same : {A : Type 0} {x y : A} {xs ys : List A} → x ∷ xs ≡ y ∷ ys → x ≡ y
head_same e = cc

tail_same : {A : Type 0} {x y : A} {xs ys : List A} → x ∷ xs ≡ y ∷ ys → xs ≡ ys
tail_same e = cc

-- nothing is below the end
pub none_at_end : (e : Tree) → NoneBelow e []
none_at_end e n front back t parts h = absurd (cons_none parts)

-- one step up from a tree that is no formula
pub none_further : (e d : Tree) (k : ℕ) (path : List ℕ) → subtree e (k ∷ []) ≡ Some d → sort d ≢ Formula → NoneBelow d path → NoneBelow e (k ∷ path)
none_further e d k path h other none n [] back t parts stands is =
    let same = one_of h (ap (λ m. subtree e (m ∷ [])) (head_same parts) ∙ stands) in
    other (ap sort same ∙ is)
none_further e d k path h other none n (m ∷ front) back t parts stands is =
    let below : subtree d (m ∷ front) ≡ Some t =
    sym (subtree_join e (k ∷ []) (m ∷ front) d h) ∙ ap (λ j. subtree e (j ∷ m ∷ front)) (head_same parts) ∙ stands in
    none m front back t (tail_same parts) below is

-- ---- at most one

-- one path begins with another and goes on
record Longer (long short rest back : List ℕ) : Type 0 where
  n : ℕ
  front : List ℕ
  long_is : long ≡ short ++ (n ∷ front)
  rest_is : rest ≡ (n ∷ front) ++ back

-- two ways to cut a path
abbrev Cuts : List ℕ → List ℕ → List ℕ → List ℕ → Type 0
Cuts a b c d = ((a ≡ c) × (b ≡ d)) ⊎ (Longer c a b d ⊎ Longer a c d b)

cuts_further : (n m : ℕ) (a b c d : List ℕ) → n ≡ m → Cuts a b c d → Cuts (n ∷ a) b (m ∷ c) d
cuts_further n m a b c d e (inl h) = inl ((λ i. e i ∷ h.0 i), h.1)
cuts_further n m a b c d e (inr (inl h)) = inr (inl (record { n = h.n; front = h.front; long_is = (λ i. sym e i ∷ h.long_is i); rest_is = h.rest_is }))
cuts_further n m a b c d e (inr (inr h)) = inr (inr (record { n = h.n; front = h.front; long_is = (λ i. e i ∷ h.long_is i); rest_is = h.rest_is }))

cuts : (a b c d : List ℕ) → a ++ b ≡ c ++ d → Cuts a b c d
cuts [] b [] d e = inl (refl, e)
cuts [] b (m ∷ c) d e = inr (inl (record { n = m; front = c; long_is = refl; rest_is = e }))
cuts (n ∷ a) b [] d e = inr (inr (record { n = n; front = a; long_is = refl; rest_is = sym e }))
cuts (n ∷ a) b (m ∷ c) d e = cuts_further n m a b c d (head_same e) (cuts a b c d (tail_same e))

module _ (e : Tree) (path : List ℕ) where
  -- none is further inside
  not_longer : (a b c d : List ℕ) (f g : Tree) → IsInnermost e path a b f → IsInnermost e path c d g → Longer c a b d → ⊥
  not_longer a b c d f g p q l =
      let below : subtree f (l.n ∷ l.front) ≡ Some g = sym (subtree_join e a (l.n ∷ l.front) f p.stands) ∙ ap (subtree e) (sym l.long_is) ∙ q.stands in
      p.smallest l.n l.front d g l.rest_is below q.is_formula

  pub one_innermost : (a b c d : List ℕ) (f g : Tree) → IsInnermost e path a b f → IsInnermost e path c d g → (a ≡ c) × (b ≡ d) × (f ≡ g)
  one_innermost a b c d f g p q =
      ⊎_elim (λ (h : (a ≡ c) × (b ≡ d)). (h.0, h.1, one_of (ap (subtree e) (sym h.0) ∙ p.stands) q.stands))
      (λ (h : Longer c a b d ⊎ Longer a c d b).
      absurd (⊎_elim (λ (l : Longer c a b d). not_longer a b c d f g p q l) (λ (l : Longer a c d b). not_longer c d a b g f q p l) h))
      (cuts a b c d (sym p.parts ∙ q.parts))

-- ---- one, or no formula

abbrev pub Innermost : Tree → List ℕ → Type 0
Innermost e path = (outer : List ℕ) × (inner : List ℕ) × (f : Tree) × IsInnermost e path outer inner f

is_formula_or_not : (s : Sort) → (s ≡ Formula) ⊎ (s ≢ Formula)
is_formula_or_not Term = inr (λ e. cc)
is_formula_or_not Formula = inl refl
is_formula_or_not Program = inr (λ e. cc)

-- the tree itself
pub innermost_here : (e : Tree) (path : List ℕ) → sort e ≡ Formula → NoneBelow e path → IsInnermost e path [] path e
innermost_here e path is none = record { parts = refl; stands = subtree_nil e; is_formula = is; smallest = none }

-- one further inside
innermost_further : (e d : Tree) (k : ℕ) (path : List ℕ) → subtree e (k ∷ []) ≡ Some d → Innermost d path → Innermost e (k ∷ path)
innermost_further e d k path h p = (
  k ∷ p.0,
  p.1,
  p.2,
  record {
    parts = ap (λ rest. k ∷ rest) p.3.parts;
    stands = subtree_join e (k ∷ []) p.0 d h ∙ p.3.stands;
    is_formula = p.3.is_formula;
    smallest = p.3.smallest;
  },
)

pub innermost_or_not : (path : List ℕ) (e s : Tree) → subtree e path ≡ Some s → Innermost e path ⊎ ((sort e ≢ Formula) × NoneBelow e path)
innermost_or_not [] e s h =
    ⊎_elim (λ (is : sort e ≡ Formula). inl ([], [], e, innermost_here e [] is (none_at_end e))) (λ (other : sort e ≢ Formula). inr (other, none_at_end e))
    (is_formula_or_not (sort e))
innermost_or_not (k ∷ path) e s h =
    let first = subtree_before e (k ∷ []) path s h in
    let d = first.0 in
    let further = innermost_or_not path d s (sym (subtree_join e (k ∷ []) path d first.1) ∙ h) in
    ⊎_elim (λ (p : Innermost d path). inl (innermost_further e d k path first.1 p))
    (λ (none : (sort d ≢ Formula) × NoneBelow d path).
    let below = none_further e d k path first.1 none.0 none.1 in
    ⊎_elim (λ (is : sort e ≡ Formula). inl ([], k ∷ path, e, innermost_here e (k ∷ path) is below)) (λ (other : sort e ≢ Formula). inr (other, below))
    (is_formula_or_not (sort e)))
    further

-- a formula on the way is the smallest or has a smaller one in it
pub some_innermost : (e : Tree) (path : List ℕ) (s : Tree) → sort e ≡ Formula → subtree e path ≡ Some s → Innermost e path
some_innermost e path s is h = ⊎_elim (λ (p : Innermost e path). p) (λ none. absurd (none.0 is)) (innermost_or_not path e s h)

-- where neither the tree nor what is below it on the way is a formula
pub no_innermost : (e : Tree) (path : List ℕ) → sort e ≢ Formula → NoneBelow e path → (outer inner : List ℕ) (f : Tree) → ¬ IsInnermost e path outer inner f
no_innermost e path other none [] inner f p = other (ap sort (one_of (subtree_nil e) p.stands) ∙ p.is_formula)
no_innermost e path other none (n ∷ front) inner f p = none n front inner f p.parts p.stands p.is_formula
