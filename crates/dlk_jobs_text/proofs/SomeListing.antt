-- Each set of variables of a well-made tree has a listing, and each tree a signature.
use Rattle.std.proofs.Common.{◌≡◌, ◌∙◌, sym, ap, refl, ℕ, List, [], ◌∷◌, ◌++◌, Bool, true, false, ◌||◌, ◌&&◌, not, cond}
use Rattle.std.proofs.Math.Bool.{or-false}
use Rattle.std.proofs.lemmas.List.Folds.{list_any-append}
use Rattle.std.proofs.lemmas.Map.Keys.{sorted_head, sorted_tail}
use Rattle.std.specs.Bool.{beq}
use Rattle.std.specs.Cmp.{IsTotalOrder}
use Rattle.std.specs.List.{list_any, AllByRecursion}
use Rattle.std.specs.List.Sorted.{IsStrictlySortedBy}
use Rattle.std.specs.Ordering.{is_eq, eq_by_cmp, ordering_reverse}
use Rattle.std.specs.Prelude.{if◌then◌else◌}
use Rattle.std.specs.Str.{bytes_eq}
use Rattle.std.specs.declared.cmp.Ordering.{Ordering}
use Rattle.std.specs.declared.cmp.Ordering.TheVariants.{Less, Equal, Greater}
use Rattle.dlk_tree.specs.Listed.{is_among, var_cmp, IsListing, sym_cmp, IsSignature}
use Rattle.dlk_tree.specs.Named.{is_named, nowhere}
use Rattle.dlk_tree.specs.Occurs.{any_has, symbols_of, has_symbol, occurs}
use Rattle.dlk_tree.specs.Statics.{plain, prime, free, bound, must}
use Rattle.dlk_tree.specs.Tests.{var_eq, sym_eq}
use Rattle.dlk_tree.specs.Trees.{Tree, node, Forest, no_kids, kid, WellMade}
use Rattle.dlk_tree.specs.declared.op.Sym.{Sym}
use Rattle.dlk_tree.specs.declared.op.Var.{Var}
use Rattle.dlk_tree.proofs.Elsewhere.{elsewhere}
use Rattle.dlk_tree.proofs.Listing.{var_total, among_keys, sym_total, sym_ties, sym_exact, var_exact}
use Rattle.dlk_tree.proofs.NameList.{names, names_listed}
use Rattle.dlk_tree.proofs.Same.{var_eq_decides}
use Rattle.dlk_tree.proofs.SomeVar.{not_named}
use Rattle.dlk_shared.proofs.SignLemmas.{turned}

or_assoc : (a b c : Bool) → (a || (b || c)) ≡ ((a || b) || c)
or_assoc true b c = refl
or_assoc false b c = refl

or_again : (a b : Bool) → (a || b) ≡ ((a || b) || a)
or_again true true = refl
or_again true false = refl
or_again false true = refl
or_again false false = refl

-- ---- lists are put in order

module _ {K : Type 0} (R : K → K → Ordering) (o : IsTotalOrder R) (exact : (x y : K) → R x y ≡ Equal → x ≡ y) where
  abbrev is_key : List K → K → Bool
  is_key ks k = list_any (eq_by_cmp R k) ks

  abbrev AllAbove : K → List K → Type 0
  AllAbove k ks = AllByRecursion (λ y. R k y ≡ Less) ks

  in_order : (k : K) (ks : List K) → AllAbove k ks → IsStrictlySortedBy R ks → IsStrictlySortedBy R (k ∷ ks)
  unfolding IsStrictlySortedBy
  in_order k ks above ordered = (above, ordered)

  nothing_in_order : IsStrictlySortedBy R []
  unfolding IsStrictlySortedBy
  nothing_in_order = tt

  all_above : (k y : K) (ys : List K) → R k y ≡ Less → AllAbove y ys → AllAbove k ys
  all_above k y [] less h = tt
  all_above k y (z ∷ zs) less h = (o.trans k y z less h.0, all_above k y zs less h.1)

  -- one more key
  record Inserted (k : K) (ks : List K) : Type 0 where
    new : List K
    ordered : IsStrictlySortedBy R new
    members : (q : K) → is_key new q ≡ (is_key ks q || is_eq (R q k))
    above : (y : K) → R y k ≡ Less → AllAbove y ks → AllAbove y new

  inserted : (k : K) (ks : List K) → IsStrictlySortedBy R ks → Inserted k ks
  inserted k [] ordered = record {
    new = k ∷ [];
    ordered = in_order k [] tt ordered;
    members = λ q. or-false (is_eq (R q k));
    above = λ y less h. (less, tt);
  }
  inserted k (x ∷ xs) ordered = go (R k x) refl (inserted k xs (sorted_tail R x xs ordered))
    where
      go : (r : Ordering) → R k x ≡ r → Inserted k xs → Inserted k (x ∷ xs)
      go Less e rest = record {
        new = k ∷ x ∷ xs;
        ordered = in_order k (x ∷ xs) (e, all_above k x xs e (sorted_head R x xs ordered)) ordered;
        members = λ q. turned (is_eq (R q k)) (is_key (x ∷ xs) q);
        above = λ y less h. (less, h);
      }
      go Equal e rest = record {
        new = x ∷ xs;
        ordered = ordered;
        members = λ q. or_again (is_eq (R q x)) (is_key xs q) ∙ ap (λ z. is_key (x ∷ xs) q || is_eq (R q z)) (sym (exact k x e));
        above = λ y less h. h;
      }
      go Greater e rest = record {
        new = x ∷ rest.new;
        ordered = in_order x rest.new (rest.above x (o.antisymm x k ∙ ap ordering_reverse e) (sorted_head R x xs ordered)) rest.ordered;
        members = λ q. ap (λ b. is_eq (R q x) || b) (rest.members q) ∙ or_assoc (is_eq (R q x)) (is_key xs q) (is_eq (R q k));
        above = λ y less h. (h.0, rest.above y less h.1);
      }

  -- the same keys, in order
  sorted_list : (ks : List K) → (sorted : List K) × IsStrictlySortedBy R sorted × ((q : K) → is_key sorted q ≡ is_key ks q)
  sorted_list [] = ([], nothing_in_order, λ q. refl)
  sorted_list (k ∷ ks) =
      let rest = sorted_list ks in
      let more = inserted k rest.0 rest.1 in
      (more.new, more.ordered, λ q. more.members q ∙ ap (λ b. b || is_eq (R q k)) (rest.2 q) ∙ turned (is_key ks q) (is_eq (R q k)))

-- ---- the variables of a set

-- whether a variable is told apart from the others, of which each is in the set or none is
abbrev stands_out : Bool → Bool → Bool
stands_out true member = not member
stands_out false member = member

listed_as_is : (others named member : Bool) → (named ≡ false → member ≡ others) →
    (if others then not (named && stands_out others member) else (named && stands_out others member)) ≡ member
listed_as_is true true true h = refl
listed_as_is true true false h = refl
listed_as_is true false member h = sym (h refl)
listed_as_is false true member h = refl
listed_as_is false false member h = sym (h refl)

absorbed : (more out : Bool) → (out || (more && out)) ≡ out
absorbed true true = refl
absorbed true false = refl
absorbed false true = refl
absorbed false false = refl

with_either_mark : (same primed more out : Bool) →
    (((same && beq primed false) && out) || (((same && beq primed true) && out) || (more && out))) ≡ ((same || more) && out)
with_either_mark true true more out = absorbed more out
with_either_mark true false more out = absorbed more out
with_either_mark false primed more out = refl

module _ (set : Var → Bool) (others : Bool) where
  abbrev out : Var → Bool
  out v = stands_out others (set v)

  abbrev keep : Var → List Var → List Var
  keep v vars = cond (out v) (v ∷ vars) vars

  kept : (w : Var) (vars : List Var) (v : Var) → is_among (keep w vars) v ≡ ((var_eq v w && out v) || is_among vars v)
  kept w vars v = go (var_eq v w) refl (out w) refl
    where
      same_out : var_eq v w ≡ true → out v ≡ out w
      same_out e = ap out ((var_eq_decides v w).0 e)

      go : (same : Bool) → var_eq v w ≡ same → (b : Bool) → out w ≡ b → is_among (cond (out w) (w ∷ vars) vars) v ≡ ((var_eq v w && out v) || is_among vars v)
      go true e true f = let g = same_out e ∙ f in rw (f, e, g) refl
      go true e false f = let g = same_out e ∙ f in rw (f, e, g) refl
      go false e true f = rw (f, e) refl
      go false e false f = rw (f, e) refl

  -- the variables of these names that stand out
  picked : List (List ℕ) → List Var
  picked [] = []
  picked (x ∷ xs) = keep (plain x) (keep (prime x) (picked xs))

  picked_members : (xs : List (List ℕ)) (v : Var) → is_among (picked xs) v ≡ (list_any (bytes_eq v.name) xs && out v)
  unfolding picked
  picked_members [] v = refl
  picked_members (x ∷ xs) v =
      kept (plain x) (keep (prime x) (picked xs)) v
      ∙ ap (λ b. (var_eq v (plain x) && out v) || b) (kept (prime x) (picked xs) v)
      ∙ ap (λ b. (var_eq v (plain x) && out v) || ((var_eq v (prime x) && out v) || b)) (picked_members xs v)
      ∙ with_either_mark (bytes_eq v.name x) v.primed (list_any (bytes_eq v.name) xs) (out v)

-- a set in which the variables of other names are all alike has a listing
some_listing : (set : Var → Bool) (xs : List (List ℕ)) → ((v : Var) → list_any (bytes_eq v.name) xs ≡ false → set v ≡ set nowhere) →
    (all_but : Bool) × (vars : List Var) × IsListing set all_but vars
some_listing set xs alike =
    let others = set nowhere in
    let sorted = sorted_list var_cmp var_total var_exact (picked set others xs) in
    let among : (v : Var) → is_among sorted.0 v ≡ (list_any (bytes_eq v.name) xs && stands_out others (set v)) =
    λ v. among_keys sorted.0 v ∙ sorted.2 v ∙ sym (among_keys (picked set others xs) v) ∙ picked_members set others xs v in (
      others,
      sorted.0,
      record {
        ordered = sorted.1;
        members = λ v. ap (λ b. if others then not b else b) (among v) ∙ listed_as_is others (list_any (bytes_eq v.name) xs) (set v) (alike v);
      },
    )

-- a variable that isn't named in a tree, by the list of its names
module _ (t : Tree) (made : WellMade t) where
  unnamed : (v : Var) → list_any (bytes_eq v.name) (names t) ≡ false → is_named v.name t ≡ false
  unnamed v h = names_listed (bytes_eq v.name) t ∙ h

  pub some_free_listing : (all_but : Bool) × (vars : List Var) × IsListing (free t) all_but vars
  some_free_listing = some_listing (free t) (names t) (λ v h. (elsewhere t v nowhere (unnamed v h) (not_named t made)).free)

  pub some_bound_listing : (all_but : Bool) × (vars : List Var) × IsListing (bound t) all_but vars
  some_bound_listing = some_listing (bound t) (names t) (λ v h. (elsewhere t v nowhere (unnamed v h) (not_named t made)).bound)

  pub some_must_listing : (all_but : Bool) × (vars : List Var) × IsListing (must t) all_but vars
  some_must_listing = some_listing (must t) (names t) (λ v h. (elsewhere t v nowhere (unnamed v h) (not_named t made)).must)

-- ---- the symbols of a tree

sym_keys : (syms : List Sym) (s : Sym) → list_any (sym_eq s) syms ≡ list_any (eq_by_cmp sym_cmp s) syms
sym_keys [] s = refl
sym_keys (t ∷ syms) s = λ i. sym_ties s t i || sym_keys syms s i

abbrev mutual
  symbols : Tree → List Sym
  symbols (node op kids) = symbols_of op ++ symbols_in kids

  symbols_in : Forest → List Sym
  symbols_in no_kids = []
  symbols_in (kid t rest) = symbols t ++ symbols_in rest

mutual
  symbols_listed : (s : Sym) (t : Tree) → list_any (sym_eq s) (symbols t) ≡ occurs s t
  symbols_listed s (node op kids) =
      list_any-append (sym_eq s) (symbols_of op) (symbols_in kids) ∙ ap (λ b. has_symbol s op || b) (symbols_in_listed s kids)

  symbols_in_listed : (s : Sym) (ts : Forest) → list_any (sym_eq s) (symbols_in ts) ≡ any_has (has_symbol s) ts
  symbols_in_listed s no_kids = refl
  symbols_in_listed s (kid t rest) =
      list_any-append (sym_eq s) (symbols t) (symbols_in rest) ∙ (λ i. symbols_listed s t i || symbols_in_listed s rest i)

pub some_signature : (t : Tree) → (syms : List Sym) × IsSignature t syms
some_signature t =
    let sorted = sorted_list sym_cmp sym_total sym_exact (symbols t) in (
      sorted.0,
      record {
        ordered = sorted.1;
        members = λ s. sym_keys sorted.0 s ∙ sorted.2 s ∙ sym (sym_keys (symbols t) s) ∙ symbols_listed s t;
      },
    )
