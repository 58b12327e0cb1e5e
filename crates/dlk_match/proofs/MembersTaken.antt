-- Which items of a key take which members: with the members in two parts.
use Rattle.std.proofs.Common.{◌≡◌, ◌∙◌, refl, sym, ap, subst, ℕ, ◌-◌, ◌<◌, ◌≤◌, List, [], ◌∷◌, ◌++◌, length, arith, Bool, true, false}
use Rattle.std.proofs.lemmas.List.{length-append}
use Rattle.dlk_tree.specs.declared.op.Sym.{Sym}
use Rattle.dlk_tree.specs.declared.op.OdeItem.{OdeItem}
use Rattle.dlk_tree.specs.declared.op.OdeItem.TheVariants as Item
use Rattle.dlk_tree.specs.Trees.{Tree}
use Rattle.dlk_store.specs.declared.Id.{Id}
use Rattle.dlk_store.specs.Stores.{IsId, tree}
use Rattle.dlk_calculus.specs.Pairs.{Extra}
use Rattle.dlk_calculus.specs.Subst.{Member, Equation}
use Rattle.dlk_match.specs.Matching.{GetsName, GetsReplacement, system_of, TakeMembers, constant, equation, equation_first, equation_last, two_constants}
use Rattle.dlk_match.specs.Members.{TakingIs, leaving_none, leaving}
use Rattle.dlk_match.specs.Tried.{Tried}
use Rattle.dlk_match.proofs.OneMatch.{one_name, one_replacement, one_equation, last_of, front_of, last_is, front_is}

-- the items don't take the members
abbrev pub Refuses : List OdeItem → List Member → Extra → Type 0
Refuses items ms old = (other : Extra) (sides : List Tree) → TakeMembers items ms old other sides → ⊥

-- ---- one item

constant_back : {s : Sym} {ms : List Member} {old new : Extra} {sides : List Tree} → TakeMembers (Item.Const s ∷ []) ms old new sides →
    GetsReplacement s (system_of ms) old new
constant_back (constant p) = p

pub by_constant : (s : Sym) (ms : List Member) (trees : List Tree) (old new : Extra) (is : Bool) → Tried (GetsReplacement s (system_of ms)) old new is →
    TakingIs (Item.Const s ∷ []) ms trees old new (leaving_none is)
by_constant s ms trees old new true p = constant p
by_constant s ms trees old new false p = λ other sides taken. p other (constant_back taken)

-- what an equation of the key takes
record Gets (x : List ℕ) (ms : List Member) (old new : Extra) : Type 0 where
  pub y : List ℕ
  pub side : Tree
  pub member_is : ms ≡ Equation y side ∷ []
  pub named : GetsName x y old new

equation_back : {x : List ℕ} {ms : List Member} {old new : Extra} {sides : List Tree} → TakeMembers (Item.Evolve x ∷ []) ms old new sides → Gets x ms old new
equation_back (equation {y = y} {e = e} p) = record { y = y; side = e; member_is = refl; named = p }

name_is : {x y : List ℕ} {e : Tree} {ms : List Member} {old new : Extra} → ms ≡ Equation y e ∷ [] → Gets x ms old new → GetsName x y old new
name_is {x} {y} {e} {ms} {old} {new} is gets =
    subst (λ z. GetsName x z old new) (one_equation {s = gets.side} {t = e} (one_of_one (sym gets.member_is ∙ is))).0 gets.named
  where
    one_of_one : {m n : Member} → m ∷ [] ≡ n ∷ [] → m ≡ n
    one_of_one same = cc

pub by_equation : (x y : List ℕ) (e : Id) (ms : List Member) (trees : List Tree) (old new : Extra) (is : Bool) → IsId trees e →
    ms ≡ Equation y (tree trees e) ∷ [] → Tried (GetsName x y) old new is → TakingIs (Item.Evolve x ∷ []) ms trees old new (leaving is e)
by_equation x y e ms trees old new true known same p =
    (known, subst (λ (all : List Member). TakeMembers (Item.Evolve x ∷ []) all old new (tree trees e ∷ [])) (sym same) (equation p))
by_equation x y e ms trees old new false known same p = λ other sides taken. p other (name_is same (equation_back taken))

-- ---- two items

-- lists in two parts
first_part : (fs os : List Member) (m : Member) (rest : List Member) → length fs ≡ 1 → fs ++ os ≡ m ∷ rest → (fs ≡ m ∷ []) × (os ≡ rest)
first_part [] os m rest one same = absurd (omega (arith, one))
first_part (f ∷ []) os m rest one same = (cc, cc)
first_part (f ∷ g ∷ fs) os m rest one same = absurd (omega (arith, one))

last_part : (fs os : List Member) (m : Member) (rest : List Member) → length os ≡ 1 → fs ++ os ≡ rest ++ m ∷ [] → (fs ≡ rest) × (os ≡ m ∷ [])
last_part fs [] m rest one same = absurd (omega (arith, one))
last_part fs (o ∷ []) m rest one same = (
  sym (front_is fs o) ∙ ap front_of same ∙ front_is rest m,
  ap (λ (n : Member). n ∷ []) (sym (last_is fs o) ∙ ap last_of same ∙ last_is rest m),
)
last_part fs (o ∷ p ∷ os) m rest one same = absurd (omega (arith, one))

last_more : (m n : Member) (ms : List Member) → 1 < length ((m ∷ ms) ++ n ∷ [])
last_more m n ms = omega (arith, length-append ms (n ∷ []))

pub one_behind : (ms fs os : List Member) (n : ℕ) → ms ≡ fs ++ os → length ms ≡ n → length fs ≡ n - 1 → 1 ≤ length fs → length os ≡ 1
one_behind ms fs os n whole many front some =
    let both = ap (λ (all : List Member). length all) whole ∙ length-append fs os in
    omega (arith, both, many, front, some)

-- too few members
pub first_few : {x : List ℕ} {s : Sym} {ms : List Member} {old other : Extra} {sides : List Tree} →
    TakeMembers (Item.Evolve x ∷ Item.Const s ∷ []) ms old other sides → 1 < length ms
first_few (equation_first {m = m} {ms = ms} mid p q) = omega arith

pub last_few : {x : List ℕ} {s : Sym} {ms : List Member} {old other : Extra} {sides : List Tree} →
    TakeMembers (Item.Const s ∷ Item.Evolve x ∷ []) ms old other sides → 1 < length ms
last_few (equation_last {e = e} y m ms mid is p q) = subst (λ (all : List Member). 1 < length all) (sym is) (last_more m (Equation y e) ms)

pub both_few : {s t : Sym} {ms : List Member} {old other : Extra} {sides : List Tree} →
    TakeMembers (Item.Const s ∷ Item.Const t ∷ []) ms old other sides → 1 < length ms
both_few (two_constants {m = m} {n = n} {ms = ms} mid p q) = omega arith

module _ (ms fs os : List Member) (whole : ms ≡ fs ++ os) (old : Extra) where
  -- an equation, and a constant
  record GetsFirst (x : List ℕ) (s : Sym) (new : Extra) : Type 0 where
    pub mid : Extra
    pub gets : Gets x fs old mid
    pub replaced : GetsReplacement s (system_of os) mid new

  first_back : (x : List ℕ) (s : Sym) (new : Extra) (sides : List Tree) (all : List Member) → length fs ≡ 1 → all ≡ fs ++ os →
      TakeMembers (Item.Evolve x ∷ Item.Const s ∷ []) all old new sides → GetsFirst x s new
  first_back x s new sides all one is (equation_first {y = y} {e = e} {m = m} {ms = rest} mid p q) =
      let parts = first_part fs os (Equation y e) (m ∷ rest) one (sym is) in
      record {
        mid = mid;
        gets = record { y = y; side = e; member_is = parts.0; named = p };
        replaced = subst (λ (more : List Member). GetsReplacement s (system_of more) mid new) (sym parts.1) q;
      }

  pub first_unlike : (x : List ℕ) (s : Sym) → length fs ≡ 1 → ((y : List ℕ) (e : Tree) → fs ≡ Equation y e ∷ [] → ⊥) →
      Refuses (Item.Evolve x ∷ Item.Const s ∷ []) ms old
  first_unlike x s one none other sides taken =
      let gets = (first_back x s other sides ms one whole taken).gets in
      none gets.y gets.side gets.member_is

  module _ (x : List ℕ) (s : Sym) (one : length fs ≡ 1) (y : List ℕ) (e : Tree) (fs_is : fs ≡ Equation y e ∷ []) where
    pub first_unnamed : ((other : Extra) → GetsName x y old other → ⊥) →
        Refuses (Item.Evolve x ∷ Item.Const s ∷ []) ms old
    first_unnamed none other sides taken =
        let first = first_back x s other sides ms one whole taken in
        none first.mid (name_is fs_is first.gets)

    first_made : (more : List Member) (mid new : Extra) → 1 ≤ length more → GetsName x y old mid → GetsReplacement s (system_of more) mid new →
        TakeMembers (Item.Evolve x ∷ Item.Const s ∷ []) (Equation y e ∷ more) old new (e ∷ [])
    first_made [] mid new some p q = absurd (omega (arith, some))
    first_made (m ∷ more) mid new some p q = equation_first mid p q

    pub first_taken : (trees : List Tree) (id : Id) (mid new : Extra) (is : Bool) → IsId trees id → tree trees id ≡ e → 1 ≤ length os → GetsName x y old mid →
        Tried (GetsReplacement s (system_of os)) mid new is → TakingIs (Item.Evolve x ∷ Item.Const s ∷ []) ms trees old new (leaving is id)
    first_taken trees id mid new true known same some named p =
        let all : Equation y e ∷ os ≡ ms = sym (whole ∙ ap (λ (front : List Member). front ++ os) fs_is) in
        let made = first_made os mid new some named p in
        let moved = subst (λ (members : List Member). TakeMembers (Item.Evolve x ∷ Item.Const s ∷ []) members old new (e ∷ [])) all made in
        (known, subst (λ t. TakeMembers (Item.Evolve x ∷ Item.Const s ∷ []) ms old new (t ∷ [])) (sym same) moved)
    first_taken trees id mid new false known same some named p = λ other sides taken.
        let first = first_back x s other sides ms one whole taken in
        let mids = one_name x y old first.mid mid (name_is fs_is first.gets) named in
        p other (subst (λ (k : Extra). GetsReplacement s (system_of os) k other) mids first.replaced)

  -- a constant, and an equation
  record GetsLast (s : Sym) (x : List ℕ) (new : Extra) : Type 0 where
    pub mid : Extra
    pub replaced : GetsReplacement s (system_of fs) old mid
    pub gets : Gets x os mid new

  last_back : (s : Sym) (x : List ℕ) (new : Extra) (sides : List Tree) (all : List Member) → length os ≡ 1 → all ≡ fs ++ os →
      TakeMembers (Item.Const s ∷ Item.Evolve x ∷ []) all old new sides → GetsLast s x new
  last_back s x new sides all one is (equation_last {e = e} y m rest mid all_is p q) =
      let parts = last_part fs os (Equation y e) (m ∷ rest) one (sym is ∙ all_is) in
      record {
        mid = mid;
        replaced = subst (λ (more : List Member). GetsReplacement s (system_of more) old mid) (sym parts.0) p;
        gets = record { y = y; side = e; member_is = parts.1; named = q };
      }

  pub last_unlike : (s : Sym) (x : List ℕ) → length os ≡ 1 → ((y : List ℕ) (e : Tree) → os ≡ Equation y e ∷ [] → ⊥) →
      Refuses (Item.Const s ∷ Item.Evolve x ∷ []) ms old
  last_unlike s x one none other sides taken =
      let gets = (last_back s x other sides ms one whole taken).gets in
      none gets.y gets.side gets.member_is

  module _ (s : Sym) (x : List ℕ) (one : length os ≡ 1) where
    pub last_unreplaced : ((other : Extra) → GetsReplacement s (system_of fs) old other → ⊥) →
        Refuses (Item.Const s ∷ Item.Evolve x ∷ []) ms old
    last_unreplaced none other sides taken =
        let last = last_back s x other sides ms one whole taken in
        none last.mid last.replaced

    last_made : (front : List Member) (y : List ℕ) (e : Tree) (mid new : Extra) → 1 ≤ length front → ms ≡ front ++ Equation y e ∷ [] →
        GetsReplacement s (system_of front) old mid → GetsName x y mid new → TakeMembers (Item.Const s ∷ Item.Evolve x ∷ []) ms old new (e ∷ [])
    last_made [] y e mid new some same p q = absurd (omega (arith, some))
    last_made (m ∷ front) y e mid new some same p q = equation_last y m front mid same p q

    pub last_taken : (y : List ℕ) (e : Tree) → os ≡ Equation y e ∷ [] → (trees : List Tree) (id : Id) (mid new : Extra) (is : Bool) →
        IsId trees id → tree trees id ≡ e → 1 ≤ length fs → GetsReplacement s (system_of fs) old mid →
        Tried (GetsName x y) mid new is → TakingIs (Item.Const s ∷ Item.Evolve x ∷ []) ms trees old new (leaving is id)
    last_taken y e os_is trees id mid new true known same some replaced p =
        let all : ms ≡ fs ++ Equation y e ∷ [] = whole ∙ ap (λ (end : List Member). fs ++ end) os_is in
        (known, subst (λ t. TakeMembers (Item.Const s ∷ Item.Evolve x ∷ []) ms old new (t ∷ [])) (sym same) (last_made fs y e mid new some all replaced p))
    last_taken y e os_is trees id mid new false known same some replaced p = λ other sides taken.
        let last = last_back s x other sides ms one whole taken in
        let mids = one_replacement s (system_of fs) old last.mid mid last.replaced replaced in
        p other (subst (λ (k : Extra). GetsName x y k other) mids (name_is os_is last.gets))

  -- two constants
  record GetsBoth (s t : Sym) (new : Extra) : Type 0 where
    pub mid : Extra
    pub first : GetsReplacement s (system_of fs) old mid
    pub others : GetsReplacement t (system_of os) mid new

  both_back : (s t : Sym) (new : Extra) (sides : List Tree) (all : List Member) → length fs ≡ 1 → all ≡ fs ++ os →
      TakeMembers (Item.Const s ∷ Item.Const t ∷ []) all old new sides → GetsBoth s t new
  both_back s t new sides all one is (two_constants {m = m} {n = n} {ms = rest} mid p q) =
      let parts = first_part fs os m (n ∷ rest) one (sym is) in
      record {
        mid = mid;
        first = subst (λ (more : List Member). GetsReplacement s (system_of more) old mid) (sym parts.0) p;
        others = subst (λ (more : List Member). GetsReplacement t (system_of more) mid new) (sym parts.1) q;
      }

  module _ (s t : Sym) (one : length fs ≡ 1) where
    pub both_unreplaced : ((other : Extra) → GetsReplacement s (system_of fs) old other → ⊥) →
        Refuses (Item.Const s ∷ Item.Const t ∷ []) ms old
    both_unreplaced none other sides taken =
        let both = both_back s t other sides ms one whole taken in
        none both.mid both.first

    both_made : (front more : List Member) (mid new : Extra) → length front ≡ 1 → 1 ≤ length more →
        GetsReplacement s (system_of front) old mid → GetsReplacement t (system_of more) mid new →
        TakeMembers (Item.Const s ∷ Item.Const t ∷ []) (front ++ more) old new []
    both_made [] more mid new only some p q = absurd (omega (arith, only))
    both_made (f ∷ []) [] mid new only some p q = absurd (omega (arith, some))
    both_made (f ∷ []) (m ∷ more) mid new only some p q = two_constants mid p q
    both_made (f ∷ g ∷ front) more mid new only some p q = absurd (omega (arith, only))

    pub both_taken : (trees : List Tree) (mid new : Extra) (is : Bool) → 1 ≤ length os → GetsReplacement s (system_of fs) old mid →
        Tried (GetsReplacement t (system_of os)) mid new is → TakingIs (Item.Const s ∷ Item.Const t ∷ []) ms trees old new (leaving_none is)
    both_taken trees mid new true some replaced p =
        subst (λ (all : List Member). TakeMembers (Item.Const s ∷ Item.Const t ∷ []) all old new []) (sym whole) (both_made fs os mid new one some replaced p)
    both_taken trees mid new false some replaced p = λ other sides taken.
        let both = both_back s t other sides ms one whole taken in
        let mids = one_replacement s (system_of fs) old both.mid mid both.first replaced in
        p other (subst (λ (k : Extra). GetsReplacement t (system_of os) k other) mids both.others)
