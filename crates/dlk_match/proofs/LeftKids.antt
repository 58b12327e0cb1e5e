-- The walk over key and target: what is left to match of their kids.
use Rattle.std.proofs.Common.{◌≡◌, refl, sym, ap, subst, ◌∙◌, ℕ, ◌+◌, ◌<◌, ◌≤◌, List, [], ◌∷◌, length, get_or, drop, arith, Bool, true, false}
use Rattle.std.specs.Prelude.{◌↔◌, ◌==◌, if◌then◌else◌, All}
use Rattle.std.specs.Global.{Vec}
use Rattle.std.proofs.lemmas.List.{drop_all}
use Rattle.std.proofs.lemmas.List.Elements.{All-weaker, All-drop}
use Rattle.dlk_tree.specs.declared.op.Op.{Op}
use Rattle.dlk_tree.specs.Trees.{Tree, node, kid, size}
use Rattle.dlk_store.specs.declared.Id.{Id}
use Rattle.dlk_store.specs.Stores.{IsId, tree, kid_trees, Keeps}
use Rattle.dlk_store.specs.Kids.{kid_trees-kept}
use Rattle.dlk_store.proofs.Kids.{kid_trees-drop, kid_smaller}
use Rattle.dlk_calculus.specs.Pairs.{Extra as TreeExtra}
use Rattle.dlk_sequent.specs.declared.extra.Extra.{Extra}
use Rattle.dlk_sequent.specs.Extras.{extra_at, IsKnownExtra}
use Rattle.dlk_sequent.specs.Growth.{pairs_at-kept}
use Rattle.dlk_sequent.proofs.KeptPairs.{AreKnownPairs-kept}
use Rattle.dlk_match.specs.Matching.{Matches, MatchesAll}
use Rattle.dlk_match.specs.Tried.{Tried, HeadIs}
use Rattle.dlk_match.specs.Rests.{rest_of, RestIs}
use Rattle.dlk_match.specs.declared.head.Head.{Head}
use Rattle.dlk_match.specs.declared.head.Head.TheVariants.{Refused, Taken, Left}
use Rattle.dlk_match.specs.declared.walk.Rest.TheVariants.{Over, Kids}
use Rattle.dlk_match.proofs.OneMatch.{one_matches}

pub extra_kept : {old new : List Tree} → Keeps old new → (extra : Extra) → IsKnownExtra old extra → extra_at new extra ≡ extra_at old extra
extra_kept keeps extra known = let same = pairs_at-kept keeps extra.pairs known in λ i. record { renames = extra.renames; pairs = same i }

pub extra_known : {old new : List Tree} → Keeps old new → (extra : Extra) → IsKnownExtra old extra → IsKnownExtra new extra
extra_known keeps extra known = AreKnownPairs-kept keeps extra.pairs known

-- what is left: the kids from the i-th on, from these names and pairs on
abbrev pub IsLeft : Tree → Tree → TreeExtra → List Tree → List Id → List Id → ℕ → TreeExtra → Type 0
IsLeft key target old trees ks es i new =
    (other : TreeExtra) → Matches key target old other ↔ MatchesAll (kid_trees trees (drop i ks)) (kid_trees trees (drop i es)) new other

all_known : {old new : List Tree} → Keeps old new → (ks : List Id) → All (IsId old) ks → All (IsId new) ks
all_known {old} {new} keeps ks known = All-weaker (IsId old) (IsId new) (λ id h. omega (arith, keeps.known, h)) ks known

pub ids_known : {old new : List Tree} → Keeps old new → (ks : List Id) → All (IsId old) ks → All (IsId new) ks
ids_known = all_known

-- in a store that has grown
pub left_kept : (key target : Tree) (old new : TreeExtra) {now next : List Tree} → Keeps now next → (ks es : List Id) (i : ℕ) → All (IsId now) ks
    → All (IsId now) es
    → IsLeft key target old now ks es i new → IsLeft key target old next ks es i new
left_kept key target old new {now} {next} keeps ks es i ks_known es_known left other =
    let a = kid_trees-kept keeps (drop i ks) (All-drop (IsId now) i ks ks_known) in
    let b = kid_trees-kept keeps (drop i es) (All-drop (IsId now) i es es_known) in
    subst (λ Z. Matches key target old other ↔ Z) (λ j. MatchesAll (sym a j) (sym b j) new other) (left other)

module _ (key target : Tree) (old new : TreeExtra) (trees : List Tree) (ks es : List Id) (i : ℕ) (d f : Id) (within : i < length ks) (beside : i < length es)
    (left : IsLeft key target old trees ks es i new) where
  head_key : Tree
  head_key = tree trees (get_or ks i d)

  opened : (other : TreeExtra)
      → MatchesAll (kid_trees trees (drop i ks)) (kid_trees trees (drop i es)) new other
      ≡ MatchesAll (kid (tree trees (get_or ks i d)) (kid_trees trees (drop (i + 1) ks)))
      (kid (tree trees (get_or es i f)) (kid_trees trees (drop (i + 1) es))) new other
  opened other = let a = kid_trees-drop trees ks i d within in let b = kid_trees-drop trees es i f beside in λ j. MatchesAll (a j) (b j) new other

  -- the next kid matches
  pub left_next : (next : TreeExtra) → Matches (tree trees (get_or ks i d)) (tree trees (get_or es i f)) new next
      → IsLeft key target old trees ks es (i + 1) next
  left_next next matches other = (
    λ p.
        let q = subst (λ Z. Z) (opened other) ((left other).0 p) in
        let same = one_matches (tree trees (get_or ks i d)) (tree trees (get_or es i f)) new q.0 next q.1 matches in
        subst (λ (mid : TreeExtra). MatchesAll (kid_trees trees (drop (i + 1) ks)) (kid_trees trees (drop (i + 1) es)) mid other) same q.2,
    λ q. (left other).1 (subst (λ Z. Z) (sym (opened other)) (next, matches, q)),
  )

  -- or doesn't
  pub left_nowhere : ((next : TreeExtra) → Matches (tree trees (get_or ks i d)) (tree trees (get_or es i f)) new next → ⊥) → (other : TreeExtra)
      → Matches key target old other → ⊥
  left_nowhere none other p =
      let q = subst (λ Z. Z) (opened other) ((left other).0 p) in
      none q.0 q.1

-- nothing is left
pub left_none : (key target : Tree) (old new : TreeExtra) (trees : List Tree) (ks es : List Id) (i : ℕ) → length ks ≤ i → length es ≤ i
    → IsLeft key target old trees ks es i new → Matches key target old new
left_none key target old new trees ks es i a b left =
    let p = drop_all i ks a in
    let q = drop_all i es b in
    (left new).1 (subst (λ Z. Z) (λ j. MatchesAll (kid_trees trees (sym p j)) (kid_trees trees (sym q j)) new new) refl)

-- as many kids on both sides
as_many : (trees now : List Tree) (ks es : List Id) (old new : TreeExtra) → MatchesAll (kid_trees trees ks) (kid_trees now es) old new → length ks ≡ length es
as_many trees now [] [] old new p = refl
as_many trees now [] (e ∷ es) old new p = absurd p
as_many trees now (k ∷ ks) [] old new p = absurd p
as_many trees now (k ∷ ks) (e ∷ es) old new p = omega (arith, as_many trees now ks es p.0 new p.2)

pub unlike_many : (key target : Tree) (old new : TreeExtra) (trees now : List Tree) (ks es : List Id)
    → ((other : TreeExtra) → Matches key target old other ↔ MatchesAll (kid_trees trees ks) (kid_trees now es) new other)
    → (length ks ≡ length es → ⊥) → (other : TreeExtra) → Matches key target old other → ⊥
unlike_many key target old new trees now ks es left unlike other p = unlike (as_many trees now ks es new other ((left other).0 p))

-- at first all are left
pub left_first : (key target : Tree) (old new : TreeExtra) {before now : List Tree} → Keeps before now → (ks es : List Id) → All (IsId before) ks
    → ((other : TreeExtra) → Matches key target old other ↔ MatchesAll (kid_trees before ks) (kid_trees now es) new other)
    → IsLeft key target old now ks es 0 new
left_first key target old new {before} {now} keeps ks es known left other =
    let a = kid_trees-kept keeps ks known in
    subst (λ Z. Z) (λ j. Matches key target old other ↔ MatchesAll (sym a j) (kid_trees now es) new other) (left other)

-- the i-th kid, which is this one
module _ (before mid : List Tree) (keeps : Keeps before mid) (ks : List Id) (i : ℕ) (k : Id) (within : i < length ks) (k_is : k ≡ get_or ks i k)
    (known : All (IsId before) ks) where
  was_known : IsId before k
  was_known = subst (IsId before) (sym k_is) (known i k within)

  pub kid_known : IsId mid k
  kid_known = omega (arith, was_known, keeps.known)

  pub kid_less : (key : Tree) (op : Op) → key ≡ node op (kid_trees before ks) → size (tree mid k) < size key
  kid_less key op is =
      let less = kid_smaller before key op ks i k is within in
      subst (λ t. size t < size key) (ap (tree before) (sym k_is) ∙ sym (keeps.same k was_known)) less

-- the i-th kids, which are these, were tried
module _ (key target : Tree) (old new : TreeExtra) (mid : List Tree) (ks es : List Id) (i : ℕ) (k e : Id) (within : i < length ks) (beside : i < length es)
    (k_is : k ≡ get_or ks i k) (e_is : e ≡ get_or es i e) (left : IsLeft key target old mid ks es i new) where
  these : (other : TreeExtra) → Matches (tree mid k) (tree mid e) new other ≡ Matches (tree mid (get_or ks i k)) (tree mid (get_or es i e)) new other
  these other = λ j. Matches (tree mid (k_is j)) (tree mid (e_is j)) new other

  pub kid_matches : {next : List Tree} → Keeps mid next → All (IsId mid) ks → All (IsId mid) es → (after : TreeExtra) (is : Bool) → is ≡ true
      → Tried (Matches (tree mid k) (tree mid e)) new after is → IsLeft key target old next ks es (i + 1) after
  kid_matches keeps ks_known es_known after is h tried =
      let matches = subst (λ Z. Z) (these after) (subst (Tried (Matches (tree mid k) (tree mid e)) new after) h tried) in
      left_kept key target old after keeps ks es (i + 1) ks_known es_known (left_next key target old new mid ks es i k e within beside left after matches)

  pub kid_differs : (after : TreeExtra) (is : Bool) → is ≡ false → Tried (Matches (tree mid k) (tree mid e)) new after is
      → (other : TreeExtra) → Matches key target old other → ⊥
  kid_differs after is h tried =
      let none = subst (Tried (Matches (tree mid k) (tree mid e)) new after) h tried in
      left_nowhere key target old new mid ks es i k e within beside left (λ next p. none next (subst (λ Z. Z) (sym (these next)) p))

-- ---- the roots

module _ (before now : List Tree) (op : Op) (key target : Tree) (old new : TreeExtra) (keys : Vec Id) (node_is : key ≡ node op (kid_trees before keys.items))
    (known : All (IsId before) keys.items) where
  moved : (X : Tree → Type 0) → X (node op (kid_trees before keys.items)) → X key
  moved X x = subst X (sym node_is) x

  abbrev Leads : Vec Id → Tree → Type 0
  Leads targets k = (other : TreeExtra) → Matches k target old other ↔ MatchesAll (kid_trees before keys.items) (kid_trees now targets.items) new other

  some_rest : (targets : Vec Id) (many : Bool) → (length keys.items == length targets.items) ≡ many
      → HeadIs op (kid_trees before keys.items) target now old new (Left targets)
      → RestIs before now key target old new (if many then Kids keys targets else Over false)
  some_rest targets true e h = record {
    op = op;
    node_is = node_is;
    keys_known = known;
    targets_known = h.0;
    as_many = grind (arith, e);
    left = moved (Leads targets) h.1;
  }
  some_rest targets false e h =
      unlike_many key target old new before now keys.items targets.items (moved (Leads targets) h.1) (λ same. absurd (grind (arith, e, same)))

  pub rest_is : (head : Head) → HeadIs op (kid_trees before keys.items) target now old new head → RestIs before now key target old new (rest_of keys head)
  rest_is Refused h = moved (λ k. (other : TreeExtra) → Matches k target old other → ⊥) h
  rest_is Taken h = moved (λ k. Matches k target old new) h
  rest_is (Left targets) h = some_rest targets (length keys.items == length targets.items) refl h
