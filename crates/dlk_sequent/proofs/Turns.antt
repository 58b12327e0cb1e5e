-- Ways through the nodes of a store.
use Rattle.std.proofs.Common.{◌≡◌, ◌≢◌, refl, sym, ap, subst, ◌∙◌, ℕ, zero, suc, ◌+◌, ◌<◌, ◌≤◌, List, [], ◌∷◌, ◌++◌, length}
use Rattle.std.proofs.Common.{map, take, drop, get_or, Option, None, Some, arith, ◌⊎◌, inl, inr, ⊎_elim}
use Rattle.std.proofs.lemmas.List.{drop_more, drop_all, drop-map, take-append-drop, take_more, map-append}
use Rattle.dlk_tree.specs.declared.op.Sort.TheVariants.{Formula}
use Rattle.dlk_tree.specs.Trees.{Tree, sort}
use Rattle.dlk_store.specs.declared.Id.{Id}
use Rattle.dlk_store.specs.Stores.{IsId, tree, StandsFor, Keeps}
use Rattle.dlk_calculus.specs.Paths.{subtree, put_at}
use Rattle.dlk_calculus.proofs.PathLaws.{subtree_nil, subtree_join, subtree_before, put_nil, put_join, put_sort}
use Rattle.dlk_calculus.proofs.Innermost.{NoneBelow, none_at_end, none_further, no_innermost}
use Rattle.dlk_sequent.specs.declared.spine.Turn.{Turn}
use Rattle.dlk_sequent.specs.Spines.{LeadsTo, HasSort, HasOtherSort, IsPut, Way, start, top, path_of, AreTurns, IsSpine, IsInnermostOf, HasNoInnermost}
use Rattle.dlk_sequent.proofs.Kept.{IsId-kept}

abbrev pub kids_of : List Turn → List ℕ
kids_of turns = map (λ (turn : Turn). turn.kid) turns

-- ---- what a spine says

pub start_known : (trees : List Tree) (turns : List Turn) (found : Id) → AreTurns trees turns found → IsId trees (start turns found)
start_known trees [] found are = are
start_known trees (turn ∷ turns) found are = are.0

-- the first part of a way begins where it does
pub earlier_start : (n : ℕ) (turns : List Turn) (found : Id) → start (take n turns) (start (drop n turns) found) ≡ start turns found
earlier_start zero turns found = refl
earlier_start (suc n) [] found = refl
earlier_start (suc n) (turn ∷ turns) found = refl

pub found_known : (trees : List Tree) (turns : List Turn) (found : Id) → AreTurns trees turns found → IsId trees found
found_known trees [] found are = are
found_known trees (turn ∷ turns) found are = found_known trees turns found are.2

pub found_stands : (trees : List Tree) (turns : List Turn) (found : Id) → AreTurns trees turns found
    → subtree (tree trees (start turns found)) (kids_of turns) ≡ Some (tree trees found)
found_stands trees [] found are = subtree_nil (tree trees found)
found_stands trees (turn ∷ turns) found are =
    subtree_join (tree trees turn.node) (turn.kid ∷ []) (kids_of turns) (tree trees (start turns found)) are.1 ∙ found_stands trees turns found are.2

-- the way from a later node on
pub later_turns : (trees : List Tree) (n : ℕ) (turns : List Turn) (found : Id) → AreTurns trees turns found → AreTurns trees (drop n turns) found
later_turns trees zero turns found are = are
later_turns trees (suc n) [] found are = are
later_turns trees (suc n) (turn ∷ turns) found are = later_turns trees n turns found are.2

pub later_stands : (trees : List Tree) (n : ℕ) (turns : List Turn) (found : Id) → AreTurns trees turns found → n ≤ length turns
    → subtree (tree trees (start turns found)) (take n (kids_of turns)) ≡ Some (tree trees (start (drop n turns) found))
later_stands trees zero turns found are le = subtree_nil (tree trees (start turns found))
later_stands trees (suc n) [] found are le = absurd (omega (arith, le))
later_stands trees (suc n) (turn ∷ turns) found are le =
    subtree_join (tree trees turn.node) (turn.kid ∷ []) (take n (kids_of turns)) (tree trees (start turns found)) are.1
    ∙ later_stands trees n turns found are.2 (omega (arith, le))

-- the turn before those from n on
pub next_turn : (way : Way) (n m : ℕ) (turn : Turn) → n ≤ length way.turns → m + 1 ≡ n → turn ≡ get_or way.turns m turn
    → drop m way.turns ≡ turn ∷ drop n way.turns
next_turn way n m turn within one is = drop_more way.turns m turn (omega (arith, within, one)) ∙ (λ i. sym is i ∷ drop (one i) way.turns)

pub later_next : (trees : List Tree) (way : Way) (n m : ℕ) (turn : Turn) → IsSpine trees way → n ≤ length way.turns → m + 1 ≡ n → turn ≡ get_or way.turns m turn
    → AreTurns trees (turn ∷ drop n way.turns) way.found
later_next trees way n m turn are within one is =
    subst (λ turns. AreTurns trees turns way.found) (next_turn way n m turn within one is) (later_turns trees m way.turns way.found are)

-- the way to a later node
pub earlier_turns : (trees : List Tree) (n : ℕ) (turns : List Turn) (found : Id) → AreTurns trees turns found
    → AreTurns trees (take n turns) (start (drop n turns) found)
earlier_turns trees zero turns found are = start_known trees turns found are
earlier_turns trees (suc n) [] found are = are
earlier_turns trees (suc n) (turn ∷ turns) found are = (
  are.0,
  are.1 ∙ ap (λ id. Some (tree trees id)) (sym (earlier_start n turns found)),
  earlier_turns trees n turns found are.2,
)

-- over a store that has grown
pub turns_kept : {old new : List Tree} → Keeps old new → (turns : List Turn) (found : Id) → AreTurns old turns found → AreTurns new turns found
turns_kept keeps [] found are = IsId-kept keeps found are
turns_kept {old} {new} keeps (turn ∷ turns) found are = (
  IsId-kept keeps turn.node are.0,
  ap (λ t. subtree t (turn.kid ∷ [])) (keeps.same turn.node are.0) ∙ are.1
      ∙ ap Some (sym (keeps.same (start turns found) (start_known old turns found are.2))),
  turns_kept keeps turns found are.2,
)

-- ---- walking

-- the way to a node, and what is left of the path from there on
pub record Walked (trees : List Tree) (id : Id) (path : List ℕ) (at : Id) (i : ℕ) : Type 0 where
  pub known : IsId trees at
  pub rest : subtree (tree trees id) path ≡ subtree (tree trees at) (drop i path)

none_or_some : (o : Option Tree) → (o ≡ None) ⊎ ((t : Tree) × (o ≡ Some t))
none_or_some None = inl refl
none_or_some (Some t) = inr (t, refl)

missing_further : (e : Tree) (k : ℕ) (path : List ℕ) → subtree e (k ∷ []) ≡ None → subtree e (k ∷ path) ≡ None
missing_further e k path none =
    ⊎_elim (λ (h : subtree e (k ∷ path) ≡ None). h)
    (λ (h : (t : Tree) × (subtree e (k ∷ path) ≡ Some t)).
    let before = subtree_before e (k ∷ []) path h.0 h.1 in
    let first = before.1 in
    absurd (cc (none, first)))
    (none_or_some (subtree e (k ∷ path)))

module _ (trees : List Tree) (id : Id) (path : List ℕ) (at : Id) (i d : ℕ) (w : Walked trees id path at i) (less : i < length path) where
  abbrev k : ℕ
  k = get_or path i d

  next_kid : drop i path ≡ k ∷ drop (i + 1) path
  next_kid = drop_more path i d less

  pub walked_out : subtree (tree trees at) (k ∷ []) ≡ None → subtree (tree trees id) path ≡ None
  walked_out none = w.rest ∙ ap (subtree (tree trees at)) next_kid ∙ missing_further (tree trees at) k (drop (i + 1) path) none

  pub walked_on : (next : Id) → LeadsTo trees at (k ∷ []) next → Walked trees id path next (i + 1)
  walked_on next to = record {
    known = to.known;
    rest =
        w.rest ∙ ap (subtree (tree trees at)) next_kid
        ∙ subtree_join (tree trees at) (k ∷ []) (drop (i + 1) path) (tree trees next) to.stands;
  }

-- one more turn at the end
pub start_stays : (turns : List Turn) (turn : Turn) (next : Id) → start (turns ++ turn ∷ []) next ≡ start turns turn.node
start_stays [] turn next = refl
start_stays (other ∷ turns) turn next = refl

pub kids_more : (turns more : List Turn) (turn : Turn) (path : List ℕ) (i d : ℕ) → more ≡ turns ++ turn ∷ [] → kids_of turns ≡ take i path → i < length path
    → turn.kid ≡ get_or path i d → kids_of more ≡ take (i + 1) path
kids_more turns more turn path i d is goes less kid =
    ap kids_of is ∙ map-append (λ (t : Turn). t.kid) turns (turn ∷ []) ∙ (λ j. goes j ++ kid j ∷ []) ∙ sym (take_more path i d less)

pub one_turn : (trees : List Tree) (turns : List Turn) (turn : Turn) (next : Id) → AreTurns trees turns turn.node → LeadsTo trees turn.node (turn.kid ∷ []) next
    → AreTurns trees (turns ++ turn ∷ []) next
one_turn trees [] turn next are to = (are, to.stands, to.known)
one_turn trees (first ∷ turns) turn next are to =
    (are.0, are.1 ∙ ap (λ id. Some (tree trees id)) (sym (start_stays turns turn next)), one_turn trees turns turn next are.2 to)

-- ---- putting

-- the node of the way from here on, with the new tree put at its end
pub record PutSoFar (old now : List Tree) (rest : List Turn) (found new made : Id) : Type 0 where
  pub known : IsId now made
  pub made_is : tree now made ≡ put_at (tree old (start rest found)) (kids_of rest) (tree old new)
  pub same : sort (tree now made) ≡ sort (tree old (start rest found))

module _ {old now : List Tree} (keeps : Keeps old now) (turn : Turn) (rest : List Turn) (found new made : Id) (are : AreTurns old (turn ∷ rest) found)
    (p : PutSoFar old now rest found new made) where
  pub turn_known : IsId now turn.node
  turn_known = IsId-kept keeps turn.node are.0

  kid_is : subtree (tree now turn.node) (turn.kid ∷ []) ≡ Some (tree old (start rest found))
  kid_is = ap (λ t. subtree t (turn.kid ∷ [])) (keeps.same turn.node are.0) ∙ are.1

  pub turn_fits : HasSort (sort (tree now made)) (subtree (tree now turn.node) (turn.kid ∷ []))
  turn_fits = subst (HasSort (sort (tree now made))) (sym kid_is) (sym p.same)

  pub turn_put : (next : List Tree) (id : Id) → StandsFor next id (put_at (tree now turn.node) (turn.kid ∷ []) (tree now made))
      → PutSoFar old next (turn ∷ rest) found new id
  turn_put next id stands =
      let first : put_at (tree now turn.node) (turn.kid ∷ []) (tree now made) ≡ put_at (tree old turn.node) (turn.kid ∷ []) (tree now made) =
      ap (λ t. put_at t (turn.kid ∷ []) (tree now made)) (keeps.same turn.node are.0) in
      record {
        known = stands.known;
        made_is =
            stands.tree_is ∙ first ∙ ap (put_at (tree old turn.node) (turn.kid ∷ [])) p.made_is
            ∙ sym (put_join (tree old turn.node) (turn.kid ∷ []) (kids_of rest) (tree old (start rest found)) (tree old new) are.1);
        same =
            ap sort (stands.tree_is ∙ first)
            ∙ put_sort (tree old (start rest found)) (tree now made) p.same (tree old turn.node) (turn.kid ∷ []) are.1;
      }

-- all is put
pub put_whole : (old now : List Tree) (way : Way) (new made : Id) → IsSpine old way → sort (tree old new) ≡ sort (tree old way.found)
    → PutSoFar old now way.turns way.found new made → IsPut old now (top way) (path_of way) new made
put_whole old now way new made are same p = record {
  same_sort = subst (HasSort (sort (tree old new))) (sym (found_stands old way.turns way.found are)) (sym same);
  stands = record { known = p.known; tree_is = p.made_is };
}

pub other_sort : (trees : List Tree) (way : Way) (new : Id) → IsSpine trees way → sort (tree trees new) ≢ sort (tree trees way.found)
    → HasOtherSort (sort (tree trees new)) (subtree (tree trees (top way)) (path_of way))
other_sort trees way new are other =
    subst (HasOtherSort (sort (tree trees new))) (sym (found_stands trees way.turns way.found are)) (λ e. other (sym e))

-- ---- the smallest formula

-- this node of the way, below which there is no formula
pub record NoneSoFar (trees : List Tree) (way : Way) (outer : ℕ) (formula : Id) : Type 0 where
  pub within : outer ≤ length way.turns
  pub at : formula ≡ start (drop outer way.turns) way.found
  pub none : NoneBelow (tree trees formula) (kids_of (drop outer way.turns))

pub none_yet : (trees : List Tree) (way : Way) → NoneSoFar trees way (length way.turns) way.found
none_yet trees way =
    let end : drop (length way.turns) way.turns ≡ [] = drop_all (length way.turns) way.turns (omega arith) in record {
      within = omega arith;
      at = ap (λ turns. start turns way.found) (sym end);
      none = subst (λ turns. NoneBelow (tree trees way.found) (kids_of turns)) (sym end) (none_at_end (tree trees way.found));
    }

pub none_known : (trees : List Tree) (way : Way) (n : ℕ) (formula : Id) → IsSpine trees way → NoneSoFar trees way n formula → IsId trees formula
none_known trees way n formula are p =
    subst (IsId trees) (sym p.at) (start_known trees (drop n way.turns) way.found (later_turns trees n way.turns way.found are))

pub none_before : (trees : List Tree) (way : Way) (n m : ℕ) (formula : Id) (turn : Turn) → IsSpine trees way → NoneSoFar trees way n formula
    → sort (tree trees formula) ≢ Formula → m + 1 ≡ n → turn ≡ get_or way.turns m turn → NoneSoFar trees way m turn.node
none_before trees way n m formula turn are p other one is =
    let next = next_turn way n m turn p.within one is in
    let stands = (later_next trees way n m turn are p.within one is).1 in
    let here : subtree (tree trees turn.node) (turn.kid ∷ []) ≡ Some (tree trees formula) = stands ∙ ap (λ id. Some (tree trees id)) (sym p.at) in
    record {
      within = omega (arith, p.within, one);
      at = ap (λ turns. start turns way.found) (sym next);
      none = subst (λ turns. NoneBelow (tree trees turn.node) (kids_of turns)) (sym next)
          (none_further (tree trees turn.node) (tree trees formula) turn.kid (kids_of (drop n way.turns)) here other p.none);
    }

pub innermost_found : (trees : List Tree) (way : Way) (outer : ℕ) (formula : Id) → IsSpine trees way → NoneSoFar trees way outer formula
    → sort (tree trees formula) ≡ Formula → IsInnermostOf trees way (record { outer = outer; formula = formula })
innermost_found trees way outer formula are p is = record {
  known = none_known trees way outer formula are p;
  within = p.within;
  innermost = record {
    parts = sym (take-append-drop outer (path_of way));
    stands = later_stands trees outer way.turns way.found are p.within ∙ ap (λ id. Some (tree trees id)) (sym p.at);
    is_formula = is;
    smallest = subst (NoneBelow (tree trees formula)) (sym (drop-map (λ (turn : Turn). turn.kid) outer way.turns)) p.none;
  };
}
