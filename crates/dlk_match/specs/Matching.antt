-- Matching: names for an axiom's names and replacements for its symbols, with which its key is a given tree.
use Rattle.std.specs.Prelude.{◌≡◌, ℕ, List, [], ◌∷◌, ◌++◌, map, Bool, if◌then◌else◌, IsTrue, All, Option, Some, None, option_map}
use Rattle.std.specs.List.{list_any}
use Rattle.std.specs.Str.{bytes_eq}
use Rattle.dlk_tree.specs.declared.op.Var.{Var}
use Rattle.dlk_tree.specs.declared.op.Sym.{Sym}
use Rattle.dlk_tree.specs.declared.op.OdeItem.{OdeItem}
use Rattle.dlk_tree.specs.declared.op.OdeItem.TheVariants as Item
use Rattle.dlk_tree.specs.declared.op.Op.{Op}
use Rattle.dlk_tree.specs.declared.op.Op.TheVariants as Op'
use Rattle.dlk_tree.specs.Table.{kind_row, all_distinct}
use Rattle.dlk_tree.specs.Trees.{Tree, node, Forest, no_kids, kid, forest, sort}
use Rattle.dlk_calculus.specs.Kids.{last}
use Rattle.dlk_calculus.specs.Pairs.{Pair, Extra, replacement}
use Rattle.dlk_calculus.specs.Rename.{swap}
use Rattle.dlk_calculus.specs.Subst.{Member, Equation, members, items_of, kids_of}
use Rattle.dlk_match.specs.Abstract.{abstracted}

-- Names:

-- the name that this one gets, if it gets one
abbrev pub renamed_to : List (List ℕ × List ℕ) → List ℕ → Option (List ℕ)
renamed_to [] x = None
renamed_to (r ∷ renames) x = if bytes_eq x r.0 then Some r.1 else renamed_to renames x

-- x gets the name y: it has it already, or has none yet and it comes last
abbrev pub NameIs : Option (List ℕ) → List ℕ → List ℕ → Extra → Extra → Type 0
NameIs (Some z) x y old new = (z ≡ y) × (new ≡ old)
NameIs None x y old new = new ≡ record { renames = old.renames ++ (x, y) ∷ []; pairs = old.pairs }

abbrev pub GetsName : List ℕ → List ℕ → Extra → Extra → Type 0
GetsName x y old new = NameIs (renamed_to old.renames x) x y old new

-- Replacements:

-- e replaces the symbol: it does so already, or nothing does yet and the pair comes last
abbrev pub ReplacementIs : Option Tree → Sym → Tree → Extra → Extra → Type 0
ReplacementIs (Some r) s e old new = (r ≡ e) × (new ≡ old)
ReplacementIs None s e old new = new ≡ record { renames = old.renames; pairs = old.pairs ++ record { sym = s; by = e } ∷ [] }

-- and it is of the symbol's sort
abbrev pub GetsReplacement : Sym → Tree → Extra → Extra → Type 0
GetsReplacement s e old new = (sort e ≡ (kind_row s.kind).sort) × ReplacementIs (replacement old.pairs s) s e old new

-- Over op e Kids old new: e is the operator over kids of this kind
abbrev pub Over : Op → Tree → (Forest → Extra → Extra → Type 0) → Extra → Extra → Type 0
Over op e Kids old new = (kids : Forest) × (e ≡ node op kids) × Kids kids old new

-- An application of a symbol to one variable: the symbol gets what abstracts the target by the name that the variable has already.
pub record IsAppliedTo (s : Sym) (kids : Forest) (e : Tree) (old new : Extra) : Type 0 where
  pub v : Var
  pub kids_are : kids ≡ kid (node (Op'.Variable v) no_kids) no_kids
  pub y : List ℕ
  pub name_is : renamed_to old.renames v.name ≡ Some y
  pub replaced : GetsReplacement s (abstracted (record { name = y; primed = v.primed }) e) old new

-- a symbol of no arguments gets the target, and one of one argument what abstracts it; no other application matches
pub data Application (s : Sym) (kids : Forest) (e : Tree) (old new : Extra) : Type 0 where
  of_nothing : kids ≡ no_kids → GetsReplacement s e old new → Application s kids e old new
  of_variable : IsAppliedTo s kids e old new → Application s kids e old new

-- the system of these members, with the domain `true`
abbrev pub system_of : List Member → Tree
system_of ms = node (Op'.System (items_of ms)) (kids_of ms (node Op'.True no_kids))

-- TakeMembers items ms old new sides: items of a key take all members of a system, and these right sides are left to match. One row for
-- each way in which an axiom writes a system.
pub data TakeMembers : List OdeItem → List Member → Extra → Extra → List Tree → Type 0 where
  -- c takes all
  constant : {s : Sym} {ms : List Member} {old new : Extra} →
      GetsReplacement s (system_of ms) old new → TakeMembers (Item.Const s ∷ []) ms old new []
  -- x'=e takes the only one
  equation : {x y : List ℕ} {e : Tree} {old new : Extra} →
      GetsName x y old new → TakeMembers (Item.Evolve x ∷ []) (Equation y e ∷ []) old new (e ∷ [])
  -- x'=e takes the first, and c the others, at least one
  equation_first : {x y : List ℕ} {e : Tree} {s : Sym} {m : Member} {ms : List Member} {old new : Extra} (mid : Extra) →
      GetsName x y old mid → GetsReplacement s (system_of (m ∷ ms)) mid new →
      TakeMembers (Item.Evolve x ∷ Item.Const s ∷ []) (Equation y e ∷ m ∷ ms) old new (e ∷ [])
  -- x'=e takes the last, and c the others, at least one
  equation_last : {s : Sym} {x : List ℕ} {e : Tree} {all : List Member} {old new : Extra} (y : List ℕ) (m : Member) (ms : List Member) (mid : Extra) →
      all ≡ (m ∷ ms) ++ Equation y e ∷ [] → GetsReplacement s (system_of (m ∷ ms)) old mid → GetsName x y mid new →
      TakeMembers (Item.Const s ∷ Item.Evolve x ∷ []) all old new (e ∷ [])
  -- the first of two constants takes the first, and the second the others, at least one
  two_constants : {s t : Sym} {m n : Member} {ms : List Member} {old new : Extra} (mid : Extra) →
      GetsReplacement s (system_of (m ∷ [])) old mid → GetsReplacement t (system_of (n ∷ ms)) mid new →
      TakeMembers (Item.Const s ∷ Item.Const t ∷ []) (m ∷ n ∷ ms) old new []

-- a system of the target, whose members the items take; the right sides that are left and the domain match the key's kids
pub record SystemMatches (items : List OdeItem) (e : Tree) (Kids : Forest → Extra → Extra → Type 0) (old new : Extra) : Type 0 where
  pub target_items : List OdeItem
  pub target_kids : Forest
  pub target_is : e ≡ node (Op'.System target_items) target_kids
  pub mid : Extra
  pub sides : List Tree
  pub taken : TakeMembers items (members target_items target_kids) old mid sides
  pub kids : Kids (forest (sides ++ last target_kids ∷ [])) mid new

-- How an operator of the key matches.
pub data Way : Type 0 where
  -- the same operator
  Like : Way
  -- its name gets a name, and the operator with that one
  Renames : List ℕ → (List ℕ → Op) → Way
  -- the symbol is replaced
  Replaces : Sym → Way
  -- and so is this one, by what abstracts the target by its argument
  Applies : Sym → Way
  -- the items take the members of a system
  Takes : List OdeItem → Way
  -- nothing matches
  Refuses : Way

-- the table of ways: an operator that isn't here matches its like
abbrev pub way : Op → Way
way (Op'.Variable v) = Renames v.name (λ y. Op'.Variable (record { name = y; primed = v.primed }))
way (Op'.Forall x) = Renames x Op'.Forall
way (Op'.Exists x) = Renames x Op'.Exists
way (Op'.Assign v) = Renames v.name (λ y. Op'.Assign (record { name = y; primed = v.primed }))
way (Op'.Any x) = Renames x Op'.Any
way (Op'.UnitFun s) = Replaces s
way (Op'.UnitPred s) = Replaces s
way (Op'.Const s) = Replaces s
way (Op'.Apply s) = Applies s
way (Op'.Holds s) = Applies s
way (Op'.System items) = Takes items
way (Op'.Predicational s) = Refuses
way op = Like

-- The operator of the key, which matches in this way, over kids that match kids of this kind, matches e.
abbrev pub MatchesBy : Way → Op → Forest → Tree → (Forest → Extra → Extra → Type 0) → Extra → Extra → Type 0
MatchesBy Like op kids e Kids old new = Over op e Kids old new
MatchesBy (Renames x called) op kids e Kids old new = (y : List ℕ) × (mid : Extra) × GetsName x y old mid × Over (called y) e Kids mid new
MatchesBy (Replaces s) op kids e Kids old new = GetsReplacement s e old new
MatchesBy (Applies s) op kids e Kids old new = Application s kids e old new
MatchesBy (Takes items) op kids e Kids old new = SystemMatches items e Kids old new
MatchesBy Refuses op kids e Kids old new = ⊥

-- the same, in its own way
abbrev pub MatchesAt : Op → Forest → Tree → (Forest → Extra → Extra → Type 0) → Extra → Extra → Type 0
MatchesAt op kids e Kids old new = MatchesBy (way op) op kids e Kids old new

abbrev mutual
  -- Matches key e old new: the key matches e, from the names and pairs of before to these
  pub Matches : Tree → Tree → Extra → Extra → Type 0
  Matches (node op kids) e old new = MatchesAt op kids e (MatchesAll kids) old new

  -- kids in order
  pub MatchesAll : Forest → Forest → Extra → Extra → Type 0
  MatchesAll no_kids no_kids old new = new ≡ old
  MatchesAll no_kids (kid e es) old new = ⊥
  MatchesAll (kid key keys) no_kids old new = ⊥
  MatchesAll (kid key keys) (kid e es) old new = (mid : Extra) × Matches key e old mid × MatchesAll keys es mid new

-- the names are among those of the axiom
abbrev pub is_own : List (List ℕ) → List ℕ → Bool
is_own own x = list_any (bytes_eq x) own

abbrev pub old_names : List (List ℕ × List ℕ) → List (List ℕ)
old_names renames = map (λ (r : List ℕ × List ℕ). r.0) renames

abbrev pub new_names : List (List ℕ × List ℕ) → List (List ℕ)
new_names renames = map (λ (r : List ℕ × List ℕ). r.1) renames

-- names that are given to an axiom: only its own names get one, and each at most one
pub record AreGiven (own : List (List ℕ)) (renames : List (List ℕ × List ℕ)) : Type 0 where
  pub own_ones : All (λ (r : List ℕ × List ℕ). IsTrue (is_own own r.0)) renames
  pub once : IsTrue (all_distinct (old_names renames))

-- no two names become one, and none becomes another of the axiom's own
pub record AreApart (own : List (List ℕ)) (renames : List (List ℕ × List ℕ)) : Type 0 where
  pub unlike : IsTrue (all_distinct (new_names renames))
  pub not_onto_own : All (λ (r : List ℕ × List ℕ). IsTrue (is_own own r.1) → r.1 ≡ r.0) renames

-- the new name of a taboo, or the same one where it gets none
abbrev pub renamed_taboo : List (List ℕ × List ℕ) → List ℕ → List ℕ
renamed_taboo renames y = name_or y (renamed_to renames y)
  where
    name_or : List ℕ → Option (List ℕ) → List ℕ
    name_or y None = y
    name_or y (Some z) = z

abbrev pub renamed_symbol : List (List ℕ × List ℕ) → Sym → Sym
renamed_symbol renames s = record { kind = s.kind; name = s.name; arity = s.arity; taboo = option_map (renamed_taboo renames) s.taboo }

-- pairs whose symbols have their taboos renamed
abbrev pub renamed_pairs : List (List ℕ × List ℕ) → List Pair → List Pair
renamed_pairs renames pairs = map (λ (p : Pair). record { sym = renamed_symbol renames p.sym; by = p.by }) pairs

-- Match key own e given extra: with these names and pairs, the given ones first, the key of an axiom with these own names is to be e.
pub record Match (key : Tree) (own : List (List ℕ)) (e : Tree) (given extra : Extra) : Type 0 where
  pub found : Extra
  pub matches : Matches key e given found
  pub given_well : AreGiven own given.renames
  pub apart : AreApart own found.renames
  pub extra_is : extra ≡ record { renames = found.renames; pairs = renamed_pairs found.renames found.pairs }

-- the tree with unlike names exchanged in turn
abbrev pub exchanged : List (List ℕ × List ℕ) → Tree → Tree
exchanged [] e = e
exchanged (r ∷ renames) e = exchanged renames (if bytes_eq r.0 r.1 then e else swap r.0 r.1 e)
