-- Matching a well-made target gives names that are names, and replacements that are well made, of symbols.
use Rattle.std.proofs.Common.{◌≡◌, ◌∙◌, refl, sym, ap, subst, ℕ, List, [], ◌∷◌, ◌++◌}
use Rattle.std.proofs.Common.{length, length-append, Bool, true, false, cond, Option, Some, None, All, arith}
use Rattle.std.specs.Prelude.{IsTrue}
use Rattle.std.specs.List.{list_all}
use Rattle.std.specs.Str.{bytes_eq}
use Rattle.std.proofs.lemmas.Bool.{and_parts}
use Rattle.std.proofs.lemmas.List.Elements.{All-push, All-map, All-head, All-tail, All-weaker}
use Rattle.dlk_tree.specs.declared.op.Var.{Var}
use Rattle.dlk_tree.specs.declared.op.Sym.{Sym}
use Rattle.dlk_tree.specs.declared.op.OdeItem.{OdeItem}
use Rattle.dlk_tree.specs.declared.op.Op.{Op}
use Rattle.dlk_tree.specs.declared.op.Op.TheVariants as Op'
use Rattle.dlk_tree.specs.Names.{is_name}
use Rattle.dlk_tree.specs.declared.op.Kind.TheVariants.{Ode}
use Rattle.dlk_tree.specs.Table.{is_item, is_sym, is_sym_of, has_parts}
use Rattle.dlk_tree.specs.Trees.{Tree, node, Forest, no_kids, kid, forest, WellMade, AllWellMade}
use Rattle.dlk_calculus.specs.Kids.{last}
use Rattle.dlk_calculus.specs.Pairs.{Pair, Extra, replacement, AreWellMade}
use Rattle.dlk_calculus.specs.Subst.{Member, Equation}
use Rattle.dlk_match.specs.Abstract.{abstracted}
use Rattle.dlk_match.specs.Matching.{renamed_to, NameIs, GetsName, ReplacementIs, GetsReplacement, Over, Application, of_nothing, of_variable, system_of}
use Rattle.dlk_match.specs.Matching.{TakeMembers, constant, equation, equation_first, equation_last, two_constants, SystemMatches}
use Rattle.dlk_match.specs.Matching.{MatchesAt, Matches, MatchesAll, Match, renamed_taboo, renamed_symbol}
use Rattle.dlk_match.specs.Instances.{AreNames}
use Rattle.dlk_match.proofs.Growing.{and_from}
use Rattle.dlk_match.proofs.Targets.{IsTarget, AreTargets, target_kids, target_first, target_rest}
use Rattle.dlk_match.proofs.SystemsBack.{left_targets}
use Rattle.dlk_match.proofs.AbstractMade.{abstracted_made}
use Rattle.dlk_match.proofs.SystemsMade.{AreMembers, HasMembers, parts_made, system_made, system_members}

-- what the pair replaces is a symbol
abbrev ReplacesSymbol : Pair → Type 0
ReplacesSymbol p = is_sym p.sym ≡ true

-- names stay names, well-made replacements so, and symbols symbols
record KeepsProper (old new : Extra) : Type 0 where
  names : AreNames old.renames → AreNames new.renames
  made : AreWellMade old.pairs → AreWellMade new.pairs
  symbols : All ReplacesSymbol old.pairs → All ReplacesSymbol new.pairs

proper_same : (old new : Extra) → new ≡ old → KeepsProper old new
proper_same old new e = subst (KeepsProper old) (sym e) (record { names = λ h. h; made = λ h. h; symbols = λ h. h })

proper_on : {old mid new : Extra} → KeepsProper old mid → KeepsProper mid new → KeepsProper old new
proper_on a b = record { names = λ h. b.names (a.names h); made = λ h. b.made (a.made h); symbols = λ h. b.symbols (a.symbols h) }

name_proper : (x y : List ℕ) (old new : Extra) → IsTrue (is_name x) → IsTrue (is_name y) → GetsName x y old new → KeepsProper old new
name_proper x y old new real_x real_y g = go (renamed_to old.renames x) g
  where
    go : (o : Option (List ℕ)) → NameIs o x y old new → KeepsProper old new
    go (Some z) h = proper_same old new h.1
    go None h =
        subst (KeepsProper old) (sym h)
        (record {
          names = λ all. All-push (λ (r : List ℕ × List ℕ). IsTrue (is_name r.0) × IsTrue (is_name r.1)) old.renames (x, y) all (real_x, real_y);
          made = λ all. all;
          symbols = λ all. all;
        })

replacement_proper : (s : Sym) (e : Tree) (old new : Extra) → is_sym s ≡ true → WellMade e → GetsReplacement s e old new → KeepsProper old new
replacement_proper s e old new real made g = go (replacement old.pairs s) g.1
  where
    go : (o : Option Tree) → ReplacementIs o s e old new → KeepsProper old new
    go (Some r) h = proper_same old new h.1
    go None h =
        subst (KeepsProper old) (sym h)
        (record {
          names = λ all. all;
          made = λ all. All-push (λ (p : Pair). WellMade p.by) old.pairs (record { sym = s; by = e }) all made;
          symbols = λ all. All-push ReplacesSymbol old.pairs (record { sym = s; by = e }) all real;
        })

application_proper : (s : Sym) (kids : Forest) (e : Tree) (old new : Extra) → is_sym s ≡ true → WellMade e → Application s kids e old new →
    KeepsProper old new
application_proper s kids e old new real made (of_nothing k g) = replacement_proper s e old new real made g
application_proper s kids e old new real made (of_variable a) =
    let w : Var = record { name = a.y; primed = a.v.primed } in
    replacement_proper s (abstracted w e) old new real (abstracted_made w e made) a.replaced

first_of : (m : Member) (ms : List Member) → AreMembers (m ∷ ms) → AreMembers (m ∷ []) × AreMembers ms
first_of m ms h = parts_made (m ∷ []) ms h

is_symbol : (s : Sym) → IsTrue (is_sym_of Ode s) → is_sym s ≡ true
is_symbol s h = (and_parts _ _ h).1

take_proper : {items : List OdeItem} {ms : List Member} {old new : Extra} {sides : List Tree} → TakeMembers items ms old new sides →
    IsTrue (list_all is_item items) → HasMembers ms → KeepsProper old new
take_proper (constant {s = s} {ms = ms} {old = old} {new = new} g) real h =
    replacement_proper s (system_of ms) old new (is_symbol s (and_parts _ _ real).0) (system_made ms h.members_are h.some h.few) g
take_proper (equation {x = x} {y = y} {old = old} {new = new} g) real h =
    name_proper x y old new (and_parts _ _ real).0 h.members_are.0 g
take_proper (equation_first {x = x} {y = y} {e = e} {s = s} {m = m} {ms = ms} {old = old} {new = new} mid g k) real h =
    let rest = (first_of (Equation y e) (m ∷ ms) h.members_are).1 in
    let few = h.few in
    proper_on (name_proper x y old mid (and_parts _ _ real).0 h.members_are.0 g)
    (replacement_proper s (system_of (m ∷ ms)) mid new (is_symbol s (and_parts _ _ (and_parts _ _ real).1).0)
    (system_made (m ∷ ms) rest (omega arith) (omega (arith, few))) k)
take_proper (equation_last {s = s} {x = x} {e = e} {all = all} {old = old} {new = new} y m ms mid are g k) real h =
    let parts = parts_made (m ∷ ms) (Equation y e ∷ []) (subst AreMembers are h.members_are) in
    let few = h.few in
    let longer = ap length are ∙ length-append (m ∷ ms) (Equation y e ∷ []) in
    let of_rest = system_made (m ∷ ms) parts.0 (omega arith) (omega (arith, few, longer)) in
    proper_on (replacement_proper s (system_of (m ∷ ms)) old mid (is_symbol s (and_parts _ _ real).0) of_rest g)
    (name_proper x y mid new (and_parts _ _ (and_parts _ _ real).1).0 parts.1.0 k)
take_proper (two_constants {s = s} {t = t} {m = m} {n = n} {ms = ms} {old = old} {new = new} mid g k) real h =
    let parts = first_of m (n ∷ ms) h.members_are in
    let few = h.few in
    let reals = and_parts _ _ real in
    proper_on (replacement_proper s (system_of (m ∷ [])) old mid (is_symbol s reals.0) (system_made (m ∷ []) parts.0 (omega arith) (omega arith)) g)
    (replacement_proper t (system_of (n ∷ ms)) mid new (is_symbol t (and_parts _ _ reals.1).0)
    (system_made (n ∷ ms) parts.1 (omega arith) (omega (arith, few))) k)

module _ (e : Tree) (Kids : Forest → Extra → Extra → Type 0) (old new : Extra) (target : IsTarget e)
    (rest : (es : Forest) (mid : Extra) → Kids es mid new → AreTargets es → KeepsProper mid new) where
  over_proper : (op : Op) (mid : Extra) → Over op e Kids mid new → KeepsProper mid new
  over_proper op mid m = rest m.0 mid m.2 (target_kids op m.0 (subst IsTarget m.1 target))

  -- the target's operator has the parts that it must have
  parts_there : (op : Op) (mid : Extra) → Over op e Kids mid new → IsTrue (has_parts op)
  parts_there op mid m = (subst IsTarget m.1 target).0.0.parts_fit

  named_proper : (make : List ℕ → Op) (x : List ℕ) → IsTrue (is_name x) → ((y : List ℕ) → IsTrue (has_parts (make y)) → IsTrue (is_name y)) →
      (y : List ℕ) × (mid : Extra) × GetsName x y old mid × Over (make y) e Kids mid new → KeepsProper old new
  named_proper make x real real_too m =
      proper_on (name_proper x m.0 old m.1 real (real_too m.0 (parts_there (make m.0) m.1 m.3)) m.2) (over_proper (make m.0) m.1 m.3)

  system_proper : (items : List OdeItem) → IsTrue (list_all is_item items) → SystemMatches items e Kids old new → KeepsProper old new
  system_proper items real m =
      let whole = subst IsTarget m.target_is target in
      let left = left_targets m.target_items m.target_kids (target_kids (Op'.System m.target_items) m.target_kids whole) m.taken in
      proper_on (take_proper m.taken real (system_members m.target_items m.target_kids whole.0))
      (rest (forest (m.sides ++ last m.target_kids ∷ [])) m.mid m.kids left)

  at_proper : (op : Op) (kids : Forest) → IsTrue (has_parts op) → MatchesAt op kids e Kids old new → KeepsProper old new
  at_proper (Op'.Variable v) kids h m = named_proper (λ y. Op'.Variable (record { name = y; primed = v.primed })) v.name h (λ y p. p) m
  at_proper (Op'.UnitFun s) kids h m = replacement_proper s e old new (and_parts _ _ h).1 target.0 m
  at_proper (Op'.UnitPred s) kids h m = replacement_proper s e old new (and_parts _ _ h).1 target.0 m
  at_proper (Op'.Const s) kids h m = replacement_proper s e old new (and_parts _ _ h).1 target.0 m
  at_proper (Op'.Apply s) kids h m = application_proper s kids e old new (and_parts _ _ h).1 target.0 m
  at_proper (Op'.Holds s) kids h m = application_proper s kids e old new (and_parts _ _ h).1 target.0 m
  at_proper (Op'.Predicational s) kids h m = absurd m
  at_proper (Op'.Forall x) kids h m = named_proper Op'.Forall x h (λ y p. p) m
  at_proper (Op'.Exists x) kids h m = named_proper Op'.Exists x h (λ y p. p) m
  at_proper (Op'.Assign v) kids h m = named_proper (λ y. Op'.Assign (record { name = y; primed = v.primed })) v.name h (λ y p. p) m
  at_proper (Op'.Any x) kids h m = named_proper Op'.Any x h (λ y p. p) m
  at_proper (Op'.System items) kids h m = system_proper items (and_parts _ _ (and_parts _ _ h).0).1 m
  at_proper op kids h m = over_proper op old m

mutual
  proper : (key e : Tree) (old new : Extra) → WellMade key → IsTarget e → Matches key e old new → KeepsProper old new
  proper (node op kids) e old new made target m =
      at_proper e (MatchesAll kids) old new target (λ es mid h targets. all_proper kids es mid new made.1 targets h) op kids made.0.parts_fit m

  all_proper : (keys es : Forest) (old new : Extra) → AllWellMade keys → AreTargets es → MatchesAll keys es old new → KeepsProper old new
  all_proper no_kids no_kids old new made targets m = proper_same old new m
  all_proper no_kids (kid e es) old new made targets m = absurd m
  all_proper (kid key keys) no_kids old new made targets m = absurd m
  all_proper (kid key keys) (kid e es) old new made targets m =
      proper_on (proper key e old m.0 made.0 (target_first e es targets) m.1) (all_proper keys es m.0 new made.1 (target_rest e es targets) m.2)

pub match_names : (key : Tree) (own : List (List ℕ)) (e : Tree) (given extra : Extra) → WellMade key → IsTarget e → AreNames given.renames →
    Match key own e given extra → AreNames extra.renames
match_names key own e given extra made target names m =
    subst (λ (x : Extra). AreNames x.renames) (sym m.extra_is) ((proper key e given m.found made target m.matches).names names)

pub match_made : (key : Tree) (own : List (List ℕ)) (e : Tree) (given extra : Extra) → WellMade key → IsTarget e → AreWellMade given.pairs →
    Match key own e given extra → AreWellMade extra.pairs
match_made key own e given extra made target pairs m =
    subst (λ (x : Extra). AreWellMade x.pairs) (sym m.extra_is)
    (All-map (λ (p : Pair). WellMade p.by) (λ (p : Pair). record { sym = renamed_symbol m.found.renames p.sym; by = p.by }) m.found.pairs
    ((proper key e given m.found made target m.matches).made pairs))

abbrev IsRename : List ℕ × List ℕ → Type 0
IsRename r = IsTrue (is_name r.0) × IsTrue (is_name r.1)

abbrev IsNameIfAny : Option (List ℕ) → Type 0
IsNameIfAny None = Unit {0}
IsNameIfAny (Some z) = is_name z ≡ true

given_is_name : (renames : List (List ℕ × List ℕ)) (y : List ℕ) → AreNames renames → IsNameIfAny (renamed_to renames y)
given_is_name [] y names = tt
given_is_name (r ∷ renames) y names = go (given_is_name renames y (All-tail IsRename r renames names)) (bytes_eq y r.0)
  where
    go : IsNameIfAny (renamed_to renames y) → (b : Bool) → IsNameIfAny (cond b (Some r.1) (renamed_to renames y))
    go rest true = (All-head IsRename r renames names).1
    go rest false = rest

-- a symbol whose taboo is renamed to a name is one
renamed_is_name : (renames : List (List ℕ × List ℕ)) (y : List ℕ) → AreNames renames → is_name y ≡ true → is_name (renamed_taboo renames y) ≡ true
renamed_is_name renames y names real = go (renamed_to renames y) refl (given_is_name renames y names)
  where
    go : (o : Option (List ℕ)) → renamed_to renames y ≡ o → IsNameIfAny o → is_name (renamed_taboo renames y) ≡ true
    go None e h = rw e real
    go (Some z) e h = rw e h

renamed_is_symbol : (renames : List (List ℕ × List ℕ)) (s : Sym) → AreNames renames → is_sym s ≡ true → is_sym (renamed_symbol renames s) ≡ true
renamed_is_symbol renames s names real = go s.taboo real
  where
    with_taboo : Option (List ℕ) → Sym
    with_taboo o = record { kind = s.kind; name = s.name; arity = s.arity; taboo = o }

    go : (o : Option (List ℕ)) → is_sym (with_taboo o) ≡ true → is_sym (renamed_symbol renames (with_taboo o)) ≡ true
    go None h = h
    go (Some y) h =
        let parts = and_parts _ _ h in
        let more = and_parts _ _ parts.0 in
        and_from _ _ (and_from _ _ more.0 (renamed_is_name renames y names more.1)) parts.1

pub match_symbols : (key : Tree) (own : List (List ℕ)) (e : Tree) (given extra : Extra) → WellMade key → IsTarget e → AreNames given.renames →
    All ReplacesSymbol given.pairs → Match key own e given extra → All ReplacesSymbol extra.pairs
match_symbols key own e given extra made target names symbols m =
    let kept = proper key e given m.found made target m.matches in
    let renamed : Pair → Pair = λ p. record { sym = renamed_symbol m.found.renames p.sym; by = p.by } in
    subst (λ (x : Extra). All ReplacesSymbol x.pairs) (sym m.extra_is)
    (All-map ReplacesSymbol renamed m.found.pairs
    (All-weaker ReplacesSymbol (λ p. ReplacesSymbol (renamed p)) (λ p real. renamed_is_symbol m.found.renames p.sym (kept.names names) real)
    m.found.pairs (kept.symbols symbols)))
