-- Matching keeps the names and the replacements that are there, and gives names to an axiom's own names alone.
use Rattle.std.proofs.Common.{◌≡◌, refl, sym, ap, subst, ◌∙◌, ℕ, List, [], ◌∷◌, ◌++◌, Bool, true, false, cond, not, ◌||◌, ◌&&◌, Option, Some, None}
use Rattle.std.specs.Prelude.{IsTrue}
use Rattle.std.specs.List.{list_any}
use Rattle.std.specs.Str.{bytes_eq}
use Rattle.std.proofs.lemmas.Bool.{or_parts, or_from, and_parts}
use Rattle.std.proofs.lemmas.Option.{none-some}
use Rattle.std.proofs.lemmas.Slice.Eq.{bytes_eq-Decides}
use Rattle.std.proofs.lemmas.List.{map-append}
use Rattle.std.proofs.lemmas.List.Folds.{list_any-append}
use Rattle.std.proofs.lemmas.List.Elements.{All-push}
use Rattle.dlk_tree.specs.declared.op.Sym.{Sym}
use Rattle.dlk_tree.specs.declared.op.OdeItem.{OdeItem}
use Rattle.dlk_tree.specs.declared.op.Op.{Op}
use Rattle.dlk_tree.specs.declared.op.Op.TheVariants as Op'
use Rattle.dlk_tree.specs.Tests.{sym_eq}
use Rattle.dlk_tree.specs.Table.{all_distinct}
use Rattle.dlk_tree.specs.Trees.{Tree, node, Forest, no_kids, kid}
use Rattle.dlk_tree.specs.Occurs.{any_has}
use Rattle.dlk_tree.specs.Named.{any_item_name}
use Rattle.dlk_calculus.specs.Pairs.{Pair, Extra, replacement}
use Rattle.dlk_calculus.specs.Subst.{Member}
use Rattle.dlk_match.specs.Matching.{is_own, renamed_to, NameIs, GetsName, ReplacementIs, GetsReplacement, Over, Application, of_nothing, of_variable}
use Rattle.dlk_match.specs.Matching.{TakeMembers, constant, equation, equation_first, equation_last, two_constants, system_of}
use Rattle.dlk_match.specs.Abstract.{abstracted}
use Rattle.dlk_match.specs.Matching.{MatchesAt, Matches, MatchesAll, old_names, AreGiven}
use Rattle.dlk_match.specs.Instances.{has_other_name, HasOwnNames}
use Rattle.dlk_match.proofs.Turns.{Names}
use Rattle.dlk_match.proofs.AtOnce.{not_not}
use Rattle.dlk_tree.proofs.Same.{sym_eq_decides}

-- what is there stays, and names are given to the own ones alone
pub record Grows (own : List (List ℕ)) (old new : Extra) : Type 0 where
  pub names : (x y : List ℕ) → renamed_to old.renames x ≡ Some y → renamed_to new.renames x ≡ Some y
  pub replacements : (s : Sym) (r : Tree) → replacement old.pairs s ≡ Some r → replacement new.pairs s ≡ Some r
  pub given : AreGiven own old.renames → AreGiven own new.renames

pub grows_same : (own : List (List ℕ)) (old new : Extra) → new ≡ old → Grows own old new
grows_same own old new e =
    subst (Grows own old) (sym e) (record { names = λ x y h. h; replacements = λ s r h. h; given = λ h. h })

pub grows_on : {own : List (List ℕ)} {old mid new : Extra} → Grows own old mid → Grows own mid new → Grows own old new
grows_on a b = record {
  names = λ x y h. b.names x y (a.names x y h);
  replacements = λ s r h. b.replacements s r (a.replacements s r h);
  given = λ h. b.given (a.given h);
}

-- ---- names

named_still : (renames more : Names) (x y : List ℕ) → renamed_to renames x ≡ Some y → renamed_to (renames ++ more) x ≡ Some y
named_still [] more x y e = absurd (none-some y e)
named_still (r ∷ renames) more x y e = go (λ h. named_still renames more x y h) (bytes_eq x r.0) e
  where
    go : (renamed_to renames x ≡ Some y → renamed_to (renames ++ more) x ≡ Some y) → (b : Bool) → cond b (Some r.1) (renamed_to renames x) ≡ Some y →
        cond b (Some r.1) (renamed_to (renames ++ more) x) ≡ Some y
    go rest true h = h
    go rest false h = rest h

-- a name that has none yet is no old one, and gets the last one
unnamed : (r : List ℕ × List ℕ) (renames : Names) (x : List ℕ) → renamed_to (r ∷ renames) x ≡ None → (bytes_eq x r.0 ≡ false) × (renamed_to renames x ≡ None)
unnamed r renames x e = go (bytes_eq x r.0) e
  where
    go : (b : Bool) → cond b (Some r.1) (renamed_to renames x) ≡ None → (b ≡ false) × (renamed_to renames x ≡ None)
    go true h = cc
    go false h = (refl, h)

named_last : (renames : Names) (x y : List ℕ) → renamed_to renames x ≡ None → renamed_to (renames ++ (x, y) ∷ []) x ≡ Some y
named_last [] x y e = ap (λ b. cond b (Some y) None) ((bytes_eq-Decides x x).1 refl)
named_last (r ∷ renames) x y e =
    let h = unnamed r renames x e in
    ap (λ b. cond b (Some r.1) (renamed_to (renames ++ (x, y) ∷ []) x)) h.0 ∙ named_last renames x y h.1

no_old_name : (renames : Names) (x : List ℕ) → renamed_to renames x ≡ None → list_any (bytes_eq x) (old_names renames) ≡ false
no_old_name [] x e = refl
no_old_name (r ∷ renames) x e = let h = unnamed r renames x e in or_from _ _ h.0 (no_old_name renames x h.1)

other_way : (x y : List ℕ) → bytes_eq x y ≡ false → bytes_eq y x ≡ false
other_way x y e = go (bytes_eq y x) refl
  where
    go : (b : Bool) → bytes_eq y x ≡ b → bytes_eq y x ≡ false
    go true h = let same = (bytes_eq-Decides x y).1 (sym ((bytes_eq-Decides y x).0 h)) in cc
    go false h = h

not_or : (a b : Bool) → IsTrue (not a) → b ≡ false → IsTrue (not (a || b))
not_or true b h e = cc
not_or false true h e = cc
not_or false false h e = refl

pub and_from : (a b : Bool) → a ≡ true → b ≡ true → a && b ≡ true
and_from true b p q = q
and_from false b p q = cc

distinct_push : (xs : List (List ℕ)) (x : List ℕ) → IsTrue (all_distinct xs) → list_any (bytes_eq x) xs ≡ false → IsTrue (all_distinct (xs ++ x ∷ []))
distinct_push [] x h e = refl
distinct_push (w ∷ xs) x h e =
    let parts = and_parts _ _ h in
    let unlike = or_parts _ _ e in
    let last = or_from _ _ (other_way x w unlike.0) refl in
    let none = subst (λ b. IsTrue (not b)) (sym (list_any-append (bytes_eq w) xs (x ∷ []))) (not_or _ _ parts.0 last) in
    and_from _ _ none (distinct_push xs x parts.1 unlike.1)

given_push : (own : List (List ℕ)) (renames : Names) (x y : List ℕ) → IsTrue (is_own own x) → renamed_to renames x ≡ None → AreGiven own renames →
    AreGiven own (renames ++ (x, y) ∷ [])
given_push own renames x y is none given = record {
  own_ones = All-push (λ (r : List ℕ × List ℕ). IsTrue (is_own own r.0)) renames (x, y) given.own_ones is;
  once = subst (λ xs. IsTrue (all_distinct xs)) (sym (map-append (λ (r : List ℕ × List ℕ). r.0) renames ((x, y) ∷ [])))
      (distinct_push (old_names renames) x given.once (no_old_name renames x none));
}

-- an own name that gets one has it afterwards
pub gets_name : (own : List (List ℕ)) (x y : List ℕ) (old new : Extra) → IsTrue (is_own own x) → GetsName x y old new →
    Grows own old new × (renamed_to new.renames x ≡ Some y)
gets_name own x y old new is h = go (renamed_to old.renames x) refl h
  where
    go : (o : Option (List ℕ)) → renamed_to old.renames x ≡ o → NameIs o x y old new → Grows own old new × (renamed_to new.renames x ≡ Some y)
    go (Some z) e g = (grows_same own old new g.1, ap (λ n. renamed_to n.renames x) g.1 ∙ e ∙ ap Some g.0)
    go None e g =
        let more : Extra = record { renames = old.renames ++ (x, y) ∷ []; pairs = old.pairs } in
        subst (λ n. Grows own old n × (renamed_to n.renames x ≡ Some y)) (sym g) (
          record { names = λ z w k. named_still old.renames ((x, y) ∷ []) z w k; replacements = λ s r k. k; given = given_push own old.renames x y is e },
          named_last old.renames x y e,
        )

-- ---- replacements

replaced_still : (pairs more : List Pair) (s : Sym) (r : Tree) → replacement pairs s ≡ Some r → replacement (pairs ++ more) s ≡ Some r
replaced_still [] more s r e = absurd (none-some r e)
replaced_still (p ∷ pairs) more s r e = go (λ h. replaced_still pairs more s r h) (sym_eq s p.sym) e
  where
    go : (replacement pairs s ≡ Some r → replacement (pairs ++ more) s ≡ Some r) → (b : Bool) → cond b (Some p.by) (replacement pairs s) ≡ Some r →
        cond b (Some p.by) (replacement (pairs ++ more) s) ≡ Some r
    go rest true h = h
    go rest false h = rest h

replaced_last : (pairs : List Pair) (s : Sym) (r : Tree) → replacement pairs s ≡ None → replacement (pairs ++ record { sym = s; by = r } ∷ []) s ≡ Some r
replaced_last [] s r e = ap (λ b. cond b (Some r) None) ((sym_eq_decides s s).1 refl)
replaced_last (p ∷ pairs) s r e = go (λ h. replaced_last pairs s r h) (sym_eq s p.sym) e
  where
    more : List Pair
    more = record { sym = s; by = r } ∷ []

    go : (replacement pairs s ≡ None → replacement (pairs ++ more) s ≡ Some r) → (b : Bool) → cond b (Some p.by) (replacement pairs s) ≡ None →
        cond b (Some p.by) (replacement (pairs ++ more) s) ≡ Some r
    go rest true h = cc
    go rest false h = rest h

-- a symbol that gets a replacement has it afterwards
pub gets_replacement : (own : List (List ℕ)) (s : Sym) (e : Tree) (old new : Extra) → GetsReplacement s e old new →
    Grows own old new × (replacement new.pairs s ≡ Some e)
gets_replacement own s e old new h = go (replacement old.pairs s) refl h.1
  where
    go : (o : Option Tree) → replacement old.pairs s ≡ o → ReplacementIs o s e old new → Grows own old new × (replacement new.pairs s ≡ Some e)
    go (Some r) k g = (grows_same own old new g.1, ap (λ n. replacement n.pairs s) g.1 ∙ k ∙ ap Some g.0)
    go None k g =
        subst (λ n. Grows own old n × (replacement n.pairs s ≡ Some e)) (sym g) (
          record { names = λ z w j. j; replacements = λ t r j. replaced_still old.pairs (record { sym = s; by = e } ∷ []) t r j; given = λ j. j },
          replaced_last old.pairs s e k,
        )

-- ---- matching

module _ (own : List (List ℕ)) where
  application_grows : (s : Sym) (kids : Forest) (e : Tree) (old new : Extra) → Application s kids e old new → Grows own old new
  application_grows s kids e old new (of_nothing k g) = (gets_replacement own s e old new g).0
  application_grows s kids e old new (of_variable a) =
      (gets_replacement own s (abstracted (record { name = a.y; primed = a.v.primed }) e) old new a.replaced).0

  take_grows : {items : List OdeItem} {ms : List Member} {old new : Extra} {sides : List Tree} → TakeMembers items ms old new sides →
      list_any (any_item_name (λ x. not (is_own own x))) items ≡ false → Grows own old new
  take_grows (constant {s = s} {ms = ms} {old = old} {new = new} g) is = (gets_replacement own s (system_of ms) old new g).0
  take_grows (equation {x = x} {y = y} {old = old} {new = new} g) is = (gets_name own x y old new (not_not _ (or_parts _ _ is).0) g).0
  take_grows (equation_first {x = x} {y = y} {s = s} {m = m} {ms = ms} {old = old} {new = new} mid g h) is =
      grows_on (gets_name own x y old mid (not_not _ (or_parts _ _ is).0) g).0 (gets_replacement own s (system_of (m ∷ ms)) mid new h).0
  take_grows (equation_last {s = s} {x = x} {old = old} {new = new} y m ms mid e g h) is =
      grows_on (gets_replacement own s (system_of (m ∷ ms)) old mid g).0
      (gets_name own x y mid new (not_not _ (or_parts _ _ (or_parts _ _ is).1).0) h).0
  take_grows (two_constants {s = s} {t = t} {m = m} {n = n} {ms = ms} {old = old} {new = new} mid g h) is =
      grows_on (gets_replacement own s (system_of (m ∷ [])) old mid g).0 (gets_replacement own t (system_of (n ∷ ms)) mid new h).0

  module _ (e : Tree) (Kids : Forest → Extra → Extra → Type 0) (old new : Extra)
      (rest : (es : Forest) (mid : Extra) → Kids es mid new → Grows own mid new) where
    named_grows : (make : List ℕ → Op) (x : List ℕ) → not (is_own own x) ≡ false →
        (y : List ℕ) × (mid : Extra) × GetsName x y old mid × Over (make y) e Kids mid new → Grows own old new
    named_grows make x is m = grows_on (gets_name own x m.0 old m.1 (not_not _ is) m.2).0 (rest m.3.0 m.1 m.3.2)

    at_grows : (op : Op) (kids : Forest) → has_other_name own op ≡ false → MatchesAt op kids e Kids old new → Grows own old new
    at_grows (Op'.Variable v) kids is m = named_grows (λ y. Op'.Variable (record { name = y; primed = v.primed })) v.name is m
    at_grows (Op'.UnitFun s) kids is m = (gets_replacement own s e old new m).0
    at_grows (Op'.UnitPred s) kids is m = (gets_replacement own s e old new m).0
    at_grows (Op'.Const s) kids is m = (gets_replacement own s e old new m).0
    at_grows (Op'.Apply s) kids is m = application_grows s kids e old new m
    at_grows (Op'.Holds s) kids is m = application_grows s kids e old new m
    at_grows (Op'.Predicational s) kids is m = absurd m
    at_grows (Op'.Forall x) kids is m = named_grows Op'.Forall x is m
    at_grows (Op'.Exists x) kids is m = named_grows Op'.Exists x is m
    at_grows (Op'.Assign v) kids is m = named_grows (λ y. Op'.Assign (record { name = y; primed = v.primed })) v.name is m
    at_grows (Op'.Any x) kids is m = named_grows Op'.Any x is m
    at_grows (Op'.System items) kids is m = grows_on (take_grows m.taken is) (rest _ m.mid m.kids)
    at_grows _ kids is m = rest m.0 old m.2

  mutual
    pub grows : (key e : Tree) (old new : Extra) → HasOwnNames own key → Matches key e old new → Grows own old new
    grows (node op kids) e old new is m =
        let parts = or_parts _ _ is in
        at_grows e (MatchesAll kids) old new (λ es mid h. all_grow kids es mid new parts.1 h) op kids parts.0 m

    pub all_grow : (keys es : Forest) (old new : Extra) → any_has (has_other_name own) keys ≡ false → MatchesAll keys es old new → Grows own old new
    all_grow no_kids no_kids old new is m = grows_same own old new m
    all_grow no_kids (kid e es) old new is m = absurd m
    all_grow (kid key keys) no_kids old new is m = absurd m
    all_grow (kid key keys) (kid e es) old new is m =
        let parts = or_parts _ _ is in
        grows_on (grows key e old m.0 parts.0 m.1) (all_grow keys es m.0 new parts.1 m.2)
