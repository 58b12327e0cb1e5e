-- Examples of matching: what an axiom's key is to be, with which names and replacements.
use Rattle.std.proofs.Common.{◌≡◌, refl, sym, ap, ◌∙◌, subst, ℕ, List, [], ◌∷◌, true, false, None, arith}
use Rattle.std.specs.Prelude.{IsTrue, codes}
use Rattle.std.specs.Str.{bytes_eq}
use Rattle.std.proofs.lemmas.Option.{same_Some}
use Rattle.std.proofs.lemmas.List.Elements.{All-cons, All-nil}
use Rattle.dlk_tree.specs.declared.op.Sym.{Sym}
use Rattle.dlk_tree.specs.declared.op.Kind.TheVariants.{Func, Pred, UnitFunc, UnitPred, Ode}
use Rattle.dlk_tree.specs.declared.op.Op.TheVariants as Op'
use Rattle.dlk_tree.specs.Statics.{plain}
use Rattle.dlk_tree.specs.Trees.{Tree, no_kids, kid}
use Rattle.dlk_calculus.specs.Notation.{leaf, number, add, eq, ge, box, assign, system, evolve, c_item, x_, y_, x, y, f, q, f0, p_of}
use Rattle.dlk_calculus.specs.Pairs.{Pair, Extra}
use Rattle.dlk_match.specs.Matching.{Matches, MatchesAll, of_nothing, of_variable, equation_first, AreGiven, AreApart, is_own, Match}
use Rattle.dlk_match.specs.Found.{HasNoMatch}
use Rattle.dlk_match.specs.Tried.{name_in}
use Rattle.dlk_match.proofs.OneMatch.{one_matches, one_node}
use Rattle.dlk_match.proofs.FoundMatch.{not_apart}

abbrev variable : List ℕ → Tree
variable name = leaf (Op'.Variable (plain name))

abbrev of_symbol : Sym → Tree → Pair
of_symbol s e = record { sym = s; by = e }

abbrev the_f : Sym
the_f = record { kind = Func; name = codes "f"; arity = 0; taboo = None }

abbrev the_p : Sym
the_p = record { kind = Pred; name = codes "p"; arity = 1; taboo = None }

abbrev nothing : Extra
nothing = record { renames = []; pairs = [] }

abbrev x_to_x : Extra
x_to_x = record { renames = (x_, codes "x") ∷ []; pairs = [] }

-- the names that one of the own names gets alone
given_none : AreGiven (x_ ∷ []) []
given_none = record { own_ones = All-nil (λ (r : List ℕ × List ℕ). IsTrue (is_own (x_ ∷ []) r.0)); once = refl }

false_true : false ≡ true → ⊥
false_true h = cc

x_to_x_apart : AreApart (x_ ∷ []) ((x_, codes "x") ∷ [])
x_to_x_apart = record {
  unlike = refl;
  not_onto_own =
      All-cons (λ (r : List ℕ × List ℕ). IsTrue (is_own (x_ ∷ []) r.1) → r.1 ≡ r.0) (x_, codes "x") [] (λ is. absurd (false_true is))
      (All-nil (λ (r : List ℕ × List ℕ). IsTrue (is_own (x_ ∷ []) r.1) → r.1 ≡ r.0));
}

-- ---- an assignment

-- [x_:=f();]p(x_), the left side of assignb
abbrev assignment : Tree
assignment = box (assign x_ f0) (p_of x)

-- x+1
abbrev one_more : Tree
one_more = add (variable (codes "x")) (number 1)

-- [x:=x+1;]x>=1
abbrev growing : Tree
growing = box (assign (codes "x") one_more) (ge (variable (codes "x")) (number 1))

-- ._0>=1
abbrev at_least_one : Tree
at_least_one = ge (leaf (Op'.Dot 0)) (number 1)

abbrev f_replaced : Extra
f_replaced = record { renames = (x_, codes "x") ∷ []; pairs = of_symbol the_f one_more ∷ [] }

-- x_ becomes x, f() is x+1, and p(._0) is ._0>=1
abbrev both_replaced : Extra
both_replaced = record { renames = (x_, codes "x") ∷ []; pairs = of_symbol the_f one_more ∷ of_symbol the_p at_least_one ∷ [] }

assigned : Match assignment (x_ ∷ []) growing nothing both_replaced
assigned = record {
  found = both_replaced;
  matches = (
    _,
    refl,
    (
      f_replaced,
      (codes "x", x_to_x, refl, (_, refl, (f_replaced, of_nothing refl (refl, refl), refl))),
      (both_replaced, of_variable (record { v = plain x_; kids_are = refl; y = codes "x"; name_is = refl; replaced = (refl, refl) }), refl),
    ),
  );
  given_well = given_none;
  apart = x_to_x_apart;
  extra_is = refl;
}

-- ---- names

abbrev equal_matches : (t u : Tree) (old mid new : Extra) (e h : Tree) → Matches t e old mid → Matches u h mid new → Matches (eq t u) (eq e h) old new
equal_matches t u old mid new e h p q = (_, refl, (mid, p, (new, q, refl)))

-- x_=x_ isn't x=y
two_names_for_one : HasNoMatch (eq x x) (x_ ∷ []) (eq (variable (codes "x")) (variable (codes "y"))) nothing
two_names_for_one extra p =
    let both : p.matches.0 ≡ kid (variable (codes "x")) (kid (variable (codes "y")) no_kids) = (one_node p.matches.1 refl).1 in
    let kids = subst (λ es. MatchesAll (kid x (kid x no_kids)) es nothing p.found) both p.matches.2 in
    let first = one_matches x (variable (codes "x")) nothing kids.0 x_to_x kids.1 (codes "x", x_to_x, refl, (_, refl, refl)) in
    let second = subst (λ (mid : Extra). MatchesAll (kid x no_kids) (kid (variable (codes "y")) no_kids) mid p.found) first kids.2 in
    unlike second.1.0 second.1.2.0 (named (one_node refl second.1.3.1).0)
  where
    named : {name : List ℕ} → Op'.Variable (plain (codes "y")) ≡ Op'.Variable (plain name) → codes "y" ≡ name
    named {name} e = same_Some (codes "y") name (ap name_in e)

    unlike : (name : List ℕ) → codes "x" ≡ name → codes "y" ≡ name → ⊥
    unlike name a b = false_true (ap (bytes_eq (codes "y")) (a ∙ sym b))

-- x_=y_ isn't x=x: two names would become one
one_name_for_two : HasNoMatch (eq x y) (x_ ∷ y_ ∷ []) (eq (variable (codes "x")) (variable (codes "x"))) nothing
one_name_for_two =
    let both : Extra = record { renames = (x_, codes "x") ∷ (y_, codes "x") ∷ []; pairs = [] } in
    not_apart (eq x y) (x_ ∷ y_ ∷ []) (eq (variable (codes "x")) (variable (codes "x"))) nothing both
    (equal_matches x y nothing x_to_x both (variable (codes "x")) (variable (codes "x")) (codes "x", x_to_x, refl, (_, refl, refl))
    (codes "x", both, refl, (_, refl, refl)))
    (λ apart. false_true apart.unlike)

-- x_=1 isn't y_=1 where y_ is an own name, too
onto_another_own : HasNoMatch (eq x (number 1)) (x_ ∷ y_ ∷ []) (eq y (number 1)) nothing
onto_another_own =
    let found : Extra = record { renames = (x_, y_) ∷ []; pairs = [] } in
    not_apart (eq x (number 1)) (x_ ∷ y_ ∷ []) (eq y (number 1)) nothing found
    (equal_matches x (number 1) nothing found found y (number 1) (y_, found, refl, (_, refl, refl)) (_, refl, refl))
    (λ apart. unlike (apart.not_onto_own 0 (x_, x_) (omega arith) refl))
  where
    unlike : y_ ≡ x_ → ⊥
    unlike e = false_true (sym (ap (bytes_eq y_) e))

-- a name is given that isn't the axiom's
foreign : (key e : Tree) (y : List ℕ) (pairs : List Pair) → HasNoMatch key (x_ ∷ []) e (record { renames = (y_, y) ∷ []; pairs = pairs })
foreign key e y pairs extra p = false_true (p.given_well.own_ones 0 (x_, x_) (omega arith))

-- ---- a system

abbrev the_c : Sym
the_c = record { kind = Ode; name = codes "c"; arity = 0; taboo = None }

abbrev any_f : Sym
any_f = record { kind = UnitFunc; name = codes "f"; arity = 0; taboo = None }

abbrev any_q : Sym
any_q = record { kind = UnitPred; name = codes "q"; arity = 0; taboo = None }

abbrev true_one : Tree
true_one = leaf Op'.True

-- {y'=2}
abbrev other_one : Tree
other_one = system (evolve (codes "y") ∷ []) (number 2 ∷ []) true_one

abbrev c_replaced : Extra
c_replaced = record { renames = (x_, codes "x") ∷ []; pairs = of_symbol the_c other_one ∷ [] }

abbrev c_and_f_replaced : Extra
c_and_f_replaced = record { renames = (x_, codes "x") ∷ []; pairs = of_symbol the_c other_one ∷ of_symbol any_f (number 1) ∷ [] }

abbrev all_replaced : Extra
all_replaced = record {
  renames = (x_, codes "x") ∷ [];
  pairs = of_symbol the_c other_one ∷ of_symbol any_f (number 1) ∷ of_symbol any_q (ge (variable (codes "y")) (number 0)) ∷ [];
}

-- {x_'=f(||),c&q(||)} is {x'=1,y'=2&y>=0}: c is {y'=2}
systems : Match (system (evolve x_ ∷ c_item ∷ []) (f ∷ []) q) (x_ ∷ [])
    (system (evolve (codes "x") ∷ evolve (codes "y") ∷ []) (number 1 ∷ number 2 ∷ []) (ge (variable (codes "y")) (number 0))) nothing all_replaced
systems = record {
  found = all_replaced;
  matches = record {
    target_items = evolve (codes "x") ∷ evolve (codes "y") ∷ [];
    target_kids = kid (number 1) (kid (number 2) (kid (ge (variable (codes "y")) (number 0)) no_kids));
    target_is = refl;
    mid = c_replaced;
    sides = number 1 ∷ [];
    taken = equation_first x_to_x refl (refl, refl);
    kids = (c_and_f_replaced, (refl, refl), (all_replaced, (refl, refl), refl));
  };
  given_well = given_none;
  apart = x_to_x_apart;
  extra_is = refl;
}
