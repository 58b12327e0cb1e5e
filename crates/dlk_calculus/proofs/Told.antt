-- Sets that tell apart no two variables beyond some; whether such a set has a member is decided.
use Rattle.std.proofs.Common.{◌≡◌, ◌∙◌, sym, refl, ℕ, suc, List, [], ◌∷◌, ◌++◌, Bool, true, false, ◌&&◌, ◌||◌, replicate, ap, ⊎_elim}
use Rattle.std.proofs.lemmas.Bool.{and_parts, and_from, or_parts, or_cases, or_left, or_right, cases_Bool, both_ways}
use Rattle.std.specs.Prelude.{IsTrue}
use Rattle.std.specs.Bool.{beq}
use Rattle.std.specs.List.{list_any}
use Rattle.std.specs.Str.{bytes_eq}
use Rattle.dlk_tree.specs.declared.op.Var.{Var}
use Rattle.dlk_tree.specs.declared.op.Op.{Op}
use Rattle.dlk_tree.specs.declared.op.Op.TheVariants as Op'
use Rattle.dlk_tree.specs.Names.{is_name}
use Rattle.dlk_tree.specs.Trees.{Tree, node, Forest, no_kids}
use Rattle.dlk_tree.specs.Statics.{free, bound, both, sets, plain, prime}
use Rattle.dlk_tree.specs.Listed.{IsInhabited, is_among}
use Rattle.dlk_tree.proofs.Same.{var_eq_decides}
use Rattle.dlk_tree.proofs.Fresh.{fresh, fresh_not_among, among_append}
use Rattle.dlk_tree.proofs.Elsewhere.{Alike, elsewhere}
use Rattle.dlk_tree.proofs.NameList.{names, names_listed}
use Rattle.dlk_tree.proofs.SomeVar.{letters}
use Rattle.dlk_calculus.specs.Kids.{first}
use Rattle.dlk_calculus.specs.Captures.{captures, AreApart}

-- all variables but these are in the set, or none is
pub record Told (set : Var → Bool) : Type 0 where
  vars : List Var
  alike : (v w : Var) → is_among vars v ≡ false → is_among vars w ≡ false → set v ≡ set w

-- ---- whether it has a member

letters_name : (n : ℕ) → IsTrue (is_name (replicate (suc n) 97))
letters_name n = ap (λ b. b && true && true) (letters n)

fresh_is_name : (vars : List Var) → IsTrue (is_name (fresh vars).name)
fresh_is_name vars = search letters_name

module _ (set : Var → Bool) where
  abbrev is_member : Var → Bool
  is_member v = is_name v.name && set v

  one_is : (vars : List Var) → IsTrue (list_any is_member vars) → IsInhabited set
  one_is [] h = cc
  one_is (v ∷ vars) h = ⊎_elim (λ p. let m = and_parts _ _ p in (v, m.0, m.1)) (one_is vars) (or_cases _ _ h)

  is_of_one : (v : Var) (vars : List Var) → IsTrue (is_member v) → is_among vars v ≡ true → IsTrue (list_any is_member vars)
  is_of_one v [] h e = e
  is_of_one v (w ∷ vars) h e =
      ⊎_elim (λ p. or_left _ _ (ap is_member (sym ((var_eq_decides v w).0 p)) ∙ h)) (λ p. or_right _ _ (is_of_one v vars h p)) (or_cases _ _ e)

  -- a member is among the variables that the set tells apart, or one that is not among them is a member too
  pub inhabited_decided : Told set → Dec (IsInhabited set)
  inhabited_decided told =
      ⊎_elim (λ e. yes (one_is (fresh told.vars ∷ told.vars) e)) (λ e. no (λ m. none (or_parts _ _ e) m))
      (cases_Bool (list_any is_member (fresh told.vars ∷ told.vars)))
    where
      none : (is_member (fresh told.vars) ≡ false) × (list_any is_member told.vars ≡ false) → IsInhabited set → ⊥
      none e m = ⊎_elim
          (λ h. both_ways _ e.1 (is_of_one m.0 told.vars (and_from _ _ m.1 m.2) h))
          (λ h. both_ways _ e.0 (and_from _ _ (fresh_is_name told.vars) (told.alike (fresh told.vars) m.0 (fresh_not_among told.vars) h ∙ m.2)))
          (cases_Bool (is_among told.vars m.0))

-- ---- the sets of trees

-- x and x' of each name
abbrev vars_of : List (List ℕ) → List Var
vars_of [] = []
vars_of (x ∷ xs) = plain x ∷ prime x ∷ vars_of xs

among_vars_of : (v : Var) (xs : List (List ℕ)) → is_among (vars_of xs) v ≡ list_any (bytes_eq v.name) xs
among_vars_of v [] = refl
among_vars_of v (x ∷ xs) = go (bytes_eq v.name x) v.primed _ ∙ ap (λ b. bytes_eq v.name x || b) (among_vars_of v xs)
  where
    go : (same primed rest : Bool) → ((same && beq primed false) || ((same && beq primed true) || rest)) ≡ (same || rest)
    go true true rest = refl
    go true false rest = refl
    go false primed rest = refl

alike_in : (t : Tree) (v w : Var) → is_among (vars_of (names t)) v ≡ false → is_among (vars_of (names t)) w ≡ false → Alike (sets t) v w
alike_in t v w p q =
    elsewhere t v w (names_listed (bytes_eq v.name) t ∙ sym (among_vars_of v (names t)) ∙ p)
    (names_listed (bytes_eq w.name) t ∙ sym (among_vars_of w (names t)) ∙ q)

pub free_told : (t : Tree) → Told (free t)
free_told t = record { vars = vars_of (names t); alike = λ v w p q. (alike_in t v w p q).free }

pub bound_told : (t : Tree) → Told (bound t)
bound_told t = record { vars = vars_of (names t); alike = λ v w p q. (alike_in t v w p q).bound }

both_told : (set other : Var → Bool) → Told set → Told other → Told (both set other)
both_told set other s o =
    record { vars = s.vars ++ o.vars; alike = λ v w p q i. s.alike v w (parts v p).0 (parts w q).0 i && o.alike v w (parts v p).1 (parts w q).1 i }
  where
    parts : (v : Var) → is_among (s.vars ++ o.vars) v ≡ false → (is_among s.vars v ≡ false) × (is_among o.vars v ≡ false)
    parts v h = or_parts _ _ (sym (among_append v s.vars o.vars) ∙ h)

pub apart_decided : (set other : Var → Bool) → Told set → Told other → Dec (AreApart set other)
apart_decided set other s o = elim (inhabited_decided (both set other) (both_told set other s o)) [ yes m ↦ no (λ apart. apart m) | no n ↦ yes n ]

-- each set of variables that an operator captures is that of what is free or bound in some tree
pub captures_told : (op : Op) (new : Forest) → Told ((captures op).set new)
captures_told Op'.Diff new = free_told (node Op'.Hole no_kids)
captures_told (Op'.Predicational s) new = free_told (node Op'.Hole no_kids)
captures_told Op'.DiffF new = free_told (node Op'.Hole no_kids)
captures_told (Op'.Forall x) new = free_told (node (Op'.Variable (plain x)) no_kids)
captures_told (Op'.Exists x) new = free_told (node (Op'.Variable (plain x)) no_kids)
captures_told Op'.Box new = bound_told (first new)
captures_told Op'.Dia new = bound_told (first new)
captures_told (Op'.System items) new = bound_told (node (Op'.System items) new)
captures_told Op'.Seq new = bound_told (first new)
captures_told Op'.Loop new = bound_told (first new)
captures_told _ new = free_told (node Op'.True no_kids)
