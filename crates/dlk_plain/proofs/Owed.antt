-- Members are added one by one.
use Rattle.std.proofs.Common.{◌≡◌, ◌∙◌, sym, ap, refl, ℕ, List, [], Bool, true, false, ◌||◌, ◌&&◌, not, cond}
use Rattle.std.specs.Bool.{beq, Decides}
use Rattle.std.specs.List.{list_any}
use Rattle.std.specs.List.Sorted.{IsStrictlySortedBy}
use Rattle.std.specs.Str.{bytes_eq}
use Rattle.std.proofs.lemmas.Slice.Eq.{bytes_eq-Decides}
use Rattle.std.proofs.Math.Bool.{or_assoc}
use Rattle.dlk_tree.specs.Tests.{var_eq}
use Rattle.dlk_tree.specs.Statics.{plain, prime}
use Rattle.dlk_tree.specs.Listed.{var_cmp, IsListing}
use Rattle.dlk_tree.specs.declared.op.Var.{Var}
use Rattle.dlk_plain.specs.declared.sets.Two.{Two}
use Rattle.dlk_plain.specs.Sets.{on}
use Rattle.dlk_plain.specs.Added.{stands_out, told, Adds}

-- with what is left, all is added
pub record Owes {K : Type 0} (same : K → K → Bool) (left whole : K → Bool) (old now : List K) : Type 0 where
  pub owes : (k : K) → (list_any (same k) now || left k) ≡ (list_any (same k) old || whole k)

pub or_none : (a : Bool) → a ≡ (a || false)
or_none true = refl
or_none false = refl

module _ {K : Type 0} (same : K → K → Bool) (first rest whole : K → Bool) (two_parts : (k : K) → whole k ≡ (first k || rest k)) where
  -- once the first of two parts is added, the rest is left
  pub Owes-rest : (old now : List K) → Adds same first old now → Owes same rest whole old now
  Owes-rest old now a = record {
    owes = λ k. ap (λ b. b || rest k) (a.adds k) ∙ or_assoc (list_any (same k) old) (first k) (rest k)
        ∙ ap (λ b. list_any (same k) old || b) (sym (two_parts k));
  }

  -- both parts, one after the other
  pub Adds-parts : (old now new : List K) → Adds same first old now → Adds same rest now new → Adds same whole old new
  Adds-parts old now new a b = record { adds = λ k. b.adds k ∙ (Owes-rest old now a).owes k }

-- the two variables of a name, each if it stands out
pub told_name : (set : Var → Bool) (others : Bool) (name : List ℕ) (two : Two) → two ≡ on name set → (v : Var) →
    told set others (λ x. bytes_eq x name) v ≡ ((var_eq v (plain name) && not (beq two.plain others)) || (var_eq v (prime name) && not (beq two.prime others)))
told_name set others name two e v = rw e (go v.name v.primed (bytes_eq v.name name) (bytes_eq-Decides v.name name))
  where
    out : List ℕ → Bool → Bool
    out x p = stands_out set others (record { name = x; primed = p })

    go : (x : List ℕ) (p b : Bool) → Decides b (x ≡ name) → (b && out x p) ≡ (((b && beq p false) && out name false) || ((b && beq p true) && out name true))
    go x true true d = ap (λ y. out y true) (d.0 refl)
    go x false true d = ap (λ y. out y false) (d.0 refl) ∙ or_none (out name false)
    go x p false d = refl

-- whether a variable is in the set, by whether it is listed
abbrev is_in : Bool → Bool → Bool
is_in all_but among = cond all_but (not among) among

listed : (others named s : Bool) → (named ≡ false → s ≡ others) → is_in others (named && not (beq s others)) ≡ s
listed true true true h = refl
listed true true false h = refl
listed true false s h = sym (h refl)
listed false true true h = refl
listed false true false h = refl
listed false false s h = sym (h refl)

-- where all other variables are alike, those that stand out are the listing
pub listing_of_names : (set : Var → Bool) (others : Bool) (named : List ℕ → Bool) (vars : List Var) → ((v : Var) → named v.name ≡ false → set v ≡ others) →
    IsStrictlySortedBy var_cmp vars → Adds var_eq (told set others named) [] vars → IsListing set others vars
listing_of_names set others named vars alike ordered a = record {
  ordered = ordered;
  members = λ v. ap (is_in others) (a.adds v) ∙ listed others (named v.name) (set v) (alike v);
}
