-- Quantifiers at places, whether their variable is free in other formulas, and formulas whose variable gets another name.
use Rattle.std.proofs.Common.{◌≡◌, ℕ, ◌-◌, Bool, true, false, ◌||◌, List, [], ◌∷◌, map, take, drop, length, get_or, refl, ap, sym, subst, ◌∙◌}
use Rattle.std.specs.List.{list_any}
use Rattle.std.proofs.lemmas.Bool.{true≢false}
use Rattle.std.proofs.lemmas.List.{take-map, drop-map, take_rest}
use Rattle.std.proofs.lemmas.List.Folds.{list_any-append}
use Rattle.dlk_tree.specs.declared.op.Op.{Op}
use Rattle.dlk_tree.specs.declared.op.Sort.TheVariants.{Formula}
use Rattle.dlk_tree.specs.declared.op.Var.{Var}
use Rattle.dlk_tree.specs.Statics.{plain}
use Rattle.dlk_tree.specs.Table.{kid_sorts}
use Rattle.dlk_tree.specs.Trees.{Tree, no_kids, kid}
use Rattle.dlk_store.specs.declared.Id.{Id}
use Rattle.dlk_store.specs.Stores.{tree}
use Rattle.dlk_calculus.specs.Notation.{one}
use Rattle.dlk_calculus.specs.Places.{At, IsPlace, without_place}
use Rattle.dlk_calculus.specs.Sequents.{Sequent}
use Rattle.dlk_calculus.specs.Rename.{RenamesBound, Bound}
use Rattle.dlk_calculus.specs.Rules.{IsFreshIn}
use Rattle.dlk_calculus.proofs.PlaceLaws.{at_one}
use Rattle.dlk_rename.specs.declared.fault.RenameFault.{RenameFault}
use Rattle.dlk_rename.specs.declared.fault.RenameFault.TheVariants as rename
use Rattle.dlk_rename.specs.Bindings.{IsRenamed}
use Rattle.dlk_rename.specs.Faults.{IsRenameFault}
use Rattle.dlk_rules.specs.declared.quantifiers.Quantifier.{Quantifier}
use Rattle.dlk_rules.specs.Looks.{IsAt, IsNodeAt, IsFreshFault}
use Rattle.dlk_rules.specs.Quantifiers.{quantifier_of, IsOther, is_read, IsQuantifiedAt, IsBoundAt, IsFreshFor, IsReboundAt, of_rename}
use Rattle.dlk_rules.proofs.KidsOf.{other_op, one_kid}

pub list_any_map : (p : Tree → Bool) (f : Id → Tree) (ids : List Id) → list_any p (map f ids) ≡ list_any (λ id. p (f id)) ids
list_any_map p f [] = refl
list_any_map p f (id ∷ ids) = ap (λ b. p (f id) || b) (list_any_map p f ids)

-- of all but one, whether one before it or one behind it passes the test
pub list_any_remove : (p : Tree → Bool) (f : Id → Tree) (ids : List Id) (place : ℕ) →
    (list_any p (map f (take (place - 1) ids)) || list_any p (map f (take (length ids - place) (drop place ids)))) ≡ list_any p
    (without_place (map f ids) place)
list_any_remove p f ids place = simp (list_any-append, take-map, drop-map, take_rest)

-- the quantifier at a place, by its operator and its kids
pub quantified_node : (trees side : List Tree) (place : ℕ) (quantifier : Quantifier) (op : Op) (kids : List Id) (d : Id) (x : List ℕ) (v : Var) →
    IsNodeAt trees side place op kids → op ≡ quantifier_of quantifier x → kid_sorts op ≡ Formula ∷ [] → v ≡ plain x →
    IsQuantifiedAt trees side place quantifier v (get_or kids 0 d)
quantified_node trees side place quantifier op kids d x v n is sorts e =
    let m = one_kid trees side place op kids d n sorts in
    record {
      place_is = m.place_is;
      f = m.f;
      at = subst (λ o. At side place (one o m.f)) (is ∙ ap (λ w. quantifier_of quantifier w.name) (sym e)) m.at;
      unprimed = e ∙ ap (λ w. plain w.name) (sym e);
      f_stands = m.f_stands;
    }

-- the variable of a quantifier at a place
module _ {trees side : List Tree} {place : ℕ} {quantifier : Quantifier} {v : Var} {f : Id} (at : IsQuantifiedAt trees side place quantifier v f) where
  pub unread : (s : Sequent) → false ≡ is_read s v → IsFreshIn s v.name
  unread s test = sym (test ∙ ap (is_read s) at.unprimed)

  pub not_unread : (s : Sequent) → true ≡ is_read s v → ¬ IsFreshIn s v.name
  not_unread s test fresh = true≢false (test ∙ ap (is_read s) at.unprimed ∙ fresh)

-- a formula at a place that gets another name, or doesn't
module _ (y : List ℕ) {old side : List Tree} {place : ℕ} {id : Id} (at : IsAt old side place id) where
  pub rebound : {new : List Tree} {made : Id} → IsRenamed y (tree old id) new made → IsReboundAt side place y new made
  rebound {new} {made} h = record {
    place_is = at.place_is;
    parts = record { x = h.x; f = h.f; g = tree new made };
    bound = (at.f, at.at, subst (λ t. RenamesBound h.x y h.f t (tree new made)) at.stands.tree_is h.renames);
    fresh = h.fresh;
    g_stands = record { known = h.known; tree_is = refl };
  }

  pub not_rebound : (why : RenameFault) → IsRenameFault y (tree old id) why →
      IsFreshFault (IsPlace side place) Bound (IsBoundAt side place y) (IsFreshFor y) (of_rename why)
  not_rebound rename.WrongShape h =
      let same = λ (p : Bound) (b : IsBoundAt side place y p). at_one side place b.0 at.f b.1 at.at ∙ sym at.stands.tree_is in
      (at.place_is, λ p b. h p.x p.f p.g (subst (λ t. RenamesBound p.x y p.f t p.g) (same p b) b.2))
  not_rebound rename.NotFresh h =
      let is = subst (λ t. RenamesBound h.0 y h.1 t h.2) at.stands.tree_is h.3 in
      (at.place_is, (record { x = h.0; f = h.1; g = h.2 }, (at.f, at.at, is), h.4))
  not_rebound rename.Memory h = tt
