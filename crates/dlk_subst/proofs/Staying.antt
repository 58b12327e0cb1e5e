-- An operator that stays where what it captures is admissible, by a test of its set and of the kids that it reaches.
use Rattle.std.proofs.Common.{◌≡◌, refl, sym, subst, List, Bool}
use Rattle.dlk_tree.specs.declared.op.Var.{Var}
use Rattle.dlk_tree.specs.declared.op.Op.{Op}
use Rattle.dlk_tree.specs.Trees.{Tree, node, Forest}
use Rattle.dlk_store.specs.declared.Id.{Id}
use Rattle.dlk_store.specs.Stores.{StandsFor}
use Rattle.dlk_calculus.specs.Captures.{captures, Stays}
use Rattle.dlk_subst.specs.Results.{IsResult, HasNone}

module _ (Admissible : (Var → Bool) → Forest → Type 0) (op : Op) (old new : Forest) {set : Var → Bool} {kids : Forest}
    (set_is : set ≡ (captures op).set new) (kids_are : kids ≡ (captures op).reach old) where
  pub stays : (trees : List Tree) (id : Id) → StandsFor trees id (node op new) → Admissible set kids → IsResult (Stays Admissible op old new) trees id
  stays trees id stands admissible = record {
    result = node op new;
    is_related = (subst (λ X. X) (λ i. Admissible (set_is i) (kids_are i)) admissible, refl);
    stands = stands;
  }

  pub stays_not : (Admissible set kids → ⊥) → HasNone (Stays Admissible op old new)
  stays_not refused = λ t it. refused (subst (λ X. X) (λ i. Admissible (sym set_is i) (sym kids_are i)) it.0)
