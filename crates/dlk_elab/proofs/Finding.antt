-- What a use of an axiom finds.
use Rattle.std.proofs.Common.{◌≡◌, ℕ, List, [], Option, Some, None, refl, sym, ap, subst, Bor}
use Rattle.std.specs.Option.{option_copied, unwrap_or}
use Rattle.dlk_tree.specs.Trees.{Tree}
use Rattle.dlk_calculus.specs.declared.form.AxiomForm.{AxiomForm}
use Rattle.dlk_calculus.specs.declared.form.AxiomForm.TheVariants.{E, Q, C, R, I, F}
use Rattle.dlk_calculus.specs.Pairs.{Extra as TreeExtra}
use Rattle.dlk_match.specs.Found.{HasNoMatch, IsMatch}
use Rattle.dlk_sequent.specs.declared.extra.Extra.{Extra}
use Rattle.dlk_sequent.specs.Extras.{extra_at}
use Rattle.dlk_uses.specs.Uses.{HasShape}
use Rattle.dlk_elab.specs.Calls.{given_at}
use Rattle.dlk_elab.specs.Uses.{HasKids, HasParts}

-- a tree that has the shape of a form has the parts of which one may be looked for
pub has_parts : (form : AxiomForm) (f : Tree) → HasShape form f → HasParts form f
has_parts E f shape = subst HasKids (sym shape) tt
has_parts Q f shape = subst HasKids (sym shape) tt
has_parts C f shape = (subst HasKids (sym shape.0) tt, subst HasKids (sym shape.1) tt)
has_parts R f shape = (subst HasKids (sym shape.0) tt, subst HasKids (sym shape.1) tt)
has_parts I f shape = subst HasKids (sym shape) tt
has_parts F f shape = tt

-- what is given, or nothing
pub given_is : (trees : List Tree) (o : Option (Bor Extra)) (none : Bor Extra) → none.now ≡ record { renames = []; pairs = [] } →
    extra_at trees (unwrap_or o none).now ≡ given_at trees (option_copied o)
given_is trees None none e = ap (extra_at trees) e
given_is trees (Some x) none e = refl

-- a match, and that there is none, said of the same key, names and given ones
module _ (k l : Tree) (own names : List (List ℕ)) (e : Tree) (g h : TreeExtra) (keys : k ≡ l) (owns : own ≡ names) (givens : g ≡ h) where
  pub no_match_of : HasNoMatch k own e g → HasNoMatch l names e h
  no_match_of none =
      subst (λ x. HasNoMatch l names e x) givens (subst (λ x. HasNoMatch l x e g) owns (subst (λ x. HasNoMatch x own e g) keys none))

  pub match_of : (trees : List Tree) (extra : Extra) → IsMatch k own e g trees extra → IsMatch l names e h trees extra
  match_of trees extra is =
      subst (λ x. IsMatch l names e x trees extra) givens
      (subst (λ x. IsMatch l x e g trees extra) owns (subst (λ x. IsMatch x own e g trees extra) keys is))
