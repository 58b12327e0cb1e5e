-- What a use of an axiom finds on a goal, or why it finds nothing.
use Rattle.std.proofs.Common.{◌≡◌, List, [], ◌∷◌, length, Option, Some, None, refl, sym, subst, arith}
use Rattle.std.specs.Prelude.{IsTrue}
use Rattle.std.proofs.lemmas.List.Elements.{All-head, All-tail, All-nil, All-cons}
use Rattle.dlk_tree.specs.declared.op.Sort.TheVariants.{Formula}
use Rattle.dlk_tree.specs.Trees.{Tree, sort}
use Rattle.dlk_store.specs.declared.Id.{Id}
use Rattle.dlk_store.specs.Stores.{IsId, tree, Keeps}
use Rattle.dlk_calculus.specs.Axioms.{axiom_named}
use Rattle.dlk_calculus.specs.Pairs.{Extra as TreeExtra}
use Rattle.dlk_calculus.specs.Paths.{subtree}
use Rattle.dlk_calculus.specs.Provables.{Provable}
use Rattle.dlk_match.specs.Found.{HasNoMatch, IsMatch}
use Rattle.dlk_match.specs.Matching.{Match}
use Rattle.dlk_sequent.specs.declared.extra.Extra.{Extra}
use Rattle.dlk_sequent.specs.declared.subst.Pair.{Pair}
use Rattle.dlk_sequent.specs.Extras.{extra_at, IsKnownExtra}
use Rattle.dlk_sequent.specs.Substitutions.{pairs_at, AreKnownPairs}
use Rattle.dlk_sequent.specs.Spines.{top, path_of, IsSpine}
use Rattle.dlk_tacsyn.specs.Tactics.{Atom}
use Rattle.dlk_uses.specs.Uses.{Use, key, may_stand}
use Rattle.dlk_elab.specs.declared.calls.UseCall.{UseCall}
use Rattle.dlk_elab.specs.declared.fault.TacFault.{TacFault}
use Rattle.dlk_elab.specs.declared.keys.Named.{Named}
use Rattle.dlk_elab.specs.declared.plan.Target.{Target}
use Rattle.dlk_elab.specs.declared.ways.Reached.{Reached}
use Rattle.dlk_elab.specs.Atoms.{UnknownName, NoPlace, NoMatch, HasGoalAt, NamesAxiom, IsUse, StandsThere, MatchesThere, AtomFault, asks_none, Asks}
use Rattle.dlk_elab.specs.Atoms.{Instance, use_axiom, no_axiom, not_there, no_match}
use Rattle.dlk_elab.specs.Calls.{direction_of, given_at, GivenIsKnown}
use Rattle.dlk_elab.specs.Ties.{IsTacFault}
use Rattle.dlk_elab.specs.Uses.{IsAxiomAt, IsReached, IsNotThere, wanted, MayBeUsed, IsFound}
use Rattle.dlk_elab.proofs.Elaborates.{tac_fault_weaker}
use Rattle.dlk_elab.proofs.Finding.{no_match_of}

-- what is given stays in a store that has grown
module _ (old new : List Tree) (keeps : Keeps old new) where
  id_kept : (id : Id) → IsId old id → IsId new id
  id_kept id known = omega (arith, keeps.known)

  abbrev HasId : List Tree → Pair → Type 0
  HasId trees p = IsId trees p.by

  pairs_known : (pairs : List Pair) → AreKnownPairs old pairs → AreKnownPairs new pairs
  pairs_known [] known = All-nil (HasId new)
  pairs_known (p ∷ pairs) known =
      All-cons (HasId new) p pairs (id_kept p.by (All-head (HasId old) p pairs known)) (pairs_known pairs (All-tail (HasId old) p pairs known))

  pub pairs_kept : (pairs : List Pair) → AreKnownPairs old pairs → pairs_at new pairs ≡ pairs_at old pairs
  pairs_kept [] known = refl
  pairs_kept (p ∷ pairs) known =
      let first = keeps.same p.by (All-head (HasId old) p pairs known) in
      let rest = pairs_kept pairs (All-tail (HasId old) p pairs known) in
      λ i. record { sym = p.sym; by = first i } ∷ rest i

  pub extra_known : (extra : Extra) → IsKnownExtra old extra → IsKnownExtra new extra
  extra_known extra known = pairs_known extra.pairs known

  pub extra_kept : (extra : Extra) → IsKnownExtra old extra → extra_at new extra ≡ extra_at old extra
  extra_kept extra known = let e = pairs_kept extra.pairs known in λ i. record { renames = extra.renames; pairs = e i }

  pub given_known : (given : Option Extra) → GivenIsKnown old given → GivenIsKnown new given
  given_known None known = tt
  given_known (Some extra) known = extra_known extra known

  pub given_kept : (given : Option Extra) → GivenIsKnown old given → given_at new given ≡ given_at old given
  given_kept None known = refl
  given_kept (Some extra) known = extra_kept extra known

module _ (rows : List Provable) (target : Target) (atom : Atom) (u : UseCall) (given : TreeExtra)
    (names : NamesAxiom atom (direction_of u.direction) u.name.now u.place u.path.now given) where
  pub unnamed : HasGoalAt rows target.fact target.goal → (e : TacFault) → IsTacFault (λ why. (why ≡ UnknownName) × (axiom_named u.name.now ≡ None)) e →
      IsTacFault (AtomFault rows target.fact target.goal atom) e
  unnamed there e h =
      tac_fault_weaker (λ why. (why ≡ UnknownName) × (axiom_named u.name.now ≡ None)) (AtomFault rows target.fact target.goal atom)
      (λ why k. subst (AtomFault rows target.fact target.goal atom) (sym k.0)
      (asks_none there.0 there.1 (no_axiom (direction_of u.direction) u.name.now u.place u.path.now given names k.1))) e h

  module _ (trees : List Tree) (named : Named) (is : IsAxiomAt trees u.name.now named) where
    abbrev its_use : Use
    its_use = record { its_axiom = is.its_axiom; direction = direction_of u.direction; place = u.place; path = u.path.now; given = given }

    is_use : IsUse atom its_use
    is_use = record { name = u.name.now; names = names; is_axiom = is.is_axiom }

    pub not_reached : (e : TacFault) → IsTacFault (λ why. (why ≡ NoPlace) × IsNotThere rows target u.place u.path.now) e →
        IsTacFault (AtomFault rows target.fact target.goal atom) e
    not_reached e h =
        tac_fault_weaker (λ why. (why ≡ NoPlace) × IsNotThere rows target u.place u.path.now) (AtomFault rows target.fact target.goal atom)
        (λ why k. subst (AtomFault rows target.fact target.goal atom) (sym k.0)
        (asks_none k.1.s k.1.is_goal (not_there its_use is_use (λ f t stands. k.1.none f t stands.formula stands.inside)))) e h

    -- what is looked for, over ids and over trees
    key_is : wanted trees named u ≡ key is.its_axiom.form (direction_of u.direction) u.place is.its_axiom.formula
    key_is = let a = is.form in let b = is.formula.tree_is in λ i. key (a i) (direction_of u.direction) u.place (b i)

    module _ (reached : Reached) (at : IsReached rows target trees u.place u.path.now reached)
        (leads : subtree (tree trees (top reached.way)) (path_of reached.way) ≡ Some (tree trees reached.way.found)) where
      abbrev e : Tree
      e = tree trees (top reached.way)

      abbrev t : Tree
      t = tree trees reached.way.found

      stands : StandsThere at.s its_use e t
      stands = record { formula = at.stands; inside = subst (λ p. subtree e p ≡ Some t) at.goes leads }

      pub unmatched : (fault : TacFault) →
          IsTacFault (λ why. (why ≡ NoMatch) × (MayBeUsed named u → HasNoMatch (wanted trees named u) named.own.items t given)) fault →
          IsTacFault (AtomFault rows target.fact target.goal atom) fault
      unmatched fault h =
          tac_fault_weaker (λ why. (why ≡ NoMatch) × (MayBeUsed named u → HasNoMatch (wanted trees named u) named.own.items t given))
          (AtomFault rows target.fact target.goal atom)
          (λ why k. subst (AtomFault rows target.fact target.goal atom) (sym k.0)
          (asks_none at.s at.is_goal (no_match its_use e t is_use stands
          (λ may. no_match_of (wanted trees named u) _ named.own.items is.its_axiom.own_names t given
          given key_is is.own refl (k.1 (subst (λ x. IsTrue (may_stand x (direction_of u.direction) u.place u.path.now)) (sym is.form) may)))))) fault h

      pub found : (new : List Tree) (extra : Extra) → Keeps trees new → IsSpine new reached.way → tree new (top reached.way) ≡ e →
          tree new reached.way.found ≡ t → MayBeUsed named u → IsMatch (wanted trees named u) named.own.items t given new extra →
          IsFound rows target atom new u (record { form = named.form; extra = extra; way = reached.way; right = reached.right })
      found new extra keeps spine top_is found_is may match =
          let may' = subst (λ x. IsTrue (may_stand x (direction_of u.direction) u.place u.path.now)) is.form may in
          let m : MatchesThere its_use t (extra_at new extra) =
          subst (λ x. Match x is.its_axiom.own_names t given (extra_at new extra)) key_is
          (subst (λ x. Match (wanted trees named u) x t given (extra_at new extra)) is.own match.matches) in
          record {
            s = at.s;
            is_goal = at.is_goal;
            used = its_use;
            asks = subst (λ x. Asks (length rows) target.fact target.goal at.s atom (Instance its_use (extra_at new extra) x)) (sym top_is)
                (use_axiom its_use e t (extra_at new extra) is_use stands may' m);
            is_axiom = is.is_axiom;
            form = sym is.form;
            direction = refl;
            place = refl;
            path = sym at.goes;
            may = may';
            matches = subst (λ x. MatchesThere its_use x (extra_at new extra)) (sym found_is) m;
            known = match.known;
            spine = spine;
            formula = subst (λ x. sort x ≡ Formula) (sym top_is) at.formula;
            right = at.right;
            few = at.few;
          }
