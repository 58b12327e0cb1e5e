-- The sets of kids, by their numbers.
use Rattle.std.proofs.Common.{◌≡◌, ℕ, ◌+◌, ◌<◌, ◌≤◌, ◌||◌, ◌∙◌, Bool, List, [], ◌∷◌, length, get_or, take, Result, IfOk, refl, sym, ap, subst, arith}
use Rattle.std.specs.Prelude.{All, map}
use Rattle.std.specs.List.{list_any}
use Rattle.dlk_tree.specs.declared.op.Var.{Var}
use Rattle.dlk_tree.specs.Statics.{either, both, without, free_in_turn, must_in_both, must_in_one}
use Rattle.dlk_store.specs.declared.listing.Which.{Which}
use Rattle.dlk_shared.specs.declared.node.NodeSets.{NodeSets}
use Rattle.dlk_shared.specs.SetTables.{SetTable, set_at, sets_at, Means, Makes, Keeps, AreSets, number_in, set_in, in_kids}
use Rattle.dlk_shared.proofs.SetLemmas.{mapped, set_itself, means_kept, means_same, set_in_at, is_set_in, any_more}

-- ---- of two kids, or of the first two

module _ (t : SetTable) (d e : NodeSets) where
  turn_of : (ks : List NodeSets) → 2 ≤ length ks → free_in_turn (map (sets_at t) ks)
      ≡ either (set_at t (get_or ks 0 d).free) (without (set_at t (get_or ks 1 e).free) (set_at t (get_or ks 0 d).must))
  turn_of [] h = absurd (omega arith)
  turn_of (a ∷ []) h = absurd (omega arith)
  turn_of (a ∷ b ∷ ks) h = refl

  both_of : (ks : List NodeSets) → 2 ≤ length ks → must_in_both (map (sets_at t) ks) ≡ both (set_at t (get_or ks 0 d).must) (set_at t (get_or ks 1 e).must)
  both_of [] h = absurd (omega arith)
  both_of (a ∷ []) h = absurd (omega arith)
  both_of (a ∷ b ∷ ks) h = refl

  one_of : (ks : List NodeSets) → 2 ≤ length ks → must_in_one (map (sets_at t) ks) ≡ either (set_at t (get_or ks 0 d).must) (set_at t (get_or ks 1 e).must)
  one_of [] h = absurd (omega arith)
  one_of (a ∷ []) h = absurd (omega arith)
  one_of (a ∷ b ∷ ks) h = refl

module _ {E : Type 0} (r : Result ℕ E) (old new : SetTable) (ks : List NodeSets) (d e : NodeSets) (sound : All (AreSets old) ks) (two : 2 ≤ length ks) where
  first : AreSets old (get_or ks 0 d)
  first = sound 0 d (omega arith)

  second : AreSets old (get_or ks 1 e)
  second = sound 1 e (omega arith)

  pub both_means : IfOk r (Makes both old (get_or ks 0 d).must (get_or ks 1 e).must new) → IfOk r (λ n. Means new n (must_in_both (map (sets_at old) ks)))
  both_means = mapped (Makes both old (get_or ks 0 d).must (get_or ks 1 e).must new) (λ n. Means new n (must_in_both (map (sets_at old) ks))) r
      (λ n m. subst (Means new n) (sym (both_of old d e ks two))
      (m.means (set_at old (get_or ks 0 d).must) (set_at old (get_or ks 1 e).must) (set_itself first.must) (set_itself second.must)))

  pub one_means : IfOk r (Makes either old (get_or ks 0 d).must (get_or ks 1 e).must new) → IfOk r (λ n. Means new n (must_in_one (map (sets_at old) ks)))
  one_means = mapped (Makes either old (get_or ks 0 d).must (get_or ks 1 e).must new) (λ n. Means new n (must_in_one (map (sets_at old) ks))) r
      (λ n m. subst (Means new n) (sym (one_of old d e ks two))
      (m.means (set_at old (get_or ks 0 d).must) (set_at old (get_or ks 1 e).must) (set_itself first.must) (set_itself second.must)))

  pub turn_means : (mid : SetTable) (rest : ℕ) → Keeps old mid → Makes without old (get_or ks 1 e).free (get_or ks 0 d).must mid rest
      → IfOk r (Makes either mid (get_or ks 0 d).free rest new) → IfOk r (λ n. Means new n (free_in_turn (map (sets_at old) ks)))
  turn_means mid rest keeps makes = mapped (Makes either mid (get_or ks 0 d).free rest new) (λ n. Means new n (free_in_turn (map (sets_at old) ks))) r
      (λ n m. subst (Means new n) (sym (turn_of old d e ks two))
      (m.means (set_at old (get_or ks 0 d).free) (without (set_at old (get_or ks 1 e).free) (set_at old (get_or ks 0 d).must))
      (means_kept keeps (set_itself first.free))
      (makes.means (set_at old (get_or ks 1 e).free) (set_at old (get_or ks 0 d).must) (set_itself second.free) (set_itself first.must))))

-- ---- of all kids

any_kid : (t : SetTable) (which : Which) (ks : List NodeSets) (v : Var) → in_kids which (map (sets_at t) ks) v ≡ list_any (λ k. set_in which (sets_at t k) v) ks
any_kid t which [] v = refl
any_kid t which (k ∷ ks) v = ap (λ b. set_in which (sets_at t k) v || b) (any_kid t which ks v)

kids_take : (t : SetTable) (which : Which) (ks : List NodeSets) (i : ℕ) (d : NodeSets) → i < length ks → (v : Var)
    → in_kids which (map (sets_at t) (take (i + 1) ks)) v ≡ (in_kids which (map (sets_at t) (take i ks)) v || set_in which (sets_at t (get_or ks i d)) v)
kids_take t which ks i d lt v =
    let f : NodeSets → Bool = λ k. set_in which (sets_at t k) v in
    any_kid t which (take (i + 1) ks) v ∙ any_more f ks i d lt ∙ ap (λ b. b || f (get_or ks i d)) (sym (any_kid t which (take i ks) v))

pub kid_more : (old mid new : SetTable) (which : Which) (ks : List NodeSets) (i : ℕ) (d : NodeSets) (one all more : ℕ) → All (AreSets old) ks
    → i < length ks → one ≡ number_in which (get_or ks i d) → Keeps old mid → Means mid all (in_kids which (map (sets_at old) (take i ks)))
    → Makes either mid all one new more → Means new more (in_kids which (map (sets_at old) (take (i + 1) ks)))
kid_more old mid new which ks i d one all more sound lt is keeps so_far makes =
    let k = get_or ks i d in
    let own : Means old (number_in which k) (set_in which (sets_at old k)) =
    subst (Means old (number_in which k)) (set_in_at old which k) (set_itself (is_set_in old which k (sound i d lt))) in
    let now : Means mid one (set_in which (sets_at old k)) = means_kept keeps (subst (λ n. Means old n (set_in which (sets_at old k))) (sym is) own) in
    means_same (λ v. sym (kids_take old which ks i d lt v))
    (makes.means (in_kids which (map (sets_at old) (take i ks))) (set_in which (sets_at old k)) so_far now)
