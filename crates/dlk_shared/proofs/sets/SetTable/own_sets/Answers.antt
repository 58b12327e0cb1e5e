use Rattle.std.proofs.Common.{◌≡◌, ℕ, List, false, ◌⊎◌, inl, inr, ap, sym, subst}
use Rattle.dlk_tree.specs.Statics.{sets_are, none, all, all_but, just, plain}
use Rattle.dlk_tree.specs.declared.op.Op.TheVariants.{Variable, Assign, Any, Hole, Predicational, Const, Forall, Exists, UnitFun, UnitPred}
use Rattle.dlk_tree.specs.declared.op.Op.{Op}
use Rattle.dlk_tree.specs.declared.op.Sym.{Sym}
use Rattle.dlk_shared.specs.SetTables.{MeanSets}
use Rattle.dlk_shared.specs.Shapes.{own_sets}
use Rattle.dlk_shared.specs.declared.node.NodeSets.{NodeSets}
use Rattle.dlk_shared.proofs.SetLemmas.{means_kept}
use Rattle.dlk_shared.proofs.sets.SetTable.own_sets.Goals as goal

pub returns-in_ok-free-in-Variable-clause-means : goal.returns-in_ok-free-in-Variable-clause-means
returns-in_ok-free-in-Variable-clause-means c =
    let none = means_kept c.in_ok-free-in-Variable.ensures.keeps c.requires in
    subst (λ o. MeanSets c.just.new.self c.reads.result (own_sets o)) (sym c.in-Variable.is)
    (subst (λ n. MeanSets c.just.new.self n (own_sets (Variable c.in-Variable.v))) (sym c.reads.ensures)
    (record { free = c.in_ok-free-in-Variable.ensures.means; bound = none; must = none }))

pub returns-in_ok-v-in-Assign-clause-means : goal.returns-in_ok-v-in-Assign-clause-means
returns-in_ok-v-in-Assign-clause-means c =
    let v = c.in_ok-v-in-Assign.ensures.means in
    let t = c.just-in-Assign.new.self in
    subst (λ o. MeanSets t c.assigns.result (own_sets o)) (sym c.in-Assign.is)
    (subst (λ n. MeanSets t n (own_sets (Assign c.in-Assign.v))) (sym c.assigns.ensures)
    (record { free = means_kept c.in_ok-v-in-Assign.ensures.keeps c.requires; bound = v; must = v }))

pub returns-in_ok-v-in-Any-clause-means : goal.returns-in_ok-v-in-Any-clause-means
returns-in_ok-v-in-Any-clause-means c =
    let v = c.in_ok-v-in-Any.ensures.means in
    let t = c.just_plain.new.self in
    subst (λ o. MeanSets t c.assigns-in-Any.result (own_sets o)) (sym c.in-Any.is)
    (subst (λ n. MeanSets t n (own_sets (Any c.in-Any.x))) (sym c.assigns-in-Any.ensures)
    (record { free = means_kept c.in_ok-v-in-Any.ensures.keeps c.requires; bound = v; must = v }))

-- operators of one group have like sets of their own
whole : (op : Op) → (op ≡ Hole) ⊎ (((s : Sym) × (op ≡ Predicational s)) ⊎ ((s : Sym) × (op ≡ Const s))) → own_sets op ≡ sets_are all all none
whole op (inl e) = ap own_sets e
whole op (inr (inl p)) = ap own_sets p.1
whole op (inr (inr p)) = ap own_sets p.1

quantified : (op : Op) (x : List ℕ) → (op ≡ Forall x) ⊎ (op ≡ Exists x) → own_sets op ≡ sets_are none (just (plain x)) none
quantified op x (inl e) = ap own_sets e
quantified op x (inr e) = ap own_sets e

unit : (op : Op) (s : Sym) → (op ≡ UnitFun s) ⊎ (op ≡ UnitPred s) → own_sets op ≡ sets_are (all_but s.taboo) none none
unit op s (inl e) = ap own_sets e
unit op s (inr e) = ap own_sets e

pub returns-in_ok-all-in-Hole-clause-means : goal.returns-in_ok-all-in-Hole-clause-means
returns-in_ok-all-in-Hole-clause-means c =
    let all = c.in_ok-all-in-Hole.ensures.means in
    let n : NodeSets = record { free = c.in_ok-all-in-Hole.all; bound = c.in_ok-all-in-Hole.all; must = c.args.empty } in
    subst (MeanSets c.all.new.self n) (sym (whole c.args.op.now c.in-Hole.is))
    (record { free = all; bound = all; must = means_kept c.in_ok-all-in-Hole.ensures.keeps c.requires })

pub returns-in_ok-bound-in-Forall-clause-means : goal.returns-in_ok-bound-in-Forall-clause-means
returns-in_ok-bound-in-Forall-clause-means c =
    let none = means_kept c.in_ok-bound-in-Forall.ensures.keeps c.requires in
    let n : NodeSets = record { free = c.args.empty; bound = c.in_ok-bound-in-Forall.bound; must = c.args.empty } in
    subst (MeanSets c.just_plain-in-Forall.new.self n) (sym (quantified c.args.op.now c.in-Forall.x c.in-Forall.is))
    (record { free = none; bound = c.in_ok-bound-in-Forall.ensures.means; must = none })

pub returns-in_ok-free-in-UnitFun-clause-means : goal.returns-in_ok-free-in-UnitFun-clause-means
returns-in_ok-free-in-UnitFun-clause-means c =
    let none = means_kept c.in_ok-free-in-UnitFun.ensures.keeps c.requires in
    subst (MeanSets c.all_but.new.self c.reads-in-UnitFun.result) (sym (unit c.args.op.now c.in-UnitFun.s c.in-UnitFun.is))
    (subst (λ n. MeanSets c.all_but.new.self n (sets_are (all_but c.in-UnitFun.s.taboo) (λ _. false) (λ _. false))) (sym c.reads-in-UnitFun.ensures)
    (record { free = c.in_ok-free-in-UnitFun.ensures.means; bound = none; must = none }))
