-- Trees and lists of trees in which no operator passes a test.
use Rattle.std.proofs.Common.{◌≡◌, refl, Bool, false}
use Rattle.std.specs.Prelude.{All}
use Rattle.std.proofs.lemmas.Bool.{or_parts, or_from}
use Rattle.std.proofs.lemmas.List.Elements.{All-cons, All-nil}
use Rattle.dlk_tree.specs.declared.op.Op.{Op}
use Rattle.dlk_tree.specs.Trees.{Tree, node, Forest, no_kids, kid, trees_in}
use Rattle.dlk_tree.specs.Occurs.{has, any_has}

-- where no operator passes one test and none another, none passes a third
module _ (one other third : Op → Bool) (each : (op : Op) → one op ≡ false → other op ≡ false → third op ≡ false) where
  mutual
    pub lacks : (t : Tree) → has one t ≡ false → has other t ≡ false → has third t ≡ false
    lacks (node op kids) p q =
        let a = or_parts _ _ p in
        let b = or_parts _ _ q in
        or_from _ _ (each op a.0 b.0) (all_lack kids a.1 b.1)

    pub all_lack : (ts : Forest) → any_has one ts ≡ false → any_has other ts ≡ false → any_has third ts ≡ false
    all_lack no_kids p q = refl
    all_lack (kid t rest) p q =
        let a = or_parts _ _ p in
        let b = or_parts _ _ q in
        or_from _ _ (lacks t a.0 b.0) (all_lack rest a.1 b.1)

-- parts of a list of trees
module _ (test : Op → Bool) where
  pub trees_lack : (ts : Forest) → any_has test ts ≡ false → All (λ (t : Tree). has test t ≡ false) (trees_in ts)
  trees_lack no_kids h = All-nil (λ (t : Tree). has test t ≡ false)
  trees_lack (kid t rest) h =
      let p = or_parts _ _ h in
      All-cons (λ (u : Tree). has test u ≡ false) t (trees_in rest) p.0 (trees_lack rest p.1)
