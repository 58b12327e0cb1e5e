-- The kids of an operator, by its row of the table.
use Rattle.std.proofs.Common.{◌≡◌, [], ◌∷◌, subst}
use Rattle.dlk_tree.specs.declared.op.Sort.{Sort}
use Rattle.dlk_tree.specs.Trees.{Tree, Forest, no_kids, kid, sort, sorts}

-- K holds of each kid and its sort
abbrev pub AllKids : (Sort → Tree → Type 0) → Forest → Type 0
AllKids K no_kids = Unit {0}
AllKids K (kid t rest) = K (sort t) t × AllKids K rest

pub none_of : (P : Forest → Type 0) (kids : Forest) → sorts kids ≡ [] → P no_kids → P kids
none_of P no_kids e h = h
none_of P (kid t rest) e h = absurd cc

pub one_of : (K : Sort → Tree → Type 0) (P : Forest → Type 0) (s : Sort) (kids : Forest) → sorts kids ≡ s ∷ [] → AllKids K kids →
    ((a : Tree) → K s a → P (kid a no_kids)) → P kids
one_of K P s no_kids e all h = absurd cc
one_of K P s (kid a no_kids) e all h = let at : sort a ≡ s = cc in h a (subst (λ (u : Sort). K u a) at all.0)
one_of K P s (kid a (kid b rest)) e all h = absurd cc

pub two_of : (K : Sort → Tree → Type 0) (P : Forest → Type 0) (s u : Sort) (kids : Forest) → sorts kids ≡ s ∷ u ∷ [] → AllKids K kids →
    ((a b : Tree) → K s a → K u b → P (kid a (kid b no_kids))) → P kids
two_of K P s u no_kids e all h = absurd cc
two_of K P s u (kid a no_kids) e all h = absurd cc
two_of K P s u (kid a (kid b no_kids)) e all h =
    let first : sort a ≡ s = cc in
    let second : sort b ≡ u = cc in
    h a b (subst (λ (w : Sort). K w a) first all.0) (subst (λ (w : Sort). K w b) second all.1.0)
two_of K P s u (kid a (kid b (kid c rest))) e all h = absurd cc
