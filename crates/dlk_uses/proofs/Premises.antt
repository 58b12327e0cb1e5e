-- The premises of rules on the sequents that uses of axioms meet.
use Rattle.std.proofs.Common.{◌≡◌, ℕ, List, [], ◌∷◌, ◌++◌, sym, ap, ◌∙◌}
use Rattle.dlk_tree.specs.Trees.{Tree}
use Rattle.dlk_calculus.specs.Places.{At, put, without_place}
use Rattle.dlk_calculus.specs.Sequents.{Sequent, ◌==>◌, alone_right}
use Rattle.dlk_calculus.specs.Rules.{Close, Cut, CutL, CutR, CoHideR, EquivifyR, CommuteEquivR, ImplyL, ImplyR, imply, equiv, Premises, RuleAgainst}
use Rattle.dlk_calculus.specs.declared.reason.Reason.TheVariants.{NotEqual}
use Rattle.dlk_calculus.proofs.PlaceLaws.{at_one}

pub of_cutR : (s : Sequent) (j : ℕ) (h e : Tree) → At s.succ j e → (premises : List Sequent) → Premises (CutR j h) s premises →
    premises ≡ (s.ante ==> put s.succ j h) ∷ (s.ante ==> put s.succ j (imply h e)) ∷ []
of_cutR s j h e here premises p =
    let same : p.parts ≡ e = at_one s.succ j p.parts e p.shape.0 here in
    p.premises_are ∙ ap (λ f. (s.ante ==> put s.succ j h) ∷ (s.ante ==> put s.succ j (imply h f)) ∷ []) same

pub of_cutL : (s : Sequent) (i : ℕ) (h e : Tree) → At s.ante i e → (premises : List Sequent) → Premises (CutL i h) s premises →
    premises ≡ (put s.ante i h ==> s.succ) ∷ (without_place s.ante i ==> s.succ ++ imply e h ∷ []) ∷ []
of_cutL s i h e here premises p =
    let same : p.parts ≡ e = at_one s.ante i p.parts e p.shape.0 here in
    p.premises_are ∙ ap (λ f. (put s.ante i h ==> s.succ) ∷ (without_place s.ante i ==> s.succ ++ imply f h ∷ []) ∷ []) same

pub of_coHideR : (s : Sequent) (j : ℕ) (e : Tree) → At s.succ j e → (premises : List Sequent) → Premises (CoHideR j) s premises → premises ≡ alone_right e ∷ []
of_coHideR s j e here premises p =
    let same : p.parts ≡ e = at_one s.succ j p.parts e p.shape here in
    p.premises_are ∙ ap (λ f. alone_right f ∷ []) same

pub of_equivifyR : (A : List Tree) (f g : Tree) (premises : List Sequent) → Premises (EquivifyR 1) (A ==> imply f g ∷ []) premises →
    premises ≡ (A ==> equiv f g ∷ []) ∷ []
of_equivifyR A f g premises p =
    let shape : At (imply f g ∷ []) 1 (imply p.parts.0 p.parts.1) = p.shape in
    let one : p.parts.0 ≡ f = cc in
    let two : p.parts.1 ≡ g = cc in
    p.premises_are ∙ ap (λ x. (A ==> equiv x p.parts.1 ∷ []) ∷ []) one ∙ ap (λ x. (A ==> equiv f x ∷ []) ∷ []) two

pub of_commuteEquivR : (A : List Tree) (f g : Tree) (premises : List Sequent) → Premises (CommuteEquivR 1) (A ==> equiv f g ∷ []) premises →
    premises ≡ (A ==> equiv g f ∷ []) ∷ []
of_commuteEquivR A f g premises p =
    let shape : At (equiv f g ∷ []) 1 (equiv p.parts.0 p.parts.1) = p.shape in
    let one : p.parts.0 ≡ f = cc in
    let two : p.parts.1 ≡ g = cc in
    p.premises_are ∙ ap (λ x. (A ==> equiv p.parts.1 x ∷ []) ∷ []) one ∙ ap (λ x. (A ==> equiv x f ∷ []) ∷ []) two

pub of_implyR : (f g : Tree) (premises : List Sequent) → Premises (ImplyR 1) (alone_right (imply f g)) premises → premises ≡ (f ∷ [] ==> g ∷ []) ∷ []
of_implyR f g premises p =
    let shape : At (imply f g ∷ []) 1 (imply p.parts.0 p.parts.1) = p.shape in
    let one : p.parts.0 ≡ f = cc in
    let two : p.parts.1 ≡ g = cc in
    p.premises_are ∙ ap (λ x. (x ∷ [] ==> p.parts.1 ∷ []) ∷ []) one ∙ ap (λ x. (f ∷ [] ==> x ∷ []) ∷ []) two

pub of_cut : (A S : List Tree) (h : Tree) (premises : List Sequent) → Premises (Cut h) (A ==> S) premises →
    premises ≡ (A ++ h ∷ [] ==> S) ∷ (A ==> S ++ h ∷ []) ∷ []
of_cut A S h premises p = p.premises_are

-- an implication at the second place on the left
pub of_implyL : (b f g : Tree) (S : List Tree) (premises : List Sequent) → Premises (ImplyL 2) (b ∷ imply f g ∷ [] ==> S) premises →
    premises ≡ (b ∷ [] ==> S ++ f ∷ []) ∷ (b ∷ g ∷ [] ==> S) ∷ []
of_implyL b f g S premises p =
    let shape : At (b ∷ imply f g ∷ []) 2 (imply p.parts.0 p.parts.1) = p.shape in
    let one : p.parts.0 ≡ f = cc in
    let two : p.parts.1 ≡ g = cc in
    p.premises_are ∙ ap (λ x. (b ∷ [] ==> S ++ x ∷ []) ∷ (b ∷ p.parts.1 ∷ [] ==> S) ∷ []) one ∙ ap (λ x. (b ∷ [] ==> S ++ f ∷ []) ∷ (b ∷ x ∷ [] ==> S) ∷ []) two

-- closing by a formula that stands at both places
pub of_close : (i j : ℕ) (s : Sequent) (premises : List Sequent) → Premises (Close i j) s premises → premises ≡ []
of_close i j s premises p = p.premises_are

pub closes : (i j : ℕ) (s : Sequent) (f : Tree) → At s.ante i f → At s.succ j f → ¬ RuleAgainst NotEqual (Close i j) s
closes i j s f left right u = u.2 (at_one s.ante i u.0.0 f u.1.0 left ∙ sym (at_one s.succ j u.0.1 f u.1.1 right))
