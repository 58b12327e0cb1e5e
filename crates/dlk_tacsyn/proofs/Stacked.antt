-- Brackets that are known.
use Rattle.std.proofs.Common.{◌≡◌, List, [], ◌∷◌, ◌++◌, All, subst}
use Rattle.std.proofs.lemmas.List.Elements.{All-nil, All-cons, All-head, All-tail}
use Rattle.dlk_tree.specs.Trees.{Tree}
use Rattle.dlk_tacsyn.specs.declared.frame.Frame.{Frame}
use Rattle.dlk_tacsyn.specs.States.{FrameIsKnown}

front_all : {A : Type 0} (P : A → Type 0) (xs : List A) (x : A) → All P (xs ++ x ∷ []) → All P xs
front_all P [] x all = All-nil P
front_all P (y ∷ ys) x all = All-cons P y ys (All-head P y (ys ++ x ∷ []) all) (front_all P ys x (All-tail P y (ys ++ x ∷ []) all))

last_all : {A : Type 0} (P : A → Type 0) (xs : List A) (x : A) → All P (xs ++ x ∷ []) → P x
last_all P [] x all = All-head P x [] all
last_all P (y ∷ ys) x all = last_all P ys x (All-tail P y (ys ++ x ∷ []) all)

pub known_before : (trees : List Tree) (old new : List Frame) (f : Frame) → old ≡ new ++ f ∷ [] → All (FrameIsKnown trees) old → All (FrameIsKnown trees) new
known_before trees old new f e all = front_all (FrameIsKnown trees) new f (subst (All (FrameIsKnown trees)) e all)

pub known_last : (trees : List Tree) (old new : List Frame) (f : Frame) → old ≡ new ++ f ∷ [] → All (FrameIsKnown trees) old → FrameIsKnown trees f
known_last trees old new f e all = last_all (FrameIsKnown trees) new f (subst (All (FrameIsKnown trees)) e all)
