-- The locators of arguments, and places put for them.
use Rattle.std.proofs.Common.{◌≡◌, ℕ, ◌+◌, ◌<◌, ◌≤◌, List, [], ◌∷◌, ◌++◌, map, take, drop, length, get_or, refl, sym, ap, ◌∙◌, Option, Some, None}
use Rattle.std.specs.List.{All}
use Rattle.std.specs.Option.{is_some}
use Rattle.std.specs.Prelude.{true, false}
use Rattle.std.proofs.lemmas.List.{map-append, drop_all, take_more}
use Rattle.std.proofs.lemmas.List.Elements.{All-push, All-get_or}
use Rattle.dlk_tree.specs.Trees.{Tree}
use Rattle.dlk_rules.specs.declared.arguments.Side.{Side}
use Rattle.dlk_tacsyn.specs.declared.tactic.Arg.{Arg}
use Rattle.dlk_tacsyn.specs.Ties.{argument_at, ArgumentIsKnown}
use Rattle.dlk_strategy.specs.Runs.{or_other, side, side_of, put_place}
use Rattle.dlk_strategy.proofs.States.{item_here}

-- the side is that of the arguments from this one on
abbrev pub So : List Arg → ℕ → Type 0
So args i = (trees : List Tree) → side (map (argument_at trees) args) ≡ side (map (argument_at trees) (drop i args))

from_here : (args : List Arg) (i : ℕ) (a : Arg) (found : Option Side) → So args i → i < length args → a ≡ get_or args i a →
    ((trees : List Tree) → found ≡ side_of (argument_at trees a)) →
    (trees : List Tree) → side (map (argument_at trees) args) ≡ or_other found (side (map (argument_at trees) (drop (i + 1) args)))
from_here args i a found so lt is its trees =
    so trees ∙ ap (λ xs. side (map (argument_at trees) xs)) (item_here args i a lt is)
    ∙ ap (λ o. or_other o (side (map (argument_at trees) (drop (i + 1) args)))) (sym (its trees))

first_of_some : (found other : Option Side) → is_some found ≡ true → or_other found other ≡ found
first_of_some (Some s) other h = refl
first_of_some None other h = absurd (cc h)

first_of_none : (found other : Option Side) → is_some found ≡ false → or_other found other ≡ other
first_of_none (Some s) other h = absurd (cc h)
first_of_none None other h = refl

pub side_here : (args : List Arg) (i : ℕ) (a : Arg) (found : Option Side) → So args i → i < length args → a ≡ get_or args i a →
    ((trees : List Tree) → found ≡ side_of (argument_at trees a)) → is_some found ≡ true → (trees : List Tree) → found ≡ side (map (argument_at trees) args)
side_here args i a found so lt is its some trees =
    sym (from_here args i a found so lt is its trees ∙ first_of_some found (side (map (argument_at trees) (drop (i + 1) args))) some)

pub side_later : (args : List Arg) (i : ℕ) (a : Arg) (found : Option Side) → So args i → i < length args → a ≡ get_or args i a →
    ((trees : List Tree) → found ≡ side_of (argument_at trees a)) → is_some found ≡ false → So args (i + 1)
side_later args i a found so lt is its none trees =
    from_here args i a found so lt is its trees ∙ first_of_none found (side (map (argument_at trees) (drop (i + 1) args))) none

pub side_nowhere : (args : List Arg) (i : ℕ) → So args i → length args ≤ i → (trees : List Tree) → None ≡ side (map (argument_at trees) args)
side_nowhere args i so end trees = sym (so trees ∙ ap (λ xs. side (map (argument_at trees) xs)) (drop_all i args end))

pub placed_more : (trees : List Tree) (place i : ℕ) (items args new : List Arg) (a x : Arg) → i < length items → a ≡ get_or items i a → new ≡ args ++ x ∷ [] →
    map (argument_at trees) args ≡ map (put_place place) (map (argument_at trees) (take i items)) →
    argument_at trees x ≡ put_place place (argument_at trees a) →
    map (argument_at trees) new ≡ map (put_place place) (map (argument_at trees) (take (i + 1) items))
placed_more trees place i items args new a x lt is pushed so one =
    let f = argument_at trees in
    let p = put_place place in
    let left : map f new ≡ map f args ++ f x ∷ [] = ap (map f) pushed ∙ map-append f args (x ∷ []) in
    let front : take (i + 1) items ≡ take i items ++ a ∷ [] = take_more items i a lt ∙ ap (λ y. take i items ++ y ∷ []) (sym is) in
    let right : map p (map f (take (i + 1) items)) ≡ map p (map f (take i items)) ++ p (f a) ∷ [] =
    ap (λ xs. map p (map f xs)) front ∙ ap (map p) (map-append f (take i items) (a ∷ [])) ∙ map-append p (map f (take i items)) (f a ∷ []) in
    let same : map f args ++ f x ∷ [] ≡ map p (map f (take i items)) ++ p (f a) ∷ [] = λ k. so k ++ one k ∷ [] in
    left ∙ same ∙ sym right

pub known_pushed : (trees : List Tree) (i : ℕ) (items args new : List Arg) (a x : Arg) → i < length items → a ≡ get_or items i a → new ≡ args ++ x ∷ [] →
    All (ArgumentIsKnown trees) items → All (ArgumentIsKnown trees) args → (ArgumentIsKnown trees a → ArgumentIsKnown trees x) → All (ArgumentIsKnown trees) new
known_pushed trees i items args new a x lt is pushed all so one =
    let here : ArgumentIsKnown trees a = rw is (All-get_or (ArgumentIsKnown trees) items i a lt all) in
    rw pushed (All-push (ArgumentIsKnown trees) args x so (one here))
