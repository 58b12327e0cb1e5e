-- The sides of a sequent by the numbers of items, whatever their sorts.
use Rattle.std.specs.Prelude.{◌≡◌, ℕ, List, ◌++◌, codes}
use Rattle.dlk_lines.specs.Spelled.{NamesBefore, NamesEach}

-- numbers each before a space, the arrow, and numbers each behind a space
pub record Sides {A : Type 0} (items : List A) (text : List ℕ) (xs ys : List A) : Type 0 where
  pub left : List ℕ
  pub right : List ℕ
  pub text_is : text ≡ left ++ codes "==>" ++ right
  pub before : NamesBefore items left xs
  pub behind : NamesEach items right ys
