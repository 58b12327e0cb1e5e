-- Texts of renames and pairs with what they say, and texts that are none, with where they stop.
use Rattle.std.specs.Prelude.{◌≡◌, refl, false, [], ◌∷◌, Ok, Err, codes}
use Rattle.dlk_tree.specs.declared.op.Num.{Num}
use Rattle.dlk_tree.specs.declared.op.Kind.TheVariants.{UnitFunc, UnitPred}
use Rattle.dlk_grammar.specs.declared.token.Dots.TheVariants.{Allowed}
use Rattle.dlk_grammar.specs.declared.token.Infix.TheVariants.{Greater, AtLeast}
use Rattle.dlk_grammar.specs.Lexemes.{Word, Name, Number, RoundBar, BarRound, RoundBars, Open, Close, Comma, Becomes, Swaps, Op}
use Rattle.dlk_grammar.specs.Phrases.{Everywhere, Except, Literal, Variable, Binary}
use Rattle.dlk_grammar.specs.Erased.{symbol}
use Rattle.dlk_grammar.specs.Substitutions.{to}
use Rattle.dlk_machine.specs.Parse.{parse}
use Rattle.dlk_machine.specs.Extras.{extra_reader}

abbrev a : Word
a = codes "a"

abbrev p : Word
p = codes "p"

abbrev r : Word
r = codes "r"

abbrev x : Word
x = codes "x_"

abbrev y : Word
y = codes "y"

abbrev z : Word
z = codes "z"

abbrev zero : Num
zero = record { digits = 0; scale = 0 }

abbrev one : Num
one = record { digits = 1; scale = 0 }

-- nothing
nothing : parse Allowed extra_reader [] ≡ Ok (record { renames = []; pairs = [] })
nothing = refl

-- x_~~y
a_rename : parse Allowed extra_reader (Name 0 x ∷ Swaps ∷ Name 2 y ∷ []) ≡ Ok (record { renames = (x, y) ∷ []; pairs = [] })
a_rename = refl

-- x_~~y,y~~z: renames in order.
two_renames : parse Allowed extra_reader (Name 0 x ∷ Swaps ∷ Name 2 y ∷ Comma ∷ Name 4 y ∷ Swaps ∷ Name 6 z ∷ [])
    ≡ Ok (record { renames = (x, y) ∷ (y, z) ∷ []; pairs = [] })
two_renames = refl

-- x_~~y,a(|y|)~>1: a pair behind a rename.
rename_and_pair : parse Allowed extra_reader
    (Name 0 x ∷ Swaps ∷ Name 2 y ∷ Comma ∷ Name 4 a ∷ RoundBar ∷ Name 6 y ∷ BarRound ∷ Becomes ∷ Number one ∷ [])
    ≡ Ok (record { renames = (x, y) ∷ []; pairs = to (symbol UnitFunc a 0 (Except y)) (Literal one) ∷ [] })
rename_and_pair = refl

-- r(||)~>x_>=0: a pair alone.
a_pair : parse Allowed extra_reader (Name 0 r ∷ RoundBars ∷ Becomes ∷ Name 3 x ∷ Op AtLeast ∷ Number zero ∷ [])
    ≡ Ok (record { renames = []; pairs = to (symbol UnitPred r 0 Everywhere) (Binary AtLeast (Variable x false) (Literal zero)) ∷ [] })
a_pair = refl

-- x_~~y, lacks a rename or a pair.
open_list : parse Allowed extra_reader (Name 0 x ∷ Swaps ∷ Name 2 y ∷ Comma ∷ []) ≡ Err 4
open_list = refl

-- x_~~ lacks a name.
no_name : parse Allowed extra_reader (Name 0 x ∷ Swaps ∷ []) ≡ Err 2
no_name = refl

-- x_ alone is neither.
bare_name : parse Allowed extra_reader (Name 0 x ∷ []) ≡ Err 1
bare_name = refl

-- x_~~y x_: a comma stands between.
no_comma : parse Allowed extra_reader (Name 0 x ∷ Swaps ∷ Name 2 y ∷ Name 3 x ∷ []) ≡ Err 3
no_comma = refl

-- p()~>x_>0,x_~~y: no rename stands behind a pair.
rename_behind : parse Allowed extra_reader
    (Name 0 p ∷ Open ∷ Close ∷ Becomes ∷ Name 4 x ∷ Op Greater ∷ Number zero ∷ Comma ∷ Name 8 x ∷ Swaps ∷ Name 10 y ∷ []) ≡ Err 9
rename_behind = refl
