-- What the details of operators say.
use Rattle.std.specs.Prelude.{◌≡◌, ℕ, ◌+◌, ◌≤◌, List, length, ◌++◌, Bool, ◌&&◌, nat_lt, IsTrue, Option, codes}
use Rattle.std.specs.List.{list_all, join_by}
use Rattle.std.specs.Fmt.{decimal}
use Rattle.dlk_tree.specs.declared.op.Num.{Num}
use Rattle.dlk_tree.specs.declared.op.Var.{Var}
use Rattle.dlk_tree.specs.declared.op.OdeItem.{OdeItem}
use Rattle.dlk_tree.specs.declared.op.Op.{Op}
use Rattle.dlk_tree.specs.Names.{is_name}
use Rattle.dlk_tree.specs.Table.{taboo_is_name, is_num, is_item, are_items, has_parts}
use Rattle.dlk_grammar.specs.Shown.{literal}
use Rattle.dlk_grammar.specs.Tokens.{is_digit}
use Rattle.dlk_nodes.specs.Words.{variable_text, unit_text, constant_text, item_text, detail_text, call_of}
use Rattle.dlk_nodes.specs.Nodes.{TakesKids}

-- Spells is_real text_of text x: the text is that of x, which is as it must be
pub record Spells {A : Type 0} (is_real : A → Bool) (text_of : A → List ℕ) (text : List ℕ) (x : A) : Type 0 where
  pub real : IsTrue (is_real x)
  pub text_is : text ≡ text_of x

abbrev pub SpellsName : List ℕ → List ℕ → Type 0
SpellsName text x = Spells is_name (λ y. y) text x

abbrev pub SpellsVariable : List ℕ → Var → Type 0
SpellsVariable text v = Spells (λ (v : Var). is_name v.name) variable_text text v

abbrev pub SpellsNumber : List ℕ → Num → Type 0
SpellsNumber text n = Spells is_num literal text n

-- digits before and behind a point that may be those of a number
pub record AreFewDigits (integer fraction : List ℕ) : Type 0 where
  pub integer_digits : IsTrue (list_all is_digit integer)
  pub fraction_digits : IsTrue (list_all is_digit fraction)
  pub few : length integer + length fraction ≤ 38

abbrev pub SpellsDot : List ℕ → ℕ → Type 0
SpellsDot text n = Spells (λ n. nat_lt n 8) decimal text n

-- a unit symbol's name and its taboo
abbrev pub SpellsUnit : List ℕ → List ℕ × Option (List ℕ) → Type 0
SpellsUnit text u = Spells (λ (u : List ℕ × Option (List ℕ)). is_name u.0 && taboo_is_name u.1) (λ u. unit_text u.0 u.1) text u

-- and those of a constant in a system
abbrev pub SpellsConstant : List ℕ → List ℕ × Option (List ℕ) → Type 0
SpellsConstant text u = Spells (λ (u : List ℕ × Option (List ℕ)). is_name u.0 && taboo_is_name u.1) (λ u. constant_text u.0 u.1) text u

abbrev pub SpellsItem : List ℕ → OdeItem → Type 0
SpellsItem text i = Spells is_item item_text text i

-- the items of a system
abbrev pub SpellsItems : List ℕ → List OdeItem → Type 0
SpellsItems text items = Spells are_items (join_by item_text (codes ",")) text items

-- the operators of a word with this detail over so many kids, as far as their own parts go
pub record IsCall (word detail : List ℕ) (kids : ℕ) (op : Op) : Type 0 where
  pub word_is : (call_of op).0 ≡ word
  pub detail_is : detail_text (call_of op).1 ≡ codes " " ++ detail
  pub parts : IsTrue (has_parts op)
  pub arity : TakesKids op kids
