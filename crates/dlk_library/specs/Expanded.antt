-- Strategies with what names of the library stand for in their places.
use Rattle.std.specs.Prelude.{◌≡◌, None}
use Rattle.dlk_tacsyn.specs.Tactics.{Atom, Tactic, Choice, Sequence, Branch, Repeat, One, Tactics, no_parts, part}
use Rattle.dlk_tacsyn.specs.Rows.{library_row_of}
use Rattle.dlk_library.specs.Library.{Expands}

-- what an atom becomes: what it stands for by the library, or itself
pub data Expansion (atom : Atom) : Tactic → Type 0 where
  stands_for : {t : Tactic} → Expands atom t → Expansion atom t
  itself : library_row_of atom.name ≡ None → Expansion atom (One atom)

abbrev mutual
  -- what a strategy becomes: one case a combinator
  pub Expanded : Tactic → Tactic → Type 0
  Expanded (Choice parts) t = (new : Tactics) × AllExpanded parts new × (t ≡ Choice new)
  Expanded (Sequence parts) t = (new : Tactics) × AllExpanded parts new × (t ≡ Sequence new)
  Expanded (Branch byte parts) t = (new : Tactics) × AllExpanded parts new × (t ≡ Branch byte new)
  Expanded (Repeat body times) t = (new : Tactic) × Expanded body new × (t ≡ Repeat new times)
  Expanded (One atom) t = Expansion atom t

  pub AllExpanded : Tactics → Tactics → Type 0
  AllExpanded no_parts no_parts = Unit {0}
  AllExpanded no_parts (part u us) = ⊥
  AllExpanded (part t ts) no_parts = ⊥
  AllExpanded (part t ts) (part u us) = Expanded t u × AllExpanded ts us
