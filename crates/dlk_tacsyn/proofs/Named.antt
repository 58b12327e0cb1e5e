-- The names of a text are names.
use Rattle.std.proofs.Common.{ℕ, List, [], ◌∷◌, ◌++◌}
use Rattle.std.specs.Prelude.{IsTrue}
use Rattle.dlk_tree.specs.Names.{is_name}
use Rattle.dlk_scripts.specs.declared.part.Part.{Part}
use Rattle.dlk_scripts.specs.declared.part.PartKind.{PartKind}
use Rattle.dlk_scripts.specs.declared.part.PartKind.TheVariants as kind
use Rattle.dlk_scripts.specs.Parts.{Spells, open_bracket, close_bracket, fork, semicolon, bar, comma, star, minus, point, any_left, any_right, name}
use Rattle.dlk_scripts.specs.Parts.{number, string, Spelled, nothing, then_space, then_comment, then_part}
use Rattle.dlk_scripts.specs.Scripts as script
use Rattle.dlk_scripts.specs.Scripts.{argument_parts, arguments_parts}
use Rattle.dlk_tacsyn.specs.declared.argument.Written.{Written}
use Rattle.dlk_tacsyn.specs.declared.argument.Written.TheVariants as written
use Rattle.dlk_tacsyn.specs.Strategies.{written_of, all_written}

abbrev pub IsNamedKind : PartKind → Type 0
IsNamedKind (kind.Name x) = IsTrue (is_name x)
IsNamedKind _ = Unit {0}

abbrev pub AreNamedParts : List Part → Type 0
AreNamedParts [] = Unit {0}
AreNamedParts (p ∷ ps) = IsNamedKind p.kind × AreNamedParts ps

pub named_front : (ps qs : List Part) → AreNamedParts (ps ++ qs) → AreNamedParts ps
named_front [] qs h = tt
named_front (p ∷ ps) qs h = (h.0, named_front ps qs h.1)

pub named_behind : (ps qs : List Part) → AreNamedParts (ps ++ qs) → AreNamedParts qs
named_behind [] qs h = h
named_behind (p ∷ ps) qs h = named_behind ps qs h.1

named_last : (ps : List Part) (p : Part) → AreNamedParts ps → IsNamedKind p.kind → AreNamedParts (ps ++ p ∷ [])
named_last [] p h k = (k, tt)
named_last (q ∷ ps) p h k = (h.0, named_last ps p h.1 k)

named_kind : (s : List ℕ) (k : PartKind) → Spells s k → IsNamedKind k
named_kind s k open_bracket = tt
named_kind s k close_bracket = tt
named_kind s k fork = tt
named_kind s k semicolon = tt
named_kind s k bar = tt
named_kind s k comma = tt
named_kind s k star = tt
named_kind s k minus = tt
named_kind s k point = tt
named_kind s k any_left = tt
named_kind s k any_right = tt
named_kind s k (name x is) = is
named_kind s k (number x digits short) = tt
named_kind s k (string x no_quote) = tt

pub named_parts : (s : List ℕ) (ps : List Part) → Spelled s ps → AreNamedParts ps
named_parts s ps nothing = tt
named_parts s ps (then_space {s = t} b before is) = named_parts t ps before
named_parts s ps (then_comment {s = t} c before is) = named_parts t ps before
named_parts s ps (then_part {s = t} {ps = qs} p k before is) = named_last qs _ (named_parts t qs before) (named_kind p k is)

-- what is written as an argument
abbrev pub IsNamedWritten : Written → Type 0
IsNamedWritten (written.Word x) = IsTrue (is_name x)
IsNamedWritten _ = Unit {0}

abbrev pub AreNamedWritten : List Written → Type 0
AreNamedWritten [] = Unit {0}
AreNamedWritten (w ∷ ws) = IsNamedWritten w × AreNamedWritten ws

written_last : (ws : List Written) (w : Written) → AreNamedWritten ws → IsNamedWritten w → AreNamedWritten (ws ++ w ∷ [])
written_last [] w h k = (k, tt)
written_last (v ∷ ws) w h k = (h.0, written_last ws w h.1 k)

written_named : (a : script.Argument) → AreNamedParts (argument_parts a) → IsNamedWritten (written_of a)
written_named (script.At p) h = tt
written_named (script.AnyLeft at) h = tt
written_named (script.AnyRight at) h = tt
written_named (script.Word' at x) h = h.0
written_named (script.Quoted at s) h = tt

pub all_named : (l : script.Arguments) → AreNamedParts (arguments_parts l) → AreNamedWritten (all_written l)
all_named (script.OneArgument a) h = (written_named a h, tt)
all_named (script.ThenArgument l place a) h =
    written_last (all_written l) (written_of a) (all_named l (named_front (arguments_parts l) _ h)) (written_named a (named_behind (arguments_parts l) _ h).1)
