-- What had to be wanted for a part to come, and the byte that comes behind whole parts.
use Rattle.std.proofs.Common.{◌≡◌, ℕ, ◌≤◌, nat_le, Bool, true, false, List, [], ◌∷◌, ◌++◌, Option, Some, None, refl, sym, ap, subst, ◌∙◌}
use Rattle.std.proofs.Common.{if◌then◌else◌, option_and_then}
use Rattle.std.proofs.lemmas.Bool.{leb-true, both_ways}
use Rattle.dlk_tree.specs.Names.{is_letter, is_name_byte, is_name}
use Rattle.dlk_grammar.specs.Tokens.{is_digit, value}
use Rattle.dlk_scripts.specs.declared.part.PartKind.{PartKind}
use Rattle.dlk_scripts.specs.declared.part.PartKind.TheVariants as kind
use Rattle.dlk_scripts.specs.declared.mode.Mode.{Mode}
use Rattle.dlk_scripts.specs.declared.mode.Mode.TheVariants as mode
use Rattle.dlk_scripts.specs.declared.mode.Opening.{Opening}
use Rattle.dlk_scripts.specs.declared.mode.Turn.{Turn}
use Rattle.dlk_scripts.specs.declared.state.Within.{Within}
use Rattle.dlk_scripts.specs.declared.state.Within.TheVariants.{Between, Slash, Comment, CommentStar, Name, Number, Quoted, Less, Quote}
use Rattle.dlk_scripts.specs.declared.state.State.{State}
use Rattle.dlk_scripts.specs.Table.{when, top, leads, wants_name, wants_number, wants_first, wants_argument, wants_fork}
use Rattle.dlk_scripts.specs.Steps.{turned, take, grows, digits_go_on, start, ends_name, ends_number, then_starts, step_in, settle_in}
use Rattle.dlk_scripts.proofs.Reached.{when_so}
use Rattle.dlk_scripts.proofs.Stepped.{same_some}
use Rattle.dlk_scripts.proofs.Reading.{letter_is, no_name_no_digit}

-- what may come behind a name, and behind a number
abbrev Calm : Option Turn → Type 0
Calm None = Unit {0}
Calm (Some t) = (wants_name t.mode ≡ false) × (wants_number t.mode ≡ false)

name_turn : (m : Mode) (o : Option Opening) (w : List ℕ) → Calm (leads m o (kind.Name w))
name_turn mode.Wants o w = (refl, refl)
name_turn mode.Next o w = (refl, refl)
name_turn mode.Named o w = tt
name_turn (mode.After n) o w = tt
name_turn (mode.Starred n) o w = tt
name_turn mode.Argument o w = (refl, refl)
name_turn mode.Signed o w = tt
name_turn mode.Place o w = tt
name_turn mode.Pointed o w = tt
name_turn mode.Argued o w = tt

abbrev NoNumber : Option Turn → Type 0
NoNumber None = Unit {0}
NoNumber (Some t) = wants_number t.mode ≡ false

no_number_when : (b : Bool) (o : Option Turn) → NoNumber o → NoNumber (when b o)
no_number_when true o h = h
no_number_when false o h = tt

number_turn : (m : Mode) (o : Option Opening) (v : ℕ) → NoNumber (leads m o (kind.Number v))
number_turn mode.Wants o v = tt
number_turn mode.Next o v = tt
number_turn mode.Named o v = tt
number_turn (mode.After n) o v = tt
number_turn (mode.Starred n) o v = refl
number_turn mode.Argument o v = no_number_when (nat_le 1 v) _ refl
number_turn mode.Signed o v = no_number_when (nat_le 1 v) _ refl
number_turn mode.Place o v = tt
number_turn mode.Pointed o v = refl
number_turn mode.Argued o v = tt

-- what had to be wanted for a part to come
abbrev pub Asks : Type 0 → Option Turn → Type 0
Asks P None = Unit {0}
Asks P (Some t) = P

pub name_asks : (m : Mode) (o : Option Opening) (w : List ℕ) → Asks (wants_name m ≡ true) (leads m o (kind.Name w))
name_asks mode.Wants o w = refl
name_asks mode.Next o w = refl
name_asks mode.Argument o w = refl
name_asks _ o w = tt

pub fork_asks : (m : Mode) (o : Option Opening) → Asks (wants_fork m ≡ true) (leads m o kind.Fork)
fork_asks mode.Next o = refl
fork_asks _ o = tt

pub left_asks : (m : Mode) (o : Option Opening) → Asks (wants_argument m ≡ true) (leads m o kind.AnyLeft)
left_asks mode.Argument o = refl
left_asks _ o = tt

pub right_asks : (m : Mode) (o : Option Opening) → Asks (wants_argument m ≡ true) (leads m o kind.AnyRight)
right_asks mode.Argument o = refl
right_asks _ o = tt

pub string_asks : (m : Mode) (o : Option Opening) (s : List ℕ) → Asks (wants_argument m ≡ true) (leads m o (kind.Quoted s))
string_asks mode.Argument o s = refl
string_asks _ o s = tt

abbrev pub FitsFirst : Mode → ℕ → Type 0
FitsFirst m v = (wants_number m ≡ true) × (wants_first m ≡ true → 1 ≤ v)

first_asks : (m : Mode) (v : ℕ) (o : Option Turn) → wants_number m ≡ true → Asks (FitsFirst m v) (when (nat_le 1 v) o)
first_asks m v o w = by (nat_le 1 v) refl o
  where
    by : (b : Bool) → nat_le 1 v ≡ b → (o : Option Turn) → Asks (FitsFirst m v) (when b o)
    by true e None = tt
    by true e (Some t) = (w, λ f. leb-true 1 v e)
    by false e o = tt

pub number_asks : (m : Mode) (o : Option Opening) (v : ℕ) → Asks (FitsFirst m v) (leads m o (kind.Number v))
number_asks (mode.Starred n) o v = (refl, λ e. absurd (cc))
number_asks mode.Argument o v = first_asks mode.Argument v _ refl
number_asks mode.Signed o v = first_asks mode.Signed v _ refl
number_asks mode.Pointed o v = (refl, λ e. absurd (cc))
number_asks _ o v = tt

pub asked : (P : Type 0) (o : Option Turn) (t : Turn) → Asks P o → o ≡ Some t → P
asked P None t a e = absurd (cc)
asked P (Some u) t a e = a

calm_at : (o : Option Turn) (t : Turn) → Calm o → o ≡ Some t → (wants_name t.mode ≡ false) × (wants_number t.mode ≡ false)
calm_at None t c e = absurd (cc)
calm_at (Some u) t c e = let same : u ≡ t = cc in subst (λ (v : Turn). (wants_name v.mode ≡ false) × (wants_number v.mode ≡ false)) same c

no_number_at : (o : Option Turn) (t : Turn) → NoNumber o → o ≡ Some t → wants_number t.mode ≡ false
no_number_at None t c e = absurd (cc)
no_number_at (Some u) t c e = let same : u ≡ t = cc in subst (λ (v : Turn). wants_number v.mode ≡ false) same c

-- what was taken led somewhere
record TookTurn (y : State) (k : PartKind) (z : State) : Type 0 where
  there : Turn
  leads_there : leads y.mode (top y.opens) k ≡ Some there
  mode_is : there.mode ≡ z.mode

took_turn : (y : State) (k : PartKind) (at : ℕ) (z : State) → take y k at ≡ Some z → TookTurn y k z
took_turn y k at z e = from (leads y.mode (top y.opens) k) refl e
  where
    use_turn : (t : Turn) → leads y.mode (top y.opens) k ≡ Some t → turned y k at t ≡ z → TookTurn y k z
    use_turn t l s = record { there = t; leads_there = l; mode_is = ap (λ (v : State). v.mode) s }

    from : (o : Option Turn) → leads y.mode (top y.opens) k ≡ o → option_and_then (λ t. Some (turned y k at t)) o ≡ Some z → TookTurn y k z
    from None l d = absurd (cc)
    from (Some t) l d = use_turn t l (same_some (turned y k at t) z d)

after_name : (y z : State) → ends_name y ≡ Some z → (wants_name z.mode ≡ false) × (wants_number z.mode ≡ false)
after_name y z e = when_so (is_name y.buffer) _ z e (λ t h.
    let w = took_turn y (kind.Name y.buffer) y.begin z h in
    let c = calm_at _ w.there (name_turn y.mode (top y.opens) y.buffer) w.leads_there in
    (ap wants_name (sym w.mode_is) ∙ c.0, ap wants_number (sym w.mode_is) ∙ c.1))

after_number : (y z : State) → ends_number y ≡ Some z → wants_number z.mode ≡ false
after_number y z e =
    let w = took_turn y (kind.Number (value y.buffer)) y.begin z e in
    ap wants_number (sym w.mode_is) ∙ no_number_at _ w.there (number_turn y.mode (top y.opens) (value y.buffer)) w.leads_there

number_stops : (y z : State) (n b : ℕ) → ends_number y ≡ Some z → is_digit b ≡ false → step_in Number y n b ≡ start z n b
number_stops y z n b e h =
    ap (λ (v : Bool). if v then when (digits_go_on y.mode (y.buffer ++ b ∷ [])) (Some (grows y b)) else then_starts (ends_number y) n b) h
    ∙ ap (λ (o : Option State). then_starts o n b) e

-- a byte behind whole parts, where it goes on with no name and no number
pub clear : (w : Within) (y z : State) (n b : ℕ) → settle_in w y ≡ Some z → is_name_byte b ≡ false → step_in w y n b ≡ start z n b
clear Between y z n b e h = ap (λ (u : State). start u n b) (same_some y z e)
clear Name y z n b e h = rw (h, e) refl
clear Number y z n b e h = number_stops y z n b e (no_name_no_digit b h)
clear Slash y z n b e h = absurd (cc)
clear Comment y z n b e h = absurd (cc)
clear CommentStar y z n b e h = absurd (cc)
clear Quoted y z n b e h = absurd (cc)
clear Less y z n b e h = absurd (cc)
clear Quote y z n b e h = absurd (cc)

pub begins_name : (w : Within) (y z : State) (n b : ℕ) → settle_in w y ≡ Some z → is_letter b ≡ true → wants_name z.mode ≡ true → step_in w y n b ≡ start z n b
begins_name Between y z n b e l h = ap (λ (u : State). start u n b) (same_some y z e)
begins_name Name y z n b e l h = absurd (both_ways (wants_name z.mode) (after_name y z e).0 h)
begins_name Number y z n b e l h = number_stops y z n b e (letter_is b l).2
begins_name Slash y z n b e l h = absurd (cc)
begins_name Comment y z n b e l h = absurd (cc)
begins_name CommentStar y z n b e l h = absurd (cc)
begins_name Quoted y z n b e l h = absurd (cc)
begins_name Less y z n b e l h = absurd (cc)
begins_name Quote y z n b e l h = absurd (cc)

pub begins_number : (w : Within) (y z : State) (n b : ℕ) → settle_in w y ≡ Some z → wants_number z.mode ≡ true → step_in w y n b ≡ start z n b
begins_number Between y z n b e h = ap (λ (u : State). start u n b) (same_some y z e)
begins_number Name y z n b e h = absurd (both_ways (wants_number z.mode) (after_name y z e).1 h)
begins_number Number y z n b e h = absurd (both_ways (wants_number z.mode) (after_number y z e) h)
begins_number Slash y z n b e h = absurd (cc)
begins_number Comment y z n b e h = absurd (cc)
begins_number CommentStar y z n b e h = absurd (cc)
begins_number Quoted y z n b e h = absurd (cc)
begins_number Less y z n b e h = absurd (cc)
begins_number Quote y z n b e h = absurd (cc)
