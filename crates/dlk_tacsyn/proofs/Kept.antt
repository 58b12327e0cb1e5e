-- Strategies over ids stay what they stand for while the store grows, and are made of their parts.
use Rattle.std.proofs.Common.{◌≡◌, ◌≢◌, ℕ, ◌<◌, List, [], ◌∷◌, length, map, fold, All, Vec, Global, Result, Ok, Err, refl, sym, ap, ◌∙◌, subst, arith, ◌≤◌}
use Rattle.std.specs.Prelude.{IfOk, IfErr}
use Rattle.std.proofs.lemmas.List.{length-map}
use Rattle.std.proofs.lemmas.List.Elements.{All-nil, All-cons, All-head, All-tail}
use mathlib.Core.Former.{Count}
use Rattle.dlk_tree.specs.Trees.{Tree}
use Rattle.dlk_store.specs.Stores.{Keeps, IsId}
use Rattle.dlk_sequent.specs.declared.subst.Pair.{Pair}
use Rattle.dlk_sequent.specs.declared.extra.Extra.{Extra}
use Rattle.dlk_sequent.specs.Substitutions.{pair_at}
use Rattle.dlk_sequent.specs.Extras.{extra_at, IsKnownExtra}
use Rattle.dlk_tacsyn.specs.declared.tactic.Arg.{Arg}
use Rattle.dlk_tacsyn.specs.declared.tactic.Arg.TheVariants as arg
use Rattle.dlk_tacsyn.specs.declared.tactic.Tactic.{Tactic, Choice, Seq, Branch, One, Choice', Seq', Branch', Repeat', Row_of-Tactic, end_of-Tactic}
use Rattle.dlk_tacsyn.specs.declared.tactic.Tactic.{more_of-Tactic, items-the_row-Tactic, items_hidden-the_row-Tactic-0}
use Rattle.dlk_tacsyn.specs.declared.frame.Frame.{Frame}
use Rattle.dlk_tacsyn.specs.declared.frame.Brackets.{Brackets}
use Rattle.dlk_tacsyn.specs.Tactics.{GivenFormula, GivenTerm, GivenExtra, Tactics, part}
use Rattle.dlk_tacsyn.specs.Tactics as the
use Rattle.dlk_tacsyn.specs.Strategies.{parts, whole}
use Rattle.dlk_tacsyn.specs.Ties.{argument_at, ArgumentIsKnown, tactic_at, tactics_at, TacticIsKnown, TacticsAreKnown}
use Rattle.dlk_tacsyn.specs.Steps.{Stack, bottom, within}
use Rattle.dlk_tacsyn.specs.States.{frame_at, stack_at, FrameIsKnown, BracketsAreKnown}

pub err_map : {A E : Type 0} (P Q : E → Type 0) → ((e : E) → P e → Q e) → (r : Result A E) → IfErr r P → IfErr r Q
err_map P Q h (Ok a) p = tt
err_map P Q h (Err e) p = h e p

pub ok_map : {A E : Type 0} (P Q : A → Type 0) → ((a : A) → P a → Q a) → (r : Result A E) → IfOk r P → IfOk r Q
ok_map P Q h (Ok a) p = h a p
ok_map P Q h (Err e) p = tt

abbrev pub row_in : Tactic → (n : Count) × Row_of-Tactic n
row_in (Choice' _ row) = (_, row)
row_in (Seq' _ row) = (_, row)
row_in (Branch' at _ row) = (_, row)
row_in _ = (_, end_of-Tactic)

module _ (trees : List Tree) where
  rows : (n : _) (row : Row_of-Tactic n) → tactics_at trees row ≡ parts (map (tactic_at trees) (items-the_row-Tactic n row))
  rows n end_of-Tactic = refl
  rows n (more_of-Tactic t rest) = ap (part (tactic_at trees t)) (rows _ rest)

  known_rows : (n : _) (row : Row_of-Tactic n) → All (TacticIsKnown trees) (items-the_row-Tactic n row) → TacticsAreKnown trees row
  known_rows n end_of-Tactic all = tt
  known_rows n (more_of-Tactic t rest) all =
      (All-head (TacticIsKnown trees) t _ all, known_rows _ rest (All-tail (TacticIsKnown trees) t _ all))

  pub choice_at : (ts : Vec Tactic Global) → tactic_at trees (Choice ts) ≡ the.Choice (parts (map (tactic_at trees) ts.items))
  choice_at ts =
      let row = row_in (Choice ts) in
      ap the.Choice (rows row.0 row.1 ∙ ap (λ items. parts (map (tactic_at trees) items)) (items_hidden-the_row-Tactic-0 ts))

  pub sequence_at : (ts : Vec Tactic Global) → tactic_at trees (Seq ts) ≡ the.Sequence (parts (map (tactic_at trees) ts.items))
  sequence_at ts =
      let row = row_in (Choice ts) in
      ap the.Sequence (rows row.0 row.1 ∙ ap (λ items. parts (map (tactic_at trees) items)) (items_hidden-the_row-Tactic-0 ts))

  pub branch_at : (at : ℕ) (ts : Vec Tactic Global) → tactic_at trees (Branch at ts) ≡ the.Branch at (parts (map (tactic_at trees) ts.items))
  branch_at at ts =
      let row = row_in (Choice ts) in
      ap (the.Branch at) (rows row.0 row.1 ∙ ap (λ items. parts (map (tactic_at trees) items)) (items_hidden-the_row-Tactic-0 ts))

  -- the same of a sequence and of a branch, which compute to it
  pub choice_known : (ts : Vec Tactic Global) → All (TacticIsKnown trees) ts.items → TacticIsKnown trees (Choice ts)
  choice_known ts all =
      let row = row_in (Choice ts) in
      known_rows row.0 row.1 (subst (All (TacticIsKnown trees)) (sym (items_hidden-the_row-Tactic-0 ts)) all)

  pub sequence_known : (ts : Vec Tactic Global) → All (TacticIsKnown trees) ts.items → TacticIsKnown trees (Seq ts)
  sequence_known ts all = choice_known ts all

  pub branch_known : (at : ℕ) (ts : Vec Tactic Global) → All (TacticIsKnown trees) ts.items → TacticIsKnown trees (Branch at ts)
  branch_known at ts all = choice_known ts all

  several : (make : Tactics → the.Tactic) (ts : List the.Tactic) → length ts ≢ 1 → make (parts ts) ≡ whole make ts
  several make [] more = refl
  several make (t ∷ []) more = absurd (more refl)
  several make (t ∷ u ∷ ts) more = refl

  -- what is made of several parts is the whole of them
  pub made_whole : (make : Tactics → the.Tactic) (t : Tactic) (ts ps : List Tactic) → ts ≡ ps → length ts ≢ 1 →
      tactic_at trees t ≡ make (parts (map (tactic_at trees) ts)) → tactic_at trees t ≡ whole make (map (tactic_at trees) ps)
  made_whole make t ts ps same more made =
      made ∙ several make (map (tactic_at trees) ts) (λ e. more (sym (length-map ts (tactic_at trees)) ∙ e))
      ∙ ap (λ items. whole make (map (tactic_at trees) items)) same

below : (m n : ℕ) (k : ℕ) → m ≤ n → k < m → k < n
below m n k le lt = omega arith

map_same : {A B : Type 0} (f g : A → B) (P : A → Type 0) → ((a : A) → P a → f a ≡ g a) → (xs : List A) → All P xs → map f xs ≡ map g xs
map_same f g P h [] all = refl
map_same f g P h (x ∷ xs) all = λ i. h x (All-head P x xs all) i ∷ map_same f g P h xs (All-tail P x xs all) i

all_still : {A : Type 0} (P Q : A → Type 0) → ((a : A) → P a → Q a) → (xs : List A) → All P xs → All Q xs
all_still P Q h [] all = All-nil Q
all_still P Q h (x ∷ xs) all = All-cons Q x xs (h x (All-head P x xs all)) (all_still P Q h xs (All-tail P x xs all))

module _ (old new : List Tree) (keeps : Keeps old new) where
  pair_known : (p : Pair) → IsId old p.by → IsId new p.by
  pair_known p k = below (length old) (length new) p.by.0 keeps.known k

  pair_kept : (p : Pair) → IsId old p.by → pair_at new p ≡ pair_at old p
  pair_kept p k = ap (λ t. record { sym = p.sym; by = t }) (keeps.same p.by k)

  extra_known : (extra : Extra) → IsKnownExtra old extra → IsKnownExtra new extra
  extra_known extra k = all_still (λ (p : Pair). IsId old p.by) (λ (p : Pair). IsId new p.by) pair_known extra.pairs k

  extra_kept : (extra : Extra) → IsKnownExtra old extra → extra_at new extra ≡ extra_at old extra
  extra_kept extra k =
      ap (λ pairs. record { renames = extra.renames; pairs = pairs })
      (map_same (pair_at new) (pair_at old) (λ (p : Pair). IsId old p.by) pair_kept extra.pairs k)

  pub argument_known : (a : Arg) → ArgumentIsKnown old a → ArgumentIsKnown new a
  argument_known (arg.At place path) k = tt
  argument_known arg.AnyLeft k = tt
  argument_known arg.AnyRight k = tt
  argument_known (arg.Word name) k = tt
  argument_known (arg.Formula id) k = below (length old) (length new) id.0 keeps.known k
  argument_known (arg.Term id) k = below (length old) (length new) id.0 keeps.known k
  argument_known (arg.With extra) k = extra_known extra k

  argument_kept : (a : Arg) → ArgumentIsKnown old a → argument_at new a ≡ argument_at old a
  argument_kept (arg.At place path) k = refl
  argument_kept arg.AnyLeft k = refl
  argument_kept arg.AnyRight k = refl
  argument_kept (arg.Word name) k = refl
  argument_kept (arg.Formula id) k = ap (λ t. GivenFormula t) (keeps.same id k)
  argument_kept (arg.Term id) k = ap (λ t. GivenTerm t) (keeps.same id k)
  argument_kept (arg.With extra) k = ap (λ e. GivenExtra e) (extra_kept extra k)

  pub arguments_kept : (all : List Arg) → All (ArgumentIsKnown old) all → map (argument_at new) all ≡ map (argument_at old) all
  arguments_kept all k = map_same (argument_at new) (argument_at old) (ArgumentIsKnown old) argument_kept all k

  pub arguments_known : (all : List Arg) → All (ArgumentIsKnown old) all → All (ArgumentIsKnown new) all
  arguments_known all k = all_still (ArgumentIsKnown old) (ArgumentIsKnown new) argument_known all k

  mutual
    pub tactic_kept : (t : Tactic) → TacticIsKnown old t → tactic_at new t ≡ tactic_at old t
    tactic_kept (Choice' shape all) k = ap (λ ts. the.Choice ts) (row_kept _ all k)
    tactic_kept (Seq' shape all) k = ap (λ ts. the.Sequence ts) (row_kept _ all k)
    tactic_kept (Branch' at shape all) k = ap (λ ts. the.Branch at ts) (row_kept _ all k)
    tactic_kept (Repeat' place body times) k = ap (λ b. the.Repeat b times) (tactic_kept body k)
    tactic_kept (One atom) k = ap (λ all. the.One (record { name = atom.name; arguments = all; at = atom.at })) (arguments_kept atom.args k)

    row_kept : (n : _) (row : Row_of-Tactic n) → TacticsAreKnown old row → tactics_at new row ≡ tactics_at old row
    row_kept n end_of-Tactic k = refl
    row_kept n (more_of-Tactic t rest) k = λ i. part (tactic_kept t k.0 i) (row_kept _ rest k.1 i)

  mutual
    pub tactic_known : (t : Tactic) → TacticIsKnown old t → TacticIsKnown new t
    tactic_known (Choice' shape all) k = row_known _ all k
    tactic_known (Seq' shape all) k = row_known _ all k
    tactic_known (Branch' at shape all) k = row_known _ all k
    tactic_known (Repeat' place body times) k = tactic_known body k
    tactic_known (One atom) k = arguments_known atom.args k

    row_known : (n : _) (row : Row_of-Tactic n) → TacticsAreKnown old row → TacticsAreKnown new row
    row_known n end_of-Tactic k = tt
    row_known n (more_of-Tactic t rest) k = (tactic_known t k.0, row_known _ rest k.1)

  tactics_kept : (ts : List Tactic) → All (TacticIsKnown old) ts → map (tactic_at new) ts ≡ map (tactic_at old) ts
  tactics_kept ts k = map_same (tactic_at new) (tactic_at old) (TacticIsKnown old) tactic_kept ts k

  pub frame_kept : (f : Frame) → FrameIsKnown old f → frame_at new f ≡ frame_at old f
  frame_kept f k = λ i. record {
    opened = f.opened;
    level = f.level;
    branches = tactics_kept f.branches.items k.branches i;
    choices = tactics_kept f.choices.items k.choices i;
    steps = tactics_kept f.steps.items k.steps i;
  }

  pub frame_known : (f : Frame) → FrameIsKnown old f → FrameIsKnown new f
  frame_known f k = record {
    branches = all_still (TacticIsKnown old) (TacticIsKnown new) tactic_known f.branches.items k.branches;
    choices = all_still (TacticIsKnown old) (TacticIsKnown new) tactic_known f.choices.items k.choices;
    steps = all_still (TacticIsKnown old) (TacticIsKnown new) tactic_known f.steps.items k.steps;
  }

  stack_kept_on : (fs : List Frame) (s u : Stack) → s ≡ u → All (FrameIsKnown old) fs →
      fold (λ s f. within s (frame_at new f)) s fs ≡ fold (λ s f. within s (frame_at old f)) u fs
  stack_kept_on [] s u e k = e
  stack_kept_on (f ∷ fs) s u e k =
      stack_kept_on fs (within s (frame_at new f)) (within u (frame_at old f)) (λ i. within (e i) (frame_kept f (All-head (FrameIsKnown old) f fs k) i))
      (All-tail (FrameIsKnown old) f fs k)

  pub stack_kept : (fs : List Frame) → All (FrameIsKnown old) fs → stack_at new fs ≡ stack_at old fs
  stack_kept fs k = stack_kept_on fs bottom bottom refl k

  pub brackets_known : (b : Brackets) → BracketsAreKnown old b → BracketsAreKnown new b
  brackets_known b k = record {
    outer = all_still (FrameIsKnown old) (FrameIsKnown new) frame_known b.outer.items k.outer;
    inner = frame_known b.inner k.inner;
  }
