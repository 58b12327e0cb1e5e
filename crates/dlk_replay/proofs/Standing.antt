-- What a line says of its file, by the version of the file and the nodes so far.
use Rattle.std.proofs.Common.{◌≡◌, ℕ, ◌+◌, true, false, List, [], ◌∷◌, ◌++◌, length, refl, sym, ap, subst, ◌∙◌, append_assoc, arith, inl}
use Rattle.std.proofs.Common.{inr, eq-eqb}
use Rattle.std.specs.Prelude.{◌==◌, All, MatchBool, if◌then◌else◌}
use Rattle.std.proofs.lemmas.Bool.{cases_Bool, eqb-true}
use Rattle.std.proofs.lemmas.List.{length_push, length-map, map-append}
use Rattle.dlk_tree.specs.Trees.{Tree}
use Rattle.dlk_calculus.specs.Provables.{Provable}
use Rattle.dlk_calculus.specs.Steps.{Step}
use Rattle.dlk_store.specs.Stores.{IsId, tree, Keeps}
use Rattle.dlk_sequent.proofs.Kept.{trees-kept}
use Rattle.dlk_termtext.specs.Lines as full
use Rattle.dlk_nodes.specs.Files.{Has, only_head, one_node, one_step}
use Rattle.dlk_nodes.specs.Lines.{Line, OfNode, Numbered, Done, IsLine}
use Rattle.dlk_nodes.specs.Tables.{nodes_at}
use Rattle.dlk_nodes.proofs.OneLine.{line_says}
use Rattle.dlk_nodes.proofs.OneState.{one_state}
use Rattle.dlk_replay.specs.declared.fault.LineWhy.{LineWhy}
use Rattle.dlk_replay.specs.declared.fault.LineWhy.TheVariants as why
use Rattle.dlk_replay.specs.declared.version.Version.{Version}
use Rattle.dlk_replay.specs.declared.version.Version.TheVariants as version
use Rattle.dlk_replay.specs.Formats.{Said, TakesStep, HasOtherNumber, TakesNone, EndsFile, SaysLine, said_of, SaysNodeOrStep, behind_head, begins_two}
use Rattle.dlk_replay.specs.Formats.{SaysInFile}
use Rattle.dlk_replay.specs.Replay.{IsLineInFull, IsLineOf, nodes_of, AreKnownNodes, IsBadLine, IsNextNode}
use Rattle.dlk_replay.proofs.OneSaid.{said_parts, has_some}
use Rattle.dlk_replay.proofs.Reached.{IsWrong}

-- ---- what a text is as a line, it says

pub record Tells (Is : List ℕ → Line → Type 0) (nodes steps : ℕ) (before : List (List ℕ)) (text : List ℕ) : Type 0 where
  pub says : (line : Line) → Is text line → SaysInFile before text (said_of nodes steps line)
  pub none : ((line : Line) → ¬ Is text line) → (s : Said) → ¬ SaysInFile before text s

module _ (before : List (List ℕ)) (text : List ℕ) where
  says_in_full : (steps : ℕ) → length before ≡ steps → (line : Line) → IsLineInFull text line → SaysLine before text (said_of 0 steps line)
  says_in_full steps many (OfNode n t) is = absurd is
  says_in_full steps many (Numbered n s) is = elim (cases_Bool (n == steps + 1)) [
    | inl own ↦
        let number : n ≡ length before + 1 = eqb-true n (steps + 1) own ∙ ap (λ k. k + 1) (sym many) in
        subst (λ b. SaysLine before text (if b then TakesStep s else HasOtherNumber)) (sym own) (subst (λ k. full.IsLine text (full.Numbered k s)) number is)
    | inr other ↦
        subst (λ b. SaysLine before text (if b then TakesStep s else HasOtherNumber)) (sym other)
        (n, s, is, λ number. let same : (n == steps + 1) ≡ true = eq-eqb n (steps + 1) (number ∙ ap (λ k. k + 1) many) in absurd (cc (other, same)))
  ]
  says_in_full steps many Done is = is

  none_in_full : ((line : Line) → ¬ IsLineInFull text line) → (s : Said) → ¬ SaysLine before text s
  none_in_full none (TakesStep step) is = none (Numbered (length before + 1) step) is
  none_in_full none HasOtherNumber is = none (Numbered is.0 is.1) is.2
  none_in_full none TakesNone is = is
  none_in_full none EndsFile is = none Done is

  tells_in_full : (steps : ℕ) → length before ≡ steps → begins_two (before ++ text ∷ []) ≡ false → Tells IsLineInFull 0 steps before text
  tells_in_full steps many one = record {
    says = λ line is.
        let s = said_of 0 steps line in
        subst (λ b. MatchBool b (SaysNodeOrStep before text s) (SaysLine before text s)) (sym one) (says_in_full steps many line is);
    none = λ no_line s is. none_in_full no_line s (subst (λ b. MatchBool b (SaysNodeOrStep before text s) (SaysLine before text s)) one is);
  }

  none_by_nodes : (nodes : List Tree) (steps : ℕ) → Has before nodes steps → ((line : Line) → ¬ IsLine nodes text line) → (s : Said) →
      ¬ SaysNodeOrStep before text s
  none_by_nodes nodes steps has no_line s is = elim (said_parts before text s is) [
    | inl first ↦ (let some = has_some before nodes steps has in let none : length before ≡ 0 = ap length first.0 in absurd (omega (arith, some, none)))
    | inr b ↦ no_line b.line (subst (λ n. IsLine n text b.line) (one_state before b.nodes nodes b.steps steps b.has has).0 b.is)
  ]

-- ---- the first line stays the first

has_begins : (before : List (List ℕ)) (nodes : List Tree) (steps : ℕ) → Has before nodes steps → (rest : List (List ℕ)) → begins_two (before ++ rest) ≡ true
has_begins _ _ _ only_head rest = refl
has_begins _ _ _ (one_node {before} {nodes} {steps} {line} {t} has is) rest =
    ap begins_two (append_assoc before (line ∷ []) rest) ∙ has_begins before nodes steps has (line ∷ rest)
has_begins _ _ _ (one_step {before} {nodes} {steps} {line} {s} has is) rest =
    ap begins_two (append_assoc before (line ∷ []) rest) ∙ has_begins before nodes steps has (line ∷ rest)

one_first : (before : List (List ℕ)) (line : List ℕ) (left : List (List ℕ)) → begins_two (before ++ line ∷ left) ≡ begins_two (before ++ line ∷ [])
one_first [] line left = refl
one_first (first ∷ before) line left = refl

pub tells_by_nodes : (before : List (List ℕ)) (text : List ℕ) (nodes : List Tree) (steps : ℕ) → Has before nodes steps →
    Tells (IsLine nodes) (length nodes) steps before text
tells_by_nodes before text nodes steps has =
    let two = has_begins before nodes steps has (text ∷ []) in
    record {
      says = λ line is.
          let s = said_of (length nodes) steps line in
          subst (λ b. MatchBool b (SaysNodeOrStep before text s) (SaysLine before text s)) (sym two) (behind_head line has is);
      none = λ no_line s is.
          none_by_nodes before text nodes steps has no_line s (subst (λ b. MatchBool b (SaysNodeOrStep before text s) (SaysLine before text s)) two is);
    }

-- ---- lines of a file of this version

-- the lines before the next have so many steps: in version 1 each is one, and in version 2 they have these nodes
abbrev pub Stands : List Tree → Version → (all before : List (List ℕ)) → ℕ → Type 0
Stands trees version.One all before steps = (length before ≡ steps) × (begins_two all ≡ false)
Stands trees (version.Two ids) all before steps = Has before (nodes_at trees ids) steps

module _ (trees : List Tree) (all before : List (List ℕ)) (text : List ℕ) (steps : ℕ) where
  pub tells : (v : Version) (left : List (List ℕ)) → all ≡ before ++ text ∷ left → Stands trees v all before steps →
      Tells (IsLineOf trees v) (nodes_of v) steps before text
  tells version.One left e stands =
      tells_in_full before text steps stands.0 (sym (one_first before text left) ∙ sym (ap begins_two e) ∙ stands.1)
  tells (version.Two ids) left e stands =
      subst (λ n. Tells (IsLine (nodes_at trees ids)) n steps before text) (length-map ids (tree trees))
      (tells_by_nodes before text (nodes_at trees ids) steps stands)

  -- and with one step more
  pub stands_step : (v : Version) (step : Step) → IsLineOf trees v text (Numbered (steps + 1) step) → Stands trees v all before steps →
      Stands trees v all (before ++ text ∷ []) (steps + 1)
  stands_step version.One step is stands = (length_push before text ∙ ap (λ k. k + 1) stands.0, stands.1)
  stands_step (version.Two ids) step is stands = one_step stands (line_says (nodes_at trees ids) text (Numbered (steps + 1) step) is)

module _ (old new : List Tree) (keeps : Keeps old new) (all before : List (List ℕ)) (steps : ℕ) where
  -- the store has grown
  pub stands_kept : (v : Version) → AreKnownNodes old v → Stands old v all before steps → Stands new v all before steps
  stands_kept version.One known stands = stands
  stands_kept (version.Two ids) known stands = subst (λ n. Has before n steps) (sym (trees-kept keeps ids known)) stands

  -- and with one node more
  pub stands_node : (v after : Version) (text : List ℕ) → AreKnownNodes old v → IsNextNode old new v after text → Stands old v all before steps →
      Stands new after all (before ++ text ∷ []) steps
  stands_node v after text known next stands =
      let nodes = nodes_at old next.ids in
      let t = tree new next.id in
      let here : Has before nodes steps = subst (λ u. Stands old u all before steps) next.before_is stands in
      let ids_known : All (IsId old) next.ids = subst (AreKnownNodes old) next.before_is known in
      let many : length next.ids + 1 ≡ length nodes + 1 = ap (λ k. k + 1) (sym (length-map next.ids (tree old))) in
      let is : IsLine nodes text (OfNode (length nodes + 1) t) = subst (λ k. IsLine nodes text (OfNode k t)) many next.its_line in
      let more : Has (before ++ text ∷ []) (nodes ++ t ∷ []) steps = one_node here (line_says nodes text (OfNode (length nodes + 1) t) is) in
      let trees : nodes_at new (next.ids ++ next.id ∷ []) ≡ nodes ++ t ∷ [] =
      map-append (tree new) next.ids (next.id ∷ []) ∙ ap (λ ts. ts ++ t ∷ []) (trees-kept keeps next.ids ids_known) in
      subst (λ u. Stands new u all (before ++ text ∷ []) steps) (sym next.after_is) (subst (λ n. Has (before ++ text ∷ []) n steps) (sym trees) more)

-- ---- what it tells of the next line

module _ (Is : List ℕ → Line → Type 0) (nodes : ℕ) (before : List (List ℕ)) (rows : List Provable) (text : List ℕ)
    (t : Tells Is nodes (length rows) before text) where
  pub says_step : (step : Step) → Is text (Numbered (length rows + 1) step) → SaysInFile before text (TakesStep step)
  says_step step is =
      let own : said_of nodes (length rows) (Numbered (length rows + 1) step) ≡ TakesStep step =
      ap (λ b. if b then TakesStep step else HasOtherNumber) (eq-eqb (length rows + 1) (length rows + 1) refl) in
      subst (SaysInFile before text) own (t.says (Numbered (length rows + 1) step) is)

  pub says_node : (root : Tree) → Is text (OfNode (nodes + 1) root) → SaysInFile before text TakesNone
  says_node root is =
      let own : said_of nodes (length rows) (OfNode (nodes + 1) root) ≡ TakesNone =
      ap (λ b. if b then TakesNone else HasOtherNumber) (eq-eqb (nodes + 1) (nodes + 1) refl) in
      subst (SaysInFile before text) own (t.says (OfNode (nodes + 1) root) is)

  pub says_end : Is text Done → SaysInFile before text EndsFile
  says_end is = t.says Done is

  pub is_wrong : (reason : LineWhy) → IsBadLine Is nodes rows text reason → IsWrong SaysInFile before rows text reason
  is_wrong why.Malformed none = t.none none
  is_wrong why.WrongNumber (line, is, other) = subst (SaysInFile before text) other (t.says line is)
  is_wrong why.NoEnd none = none
  is_wrong (why.Step reason) (step, is, fault) = (step, says_step step is, fault)
