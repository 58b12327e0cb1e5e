-- A text that is kept while it is within a limit.
use Rattle.std.proofs.Common.{◌≡◌, ℕ, ◌+◌, ◌<◌, ◌≤◌, List, [], ◌∷◌, ◌++◌, length, map, drop, codes, refl, sym, ap, ◌∙◌, append_assoc, length-append}
use Rattle.std.proofs.Common.{drop-cons, suc, get_or, arith}
use Rattle.dlk_tree.specs.Trees.{Tree}
use Rattle.dlk_calculus.specs.Steps.{Step}
use Rattle.dlk_nodes.specs.TermFiles.{nodes_after, its_lines, step_lines, ended, term_text}
use Rattle.dlk_nodes.proofs.StepLines.{ended_both}

-- what is kept, how many bytes there are so far, and what of the whole is left
pub record Kept (text : List ℕ) (bytes limit : ℕ) (left whole : List ℕ) : Type 0 where
  pub kept : bytes ≤ limit → text ++ left ≡ whole
  pub count : bytes + length left ≡ length whole

kept_none : (limit : ℕ) (whole : List ℕ) → Kept [] 0 limit whole whole
kept_none limit whole = record { kept = λ le. refl; count = omega arith }

pub kept_more : (text more new left rest whole : List ℕ) (bytes after limit : ℕ) → Kept text bytes limit left whole → left ≡ more ++ rest →
    after ≡ bytes + length more →
    (after ≤ limit → new ≡ text ++ more) → Kept new after limit rest whole
kept_more text more new left rest whole bytes after limit k left_is after_is kept = record {
  kept = λ le.
      let sooner : bytes ≤ limit = omega (arith, le, after_is) in
      ap (λ (l : List ℕ). l ++ rest) (kept le) ∙ append_assoc text more rest ∙ ap (λ (l : List ℕ). text ++ l) (sym left_is) ∙ k.kept sooner;
  count =
      let both : length left ≡ length more + length rest = ap length left_is ∙ length-append more rest in
      omega (arith, k.count, both, after_is);
}

-- ---- the lines that are left

-- behind these nodes: those of steps, numbered from this number on, and `done`
abbrev pub left_text : List Tree → ℕ → List Step → List ℕ
left_text nodes number steps = ended (step_lines nodes number steps ++ codes "done" ∷ [])

-- the item at a place, before those behind it
next_item : {A : Type 0} (items : List A) (i : ℕ) (item : A) → i < length items → item ≡ get_or items i item → drop i items ≡ item ∷ drop (i + 1) items
next_item {A} items i item within is =
    let one : suc i ≡ i + 1 = omega arith in
    drop-cons items i item within ∙ ap (λ (x : A). x ∷ drop (suc i) items) (sym is) ∙ ap (λ (k : ℕ). item ∷ drop k items) one

-- the lines of the first step that is left
next_lines : (nodes after : List Tree) (number : ℕ) (step : Step) (steps : List Step) → after ≡ nodes_after nodes step →
    left_text nodes number (step ∷ steps) ≡ ended (its_lines nodes number step) ++ left_text after (number + 1) steps
next_lines nodes after number step steps is =
    let its = its_lines nodes number step in
    let others = step_lines (nodes_after nodes step) (number + 1) steps in
    ap ended (append_assoc its others (codes "done" ∷ [])) ∙ ended_both its (others ++ codes "done" ∷ [])
    ∙ ap (λ (n : List Tree). ended its ++ left_text n (number + 1) steps) (sym is)

-- they are kept, too
pub kept_step : {A : Type 0} (stands : A → Step) (steps : List A) (i : ℕ) (step : A) (nodes after : List Tree) (text written new whole : List ℕ)
    (bytes count limit : ℕ) →
    i < length steps → step ≡ get_or steps i step → Kept text bytes limit (left_text nodes (i + 1) (map stands (drop i steps))) whole →
    written ≡ ended (its_lines nodes (i + 1) (stands step)) → after ≡ nodes_after nodes (stands step) → count ≡ bytes + length written →
    (count ≤ limit → new ≡ text ++ written) → Kept new count limit (left_text after (i + 1 + 1) (map stands (drop (i + 1) steps))) whole
kept_step stands steps i step nodes after text written new whole bytes count limit within is so_far written_is after_is count_is kept =
    let rest = map stands (drop (i + 1) steps) in
    let left = left_text nodes (i + 1) (map stands (drop i steps)) in
    let next : left ≡ written ++ left_text after (i + 1 + 1) rest =
    ap (λ (l : List _). left_text nodes (i + 1) (map stands l)) (next_item steps i step within is) ∙ next_lines nodes after (i + 1) (stands step) rest after_is
    ∙ ap (λ (l : List ℕ). l ++ left_text after (i + 1 + 1) rest) (sym written_is) in
    kept_more text written new left (left_text after (i + 1 + 1) rest) whole bytes count limit so_far next count_is kept
