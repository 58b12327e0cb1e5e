-- Models and terms: when a term is taken for a model, and how it is refused.
use Rattle.std.specs.Prelude.{◌≡◌, ◌≢◌, ℕ, List, [], ◌∷◌, ◌++◌, codes, decimal}
use Rattle.dlk_tree.specs.Trees.{Tree}
use Rattle.dlk_calculus.specs.Sequents.{Sequent}
use Rattle.dlk_calculus.specs.Provables.{Provable}
use Rattle.dlk_calculus.specs.Steps.{Step}
use Rattle.dlk_grammar.specs.declared.token.Dots.TheVariants as dots
use Rattle.dlk_grammar.specs.declared.token.Form.TheVariants as form
use Rattle.dlk_grammar.specs.Texts.{TreeText, TreeTextFault, TextFault}
use Rattle.dlk_grammar.specs.Shown.{spell, shown_sequent}
use Rattle.dlk_replay.specs.Files.{Verdict, accepted, bad, file_lines, FileSteps, line_why_text}
use Rattle.dlk_replay.specs.declared.fault.LineWhy.{LineWhy}
use Rattle.dlk_print.specs.Lines.{line}
use Rattle.dlk_replies.specs.declared.form.Role.TheVariants.{Model}
use Rattle.dlk_replies.specs.declared.reply.Status.TheVariants.{Refused}
use Rattle.dlk_replies.specs.Replies.{Reply, printing, refusal}
use Rattle.dlk_replies.specs.Refusals.{text_refused}

-- the model is a text of this formula, without argument dots and `_`
abbrev pub ModelText : List ℕ → Tree → Type 0
ModelText model f = TreeText form.Formula dots.Refused model f

-- why the model is none
abbrev pub ModelFault : List ℕ → TextFault → Type 0
ModelFault model why = TreeTextFault form.Formula dots.Refused model why

-- the sequent that a proof of the formula shows
abbrev pub proves : Tree → Sequent
proves f = record { ante = []; succ = f ∷ [] }

-- refused: WORDS N: WHY, in which the words say of which file the line is
abbrev pub refused_line : List ℕ → ℕ → LineWhy → Reply
refused_line words n why = refusal (words ++ (codes " " ++ (decimal n ++ (codes ": " ++ line_why_text why))))

-- refused: line N: WHY
abbrev pub line_refused : ℕ → LineWhy → Reply
line_refused n why = refused_line (codes "line") n why

-- refused: other-conclusion N, and both conclusions
abbrev pub other_conclusion : ℕ → Tree → Sequent → Reply
other_conclusion n f found = printing Refused
    (line (codes "refused: other-conclusion " ++ decimal n) ++ line (codes "expected " ++ spell (shown_sequent (proves f))) ++
    line (codes "found " ++ spell (shown_sequent found)))

-- ---- terms

-- the term is accepted: up to `done` its lines are steps, or in version 2, behind the line that begins it, nodes and steps; the steps give
-- these rows, of which p is the last, by the line whose number in the file is `line`
pub record Accepts (term : List ℕ) (rows : List Provable) (p : Provable) : Type 0 where
  pub before : List Provable
  pub last : rows ≡ before ++ p ∷ []
  pub line : ℕ
  pub verdict : Verdict (file_lines term) (accepted rows line)

-- the term is replayed: it is accepted, and its lines say these steps, one for each of the rows, of which p is the last
pub record Replays (term : List ℕ) (steps : List Step) (rows : List Provable) (p : Provable) : Type 0 where
  pub accepts : Accepts term rows p
  pub says : FileSteps (file_lines term) steps

-- the term is taken for the model: it is replayed, and its last row shows the model's formula
pub record TakesTerm (model term : List ℕ) (steps : List Step) (rows : List Provable) (p : Provable) : Type 0 where
  pub formula : Tree
  pub reads : ModelText model formula
  pub replays : Replays term steps rows p
  pub shows : p.conclusion ≡ proves formula

-- RefusesTerm model term reply: the model is none, or the term isn't taken for it. One case a refusal, the first that applies.
pub data RefusesTerm (model term : List ℕ) : Reply → Type 0 where
  bad_model : (why : TextFault) → ModelFault model why → RefusesTerm model term (text_refused Model why)
  bad_line : (f : Tree) → ModelText model f → (n : ℕ) (why : LineWhy) → Verdict (file_lines term) (bad n why) → RefusesTerm model term (line_refused n why)
  bad_conclusion : (f : Tree) → ModelText model f → (rows : List Provable) (p : Provable) → (a : Accepts term rows p) →
      p.conclusion ≢ proves f → RefusesTerm model term (other_conclusion a.line f p.conclusion)
