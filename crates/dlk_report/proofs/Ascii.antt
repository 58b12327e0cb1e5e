-- Texts of sequents of formulas are ASCII.
use Rattle.std.proofs.Common.{◌≡◌, ℕ, List, map, refl, sym, subst}
use Rattle.std.specs.Prelude.{All, IsAscii}
use Rattle.std.proofs.lemmas.List.Elements.{All-map}
use Rattle.dlk_tree.specs.Trees.{Tree}
use Rattle.dlk_calculus.specs.Sequents.{Sequent, IsSequent}
use Rattle.dlk_sequent.specs.Sequents.{sequent_at}
use Rattle.dlk_sequent.specs.declared.sequent.Sequent.{Sequent as Ids}
use Rattle.dlk_grammar.proofs.Ascii.{sequent_ascii}
use Rattle.dlk_report.specs.Reports.{text_of}

pub one_ascii : {text : List ℕ} (s : Sequent) → text ≡ text_of s → IsSequent s → IsAscii text
one_ascii s e h = subst IsAscii (sym e) (sequent_ascii s (λ k d lt. (h.ante k d lt).well_made) (λ k d lt. (h.succ k d lt).well_made))

pub all_ascii : {texts : List (List ℕ)} (trees : List Tree) (sequents : List Ids) → texts ≡ map text_of (map (sequent_at trees) sequents) →
    All (λ s. IsSequent (sequent_at trees s)) sequents → All IsAscii texts
all_ascii trees sequents e h =
    let each : All (λ s. IsAscii (text_of (sequent_at trees s))) sequents = λ k d lt. one_ascii _ refl (h k d lt) in
    subst (All IsAscii) (sym e) (All-map IsAscii text_of (map (sequent_at trees) sequents)
    (All-map (λ s. IsAscii (text_of s)) (sequent_at trees) sequents each))
