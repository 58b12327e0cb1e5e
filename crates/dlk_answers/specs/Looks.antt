-- How many nodes a command looks at that refuses what a substitution makes.
use Rattle.std.specs.Prelude.{◌≡◌, ℕ, List, [], ◌∷◌}
use Rattle.dlk_jobs_text.specs.Looks.{LooksAtFew}
use Rattle.dlk_replies.specs.declared.command.Command.{Command}
use Rattle.dlk_replies.specs.declared.command.Command.TheVariants.{Subst}

-- so few of a command that is `subst`, and of its inputs' texts
abbrev pub CommandLooksAtFew : Command → List (List ℕ) → ℕ → ℕ → Type 0
CommandLooksAtFew command texts old new = (file subst : List ℕ) → command ≡ Subst → texts ≡ file ∷ subst ∷ [] → LooksAtFew file subst old new
