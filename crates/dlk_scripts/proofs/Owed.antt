-- What the end refuses before a name that has come is put down.
use Rattle.std.proofs.Common.{◌≡◌, None, Err, Result, refl}
use Rattle.dlk_scripts.specs.declared.state.Within.{Within}
use Rattle.dlk_scripts.specs.declared.state.Within.TheVariants.{Between, Slash, Comment, CommentStar, Name, Number, Quoted, Less, Quote}
use Rattle.dlk_scripts.specs.declared.state.State.{State}
use Rattle.dlk_scripts.specs.declared.state.ByteFault.{ByteFault}
use Rattle.dlk_scripts.specs.declared.state.ByteFault.TheVariants.{Syntax}
use Rattle.dlk_scripts.specs.Steps.{settled_by, ended_by}

-- where settling fails, something has come, and the end refuses what settling does
pub ended_owed : (w : Within) (y : State) (r : Result (Unit {0}) ByteFault) → (w ≡ Between → ⊥) → (settled_by w y ≡ None → r ≡ Err Syntax) →
    ended_by w y ≡ None → r ≡ Err Syntax
ended_owed Between y r never owed e = absurd (never refl)
ended_owed Slash y r never owed e = owed e
ended_owed Comment y r never owed e = owed e
ended_owed CommentStar y r never owed e = owed e
ended_owed Name y r never owed e = owed e
ended_owed Number y r never owed e = owed e
ended_owed Quoted y r never owed e = owed e
ended_owed Less y r never owed e = owed e
ended_owed Quote y r never owed e = owed e
