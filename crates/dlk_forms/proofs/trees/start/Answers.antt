use Rattle.std.proofs.Common.{refl, sym, subst}
use Rattle.dlk_tree.specs.declared.op.Sort.TheVariants.{Term, Formula, Program}
use Rattle.dlk_grammar.specs.declared.token.Form.{Form}
use Rattle.dlk_reader.specs.declared.parts.Mode.TheVariants as mode
use Rattle.dlk_forms.specs.declared.expressions.Place.TheVariants as place
use Rattle.dlk_forms.specs.Readers.{ShowsPlace, tree_start}
use Rattle.dlk_forms.proofs.trees.start.Goals as goal

pub returns-in-Formula : goal.returns-in-Formula
returns-in-Formula c = λ k h. subst (λ (g : Form). ShowsPlace g k (place.Of Formula mode.Wants) (tree_start g)) (sym c.in-Formula.is)
    (record { mode = mode.Wants; place = refl; shows = record { mode = refl; lists = h } })

pub returns-in-Term : goal.returns-in-Term
returns-in-Term c = λ k h. subst (λ (g : Form). ShowsPlace g k (place.Of Term mode.Wants) (tree_start g)) (sym c.in-Term.is)
    (record { mode = mode.Wants; place = refl; shows = record { mode = refl; lists = h } })

pub returns-in-Program : goal.returns-in-Program
returns-in-Program c = λ k h. subst (λ (g : Form). ShowsPlace g k (place.Of Program mode.Wants) (tree_start g)) (sym c.in-Program.is)
    (record { mode = mode.Wants; place = refl; shows = record { mode = refl; lists = h } })

pub returns-in-Expression : goal.returns-in-Expression
returns-in-Expression c = λ k h. subst (λ (g : Form). ShowsPlace g k place.Unread (tree_start g)) (sym c.in-Expression.is) (record { place = refl; lists = h })
