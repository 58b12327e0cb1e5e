-- Relations between trees that go by rows.
use Rattle.std.specs.Prelude.{◌≡◌}
use Rattle.dlk_tree.specs.declared.op.Op.{Op}
use Rattle.dlk_tree.specs.Trees.{Tree, node, Forest, no_kids, kid}

-- They relate the kids one by one, which determines the new ones, and the node by a row of its operator.
pub record GoesByRows {X : Type 0}
    (R : X → Tree → Tree → Type 0) (Each : X → Forest → Forest → Type 0) (Row : X → Op → Forest → Forest → Tree → Type 0) : Type 0 where
  pub none : (x : X) → Each x no_kids no_kids
  pub one : (x : X) (t u : Tree) (ts us : Forest) → R x t u → Each x ts us → Each x (kid t ts) (kid u us)
  pub parts : (x : X) (t : Tree) (ts us : Forest) → Each x (kid t ts) us → (u : Tree) × (vs : Forest) × R x t u × Each x ts vs
  pub same : (x : X) (ts us vs : Forest) → Each x ts us → Each x ts vs → us ≡ vs
  pub up : (x : X) (op : Op) (ts us : Forest) (u : Tree) → Each x ts us → Row x op ts us u → R x (node op ts) u
  pub down : (x : X) (op : Op) (ts : Forest) (u : Tree) → R x (node op ts) u → (us : Forest) × Each x ts us × Row x op ts us u
