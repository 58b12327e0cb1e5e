-- The order in which reasons are looked for, and their words.
use Rattle.std.specs.Prelude.{ℕ, ◌<◌, List, codes}
use Rattle.dlk_calculus.specs.declared.reason.Reason.{Reason}
use Rattle.dlk_calculus.specs.declared.reason.Reason.TheVariants.{NoFact, NoGoal, UnknownName, NoPlace, WrongShape, NotEqual, NotFresh, NotArith}
use Rattle.dlk_calculus.specs.declared.reason.Reason.TheVariants.{IllSubst, FreeInSubst, NotAdmissible, TooBig, TooDeep, SideFull, GoalsFull}
use Rattle.dlk_calculus.specs.declared.reason.Reason.TheVariants.{LeavesFull, LinesFull}

-- the place of a reason in the order of the checks
abbrev pub rank : Reason → ℕ
rank NoFact = 1
rank NoGoal = 2
rank UnknownName = 3
rank NoPlace = 4
rank WrongShape = 5
rank NotEqual = 6
rank NotFresh = 7
rank NotArith = 8
rank IllSubst = 9
rank FreeInSubst = 10
rank NotAdmissible = 11
rank TooBig = 12
rank TooDeep = 13
rank SideFull = 14
rank GoalsFull = 15
rank LeavesFull = 16
rank LinesFull = 17

-- a reason why a step is no step of the calculus; the others are limits
abbrev pub IsOfCalculus : Reason → Type 0
IsOfCalculus why = rank why < rank TooBig

-- the word of a reason, as it is printed
abbrev pub reason_text : Reason → List ℕ
reason_text NoFact = codes "NoFact"
reason_text NoGoal = codes "NoGoal"
reason_text UnknownName = codes "UnknownName"
reason_text NoPlace = codes "NoPlace"
reason_text WrongShape = codes "WrongShape"
reason_text NotEqual = codes "NotEqual"
reason_text NotFresh = codes "NotFresh"
reason_text NotArith = codes "NotArith"
reason_text IllSubst = codes "IllSubst"
reason_text FreeInSubst = codes "FreeInSubst"
reason_text NotAdmissible = codes "NotAdmissible"
reason_text TooBig = codes "TooBig"
reason_text TooDeep = codes "TooDeep"
reason_text SideFull = codes "SideFull"
reason_text GoalsFull = codes "GoalsFull"
reason_text LeavesFull = codes "LeavesFull"
reason_text LinesFull = codes "LinesFull"
