use Rattle.std.proofs.Common.{refl}
use Rattle.dlk_uses.proofs.Boxes.{generalizing_fits, cutting_box_fits}
use Rattle.dlk_uses.proofs.laws.boxes_fit.Goals as goal

pub returns : goal.returns
returns c = record {
  generalizing = λ rows spot j b f is_goal here. generalizing_fits rows _ spot j b f refl is_goal here;
  cutting = λ rows spot j b f h is_goal here. cutting_box_fits rows _ spot j b f h refl is_goal here;
}
