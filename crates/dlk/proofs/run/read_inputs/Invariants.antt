use Rattle.std.proofs.Common.{◌≡◌, ◌++◌, length, map, string_bytes, drop, option_map}
use Rattle.dlk_desk.specs.Desk.{OnlyReads}
use Rattle.dlk_replies.specs.Forms.{limit_of}
use Rattle.dlk_replies.specs.Shown.{texts_of}
use Rattle.dlk.specs.Cuts.{cut_bytes_of}
use Rattle.dlk.specs.Runs.{AsksFor}
use Rattle.dlk.proofs.run.read_inputs.Given as goal

abbrev pub invariant-loop-i : goal.invariant-loop-i
invariant-loop-i g l =
    let now = g.D.Desk.outside l.desk in
    let old = g.D.Desk.outside l.fn.desk in
    record {
      files : g.D.Desk.tells → cut_bytes_of old.files (map string_bytes l.names) (map limit_of l.roles)
          ≡ option_map (λ others. texts_of l.inputs.items ++ others)
          (cut_bytes_of old.files (map string_bytes (drop l.i l.names)) (map limit_of (drop l.i l.roles)));
      asks : AsksFor g.D.Desk.tells (map string_bytes l.names) (map limit_of l.roles) l.i old now;
      count : length l.inputs.items ≡ l.i;
      only : OnlyReads g.D.Desk.tells old now;
    }
