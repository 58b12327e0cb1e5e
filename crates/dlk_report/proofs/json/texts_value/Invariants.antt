use Rattle.std.proofs.Common.{◌≡◌, map, take}
use Rattle.serde_json.specs.Data.{string}
use Rattle.serde_json.specs.View.{view}
use Rattle.dlk_report.specs.Shown.{bytes_of}
use Rattle.dlk_report.proofs.json.texts_value.Given as goal

-- the values of the texts so far
abbrev pub invariant-loop-text : goal.invariant-loop-text
invariant-loop-text l = map view l.values.items ≡ map string (map bytes_of (take l.text-index l.texts))
