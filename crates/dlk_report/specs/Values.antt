-- The value that the JSON of a report is the text of.
use Rattle.std.specs.Prelude.{ℕ, List, map, codes}
use Rattle.serde_json.specs.Data.{Data, number, unsigned, string, array, object, member, no_members}
use Rattle.serde_json.specs.View.{items_of}
use Rattle.dlk_report.specs.Reports.{Parts, first_word}

-- texts as an array
abbrev pub strings : List (List ℕ) → Data
strings texts = array (items_of (map string texts))

-- a report as an object
abbrev pub value_of : Parts → Data
value_of r =
    object (member (codes "conclusion") (string r.conclusion)
    (member (codes "goals") (strings r.goals)
    (member (codes "leaves") (strings r.leaves)
    (member (codes "lines") (number (unsigned r.lines))
    (member (codes "status") (string (first_word r.closed)) no_members)))))
