-- The `case` labels of a `switch` so far, as the code keeps them.
use Rattle.std.specs.Prelude.{List, Option, option_map}
use Rattle.p10_core.specs.declared.statements.Label.{Label}
use Rattle.p10_elabs.specs.declared.case_labels.CaseLabels.{CaseLabels}

-- the labels, in order
abbrev pub case_labels : CaseLabels → List Label
case_labels c = c.list.items

-- the same, if none was refused
abbrev pub known_cases : Option CaseLabels → Option (List Label)
known_cases cases = option_map case_labels cases
