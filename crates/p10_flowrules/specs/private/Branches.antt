-- The second branch of an `if`.
use Rattle.std.specs.Prelude.{List, [], Option, Some, None}
use Rattle.p10_base.specs.declared.at.At.{At}
use Rattle.p10_core.specs.Typed.{PlainStatement}
use Rattle.p10_flowrules.specs.declared.exits.Breaks.{Breaks}
use Rattle.p10_flowrules.specs.TaskExits.{exits_in}

-- the statements in a branch, if there is one, that leave the loop
abbrev pub exits_of_branch : Breaks → Option PlainStatement → List At
exits_of_branch breaks None = []
exits_of_branch breaks (Some s) = exits_in breaks s
