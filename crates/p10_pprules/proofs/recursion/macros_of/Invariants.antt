use Rattle.std.proofs.Common.{map, take}
use Rattle.p10_direct.specs.Form.{plain_definition}
use Rattle.p10_pprules.specs.private.Graphs.{HasNames}
use Rattle.p10_pprules.proofs.recursion.macros_of.Given as goal

-- the names of the definitions so far
abbrev pub invariant-loop-definition : goal.invariant-loop-definition
invariant-loop-definition l = HasNames (map plain_definition (take l.definition-index l.definitions)) l.names
