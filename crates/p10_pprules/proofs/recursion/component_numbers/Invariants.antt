use Rattle.std.proofs.Common.{map, take}
use Rattle.p10_direct.specs.Form.{plain_definition}
use Rattle.p10_pprules.specs.private.Graphs.{IsGraphOf}
use Rattle.p10_pprules.proofs.recursion.component_numbers.Given as goal

-- the edges of the definitions so far
abbrev pub invariant-loop-definition : goal.invariant-loop-definition
invariant-loop-definition l = IsGraphOf l.names (map plain_definition (take l.definition-index l.definitions)) l.graph
