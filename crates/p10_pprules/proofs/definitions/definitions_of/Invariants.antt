use Rattle.std.proofs.Common.{map, take}
use Rattle.p10_direct.specs.Form.{plain_definition}
use Rattle.p10_expand.specs.Answers.{plain_obeyed}
use Rattle.p10_pprules.specs.private.Gathering.{AreDefined}
use Rattle.p10_pprules.proofs.definitions.definitions_of.Given as goal

-- the definitions among the lines so far
abbrev pub invariant-loop-line : goal.invariant-loop-line
invariant-loop-line l = AreDefined (map plain_obeyed (take l.line-index l.obeyed)) (map plain_definition l.definitions.items)
