use Rattle.std.proofs.Common.{◌≡◌, ◌++◌, map, take}
use Rattle.std.specs.List.{flat_map}
use Rattle.p10_direct.specs.Form.{plain_definition}
use Rattle.p10_pprules.specs.private.Listing.{definition_violations}
use Rattle.p10_pprules.proofs.rows.push_definitions.Given as goal

-- the violations of the definitions so far were put after the others
abbrev pub invariant-loop-definition : goal.invariant-loop-definition
invariant-loop-definition l = l.violations.items ≡ l.initial.violations.items ++ flat_map (definition_violations l.names l.numbers) (map plain_definition (take l.definition-index l.definitions))
