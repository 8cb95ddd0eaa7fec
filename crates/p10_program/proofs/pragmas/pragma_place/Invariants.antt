-- The first pragma is the first of those that weren't looked at yet.
use Rattle.std.proofs.Common.{◌≡◌, drop}
use Rattle.std.specs.List.{position_from}
use Rattle.p10_core.specs.Typed.{statements_list}
use Rattle.p10_core.specs.Views.{plain_statements}
use Rattle.p10_program.specs.Pragmas.{is_pragma}
use Rattle.p10_program.proofs.pragmas.pragma_place.Given as goal

abbrev pub invariant-loop-place : goal.invariant-loop-place
invariant-loop-place l =
    position_from (is_pragma l.kind) 0 (statements_list (plain_statements l.items))
    ≡ position_from (is_pragma l.kind) l.place (statements_list (plain_statements (drop l.place l.items)))
