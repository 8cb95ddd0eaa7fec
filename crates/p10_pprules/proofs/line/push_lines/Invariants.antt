use Rattle.std.proofs.Common.{◌≡◌, ◌++◌, map, take}
use Rattle.std.specs.List.{flat_map}
use Rattle.p10_expand.specs.Answers.{plain_obeyed}
use Rattle.p10_pprules.specs.private.Listing.{line_violations}
use Rattle.p10_pprules.proofs.line.push_lines.Given as goal

-- the violations of the lines so far were put after the others
abbrev pub invariant-loop-line : goal.invariant-loop-line
invariant-loop-line l = l.violations.items ≡ l.initial.violations.items ++ flat_map line_violations (map plain_obeyed (take l.line-index l.obeyed))
