-- The lines that report how a run has ended.
use Rattle.std.specs.Prelude.{ℕ, ℤ, List, codes}
use Rattle.p10_base.specs.Gathered.{Gathered}
use Rattle.p10_base.specs.declared.span.Span.{Span}
use Rattle.p10_report.specs.Lines.{labelled, labelled_signed, depths_part, at_part}
use Rattle.p10_report.specs.Stops.{◌then◌}

-- what stands before the value that `main` has returned
unfoldable pub returned_label : List ℕ
returned_label = codes "p10: returned "

-- `main` has returned: p10: returned V calls C bytes B
unfoldable pub returned_line : ℤ → ℕ → ℕ → List ℕ
returned_line value calls bytes = labelled_signed returned_label value then depths_part calls bytes

-- a number of turns of the task loop were made: p10: turns N calls C bytes B
unfoldable pub turns_line : ℕ → ℕ → ℕ → List ℕ
turns_line turns calls bytes = labelled (codes "p10: turns ") turns then depths_part calls bytes

-- the place of an end, which ends a line
unfoldable pub placed_part : Gathered → Span → List ℕ
placed_part g at = codes " at" then at_part g at

-- what stands before the place of an assertion that has failed
unfoldable pub assertion_label : List ℕ
assertion_label = codes "p10: assertion failed"

-- an assertion has failed: p10: assertion failed at FILE:LINE:COLUMN
unfoldable pub assertion_failed_line : Gathered → Span → List ℕ
assertion_failed_line g at = assertion_label then placed_part g at

-- what stands before the number of an undefined operation
unfoldable pub undefined_label : List ℕ
undefined_label = codes "p10: undefined U"

-- an undefined operation: p10: undefined UN at FILE:LINE:COLUMN
unfoldable pub undefined_line : Gathered → ℕ → Span → List ℕ
undefined_line g stop at = labelled undefined_label stop then placed_part g at

-- no step is left
unfoldable pub steps_spent_line : List ℕ
steps_spent_line = codes "p10: steps spent\n"
