use Rattle.std.proofs.Common.{◌≡◌, length, map}
use Rattle.p10_report.specs.Violations.{row_with_text, text_among}
use Rattle.p10_report.proofs.rows.text_in.Given as goal

abbrev pub decreases-loop-rest : goal.decreases-loop-rest
decreases-loop-rest l = length l.rest

abbrev pub invariant-loop-rest : goal.invariant-loop-rest
invariant-loop-rest l =
    text_among (map (λ row. row_with_text row.0 row.1 row.2.now) l.rows) l.sub ≡ text_among (map (λ row. row_with_text row.0 row.1 row.2.now) l.rest) l.sub
