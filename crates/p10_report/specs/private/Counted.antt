-- Places whose lines and columns were counted.
use Rattle.std.specs.Prelude.{◌≡◌, ◌+◌, ◌≤◌}
use Rattle.p10_base.specs.Gathered.{Gathered, text_of}
use Rattle.p10_base.specs.Places.{column_of, line_of}
use Rattle.p10_report.specs.declared.counting.Counted.{Counted}

-- the line and the column of the counted place are those of its byte
pub record IsCounted (g : Gathered) (c : Counted) : Type 0 where
  pub line : c.line ≡ line_of (text_of g c.file) c.start
  pub column : c.column ≡ column_of (text_of g c.file) c.start
  pub line_small : c.line ≤ 1 + c.start
  pub column_small : c.column ≤ 1 + c.start
