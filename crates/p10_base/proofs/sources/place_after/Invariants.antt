use Rattle.std.proofs.Common.{◌≡◌, ◌+◌, ◌≤◌}
use Rattle.p10_base.specs.Places.{column_of, line_of}
use Rattle.p10_base.proofs.sources.place_after.Given as goal

abbrev pub invariant-loop-byte : goal.invariant-loop-byte
invariant-loop-byte l = record {
  line : l.line ≡ line_of l.before l.byte-index;
  column : l.column ≡ column_of l.before l.byte-index;
  line_small : l.line ≤ 1 + l.byte-index;
  column_small : l.column ≤ 1 + l.byte-index;
}
