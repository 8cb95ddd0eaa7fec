use Rattle.std.proofs.Common.{◌≤◌, ◌+◌, length}
use Rattle.p10_cert.specs.private.Places.{Follows}
use Rattle.p10_cert.specs.private.Found.{place_of}
use Rattle.p10_cert.proofs.cursor.Cursor.after_lines.Given as goal

abbrev pub invariant-loop-after : goal.invariant-loop-after
invariant-loop-after l = record {
  follows : Follows (place_of l.fn.self) (place_of l.place);
  few : l.place.lines + length l.place.rest.now ≤ l.fn.self.lines + length l.fn.self.rest.now;
}

abbrev pub decreases-loop-after : goal.decreases-loop-after
decreases-loop-after l = length l.place.rest.now
