use Rattle.std.proofs.Common.{◌≡◌, ◌≤◌, ◌+◌, true, length}
use Rattle.p10_cert.specs.private.Places.{Leads, is_param}
use Rattle.p10_cert.specs.private.Found.{place_of}
use Rattle.p10_cert.specs.private.States.{next_of}
use Rattle.p10_cert.proofs.cursor.Cursor.after_parameters.Given as goal

abbrev pub invariant-loop-after : goal.invariant-loop-after
invariant-loop-after l = record {
  leads : Leads (place_of l.fn.self) (place_of l.place);
  stays : is_param (next_of l.place.next) ≡ true;
  few : l.place.lines + length l.place.rest.now ≤ l.fn.self.lines + length l.fn.self.rest.now;
}

abbrev pub decreases-loop-after : goal.decreases-loop-after
decreases-loop-after l = length l.place.rest.now
