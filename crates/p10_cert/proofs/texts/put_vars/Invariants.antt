use Rattle.std.proofs.Common.{◌≤◌, length}
use Rattle.p10_cert.proofs.VarTexts.{AreWritten}
use Rattle.p10_cert.proofs.texts.put_vars.Given as goal

abbrev pub invariant-loop-line : goal.invariant-loop-line
invariant-loop-line g l = record {
  wrote : AreWritten (g.O.Sink.taken l.fn.out) (g.O.Sink.taken l.out) l.ranges l.left;
  count : g.O.Sink.faults l.fn.out ≤ g.O.Sink.faults l.out;
}

abbrev pub decreases-loop-line : goal.decreases-loop-line
decreases-loop-line g l = length l.left
