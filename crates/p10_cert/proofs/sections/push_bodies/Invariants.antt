use Rattle.std.proofs.Common.{length}
use Rattle.p10_cert.proofs.SectionCollecting.{AreCollected}
use Rattle.p10_cert.proofs.sections.push_bodies.Given as goal

abbrev pub invariant-loop-bytes : goal.invariant-loop-bytes
invariant-loop-bytes l = AreCollected l.lines l.fn.lines l.left l.rest l.count l.text

abbrev pub decreases-loop-bytes : goal.decreases-loop-bytes
decreases-loop-bytes l = length l.rest
