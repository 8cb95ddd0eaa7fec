use Rattle.std.proofs.Common.{length, map}
use Rattle.p10_cert.specs.Sealed.{section_of}
use Rattle.p10_cert.proofs.SectionCollecting.{IsCollected}
use Rattle.p10_cert.proofs.sections.sections.Given as goal

abbrev pub invariant-loop-start : goal.invariant-loop-start
invariant-loop-start l = IsCollected (map section_of l.found) l.rest l.text

abbrev pub decreases-loop-start : goal.decreases-loop-start
decreases-loop-start l = length l.rest
