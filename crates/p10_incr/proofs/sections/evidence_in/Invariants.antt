use Rattle.std.proofs.Common.{◌≡◌, map, length}
use Rattle.p10_cert.specs.Sealed.{section_of}
use Rattle.p10_cert.specs.Statements.{lines_named}
use Rattle.p10_incr.specs.Edits.{evidence_name}
use Rattle.p10_incr.proofs.sections.evidence_in.Given as goal

abbrev pub invariant-loop-sections : goal.invariant-loop-sections
invariant-loop-sections l = lines_named evidence_name (map section_of l.initial.sections) ≡ lines_named evidence_name (map section_of l.sections)

abbrev pub decreases-loop-sections : goal.decreases-loop-sections
decreases-loop-sections l = length l.sections
