use Rattle.std.proofs.Common.{◌≡◌, ◌+◌, length}
use Rattle.p10_lex.specs.private.Reading.{mark_at}
use Rattle.p10_lex.proofs.faults.mark_at.Given as goal

abbrev pub invariant-loop-rest : goal.invariant-loop-rest
invariant-loop-rest l = (l.offset + length l.rest ≡ length l.text) × (mark_at l.offset l.left l.rest ≡ mark_at 0 l.count l.text)

abbrev pub decreases-loop-rest : goal.decreases-loop-rest
decreases-loop-rest l = length l.rest
