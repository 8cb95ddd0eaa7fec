use Rattle.std.proofs.Common.{◌≡◌, Bool, length}
use Rattle.p10_cert.specs.Statements.{Entry, IsEntry, entry_text, entry_lines}
use Rattle.p10_cert.specs.private.Building.{build_all, no_part}
use Rattle.p10_cert.specs.private.Partials.{part_of}
use Rattle.p10_cert.proofs.Built.{IsLeft}
use Rattle.p10_cert.proofs.reading.claim_and_digest.Given as goal

-- the lines that are left will come to the function
abbrev pub invariant-loop-line : goal.invariant-loop-line
invariant-loop-line l = (e : Entry) (sealed : Bool) → IsEntry sealed e → l.fn.r.text.now ≡ entry_text e → IsLeft (part_of l.partial) (build_all no_part (entry_lines e)) l.rest

abbrev pub decreases-loop-line : goal.decreases-loop-line
decreases-loop-line l = length l.rest
