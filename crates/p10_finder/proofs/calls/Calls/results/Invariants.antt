-- The results of smaller numbers are found.
use Rattle.p10_core.specs.Views.{plain_program}
use Rattle.p10_cert.specs.Claims.{claims_of}
use Rattle.p10_finder.specs.private.Settling.{AreSettled}
use Rattle.p10_approach.specs.Offers.{offers_if}
use Rattle.p10_finder.proofs.calls.Calls.results.Given as goal

abbrev pub invariant-loop-number : goal.invariant-loop-number
invariant-loop-number l = AreSettled (offers_if l.self.approaching) (plain_program l.self.program.now) l.self.graph.now l.self.numbers.now l.number (claims_of l.claims)
