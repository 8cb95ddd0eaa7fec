use Rattle.std.proofs.Common.{◌≡◌, length}
use Rattle.p10_cert.specs.private.Packing.{number_from}
use Rattle.p10_cert.proofs.packing.number_in.Given as goal

abbrev pub invariant-loop-rest : goal.invariant-loop-rest
invariant-loop-rest l = number_from l.number l.rest ≡ number_from 0 l.initial.rest

abbrev pub decreases-loop-rest : goal.decreases-loop-rest
decreases-loop-rest l = length l.rest
