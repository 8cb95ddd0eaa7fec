use Rattle.std.proofs.Common.{map}
use Rattle.p10_core.specs.Views.{plain_variable, plain_statement}
use Rattle.p10_cert.specs.Claims.{loop_of}
use Rattle.p10_evidence.proofs.Standing.{by_round}
use Rattle.p10_evidence.proofs.rounds.loop_stands.Goals as goal

pub returns-in_ok-stands-in-Some : goal.returns-in_ok-stands-in-Some
returns-in_ok-stands-in-Some c =
    by_round (map plain_variable c.args.variables.now) (plain_statement c.args.s.now) c.args.entry.now.values (loop_of c.args.claim.now) c.in_ok-head.head c.in_ok-round.field-0 c.in-Some.round c.in_ok-stands-in-Some.stands c.in_ok-head.ensures
    c.in_ok-round.ensures c.in-Some.is c.in_ok-stands-in-Some.ensures
