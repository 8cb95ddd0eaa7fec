use Rattle.std.proofs.Common.{◌≡◌, map, take}
use Rattle.p10_core.specs.Views.{plain_program}
use Rattle.p10_cert.specs.Claims.{claims_of}
use Rattle.p10_pass.specs.Leaving.{weakness_by}
use Rattle.p10_check.specs.private.Ranked.{stands_for}
use Rattle.p10_check.proofs.ranked.stood_for.Given as goal

abbrev pub invariant-loop-w : goal.invariant-loop-w
invariant-loop-w g l =
    l.stood.items ≡ map (stands_for (g.E.Evidence.standing l.evidence (plain_program l.judged.program.now)) (claims_of l.judged.certificate.now) l.judged.number) (map weakness_by (take l.w-index l.weak))
