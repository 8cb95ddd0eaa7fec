use Rattle.p10_core.specs.Views.{plain_program}
use Rattle.p10_cert.specs.Claims.{claims_of}
use Rattle.p10_verify_command.proofs.Weighing.{claims_tried}
use Rattle.p10_verify_command.proofs.decide.try_claims.Goals as goal

pub returns : goal.returns
returns c = λ digests bytes accepted. claims_tried (plain_program c.args.program.now) digests bytes (claims_of c.args.claims.now) c.in_ok-said.said c.cleaned.result accepted c.in_ok-said.ensures c.cleaned.ensures
